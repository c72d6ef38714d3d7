-- Characters that are tokens one by one, read as a run.
use Rattle.std.proofs.Common.{◌≡◌, ℕ, ◌+◌, ◌-◌, ◌<◌, ◌≤◌, Bool, true, false, nat_le, List, [], ◌∷◌, ◌++◌, length, drop, refl, sym, ap, ◌∙◌, subst, arith, Some}
use Rattle.std.proofs.Common.{None, if◌then◌else◌}
use Rattle.std.specs.List.{list_all}
use Rattle.std.specs.Char.{encode_utf8}
use Rattle.std.specs.Prelude.{encode_utf8_all}
use Rattle.std.specs.Str.{chars, IsUtf8}
use Rattle.std.proofs.lemmas.Bool.Decides.{nat_tests}
use Rattle.std.proofs.lemmas.List.{append_assoc, length-append, drop_at}
use Rattle.inv_base.proofs.TextLemmas.{both, encode-chars}
use Rattle.inv_base.specs.Characters.{is_white_space}
use Rattle.xml_tokens.specs.declared.kind.XmlKind.TheVariants.{TextOutside, TooManyNodes}
use Rattle.xml_tokens.specs.Markup.{a_character}
use Rattle.xml_tokens.specs.Beginnings.{beginning, good}
use Rattle.xml_tokens.specs.declared.beginning.Position.TheVariants.{Farther}
use Rattle.xml_tokens.specs.Runs.{is_plain}
use Rattle.xml_tokens.specs.Searching.{fresh}
use Rattle.xml_tokens.proofs.SearchingLemmas.{fresh-fits}
use Rattle.xml_state.specs.Faults.{fault_at}
use Rattle.xml_events.specs.Events.{Event, has_text}
use Rattle.xml_state.specs.declared.limits.Limits.{Limits}
use Rattle.xml_state.specs.States.{State, is_outside, behind_aside, behind_text, state_behind, events_of}
use Rattle.xml_state.specs.Admission.{is_text_too_many, fault_of}
use Rattle.xml_state.specs.Taking.{AdvancesText, RefusedText, text_of_memory, text_too_many}
use Rattle.xml_state.specs.declared.fault.XmlFault.{XmlFault}
use Rattle.xml_profile.specs.TokenByToken.{telling, read}
use Rattle.xml_profile.specs.Courses.{GoesOn, Breaks}
use Rattle.xml_profile.specs.declared.cursor.Cursor.{Cursor}
use Rattle.xml_tokens.proofs.RunLemmas.{plain-begins}
use Rattle.xml_profile.proofs.TokenLemmas.{read-good, read-refused}
use Rattle.xml_profile.proofs.EventLemmas.{run_events, run-told}
use Rattle.xml_profile.proofs.TurnLemmas.{breaks-at-once, breaks-at}

-- A text may go on or begin in the state.
record MayHaveText (limits : Limits) (s : State) : Type 0 where
  pub position : s.position ≡ Farther
  pub inside : is_outside s ≡ false
  pub room : is_text_too_many limits s ≡ false

text-admitted : (limits : Limits) (s : State) (c : ℕ) → MayHaveText limits s → fault_of limits s (a_character c) ≡ None
unfolding fault_of
text-admitted limits s c may =
    ap (λ t. if t then (if is_white_space c then None else Some TextOutside) else (if is_text_too_many limits s then Some TooManyNodes else None)) may.inside
    ∙ ap (λ t. if t then Some TooManyNodes else None) may.room

text-refused : (limits : Limits) (s : State) (c : ℕ) → is_outside s ≡ false → is_text_too_many limits s ≡ true →
    fault_of limits s (a_character c) ≡ Some TooManyNodes
unfolding fault_of
text-refused limits s c inside full =
    ap (λ t. if t then (if is_white_space c then None else Some TextOutside) else (if is_text_too_many limits s then Some TooManyNodes else None)) inside
    ∙ ap (λ t. if t then Some TooManyNodes else None) full

text-behind : (s : State) (c : ℕ) → state_behind s (a_character c) ≡ behind_text s
unfolding state_behind
text-behind s c = refl

text-told : (s : State) (c place : ℕ) → is_outside s ≡ false → events_of s (a_character c) place ≡ has_text (c ∷ []) place ∷ []
unfolding events_of
text-told s c place inside = ap (λ t. if t then [] else has_text (c ∷ []) place ∷ []) inside

-- the state behind a text inside an element
abbrev in_text : State → State
in_text s = record s { position = Farther; in_text = true; nodes = if s.in_text then s.nodes else s.nodes + 1 }

behind-inside : (s : State) → is_outside s ≡ false → behind_text s ≡ in_text s
behind-inside s inside = ap (λ t. if t then behind_aside s else in_text s) inside

in-text-may : (limits : Limits) (s : State) → is_outside s ≡ false → MayHaveText limits (in_text s)
in-text-may limits s inside = record { position = refl; inside = inside; room = refl }

in-text-stays : (s : State) → is_outside s ≡ false → behind_text (in_text s) ≡ in_text s
in-text-stays s inside = behind-inside (in_text s) inside

module _ (e : Bool) (limits : Limits) where
  one : (s : State) → MayHaveText limits s → (c place : ℕ) (rest : List ℕ) → is_plain c ≡ true → place + length (encode_utf8 c) ≤ limits.bytes
      → read e limits s place 0 (encode_utf8 c ++ rest) ≡ telling (has_text (c ∷ []) place ∷ [])
      (read e limits (behind_text s) (place + length (encode_utf8 c)) 0 rest)
  one s may c place rest plain within =
      let n = length (encode_utf8 c) in
      let begun : beginning s.position e (encode_utf8 c ++ rest) ≡ good (a_character c) n = ap (λ p. beginning p e (encode_utf8 c ++ rest)) may.position ∙
      plain-begins Farther e c rest refl plain in
      let room : nat_le (place + n) limits.bytes ≡ true = grind (arith, nat_tests) in
      read-good e limits s place (encode_utf8 c ++ rest) (a_character c) n begun room (text-admitted limits s c may)
      ∙ ap (λ events. telling events (read e limits (state_behind s (a_character c)) (place + n) 0 (drop n (encode_utf8 c ++ rest))))
      (text-told s c place may.inside)
      ∙ ap (λ s'. telling (has_text (c ∷ []) place ∷ []) (read e limits s' (place + n) 0 (drop n (encode_utf8 c ++ rest)))) (text-behind s c)
      ∙ ap (λ bytes. telling (has_text (c ∷ []) place ∷ []) (read e limits (behind_text s) (place + n) 0 bytes)) (drop_at (encode_utf8 c) rest n refl)

  -- further characters of a text
  more : (s : State) → MayHaveText limits s → behind_text s ≡ s → (text : List ℕ) (place : ℕ) (rest : List ℕ) → list_all is_plain text ≡ true →
      place + length (encode_utf8_all text) ≤ limits.bytes
      → read e limits s place 0 (encode_utf8_all text ++ rest) ≡ telling (run_events text place)
      (read e limits s (place + length (encode_utf8_all text)) 0 rest)
  more s may stays [] place rest plain within = let same : place ≡ place + 0 = omega arith in ap (λ p. read e limits s p 0 rest) same
  more s may stays (c ∷ text) place rest plain within =
      let n = length (encode_utf8 c) in
      let tests = both (is_plain c) (list_all is_plain text) plain in
      let parts : length (encode_utf8 c ++ encode_utf8_all text) ≡ n + length (encode_utf8_all text) = length-append (encode_utf8 c) (encode_utf8_all text) in
      let same : (place + n) + length (encode_utf8_all text) ≡ place + length (encode_utf8 c ++ encode_utf8_all text) = omega arith in
      let here : place + n ≤ limits.bytes = omega arith in
      let there : (place + n) + length (encode_utf8_all text) ≤ limits.bytes = omega arith in
      ap (read e limits s place 0) (append_assoc (encode_utf8 c) (encode_utf8_all text) rest)
      ∙ one s may c place (encode_utf8_all text ++ rest) tests.0 here
      ∙ ap (λ s'. telling (has_text (c ∷ []) place ∷ []) (read e limits s' (place + n) 0 (encode_utf8_all text ++ rest))) stays
      ∙ ap (telling (has_text (c ∷ []) place ∷ [])) (more s may stays text (place + n) rest tests.1 there
      ∙ ap (λ p. telling (run_events text (place + n)) (read e limits s p 0 rest)) same)

  read-run : (s : State) → MayHaveText limits s → (c : ℕ) (text : List ℕ) (place : ℕ) (rest : List ℕ) → list_all is_plain (c ∷ text) ≡ true →
      place + length (encode_utf8_all (c ∷ text)) ≤ limits.bytes
      → read e limits s place 0 (encode_utf8_all (c ∷ text) ++ rest) ≡ telling (run_events (c ∷ text) place)
      (read e limits (behind_text s) (place + length (encode_utf8_all (c ∷ text))) 0 rest)
  read-run s may c text place rest plain within =
      let n = length (encode_utf8 c) in
      let tests = both (is_plain c) (list_all is_plain text) plain in
      let parts : length (encode_utf8 c ++ encode_utf8_all text) ≡ n + length (encode_utf8_all text) = length-append (encode_utf8 c) (encode_utf8_all text) in
      let same : (place + n) + length (encode_utf8_all text) ≡ place + length (encode_utf8 c ++ encode_utf8_all text) = omega arith in
      let here : place + n ≤ limits.bytes = omega arith in
      let there : (place + n) + length (encode_utf8_all text) ≤ limits.bytes = omega arith in
      let behind = behind-inside s may.inside in
      ap (read e limits s place 0) (append_assoc (encode_utf8 c) (encode_utf8_all text) rest)
      ∙ one s may c place (encode_utf8_all text ++ rest) tests.0 here
      ∙ ap (λ s'. telling (has_text (c ∷ []) place ∷ []) (read e limits s' (place + n) 0 (encode_utf8_all text ++ rest))) behind
      ∙ ap (telling (has_text (c ∷ []) place ∷ [])) (more (in_text s) (in-text-may limits s may.inside) (in-text-stays s may.inside) text
      (place + n) rest tests.1 there
      ∙ ap (λ p. telling (run_events text (place + n)) (read e limits (in_text s) p 0 rest)) same)
      ∙ ap (λ s'. telling (run_events (c ∷ text) place) (read e limits s' (place + length (encode_utf8_all (c ∷ text))) 0 rest)) (sym behind)

-- a front of a front
front-of-front : (bytes within text : List ℕ) → bytes ≡ within ++ drop (length within) bytes → within ≡ text ++ drop (length text) within → bytes ≡ text ++
    drop (length text) bytes
front-of-front bytes within text outer inner =
    let rest = drop (length text) within ++ drop (length within) bytes in
    let parts : bytes ≡ text ++ rest = outer ∙ ap (λ w. w ++ drop (length within) bytes) inner ∙
    append_assoc text (drop (length text) within) (drop (length within) bytes) in
    let behind : drop (length text) bytes ≡ rest = ap (drop (length text)) parts ∙ drop_at text rest (length text) refl in
    parts ∙ ap (λ r. text ++ r) (sym behind)

-- What a run of characters is: a text of them within the limit at the front of the bytes.
pub record IsRun (limits : Limits) (place : ℕ) (bytes text : List ℕ) : Type 0 where
  pub utf8 : IsUtf8 text
  pub some : 0 < length text
  pub plain : list_all is_plain (chars text) ≡ true
  pub parts : bytes ≡ text ++ drop (length text) bytes
  pub within : place + length text ≤ limits.bytes

pub run-at : (limits : Limits) (place : ℕ) (bytes within text : List ℕ) → IsUtf8 text → 0 < length text → list_all is_plain (chars text) ≡ true
    → bytes ≡ within ++ drop (length within) bytes → length within ≤ limits.bytes - place → within ≡ text ++ drop (length text) within → place ≤ limits.bytes →
    IsRun limits place bytes text
run-at limits place bytes within text utf8 some plain outer room inner fits =
    let lengths : length within ≡ length text + length (drop (length text) within) = ap length inner ∙ length-append text (drop (length text) within) in
    record { utf8 = utf8; some = some; plain = plain; parts = front-of-front bytes within text outer inner; within = omega (arith, lengths) }

module _ (e : Bool) (limits : Limits) (old : Cursor) (bytes : List ℕ) (before after : List Event → Type 0) where
  text-taken : (open_elements : State) (rest text characters : List ℕ) → old.open_elements.position ≡ Farther → is_outside old.open_elements ≡ false
      → encode_utf8_all characters ≡ text
      → list_all is_plain characters ≡ true → 0 < length text → bytes ≡ text ++ rest → old.place + length text ≤ limits.bytes
      → AdvancesText limits old.open_elements open_elements characters old.place before after
      → (length rest < length bytes) × GoesOn e limits old (record { open_elements = open_elements; place = old.place + length text; search = fresh }) bytes
      rest before after
  text-taken open_elements rest text [] position inside spells plain some parts within advances =
      let none : 0 ≡ length text = ap length spells in absurd (omega arith)
  text-taken open_elements rest text (c ∷ characters) position inside spells plain some parts within advances =
      let lengths : length bytes ≡ length text + length rest = ap length parts ∙ length-append text rest in
      let whole = c ∷ characters in
      let fits : old.place + length (encode_utf8_all whole) ≤ limits.bytes = omega (arith, within, ap length spells) in (
        omega (arith, lengths),
        record {
          events = run_events whole old.place;
          passed = text;
          parts = parts;
          is = ap (read e limits old.open_elements old.place 0) (parts ∙ ap (λ t. t ++ rest) (sym spells))
              ∙ read-run e limits old.open_elements (record { position = position; inside = inside; room = advances.admitted }) c characters old.place rest
              plain fits
              ∙ ap (λ s. telling (run_events whole old.place) (read e limits s (old.place + length (encode_utf8_all whole)) 0 rest)) (sym advances.behind)
              ∙ ap (λ t. telling (run_events whole old.place) (read e limits open_elements (old.place + length t) 0 rest)) spells;
          told = λ events taken. subst after (sym (run-told events c characters old.place)) (advances.told events taken);
          at = record { within = within; fits = fresh-fits rest };
        },
      )

  -- A run of characters was taken.
  pub run-taken : (open_elements : State) (rest text : List ℕ) → old.open_elements.position ≡ Farther → is_outside old.open_elements ≡ false
      → IsRun limits old.place bytes text
      → AdvancesText limits old.open_elements open_elements (chars text) old.place before after → rest ≡ drop (length text) bytes
      → (length rest < length bytes) × GoesOn e limits old (record { open_elements = open_elements; place = old.place + length text; search = fresh }) bytes
      rest before after
  run-taken open_elements rest text position inside run advances behind =
      text-taken open_elements rest text (chars text) position inside (encode-chars text run.utf8) run.plain run.some
      (run.parts ∙ ap (λ r. text ++ r) (sym behind)) run.within advances

  text-refused-at : (rest text characters : List ℕ) (fault : XmlFault) → old.open_elements.position ≡ Farther → is_outside old.open_elements ≡ false →
      encode_utf8_all characters ≡ text
      → list_all is_plain characters ≡ true → 0 < length text → bytes ≡ text ++ rest → old.place + length text ≤ limits.bytes
      → RefusedText limits old.open_elements old.place before after fault → Breaks e limits old bytes before after fault
  text-refused-at rest text characters fault position inside spells plain some parts within (text_of_memory told) =
      breaks-at-once e limits old bytes before after told
  text-refused-at rest text [] fault position inside spells plain some parts within (text_too_many full told) =
      let none : 0 ≡ length text = ap length spells in absurd (omega arith)
  text-refused-at rest text (c ∷ characters) fault position inside spells plain some parts within (text_too_many full told) =
      let n = length (encode_utf8 c) in
      let tests = both (is_plain c) (list_all is_plain characters) plain in
      let lengths : length (encode_utf8 c ++ encode_utf8_all characters) ≡ n + length (encode_utf8_all characters) =
      length-append (encode_utf8 c) (encode_utf8_all characters) in
      let whole : length (encode_utf8 c ++ encode_utf8_all characters) ≡ length text = ap length spells in
      let fits : old.place + n ≤ limits.bytes = omega (arith, within) in
      let room : nat_le (old.place + n) limits.bytes ≡ true = grind (arith, nat_tests) in
      let here : bytes ≡ encode_utf8 c ++ (encode_utf8_all characters ++ rest) =
      parts ∙ ap (λ t. t ++ rest) (sym spells) ∙ append_assoc (encode_utf8 c) (encode_utf8_all characters) rest in
      let begun : beginning old.open_elements.position e bytes ≡ good (a_character c) n =
      ap (beginning old.open_elements.position e) here ∙ ap (λ p. beginning p e (encode_utf8 c ++ (encode_utf8_all characters ++ rest))) position
      ∙ plain-begins Farther e c (encode_utf8_all characters ++ rest) refl tests.0 in
      breaks-at e limits old bytes before after (fault_at TooManyNodes old.place)
      (read-refused e limits old.open_elements old.place bytes (a_character c) n TooManyNodes begun room (text-refused limits old.open_elements c inside
      full)) told

  -- A run of characters was refused.
  pub run-refused : (text : List ℕ) (fault : XmlFault) → old.open_elements.position ≡ Farther → is_outside old.open_elements ≡ false
      → IsRun limits old.place bytes text
      → RefusedText limits old.open_elements old.place before after fault → Breaks e limits old bytes before after fault
  run-refused text fault position inside run refused =
      text-refused-at (drop (length text) bytes) text (chars text) fault position inside
      (encode-chars text run.utf8) run.plain run.some run.parts run.within refused
