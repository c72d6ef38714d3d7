-- White space outside the root, read as a run.
use Rattle.std.proofs.Common.{◌≡◌, ℕ, zero, suc, ◌+◌, ◌-◌, ◌<◌, ◌≤◌, Bool, true, nat_le, List, [], ◌∷◌, ◌++◌, length, take, drop, get_or, refl, sym, ap, ◌∙◌}
use Rattle.std.proofs.Common.{arith, Some, None, if◌then◌else◌}
use Rattle.std.specs.Char.{encode_utf8}
use Rattle.std.proofs.lemmas.Bool.Decides.{nat_tests}
use Rattle.std.proofs.lemmas.List.{take-append-drop, length-drop, length-append, get_or_append_left}
use Rattle.std.proofs.lemmas.Str.{encode_ascii}
use Rattle.inv_base.specs.Characters.{is_char, is_white_space}
use Rattle.xml_tokens.specs.declared.kind.XmlKind.TheVariants.{TextOutside, TooManyNodes}
use Rattle.xml_tokens.specs.Markup.{a_character}
use Rattle.xml_tokens.specs.Beginnings.{beginning, good}
use Rattle.xml_tokens.specs.declared.beginning.Position.TheVariants.{Farther}
use Rattle.xml_tokens.specs.Runs.{is_plain}
use Rattle.xml_tokens.specs.Searching.{fresh}
use Rattle.xml_tokens.proofs.SearchingLemmas.{fresh-fits}
use Rattle.xml_tokens.proofs.RunLemmas.{plain-begins}
use Rattle.xml_events.specs.Events.{Event, has_text}
use Rattle.xml_state.specs.declared.limits.Limits.{Limits}
use Rattle.xml_state.specs.States.{State, is_outside, behind_aside, state_behind, events_of}
use Rattle.xml_state.specs.Admission.{is_text_too_many, fault_of}
use Rattle.xml_profile.specs.TokenByToken.{telling, read}
use Rattle.xml_profile.specs.Courses.{is_blank, GoesOn}
use Rattle.xml_profile.specs.declared.cursor.Cursor.{Cursor}
use Rattle.xml_profile.proofs.TokenLemmas.{read-good}

-- So many bytes at the front are blank.
abbrev pub AreBlank : ℕ → List ℕ → Type 0
AreBlank n bytes = (k : ℕ) → k < n → is_blank (get_or bytes k 0) ≡ true

blank-ascii : (b : ℕ) → is_blank b ≡ true → b < 128
blank-ascii b h = grind (arith, nat_tests)

blank-plain : (b : ℕ) → is_blank b ≡ true → is_plain b ≡ true
unfolding is_char
blank-plain b h = grind (arith, nat_tests)

blank-white : (b : ℕ) → is_blank b ≡ true → is_white_space b ≡ true
unfolding is_white_space
blank-white b h = grind (arith, nat_tests)

-- A place between tokens outside the root.
record Between (s : State) : Type 0 where
  pub position : s.position ≡ Farther
  pub outside : is_outside s ≡ true

white-admitted : (limits : Limits) (s : State) (b : ℕ) → is_outside s ≡ true → is_white_space b ≡ true → fault_of limits s (a_character b) ≡ None
unfolding fault_of
white-admitted limits s b outside white =
    ap (λ t. if t then (if is_white_space b then None else Some TextOutside) else (if is_text_too_many limits s then Some TooManyNodes else None)) outside
    ∙ ap (λ t. if t then None else Some TextOutside) white

white-told : (s : State) (b place : ℕ) → is_outside s ≡ true → events_of s (a_character b) place ≡ []
unfolding events_of
white-told s b place outside = ap (λ t. if t then [] else has_text (b ∷ []) place ∷ []) outside

aside-stays : (s : State) → s.position ≡ Farther → behind_aside s ≡ s
aside-stays s position = ap (λ p. record s { position = p }) (sym position)

white-behind : (s : State) (b : ℕ) → Between s → state_behind s (a_character b) ≡ s
unfolding state_behind
white-behind s b at = ap (λ t. if t then behind_aside s else record s {
  position = Farther;
  in_text = true;
  nodes =
      if s.in_text then s.nodes else s.nodes + 1;
}) at.outside ∙ aside-stays s at.position

module _ (e : Bool) (limits : Limits) (s : State) (at : Between s) where
  one : (b : ℕ) (bytes : List ℕ) (place : ℕ) → is_blank b ≡ true → place + 1 ≤ limits.bytes →
      read e limits s place 0 (b ∷ bytes) ≡ read e limits s (place + 1) 0 bytes
  one b bytes place blank within =
      let ascii : encode_utf8 b ≡ b ∷ [] = encode_ascii b (blank-ascii b blank) in
      let begun : beginning s.position e (b ∷ bytes) ≡ good (a_character b) 1 =
      ap (λ p. beginning p e (b ∷ bytes)) at.position ∙ ap (λ x. beginning Farther e (x ++ bytes)) (sym ascii)
      ∙ plain-begins Farther e b bytes refl (blank-plain b blank) ∙ ap (λ (x : List ℕ). good (a_character b) (length x)) ascii in
      let room : nat_le (place + 1) limits.bytes ≡ true = grind (arith, nat_tests) in
      read-good e limits s place (b ∷ bytes) (a_character b) 1 begun room (white-admitted limits s b at.outside (blank-white b blank))
      ∙ ap (λ events. telling events (read e limits (state_behind s (a_character b)) (place + 1) 0 bytes)) (white-told s b place at.outside)
      ∙ ap (λ s'. read e limits s' (place + 1) 0 bytes) (white-behind s b at)

  read-blank : (n : ℕ) (bytes : List ℕ) (place : ℕ) → AreBlank n bytes → n ≤ length bytes → place + n ≤ limits.bytes →
      read e limits s place 0 bytes ≡ read e limits s (place + n) 0 (drop n bytes)
  read-blank zero bytes place blank fits within = let same : place ≡ place + 0 = omega arith in ap (λ p. read e limits s p 0 bytes) same
  read-blank (suc n) [] place blank fits within = absurd (omega arith)
  read-blank (suc n) (b ∷ bytes) place blank fits within =
      let same : (place + 1) + n ≡ place + suc n = omega arith in
      one b bytes place (blank 0 (omega arith)) (omega arith)
      ∙ read-blank n bytes (place + 1) (λ k h. blank (suc k) (omega arith)) (omega arith) (omega arith)
      ∙ ap (λ p. read e limits s p 0 (drop n bytes)) same

front-blank : (n : ℕ) (bytes within : List ℕ) → bytes ≡ within ++ drop (length within) bytes → n ≤ length within → AreBlank n within → AreBlank n bytes
front-blank n bytes within parts fits blank k h =
    ap is_blank (ap (λ l. get_or l k 0) parts ∙ get_or_append_left within (drop (length within) bytes) 0 k (omega arith)) ∙ blank k h

-- White space was passed over.
pub blank-passed : (e : Bool) (limits : Limits) (old : Cursor) (bytes within : List ℕ) (taken : List Event
    → Type 0) (n : ℕ) (open_elements : State) (rest : List ℕ)
    → old.open_elements.position ≡ Farther → is_outside old.open_elements ≡ true → old.place ≤ limits.bytes → bytes ≡ within ++ drop (length within) bytes →
    length within ≤ limits.bytes - old.place
    → 0 < n → n ≤ length within → AreBlank n within → open_elements ≡ behind_aside old.open_elements → rest ≡ drop n bytes
    → (length rest < length bytes) × GoesOn e limits old (record { open_elements = open_elements; place = old.place + n; search = fresh }) bytes rest taken
    taken
blank-passed e limits old bytes within taken n open_elements rest position outside sound parts room some fits blank passed behind =
    let lengths : length bytes ≡ length within + length (drop (length within) bytes) = ap length parts ∙ length-append within (drop (length within) bytes) in
    let len : length rest ≡ length bytes - n = ap length behind ∙ length-drop n bytes in
    let stays : open_elements ≡ old.open_elements = passed ∙ aside-stays old.open_elements position in
    let ends : old.place + n ≤ limits.bytes = omega (arith, room, fits) in (
      omega (arith, len, lengths, fits),
      record {
        events = [];
        passed = take n bytes;
        parts = sym (take-append-drop n bytes) ∙ ap (λ r. take n bytes ++ r) (sym behind);
        is = read-blank e limits old.open_elements (record { position = position; outside = outside }) n bytes old.place (front-blank n bytes within parts
            fits blank)
            (omega (arith, lengths, fits)) ends
            ∙ ap (λ s. read e limits s (old.place + n) 0 (drop n bytes)) (sym stays)
            ∙ ap (λ r. read e limits open_elements (old.place + n) 0 r) (sym behind);
        told = λ events t. t;
        at = record { within = ends; fits = fresh-fits rest };
      },
    )
