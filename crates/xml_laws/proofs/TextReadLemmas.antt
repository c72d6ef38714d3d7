-- A text that canonical text writes is read, character by character, as one text.
use Rattle.std.proofs.Common.{◌≡◌, ℕ, ◌+◌, ◌≤◌, Bool, true, false, not, ◌==◌, List, [], ◌∷◌, ◌++◌, length, refl, sym, ap, ◌∙◌, arith, subst, if◌then◌else◌}
use Rattle.std.proofs.Common.{encode_utf8_all}
use Rattle.std.specs.List.{flat_map}
use Rattle.std.proofs.lemmas.List.{length-append}
use Rattle.std.proofs.lemmas.Bool.Decides.{nat_tests}
use Rattle.std.proofs.lemmas.Str.{encodes-append}
use Rattle.inv_base.specs.Tree.{Name}
use Rattle.inv_base.proofs.TextLemmas.{both}
use Rattle.xml_tokens.specs.declared.beginning.Position.TheVariants.{Farther}
use Rattle.xml_state.specs.declared.limits.Limits.{Limits}
use Rattle.xml_events.specs.Events.{Event, starts, has_attribute, has_text, ends}
use Rattle.xml_state.specs.States.{Open, State, is_outside, state_behind, behind_text, text_events}
use Rattle.xml_state.specs.Admission.{is_text_too_many}
use Rattle.xml_profile.specs.TokenByToken.{telling, read}
use Rattle.xml_write.specs.Escapes.{in_text}
use Rattle.xml_laws.proofs.JoinLemmas.{before, joined_back}
use Rattle.xml_laws.proofs.RestLemmas.{begins_text, not_none}
use Rattle.xml_laws.proofs.EncodedLemmas.{are_chars}
use Rattle.xml_tokens.proofs.CharacterLemmas.{passed}
use Rattle.xml_laws.proofs.StepLemmas.{read-token}
use Rattle.xml_laws.proofs.TextTokenLemmas.{TextToken, text-token, text_bytes, text_bytes-cons, text-stops}

-- inside the root
abbrev pub inside : List Open → Bool → ℕ → List Name → State
inside open_elements in_text nodes names =
    record { position = Farther; open_elements = open_elements; root_seen = true; in_text = in_text; nodes = nodes; names = names }

-- a text before others, where it has a character
abbrev pub text_before : List ℕ → ℕ → List Event → List Event
text_before [] place events = events
text_before (c ∷ cs) place events = has_text (c ∷ cs) place ∷ events

-- Events that are the text once joined, before what is no text.
abbrev pub AreText : List ℕ → List Event → Type 0
AreText cs events = (more : List Event) → begins_text (joined_back more) ≡ false → (place : ℕ) ×
    (joined_back (events ++ more) ≡ text_before cs place (joined_back more))

before-other : (t : List ℕ) (place : ℕ) (events : List Event) → begins_text events ≡ false → before (has_text t place) events ≡ has_text t place ∷ events
before-other t place [] h = refl
before-other t place (starts n p ∷ events) h = refl
before-other t place (has_attribute n v ∷ events) h = refl
before-other t place (has_text u p ∷ events) h = cc
before-other t place (ends ∷ events) h = refl

no-text : AreText [] []
no-text more h = (0, refl)

one-more : (c : ℕ) (cs : List ℕ) (place : ℕ) (events : List Event) → AreText cs events → AreText (c ∷ cs) (has_text (c ∷ []) place ∷ events)
one-more c cs place events are more h = (place, by cs (are more h))
  where
    by : (cs : List ℕ) → ((p : ℕ) × (joined_back (events ++ more) ≡ text_before cs p (joined_back more))) →
        before (has_text (c ∷ []) place) (joined_back (events ++ more)) ≡ has_text (c ∷ cs) place ∷ joined_back more
    by [] e = ap (before (has_text (c ∷ []) place)) e.1 ∙ before-other (c ∷ []) place (joined_back more) h
    by (d ∷ cs) e = ap (before (has_text (c ∷ []) place)) e.1

-- What is read of a piece before a tag: the events, and the state behind it.
pub record ReadsPiece (limits : Limits) (s s' : State) (place : ℕ) (piece : List ℕ) (events : List Event) : Type 0 where
  pub is : (rest : List ℕ) → read true limits s place 0 (piece ++ (0x3C ∷ rest)) ≡ telling events (read true limits s' (place + length piece) 0 (0x3C ∷ rest))

pub reads-nothing : (limits : Limits) (s : State) (place : ℕ) → ReadsPiece limits s s place [] []
reads-nothing limits s place = record { is = λ rest. ap (λ p. read true limits s p 0 (0x3C ∷ rest)) (let e : place ≡ place + 0 = omega arith in e) }

-- the bytes of a text
abbrev pub bytes_of_text : List ℕ → List ℕ
bytes_of_text cs = encode_utf8_all (flat_map in_text cs)

module _ (limits : Limits) (o : Open) (outer : List Open) (names : List Name) where
  outside-not : (inner : Bool) (nodes : ℕ) → is_outside (inside (o ∷ outer) inner nodes names) ≡ false
  outside-not inner nodes = not_none (length outer)

  behind : (inner : Bool) (nodes : ℕ) → behind_text (inside (o ∷ outer) inner nodes names) ≡ inside (o ∷ outer) true (if inner then nodes else nodes + 1) names
  behind inner nodes = passed (is_outside (inside (o ∷ outer) inner nodes names)) _ _ (outside-not inner nodes)

  tells : (inner : Bool) (nodes : ℕ) (t : List ℕ) (place : ℕ) → text_events (inside (o ∷ outer) inner nodes names) t place ≡ has_text t place ∷ []
  tells inner nodes t place = passed (is_outside (inside (o ∷ outer) inner nodes names)) _ _ (outside-not inner nodes)

  few : (inner : Bool) (nodes : ℕ) → (if inner then nodes else nodes + 1) ≤ limits.nodes →
      is_text_too_many limits (inside (o ∷ outer) inner nodes names) ≡ false
  few true nodes h = refl
  few false nodes h = grind (arith, nat_tests)

  -- one character
  character-read : (inner : Bool) (nodes : ℕ) → (if inner then nodes else nodes + 1) ≤ limits.nodes → (c : ℕ) (place : ℕ) (r : List ℕ) (t : TextToken c r)
      → place + length (encode_utf8_all (in_text c)) ≤ limits.bytes
      → read true limits (inside (o ∷ outer) inner nodes names) place 0 (encode_utf8_all (in_text c) ++ r)
      ≡ telling (has_text (c ∷ []) place ∷ []) (read true limits (inside (o ∷ outer) true (if inner then nodes else nodes + 1) names)
      (place + length (encode_utf8_all (in_text c))) 0 r)
  character-read inner nodes h c place r t fits =
      let s = inside (o ∷ outer) inner nodes names in
      let piece = encode_utf8_all (in_text c) in
      let k = t.is_character in
      read-token limits s place piece r t.token t.reads t.some fits (k.fault limits s (outside-not inner nodes) (few inner nodes h))
      ∙ (ap (λ e. telling e (read true limits (state_behind s t.token) (place + length piece) 0 r)) (k.tells s place ∙ tells inner nodes (c ∷ []) place)
      ∙ ap (λ x. telling (has_text (c ∷ []) place ∷ []) (read true limits x (place + length piece) 0 r)) (k.behind s ∙ behind inner nodes))

  -- a character before the rest of a text
  length-cons : (c : ℕ) (cs : List ℕ) → length (bytes_of_text (c ∷ cs)) ≡ length (encode_utf8_all (in_text c)) + length (bytes_of_text cs)
  length-cons c cs = ap length (encodes-append (in_text c) (flat_map in_text cs)) ∙ length-append (encode_utf8_all (in_text c)) (bytes_of_text cs)

  first-then : (inner : Bool) (nodes after : ℕ) → (if inner then nodes else nodes + 1) ≡ after → after ≤ limits.nodes → (c : ℕ) (cs : List ℕ) (place : ℕ) →
      are_chars (c ∷ cs) ≡ true
      → place + length (bytes_of_text (c ∷ cs)) ≤ limits.bytes → (events : List Event)
      → ReadsPiece limits (inside (o ∷ outer) true after names) (inside (o ∷ outer) true after names) (place + length (encode_utf8_all (in_text c)))
      (bytes_of_text cs) events
      → ReadsPiece limits (inside (o ∷ outer) inner nodes names) (inside (o ∷ outer) true after names) place (bytes_of_text (c ∷ cs))
      (has_text (c ∷ []) place ∷ events)
  first-then inner nodes after e h c cs place chars fits events r = record { is = λ rest. is rest }
    where
      is : (rest : List ℕ) → read true limits (inside (o ∷ outer) inner nodes names) place 0 (bytes_of_text (c ∷ cs) ++ (0x3C ∷ rest))
          ≡ telling (has_text (c ∷ []) place ∷ events) (read true limits (inside (o ∷ outer) true after names) (place + length (bytes_of_text (c ∷ cs))) 0
          (0x3C ∷ rest))
      is rest =
          let l = length-cons c cs in
          let p = both _ _ chars in
          let t = text-token c (text_bytes cs rest) p.0 (text-stops cs rest p.1).bracket in
          let here : place + length (encode_utf8_all (in_text c)) ≤ limits.bytes = omega (arith, l) in
          let there : place + length (encode_utf8_all (in_text c)) + length (bytes_of_text cs) ≡ place + length (bytes_of_text (c ∷ cs)) = omega (arith, l) in
          ap (read true limits (inside (o ∷ outer) inner nodes names) place 0) (text_bytes-cons c cs rest)
          ∙ (character-read inner nodes (subst (λ n. n ≤ limits.nodes) (sym e) h) c place (text_bytes cs rest) t here
          ∙ (ap (λ n. telling (has_text (c ∷ []) place ∷ [])
          (read true limits (inside (o ∷ outer) true n names) (place + length (encode_utf8_all (in_text c))) 0 (text_bytes cs rest))) e
          ∙ (ap (telling (has_text (c ∷ []) place ∷ [])) (r.is rest)
          ∙ ap (λ p. telling (has_text (c ∷ []) place ∷ events) (read true limits (inside (o ∷ outer) true after names) p 0 (0x3C ∷ rest))) there)))

  fits-behind : (c : ℕ) (cs : List ℕ) (place : ℕ) → place + length (bytes_of_text (c ∷ cs)) ≤ limits.bytes →
      place + length (encode_utf8_all (in_text c)) + length (bytes_of_text cs) ≤ limits.bytes
  fits-behind c cs place fits = omega (arith, length-cons c cs)

  -- a text that goes on, and one that begins
  text-on : (nodes : ℕ) → nodes ≤ limits.nodes → (cs : List ℕ) (place : ℕ) → are_chars cs ≡ true → place + length (bytes_of_text cs) ≤ limits.bytes
      → (events : List Event) × AreText cs events × ReadsPiece limits (inside (o ∷ outer) true nodes names) (inside (o ∷ outer) true nodes names) place
      (bytes_of_text cs) events
  text-on nodes h [] place chars fits = ([], no-text, reads-nothing limits (inside (o ∷ outer) true nodes names) place)
  text-on nodes h (c ∷ cs) place chars fits =
      let r = text-on nodes h cs (place + length (encode_utf8_all (in_text c))) (both _ _ chars).1 (fits-behind c cs place fits) in
      (has_text (c ∷ []) place ∷ r.0, one-more c cs place r.0 r.1, first-then true nodes nodes refl h c cs place chars fits r.0 r.2)

  pub text-read : (nodes : ℕ) → nodes + 1 ≤ limits.nodes → (inner : Bool) (cs : List ℕ) (place : ℕ) → not (length cs == 0) ≡ true → are_chars cs ≡ true →
      place + length (bytes_of_text cs) ≤ limits.bytes
      → (events : List Event) × (after : ℕ) × (after ≤ nodes + 1) × AreText cs events ×
      ReadsPiece limits (inside (o ∷ outer) inner nodes names) (inside (o ∷ outer) true after names) place (bytes_of_text cs) events
  text-read nodes h inner [] place some chars fits = cc
  text-read nodes h inner (c ∷ cs) place some chars fits =
      let after = if inner then nodes else nodes + 1 in
      let few : after ≤ nodes + 1 = bound inner in
      let kept : after ≤ limits.nodes = omega arith in
      let r = text-on after kept cs (place + length (encode_utf8_all (in_text c))) (both _ _ chars).1 (fits-behind c cs place fits) in
      (has_text (c ∷ []) place ∷ r.0, after, few, one-more c cs place r.0 r.1, first-then inner nodes after refl kept c cs place chars fits r.0 r.2)
    where
      bound : (b : Bool) → (if b then nodes else nodes + 1) ≤ nodes + 1
      bound true = omega arith
      bound false = omega arith
