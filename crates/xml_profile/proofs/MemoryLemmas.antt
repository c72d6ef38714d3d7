-- No bytes have want of memory as their fault.
use Rattle.std.proofs.Common.{◌≡◌, ◌≢◌, ℕ, zero, suc, pred, ◌+◌, ◌&&◌, ◌==◌, not, nat_le, nat_lt, Bool, true, false, List, [], ◌∷◌, length, refl, sym, ap, ◌∙◌}
use Rattle.std.proofs.Common.{Option, Some, None, if◌then◌else◌}
use Rattle.std.proofs.lemmas.Bool.{true≢false}
use Rattle.std.proofs.lemmas.Option.{none-some}
use Rattle.inv_base.specs.Characters.{is_white_space}
use Rattle.xml_tokens.specs.Faults.{Cause, first_cause}
use Rattle.xml_tokens.specs.Markup.{Token, a_mark, an_aside, a_character, a_reference, a_section, a_start_tag, an_end_tag}
use Rattle.xml_tokens.specs.Beginnings.{Beginning, good, bad, later, beginning, sure_length}
use Rattle.xml_tokens.specs.declared.kind.XmlKind.{XmlKind}
use Rattle.xml_tokens.specs.declared.kind.XmlKind.TheVariants.{TextOutside, TooManyNodes, TooLong, Truncated, NoRoot}
use Rattle.xml_tokens.proofs.KindLemmas.{is_of_text, OfText, beginning-of-text}
use Rattle.xml_state.specs.Admission.{text_fault, is_text_too_many, start_tag_causes, end_tag_causes, fault_of}
use Rattle.xml_state.specs.Faults.{fault_at}
use Rattle.xml_state.specs.States.{State, begin, is_outside, state_behind}
use Rattle.xml_state.specs.declared.fault.TheConstants.XmlFault.{WANT_OF_MEMORY}
use Rattle.xml_state.specs.declared.fault.XmlFault.{XmlFault}
use Rattle.xml_state.specs.declared.limits.Limits.{Limits}
use Rattle.xml_profile.specs.TokenByToken.{Standing, waits, stopped, stops_at, read, resume, read_front, read_whole}
use Rattle.xml_profile.specs.Profile.{settled_of, fault_of_whole, settled_fault, first_fault}
use Rattle.xml_profile.proofs.ReadCutLemmas.{turn}
use Rattle.xml_profile.proofs.TokenLemmas.{by_room}

-- the kind that an option has is of the text
abbrev KindOfText : Option XmlKind → Type 0
KindOfText None = Unit {0}
KindOfText (Some kind) = is_of_text kind ≡ true

-- tokens that may not stand where they stand
abbrev AllOfText : List Cause → Type 0
AllOfText [] = Unit {0}
AllOfText (cause ∷ causes) = (is_of_text cause.kind ≡ true) × AllOfText causes

first-of-text : (causes : List Cause) → AllOfText causes → KindOfText (first_cause causes)
first-of-text [] all = tt
first-of-text (cause ∷ causes) all = by cause.holds (first-of-text causes all.1)
  where
    by : (t : Bool) → KindOfText (first_cause causes) → KindOfText (if t then Some cause.kind else first_cause causes)
    by true rest = all.0
    by false rest = rest

text-of-text : (limits : Limits) (s : State) (may_be_outside : Bool) → KindOfText (text_fault limits s may_be_outside)
text-of-text limits s may_be_outside = by (is_outside s) may_be_outside (is_text_too_many limits s)
  where
    by : (t u v : Bool) → KindOfText (if t then (if u then None else Some TextOutside) else (if v then Some TooManyNodes else None))
    by true true v = tt
    by true false v = refl
    by false u true = refl
    by false u false = tt

token-of-text : (limits : Limits) (s : State) (token : Token) → KindOfText (fault_of limits s token)
unfolding fault_of
token-of-text limits s a_mark = tt
token-of-text limits s an_aside = tt
token-of-text limits s (a_character c) = text-of-text limits s (is_white_space c)
token-of-text limits s (a_reference c) = text-of-text limits s false
token-of-text limits s (a_section text) = by (length text == 0 && not (is_outside s)) (text_fault limits s false) (text-of-text limits s false)
  where
    by : (t : Bool) (x : Option XmlKind) → KindOfText x → KindOfText (if t then None else x)
    by true x h = tt
    by false x h = h
token-of-text limits s (a_start_tag tag) = first-of-text (start_tag_causes limits s tag)
    (refl, (refl, (refl, (refl, (refl, (refl, (refl, (refl, (refl, tt)))))))))
token-of-text limits s (an_end_tag name) = first-of-text (end_tag_causes limits s name) (refl, (refl, tt))

-- where reading stands
abbrev StandsOfText : Standing → Type 0
StandsOfText (waits s place rest) = Unit {0}
StandsOfText (stopped fault) = is_of_text fault.kind ≡ true

read-of-text : (e : Bool) (limits : Limits) (s : State) (place skip : ℕ) (bytes : List ℕ) → StandsOfText (read e limits s place skip bytes).stands
unfolding read
read-of-text e limits s place zero [] = tt
read-of-text e limits s place (suc skip) [] = tt
read-of-text e limits s place (suc skip) (b ∷ bytes) = read-of-text e limits s (place + 1) skip bytes
read-of-text e limits s place zero (b ∷ bytes) = by (beginning s.position e (b ∷ bytes)) (beginning-of-text s.position e (b ∷ bytes))
    (λ s' p k. read-of-text e limits s' p k bytes)
  where
    by : (x : Beginning) → OfText x → ((s' : State) (p k : ℕ) → StandsOfText (read e limits s' p k bytes).stands) →
        StandsOfText (turn e limits s place b bytes x).stands
    by later told rest = at (nat_le (place + sure_length b bytes) limits.bytes)
      where
        at : (t : Bool) → StandsOfText (if t then record { events = []; stands = waits s place (b ∷ bytes) } else stops_at TooLong limits.bytes).stands
        at true = tt
        at false = refl
    by (bad kind n) told rest = at (nat_le (place + n) limits.bytes)
      where
        at : (t : Bool) → StandsOfText (if t then stops_at kind place else stops_at TooLong limits.bytes).stands
        at true = told
        at false = refl
    by (good token n) told rest = at (nat_le (place + n) limits.bytes) (fault_of limits s token) (token-of-text limits s token)
      where
        at : (t : Bool) (f : Option XmlKind) → KindOfText f → StandsOfText (by_room e limits s place token n bytes t f).stands
        at false f h = refl
        at true (Some kind) h = h
        at true None h = rest (state_behind s token) (place + 1) (pred n)

-- faults
abbrev FaultOfText : Option XmlFault → Type 0
FaultOfText None = Unit {0}
FaultOfText (Some fault) = is_of_text fault.kind ≡ true

settled-of-text : (x : Standing) → StandsOfText x → FaultOfText (settled_of x)
settled-of-text (waits s place rest) h = tt
settled-of-text (stopped fault) h = h

whole-of-text : (x : Standing) → StandsOfText x → FaultOfText (fault_of_whole x)
whole-of-text (waits s place rest) h = by (nat_lt 0 (length rest)) (is_outside s) s.root_seen
  where
    by : (t u v : Bool) → FaultOfText (if t then Some (fault_at Truncated (place + length rest)) else
        (if u then (if v then None else Some (fault_at NoRoot place)) else Some (fault_at Truncated place)))
    by true u v = refl
    by false true true = tt
    by false true false = refl
    by false false v = refl
whole-of-text (stopped fault) h = h

no-memory : (x : Option XmlFault) (fault : XmlFault) → FaultOfText x → x ≡ Some fault → fault ≢ WANT_OF_MEMORY
no-memory None fault told is = absurd (none-some fault is)
no-memory (Some f) fault told is =
    let same : f ≡ fault = cc in
    λ memory. true≢false (sym told ∙ ap (λ (g : XmlFault). is_of_text g.kind) (same ∙ memory))

pub settled-no-memory : (limits : Limits) (bytes : List ℕ) (fault : XmlFault) → settled_fault limits bytes ≡ Some fault → fault ≢ WANT_OF_MEMORY
unfolding settled_fault resume
settled-no-memory limits bytes fault is = no-memory (settled_fault limits bytes) fault
    (settled-of-text (read_front limits bytes).stands (read-of-text false limits begin 0 0 bytes)) is

pub first-no-memory : (limits : Limits) (bytes : List ℕ) (fault : XmlFault) → first_fault limits bytes ≡ Some fault → fault ≢ WANT_OF_MEMORY
unfolding first_fault resume
first-no-memory limits bytes fault is = no-memory (first_fault limits bytes) fault
    (whole-of-text (read_whole limits bytes).stands (read-of-text true limits begin 0 0 bytes)) is
