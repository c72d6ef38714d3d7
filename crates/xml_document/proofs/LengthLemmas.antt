-- What isn't refused yet is short: at most one byte behind the limit on bytes was read.
use Rattle.std.proofs.Common.{◌≡◌, ℕ, zero, suc, pred, ◌+◌, ◌≤◌, ◌==◌, Bool, true, false, ◌&&◌, nat_le, List, [], ◌∷◌, length, refl, ap, subst, ◌∙◌, arith}
use Rattle.std.proofs.Common.{Option, Some, None, if◌then◌else◌}
use Rattle.std.proofs.lemmas.Bool.Decides.{nat_tests}
use Rattle.xml_tokens.specs.declared.kind.XmlKind.{XmlKind}
use Rattle.xml_tokens.specs.declared.kind.XmlKind.TheVariants.{TooLong, BadMarkup}
use Rattle.xml_tokens.specs.declared.beginning.Position.{Position}
use Rattle.xml_tokens.specs.Markup.{Token}
use Rattle.xml_tokens.specs.Beginnings.{Beginning, good, bad, later, beginning, bracket_at, sure_length}
use Rattle.xml_state.specs.declared.limits.Limits.{Limits}
use Rattle.xml_state.specs.States.{State, begin, state_behind, events_of}
use Rattle.xml_state.specs.Admission.{fault_of}
use Rattle.xml_profile.specs.TokenByToken.{Standing, waits, stopped, Read, telling, stops_at, read, resume, read_front}
use Rattle.xml_profile.specs.Profile.{settled_of}
use Rattle.xml_profile.proofs.ReadCutLemmas.{turn}

-- how many bytes were read where reading stands
abbrev pub bytes_read : Standing → ℕ
bytes_read (waits s place rest) = place + length rest
bytes_read (stopped fault) = 0

-- Where reading stands is behind all the bytes, which are within the limit but for one, unless it is a fault.
abbrev pub IsShort : Limits → ℕ → Standing → Type 0
IsShort limits bytes standing = settled_of standing ≡ None → (bytes_read standing ≡ bytes) × (bytes ≤ limits.bytes + 1)

-- A `]` that is nothing yet has at most one byte behind it.
short_bracket : (bytes : List ℕ) → bracket_at false bytes ≡ later → length bytes ≤ 1
short_bracket [] is = omega arith
short_bracket (b ∷ []) is = omega arith
short_bracket (b ∷ (c ∷ bytes)) is = by (b == 0x5D) (c == 0x3E) is
  where
    by : (s t : Bool) → (elim (s && (t && true)) [
      | true ↦ bad BadMarkup 3
      | false ↦ elim (s && (t && false)) [ true ↦ later | false ↦ good (Rattle.xml_tokens.specs.Markup.a_character 0x5D) 1 ]
    ]) ≡ later
        → length (b ∷ (c ∷ bytes)) ≤ 1
    by true true is = cc
    by true false is = cc
    by false t is = cc

-- Nothing yet ends within the limit but for one byte, where what is sure of it does.
short_later : (position : Position) (place limit c : ℕ) (bytes : List ℕ) → beginning position false (c ∷ bytes) ≡ later → place + sure_length c bytes ≤ limit
    → place + length (c ∷ bytes) ≤ limit + 1
unfolding beginning
short_later position place limit c bytes is within = by (c == 0x5D) refl
  where
    by : (t : Bool) → (c == 0x5D) ≡ t → place + length (c ∷ bytes) ≤ limit + 1
    by false other = let sure : sure_length c bytes ≡ 1 + length bytes = ap (λ t. if t then 1 else 1 + length bytes) other in omega arith
    by true same =
        let sure : sure_length c bytes ≡ 1 = ap (λ t. if t then 1 else 1 + length bytes) same in
        let bracket : c ≡ 0x5D = grind (arith, nat_tests, same) in
        let few : length bytes ≤ 1 = short_bracket bytes (rw bracket at is) in
        omega arith

-- Reading goes on with what is short, behind one more byte.
abbrev GoesOnShort : Limits → ℕ → List ℕ → Type 0
GoesOnShort limits place bytes = (s : State) (skip : ℕ) → place + 1 + skip ≤ limits.bytes + 1 →
    IsShort limits (place + 1 + length bytes) (read false limits s (place + 1) skip bytes).stands

pub short_read : (limits : Limits) (s : State) (place skip : ℕ) (bytes : List ℕ) → place + skip ≤ limits.bytes + 1
    → IsShort limits (place + length bytes) (read false limits s place skip bytes).stands
unfolding read
short_read limits s place skip [] within = λ none. (refl, omega arith)
short_read limits s place (suc skip) (b ∷ bytes) within = λ none.
    let rest = short_read limits s (place + 1) skip bytes (omega arith) none in
    (rest.0 ∙ (omega arith), omega (arith, rest.1))
short_read limits s place zero (b ∷ bytes) within = by (λ s' skip h. short_read limits s' (place + 1) skip bytes h)
    (beginning s.position false (b ∷ bytes)) refl
  where
    unread : (t : Bool) → nat_le (place + sure_length b bytes) limits.bytes ≡ t → beginning s.position false (b ∷ bytes) ≡ later
        → IsShort limits (place + length (b ∷ bytes))
        (if t then record { events = []; stands = waits s place (b ∷ bytes) } else stops_at TooLong limits.bytes).stands
    unread true h is = λ none.
        let sure : place + sure_length b bytes ≤ limits.bytes = grind (arith, nat_tests, h) in
        (refl, short_later s.position place limits.bytes b bytes is sure)
    unread false h is = λ none. cc

    faulty : (t : Bool) (kind : XmlKind) → IsShort limits (place + length (b ∷ bytes)) (if t then stops_at kind place else stops_at TooLong limits.bytes).stands
    faulty true kind = λ none. cc
    faulty false kind = λ none. cc

    room : (n : ℕ) → place + n ≤ limits.bytes → place + 1 + pred n ≤ limits.bytes + 1
    room zero h = omega arith
    room (suc n) h = omega arith

    found : GoesOnShort limits place bytes → (t : Bool) (f : Option XmlKind) (token : Token) (n : ℕ) → nat_le (place + n) limits.bytes ≡ t
        → IsShort limits (place + length (b ∷ bytes)) (elim t as (λ x. Read) [
          | false ↦ stops_at TooLong limits.bytes
          | true ↦ elim f [
            | (Some kind) ↦ stops_at kind place
            | None ↦ telling (events_of s token place) (read false limits (state_behind s token) (place + 1) (pred n) bytes)
          ]
        ]).stands
    found rest false f token n h = λ none. cc
    found rest true (Some kind) token n h = λ none. cc
    found rest true None token n h = λ none.
        let within : place + n ≤ limits.bytes = grind (arith, nat_tests, h) in
        let behind = rest (state_behind s token) (pred n) (room n within) none in
        (behind.0 ∙ (omega arith), omega (arith, behind.1))

    by : GoesOnShort limits place bytes → (x : Beginning) → beginning s.position false (b ∷ bytes) ≡ x →
        IsShort limits (place + length (b ∷ bytes)) (turn false limits s place b bytes x).stands
    by rest later is = unread (nat_le (place + sure_length b bytes) limits.bytes) refl is
    by rest (bad kind n) is = faulty (nat_le (place + n) limits.bytes) kind
    by rest (good token n) is = found rest (nat_le (place + n) limits.bytes) (fault_of limits s token) token n refl

pub short_front : (limits : Limits) (bytes : List ℕ) → IsShort limits (length bytes) (read_front limits bytes).stands
unfolding resume
short_front limits bytes =
    let all : 0 + length bytes ≡ length bytes = omega arith in
    subst (λ n. IsShort limits n (read false limits begin 0 0 bytes).stands) all (short_read limits begin 0 0 bytes (omega arith))
