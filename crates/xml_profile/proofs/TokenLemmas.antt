-- Reading one token.
use Rattle.std.proofs.Common.{◌≡◌, ℕ, zero, suc, pred, ◌+◌, ◌≤◌, ◌==◌, Bool, true, false, nat_le, List, [], ◌∷◌, length, drop, sym, ap, ◌∙◌, subst, arith}
use Rattle.std.proofs.Common.{Option, Some, None, if◌then◌else◌}
use Rattle.std.proofs.lemmas.Bool.Decides.{nat_tests}
use Rattle.xml_tokens.specs.declared.kind.XmlKind.{XmlKind}
use Rattle.xml_tokens.specs.declared.kind.XmlKind.TheVariants.{TooLong}
use Rattle.xml_tokens.specs.Markup.{Token}
use Rattle.xml_tokens.specs.Beginnings.{Beginning, good, bad, later, beginning, sure_length}
use Rattle.xml_tokens.proofs.BeginningLemmas.{Within}
use Rattle.xml_state.specs.declared.limits.Limits.{Limits}
use Rattle.xml_state.specs.States.{State, state_behind, events_of}
use Rattle.xml_state.specs.Admission.{fault_of}
use Rattle.xml_profile.specs.TokenByToken.{Read, telling, stops_at, fault_within, unfinished, read}
use Rattle.xml_profile.proofs.ReadCutLemmas.{turn, read-turn}
use Rattle.xml_profile.proofs.EndedLemmas.{begins-within, bracket-begins}

-- Behind bytes that belong to a token stands what follows them.
pub read-drop : (e : Bool) (limits : Limits) (s : State) (place k : ℕ) (bytes : List ℕ) → k ≤ length bytes →
    read e limits s place k bytes ≡ read e limits s (place + k) 0 (drop k bytes)
unfolding read
read-drop e limits s place zero bytes h = let same : place ≡ place + 0 = omega arith in ap (λ p. read e limits s p 0 bytes) same
read-drop e limits s place (suc k) [] h = absurd (omega arith)
read-drop e limits s place (suc k) (b ∷ bytes) h =
    let same : (place + 1) + k ≡ place + suc k = omega arith in
    read-drop e limits s (place + 1) k bytes (omega arith) ∙ ap (λ p. read e limits s p 0 (drop k bytes)) same

within-at : (k : ℕ) (x : Beginning) (token : Token) (n : ℕ) → x ≡ good token n → Within k x → (1 ≤ n) × (n ≤ k)
within-at k x token n is w = subst (Within k) is w

later-nil : (token : Token) (n : ℕ) → later ≡ good token n → ⊥
later-nil token n h = cc

-- A token lies within the bytes.
pub token-within : (s : State) (e : Bool) (bytes : List ℕ) (token : Token) (n : ℕ) → beginning s.position e bytes ≡ good token n → (1 ≤ n) × (n ≤ length bytes)
unfolding beginning
token-within s e [] token n is = absurd (later-nil token n is)
token-within s e (c ∷ a) token n is = within-at (suc (length a)) (beginning s.position e (c ∷ a)) token n is (begins-within s.position e c a)

-- a token, by whether it ends within the limit, and its fault
abbrev pub by_room : Bool → Limits → State → ℕ → Token → ℕ → List ℕ → Bool → Option XmlKind → Read
by_room e limits s place token n a t f = elim t [
  | false ↦ stops_at TooLong limits.bytes
  | true ↦ elim f [
    | (Some kind) ↦ stops_at kind place
    | None ↦ telling (events_of s token place) (read e limits (state_behind s token) (place + 1) (pred n) a)
  ]
]

read-begun : (e : Bool) (limits : Limits) (s : State) (place c : ℕ) (a : List ℕ) (token : Token) (n : ℕ) → beginning s.position e (c ∷ a) ≡ good token n
    → read e limits s place 0 (c ∷ a) ≡ by_room e limits s place token n a (nat_le (place + n) limits.bytes) (fault_of limits s token)
read-begun e limits s place c a token n is = read-turn e limits s place c a ∙ ap (turn e limits s place c a) is

pub read-good : (e : Bool) (limits : Limits) (s : State) (place : ℕ) (bytes : List ℕ) (token : Token) (n : ℕ) → beginning s.position e bytes ≡ good token n
    → nat_le (place + n) limits.bytes ≡ true → fault_of limits s token ≡ None
    → read e limits s place 0 bytes ≡ telling (events_of s token place) (read e limits (state_behind s token) (place + n) 0 (drop n bytes))
unfolding beginning
read-good e limits s place [] token n is room admitted = absurd (later-nil token n is)
read-good e limits s place (c ∷ a) token zero is room admitted = let w = token-within s e (c ∷ a) token zero is in absurd (omega (arith, w.0))
read-good e limits s place (c ∷ a) token (suc k) is room admitted =
    let w : (1 ≤ suc k) × (suc k ≤ length (c ∷ a)) = token-within s e (c ∷ a) token (suc k) is in
    let fits : k ≤ length a = omega (arith, w.1) in
    let same : (place + 1) + k ≡ place + suc k = omega arith in
    read-begun e limits s place c a token (suc k) is
    ∙ ap (λ t. by_room e limits s place token (suc k) a t (fault_of limits s token)) room
    ∙ ap (by_room e limits s place token (suc k) a true) admitted
    ∙ ap (telling (events_of s token place)) (read-drop e limits (state_behind s token) (place + 1) k a fits ∙
    ap (λ p. read e limits (state_behind s token) p 0 (drop k a)) same)

pub read-refused : (e : Bool) (limits : Limits) (s : State) (place : ℕ) (bytes : List ℕ) (token : Token) (n : ℕ) (kind : XmlKind) →
    beginning s.position e bytes ≡ good token n
    → nat_le (place + n) limits.bytes ≡ true → fault_of limits s token ≡ Some kind → read e limits s place 0 bytes ≡ stops_at kind place
unfolding beginning
read-refused e limits s place [] token n kind is room refused = absurd (later-nil token n is)
read-refused e limits s place (c ∷ a) token n kind is room refused =
    read-begun e limits s place c a token n is
    ∙ ap (λ t. by_room e limits s place token n a t (fault_of limits s token)) room
    ∙ ap (by_room e limits s place token n a true) refused

pub read-beyond : (e : Bool) (limits : Limits) (s : State) (place : ℕ) (bytes : List ℕ) (token : Token) (n : ℕ) → beginning s.position e bytes ≡ good token n
    → nat_le (place + n) limits.bytes ≡ false → read e limits s place 0 bytes ≡ stops_at TooLong limits.bytes
unfolding beginning
read-beyond e limits s place [] token n is room = absurd (later-nil token n is)
read-beyond e limits s place (c ∷ a) token n is room =
    read-begun e limits s place c a token n is ∙ ap (λ t. by_room e limits s place token n a t (fault_of limits s token)) room

bad-nil : (kind : XmlKind) (n : ℕ) → later ≡ bad kind n → ⊥
bad-nil kind n h = cc

pub read-bad : (e : Bool) (limits : Limits) (s : State) (place : ℕ) (bytes : List ℕ) (kind : XmlKind) (n : ℕ) → beginning s.position e bytes ≡ bad kind n
    → read e limits s place 0 bytes ≡ fault_within limits (place + n) kind place
unfolding beginning
read-bad e limits s place [] kind n is = absurd (bad-nil kind n is)
read-bad e limits s place (c ∷ a) kind n is = read-turn e limits s place c a ∙ ap (turn e limits s place c a) is

pub read-later : (e : Bool) (limits : Limits) (s : State) (place c : ℕ) (a : List ℕ) → beginning s.position e (c ∷ a) ≡ later
    → read e limits s place 0 (c ∷ a) ≡ unfinished limits s place c a
read-later e limits s place c a is = read-turn e limits s place c a ∙ ap (turn e limits s place c a) is

-- What isn't whole where the input has ended ends within the limit.
pub later-within : (e : Bool) (limits : Limits) (s : State) (place c : ℕ) (a : List ℕ) → beginning s.position e (c ∷ a) ≡ later →
    nat_le (place + sure_length c a) limits.bytes ≡ true
    → e ≡ true → place + length (c ∷ a) ≤ limits.bytes
later-within false limits s place c a is room ends = cc
later-within true limits s place c a is room ends =
    let test : (c == 0x5D) ≡ false = bracket-begins s.position c a is in
    let all : nat_le (place + (1 + length a)) limits.bytes ≡ true = ap (λ t. nat_le (place + (if t then 1 else 1 + length a)) limits.bytes) (sym test) ∙ room in
    let fits : place + (1 + length a) ≤ limits.bytes = grind (arith, nat_tests) in
    omega (arith, fits)
