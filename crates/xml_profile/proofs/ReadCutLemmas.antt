-- Reading in two pieces.
use Rattle.std.proofs.Common.{◌≡◌, ℕ, zero, suc, pred, ◌+◌, ◌≤◌, ◌==◌, Bool, true, false, nat_le, List, [], ◌∷◌, ◌++◌, length, refl, sym, ap, ◌∙◌, arith}
use Rattle.std.proofs.Common.{Option, Some, None, if◌then◌else◌}
use Rattle.std.proofs.lemmas.List.{append_assoc, length-append}
use Rattle.std.proofs.lemmas.Bool.Decides.{nat_tests}
use Rattle.xml_tokens.specs.declared.kind.XmlKind.{XmlKind}
use Rattle.xml_tokens.specs.declared.kind.XmlKind.TheVariants.{TooLong}
use Rattle.xml_state.specs.declared.limits.Limits.{Limits}
use Rattle.xml_tokens.specs.Markup.{Token}
use Rattle.xml_tokens.specs.Beginnings.{Beginning, good, bad, later, beginning, sure_length}
use Rattle.xml_tokens.specs.declared.beginning.Position.{Position}
use Rattle.xml_state.specs.States.{State, state_behind, events_of}
use Rattle.xml_state.specs.Admission.{fault_of}
use Rattle.xml_tokens.proofs.BeginningLemmas.{From, Stays, same, goes_on, Within}
use Rattle.xml_profile.specs.TokenByToken.{waits, Read, telling, stops_at, fault_within, unfinished, read, resume}

abbrev pub turn : Bool → Limits → State → ℕ → ℕ → List ℕ → Beginning → Read
turn ended limits s place b bytes x = elim x [
  | later ↦ unfinished limits s place b bytes
  | (bad kind n) ↦ fault_within limits (place + n) kind place
  | (good token n) ↦ elim (nat_le (place + n) limits.bytes) [
    | false ↦ stops_at TooLong limits.bytes
    | true ↦ elim (fault_of limits s token) [
      | (Some kind) ↦ stops_at kind place
      | None ↦ telling (events_of s token place) (read ended limits (state_behind s token) (place + 1) (pred n) bytes)
    ]
  ]
]

pub read-turn : (e : Bool) (limits : Limits) (s : State) (place c : ℕ) (bytes : List ℕ) →
    read e limits s place zero (c ∷ bytes) ≡ turn e limits s place c bytes (beginning s.position e (c ∷ bytes))
unfolding read
read-turn e limits s place c bytes = refl

-- reading goes on with a piece
abbrev pub going_on : Bool → Limits → Read → List ℕ → Read
going_on e limits r piece = telling r.events (resume e limits r.stands piece)

pub sure-grows : (c : ℕ) (a b : List ℕ) → sure_length c a ≤ sure_length c (a ++ b)
sure-grows c a b = by (c == 0x5D)
  where
    by : (t : Bool) → (if t then 1 else 1 + length a) ≤ (if t then 1 else 1 + length (a ++ b))
    by true = omega arith
    by false = let e : length (a ++ b) ≡ length a + length b = length-append a b in omega arith

exceeds : (place k n limit : ℕ) → nat_le (place + k) limit ≡ false → k ≤ n → nat_le (place + n) limit ≡ false
exceeds place k n limit h le = grind (arith, nat_tests)

module _ (e : Bool) (limits : Limits) (a b : List ℕ)
    (rest : (s : State) (place k : ℕ) → k ≤ length a → read e limits s place k (a ++ b) ≡ going_on e limits (read false limits s place k a) b) where
  good-turn : (s : State) (place c : ℕ) (token : Token) (n : ℕ) → Within (suc (length a)) (good token n)
      → turn e limits s place c (a ++ b) (good token n) ≡ going_on e limits (turn false limits s place c a (good token n)) b
  unfolding resume
  good-turn s place c token n w = by (nat_le (place + n) limits.bytes) (fault_of limits s token)
    where
      by : (t : Bool) (f : Option XmlKind) →
          (elim t [
            | false ↦ stops_at TooLong limits.bytes
            | true ↦ elim f [
              | (Some kind) ↦ stops_at kind place
              | None ↦ telling (events_of s token place) (read e limits (state_behind s token) (place + 1) (pred n) (a ++ b))
            ]
          ])
          ≡ going_on e limits (elim t [
            | false ↦ stops_at TooLong limits.bytes
            | true ↦ elim f [
              | (Some kind) ↦ stops_at kind place
              | None ↦ telling (events_of s token place) (read false limits (state_behind s token) (place + 1) (pred n) a)
            ]
          ]) b
      by false f = refl
      by true (Some kind) = refl
      by true None =
          let r = read false limits (state_behind s token) (place + 1) (pred n) a in
          let fits : pred n ≤ length a = omega arith in
          ap (telling (events_of s token place)) (rest (state_behind s token) (place + 1) (pred n) fits)
          ∙ ap (λ es. record { events = es; stands = (resume e limits r.stands b).stands })
          (sym (append_assoc (events_of s token place) r.events (resume e limits r.stands b).events))

  bad-turn : (s : State) (place c : ℕ) (kind : XmlKind) (n : ℕ)
      → turn e limits s place c (a ++ b) (bad kind n) ≡ going_on e limits (turn false limits s place c a (bad kind n)) b
  unfolding resume
  bad-turn s place c kind n = by (nat_le (place + n) limits.bytes)
    where
      by : (t : Bool) → (if t then stops_at kind place else stops_at TooLong limits.bytes) ≡ going_on e limits
          (if t then stops_at kind place else stops_at TooLong limits.bytes) b
      by true = refl
      by false = refl

  -- nothing yet within the limit: what is read is what stands there with the piece behind it
  later-turn : (s : State) (place c : ℕ) (m : Beginning) → From (sure_length c a) m → m ≡ beginning s.position e (c ∷ (a ++ b))
      → turn e limits s place c (a ++ b) m ≡ going_on e limits (turn false limits s place c a later) b
  unfolding resume
  later-turn s place c m from is = by (nat_le (place + sure_length c a) limits.bytes) refl
    where
      past : (m : Beginning) → From (sure_length c a) m → nat_le (place + sure_length c a) limits.bytes ≡ false →
          turn e limits s place c (a ++ b) m ≡ stops_at TooLong limits.bytes
      past (good token n) from h =
          ap (λ t. elim t [
            | false ↦ stops_at TooLong limits.bytes
            | true ↦ elim (fault_of limits s token) [
              | (Some kind) ↦ stops_at kind place
              | None ↦ telling (events_of s token place) (read e limits (state_behind s token) (place + 1) (pred n) (a ++ b))
            ]
          ])
          (exceeds place (sure_length c a) n limits.bytes h from)
      past (bad kind n) from h = ap (λ t. if t then stops_at kind place else stops_at TooLong limits.bytes)
          (exceeds place (sure_length c a) n limits.bytes h from)
      past later from h = ap (λ t. if t then record { events = []; stands = waits s place (c ∷ (a ++ b)) } else stops_at TooLong limits.bytes)
          (exceeds place (sure_length c a) (sure_length c (a ++ b)) limits.bytes h (sure-grows c a b))

      by : (t : Bool) → nat_le (place + sure_length c a) limits.bytes ≡ t
          → turn e limits s place c (a ++ b) m ≡ going_on e limits
          (if t then record { events = []; stands = waits s place (c ∷ a) } else stops_at TooLong limits.bytes) b
      by true h = ap (turn e limits s place c (a ++ b)) is ∙ sym (read-turn e limits s place c (a ++ b))
      by false h = past m from h

  any-turn : (s : State) (place c : ℕ) (x m : Beginning) → Stays (sure_length c a) x m → Within (suc (length a)) x → m ≡ beginning s.position e (c ∷ (a ++ b))
      → turn e limits s place c (a ++ b) m ≡ going_on e limits (turn false limits s place c a x) b
  any-turn s place c x m (same k (good token n)) w is = good-turn s place c token n w
  any-turn s place c x m (same k (bad kind n)) w is = bad-turn s place c kind n
  any-turn s place c x m (same k later) w is = later-turn s place c later tt is
  any-turn s place c x m (goes_on k n from) w is = later-turn s place c n from is

module _ (stays : (p : Position) (e : Bool) (c : ℕ) (a b : List ℕ) → Stays (sure_length c a) (beginning p false (c ∷ a)) (beginning p e (c ∷ (a ++ b))))
    (within : (p : Position) (c : ℕ) (a : List ℕ) → Within (suc (length a)) (beginning p false (c ∷ a))) where
  pub read-cut : (e : Bool) (limits : Limits) (a b : List ℕ) (s : State) (place k : ℕ) → k ≤ length a →
      read e limits s place k (a ++ b) ≡ going_on e limits (read false limits s place k a) b
  unfolding read resume
  read-cut e limits [] b s place zero h = refl
  read-cut e limits [] b s place (suc k) h = absurd (omega arith)
  read-cut e limits (c ∷ a) b s place (suc k) h = read-cut e limits a b s (place + 1) k (omega arith)
  read-cut e limits (c ∷ a) b s place zero h =
      any-turn e limits a b (λ s' place' k' h'. read-cut e limits a b s' place' k' h') s place c (beginning s.position false (c ∷ a))
      (beginning s.position e (c ∷ (a ++ b))) (stays s.position e c a b) (within s.position c a) refl
