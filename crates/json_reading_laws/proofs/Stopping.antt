-- Where a run stops, and what stands before.
use Rattle.std.proofs.Common.{◌≡◌, ◌⊎◌, ℕ, ◌+◌, suc, zero, ◌<◌, ◌≤◌, Bool, true, false, cond, List, [], ◌∷◌, ◌++◌, length, take, Option, None, Result, Ok, Err}
use Rattle.std.proofs.Common.{refl, sym, ap, ◌∙◌, inl, inr, length-append, zero-add, subst, arith, true≢false}
use Rattle.json_reading.specs.declared.fault.JsonFault.{JsonFault}
use Rattle.json_reading.specs.declared.fault.JsonKind.{JsonKind}
use Rattle.json_reading.specs.declared.fault.JsonKind.TheVariants.{NotJson, NotUtf8, TooDeep, Truncated, TooLong, Memory}
use Rattle.json_reading.specs.declared.item.Item.{Item}
use Rattle.json_reading.specs.Reading.{State, start, fault, settled, innermost, is_behind, step, run, ended, ended_by, ended_behind, reading_whole}
use Rattle.json_reading.proofs.IdleLemmas.{goes_on}
use Rattle.json_reading_laws.specs.Beginnings.{IsRead, CanBegin, IsFirstRefused}
use Rattle.json_reading_laws.proofs.Steps.{run_ok, run_err, run-append}
use Rattle.json_reading_laws.proofs.Good.{Good, GoodResult, StopsHere, is_cut, good_step}
use Rattle.json_reading_laws.proofs.Completing.{Completes, completes}

-- whether the kind is that of bytes that aren't UTF-8
abbrev is_utf8_kind : JsonKind → Bool
is_utf8_kind NotUtf8 = true
is_utf8_kind _ = false

-- Where a run stops: so many bytes are read, and with the next one nothing is, whatever follows.
pub record Stops (deepest at : ℕ) (bytes : List ℕ) (s : State) (f : JsonFault) : Type 0 where
  pub count : ℕ
  pub within : count < length bytes
  pub before : State
  pub read : run deepest at (take count bytes) s ≡ Ok before
  pub refused : (more : List ℕ) → run deepest at (take (suc count) bytes ++ more) s ≡ Err f
  pub here : StopsHere (at + count) f

ok-err : {A B : Type 0} (a : A) (b : B) → Ok a ≡ Err b → ⊥
ok-err {A} {B} a b e = true≢false (ap (λ (r : Result A B). elim r as (λ _. Bool) [ Ok x ↦ true | Err y ↦ false ]) e)

abbrev fault_or : {A B : Type 0} → B → Result A B → B
fault_or other (Ok x) = other
fault_or other (Err y) = y

abbrev value_or : {A B : Type 0} → A → Result A B → A
value_or other (Ok x) = x
value_or other (Err y) = other

module _ (deepest : ℕ) where
  stops_by : (at b : ℕ) (bytes : List ℕ) (s : State) (f : JsonFault) (r : Result State JsonFault) → step deepest at b s ≡ r → GoodResult at r
      → ((next : State) → Good (suc at) next.mode → run deepest (suc at) bytes next ≡ Err f → Stops deepest (suc at) bytes next f)
      → run deepest at (b ∷ bytes) s ≡ Err f → Stops deepest at (b ∷ bytes) s f
  stops_by at b bytes s f (Err g) h stops rest e =
      let same : g ≡ f = ap (fault_or f) (sym (run_err deepest at b bytes s g h) ∙ e) in
      let there : at ≡ at + 0 = omega arith in
      record {
        count = 0;
        within = omega arith;
        before = s;
        read = refl;
        refused = λ more. run_err deepest at b more s g h ∙ ap Err same;
        here = subst (StopsHere (at + 0)) same (subst (λ n. StopsHere n g) there stops);
      }
  stops_by at b bytes s f (Ok next) h good_next rest e =
      let inner = rest next good_next (sym (run_ok deepest at b bytes s next h) ∙ e) in
      let there : suc at + inner.count ≡ at + suc inner.count = omega arith in
      record {
        count = suc inner.count;
        within = omega (arith, inner.within);
        before = inner.before;
        read = run_ok deepest at b (take inner.count bytes) s next h ∙ inner.read;
        refused = λ more. run_ok deepest at b (take (suc inner.count) bytes ++ more) s next h ∙ inner.refused more;
        here = subst (λ n. StopsHere n f) there inner.here;
      }

  stops : (bytes : List ℕ) (at : ℕ) (s : State) (f : JsonFault) → Good at s.mode → run deepest at bytes s ≡ Err f → Stops deepest at bytes s f
  stops [] at s f good e = absurd (ok-err s f e)
  stops (b ∷ bytes) at s f good e =
      stops_by at b bytes s f (step deepest at b s) refl (good_step deepest at b s good) (λ next g k. stops bytes (suc at) next f g k) e

  good_by : (at b : ℕ) (bytes : List ℕ) (s last : State) (r : Result State JsonFault) → step deepest at b s ≡ r → GoodResult at r
      → ((next : State) → Good (suc at) next.mode → run deepest (suc at) bytes next ≡ Ok last → Good (suc at + length bytes) last.mode)
      → run deepest at (b ∷ bytes) s ≡ Ok last → Good (at + length (b ∷ bytes)) last.mode
  good_by at b bytes s last (Err g) h stop rest e = absurd (ok-err last g (sym e ∙ run_err deepest at b bytes s g h))
  good_by at b bytes s last (Ok next) h good rest e =
      let there : suc at + length bytes ≡ at + length (b ∷ bytes) = omega arith in
      subst (λ n. Good n last.mode) there (rest next good (sym (run_ok deepest at b bytes s next h) ∙ e))

  good_run : (bytes : List ℕ) (at : ℕ) (s last : State) → Good at s.mode → run deepest at bytes s ≡ Ok last → Good (at + length bytes) last.mode
  good_run [] at s last good e =
      let there : at ≡ at + 0 = omega arith in
      subst (λ n. Good n last.mode) there (subst (λ (x : State). Good at x.mode) (ap (value_or s) e) good)
  good_run (b ∷ bytes) at s last good e =
      good_by at b bytes s last (step deepest at b s) refl (good_step deepest at b s good) (λ next g k. good_run bytes (suc at) next last g k) e

  -- bytes that are read can begin a text
  begins : (bytes : List ℕ) (s : State) → run deepest 0 bytes start ≡ Ok s → CanBegin deepest bytes
  begins bytes s e =
      let good : Good (length bytes) s.mode = subst (λ n. Good n s.mode) (zero-add (length bytes)) (good_run bytes 0 start s tt e) in
      let rest = completes deepest (length bytes) s good in (
        rest.0,
        (
          rest.1,
          ap (λ n. ended_behind n (run deepest 0 (bytes ++ rest.0) start)) (length-append bytes rest.0)
              ∙ (ap (ended_behind (length bytes + length rest.0)) (run-append deepest bytes rest.0 0 start
              ∙ (ap (λ n. goes_on deepest n rest.0 (run deepest 0 bytes start)) (zero-add (length bytes)) ∙ ap (goes_on deepest (length bytes) rest.0) e))
              ∙ rest.2),
        ),
      )

  refused_begins : (bytes : List ℕ) (f : JsonFault) → ((more : List ℕ) → run deepest 0 (bytes ++ more) start ≡ Err f) → ¬ (CanBegin deepest bytes)
  refused_begins bytes f h = λ can. ok-err can.1.0 f (sym can.1.1 ∙ ap (ended_behind (length (bytes ++ can.0))) (h can.0))

  -- where a run stops, a byte is refused for the first time
  first_refused : (bytes : List ℕ) (f : JsonFault) (stop : Stops deepest 0 bytes start f) → IsFirstRefused deepest bytes stop.count
  first_refused bytes f stop =
      let next : suc stop.count ≡ stop.count + 1 = omega arith in (
        stop.within,
        begins (take stop.count bytes) stop.before stop.read,
        subst (λ n. ¬ (CanBegin deepest (take n bytes))) next (refused_begins (take (suc stop.count) bytes) f stop.refused),
      )

  first_by : (bytes : List ℕ) (f : JsonFault) → Stops deepest 0 bytes start f → is_utf8_kind f.kind ≡ false → (at : ℕ) → f.at ≡ at
      → IsFirstRefused deepest bytes at
  first_by bytes f stop other at is =
      let place : f.at ≡ 0 + stop.count = elim (stop.here.0) [ inl utf8 ↦ absurd (true≢false (sym (ap is_utf8_kind utf8) ∙ other)) | inr here ↦ here ] in
      let counted : stop.count ≡ at = omega (arith, place, is) in
      subst (λ n. IsFirstRefused deepest bytes n) counted (first_refused bytes f stop)

  ended_cut : (at : ℕ) (s : State) (f : JsonFault) (b : Bool) → cond b (Ok s.items) (Err (fault Truncated at)) ≡ Err f → f ≡ fault Truncated at
  ended_cut at s f true e = absurd (ok-err s.items f e)
  ended_cut at s f false e = sym (ap (fault_or f) e)

  -- a fault is a byte's, or the end's
  split : (bytes : List ℕ) (f : JsonFault) (r : Result State JsonFault) → run deepest 0 bytes start ≡ r → ended_behind (length bytes) r ≡ Err f
      → Stops deepest 0 bytes start f ⊎ ((f ≡ fault Truncated (length bytes)) × CanBegin deepest bytes)
  split bytes f (Err g) h e = inl (stops bytes 0 start f tt (h ∙ ap Err (ap (fault_or f) e)))
  split bytes f (Ok s) h e =
      let t = settled (length bytes) None s in
      inr (ended_cut (length bytes) t f (is_behind t.mode (innermost t.around)) e, begins bytes s h)

  split_whole : (bytes : List ℕ) (f : JsonFault) → reading_whole deepest bytes ≡ Err f
      → Stops deepest 0 bytes start f ⊎ ((f ≡ fault Truncated (length bytes)) × CanBegin deepest bytes)
  split_whole bytes f e = split bytes f (run deepest 0 bytes start) refl e

  pub first : (bytes : List ℕ) (kind : JsonKind) (at : ℕ) → is_utf8_kind kind ≡ false → is_cut kind ≡ false → reading_whole deepest bytes ≡ Err (fault kind at)
      → IsFirstRefused deepest bytes at
  first bytes kind at other uncut e = elim (split_whole bytes (fault kind at) e) [
    | inl stop ↦ first_by bytes (fault kind at) stop other at refl
    | inr cut ↦ absurd (true≢false (sym (ap (λ (f : JsonFault). is_cut f.kind) cut.0) ∙ uncut))
  ]

  no_character : (bytes : List ℕ) (f : JsonFault) (at : ℕ) → f.at ≡ at → Stops deepest 0 bytes start f
      → (count : ℕ) × (at ≤ count) × IsFirstRefused deepest bytes count
  no_character bytes f at is stop =
      let below : f.at ≤ 0 + stop.count = stop.here.2 in
      (stop.count, omega (arith, below, is), first_refused bytes f stop)

  pub undecoded : (bytes : List ℕ) (at : ℕ) → reading_whole deepest bytes ≡ Err (fault NotUtf8 at)
      → (count : ℕ) × (at ≤ count) × IsFirstRefused deepest bytes count
  undecoded bytes at e = elim (split_whole bytes (fault NotUtf8 at) e) [
    | inl stop ↦ no_character bytes (fault NotUtf8 at) at refl stop
    | inr cut ↦ absurd (true≢false (sym (ap (λ (f : JsonFault). is_cut f.kind) cut.0)))
  ]

  pub cut : (bytes : List ℕ) (at : ℕ) → reading_whole deepest bytes ≡ Err (fault Truncated at) → (at ≡ length bytes) × CanBegin deepest bytes
  cut bytes at e = elim (split_whole bytes (fault Truncated at) e) [
    | inl stop ↦ absurd (true≢false (stop.here.1))
    | inr whole ↦ (ap (λ (f : JsonFault). f.at) whole.0, whole.1)
  ]
