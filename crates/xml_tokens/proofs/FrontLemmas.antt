-- Fronts before the first stop, as tests and places.
use Rattle.std.proofs.Common.{◌≡◌, ℕ, suc, ◌+◌, ◌<◌, ◌≤◌, eqb, nat_lt, Bool, true, false, not, ◌&&◌, ◌||◌, List, [], ◌∷◌, ◌++◌, length, take, drop, get_or}
use Rattle.std.proofs.Common.{refl, sym, ap, ◌∙◌, arith, inl, inr, Some, None, cond}
use Rattle.std.specs.List.{list_all, list_any, position, position_or_len}
use Rattle.std.specs.Str.{chars, IsUtf8}
use Rattle.std.proofs.lemmas.Bool.{cases_eq, eq-eqb, ne_eqb, not-false, not-true, or_parts, lt-ltb, le-ltb}
use Rattle.std.proofs.lemmas.List.Elements.{All-from_get_or}
use Rattle.std.proofs.lemmas.List.Folds.{list_all_at, list_all-append}
use Rattle.std.proofs.lemmas.List.Sums.{list_all-from_AllPass, prefix_len-le-length, fails_before_first, passes_at_first}
use Rattle.inv_base.proofs.TextLemmas.{both}
use Rattle.xml_tokens.specs.Ascii.{is_calm, is_restless, stirs}
use Rattle.xml_tokens.specs.Runs.{is_plain}
use Rattle.xml_tokens.specs.Told.{ends_run}
use Rattle.xml_tokens.proofs.CalmLemmas.{calm-told}
use Rattle.xml_tokens.proofs.PlainLemmas.{plain-front}

-- All pass where no stop stands in the bytes.
pub all-calm : (bytes : List ℕ) (n : ℕ) → n ≡ position_or_len is_restless bytes → eqb n (length bytes) ≡ list_all is_calm bytes
all-calm bytes n e = elim (cases_eq n (length bytes)) [
  | inl whole ↦
      let calm = λ (k : ℕ) (inside : k < length bytes). not-false (is_calm (get_or bytes k 0))
      (fails_before_first is_restless bytes k 0 (omega (arith, e, whole))) in
      eq-eqb n (length bytes) whole ∙ sym (list_all-from_AllPass is_calm bytes (All-from_get_or (λ b. is_calm b ≡ true) bytes 0 calm))
  | inr other ↦
      let within : n < length bytes = omega (arith, e, prefix_len-le-length (λ x. not (is_restless x)) bytes) in
      let there = passes_at_first is_restless bytes 0 (omega (arith, e)) in
      let stops : is_calm (get_or bytes n 0) ≡ false = not-true (is_calm (get_or bytes n 0)) (ap (λ k. is_restless (get_or bytes k 0)) e ∙ there) in
      ne_eqb n (length bytes) other ∙ sym (list_all_at is_calm bytes n 0 within stops)
]

-- A front that isn't all ends at the first place.
pub place-there : (bytes : List ℕ) (n : ℕ) → n ≡ position_or_len ends_run bytes → n < length bytes → Some n ≡ position ends_run bytes
place-there bytes n e within =
    let test : nat_lt (position_or_len ends_run bytes) (length bytes) ≡ true = lt-ltb (position_or_len ends_run bytes) (length bytes) (omega (arith, e)) in
    sym (ap (λ t. cond t (Some (position_or_len ends_run bytes)) None) test ∙ ap Some (sym e))

pub place-nowhere : (bytes : List ℕ) (n : ℕ) → n ≡ position_or_len ends_run bytes → length bytes ≤ n → None ≡ position ends_run bytes
place-nowhere bytes n e all =
    let test : nat_lt (position_or_len ends_run bytes) (length bytes) ≡ false = le-ltb (position_or_len ends_run bytes) (length bytes) (omega (arith, e)) in
    sym (ap (λ t. cond t (Some (position_or_len ends_run bytes)) None) test)

-- Before the first byte that stirs none ends a run, and all are calm.
pub before-stir : (bytes : List ℕ) → (list_any ends_run (take (position_or_len stirs bytes) bytes) ≡ false) ×
    (list_all is_calm (take (position_or_len stirs bytes) bytes) ≡ true)
before-stir [] = (refl, refl)
before-stir (b ∷ bytes) = by (stirs b) refl (before-stir bytes)
  where
    by : (t : Bool) → stirs b ≡ t → (list_any ends_run (take (position_or_len stirs bytes) bytes) ≡ false) ×
        (list_all is_calm (take (position_or_len stirs bytes) bytes) ≡ true)
        → (list_any ends_run (take (cond (not t) (1 + position_or_len stirs bytes) 0) (b ∷ bytes)) ≡ false) ×
        (list_all is_calm (take (cond (not t) (1 + position_or_len stirs bytes) 0) (b ∷ bytes)) ≡ true)
    by true e rest = (refl, refl)
    by false e rest =
        let one : 1 + position_or_len stirs bytes ≡ suc (position_or_len stirs bytes) = omega arith in
        let parts = or_parts (ends_run b) (is_restless b) e in
        let calm : is_calm b ≡ true = not-false (is_calm b) parts.1 in
        let front = take (position_or_len stirs bytes) bytes in (
          ap (λ n. list_any ends_run (take n (b ∷ bytes))) one ∙ (ap (λ t. t || list_any ends_run front) parts.0 ∙ rest.0),
          ap (λ n. list_all is_calm (take n (b ∷ bytes))) one ∙ (ap (λ t. t && list_all is_calm front) calm ∙ rest.1),
        )

-- A text at the front of calm bytes none of which ends a run is plain.
pub calm-plain : (outer text : List ℕ) → IsUtf8 text → outer ≡ text ++ drop (length text) outer → list_any ends_run outer ≡ false →
    list_all is_calm outer ≡ true → list_all is_plain (chars text) ≡ true
calm-plain outer text u f e c =
    let behind = drop (length text) outer in
    let parts = both (list_all is_calm text) (list_all is_calm behind) (sym (list_all-append is_calm text behind) ∙ (ap (list_all is_calm) (sym f) ∙ c)) in
    plain-front outer text u f e (sym (calm-told text text true refl u (sym parts.0) refl))
