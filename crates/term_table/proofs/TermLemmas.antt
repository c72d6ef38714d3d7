-- The table of terms in the code is the one of the semantic model, and the rows of a number are where the code looks
-- for them.
use Rattle.std.proofs.Common.{◌≡◌, ℕ, ◌+◌, ◌≤◌, ◌<◌, zero, suc, Bool, true, false, ◌&&◌, List, [], ◌∷◌, length, Option, Some, None, find, take, drop, refl, sym}
use Rattle.std.proofs.Common.{ap}
use Rattle.std.proofs.Common.{◌∙◌, subst, ◌⊎◌, inl, inr, arith}
use Rattle.std.specs.Prelude.{◌==◌, nat_lt, nat_le, position, slice_get, option_map}
use Rattle.std.specs.List.{list_all, position_or_len}
use Rattle.std.proofs.lemmas.Option.{same_Some}
use Rattle.std.proofs.lemmas.Bool.Decides.{nat_tests}
use Rattle.term_table.specs.declared.groups.Group.{Group}
use Rattle.term_table.specs.declared.terms.Term.{Term}
use Rattle.term_table.specs.declared.terms.TermRow.{TermRow}
use Rattle.term_table.specs.declared.terms.TheConstants.{TERMS, FIRST_ROWS}
use Rattle.term_table.specs.SemanticModel.{same_term, terms}
use Rattle.term_table.specs.Rows.{is_row_in, data_type_of}
use Rattle.term_table.specs.Numbers.{first_of, row_from, letter_from}
use Rattle.term_table.proofs.GroupLemmas.{both}

pub table_is : TERMS ≡ terms
unfolding terms
table_is = refl

-- ---- a place where only some can pass

bool_cases : (b : Bool) → (b ≡ true) ⊎ (b ≡ false)
bool_cases true = inl refl
bool_cases false = inr refl

pub position-here : {X : Type 0} (p : X → Bool) (x : X) (xs : List X) → p x ≡ true → position p (x ∷ xs) ≡ Some 0
position-here p x xs h =
    let n : nat_lt 0 (suc (length xs)) ≡ true = grind (arith, nat_tests) in
    rw (h, n) refl

pub position-there : {X : Type 0} (p : X → Bool) (x : X) (xs : List X) → p x ≡ false → position p (x ∷ xs) ≡ option_map (λ k. 1 + k) (position p xs)
position-there p x xs h = elim (bool_cases (nat_lt (position_or_len p xs) (length xs))) [
  | inl passing ↦
      let n : nat_lt (1 + position_or_len p xs) (suc (length xs)) ≡ true = grind (arith, nat_tests) in
      rw (h, n, passing) refl
  | inr failing ↦
      let n : nat_lt (1 + position_or_len p xs) (suc (length xs)) ≡ false = grind (arith, nat_tests) in
      rw (h, n, failing) refl
]

-- Where only the first m can pass, the place is the one among them.
among_first : {X : Type 0} (p : X → Bool) (xs : List X) (m : ℕ) → ((k : ℕ) (x : X) → slice_get xs k ≡ Some x → p x ≡ true → k < m) →
    position p (take m xs) ≡ position p xs
among_first p [] zero h = refl
among_first p [] (suc m) h = refl
among_first p (x ∷ xs) zero h = elim (bool_cases (p x)) [
  | inl passing ↦ absurd (let k : 0 < 0 = h 0 x refl passing in omega arith)
  | inr failing ↦
      let rest : position p (take 0 xs) ≡ position p xs = among_first p xs 0 (λ k y e q. absurd (let l : suc k < 0 = h (suc k) y e q in omega arith)) in
      sym (position-there p x xs failing ∙ ap (option_map (λ k. 1 + k)) (sym rest))
]
among_first p (x ∷ xs) (suc m) h = elim (bool_cases (p x)) [
  | inl passing ↦ position-here p x (take m xs) passing ∙ sym (position-here p x xs passing)
  | inr failing ↦
      let rest : position p (take m xs) ≡ position p xs = among_first p xs m (λ k y e q. let l : suc k < suc m = h (suc k) y e q in omega arith) in
      position-there p x (take m xs) failing ∙ (ap (option_map (λ k. 1 + k)) rest ∙ sym (position-there p x xs failing))
]

add_one : (a : ℕ) (o : Option ℕ) → option_map (λ k. suc a + k) o ≡ option_map (λ k. 1 + k) (option_map (λ k. a + k) o)
add_one a None = refl
add_one a (Some k) = ap Some (omega arith)

add_none : (o : Option ℕ) → option_map (λ k. 0 + k) o ≡ o
add_none None = refl
add_none (Some k) = ap Some (omega arith)

-- Where only m from the a-th on can pass, the place is the one among them.
position-among : {X : Type 0} (p : X → Bool) (xs : List X) (a m : ℕ) → ((k : ℕ) (x : X) → slice_get xs k ≡ Some x → p x ≡ true → (a ≤ k) × (k < a + m))
    → option_map (λ k. a + k) (position p (take m (drop a xs))) ≡ position p xs
position-among p xs zero m h = add_none _ ∙ among_first p xs m (λ k x e q. let l = (h k x e q).1 in omega (arith, l))
position-among p [] (suc a) zero h = refl
position-among p [] (suc a) (suc m) h = refl
position-among p (x ∷ xs) (suc a) m h = elim (bool_cases (p x)) [
  | inl passing ↦ absurd (let l = (h 0 x refl passing).0 in omega (arith, l))
  | inr failing ↦
      let rest = position-among p xs a m (λ k y e q. let l = h (suc k) y e q in (omega (arith, l.0), omega (arith, l.1))) in
      add_one a _ ∙ (ap (option_map (λ k. 1 + k)) rest ∙ sym (position-there p x xs failing))
]

-- The same for the first one that passes.
found_first : {X : Type 0} (p : X → Bool) (xs : List X) (m : ℕ) → ((k : ℕ) (x : X) → slice_get xs k ≡ Some x → p x ≡ true → k < m) →
    find p (take m xs) ≡ find p xs
found_first p [] zero h = refl
found_first p [] (suc m) h = refl
found_first p (x ∷ xs) zero h = elim (bool_cases (p x)) [
  | inl passing ↦ absurd (let k : 0 < 0 = h 0 x refl passing in omega arith)
  | inr failing ↦
      let rest : find p (take 0 xs) ≡ find p xs = found_first p xs 0 (λ k y e q. absurd (let l : suc k < 0 = h (suc k) y e q in omega arith)) in
      rw failing rest
]
found_first p (x ∷ xs) (suc m) h = elim (bool_cases (p x)) [
  | inl passing ↦ rw passing refl
  | inr failing ↦
      let rest : find p (take m xs) ≡ find p xs = found_first p xs m (λ k y e q. let l : suc k < suc m = h (suc k) y e q in omega arith) in
      rw failing rest
]

found-among : {X : Type 0} (p : X → Bool) (xs : List X) (a m : ℕ) → ((k : ℕ) (x : X) → slice_get xs k ≡ Some x → p x ≡ true → (a ≤ k) × (k < a + m))
    → find p (take m (drop a xs)) ≡ find p xs
found-among p xs zero m h = found_first p xs m (λ k x e q. let l = (h k x e q).1 in omega (arith, l))
found-among p [] (suc a) zero h = refl
found-among p [] (suc a) (suc m) h = refl
found-among p (x ∷ xs) (suc a) m h = elim (bool_cases (p x)) [
  | inl passing ↦ absurd (let l = (h 0 x refl passing).0 in omega (arith, l))
  | inr failing ↦
      let rest = found-among p xs a m (λ k y e q. let l = h (suc k) y e q in (omega (arith, l.0), omega (arith, l.1))) in
      rw failing rest
]

-- ---- where the rows of a number begin

rows_behind : List ℕ → ℕ → List TermRow → Bool
rows_behind firsts k [] = true
rows_behind firsts k (row ∷ rows) = (nat_le (first_of firsts row.term.number) k && nat_lt k (first_of firsts row.term.number + 3)) &&
    rows_behind firsts (k + 1) rows

rows_are : rows_behind FIRST_ROWS 0 terms ≡ true
unfolding rows_behind terms
rows_are = refl

row_at : (firsts : List ℕ) (n : ℕ) (rows : List TermRow) (k : ℕ) (row : TermRow) → rows_behind firsts n rows ≡ true → slice_get rows k ≡ Some row
    → (first_of firsts row.term.number ≤ n + k) × (n + k < first_of firsts row.term.number + 3)
unfolding rows_behind
row_at firsts n [] zero row h e = cc
row_at firsts n [] (suc k) row h e = cc
row_at firsts n (r ∷ rows) zero row h e =
    let p = both (nat_le (first_of firsts r.term.number) n && nat_lt n (first_of firsts r.term.number + 3)) _ h in
    let q = both (nat_le (first_of firsts r.term.number) n) _ p.0 in
    let same : r ≡ row = same_Some _ _ e in
    subst (λ (x : TermRow). (first_of firsts x.term.number ≤ n + 0) × (n + 0 < first_of firsts x.term.number + 3)) same (
      let l : first_of firsts r.term.number ≤ n = grind (arith, nat_tests, q.0) in omega (arith, l),
      let l : n < first_of firsts r.term.number + 3 =
          grind (arith, nat_tests, q.1) in omega (arith, l),
    )
row_at firsts n (r ∷ rows) (suc k) row h e =
    let p = both (nat_le (first_of firsts r.term.number) n && nat_lt n (first_of firsts r.term.number + 3)) _ h in
    let l = row_at firsts (n + 1) rows k row p.1 e in
    (omega (arith, l.0), omega (arith, l.1))

firsts_fit : list_all (λ first. nat_le first 181) FIRST_ROWS ≡ true
firsts_fit = refl

first_within : (firsts : List ℕ) (n : ℕ) → list_all (λ first. nat_le first 181) firsts ≡ true → first_of firsts n ≤ 181
first_within [] zero h = omega arith
first_within [] (suc n) h = omega arith
first_within (first ∷ firsts) zero h =
    let p = both (nat_le first 181) _ h in
    grind (arith, nat_tests, p.0)
first_within (first ∷ firsts) (suc n) h = first_within firsts n (both (nat_le first 181) _ h).1

table_length : length TERMS ≡ 181
table_length = refl

pub first_fits : (n : ℕ) → first_of FIRST_ROWS n ≤ length TERMS
first_fits n = rw table_length (first_within FIRST_ROWS n firsts_fit)

numbered : (row term : Term) → same_term row term ≡ true → row.number ≡ term.number
numbered row term h = let p = (both (row.number == term.number) _ h).0 in grind (arith, nat_tests, p)

near_first : (term : Term) (k : ℕ) (row : TermRow) → slice_get terms k ≡ Some row → same_term row.term term ≡ true
    → (first_of FIRST_ROWS term.number ≤ k) × (k < first_of FIRST_ROWS term.number + 3)
near_first term k row e h =
    let l = row_at FIRST_ROWS 0 terms k row rows_are e in
    subst (λ n. (first_of FIRST_ROWS n ≤ k) × (k < first_of FIRST_ROWS n + 3)) (numbered row.term term h) (omega (arith, l.0), omega (arith, l.1))

pub letter_from-is : (term : Term) → letter_from TERMS (first_of FIRST_ROWS term.number) term ≡ data_type_of term
letter_from-is term =
    ap (λ rows. letter_from rows (first_of FIRST_ROWS term.number) term) table_is ∙
    ap (option_map (λ (row : TermRow). row.data_type)) (found-among (λ (row : TermRow). same_term row.term term) terms (first_of FIRST_ROWS term.number) 3
    (near_first term))

pub row_from-is : (term : Term) (outer inner : Option Group) → row_from TERMS (first_of FIRST_ROWS term.number) term outer inner ≡ position
    (is_row_in term outer inner) terms
row_from-is term outer inner =
    let passes : (k : ℕ) (row : TermRow) → slice_get terms k ≡ Some row → is_row_in term outer inner row ≡ true
    → (first_of FIRST_ROWS term.number ≤ k) × (k < first_of FIRST_ROWS term.number + 3) =
    λ k row e h. near_first term k row e (both (same_term row.term term) _ h).0 in
    ap (λ rows. row_from rows (first_of FIRST_ROWS term.number) term outer inner) table_is ∙
    position-among (is_row_in term outer inner) terms (first_of FIRST_ROWS term.number) 3 passes
