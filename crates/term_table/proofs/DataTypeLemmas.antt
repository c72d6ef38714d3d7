-- A term has one type wherever it stands.
use Rattle.std.proofs.Common.{◌≡◌, ℕ, zero, suc, Bool, true, false, ◌&&◌, List, [], ◌∷◌, Option, Some, None, find, refl, sym, ap, ◌∙◌, arith}
use Rattle.std.specs.Prelude.{◌==◌, slice_get, option_map}
use Rattle.std.proofs.lemmas.Option.{same_Some}
use Rattle.std.proofs.lemmas.Bool.{false≢true}
use Rattle.std.proofs.lemmas.Bool.Decides.{nat_tests}
use Rattle.term_table.specs.declared.terms.DataType.{DataType}
use Rattle.term_table.specs.declared.terms.DataType.TheVariants as data_types
use Rattle.term_table.specs.declared.terms.Term.{Term}
use Rattle.term_table.specs.declared.terms.TermRow.{TermRow}
use Rattle.term_table.specs.SemanticModel.{same_term, terms}
use Rattle.term_table.specs.Rows.{HasType, modelled}
use Rattle.term_table.proofs.GroupLemmas.{both}

letter_number : DataType → ℕ
letter_number data_types.T = 0
letter_number data_types.I = 1
letter_number data_types.C = 2
letter_number data_types.A = 3
letter_number data_types.Q = 4
letter_number data_types.P = 5
letter_number data_types.D = 6
letter_number data_types.B = 7

letter_at : ℕ → Option DataType
letter_at n = find (λ l. letter_number l == n) (data_types.T ∷ data_types.I ∷ data_types.C ∷ data_types.A ∷ data_types.Q ∷ data_types.P ∷ data_types.D ∷
    data_types.B ∷ [])

letter_at-letter_number : (l : DataType) → letter_at (letter_number l) ≡ Some l
unfolding letter_at letter_number
letter_at-letter_number data_types.T = refl
letter_at-letter_number data_types.I = refl
letter_at-letter_number data_types.C = refl
letter_at-letter_number data_types.A = refl
letter_at-letter_number data_types.Q = refl
letter_at-letter_number data_types.P = refl
letter_at-letter_number data_types.D = refl
letter_at-letter_number data_types.B = refl

-- the type of the first row of a term
first_letter : Term → Option DataType
first_letter term = option_map (λ (row : TermRow). row.data_type) (find (λ (row : TermRow). same_term row.term term) terms)

is_letter : Option DataType → DataType → Bool
is_letter None b = false
is_letter (Some a) b = letter_number a == letter_number b

is_letter-true : (o : Option DataType) (b : DataType) → is_letter o b ≡ true → o ≡ Some b
unfolding is_letter
is_letter-true None b h = absurd (false≢true h)
is_letter-true (Some a) b h =
    let e : letter_number a ≡ letter_number b = grind (arith, nat_tests) in
    ap Some (same_Some _ _ (sym (letter_at-letter_number a) ∙ (ap letter_at e ∙ letter_at-letter_number b)))

have_types : List TermRow → Bool
have_types [] = true
have_types (row ∷ rows) = is_letter (first_letter row.term) row.data_type && have_types rows

types_are : have_types terms ≡ true
unfolding have_types terms first_letter is_letter letter_number
types_are = refl

typed_at : (rows : List TermRow) (k : ℕ) (row : TermRow) → have_types rows ≡ true → slice_get rows k ≡ Some row → first_letter row.term ≡ Some row.data_type
unfolding have_types
typed_at [] zero row h e = cc
typed_at [] (suc k) row h e = cc
typed_at (r ∷ rows) zero row h e =
    let p = is_letter-true _ _ (both (is_letter (first_letter r.term) r.data_type) _ h).0 in
    let same : r ≡ row = same_Some _ _ e in
    ap (λ (x : TermRow). first_letter x.term) (sym same) ∙ (p ∙ ap (λ (x : TermRow). Some x.data_type) same)
typed_at (r ∷ rows) (suc k) row h e = typed_at rows k row (both (is_letter (first_letter r.term) r.data_type) _ h).1 e

pub one_type : (k : ℕ) (row : TermRow) → slice_get terms k ≡ Some row → HasType row.term row.data_type
unfolding first_letter
one_type k row e = modelled (typed_at terms k row types_are e)
