-- The first row of a name.
use Rattle.std.proofs.Common.{◌≡◌, ℕ, suc, ◌+◌, Bool, true, false, cond, ◌&&◌, ◌==◌, List, [], ◌∷◌, ◌++◌, Option, Some, None, option_map, find, position, slice_get, refl, sym, ap, ◌∙◌, subst, true≢false, bytes_eq, inl, inr, arith}
use Rattle.std.proofs.lemmas.Bool.{cases_Bool, eqb-false}
use Rattle.std.specs.Prelude.{option_and_then}
use Rattle.std.proofs.lemmas.Slice.Eq.{bytes_eq-Decides}
use Rattle.term_table.proofs.TermLemmas.{position-here, position-there}
use Rattle.term_table.proofs.SeatLemmas.{same_term_is}
use Rattle.term_table.specs.declared.contexts.Context.{Context}
use Rattle.term_table.specs.declared.terms.Term.{Term}
use Rattle.term_table.specs.declared.terms.TermRow.{TermRow}
use Rattle.term_table.specs.SemanticModel.{same_term, terms, listing_rows, extension_rows}
use Rattle.term_table.specs.Rows.{row_of}
use Rattle.term_table.specs.Contexts.{has_context}
use Rattle.inv_listing.specs.Listing.{term_text}
use Rattle.invoice_data.specs.Guesses.{guessed}
use Rattle.invoice_data.proofs.GuessLemmas.{AreGuessed}

-- ---- first elements

pub find_ahead : {X : Type 0} (p : X → Bool) (xs ys : List X) (x : X) → find p xs ≡ Some x → find p (xs ++ ys) ≡ Some x
find_ahead p [] ys x h = absurd (none-some x h)
  where
    none-some : {X : Type 0} (x : X) → None ≡ Some x → ⊥
    none-some x e = cc
find_ahead p (y ∷ xs) ys x h = by (p y) h (find_ahead p xs ys x)
  where
    by : (b : Bool) → cond b (Some y) (find p xs) ≡ Some x → (find p xs ≡ Some x → find p (xs ++ ys) ≡ Some x) → cond b (Some y) (find p (xs ++ ys)) ≡ Some x
    by true h more = h
    by false h more = more h

pub find_behind : {X : Type 0} (p : X → Bool) (xs ys : List X) → find p xs ≡ None → find p (xs ++ ys) ≡ find p ys
find_behind p [] ys h = refl
find_behind p (y ∷ xs) ys h = by (p y) h (find_behind p xs ys)
  where
    by : (b : Bool) → cond b (Some y) (find p xs) ≡ None → (find p xs ≡ None → find p (xs ++ ys) ≡ find p ys) → cond b (Some y) (find p (xs ++ ys)) ≡ find p ys
    by true h more = cc
    by false h more = more h

at_none : {X : Type 0} (o : Option ℕ) → option_and_then (slice_get {X = X} []) o ≡ None
at_none None = refl
at_none (Some k) = refl

one_more : (k : ℕ) → 1 + k ≡ suc k
one_more k = omega arith

at_next : {X : Type 0} (x : X) (xs : List X) (o : Option ℕ) → option_and_then (slice_get (x ∷ xs)) (option_map (λ k. 1 + k) o) ≡ option_and_then (slice_get xs) o
at_next x xs None = refl
at_next x xs (Some k) = ap (slice_get (x ∷ xs)) (one_more k)

-- what stands at the first place among more
find_position : {X : Type 0} (p : X → Bool) (xs ys : List X) → option_and_then (slice_get xs) (position p (xs ++ ys)) ≡ find p xs
find_position p [] ys = at_none (position p ys)
find_position p (x ∷ xs) ys = elim (cases_Bool (p x)) [
  | inl h ↦ ap (option_and_then (slice_get (x ∷ xs))) (position-here p x (xs ++ ys) h) ∙ sym (ap (λ b. cond b (Some x) (find p xs)) h)
  | inr h ↦ ap (option_and_then (slice_get (x ∷ xs))) (position-there p x (xs ++ ys) h)
      ∙ (at_next x xs (position p (xs ++ ys)) ∙ (find_position p xs ys ∙ sym (ap (λ b. cond b (Some x) (find p xs)) h)))
]

pub model_found : (term : Term) (place : Context)
    → option_and_then (slice_get terms) (row_of term place) ≡ find (λ (row : TermRow). same_term row.term term && has_context row.group place) terms
unfolding listing_rows
model_found term place = find_position (λ (row : TermRow). same_term row.term term && has_context row.group place) terms extension_rows

-- ---- rows by names

same_when : (a b : Bool) → (a ≡ true → b ≡ true) → (b ≡ true → a ≡ true) → a ≡ b
same_when true true h k = refl
same_when false false h k = refl
same_when true false h k = sym (h refl)
same_when false true h k = k refl

same_text : (a b : List ℕ) → bytes_eq a b ≡ true → a ≡ b
same_text a b h = (bytes_eq-Decides a b).0 h

text_same : (a : List ℕ) → bytes_eq a a ≡ true
text_same a = (bytes_eq-Decides a a).1 refl

number_same : (n : ℕ) → (n == n) ≡ true
number_same n = elim (cases_Bool (n == n)) [ inl h ↦ h | inr h ↦ absurd (eqb-false n n h refl) ]

term_same : (a : Term) → same_term a a ≡ true
term_same a = ap (λ b. b && (a.part == a.part)) (number_same a.number) ∙ number_same a.part

same_tests : (row : TermRow) (name : List ℕ) → guessed (term_text row.term) ≡ row.term → bytes_eq (term_text (guessed name)) name ≡ true
    → bytes_eq (term_text row.term) name ≡ same_term row.term (guessed name)
same_tests row name own named = same_when _ _
    (λ h. let e : row.term ≡ guessed name = sym own ∙ ap guessed (same_text (term_text row.term) name h) in
    subst (λ t. same_term row.term t ≡ true) e (term_same row.term))
    (λ h. let e : row.term ≡ guessed name = same_term_is row.term (guessed name) h in
    subst (λ t. bytes_eq (term_text t) name ≡ true) (sym e) named)

-- where the guessed term has the name, the first row of the name is the first of the term
pub find_named : (name : List ℕ) (place : Context) (rows : List TermRow) → AreGuessed rows → bytes_eq (term_text (guessed name)) name ≡ true
    → find (λ (row : TermRow). same_term row.term (guessed name) && has_context row.group place) rows
    ≡ find (λ (row : TermRow). bytes_eq (term_text row.term) name && has_context row.group place) rows
find_named name place [] own named = refl
find_named name place (row ∷ rows) own named =
    ap (λ b. cond (b && has_context row.group place) (Some row)
    (find (λ (row : TermRow). same_term row.term (guessed name) && has_context row.group place) rows)) (sym (same_tests row name own.0 named))
    ∙ ap (λ o. cond (bytes_eq (term_text row.term) name && has_context row.group place) (Some row) o) (find_named name place rows own.1 named)

other_text : (row : TermRow) (name : List ℕ) → guessed (term_text row.term) ≡ row.term → bytes_eq (term_text (guessed name)) name ≡ false
    → bytes_eq (term_text row.term) name ≡ false
other_text row name own other = elim (cases_Bool (bytes_eq (term_text row.term) name)) [
  | inl h ↦
      let e : row.term ≡ guessed name = sym own ∙ ap guessed (same_text (term_text row.term) name h) in
      absurd (true≢false (sym h ∙ (ap (λ t. bytes_eq (term_text t) name) e ∙ other)))
  | inr h ↦ h
]

-- where it doesn't have the name, no row has
pub find_unnamed : (name : List ℕ) (place : Context) (rows : List TermRow) → AreGuessed rows → bytes_eq (term_text (guessed name)) name ≡ false
    → find (λ (row : TermRow). bytes_eq (term_text row.term) name && has_context row.group place) rows ≡ None
find_unnamed name place [] own other = refl
find_unnamed name place (row ∷ rows) own other =
    ap (λ b. cond (b && has_context row.group place) (Some row)
    (find (λ (row : TermRow). bytes_eq (term_text row.term) name && has_context row.group place) rows)) (other_text row name own.0 other)
    ∙ find_unnamed name place rows own.1 other
