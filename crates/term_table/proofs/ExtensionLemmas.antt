-- The rows of terms that tables add: behind those of the semantic model, two for each number.
use Rattle.std.proofs.Common.{◌≡◌, ℕ, ◌+◌, ◌-◌, ◌*◌, ◌≤◌, ◌<◌, zero, suc, Bool, true, false, ◌&&◌, List, [], ◌∷◌, ◌++◌, length, Option, Some, None, refl, sym}
use Rattle.std.proofs.Common.{ap, ◌∙◌, ◌⊎◌, inl, inr, arith}
use Rattle.std.specs.Prelude.{◌==◌, nat_lt, nat_le, find, position, option_map}
use Rattle.std.specs.List.{list_all, list_any}
use Rattle.std.proofs.lemmas.Bool.{false≢true}
use Rattle.std.proofs.lemmas.Option.{same_Some}
use Rattle.std.proofs.lemmas.Bool.Decides.{nat_tests}
use Rattle.term_table.specs.declared.groups.Group.{Group}
use Rattle.term_table.specs.declared.groups.Group.TheVariants as groups
use Rattle.term_table.specs.declared.terms.DataType.{DataType}
use Rattle.term_table.specs.declared.terms.Term.{Term}
use Rattle.term_table.specs.declared.terms.TermRow.{TermRow}
use Rattle.term_table.specs.SemanticModel.{same_term, terms, is_extension, extension_line, extension_rows_from, extension_rows, listing_rows}
use Rattle.term_table.specs.Contexts.{stands_in}
use Rattle.term_table.specs.Rows.{is_row_in, row_in, HasType, modelled, added}
use Rattle.term_table.specs.Numbers.{extension_place, extension_row}
use Rattle.term_table.proofs.GroupLemmas.{both}
use Rattle.term_table.proofs.TermLemmas.{position-here, position-there}

add_later : (a : ℕ) (o : Option ℕ) → option_map (λ k. 1 + k) (option_map (λ k. a + k) o) ≡ option_map (λ k. suc a + k) o
add_later a None = refl
add_later a (Some k) = ap Some (omega arith)

add_none : (o : Option ℕ) → o ≡ option_map (λ k. 0 + k) o
add_none None = refl
add_none (Some k) = ap Some (omega arith)

-- Where none of the first passes, the place is among the others.
pub position-behind : {X : Type 0} (p : X → Bool) (xs ys : List X) → list_any p xs ≡ false →
    position p (xs ++ ys) ≡ option_map (λ k. length xs + k) (position p ys)
position-behind p [] ys h = add_none (position p ys)
position-behind p (x ∷ xs) ys h = go (p x) refl h (position-behind p xs ys)
  where
    go : (b : Bool) → p x ≡ b → list_any p (x ∷ xs) ≡ false → (list_any p xs ≡ false → position p (xs ++ ys) ≡ option_map (λ k. length xs + k) (position p ys))
        → position p ((x ∷ xs) ++ ys) ≡ option_map (λ k. length (x ∷ xs) + k) (position p ys)
    go true e k f = absurd (false≢true (sym k ∙ (let z : list_any p (x ∷ xs) ≡ true = rw e refl in z)))
    go false e k f =
        let none : list_any p xs ≡ false = (let z : list_any p (x ∷ xs) ≡ list_any p xs = rw e refl in sym z ∙ k) in
        position-there p x (xs ++ ys) e ∙ (ap (option_map (λ k. 1 + k)) (f none) ∙ add_later (length xs) (position p ys))

none-there : {X : Type 0} (p : X → Bool) (zs : List X) → list_any p zs ≡ false → position p zs ≡ None
none-there p [] k = refl
none-there p (z ∷ zs) k = go (p z) refl k (none-there p zs)
  where
    go : (b : Bool) → p z ≡ b → list_any p (z ∷ zs) ≡ false → (list_any p zs ≡ false → position p zs ≡ None) → position p (z ∷ zs) ≡ None
    go true e l f = absurd (false≢true (sym l ∙ (let w : list_any p (z ∷ zs) ≡ true = rw e refl in w)))
    go false e l f = position-there p z zs e ∙ ap (option_map (λ k. 1 + k)) (f (let w : list_any p (z ∷ zs) ≡ list_any p zs = rw e refl in sym w ∙ l))

-- Where none of the last passes, it is among the first.
pub position-ahead : {X : Type 0} (p : X → Bool) (xs ys : List X) → list_any p ys ≡ false → position p (xs ++ ys) ≡ position p xs
position-ahead p [] ys h = none-there p ys h
position-ahead p (x ∷ xs) ys h = go (p x) refl (position-ahead p xs ys h)
  where
    go : (b : Bool) → p x ≡ b → position p (xs ++ ys) ≡ position p xs → position p ((x ∷ xs) ++ ys) ≡ position p (x ∷ xs)
    go true e f = position-here p x (xs ++ ys) e ∙ sym (position-here p x xs e)
    go false e f = position-there p x (xs ++ ys) e ∙ (ap (option_map (λ k. 1 + k)) f ∙ sym (position-there p x xs e))

-- ---- the rows of the numbers from one on

twice : (n : ℕ) (o : Option ℕ) → option_map (λ k. 1 + k) (option_map (λ k. 1 + k) (option_map (λ k. n * 2 + k) o)) ≡ option_map (λ k. suc n * 2 + k) o
twice n None = refl
twice n (Some k) = ap Some (omega arith)

module _ (term : Term) (outer inner : Option Group) (whole : term.part ≡ 0) where
  abbrev passes : TermRow → Bool
  passes row = is_row_in term outer inner row

  abbrev in_line : Bool
  in_line = stands_in groups.InvoiceLine outer inner

  abbrev in_root : Bool
  in_root = stands_in groups.Root outer inner

  abbrev first : ℕ → TermRow
  first number = extension_line number groups.InvoiceLine

  abbrev second : ℕ → TermRow
  second number = extension_line number groups.Root

  same-number : (number : ℕ) → number ≡ term.number → same_term (record { number = number; part = 0 }) term ≡ true
  same-number number e = let w = whole in grind (arith, nat_tests, e, w)

  other-number : (number : ℕ) → number < term.number → same_term (record { number = number; part = 0 }) term ≡ false
  other-number number l = grind (arith, nat_tests, l)

  none-later : (j n : ℕ) → term.number < n → position passes (extension_rows_from j n) ≡ None
  none-later zero n g = refl
  none-later (suc j) n g =
      let f : same_term (record { number = n; part = 0 }) term ≡ false = grind (arith, nat_tests, g) in
      let a : passes (first n) ≡ false = ap (λ b. b && in_line) f in
      let b : passes (second n) ≡ false = ap (λ b. b && in_root) f in
      position-there passes (first n) (second n ∷ extension_rows_from j (n + 1)) a
      ∙ (ap (option_map (λ k. 1 + k)) (position-there passes (second n) (extension_rows_from j (n + 1)) b)
      ∙ ap (λ o. option_map (λ k. 1 + k) (option_map (λ k. 1 + k) o)) (none-later j (n + 1) (omega (arith, g))))

  pub from-there : (m number : ℕ) → number ≤ term.number → term.number < number + m
      → position passes (extension_rows_from m number) ≡ option_map (λ k. (term.number - number) * 2 + k) (extension_place in_line in_root)
  from-there zero number l u = absurd (omega (arith, l, u))
  from-there (suc m) number l u = elim (cases number term.number l) [ inl e ↦ here e | inr k ↦ later k (λ a b. from-there m (number + 1) a b) ]
    where
      cases : (a b : ℕ) → a ≤ b → (a ≡ b) ⊎ (a < b)
      cases a b h = grind (arith, h)

      here : number ≡ term.number → position passes ((first number) ∷ ((second number) ∷ extension_rows_from m (number + 1))) ≡ option_map
          (λ k. (term.number - number) * 2 + k) (extension_place in_line in_root)
      here e = by in_line in_root refl refl
        where
          z : (k : ℕ) → k ≡ (term.number - number) * 2 + k
          z k = omega (arith, e)

          by : (x y : Bool) → in_line ≡ x → in_root ≡ y
              → position passes ((first number) ∷ ((second number) ∷ extension_rows_from m (number + 1))) ≡ option_map (λ k. (term.number - number) * 2 + k)
              (extension_place x y)
          by true y f g = position-here passes (first number) (second number ∷ extension_rows_from m (number + 1))
              (ap (λ b. b && in_line) (same-number number e) ∙ f) ∙ ap Some (z 0)
          by false true f g =
              position-there passes (first number) (second number ∷ extension_rows_from m (number + 1)) (ap (λ b. b && in_line) (same-number number e) ∙ f)
              ∙ (ap (option_map (λ k. 1 + k)) (position-here passes (second number) (extension_rows_from m (number + 1))
              (ap (λ b. b && in_root) (same-number number e) ∙ g)) ∙ ap Some (z 1))
          by false false f g =
              position-there passes (first number) (second number ∷ extension_rows_from m (number + 1)) (ap (λ b. b && in_line) (same-number number e) ∙ f)
              ∙ (ap (option_map (λ k. 1 + k)) (position-there passes (second number) (extension_rows_from m (number + 1))
              (ap (λ b. b && in_root) (same-number number e) ∙ g))
              ∙ ap (λ o. option_map (λ k. 1 + k) (option_map (λ k. 1 + k) o)) (none-later m (number + 1) (omega (arith, e))))

      later : number < term.number → (number + 1 ≤ term.number → term.number < number + 1 + m →
          position passes (extension_rows_from m (number + 1)) ≡ option_map (λ k. (term.number - (number + 1)) * 2 + k) (extension_place in_line in_root))
          → position passes ((first number) ∷ ((second number) ∷ extension_rows_from m (number + 1))) ≡ option_map (λ k. (term.number - number) * 2 + k)
          (extension_place in_line in_root)
      later g f =
          let a : passes (first number) ≡ false = ap (λ b. b && in_line) (other-number number g) in
          let b : passes (second number) ≡ false = ap (λ b. b && in_root) (other-number number g) in
          let n : suc (term.number - (number + 1)) ≡ term.number - number = omega (arith, g) in
          position-there passes (first number) (second number ∷ extension_rows_from m (number + 1)) a
          ∙ (ap (option_map (λ k. 1 + k)) (position-there passes (second number) (extension_rows_from m (number + 1)) b)
          ∙ (ap (λ o. option_map (λ k. 1 + k) (option_map (λ k. 1 + k) o)) (f (omega (arith, g)) (omega (arith, u)))
          ∙ (twice (term.number - (number + 1)) (extension_place in_line in_root)
          ∙ ap (λ j. option_map (λ k. j * 2 + k) (extension_place in_line in_root)) n)))

-- ---- among all rows

small_numbers : list_all (λ (r : TermRow). nat_lt r.term.number 1001) terms ≡ true
unfolding terms
small_numbers = refl

none_of : (term : Term) (outer inner : Option Group) → 1001 ≤ term.number → (rows : List TermRow) →
    list_all (λ (r : TermRow). nat_lt r.term.number 1001) rows ≡ true
    → list_any (is_row_in term outer inner) rows ≡ false
none_of term outer inner l [] h = refl
none_of term outer inner l (r ∷ rows) h =
    let w = both (nat_lt r.term.number 1001) _ h in
    let k = w.0 in
    let f : same_term r.term term ≡ false = grind (arith, nat_tests, l, k) in
    let g : is_row_in term outer inner r ≡ false = ap (λ b. b && stands_in r.group outer inner) f in
    let rest = none_of term outer inner l rows w.1 in
    rw g rest

term_count : length terms ≡ 181
unfolding terms
term_count = refl

joined : (a n : ℕ) (o : Option ℕ) → option_map (λ k. a + k) (option_map (λ k. n + k) o) ≡ option_map (λ k. a + (n + k)) o
joined a n None = refl
joined a n (Some k) = refl

pub extension-row_is : (term : Term) (outer inner : Option Group) → is_extension term ≡ true → extension_row term.number outer inner ≡ row_in term outer inner
unfolding listing_rows extension_rows
extension-row_is term outer inner h =
    let a = both (term.part == 0) _ h in
    let b = both (nat_le 1001 term.number) _ a.1 in
    let x = a.0 in
    let y = b.0 in
    let z = b.1 in
    let whole : term.part ≡ 0 = grind (arith, nat_tests, x) in
    let low : 1001 ≤ term.number = grind (arith, nat_tests, y) in
    let high : term.number < 1001 + 99 = grind (arith, nat_tests, z) in
    sym (
    position-behind (is_row_in term outer inner) terms (extension_rows_from 99 1001) (none_of term outer inner low terms small_numbers)
    ∙ (ap (λ n. option_map (λ k. n + k) (position (is_row_in term outer inner) (extension_rows_from 99 1001))) term_count
    ∙ (ap (option_map (λ k. 181 + k)) (from-there term outer inner whole 99 1001 low high)
    ∙ joined 181 ((term.number - 1001) * 2) (extension_place (stands_in groups.InvoiceLine outer inner) (stands_in groups.Root outer inner)))))

-- a term of the semantic model is in none of them
none_from : (term : Term) (outer inner : Option Group) (m number : ℕ) → (term.part ≡ 0 → (number ≤ term.number) → (term.number < number + m) → ⊥)
    → list_any (is_row_in term outer inner) (extension_rows_from m number) ≡ false
none_from term outer inner zero number h = refl
none_from term outer inner (suc m) number h =
    let f : same_term (record { number = number; part = 0 }) term ≡ false = other (same_term (record { number = number; part = 0 }) term) refl in
    let a : is_row_in term outer inner (extension_line number groups.InvoiceLine) ≡ false = ap (λ b. b && stands_in groups.InvoiceLine outer inner) f in
    let b : is_row_in term outer inner (extension_line number groups.Root) ≡ false = ap (λ b. b && stands_in groups.Root outer inner) f in
    let rest = none_from term outer inner m (number + 1) (λ p l u. h p (omega (arith, l)) (omega (arith, u))) in
    rw (a, b) rest
  where
    other : (b : Bool) → same_term (record { number = number; part = 0 }) term ≡ b → b ≡ false
    other false e = refl
    other true e =
        let w = both (number == term.number) _ e in
        let x = w.0 in
        let y = w.1 in
        let n : number ≡ term.number = grind (arith, nat_tests, x) in
        let p : term.part ≡ 0 = grind (arith, nat_tests, y) in
        absurd (h p (omega (arith, n)) (omega (arith, n)))

pub modelled-row_is : (term : Term) (outer inner : Option Group) → is_extension term ≡ false →
    position (is_row_in term outer inner) terms ≡ row_in term outer inner
unfolding listing_rows extension_rows
modelled-row_is term outer inner h =
    sym (position-ahead (is_row_in term outer inner) terms (extension_rows_from 99 1001)
    (none_from term outer inner 99 1001 (λ p l u.
    let k : is_extension term ≡ true = grind (arith, nat_tests, p, l, u) in
    false≢true (sym h ∙ k))))

-- A term that a table adds has no type in the semantic model.
none_found : (term : Term) → 1001 ≤ term.number → (rows : List TermRow) → list_all (λ (r : TermRow). nat_lt r.term.number 1001) rows ≡ true
    → option_map (λ (r : TermRow). r.data_type) (find (λ (r : TermRow). same_term r.term term) rows) ≡ None
none_found term l [] h = refl
none_found term l (r ∷ rows) h =
    let w = both (nat_lt r.term.number 1001) _ h in
    let k = w.0 in
    let f : same_term r.term term ≡ false = grind (arith, nat_tests, l, k) in
    let rest = none_found term l rows w.1 in
    rw f rest

pub no-type : (term : Term) → is_extension term ≡ true → option_map (λ (r : TermRow). r.data_type) (find (λ (r : TermRow). same_term r.term term) terms) ≡ None
no-type term h =
    let x = (both (nat_le 1001 term.number) _ (both (term.part == 0) _ h).1).0 in
    none_found term (grind (arith, nat_tests, x)) terms small_numbers

-- So where the semantic model has one, that is its type.
pub one-type : (term : Term) (data_type other : DataType) → HasType term data_type →
    option_map (λ (r : TermRow). r.data_type) (find (λ (r : TermRow). same_term r.term term) terms) ≡ Some other → data_type ≡ other
one-type term data_type other (modelled e) h = same_Some _ _ (sym e ∙ h)
one-type term data_type other (added e k) h = absurd (let z : None ≡ Some other = sym (no-type term e) ∙ h in cc)

-- The type of a term of the semantic model is that of the model.
pub modelled-type : (term : Term) (data_type : DataType) → HasType term data_type → is_extension term ≡ false →
    option_map (λ (r : TermRow). r.data_type) (find (λ (r : TermRow). same_term r.term term) terms) ≡ Some data_type
modelled-type term data_type (modelled e) h = e
modelled-type term data_type (added e k) h = absurd (false≢true (sym h ∙ e))
