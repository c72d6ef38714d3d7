-- A table with a row that joins it is laid, where the row's new elements have numbers of their own and its names can be written.
use Rattle.std.proofs.Common.{◌≡◌, ℕ, ◌<◌, ◌≤◌, Bool, true, false, not, ◌&&◌, ◌||◌, List, [], ◌∷◌, ◌++◌, map, refl, sym, ap, ◌∙◌, arith, append_assoc}
use Rattle.std.specs.Prelude.{◌==◌, nat_lt, nat_le}
use Rattle.std.specs.List.{list_all, list_any}
use Rattle.std.proofs.lemmas.Bool.{false≢true, eqb-true, ltb-true}
use Rattle.bind_rows.specs.declared.names.Namespace.{Namespace}
use Rattle.bind_rows.specs.declared.rows.Step.{Step}
use Rattle.bind_rows.specs.Same.{same_step, choose}
use Rattle.bind_table.specs.Laid.{element_numbers, are_distinct, end_apart, all_end_apart, is_ncname, is_declared, is_writable_leaf, all_writable}
use Rattle.bind_table.specs.Lines.{Cell, Plan, nothing, a_line, own_cells, into, add}
use Rattle.binding_laws.proofs.ListLemmas.{append-nil, not-true}
use Rattle.written_laws.specs.Readable.{all_lines}
use Rattle.extension_laws.specs.Ways.{are_new, new_steps, all_below}
use Rattle.extension_laws.proofs.AddLemmas.{both}
use Rattle.extension_laws.proofs.ReadableLemmas.{le-true, le-from}
use Rattle.carrying_laws.proofs.Disjuncts.{and-true}

-- ---- tests of all lines

pub ends-lines : (plan : Plan) → all_end_apart plan ≡ all_lines (λ s cells. end_apart cells) plan
ends-lines nothing = refl
ends-lines (a_line s cells inside rest) = λ i. end_apart cells && (ends-lines inside i && ends-lines rest i)

and-assoc : (a b c : Bool) → (a && (b && c)) ≡ ((a && b) && c)
and-assoc true b c = refl
and-assoc false b c = refl

abbrev pub is_writable_line : Namespace → Step → List Cell → Bool
is_writable_line root s cells = (is_ncname s.name.local && is_declared root s.name.namespace) &&
    list_all (λ (cell : Cell). is_writable_leaf cell.row.leaf) cells

pub writable-lines : (root : Namespace) (plan : Plan) → all_writable root plan ≡ all_lines (is_writable_line root) plan
writable-lines root nothing = refl
writable-lines root (a_line s cells inside rest) =
    and-assoc (is_ncname s.name.local && is_declared root s.name.namespace) (list_all (λ (cell : Cell). is_writable_leaf cell.row.leaf) cells)
    (all_writable root inside && all_writable root rest)
    ∙ (λ i. is_writable_line root s cells && (writable-lines root inside i && writable-lines root rest i))

-- ---- the numbers of the new elements

abbrev numbers_of : List Step → List ℕ
numbers_of path = map (λ (s : Step). s.number) path

-- The second list is the first with some numbers put in between.
pub record Inserted (was mid is : List ℕ) : Type 0 where
  pub front : List ℕ
  pub back : List ℕ
  pub was_is : was ≡ front ++ back
  pub is_is : is ≡ front ++ (mid ++ back)

numbers-alone : (q : List Step) (cell : Cell) → element_numbers (add q cell nothing) ≡ numbers_of q
numbers-alone [] cell = refl
numbers-alone (s ∷ q) cell = ap (λ l. s.number ∷ l) (append-nil (element_numbers (add q cell nothing)) ∙ numbers-alone q cell)

in-front : (n : ℕ) (mid inside inside' rest : List ℕ) → Inserted inside mid inside' → Inserted (n ∷ (inside ++ rest)) mid (n ∷ (inside' ++ rest))
in-front n mid inside inside' rest x = record {
  front = n ∷ x.front;
  back = x.back ++ rest;
  was_is = ap (λ l. n ∷ l) (ap (λ l. l ++ rest) x.was_is ∙ append_assoc x.front x.back rest);
  is_is = ap (λ l. n ∷ l) (ap (λ l. l ++ rest) x.is_is ∙ (append_assoc x.front (mid ++ x.back) rest ∙ ap (λ l. x.front ++ l) (append_assoc mid x.back rest)));
}

behind : (n : ℕ) (mid inside rest rest' : List ℕ) → Inserted rest mid rest' → Inserted (n ∷ (inside ++ rest)) mid (n ∷ (inside ++ rest'))
behind n mid inside rest rest' x = record {
  front = n ∷ (inside ++ x.front);
  back = x.back;
  was_is = ap (λ l. n ∷ l) (ap (λ l. inside ++ l) x.was_is ∙ sym (append_assoc inside x.front x.back));
  is_is = ap (λ l. n ∷ l) (ap (λ l. inside ++ l) x.is_is ∙ sym (append_assoc inside x.front (mid ++ x.back)));
}

-- ---- distinct numbers stay so where higher ones are put in

any-split : (p : ℕ → Bool) (xs ys : List ℕ) → list_any p xs ≡ false → list_any p ys ≡ false → list_any p (xs ++ ys) ≡ false
any-split p [] ys h k = k
any-split p (x ∷ xs) ys h k = by (p x) refl h (λ l. any-split p xs ys l k)
  where
    by : (b : Bool) → p x ≡ b → (b || list_any p xs) ≡ false → (list_any p xs ≡ false → list_any p (xs ++ ys) ≡ false) → (p x || list_any p (xs ++ ys)) ≡ false
    by true e l f = absurd (false≢true (sym l))
    by false e l f = ap (λ b. b || list_any p (xs ++ ys)) e ∙ f l

any-apart : (p : ℕ → Bool) (xs ys : List ℕ) → list_any p (xs ++ ys) ≡ false → (list_any p xs ≡ false) × (list_any p ys ≡ false)
any-apart p [] ys h = (refl, h)
any-apart p (x ∷ xs) ys h = by (p x) refl h (any-apart p xs ys)
  where
    by : (b : Bool) → p x ≡ b → (b || list_any p (xs ++ ys)) ≡ false → (list_any p (xs ++ ys) ≡ false → (list_any p xs ≡ false) × (list_any p ys ≡ false))
        → ((p x || list_any p xs) ≡ false) × (list_any p ys ≡ false)
    by true e l f = absurd (false≢true (sym l))
    by false e l f = let w = f l in (ap (λ b. b || list_any p xs) e ∙ w.0, w.1)

unequal : (a b : ℕ) → (a ≡ b → ⊥) → (a == b) ≡ false
unequal a b h = by (a == b) refl
  where
    by : (c : Bool) → (a == b) ≡ c → c ≡ false
    by true e = absurd (h (eqb-true a b e))
    by false e = refl

-- no number below is one of these, and none above
none-above : (n top : ℕ) (q : List Step) → n ≤ top → are_new top q ≡ true → list_any (λ m. n == m) (numbers_of q) ≡ false
none-above n top [] low h = refl
none-above n top (s ∷ q) low h =
    let w = both (nat_lt top s.number) (are_new s.number q) h in
    let l = ltb-true top s.number w.0 in
    ap (λ b. b || list_any (λ m. n == m) (numbers_of q)) (unequal n s.number (λ e. omega (arith, low, l, e)))
    ∙ none-above n s.number q (omega (arith, low, l)) w.1

none-below : (n top : ℕ) (ns : List ℕ) → top < n → all_below top ns ≡ true → list_any (λ m. n == m) ns ≡ false
none-below n top [] high h = refl
none-below n top (m ∷ ns) high h =
    let w = both (nat_le m top) (all_below top ns) h in
    let l = le-from m top w.0 in
    ap (λ b. b || list_any (λ k. n == k) ns) (unequal n m (λ e. omega (arith, high, l, e))) ∙ none-below n top ns high w.1

below-higher : (top more : ℕ) (ns : List ℕ) → top ≤ more → all_below top ns ≡ true → all_below more ns ≡ true
below-higher top more [] low h = refl
below-higher top more (m ∷ ns) low h =
    let w = both (nat_le m top) (all_below top ns) h in
    let l = le-from m top w.0 in
    and-true (nat_le m more) (all_below more ns) (le-true m more (omega (arith, l, low))) (below-higher top more ns low w.1)

rising-distinct : (top : ℕ) (q : List Step) (back : List ℕ) → are_new top q ≡ true → all_below top back ≡ true → are_distinct back ≡ true
    → are_distinct (numbers_of q ++ back) ≡ true
rising-distinct top [] back h below d = d
rising-distinct top (s ∷ q) back h below d =
    let w = both (nat_lt top s.number) (are_new s.number q) h in
    let l = ltb-true top s.number w.0 in
    let low : s.number ≤ s.number = omega arith in
    let up : top ≤ s.number = omega (arith, l) in
    and-true (not (list_any (λ m. s.number == m) (numbers_of q ++ back))) (are_distinct (numbers_of q ++ back))
    (ap not (any-split (λ m. s.number == m) (numbers_of q) back (none-above s.number s.number q low w.1) (none-below s.number top back l below)))
    (rising-distinct s.number q back w.1 (below-higher top s.number back up below) d)

distinct-between : (top : ℕ) (q : List Step) (front back : List ℕ) → are_new top q ≡ true → all_below top (front ++ back) ≡ true
    → are_distinct (front ++ back) ≡ true
    → are_distinct (front ++ (numbers_of q ++ back)) ≡ true
distinct-between top q [] back h below d = rising-distinct top q back h below d
distinct-between top q (x ∷ front) back h below d =
    let b = both (nat_le x top) (all_below top (front ++ back)) below in
    let w = both (not (list_any (λ m. x == m) (front ++ back))) (are_distinct (front ++ back)) d in
    let a = any-apart (λ m. x == m) front back (not-true (list_any (λ m. x == m) (front ++ back)) w.0) in
    and-true (not (list_any (λ m. x == m) (front ++ (numbers_of q ++ back)))) (are_distinct (front ++ (numbers_of q ++ back)))
    (ap not (any-split (λ m. x == m) front (numbers_of q ++ back) a.0
    (any-split (λ m. x == m) (numbers_of q) back (none-above x top q (le-from x top b.0) h) a.1)))
    (distinct-between top q front back h b.1 w.1)

-- ---- the numbers of the lines

module _ (s : Step) (q : List Step) (cell : Cell)
    (deep : (inside : Plan) → Inserted (element_numbers inside) (numbers_of (new_steps q inside)) (element_numbers (add q cell inside))) where
  new-line : (rest : List ℕ) → Inserted rest (numbers_of (s ∷ q)) (s.number ∷ (element_numbers (add q cell nothing) ++ rest))
  new-line rest = record { front = []; back = rest; was_is = refl; is_is = ap (λ l. s.number ∷ (l ++ rest)) (numbers-alone q cell) }

  numbers-by : (t : Step) (cells : List Cell) (inside rest : Plan) (a b : Bool)
      → Inserted (element_numbers rest) (numbers_of (new_steps (s ∷ q) rest)) (element_numbers (into s (own_cells q cell) (add q cell) rest))
      → Inserted (element_numbers (a_line t cells inside rest))
      (numbers_of (choose a (λ _. new_steps q inside) (λ _. choose b (λ _. s ∷ q) (λ _. new_steps (s ∷ q) rest))))
      (element_numbers (choose a (λ _. a_line t (own_cells q cell cells) (add q cell inside) rest)
      (λ _. choose b (λ _. a_line s (own_cells q cell []) (add q cell nothing) (a_line t cells inside rest))
      (λ _. a_line t cells inside (into s (own_cells q cell) (add q cell) rest)))))
  numbers-by t cells inside rest true b later = in-front t.number (numbers_of (new_steps q inside)) (element_numbers inside)
      (element_numbers (add q cell inside)) (element_numbers rest) (deep inside)
  numbers-by t cells inside rest false true later = new-line (element_numbers (a_line t cells inside rest))
  numbers-by t cells inside rest false false later =
      behind t.number (numbers_of (new_steps (s ∷ q) rest)) (element_numbers inside) (element_numbers rest)
      (element_numbers (into s (own_cells q cell) (add q cell) rest)) later

  numbers-into : (plan : Plan)
      → Inserted (element_numbers plan) (numbers_of (new_steps (s ∷ q) plan)) (element_numbers (into s (own_cells q cell) (add q cell) plan))
  numbers-into nothing = new-line []
  numbers-into (a_line t cells inside rest) = numbers-by t cells inside rest (same_step s t) (nat_lt s.number t.number) (numbers-into rest)

pub numbers-add : (q : List Step) (cell : Cell) (plan : Plan)
    → Inserted (element_numbers plan) (numbers_of (new_steps q plan)) (element_numbers (add q cell plan))
numbers-add [] cell plan = record {
  front = element_numbers plan;
  back = [];
  was_is = sym (append-nil (element_numbers plan));
  is_is =
      sym (append-nil (element_numbers plan));
}
numbers-add (s ∷ q) cell plan = numbers-into s q cell (λ inside. numbers-add q cell inside) plan

pub distinct-add : (top : ℕ) (q : List Step) (cell : Cell) (plan : Plan) → are_new top (new_steps q plan) ≡ true → all_below top (element_numbers plan) ≡ true
    → are_distinct (element_numbers plan) ≡ true
    → are_distinct (element_numbers (add q cell plan)) ≡ true
distinct-add top q cell plan h below d =
    let x = numbers-add q cell plan in
    ap are_distinct x.is_is
    ∙ distinct-between top (new_steps q plan) x.front x.back h (ap (all_below top) (sym x.was_is) ∙ below) (ap are_distinct (sym x.was_is) ∙ d)
