-- Rows below an element by the steps that are left of their paths, and the lines that they make: each line has the rows that end at it, and what is
-- inside it is made of those that go on through it.
use Rattle.std.proofs.Common.{◌≡◌, ℕ, ◌+◌, ◌<◌, Bool, true, false, ◌&&◌, ◌||◌, not, List, [], ◌∷◌, ◌++◌, flat_map, ◌⊎◌, inl, inr, refl, sym, ap, ◌∙◌, subst}
use Rattle.std.proofs.Common.{append_assoc, arith}
use Rattle.std.specs.Prelude.{◌==◌, nat_lt}
use Rattle.std.specs.List.{list_any}
use Rattle.std.proofs.lemmas.Bool.{false≢true}
use Rattle.std.proofs.lemmas.Bool.Decides.{nat_tests}
use Rattle.std.proofs.lemmas.List.Concat.{flat_map-append}
use Rattle.bind_rows.specs.declared.rows.Step.{Step}
use Rattle.bind_rows.specs.declared.rows.Row.{Row}
use Rattle.bind_rows.specs.Same.{same_step, same_rest_of_step, choose}
use Rattle.bind_table.specs.Lines.{Cell, Plan, nothing, a_line, into, own_cells, add, grown}
use Rattle.bind_table.specs.Laid.{element_numbers, are_distinct}
use Rattle.bind_table.proofs.SameLemmas.{step-sound}
use Rattle.bind_table.proofs.PathLemmas.{step-itself}
use Rattle.binding_laws.proofs.TreeLemmas.{Each, each-append, each-weaker}
use Rattle.binding_laws.proofs.ListLemmas.{append-nil, both-true}

pub record Item : Type 0 where
  pub path : List Step
  pub cell : Cell

abbrev pub items_from : ℕ → List Row → List Item
items_from n [] = []
items_from n (row ∷ rows) = record { path = row.path; cell = record { number = n; row = row } } ∷ items_from (n + 1) rows

-- ---- the rows that go on through an element, and those that end

abbrev pub tail_by : Bool → List Step → Cell → List Item
tail_by true path cell = record { path = path; cell = cell } ∷ []
tail_by false path cell = []

abbrev pub tail_at : ℕ → List Step → Cell → List Item
tail_at n [] cell = []
tail_at n (s ∷ path) cell = tail_by (s.number == n) path cell

abbrev pub tail_of : ℕ → Item → List Item
tail_of n item = tail_at n item.path item.cell

abbrev pub tails : ℕ → List Item → List Item
tails n items = flat_map (tail_of n) items

abbrev pub end_at : List Step → Cell → List Cell
end_at [] cell = cell ∷ []
end_at (s ∷ path) cell = []

abbrev pub end_of : Item → List Cell
end_of item = end_at item.path item.cell

abbrev pub ends_of : List Item → List Cell
ends_of items = flat_map end_of items

-- ---- the lines of rows

abbrev pub grow : Plan → List Item → Plan
grow plan [] = plan
grow plan (i ∷ is) = grow (add i.path i.cell plan) is

abbrev pub plan_from : List Item → Plan
plan_from items = grow nothing items

pub grown-is : (plan : Plan) (n : ℕ) (rows : List Row) → grown plan n rows ≡ grow plan (items_from n rows)
grown-is plan n [] = refl
grown-is plan n (row ∷ rows) = grown-is (add row.path (record { number = n; row = row }) plan) (n + 1) rows

grow-snoc : (plan : Plan) (is : List Item) (i : Item) → grow plan (is ++ i ∷ []) ≡ add i.path i.cell (grow plan is)
grow-snoc plan [] i = refl
grow-snoc plan (j ∷ is) i = grow-snoc (add j.path j.cell plan) is i

-- ---- what is known of the lines of rows

-- a line with these rows in it: it has those that end at it, and in it stand those that go on; there are some
abbrev pub LineOf : List Cell → Plan → List Item → Type 0
LineOf cells inside items = (cells ≡ ends_of items) × ((inside ≡ plan_from items) × (items ≡ [] → ⊥))

abbrev pub Of : Plan → List Item → Type 0
Of nothing items = Unit {0}
Of (a_line s cells inside rest) items = LineOf cells inside (tails s.number items) × Of rest items

abbrev pub Higher : ℕ → Plan → Type 0
Higher n nothing = Unit {0}
Higher n (a_line s cells inside rest) = (n < s.number) × Higher n rest

-- The numbers of lines beside one another rise.
abbrev pub Rises : Plan → Type 0
Rises nothing = Unit {0}
Rises (a_line s cells inside rest) = Higher s.number rest × Rises rest

abbrev pub HasLine : Step → Plan → Type 0
HasLine u nothing = ⊥
HasLine u (a_line s cells inside rest) = (u ≡ s) ⊎ HasLine u rest

abbrev pub FirstIn : Plan → List Step → Type 0
FirstIn plan [] = Unit {0}
FirstIn plan (s ∷ path) = HasLine s plan

abbrev pub HasFirst : Plan → Item → Type 0
HasFirst plan item = FirstIn plan item.path

pub record Made (plan : Plan) (items : List Item) : Type 0 where
  pub are : Of plan items
  pub rises : Rises plan
  pub first : Each (HasFirst plan) items

-- ---- numbers of lines that are one element each

-- the lines beside one another whose numbers aren't one number are others
abbrev pub Apart : Step → Plan → Type 0
Apart u nothing = Unit {0}
Apart u (a_line s cells inside rest) = (same_step u s ≡ (u.number == s.number)) × Apart u rest

pub number-itself : (n : ℕ) → (n == n) ≡ true
number-itself n = grind (arith, nat_tests)

abbrev number_of : Step → ℕ
number_of s = s.number

pub none-of-any : (p : ℕ → Bool) (xs ys : List ℕ) → list_any p (xs ++ ys) ≡ false → list_any p ys ≡ false
none-of-any p [] ys h = h
none-of-any p (x ∷ xs) ys h = none-of-any p xs ys (go (p x) (list_any p (xs ++ ys)) h)
  where
    go : (a b : Bool) → (a || b) ≡ false → b ≡ false
    go true b e = absurd (false≢true (sym e))
    go false b e = e

pub or-first : (a b : Bool) → (a || b) ≡ false → a ≡ false
or-first true b e = absurd (false≢true (sym e))
or-first false b e = refl

pub or-second : (a b : Bool) → (a || b) ≡ false → b ≡ false
or-second true b e = absurd (false≢true (sym e))
or-second false b e = e

line-number : (n : ℕ) (u : Step) (plan : Plan) → HasLine u plan → list_any (λ m. n == m) (element_numbers plan) ≡ false → (n == u.number) ≡ false
line-number n u nothing h e = elim h [ ]
line-number n u (a_line s cells inside rest) (inl k) e = subst (λ (t : Step). (n == t.number) ≡ false) (sym k) (or-first (n == s.number) _ e)
line-number n u (a_line s cells inside rest) (inr k) e =
    line-number n u rest k (none-of-any (λ m. n == m) (element_numbers inside) (element_numbers rest) (or-second (n == s.number) _ e))

distinct-here : (n : ℕ) (ns : List ℕ) → are_distinct (n ∷ ns) ≡ true → list_any (λ m. n == m) ns ≡ false
distinct-here n ns h = go (list_any (λ m. n == m) ns) (both-true (not (list_any (λ m. n == m) ns)) (are_distinct ns) h).0
  where
    go : (b : Bool) → not b ≡ true → b ≡ false
    go true e = absurd (false≢true e)
    go false e = refl

distinct-behind : (xs ys : List ℕ) → are_distinct (xs ++ ys) ≡ true → are_distinct ys ≡ true
distinct-behind [] ys h = h
distinct-behind (x ∷ xs) ys h = distinct-behind xs ys (both-true (not (list_any (λ m. x == m) (xs ++ ys))) (are_distinct (xs ++ ys)) h).1

any-front : (p : ℕ → Bool) (xs ys : List ℕ) → list_any p (xs ++ ys) ≡ false → list_any p xs ≡ false
any-front p [] ys h = refl
any-front p (x ∷ xs) ys h = go (p x) (list_any p xs) (or-first (p x) _ h) (any-front p xs ys (or-second (p x) _ h))
  where
    go : (a b : Bool) → a ≡ false → b ≡ false → (a || b) ≡ false
    go true b e f = e
    go false b e f = f

distinct-front : (xs ys : List ℕ) → are_distinct (xs ++ ys) ≡ true → are_distinct xs ≡ true
distinct-front [] ys h = refl
distinct-front (x ∷ xs) ys h =
    let parts = both-true (not (list_any (λ m. x == m) (xs ++ ys))) (are_distinct (xs ++ ys)) h in
    go (list_any (λ m. x == m) xs) (are_distinct xs) (any-front (λ m. x == m) xs ys (distinct-here x (xs ++ ys) h)) (distinct-front xs ys parts.1)
  where
    go : (a b : Bool) → a ≡ false → b ≡ true → (not a && b) ≡ true
    go true b e f = absurd (false≢true (sym e))
    go false b e f = f

pub distinct-inside : (s : Step) (cells : List Cell) (inside rest : Plan) → are_distinct (element_numbers (a_line s cells inside rest)) ≡ true →
    are_distinct (element_numbers inside) ≡ true
distinct-inside s cells inside rest h = distinct-front (element_numbers inside) (element_numbers rest) (both-true (not (list_any (λ m. s.number == m) _)) _ h).1

pub distinct-rest : (s : Step) (cells : List Cell) (inside rest : Plan) → are_distinct (element_numbers (a_line s cells inside rest)) ≡ true →
    are_distinct (element_numbers rest) ≡ true
distinct-rest s cells inside rest h = distinct-behind (element_numbers inside) (element_numbers rest) (both-true (not (list_any (λ m. s.number == m) _)) _ h).1

number-back : (m n : ℕ) → (m == n) ≡ false → (n == m) ≡ false
number-back m n h = grind (arith, nat_tests)

-- ---- lines of one plan

abbrev step_by : Step → Step → Bool → Bool
step_by u v b = choose b (λ _. same_rest_of_step u v) (λ _. false)

told-by_numbers : (plan : Plan) (u v : Step) → are_distinct (element_numbers plan) ≡ true → HasLine u plan → HasLine v plan →
    same_step u v ≡ (u.number == v.number)
told-by_numbers nothing u v d h k = elim h [ ]
told-by_numbers (a_line s cells inside rest) u v d (inl e) (inl f) =
    subst (λ (x : Step). same_step x v ≡ (x.number == v.number)) (sym e)
    (subst (λ (y : Step). same_step s y ≡ (s.number == y.number)) (sym f) (step-itself s ∙ sym (number-itself s.number)))
told-by_numbers (a_line s cells inside rest) u v d (inl e) (inr k) =
    let n = line-number s.number v rest k (none-of-any (λ m. s.number == m) (element_numbers inside) (element_numbers rest) (distinct-here s.number _ d)) in
    subst (λ (x : Step). same_step x v ≡ (x.number == v.number)) (sym e) (ap (step_by s v) n ∙ sym n)
told-by_numbers (a_line s cells inside rest) u v d (inr h) (inl f) =
    let n = number-back s.number u.number (line-number s.number u rest h
    (none-of-any (λ m. s.number == m) (element_numbers inside) (element_numbers rest) (distinct-here s.number _ d))) in
    subst (λ (y : Step). same_step u y ≡ (u.number == y.number)) (sym f) (ap (step_by u s) n ∙ sym n)
told-by_numbers (a_line s cells inside rest) u v d (inr h) (inr k) = told-by_numbers rest u v (distinct-rest s cells inside rest d) h k

-- two lines of one number are one
pub one-line : (plan : Plan) (u v : Step) → are_distinct (element_numbers plan) ≡ true → HasLine u plan → HasLine v plan → (u.number == v.number) ≡ true → u ≡ v
one-line plan u v d h k e = step-sound u v (told-by_numbers plan u v d h k ∙ e)

apart-from : (whole : Plan) (u : Step) (plan : Plan) → are_distinct (element_numbers whole) ≡ true → HasLine u whole →
    ((v : Step) → HasLine v plan → HasLine v whole) → Apart u plan
apart-from whole u nothing d h k = tt
apart-from whole u (a_line s cells inside rest) d h k =
    (told-by_numbers whole u s d h (k s (inl refl)), apart-from whole u rest d h (λ v x. k v (inr x)))

-- ---- one more row

module _ (u : Step) (own : List Cell → List Cell) (deeper : Plan → Plan) where
  pub into-keeps : (v : Step) (plan : Plan) → HasLine v plan → HasLine v (into u own deeper plan)
  into-keeps v nothing h = elim h [ ]
  into-keeps v (a_line t cells inside rest) h = go (same_step u t) (nat_lt u.number t.number) (into-keeps v rest) h
    where
      go : (a b : Bool) → (HasLine v rest → HasLine v (into u own deeper rest)) → HasLine v (a_line t cells inside rest)
          → HasLine v (choose a (λ _. a_line t (own cells) (deeper inside) rest)
          (λ _. choose b (λ _. a_line u (own []) (deeper nothing) (a_line t cells inside rest)) (λ _. a_line t cells inside (into u own deeper rest))))
      go true b f k = k
      go false true f k = inr k
      go false false f (inl e) = inl e
      go false false f (inr k) = inr (f k)

  pub into-has : (plan : Plan) → HasLine u (into u own deeper plan)
  into-has nothing = inl refl
  into-has (a_line t cells inside rest) = go (same_step u t) (nat_lt u.number t.number) (into-has rest) (step-sound u t)
    where
      go : (a b : Bool) → HasLine u (into u own deeper rest) → (a ≡ true → u ≡ t)
          → HasLine u (choose a (λ _. a_line t (own cells) (deeper inside) rest)
          (λ _. choose b (λ _. a_line u (own []) (deeper nothing) (a_line t cells inside rest)) (λ _. a_line t cells inside (into u own deeper rest))))
      go true b f k = inl (k refl)
      go false true f k = inl refl
      go false false f k = inr f

  into-higher : (n : ℕ) (plan : Plan) → n < u.number → Higher n plan → Higher n (into u own deeper plan)
  into-higher n nothing l h = (l, tt)
  into-higher n (a_line t cells inside rest) l h = go (same_step u t) (nat_lt u.number t.number) (into-higher n rest l h.1)
    where
      go : (a b : Bool) → Higher n (into u own deeper rest) → Higher n (choose a (λ _. a_line t (own cells) (deeper inside) rest)
          (λ _. choose b (λ _. a_line u (own []) (deeper nothing) (a_line t cells inside rest)) (λ _. a_line t cells inside (into u own deeper rest))))
      go true b f = h
      go false true f = (l, h)
      go false false f = (h.0, f)

higher-more : (n m : ℕ) (plan : Plan) → n < m → Higher m plan → Higher n plan
higher-more n m nothing l h = tt
higher-more n m (a_line t cells inside rest) l h = (omega (arith, h.0), higher-more n m rest l h.1)

less-than : (m n : ℕ) → nat_lt m n ≡ true → m < n
less-than m n h = grind (arith, nat_tests)

greater-than : (m n : ℕ) → (m == n) ≡ false → nat_lt m n ≡ false → n < m
greater-than m n h k = grind (arith, nat_tests)

same-numbers : (m n : ℕ) → (m == n) ≡ true → m ≡ n
same-numbers m n h = grind (arith, nat_tests)

pub below-other : (m n : ℕ) → m < n → (m == n) ≡ false
below-other m n h = grind (arith, nat_tests)

module _ (u : Step) (own : List Cell → List Cell) (deeper : Plan → Plan) where
  into-rises : (plan : Plan) → Rises plan → Apart u plan → Rises (into u own deeper plan)
  into-rises nothing r a = (tt, tt)
  into-rises (a_line t cells inside rest) r a =
      go (same_step u t) (nat_lt u.number t.number) (into-rises rest r.1 a.1) (λ e f. greater-than u.number t.number (sym a.0 ∙ e) f)
      (less-than u.number t.number)
    where
      go : (x y : Bool) → Rises (into u own deeper rest) → (x ≡ false → y ≡ false → t.number < u.number) → (y ≡ true → u.number < t.number)
          → Rises (choose x (λ _. a_line t (own cells) (deeper inside) rest)
          (λ _. choose y (λ _. a_line u (own []) (deeper nothing) (a_line t cells inside rest)) (λ _. a_line t cells inside (into u own deeper rest))))
      go true y f g l = r
      go false true f g l = ((l refl, higher-more u.number t.number rest (l refl) r.0), r)
      go false false f g l = (into-higher u own deeper t.number rest (g refl refl) r.0, f)

-- ---- what the lines have, with one more row

tails-snoc : (n : ℕ) (items : List Item) (i : Item) → tails n (items ++ i ∷ []) ≡ tails n items ++ tail_of n i
tails-snoc n items i = flat_map-append (tail_of n) items (i ∷ []) ∙ ap (λ l. tails n items ++ l) (append-nil (tail_of n i))

abbrev pub SomeOf : {X : Type 0} → List X → Type 0
SomeOf [] = ⊥
SomeOf (x ∷ xs) = Unit {0}

pub some-of : {X : Type 0} (xs : List X) → SomeOf xs → xs ≡ [] → ⊥
some-of xs s e = subst SomeOf e s

snoc-some : {X : Type 0} (xs : List X) (x : X) → SomeOf (xs ++ x ∷ [])
snoc-some [] x = tt
snoc-some (y ∷ xs) x = tt

line-more : (path : List Step) (cell : Cell) (cells : List Cell) (inside : Plan) (items : List Item) → cells ≡ ends_of items → inside ≡ plan_from items
    → LineOf (own_cells path cell cells) (add path cell inside) (items ++ record { path = path; cell = cell } ∷ [])
line-more path cell cells inside items e f = (
  ends path e,
  (
    ap (add path cell) f ∙ sym (grow-snoc nothing items (record { path = path; cell = cell })),
    some-of (items ++ record { path = path; cell = cell } ∷ []) (snoc-some items (record { path = path; cell = cell })),
  ),
)
  where
    ends : (path : List Step) → cells ≡ ends_of items → own_cells path cell cells ≡ ends_of (items ++ record { path = path; cell = cell } ∷ [])
    ends [] e = ap (λ l. l ++ cell ∷ []) e ∙ sym (flat_map-append end_of items (record { path = []; cell = cell } ∷ []))
    ends (s ∷ path) e = e ∙ sym (flat_map-append end_of items (record { path = s ∷ path; cell = cell } ∷ []) ∙ append-nil (ends_of items))

of-same : (plan : Plan) (items more : List Item) → ((n : ℕ) → tails n more ≡ tails n items) → Of plan items → Of plan more
of-same nothing items more h o = tt
of-same (a_line s cells inside rest) items more h o = (subst (LineOf cells inside) (sym (h s.number)) o.0, of-same rest items more h o.1)

module _ (u : Step) (path : List Step) (cell : Cell) (items : List Item) where
  abbrev one_item : Item
  one_item = record { path = u ∷ path; cell = cell }

  abbrev more_items : List Item
  more_items = items ++ one_item ∷ []

  tails-other : (n : ℕ) → (u.number == n) ≡ false → tails n more_items ≡ tails n items
  tails-other n e = tails-snoc n items one_item ∙ (ap (λ b. tails n items ++ tail_by b path cell) e ∙ append-nil (tails n items))

  tails-one : (n : ℕ) → (u.number == n) ≡ true → tails n more_items ≡ tails n items ++ record { path = path; cell = cell } ∷ []
  tails-one n e = tails-snoc n items one_item ∙ ap (λ b. tails n items ++ tail_by b path cell) e

  line-other : (n : ℕ) (cells : List Cell) (inside : Plan) → (u.number == n) ≡ false → LineOf cells inside (tails n items) →
      LineOf cells inside (tails n more_items)
  line-other n cells inside e h = subst (LineOf cells inside) (sym (tails-other n e)) h

  line-one : (n : ℕ) (cells : List Cell) (inside : Plan) → (u.number == n) ≡ true → cells ≡ ends_of (tails n items) → inside ≡ plan_from (tails n items)
      → LineOf (own_cells path cell cells) (add path cell inside) (tails n more_items)
  line-one n cells inside e f g = subst (LineOf (own_cells path cell cells) (add path cell inside)) (sym (tails-one n e))
      (line-more path cell cells inside (tails n items) f g)

  of-higher : (plan : Plan) → Higher u.number plan → Of plan items → Of plan more_items
  of-higher nothing h o = tt
  of-higher (a_line t cells inside rest) h o = (line-other t.number cells inside (below-other u.number t.number h.0) o.0, of-higher rest h.1 o.1)

  abbrev Missing : Plan → Type 0
  Missing nothing = Unit {0}
  Missing (a_line t cells inside rest) = ((u.number == t.number) ≡ false) × Missing rest

  missing-higher : (plan : Plan) → Higher u.number plan → Missing plan
  missing-higher nothing h = tt
  missing-higher (a_line t cells inside rest) h = (below-other u.number t.number h.0, missing-higher rest h.1)

  missing-has : (v : Step) (plan : Plan) → Missing plan → HasLine v plan → (u.number == v.number) ≡ false
  missing-has v nothing m h = elim h [ ]
  missing-has v (a_line t cells inside rest) m (inl e) = subst (λ (x : Step). (u.number == x.number) ≡ false) (sym e) m.0
  missing-has v (a_line t cells inside rest) m (inr h) = missing-has v rest m.1 h

  tail-none : (plan : Plan) (path' : List Step) (cell' : Cell) → Missing plan → FirstIn plan path' → tail_at u.number path' cell' ≡ []
  tail-none plan [] cell' m h = refl
  tail-none plan (v ∷ path') cell' m h = ap (λ b. tail_by b path' cell') (number-back u.number v.number (missing-has v plan m h))

  tails-none : (plan : Plan) (is : List Item) → Missing plan → Each (HasFirst plan) is → tails u.number is ≡ []
  tails-none plan [] m h = refl
  tails-none plan (i ∷ is) m h = ap (λ l. l ++ tails u.number is) (tail-none plan i.path i.cell m h.0) ∙ tails-none plan is m h.1

  new-line : tails u.number items ≡ [] → LineOf (own_cells path cell []) (add path cell nothing) (tails u.number more_items)
  new-line e = line-one u.number [] nothing (number-itself u.number) (ap ends_of (sym e)) (ap plan_from (sym e))

  into-of : (plan : Plan) → Rises plan → Apart u plan → Of plan items → (Missing plan → tails u.number items ≡ []) →
      Of (into u (own_cells path cell) (add path cell) plan) more_items
  into-of nothing r a o m = (new-line (m tt), tt)
  into-of (a_line t cells inside rest) r a o m =
      go (same_step u t) (nat_lt u.number t.number) (sym a.0) (less-than u.number t.number)
      (λ e. into-of rest r.1 a.1 o.1 (λ k. m (e, k)))
    where
      go : (x y : Bool) → (u.number == t.number) ≡ x → (y ≡ true → u.number < t.number)
          → ((u.number == t.number) ≡ false → Of (into u (own_cells path cell) (add path cell) rest) more_items)
          → Of (choose x (λ _. a_line t (own_cells path cell cells) (add path cell inside) rest)
          (λ _. choose y (λ _. a_line u (own_cells path cell []) (add path cell nothing) (a_line t cells inside rest))
          (λ _. a_line t cells inside (into u (own_cells path cell) (add path cell) rest)))) more_items
      go true y e l f = (
        line-one t.number cells inside e o.0.0 o.0.1.0,
        of-higher rest (subst (λ n. Higher n rest) (sym (same-numbers u.number t.number e)) r.0) o.1,
      )
      go false true e l f =
          let above = higher-more u.number t.number rest (l refl) r.0 in
          (new-line (m (e, missing-higher rest above)), (line-other t.number cells inside e o.0, of-higher rest above o.1))
      go false false e l f = (line-other t.number cells inside e o.0, f e)

-- ---- many rows

grow-keeps : (v : Step) (plan : Plan) (is : List Item) → HasLine v plan → HasLine v (grow plan is)
grow-keeps v plan [] h = h
grow-keeps v plan (i ∷ is) h = grow-keeps v (add i.path i.cell plan) is (go i.path)
  where
    go : (path : List Step) → HasLine v (add path i.cell plan)
    go [] = h
    go (s ∷ path) = into-keeps s (own_cells path i.cell) (add path i.cell) v plan h

grow-has : (u : Step) (path : List Step) (cell : Cell) (plan : Plan) (is : List Item) → HasLine u (grow plan (record { path = u ∷ path; cell = cell } ∷ is))
grow-has u path cell plan is = grow-keeps u (into u (own_cells path cell) (add path cell) plan) is (into-has u (own_cells path cell) (add path cell) plan)

first-kept : (plan more : Plan) (path : List Step) → ((v : Step) → HasLine v plan → HasLine v more) → FirstIn plan path → FirstIn more path
first-kept plan more [] k h = tt
first-kept plan more (s ∷ path) k h = k s h

firsts-kept : (plan more : Plan) (is : List Item) → ((v : Step) → HasLine v plan → HasLine v more) → Each (HasFirst plan) is → Each (HasFirst more) is
firsts-kept plan more is k h = each-weaker (HasFirst plan) (HasFirst more) is (λ i. first-kept plan more i.path k) h

made-one : (whole plan : Plan) (done : List Item) (path : List Step) (cell : Cell) (is : List Item) → are_distinct (element_numbers whole) ≡ true
    → grow plan (record { path = path; cell = cell } ∷ is) ≡ whole → Made plan done →
    Made (add path cell plan) (done ++ record { path = path; cell = cell } ∷ [])
made-one whole plan done [] cell is d e m = record {
  are = of-same plan done (done ++ record { path = []; cell = cell } ∷ []) (λ n. tails-snoc n done (record { path = []; cell = cell }) ∙
      append-nil (tails n done)) m.are;
  rises = m.rises;
  first = each-append (HasFirst plan) done (record { path = []; cell = cell } ∷ []) m.first (tt, tt);
}
made-one whole plan done (u ∷ path) cell is d e m =
    let has = subst (HasLine u) e (grow-has u path cell plan is) in
    let within = λ (v : Step) (h : HasLine v plan). subst (HasLine v) e (grow-keeps v plan (record { path = u ∷ path; cell = cell } ∷ is) h) in
    let a = apart-from whole u plan d has within in
    let more = into u (own_cells path cell) (add path cell) plan in record {
      are = into-of u path cell done plan m.rises a m.are (λ k. tails-none u path cell done plan done k m.first);
      rises = into-rises u (own_cells path cell) (add path cell) plan m.rises a;
      first = each-append (HasFirst more) done (record { path = u ∷ path; cell = cell } ∷ [])
          (firsts-kept plan more done (λ v. into-keeps u (own_cells path cell) (add path cell) v plan) m.first)
          (into-has u (own_cells path cell) (add path cell) plan, tt);
    }

made-grow : (whole : Plan) (plan : Plan) (done is : List Item) → are_distinct (element_numbers whole) ≡ true → grow plan is ≡ whole → Made plan done →
    Made whole (done ++ is)
made-grow whole plan done [] d e m = subst (λ (p : Plan). Made p (done ++ [])) e (subst (Made plan) (sym (append-nil done)) m)
made-grow whole plan done (i ∷ is) d e m =
    subst (Made whole) (append_assoc done (i ∷ []) is)
    (made-grow whole (add i.path i.cell plan) (done ++ i ∷ []) is d e (made-one whole plan done i.path i.cell is d e m))

-- the lines of rows whose numbers are each one element
pub made : (items : List Item) → are_distinct (element_numbers (plan_from items)) ≡ true → Made (plan_from items) items
made items d = made-grow (plan_from items) nothing [] items d refl (record { are = tt; rises = tt; first = tt })
