-- What leaves have inside an element, where they are those of rows that go on along their paths.
use Rattle.std.proofs.Common.{◌≡◌, ℕ, Bool, true, false, ◌&&◌, List, [], ◌∷◌, ◌++◌, flat_map, map, inl, inr, refl, sym, ap, ◌∙◌, subst, arith}
use Rattle.std.specs.Prelude.{◌==◌}
use Rattle.std.proofs.lemmas.Bool.Decides.{nat_tests}
use Rattle.std.proofs.lemmas.List.Concat.{flat_map-append}
use Rattle.term_table.specs.declared.contexts.Context.{Context}
use Rattle.inv_terms.specs.declared.entries.Entry.{Entry}
use Rattle.bind_rows.specs.declared.rows.Step.{Step}
use Rattle.bind_table.specs.Lines.{Plan, Cell}
use Rattle.bind_table.specs.Laid.{element_numbers, are_distinct}
use Rattle.binding_laws.proofs.TreeLemmas.{Each}
use Rattle.binding_laws.proofs.ListLemmas.{append-nil, flat_map-flat_map}
use Rattle.address_laws.specs.AddressTrees.{Place, Leaf, Said, same_place, comes_before, inside, behind, where_so}
use Rattle.address_laws.specs.Addresses.{Turn, turns, leaf_at, under}
use Rattle.address_laws.proofs.Orders.{In, Rising, each-in, same-itself, before-apart, before-back}
use Rattle.address_laws.proofs.Items.{Item, tails, tail_of, tail_at, tail_by, HasLine, FirstIn, HasFirst, one-line}
use Rattle.address_laws.proofs.Turns.{place_of, turns-rising}

-- ---- under one place

pub inside-under : (p : Place) (s : Step) (t : Turn) (leaves : List Leaf) → same_place p (place_of s t) ≡ true → inside p (map (under s t) leaves) ≡ leaves
inside-under p s t [] e = refl
inside-under p s t (leaf ∷ leaves) e = ap (λ b. where_so b leaf ++ inside p (map (under s t) leaves)) e ∙ ap (λ l. leaf ∷ l) (inside-under p s t leaves e)

pub outside-under : (p : Place) (s : Step) (t : Turn) (leaves : List Leaf) → same_place p (place_of s t) ≡ false → inside p (map (under s t) leaves) ≡ []
outside-under p s t [] e = refl
outside-under p s t (leaf ∷ leaves) e = ap (λ b. where_so b leaf ++ inside p (map (under s t) leaves)) e ∙ outside-under p s t leaves e

pub inside-here : (p : Place) (says : List Said) → inside p (map (leaf_at []) says) ≡ []
inside-here p [] = refl
inside-here p (said ∷ says) = inside-here p says

-- ---- under the places of several occurrences

pub inside-append : (p : Place) (xs ys : List Leaf) → inside p (xs ++ ys) ≡ inside p xs ++ inside p ys
inside-append p xs ys = flat_map-append (behind p) xs ys

pub inside-each : {X : Type 0} (p : Place) (f : X → List Leaf) (xs : List X) → inside p (flat_map f xs) ≡ flat_map (λ x. inside p (f x)) xs
inside-each p f xs = flat_map-flat_map (behind p) f xs

turns-past : (p : Place) (s : Step) (f : Turn → List Leaf) (ts : List Turn) → Each (λ q. comes_before p q ≡ true) (map (place_of s) ts)
    → inside p (flat_map (λ t. map (under s t) (f t)) ts) ≡ []
turns-past p s f [] h = refl
turns-past p s f (t ∷ ts) h =
    inside-append p (map (under s t) (f t)) (flat_map (λ t. map (under s t) (f t)) ts)
    ∙ (ap (λ l. l ++ inside p (flat_map (λ t. map (under s t) (f t)) ts)) (outside-under p s t (f t) (before-apart p (place_of s t) h.0)) ∙
    turns-past p s f ts h.1)

in-map : (s : Step) (t : Turn) (ts : List Turn) → In t ts → In (place_of s t) (map (place_of s) ts)
in-map s t [] k = elim k [ ]
in-map s t (u ∷ ts) (inl e) = inl (ap (place_of s) e)
in-map s t (u ∷ ts) (inr k) = inr (in-map s t ts k)

pub turns-inside : (s : Step) (t : Turn) (f : Turn → List Leaf) (ts : List Turn) → Rising (map (place_of s) ts) → In t ts
    → inside (place_of s t) (flat_map (λ u. map (under s u) (f u)) ts) ≡ f t
turns-inside s t f [] r k = elim k [ ]
turns-inside s t f (u ∷ ts) r (inl e) = subst (λ (v : Turn). inside (place_of s v) (flat_map (λ w. map (under s w) (f w)) (u ∷ ts)) ≡ f v) (sym e)
    (inside-append (place_of s u) (map (under s u) (f u)) (flat_map (λ w. map (under s w) (f w)) ts)
    ∙ (ap (λ l. l ++ inside (place_of s u) (flat_map (λ w. map (under s w) (f w)) ts)) (inside-under (place_of s u) s u (f u) (same-itself (place_of s u)))
    ∙ (ap (λ l. f u ++ l) (turns-past (place_of s u) s f ts r.0) ∙ append-nil (f u))))
turns-inside s t f (u ∷ ts) r (inr k) =
    inside-append (place_of s t) (map (under s u) (f u)) (flat_map (λ w. map (under s w) (f w)) ts)
    ∙ (ap (λ l. l ++ inside (place_of s t) (flat_map (λ w. map (under s w) (f w)) ts))
    (outside-under (place_of s t) s u (f u) (before-back (place_of s u) (place_of s t)
    (each-in (λ q. comes_before (place_of s u) q ≡ true) (map (place_of s) ts) (place_of s t) r.0 (in-map s t ts k))))
    ∙ turns-inside s t f ts r.1 k)

numbers-other : (m n k j : ℕ) → (n == m) ≡ false → ((m == n) && (k == j)) ≡ false
numbers-other m n k j h = grind (arith, nat_tests)

turns-other : (s u : Step) (t : Turn) (f : Turn → List Leaf) (ts : List Turn) → (u.number == s.number) ≡ false →
    inside (place_of s t) (flat_map (λ v. map (under u v) (f v)) ts) ≡ []
turns-other s u t f [] e = refl
turns-other s u t f (v ∷ ts) e =
    inside-append (place_of s t) (map (under u v) (f v)) (flat_map (λ w. map (under u w) (f w)) ts)
    ∙ (ap (λ l. l ++ inside (place_of s t) (flat_map (λ w. map (under u w) (f w)) ts))
    (outside-under (place_of s t) u v (f v) (numbers-other s.number u.number t.occurrence v.occurrence e)) ∙ turns-other s u t f ts e)

-- ---- rows that go on

module _ (es : List Entry) (c : Context) (plan : Plan) (distinct : are_distinct (element_numbers plan) ≡ true) (s : Step) (has : HasLine s plan) (t : Turn)
    (among : In t (turns es c s.group)) where
  -- of a row whose next element is u: what `next` makes of it behind an occurrence of u
  step-inside : (next : Step → Turn → List Step → Cell → List Leaf) (u : Step) (path : List Step) (cell : Cell) → HasLine u plan
      → inside (place_of s t) (flat_map (λ v. map (under u v) (next u v path cell)) (turns es c u.group)) ≡ flat_map (λ (j : Item). next s t j.path j.cell)
      (tail_by (u.number == s.number) path cell)
  step-inside next u path cell h = go (u.number == s.number) refl
    where
      go : (b : Bool) → (u.number == s.number) ≡ b
          → inside (place_of s t) (flat_map (λ v. map (under u v) (next u v path cell)) (turns es c u.group)) ≡ flat_map (λ (j : Item). next s t j.path j.cell)
          (tail_by b path cell)
      go true e = subst (λ (w : Step). inside (place_of s t) (flat_map (λ v. map (under w v) (next w v path cell)) (turns es c w.group)) ≡ next s t path cell ++
          [])
          (sym (one-line plan u s distinct h has e)) (turns-inside s t (λ v. next s v path cell) (turns es c s.group) (turns-rising es s c s.group) among ∙
          sym (append-nil (next s t path cell)))
      go false e = turns-other s u t (λ v. next u v path cell) (turns es c u.group) e

  -- of many rows: `here` is what a row says before it goes on
  pub items-inside : (front : List Step → Cell → List Leaf) (next : Step → Turn → List Step → Cell → List Leaf) (whole : List Step → Cell → List Leaf)
      → ((path : List Step) (cell : Cell) → inside (place_of s t) (front path cell) ≡ [])
      → ((cell : Cell) → whole [] cell ≡ front [] cell)
      → ((u : Step) (path : List Step) (cell : Cell) → whole (u ∷ path) cell ≡ front (u ∷ path) cell ++
      flat_map (λ v. map (under u v) (next u v path cell)) (turns es c u.group))
      → (items : List Item) → Each (HasFirst plan) items
      → inside (place_of s t) (flat_map (λ (i : Item). whole i.path i.cell) items) ≡ flat_map (λ (j : Item). next s t j.path j.cell) (tails s.number items)
  items-inside front next whole empty ending going items first =
      inside-each (place_of s t) (λ (i : Item). whole i.path i.cell) items
      ∙ (each items first ∙ sym (flat_map-flat_map (λ (j : Item). next s t j.path j.cell) (tail_of s.number) items))
    where
      one : (path : List Step) (cell : Cell) → FirstIn plan path → inside (place_of s t) (whole path cell) ≡ flat_map (λ (j : Item). next s t j.path j.cell)
          (tail_at s.number path cell)
      one [] cell h = ap (inside (place_of s t)) (ending cell) ∙ empty [] cell
      one (u ∷ path) cell h =
          ap (inside (place_of s t)) (going u path cell)
          ∙ (inside-append (place_of s t) (front (u ∷ path) cell) (flat_map (λ v. map (under u v) (next u v path cell)) (turns es c u.group))
          ∙ (ap (λ l. l ++ inside (place_of s t) (flat_map (λ v. map (under u v) (next u v path cell)) (turns es c u.group))) (empty (u ∷ path) cell) ∙
          step-inside next u path cell h))

      each : (is : List Item) → Each (HasFirst plan) is
          → flat_map (λ (i : Item). inside (place_of s t) (whole i.path i.cell)) is ≡ flat_map
          (λ (i : Item). flat_map (λ (j : Item). next s t j.path j.cell) (tail_of s.number i)) is
      each [] h = refl
      each (i ∷ is) h = ap (λ l. l ++ flat_map (λ (i : Item). inside (place_of s t) (whole i.path i.cell)) is) (one i.path i.cell h.0)
          ∙ ap (λ l. flat_map (λ (j : Item). next s t j.path j.cell) (tail_of s.number i) ++ l) (each is h.1)
