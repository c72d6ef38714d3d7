-- Numbers that rise are those of the nodes that are among them.
use Rattle.std.proofs.Common.{◌≡◌, ℕ, ◌<◌, Bool, true, false, ◌&&◌, ◌||◌, ◌==◌, ⊎_elim, List, [], ◌∷◌, ◌++◌, map, reverse, refl, ap, sym, subst, ◌∙◌, arith}
use Rattle.std.specs.Prelude.{filter, nat_lt}
use Rattle.std.proofs.lemmas.List.{reverse-append, reverse-reverse}
use Rattle.std.proofs.lemmas.Bool.{and_parts, and_from, or_cases, ltb-true, eqb-true, eq-eqb, or_left, false≢true}
use Rattle.std.specs.Prelude.{eqb}
use Rattle.std.specs.List.{list_any, dedup, dedup_from}
use Rattle.std.specs.List.Sorted.{IsSorted, IsStrictlySortedBy}
use Rattle.std.specs.Ordering.{nat_cmp, eq_by_cmp}
use Rattle.std.specs.declared.cmp.Ordering.TheVariants.{Less}
use Rattle.std.proofs.lemmas.Cmp.{nat_cmp_total}
use Rattle.std.proofs.lemmas.List.Kept.{IsStrictlySortedBy-dedup}
use Rattle.std.proofs.lemmas.Bool.Decides.{nat_tests}
use Rattle.inv_base.specs.Tree.{Node, is_among}
use Rattle.node_arena.specs.Moves.{tree_node}
use Rattle.xpath_meaning.specs.Steps.{has_node, node_item, in_document_order}
use Rattle.xpath_walks.specs.Order.{AreNumbers, node_items, rises}
use Rattle.xpath_walks.specs.Walks.{node_numbers}
use Rattle.xpath_walks.proofs.FilterLemmas.{alike}
use Rattle.xpath_walks.proofs.ReverseLemmas.{Falls, falling, reverse-numbers}

or_assoc : (x y z : Bool) → (x || (y || z)) ≡ ((x || y) || z)
or_assoc true y z = refl
or_assoc false y z = refl

or_turned : (x y : Bool) → (x || (y || false)) ≡ (y || x)
or_turned true true = refl
or_turned true false = refl
or_turned false true = refl
or_turned false false = refl

among-append : (m : ℕ) (xs ys : List ℕ) → is_among m (xs ++ ys) ≡ (is_among m xs || is_among m ys)
among-append m [] ys = refl
among-append m (x ∷ xs) ys = ap (λ b. m == x || b) (among-append m xs ys) ∙ or_assoc (m == x) (is_among m xs) (is_among m ys)

among-reverse : (m : ℕ) (xs : List ℕ) → is_among m (reverse xs) ≡ is_among m xs
among-reverse m [] = refl
among-reverse m (x ∷ xs) =
    ap (is_among m) (reverse-append (x ∷ []) xs)
    ∙ (among-append m (reverse xs) (x ∷ [])
    ∙ (ap (λ b. b || (m == x || false)) (among-reverse m xs) ∙ or_turned (is_among m xs) (m == x)))

above_first : (n : ℕ) (ns : List ℕ) → rises (n ∷ ns) ≡ true → (m : ℕ) → is_among m ns ≡ true → n < m
above_first n [] r m e = absurd (false≢true e)
above_first n (k ∷ ns) r m e =
    let parts = and_parts (nat_lt n k) (rises (k ∷ ns)) r in
    let lower : n < k = ltb-true n k parts.0 in
    ⊎_elim
    (λ (same : (m == k) ≡ true). omega (arith, eqb-true m k same, lower))
    (λ (more : is_among m ns ≡ true). omega (arith, above_first k ns parts.1 m more, lower))
    (or_cases (m == k) (is_among m ns) e)

rest_rises : (n : ℕ) (ns : List ℕ) → rises (n ∷ ns) ≡ true → rises ns ≡ true
rest_rises n [] r = refl
rest_rises n (k ∷ ns) r = (and_parts (nat_lt n k) (rises (k ∷ ns)) r).1

or_after : (a b : Bool) → b ≡ true → (a || b) ≡ true
or_after true b e = refl
or_after false b e = e

below_last : (x : ℕ) (xs : List ℕ) (n m : ℕ) → ((m : ℕ) → is_among m xs ≡ true → m < x) → n < x → is_among m (xs ++ n ∷ []) ≡ true → m < x
below_last x xs n m f l e = ⊎_elim
    (λ (here : is_among m xs ≡ true). f m here)
    (λ (last : (m == n || false) ≡ true). ⊎_elim
    (λ (same : (m == n) ≡ true). omega (arith, eqb-true m n same, l))
    (λ (no : false ≡ true). absurd (false≢true no))
    (or_cases (m == n) false last))
    (or_cases (is_among m xs) (m == n || false) (sym (among-append m xs (n ∷ [])) ∙ e))

falls_end : (xs : List ℕ) (n : ℕ) → Falls xs → ((m : ℕ) → is_among m xs ≡ true → n < m) → Falls (xs ++ n ∷ [])
falls_end [] n f above = ((λ m e. absurd (false≢true e)), tt)
falls_end (x ∷ xs) n f above = (
  (λ m e. below_last x xs n m f.0 (above x (or_left (x == x) (is_among x xs) (eq-eqb x x refl))) e),
  falls_end xs n f.1 (λ m e. above m (or_after (m == x) (is_among m xs) e)),
)

falls_back : (ns : List ℕ) → rises ns ≡ true → Falls (reverse ns)
falls_back [] r = tt
falls_back (n ∷ ns) r =
    subst Falls (sym (reverse-append (n ∷ []) ns))
    (falls_end (reverse ns) n (falls_back ns (rest_rises n ns r)) (λ m e. above_first n ns r m (sym (among-reverse m ns) ∙ e)))

filter-all : (ns : List ℕ) → filter (λ _. true) ns ≡ ns
filter-all [] = refl
filter-all (n ∷ ns) = ap (λ xs. n ∷ xs) (filter-all ns)

and_true : (b : Bool) → b ≡ (b && true)
and_true true = refl
and_true false = refl

pub rising : (all : List Node) (ns : List ℕ) → AreNumbers all ns → rises ns ≡ true → ns ≡ node_numbers (filter (λ (node : Node). is_among node.number ns) all)
rising all ns h r =
    let p : Node → Bool = λ node. is_among node.number ns in
    let q : Node → Bool = λ node. is_among node.number (reverse ns) && true in
    let back : node_numbers (reverse (filter q all)) ≡ filter (λ _. true) (reverse ns) =
    falling all h.counted (λ _. true) (reverse ns) (falls_back ns r) (λ m e. h.within m (sym (among-reverse m ns) ∙ e)) in
    let same : filter q all ≡ filter p all = alike q p 0 all (λ k l b. sym (and_true (is_among (tree_node all k).number (reverse ns))) ∙
    among-reverse (tree_node all k).number ns) in
    sym (reverse-reverse ns)
    ∙ (ap reverse (sym (filter-all (reverse ns)) ∙ sym back)
    ∙ (ap reverse (sym (reverse-numbers (filter q all)))
    ∙ (reverse-reverse (node_numbers (filter q all)) ∙ ap node_numbers same)))

pub ordered : (all : List Node) (ns ms : List ℕ) → AreNumbers all ns → rises ms ≡ true → ((n : ℕ) → is_among n ms ≡ is_among n ns)
    → ms ≡ node_numbers (filter (λ (node : Node). is_among node.number ns) all)
ordered all ns ms h r same =
    rising all ms (record { counted = h.counted; within = λ n e. h.within n (sym (same n) ∙ e) }) r
    ∙ ap node_numbers (alike (λ node. is_among node.number ms) (λ node. is_among node.number ns) 0 all (λ k l b. same (tree_node all k).number))

-- ---- what sorting leaves

less : (n m : ℕ) → nat_cmp n m ≡ Less → nat_lt n m ≡ true
less n m h = grind (arith, nat_tests)

ties : (n m : ℕ) → eqb n m ≡ eq_by_cmp nat_cmp n m
ties n m = grind (arith, nat_tests)

strict-rises : (ns : List ℕ) → IsStrictlySortedBy nat_cmp ns → rises ns ≡ true
unfolding IsStrictlySortedBy
strict-rises [] h = refl
strict-rises (n ∷ []) h = refl
strict-rises (n ∷ (m ∷ ns)) h = and_from (nat_lt n m) (rises (m ∷ ns)) (less n m h.0.0) (strict-rises (m ∷ ns) h.1)

pub dedup-rises : (ns : List ℕ) → IsSorted nat_cmp ns → rises (dedup eqb ns) ≡ true
dedup-rises ns h = strict-rises _ (IsStrictlySortedBy-dedup nat_cmp_total ties ns h)

or_twice : (a b r : Bool) → a ≡ b → (b || r) ≡ (b || (a || r))
or_twice true true r e = refl
or_twice false false r e = refl
or_twice true false r e = cc
or_twice false true r e = cc

dedup_from-among : (k : ℕ) (ns : List ℕ) (m : ℕ) → is_among m (dedup_from eqb k ns) ≡ is_among m (k ∷ ns)
dedup_from-among k [] m = refl
dedup_from-among k (x ∷ ns) m = go (eqb x k) refl (dedup_from-among k ns m) (dedup_from-among x ns m)
  where
    go : (b : Bool) → eqb x k ≡ b → is_among m (dedup_from eqb k ns) ≡ is_among m (k ∷ ns) → is_among m (dedup_from eqb x ns) ≡ is_among m (x ∷ ns)
        → is_among m (dedup_from eqb k (x ∷ ns)) ≡ is_among m (k ∷ (x ∷ ns))
    go true e h l = rw e (h ∙ or_twice (m == x) (m == k) (is_among m ns) (ap (λ y. m == y) (eqb-true x k e)))
    go false e h l = rw e (ap (λ b. m == k || b) l)

pub dedup-among : (ns : List ℕ) (m : ℕ) → is_among m (dedup eqb ns) ≡ is_among m ns
dedup-among [] m = refl
dedup-among (k ∷ ns) m = dedup_from-among k ns m

pub among-any : (m : ℕ) (ns : List ℕ) → is_among m ns ≡ list_any (λ n. m == n) ns
among-any m [] = refl
among-any m (n ∷ ns) = ap (λ b. m == n || b) (among-any m ns)

-- ---- as items

eq-turned : (m n : ℕ) → (m == n) ≡ (n == m)
eq-turned m n = grind (arith, nat_tests)

has-among : (ns : List ℕ) (n : ℕ) → is_among n ns ≡ has_node (node_items ns) n
has-among [] n = refl
has-among (m ∷ ns) n = ap (λ b. b || is_among n ns) (eq-turned n m) ∙ ap (λ b. m == n || b) (has-among ns n)

items-of : (nodes : List Node) → node_items (node_numbers nodes) ≡ map node_item nodes
items-of [] = refl
items-of (node ∷ nodes) = ap (λ xs. node_item node ∷ xs) (items-of nodes)

pub items_ordered : (all : List Node) (ns ms : List ℕ) → ms ≡ node_numbers (filter (λ (node : Node). is_among node.number ns) all)
    → node_items ms ≡ in_document_order all (node_items ns)
items_ordered all ns ms e =
    ap node_items e
    ∙ (items-of (filter (λ (node : Node). is_among node.number ns) all)
    ∙ ap (map node_item) (alike (λ node. is_among node.number ns) (λ node. has_node (node_items ns) node.number) 0 all
    (λ k l b. has-among ns (tree_node all k).number)))
