-- What a row picks stands in document order: nodes at the ends of ways rise.
use Rattle.std.proofs.Common.{◌≡◌, ℕ, ◌<◌, ◌≤◌, zero, suc, Bool, true, false, not, List, [], ◌∷◌, ◌++◌, length, Some, refl, sym, ap, subst, ◌∙◌, ◌⊎◌, inl, inr}
use Rattle.std.proofs.Common.{arith}
use Rattle.std.specs.Prelude.{nat_lt, nat_le, ◌==◌, filter, map, flat_map}
use Rattle.std.specs.List.{All, AllByRecursion}
use Rattle.std.proofs.lemmas.Bool.{false≢true, cases_Bool, and_parts, or_cases, or_left, or_right, eqb-true, eq-eqb, ltb-true, false_from_ne_true}
use Rattle.std.proofs.lemmas.Bool.Decides.{nat_tests}
use Rattle.std.proofs.lemmas.List.{append-nil, map-id}
use Rattle.std.proofs.lemmas.List.Elements.{All-weaker, All-head, All-tail, recursion_from_All, All-from_recursion}
use Rattle.inv_base.specs.Tree.{Node, is_among}
use Rattle.node_arena.specs.Moves.{tree_node, nearest, parent, is_inside, is_between, last_inside, is_child, is_attribute_of}
use Rattle.bind_rows.specs.declared.names.Leaf.{Leaf}
use Rattle.bind_rows.specs.declared.names.Leaf.TheVariants as leaves
use Rattle.bind_rows.specs.declared.rows.Step.{Step}
use Rattle.bind_rows.specs.declared.rows.Row.{Row}
use Rattle.bind_meaning.specs.Names.{has_element_name, has_plain_name}
use Rattle.bind_meaning.specs.Elements.{number, both, children_named, attributes_named, is_blank_at, are_met, met}
use Rattle.bind_meaning.specs.Picks.{Pick, ways, last_of, filled, leaves_of, picks_of_way, nodes_picked}
use Rattle.bind_seats.proofs.ListLemmas.{Rises, Rises-filter, by-weaker, All-flat_map, All-both, map-flat_map, map-twice, flat_map-flat_map, flat_map-alike}
use Rattle.bind_seats.specs.Nodes.{Numbered, Sound}
use Rattle.bind_seats.proofs.WayLemmas.{IsIn, met-in, leaves-are, IsLeaf}

-- ---- the nodes at the ends of ways

abbrev pub ends : List Node → Leaf → List Step → ℕ → List ℕ
ends nodes leaf [] n = leaves_of nodes leaf n
ends nodes leaf (step ∷ path) n = flat_map (ends nodes leaf path) (met nodes step n)

-- the end of a way from a node
abbrev last_from : ℕ → List ℕ → ℕ
last_from n [] = n
last_from n (m ∷ way) = last_from m way

last-is : (n : ℕ) (way : List ℕ) → last_of (n ∷ way) ≡ last_from n way
last-is n [] = refl
last-is n (m ∷ way) = last-is m way

last-from_top : (way : List ℕ) → last_of way ≡ last_from 0 way
last-from_top [] = refl
last-from_top (m ∷ way) = last-is m way

flat_map-map : {X Y Z : Type 0} (f : Y → List Z) (g : X → Y) (xs : List X) → flat_map f (map g xs) ≡ flat_map (λ x. f (g x)) xs
flat_map-map f g [] = refl
flat_map-map f g (x ∷ xs) = ap (λ ys. f (g x) ++ ys) (flat_map-map f g xs)

ends-are : (nodes : List Node) (leaf : Leaf) (path : List Step) (n : ℕ)
    → flat_map (λ way. leaves_of nodes leaf (last_from n way)) (ways nodes path n) ≡ ends nodes leaf path n
ends-are nodes leaf [] n = append-nil (leaves_of nodes leaf n)
ends-are nodes leaf (step ∷ path) n =
    flat_map-flat_map (λ way. leaves_of nodes leaf (last_from n way)) (λ m. map (λ way. m ∷ way) (ways nodes path m)) (met nodes step n)
    ∙ flat_map-alike (λ m. flat_map (λ way. leaves_of nodes leaf (last_from n way)) (map (λ way. m ∷ way) (ways nodes path m))) (ends nodes leaf path)
    (met nodes step n)
    (λ m. flat_map-map (λ way. leaves_of nodes leaf (last_from n way)) (λ way. m ∷ way) (ways nodes path m) ∙ ends-are nodes leaf path m)

nodes-of_way : (nodes : List Node) (k : ℕ) (row : Row) (way : List ℕ)
    → map (λ (p : Pick). p.node) (picks_of_way nodes k row way) ≡ leaves_of nodes row.leaf (last_from 0 way)
nodes-of_way nodes k row way =
    map-twice (λ (p : Pick). p.node) (λ n. record { place = k; row = row; elements = way; node = n }) (leaves_of nodes row.leaf (last_of way))
    ∙ (map-id (leaves_of nodes row.leaf (last_of way)) ∙ ap (leaves_of nodes row.leaf) (last-from_top way))

pub nodes-are_ends : (nodes : List Node) (k : ℕ) (row : Row) → map (λ (p : Pick). p.node) (nodes_picked nodes k row) ≡ ends nodes row.leaf row.path 0
nodes-are_ends nodes k row =
    map-flat_map (λ (p : Pick). p.node) (picks_of_way nodes k row) (ways nodes row.path 0)
    ∙ (flat_map-alike (λ way. map (λ (p : Pick). p.node) (picks_of_way nodes k row way)) (λ way. leaves_of nodes row.leaf (last_from 0 way))
    (ways nodes row.path 0) (nodes-of_way nodes k row)
    ∙ ends-are nodes row.leaf row.path 0)

-- ---- inside one another

-- the second is the first or inside it
abbrev Under : List Node → ℕ → ℕ → Type 0
Under nodes n x = (x < length nodes) × ((x ≡ n) ⊎ (is_inside n (tree_node nodes x) ≡ true))

inside-after : (nodes : List Node) → Sound nodes → (n x : ℕ) → n < length nodes → x < length nodes → is_inside n (tree_node nodes x) ≡ true → n < x
inside-after nodes s n x ln lx h =
    ltb-true n x (and_parts (nat_lt n x) (nat_le x (last_inside nodes n)) (sym (s.inside n x ln lx) ∙ h)).0

among-itself : (n : ℕ) (ns : List ℕ) → is_among n (n ∷ ns) ≡ true
among-itself n ns = or_left (n == n) (is_among n ns) (eq-eqb n n refl)

child-inside : (nodes : List Node) → Sound nodes → (n m : ℕ) → IsIn nodes n m → is_inside n (tree_node nodes m) ≡ true
child-inside nodes s n m h = ap (is_among n) (s.around m n h.0 h.1) ∙ among-itself n (tree_node nodes n).above

child-after : (nodes : List Node) → Sound nodes → (n m : ℕ) → n < length nodes → IsIn nodes n m → n < m
child-after nodes s n m l h = inside-after nodes s n m l h.0 (child-inside nodes s n m h)

-- a node inside another has a node around it
has-parent : (nodes : List Node) (x m : ℕ) → is_inside m (tree_node nodes x) ≡ true → (p : ℕ) × (parent nodes x ≡ Some p)
has-parent nodes x m h = go (tree_node nodes x).above refl h
  where
    go : (ns : List ℕ) → (tree_node nodes x).above ≡ ns → is_among m ns ≡ true → (p : ℕ) × (parent nodes x ≡ Some p)
    go [] e a = absurd (false≢true a)
    go (p ∷ ns) e a = (p, ap nearest e)

-- what is around a node that is around another is around that one too
inside-through : (nodes : List Node) → Sound nodes → (bound x n m : ℕ) → x < bound → x < length nodes → m < length nodes
    → is_inside n (tree_node nodes m) ≡ true → is_inside m (tree_node nodes x) ≡ true → is_inside n (tree_node nodes x) ≡ true
inside-through nodes s zero x n m b lx lm hn hm = absurd (omega arith)
inside-through nodes s (suc bound) x n m b lx lm hn hm =
    let w = has-parent nodes x m hm in
    let p : ℕ = w.0 in
    let up : (tree_node nodes x).above ≡ p ∷ (tree_node nodes p).above = s.around x p lx w.1 in
    elim (or_cases (m == p) (is_among m (tree_node nodes p).above) (sym (ap (is_among m) up) ∙ hm)) [
      | inl e ↦ ap (is_among n) up ∙ or_right (n == p) (is_among n (tree_node nodes p).above)
          (subst (λ k. is_inside n (tree_node nodes k) ≡ true) (eqb-true m p e) hn)
      | inr h ↦ (
          let lp : p < x = s.before x p lx w.1 in
          ap (is_among n) up ∙ or_right (n == p) (is_among n (tree_node nodes p).above)
          (inside-through nodes s bound p n m (omega arith) (omega arith) lm hn h))
    ]

leaf-under : (nodes : List Node) → Sound nodes → (leaf : Leaf) (n m : ℕ) → n < length nodes → IsLeaf nodes leaf n m → Under nodes n m
leaf-under nodes s leaves.Element n m l h = (subst (λ k. k < length nodes) (sym h) l, inl h)
leaf-under nodes s (leaves.Attribute local) n m l h = (h.0, inr (child-inside nodes s n m h))

under-through : (nodes : List Node) → Sound nodes → (n m x : ℕ) → n < length nodes → IsIn nodes n m → Under nodes m x → Under nodes n x
under-through nodes s n m x l is h = (
  h.0,
  inr (elim h.1 [
    | inl e ↦ subst (λ k. is_inside n (tree_node nodes k) ≡ true) (sym e) (child-inside nodes s n m is)
    | inr i ↦ inside-through nodes s (suc x) x n m (omega arith) h.0 is.0 (child-inside nodes s n m is) i
  ]),
)

ends-under : (nodes : List Node) → Sound nodes → (leaf : Leaf) (path : List Step) (n : ℕ) → n < length nodes → All (Under nodes n) (ends nodes leaf path n)
ends-under nodes s leaf [] n l = All-weaker (IsLeaf nodes leaf n) (Under nodes n) (λ m h. leaf-under nodes s leaf n m l h) (leaves_of nodes leaf n)
    (leaves-are nodes s.numbered leaf n)
ends-under nodes s leaf (step ∷ path) n l =
    All-flat_map (Under nodes n) (ends nodes leaf path) (met nodes step n)
    (All-weaker (IsIn nodes n) (λ m. All (Under nodes n) (ends nodes leaf path m))
    (λ m is. All-weaker (Under nodes m) (Under nodes n) (λ x h. under-through nodes s n m x l is h) (ends nodes leaf path m)
    (ends-under nodes s leaf path m is.0))
    (met nodes step n) (met-in nodes s.numbered step n))

-- ---- one behind another

-- of two children of a node the second isn't inside the first
beside-not_inside : (nodes : List Node) → Sound nodes → (n m k : ℕ) → n < length nodes → IsIn nodes n m → IsIn nodes n k
    → is_inside m (tree_node nodes k) ≡ false
beside-not_inside nodes s n m k l im ik = false_from_ne_true (is_inside m (tree_node nodes k)) (λ h.
    let after : n < m = child-after nodes s n m l im in
    elim (or_cases (m == n) (is_among m (tree_node nodes n).above) (sym (ap (is_among m) (s.around k n ik.0 ik.1)) ∙ h)) [
      | inl e ↦ (let same : m ≡ n = eqb-true m n e in absurd (omega arith))
      | inr i ↦ (let before : m < n = inside-after nodes s m n im.0 l i in absurd (omega arith))
    ])

last-before : (m k last : ℕ) → is_between m last k ≡ false → m < k → last < k
last-before m k last h l = grind (arith, nat_tests)

inside-last : (m x last : ℕ) → is_between m last x ≡ true → x ≤ last
inside-last m x last h = grind (arith, nat_tests)

in-order : (nodes : List Node) → Sound nodes → (n m k x y : ℕ) → n < length nodes → IsIn nodes n m → IsIn nodes n k → m < k → Under nodes m x → Under nodes k y
    → x < y
in-order nodes s n m k x y l im ik lt ux uy =
    let out : last_inside nodes m < k = last-before m k (last_inside nodes m) (sym (s.inside m k im.0 ik.0) ∙ beside-not_inside nodes s n m k l im ik) lt in
    let low : x < k = elim ux.1 [
      | inl e ↦ subst (λ z. z < k) (sym e) lt
      | inr i ↦ (let up : x ≤ last_inside nodes m = inside-last m x (last_inside nodes m) (sym (s.inside m x im.0 ux.0) ∙ i) in omega arith)
    ] in
    elim uy.1 [
      | inl e ↦ subst (λ z. x < z) (sym e) low
      | inr i ↦ (let up : k < y = inside-after nodes s k y ik.0 uy.0 i in omega arith)
    ]

by-append : {X : Type 0} (P : X → Type 0) (xs ys : List X) → AllByRecursion P xs → AllByRecursion P ys → AllByRecursion P (xs ++ ys)
by-append P [] ys h k = k
by-append P (x ∷ xs) ys h k = (h.0, by-append P xs ys h.1 k)

Rises-append : (xs ys : List ℕ) → Rises xs → Rises ys → All (λ x. AllByRecursion (λ y. x < y) ys) xs → Rises (xs ++ ys)
Rises-append [] ys hx hy h = hy
Rises-append (x ∷ xs) ys hx hy h = (
  by-append (λ y. x < y) xs ys hx.0 (All-head (λ z. AllByRecursion (λ y. z < y) ys) x xs h),
  Rises-append xs ys hx.1 hy
      (All-tail (λ z. AllByRecursion (λ y. z < y) ys) x xs h),
)

-- lists behind one another rise, where their numbers do and each is in a place that comes behind
Rises-places : (P : ℕ → ℕ → Type 0) (Q : ℕ → Type 0) → ((m k x y : ℕ) → Q m → Q k → m < k → P m x → P k y → x < y)
    → (f : ℕ → List ℕ) (ms : List ℕ) → Rises ms → All Q ms → ((m : ℕ) → Q m → Rises (f m)) → ((m : ℕ) → Q m → All (P m) (f m)) → Rises (flat_map f ms)
Rises-places P Q before f [] r q each places = tt
Rises-places P Q before f (m ∷ ms) r q each places =
    let here = All-head Q m ms q in
    let rest = All-tail Q m ms q in
    Rises-append (f m) (flat_map f ms) (each m here) (Rises-places P Q before f ms r.1 rest each places)
    (All-weaker (P m) (λ x. AllByRecursion (λ y. x < y) (flat_map f ms))
    (λ x px. recursion_from_All (λ y. x < y) (flat_map f ms)
    (All-flat_map (λ y. x < y) f ms
    (All-weaker (λ k. Q k × (m < k)) (λ k. All (λ y. x < y) (f k))
    (λ k w. All-weaker (P k) (λ y. x < y) (λ y py. before m k x y here w.0 w.1 px py) (f k) (places k w.0))
    ms (All-both Q (λ k. m < k) ms rest (All-from_recursion (λ k. m < k) ms r.0)))))
    (f m) (places m here))

-- ---- the numbers of nodes rise

numbers-from : (t : Node → Bool) (nodes : List Node) (j : ℕ) → Numbered j nodes → AllByRecursion (λ m. j ≤ m) (map number (filter t nodes))
numbers-from t [] j h = tt
numbers-from t (x ∷ xs) j h =
    let rest = by-weaker (λ m. suc j ≤ m) (λ m. j ≤ m) (λ m l. omega (arith, l)) (map number (filter t xs)) (numbers-from t xs (suc j) h.1) in
    elim (cases_Bool (t x)) [
      | inl e ↦ rw e ((let n = h.0 in omega arith), rest)
      | inr e ↦ rw e rest
    ]

pub numbers-rise : (t : Node → Bool) (nodes : List Node) (j : ℕ) → Numbered j nodes → Rises (map number (filter t nodes))
numbers-rise t [] j h = tt
numbers-rise t (x ∷ xs) j h = elim (cases_Bool (t x)) [
  | inl e ↦ rw e (
    by-weaker (λ m. suc j ≤ m) (λ m. x.number < m) (λ m l. let n = h.0 in omega (arith, l)) (map number (filter t xs))
        (numbers-from t xs (suc j) h.1),
    numbers-rise t xs (suc j) h.1,
  )
  | inr e ↦ rw e (numbers-rise t xs (suc j) h.1)
]

met-rises : (nodes : List Node) → Numbered 0 nodes → (step : Step) (n : ℕ) → Rises (met nodes step n)
met-rises nodes h step n = Rises-filter (are_met nodes step.guards) (children_named nodes step.name n)
    (numbers-rise (both (is_child n) (has_element_name step.name)) nodes 0 h)

leaves-rise : (nodes : List Node) → Numbered 0 nodes → (leaf : Leaf) (n : ℕ) → Rises (leaves_of nodes leaf n)
leaves-rise nodes h leaves.Element n = Rises-filter (λ m. not (is_blank_at nodes m)) (n ∷ []) (tt, tt)
leaves-rise nodes h (leaves.Attribute local) n =
    let own : Rises (filled nodes (attributes_named nodes local n)) =
    Rises-filter (λ m. not (is_blank_at nodes m)) (attributes_named nodes local n) (numbers-rise (both (is_attribute_of n) (has_plain_name local)) nodes 0 h) in
    elim (cases_Bool (not (is_blank_at nodes n))) [
      | inl e ↦ rw e (rw (append-nil (filled nodes (attributes_named nodes local n))) own)
      | inr e ↦ rw e tt
    ]

pub ends-rise : (nodes : List Node) → Sound nodes → (leaf : Leaf) (path : List Step) (n : ℕ) → n < length nodes → Rises (ends nodes leaf path n)
ends-rise nodes s leaf [] n l = leaves-rise nodes s.numbered leaf n
ends-rise nodes s leaf (step ∷ path) n l =
    Rises-places (Under nodes) (IsIn nodes n) (λ m k x y im ik lt ux uy. in-order nodes s n m k x y l im ik lt ux uy) (ends nodes leaf path) (met nodes step n)
    (met-rises nodes s.numbered step n) (met-in nodes s.numbered step n) (λ m is. ends-rise nodes s leaf path m is.0)
    (λ m is. ends-under nodes s leaf path m is.0)

pub picks-rise : (nodes : List Node) → Sound nodes → (k : ℕ) (row : Row) → Rises (map (λ (p : Pick). p.node) (nodes_picked nodes k row))
picks-rise nodes s k row = rw (nodes-are_ends nodes k row) (ends-rise nodes s row.leaf row.path 0 s.some)
