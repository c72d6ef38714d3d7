-- The place of a mark among those beside it is the place of its element among the nodes that are such elements.
use Rattle.std.proofs.Common.{◌≡◌, ℕ, ◌+◌, ◌<◌, ◌≤◌, suc, Bool, true, false, ◌&&◌, ◌||◌, List, [], ◌∷◌, length, refl, sym, ap, subst, ◌∙◌, inl, inr, arith}
use Rattle.std.specs.Prelude.{nat_lt, ◌==◌, filter, map}
use Rattle.std.specs.List.{list_all, All, AllByRecursion}
use Rattle.std.proofs.lemmas.Bool.{false≢true, cases_Bool, and_parts, or_cases, or_left, or_right, eqb-true}
use Rattle.std.proofs.lemmas.Bool.Decides.{nat_tests}
use Rattle.std.proofs.lemmas.List.{length-map}
use Rattle.std.proofs.lemmas.List.Elements.{All-head, All-tail}
use Rattle.inv_base.specs.Tree.{Node, is_among}
use Rattle.bind_meaning.specs.Elements.{number}
use Rattle.bind_meaning.specs.Seats.{place_among}
use Rattle.bind_seats.specs.declared.marks.Mark.{Mark}
use Rattle.bind_seats.specs.Marks.{is_beside, comes_before, rises, has_mark, is_lower, place_of}
use Rattle.bind_seats.proofs.ListLemmas.{Rises, same-rising, filter-twice, filter-swap, filter-map}
use Rattle.bind_seats.specs.Nodes.{Numbered}
use Rattle.bind_seats.proofs.RisingLemmas.{numbers-rise}

abbrev number_in : Mark → ℕ
number_in m = m.number

-- the numbers of the marks beside one
abbrev numbers_beside : Mark → List Mark → List ℕ
numbers_beside m ms = map number_in (filter (is_beside m) ms)

higher : (m a b : Mark) → is_beside m a ≡ true → is_beside m b ≡ true → comes_before a b ≡ true → a.number < b.number
higher m a b h k c = grind (arith, nat_tests)

beside-higher : (m k : Mark) (ms : List Mark) → is_beside m k ≡ true → list_all (comes_before k) ms ≡ true
    → AllByRecursion (λ n. k.number < n) (numbers_beside m ms)
beside-higher m k [] h a = tt
beside-higher m k (x ∷ ms) h a =
    let parts = and_parts (comes_before k x) (list_all (comes_before k) ms) a in
    elim (cases_Bool (is_beside m x)) [
      | inl e ↦ rw e (higher m k x h e parts.0, beside-higher m k ms h parts.1)
      | inr e ↦ rw e (beside-higher m k ms h parts.1)
    ]

beside-rise : (m : Mark) (ms : List Mark) → rises ms ≡ true → Rises (numbers_beside m ms)
beside-rise m [] r = tt
beside-rise m (k ∷ ms) r =
    let parts = and_parts (list_all (comes_before k) ms) (rises ms) r in
    elim (cases_Bool (is_beside m k)) [
      | inl e ↦ rw e (beside-higher m k ms e parts.0, beside-rise m ms parts.1)
      | inr e ↦ rw e (beside-rise m ms parts.1)
    ]

-- a mark of the same node and kind with another number
abbrev with_number : Mark → ℕ → Mark
with_number m n = record { around = m.around; kind = m.kind; number = n }

beside-among : (m : Mark) (n : ℕ) (ms : List Mark) → is_among n (numbers_beside m ms) ≡ has_mark ms (with_number m n)
beside-among m n [] = refl
beside-among m n (k ∷ ms) = elim (cases_Bool (is_beside m k)) [
  | inl e ↦ rw e (ap (λ b. (n == k.number) || b) (beside-among m n ms))
  | inr e ↦ rw e (beside-among m n ms)
]

-- ---- the nodes that are among the elements

abbrev nodes_among : List ℕ → List Node → List ℕ
nodes_among elements nodes = map number (filter (λ (node : Node). is_among node.number elements) nodes)

both-false : (b : Bool) → (b && false) ≡ false
both-false true = refl
both-false false = refl

nodes-among : (n : ℕ) (elements : List ℕ) (nodes : List Node) → is_among n (nodes_among elements nodes) ≡ (is_among n (map number nodes) && is_among n elements)
nodes-among n elements [] = refl
nodes-among n elements (node ∷ nodes) = elim (cases_Bool (n == node.number)) [
  | inl e ↦ (let same : n ≡ node.number = eqb-true n node.number e in elim (cases_Bool (is_among node.number elements)) [
    | inl f ↦ rw f (rw e (sym (ap (λ k. is_among k elements) same ∙ f)))
    | inr f ↦ rw f (nodes-among n elements nodes ∙ (let out : is_among n elements ≡ false = ap (λ k. is_among k elements) same ∙ f in
        ap (λ b. is_among n (map number nodes) && b) out
        ∙ (both-false (is_among n (map number nodes))
        ∙ sym (ap (λ b. ((n == node.number) || is_among n (map number nodes)) && b) out
        ∙ both-false ((n == node.number) || is_among n (map number nodes))))))
  ])
  | inr e ↦ elim (cases_Bool (is_among node.number elements)) [
    | inl f ↦ rw f (rw e (nodes-among n elements nodes))
    | inr f ↦ rw f (rw e (nodes-among n elements nodes))
  ]
]

numbers-have : (j n : ℕ) (nodes : List Node) → Numbered j nodes → j ≤ n → n < j + length nodes → is_among n (map number nodes) ≡ true
numbers-have j n [] h lo hi = absurd (omega arith)
numbers-have j n (node ∷ nodes) h lo hi = elim (cases_Bool (n == node.number)) [
  | inl e ↦ or_left (n == node.number) (is_among n (map number nodes)) e
  | inr e ↦ or_right (n == node.number) (is_among n (map number nodes)) (numbers-have (suc j) n nodes h.1 (let num = h.0 in next num e lo) (omega arith))
]
  where
    next : {n m k : ℕ} → m ≡ k → (n == m) ≡ false → k ≤ n → suc k ≤ n
    next e o l = grind (arith, nat_tests)

among-within : (bound n : ℕ) (elements : List ℕ) → All (λ m. m < bound) elements → is_among n elements ≡ true → n < bound
among-within bound n [] h a = absurd (false≢true a)
among-within bound n (m ∷ ms) h a = elim (or_cases (n == m) (is_among n ms) a) [
  | inl e ↦ subst (λ k. k < bound) (sym (eqb-true n m e)) (All-head (λ k. k < bound) m ms h)
  | inr i ↦ among-within bound n ms (All-tail (λ k. k < bound) m ms h) i
]

-- the elements among the nodes are all of them
elements-are : (n : ℕ) (elements : List ℕ) (nodes : List Node) → Numbered 0 nodes → All (λ m. m < length nodes) elements
    → is_among n (nodes_among elements nodes) ≡ is_among n elements
elements-are n elements nodes h within = nodes-among n elements nodes ∙ elim (cases_Bool (is_among n elements)) [
  | inl e ↦ (
      let l : n < length nodes = among-within (length nodes) n elements within e in
      rw e (ap (λ b. b && true) (numbers-have 0 n nodes h (omega arith) (let z : 0 + length nodes ≡ length nodes = omega arith in omega arith))))
  | inr e ↦ rw e (both-false (is_among n (map number nodes)))
]

-- ---- places

below : ℕ → ℕ → Bool
below n m = nat_lt m n

lower-are : (m : Mark) (ms : List Mark) → length (filter (is_lower m) ms) ≡ length (filter (λ k. nat_lt k m.number) (numbers_beside m ms))
lower-are m ms =
    ap length (sym (filter-twice (λ (k : Mark). nat_lt k.number m.number) (is_beside m) ms))
    ∙ (sym (length-map (filter (λ (k : Mark). nat_lt k.number m.number) (filter (is_beside m) ms)) number_in)
    ∙ ap length (sym (filter-map number_in (λ k. nat_lt k m.number) (filter (is_beside m) ms))))

nodes-are : (n : ℕ) (elements : List ℕ) (nodes : List Node)
    → length (filter (λ (node : Node). nat_lt node.number n && is_among node.number elements) nodes)
    ≡ length (filter (λ k. nat_lt k n) (nodes_among elements nodes))
nodes-are n elements nodes =
    let low : Node → Bool = λ (node : Node). nat_lt node.number n in
    let own : Node → Bool = λ (node : Node). is_among node.number elements in
    ap length (sym (filter-twice own low nodes) ∙ filter-swap own low nodes)
    ∙ (sym (length-map (filter low (filter own nodes)) number) ∙ ap length (sym (filter-map number (λ k. nat_lt k n) (filter own nodes))))

-- Where marks of a node and a kind have the numbers of elements, the place of one is that of its element.
pub place-is : (nodes : List Node) → Numbered 0 nodes → (m : Mark) (ms : List Mark) → rises ms ≡ true → (elements : List ℕ)
    → All (λ k. k < length nodes) elements
    → ((n : ℕ) → has_mark ms (with_number m n) ≡ is_among n elements) → place_of ms m ≡ place_among nodes elements m.number
place-is nodes h m ms r elements within same =
    let lists : numbers_beside m ms ≡ nodes_among elements nodes =
    same-rising (numbers_beside m ms) (nodes_among elements nodes) (beside-rise m ms r)
    (numbers-rise (λ (node : Node). is_among node.number elements) nodes 0 h)
    (λ n. beside-among m n ms ∙ (same n ∙ sym (elements-are n elements nodes h within))) in
    ap (λ n. 1 + n) (lower-are m ms ∙ (ap (λ ns. length (filter (λ k. nat_lt k m.number) ns)) lists ∙ sym (nodes-are m.number elements nodes)))
