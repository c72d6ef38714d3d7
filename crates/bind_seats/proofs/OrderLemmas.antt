-- Picks in document order.
use Rattle.std.proofs.Common.{◌≡◌, ℕ, ◌+◌, ◌<◌, ◌≤◌, suc, Bool, true, false, ◌&&◌, ◌||◌, List, [], ◌∷◌, ◌++◌, length, get_or, Some, refl, sym, ap, ◌∙◌, inl}
use Rattle.std.proofs.Common.{inr, arith}
use Rattle.std.specs.Prelude.{◌==◌, filter, map}
use Rattle.std.specs.List.{list_any, All, AllByRecursion}
use Rattle.std.proofs.lemmas.Bool.{cases_Bool, eqb-false, ne_eqb}
use Rattle.std.proofs.lemmas.List.Elements.{All-nil, All-cons, All-append, All-filter, All-head, All-weaker, filter-append}
use Rattle.std.proofs.lemmas.List.Folds.{list_any-append}
use Rattle.inv_base.specs.Tree.{Node}
use Rattle.bind_meaning.specs.Picks.{Pick}
use Rattle.bind_meaning.specs.Terms.{in_order}
use Rattle.bind_seats.proofs.ListLemmas.{Rises, by-weaker, first, filter-swap, filter-none, any-filter, any-or, any-alike, any-none}
use Rattle.bind_seats.specs.Nodes.{Numbered}

abbrev stands_at : Node → Pick → Bool
stands_at node p = p.node == node.number

pub in_order-filter : (nodes : List Node) (test : Pick → Bool) (ps : List Pick) → in_order nodes (filter test ps) ≡ filter test (in_order nodes ps)
in_order-filter [] test ps = refl
in_order-filter (node ∷ nodes) test ps =
    ap (λ xs. xs ++ in_order nodes (filter test ps)) (filter-swap (stands_at node) test ps)
    ∙ (ap (λ xs. filter test (filter (stands_at node) ps) ++ xs) (in_order-filter nodes test ps)
    ∙ sym (filter-append test (filter (stands_at node) ps) (in_order nodes ps)))

pub All-in_order : (P : Pick → Type 0) (nodes : List Node) (ps : List Pick) → All P ps → All P (in_order nodes ps)
All-in_order P [] ps h = All-nil P
All-in_order P (node ∷ nodes) ps h = All-append P (filter (stands_at node) ps) (in_order nodes ps) (All-filter (stands_at node) P ps h)
    (All-in_order P nodes ps h)

-- a pick's node is one of these
abbrev stands_in : List Node → Pick → Bool
stands_in nodes p = list_any (λ node. stands_at node p) nodes

spread : (a b f : Bool) → ((a && f) || (b && f)) ≡ ((a || b) && f)
spread true b true = refl
spread true b false = go b
  where
    go : (c : Bool) → (false || (c && false)) ≡ false
    go true = refl
    go false = refl
spread false b f = refl

any-among : (test : Pick → Bool) (nodes : List Node) (ps : List Pick) → list_any test (in_order nodes ps) ≡ list_any (λ p. stands_in nodes p && test p) ps
any-among test [] ps = sym (any-none ps)
any-among test (node ∷ nodes) ps =
    list_any-append test (filter (stands_at node) ps) (in_order nodes ps)
    ∙ (ap (λ b. b || list_any test (in_order nodes ps)) (any-filter test (stands_at node) ps)
    ∙ (ap (λ b. list_any (λ p. stands_at node p && test p) ps || b) (any-among test nodes ps)
    ∙ (sym (any-or (λ p. stands_at node p && test p) (λ p. stands_in nodes p && test p) ps)
    ∙ any-alike (λ p. (stands_at node p && test p) || (stands_in nodes p && test p)) (λ p. (stands_at node p || stands_in nodes p) && test p) ps
    (λ k d l. spread (stands_at node (get_or ps k d)) (stands_in nodes (get_or ps k d)) (test (get_or ps k d))))))

is-one : (j : ℕ) (nodes : List Node) (p : Pick) → Numbered j nodes → j ≤ p.node → p.node < j + length nodes → stands_in nodes p ≡ true
is-one j [] p h lo hi = absurd (omega arith)
is-one j (node ∷ nodes) p h lo hi = elim (cases_Bool (stands_at node p)) [
  | inl e ↦ rw e refl
  | inr e ↦ (let other : p.node ≡ node.number → ⊥ = eqb-false p.node node.number e in
      let num = h.0 in
      rw e (is-one (suc j) nodes p h.1 (above-j num other lo) (omega arith)))
]
  where
    above-j : {n m k : ℕ} → n ≡ k → (m ≡ n → ⊥) → k ≤ m → suc k ≤ m
    above-j e o l = omega arith

-- Some pick passes exactly where some pick in document order does.
pub any-in_order : (test : Pick → Bool) (nodes : List Node) (ps : List Pick) → Numbered 0 nodes → All (λ (p : Pick). p.node < length nodes) ps
    → list_any test (in_order nodes ps) ≡ list_any test ps
any-in_order test nodes ps h within =
    any-among test nodes ps
    ∙ any-alike (λ p. stands_in nodes p && test p) test ps
    (All-weaker (λ (p : Pick). p.node < length nodes) (λ p. (stands_in nodes p && test p) ≡ test p)
    (λ p l. ap (λ b. b && test p) (is-one 0 nodes p h (omega arith) (let z : 0 + length nodes ≡ length nodes = omega arith in omega (arith, l)))) ps within)

in_order-none : (nodes : List Node) → in_order nodes [] ≡ []
in_order-none [] = refl
in_order-none (node ∷ nodes) = in_order-none nodes

-- Of picks that rise the first stays the first.
first-from : (j : ℕ) (nodes : List Node) (p : Pick) (ps : List Pick) → Numbered j nodes → j ≤ p.node → p.node < j + length nodes
    → AllByRecursion (λ n. p.node < n) (map (λ (q : Pick). q.node) ps) → first (in_order nodes (p ∷ ps)) ≡ Some p
first-from j [] p ps h lo hi r = absurd (omega arith)
first-from j (node ∷ nodes) p ps h lo hi r = elim (cases_Bool (stands_at node p)) [
  | inl e ↦ rw e refl
  | inr e ↦ (
      let num = h.0 in
      let other : p.node ≡ node.number → ⊥ = eqb-false p.node node.number e in
      let up : suc j ≤ p.node = next num other lo in
      let none : filter (stands_at node) ps ≡ [] =
      filter-none (stands_at node) ps (others ps
      (by-weaker (λ n. p.node < n) (λ n. node.number < n) (λ n l. omega (arith, l)) (map (λ (q : Pick). q.node) ps) r)) in
      rw (e, none) (first-from (suc j) nodes p ps h.1 up (omega arith) r))
]
  where
    next : {n m k : ℕ} → n ≡ k → (m ≡ n → ⊥) → k ≤ m → suc k ≤ m
    next e o l = omega arith

    others : (qs : List Pick) → AllByRecursion (λ n. node.number < n) (map (λ (q : Pick). q.node) qs) → All (λ q. stands_at node q ≡ false) qs
    others [] a = All-nil (λ q. stands_at node q ≡ false)
    others (q ∷ qs) a = All-cons (λ x. stands_at node x ≡ false) q qs (ne_eqb q.node node.number (λ is. let l = a.0 in omega arith)) (others qs a.1)

pub first-in_order : (nodes : List Node) (ps : List Pick) → Numbered 0 nodes → All (λ (p : Pick). p.node < length nodes) ps
    → Rises (map (λ (q : Pick). q.node) ps) → first (in_order nodes ps) ≡ first ps
first-in_order nodes [] h within r = ap first (in_order-none nodes)
first-in_order nodes (p ∷ ps) h within r =
    first-from 0 nodes p ps h (omega arith) (let l = All-head (λ (q : Pick). q.node < length nodes) p ps within in omega (arith, l)) r.0
