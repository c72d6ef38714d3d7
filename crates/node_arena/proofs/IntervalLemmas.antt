-- What is inside a node is an interval of numbers.
use Rattle.std.proofs.Common.{◌≡◌, ℕ, ◌<◌, ◌≤◌, true, false, ⊎_elim, List, length, subst, sym, ◌∙◌, arith}
use Rattle.std.proofs.lemmas.Bool.{and_parts, and_from, cases_Bool, cases_lt, lt-ltb, ltb-true, le-leb, leb-true}
use Rattle.std.proofs.lemmas.List.{length-map}
use Rattle.std.specs.Prelude.{nat_lt, nat_le}
use Rattle.inv_base.specs.Tree.{Node, Forest}
use Rattle.node_arena.specs.Document.{Document}
use Rattle.node_arena.specs.Moves.{node_of, tree_nodes, HasNodesOf, tree_node, is_inside, is_between, last_inside}
use Rattle.node_arena.proofs.StepLemmas.{In, in_among, among_in, Walk, document_walk}
use Rattle.node_arena.proofs.WalkLemmas.{above, both_ways, before, down, Ends, ends}

pub between : (n last k : ℕ) → n < k → k ≤ last → is_between n last k ≡ true
between n last k from to = and_from (nat_lt n k) (nat_le k last) (lt-ltb n k from) (le-leb k last to)

pub not_between : (n last k : ℕ) → (n < k → k ≤ last → ⊥) → is_between n last k ≡ false
not_between n last k out = ⊎_elim
    (λ (is : is_between n last k ≡ true).
    let parts = and_parts (nat_lt n k) (nat_le k last) is in
    absurd (out (ltb-true n k parts.0) (leb-true k last parts.1)))
    (λ not_so. not_so)
    (cases_Bool (is_between n last k))

module _ (nodes : List Node) (w : Walk nodes) (n k : ℕ) (h : n < length nodes) (within : k < length nodes) (last : ℕ) (e : Ends nodes w n last) where
  inside_from : In n (above nodes k) → is_between n last k ≡ true
  inside_from i = ⊎_elim
      (λ (past : last < k). absurd (e.behind_it k past within i))
      (λ (to : k ≤ last). between n last k (before nodes w k n within i) to)
      (cases_lt last k)

  inside_to : n < k → k ≤ last → In n (above nodes k)
  inside_to from to = ⊎_elim
      (λ (same : last ≡ n). absurd (omega (arith, same, from, to)))
      (λ (i : In n (above nodes last)). down nodes w last k n from to e.within i)
      e.here

  inside_is : is_inside n (tree_node nodes k) ≡ is_between n last k
  inside_is = ⊎_elim
      (λ (is : is_inside n (tree_node nodes k) ≡ true). is ∙ sym (inside_from (in_among n (above nodes k) is)))
      (λ (out : is_inside n (tree_node nodes k) ≡ false).
      out ∙ sym (not_between n last k (λ from to. both_ways (is_inside n (tree_node nodes k)) (among_in n (above nodes k) (inside_to from to)) out)))
      (cases_Bool (is_inside n (tree_node nodes k)))

pub interval : (nodes : List Node) → Walk nodes → (n k : ℕ) → n < length nodes → k < length nodes
    → is_inside n (tree_node nodes k) ≡ is_between n (last_inside nodes n) k
interval nodes w n k h within = inside_is nodes w n k h within (last_inside nodes n) (ends nodes w n h)

pub walk_of : (document : Document) (tree : Forest) → HasNodesOf document tree → Walk (tree_nodes document)
walk_of document tree is = subst Walk (sym is) (document_walk tree)

pub document_interval : (document : Document) (tree : Forest) → HasNodesOf document tree → (n k : ℕ) → n < length document.nodes → k < length document.nodes
    → is_inside n (tree_node (tree_nodes document) k) ≡ is_between n (last_inside (tree_nodes document) n) k
document_interval document tree is n k h within =
    let count = length-map document.nodes (node_of document.names) in
    interval (tree_nodes document) (walk_of document tree is) n k (omega (arith, h, count)) (omega (arith, within, count))
