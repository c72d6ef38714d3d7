-- What is a node or inside it.
use Rattle.std.proofs.Common.{◌≡◌, ℕ, ◌<◌, true, ◌==◌, ⊎_elim, List, length, ap, sym, ◌∙◌, arith}
use Rattle.std.proofs.lemmas.Bool.{or_cases, or_right, eqb-true}
use Rattle.inv_base.specs.Tree.{Node}
use Rattle.node_arena.specs.Moves.{tree_node, is_inside}
use Rattle.xpath_walks.specs.Walks.{IsWalkable}
use Rattle.xpath_walks.proofs.AroundLemmas.{inside_inside}
use Rattle.xpath_walks.proofs.ReverseLemmas.{above_below}
use Rattle.xpath_marks.specs.Found.{is_under}

module _ (nodes : List Node) (w : IsWalkable nodes) where
  pub under_under : (k m j : ℕ) → k < length nodes → is_under nodes m k ≡ true → is_under nodes j m ≡ true → is_under nodes j k ≡ true
  under_under k m j within i h = ⊎_elim
      (λ (same : (k == m) ≡ true). ap (is_under nodes j) (eqb-true k m same) ∙ h)
      (λ (inner : is_inside m (tree_node nodes k) ≡ true). ⊎_elim
      (λ (at : (m == j) ≡ true). or_right (k == j) (is_inside j (tree_node nodes k)) (ap (λ n. is_inside n (tree_node nodes k)) (sym (eqb-true m j at)) ∙
      inner))
      (λ (deeper : is_inside j (tree_node nodes m) ≡ true). or_right (k == j) (is_inside j (tree_node nodes k))
      (inside_inside nodes w k m j within inner deeper))
      (or_cases (m == j) (is_inside j (tree_node nodes m)) h))
      (or_cases (k == m) (is_inside m (tree_node nodes k)) i)

  -- what is around a node of the document is one
  pub under_within : (k n : ℕ) → k < length nodes → is_under nodes n k ≡ true → n < length nodes
  under_within k n within i = ⊎_elim
      (λ (same : (k == n) ≡ true). omega (arith, eqb-true k n same, within))
      (λ (inner : is_inside n (tree_node nodes k) ≡ true). omega (arith, above_below nodes w k within n inner, within))
      (or_cases (k == n) (is_inside n (tree_node nodes k)) i)
