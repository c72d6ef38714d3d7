-- What is inside a node that is inside another is inside that.
use Rattle.std.proofs.Common.{◌≡◌, ℕ, ◌<◌, true, ◌==◌, ⊎_elim, List, [], ◌∷◌, length, refl, ap, sym, ◌∙◌, arith}
use Rattle.std.proofs.lemmas.Bool.{or_cases, or_left, or_right, eqb-true, eq-eqb, false≢true}
use Rattle.inv_base.specs.Tree.{Node, is_among}
use Rattle.node_arena.specs.Moves.{tree_node, is_inside, nearest}
use Rattle.xpath_walks.specs.Walks.{IsWalkable}
use Rattle.xpath_walks.proofs.ReverseLemmas.{above_below}

abbrev others : List ℕ → List ℕ
others [] = []
others (n ∷ ns) = ns

module _ (nodes : List Node) (w : IsWalkable nodes) where
  inside_up : (up : List ℕ) (k m j : ℕ) → k < length nodes → (tree_node nodes k).above ≡ up → is_among m up ≡ true → is_inside j (tree_node nodes m) ≡ true
      → is_among j up ≡ true
  inside_up [] k m j within e i h = absurd (false≢true i)
  inside_up (p ∷ up) k m j within e i h =
      let round : (tree_node nodes k).above ≡ p ∷ (tree_node nodes p).above = (w.leads k within).around p (ap nearest e) in
      let same : up ≡ (tree_node nodes p).above = ap others (sym e ∙ round) in
      let lower : p < k = above_below nodes w k within p (ap (is_among p) e ∙ or_left (p == p) (is_among p up) (eq-eqb p p refl)) in
      or_right (j == p) (is_among j up) (⊎_elim
      (λ (here : (m == p) ≡ true). ap (is_among j) (same ∙ ap (λ n. (tree_node nodes n).above) (sym (eqb-true m p here))) ∙ h)
      (λ (there : is_among m up ≡ true). inside_up up p m j (omega (arith, lower, within)) (sym same) there h)
      (or_cases (m == p) (is_among m up) i))

  pub inside_inside : (k m j : ℕ) → k < length nodes → is_inside m (tree_node nodes k) ≡ true → is_inside j (tree_node nodes m) ≡ true
      → is_inside j (tree_node nodes k) ≡ true
  inside_inside k m j within i h = inside_up (tree_node nodes k).above k m j within refl i h
