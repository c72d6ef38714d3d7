-- What a pattern finds, from what its parts find.
use Rattle.std.proofs.Common.{◌≡◌, ℕ, ◌<◌, Bool, true, false, ◌||◌, List, [], ◌∷◌, ◌++◌, length, refl, ap, sym, ◌∙◌}
use Rattle.std.specs.Prelude.{filter}
use Rattle.std.specs.List.{list_any, flat_map}
use Rattle.std.proofs.lemmas.List.Folds.{list_any_at}
use Rattle.inv_base.specs.Tree.{Node, is_among}
use Rattle.node_arena.specs.Moves.{tree_node}
use Rattle.xpath_tokens.specs.declared.token.Operator.TheVariants as o
use Rattle.xpath_meaning.specs.Values.{Value}
use Rattle.xpath_meaning.specs.Expressions as x
use Rattle.xpath_meaning.specs.Expressions.{Exp}
use Rattle.xpath_meaning.specs.Patterns.{found_at}
use Rattle.xpath_walks.specs.Walks.{IsWalkable, node_numbers}
use Rattle.xpath_walks.proofs.FilterLemmas.{alike}
use Rattle.xpath_marks.specs.Shapes.{is_pattern}
use Rattle.xpath_marks.specs.Found.{is_reached, is_found, all_found, all_reached}
use Rattle.xpath_marks.proofs.AmongLemmas.{IsFrom, from_any, any_from, mapped_from, from_mapped, IsNumberOf, filtered_from, any_place, same_truth}
use Rattle.xpath_marks.proofs.AmongLemmas.{among_passing, among_both, flat_any}
use Rattle.xpath_marks.proofs.SwapLemmas.{pattern_down}

module _ (nodes : List Node) (w : IsWalkable nodes) (outer : List (List ℕ × Value)) where
  finds : Exp → ℕ → Node → Bool
  finds e k node = is_among k (found_at nodes outer e node.number)

  pub found_by : (e : Exp) (n k : ℕ) → n < length nodes → is_among k (found_at nodes outer e n) ≡ true → is_found nodes outer e k ≡ true
  found_by e n k within h =
      list_any_at (λ (node : Node). is_among k (found_at nodes outer e node.number)) nodes n _ within
      (ap (λ m. is_among k (found_at nodes outer e m)) (w.counted n within) ∙ h)

  -- A path finds what its last step reaches from what is before it.
  pub slash_found : (e step : Exp) → is_pattern e ≡ true → (k : ℕ) →
      is_found nodes outer (x.slash e step) k ≡ is_reached nodes outer step (all_found nodes outer e) k
  slash_found e step s k = same_truth (is_found nodes outer (x.slash e step) k) (is_reached nodes outer step (all_found nodes outer e) k)
      (λ h.
      let some : (m : ℕ) × IsNumberOf (λ (node : Node). is_among k (found_at nodes outer (x.slash e step) node.number)) nodes m =
      any_place (λ node. is_among k (found_at nodes outer (x.slash e step) node.number)) nodes h in
      let n : ℕ = some.1.place in
      let from : IsFrom (found_at nodes outer step) (found_at nodes outer e n) k = mapped_from (found_at nodes outer step) (found_at nodes outer e n) k
      (ap (λ m. is_among k (found_at nodes outer (x.slash e step) m)) (sym (w.counted n some.1.within)) ∙ some.1.passes) in
      let within : from.origin < length nodes = (pattern_down nodes w outer e s n from.origin some.1.within from.among).0 in
      any_from (found_at nodes outer step) (all_found nodes outer e) from.origin k
      (among_passing (λ (node : Node). is_found nodes outer e node.number) nodes from.origin w.counted within
      ∙ (ap (is_found nodes outer e) (w.counted from.origin within) ∙ found_by e n from.origin some.1.within from.among))
      from.from)
      (λ h.
      let from : IsFrom (found_at nodes outer step) (all_found nodes outer e) k = from_any (found_at nodes outer step) (all_found nodes outer e) k h in
      let at : IsNumberOf (λ (node : Node). is_found nodes outer e node.number) nodes from.origin =
      filtered_from (λ node. is_found nodes outer e node.number) nodes from.origin from.among in
      let some : (m : ℕ) × IsNumberOf (λ (node : Node). is_among from.origin (found_at nodes outer e node.number)) nodes m =
      any_place (λ node. is_among from.origin (found_at nodes outer e node.number)) nodes (ap (is_found nodes outer e) (sym at.number) ∙ at.passes) in
      let n : ℕ = some.1.place in
      found_by (x.slash e step) n k some.1.within (from_mapped (found_at nodes outer step) (found_at nodes outer e n) from.origin k
      (ap (λ m. is_among from.origin (found_at nodes outer e m)) (sym (w.counted n some.1.within)) ∙ some.1.passes) from.from))

  pub path_found : (e step : Exp) → is_pattern e ≡ true → all_reached nodes outer step (all_found nodes outer e) ≡ all_found nodes outer (x.slash e step)
  path_found e step s = ap node_numbers (alike (λ (node : Node). is_reached nodes outer step (all_found nodes outer e) node.number)
      (λ (node : Node). is_found nodes outer (x.slash e step) node.number) 0 nodes
      (λ k l b. sym (slash_found e step s (tree_node nodes k).number)))

  -- A step alone is found from all nodes.
  pub step_found : (step : Exp) → all_reached nodes outer step (node_numbers nodes) ≡ all_found nodes outer step
  step_found step = ap node_numbers (alike (λ (node : Node). is_reached nodes outer step (node_numbers nodes) node.number)
      (λ (node : Node). is_found nodes outer step node.number) 0 nodes (λ k l b. any_of_numbers (tree_node nodes k).number nodes))
    where
      any_of_numbers : (k : ℕ) (ns : List Node) → list_any (λ n. is_among k (found_at nodes outer step n)) (node_numbers ns)
          ≡ list_any (λ (node : Node). is_among k (found_at nodes outer step node.number)) ns
      any_of_numbers k [] = refl
      any_of_numbers k (n ∷ ns) = ap (λ b. is_among k (found_at nodes outer step n.number) || b) (any_of_numbers k ns)

  -- What `|` finds is what either side finds.
  either_found : (e f : Exp) (k : ℕ) (ns : List Node) → list_any (λ (node : Node). is_among k (found_at nodes outer (x.operated o.Bar e f) node.number)) ns
      ≡ (list_any (λ (node : Node). is_among k (found_at nodes outer e node.number)) ns ||
      list_any (λ (node : Node). is_among k (found_at nodes outer f node.number)) ns)
  either_found e f k [] = refl
  either_found e f k (n ∷ ns) =
      ap (λ b. is_among k (found_at nodes outer e n.number ++ found_at nodes outer f n.number) || b) (either_found e f k ns)
      ∙ (ap (λ b. b || (any_e || any_f)) (among_both k (found_at nodes outer e n.number) (found_at nodes outer f n.number))
      ∙ turned (is_among k (found_at nodes outer e n.number)) (is_among k (found_at nodes outer f n.number)) any_e any_f)
    where
      any_e : Bool
      any_e = list_any (λ (node : Node). is_among k (found_at nodes outer e node.number)) ns

      any_f : Bool
      any_f = list_any (λ (node : Node). is_among k (found_at nodes outer f node.number)) ns

      turned : (a b c d : Bool) → ((a || b) || (c || d)) ≡ ((a || c) || (b || d))
      turned true b c d = refl
      turned false true true d = refl
      turned false true false d = refl
      turned false false c d = refl

  pub bar_found : (e f : Exp) → node_numbers (filter (λ (node : Node). is_among node.number (all_found nodes outer e ++ all_found nodes outer f)) nodes)
      ≡ all_found nodes outer (x.operated o.Bar e f)
  bar_found e f = ap node_numbers (alike (λ (node : Node). is_among node.number (all_found nodes outer e ++ all_found nodes outer f))
      (λ (node : Node). is_found nodes outer (x.operated o.Bar e f) node.number) 0 nodes
      (λ k l b. ap (λ n. is_among n (all_found nodes outer e ++ all_found nodes outer f)) (w.counted k b)
      ∙ (among_both k (all_found nodes outer e) (all_found nodes outer f)
      ∙ (ap (λ c. c || is_among k (all_found nodes outer f)) (at e k b) ∙ (ap (λ c. is_found nodes outer e k || c) (at f k b)
      ∙ (sym (either_found e f k nodes) ∙ ap (is_found nodes outer (x.operated o.Bar e f)) (sym (w.counted k b))))))))
    where
      at : (e : Exp) (k : ℕ) → k < length nodes → is_among k (all_found nodes outer e) ≡ is_found nodes outer e k
      at e k b = among_passing (λ (node : Node). is_found nodes outer e node.number) nodes k w.counted b ∙ ap (is_found nodes outer e) (w.counted k b)

  -- All that the steps from some nodes lead to, in document order.
  pub all_of_turns : (step : Exp) (from out : List ℕ) → out ≡ flat_map (found_at nodes outer step) from
      → node_numbers (filter (λ (node : Node). is_among node.number out) nodes) ≡ all_reached nodes outer step from
  all_of_turns step from out e = ap node_numbers (alike (λ (node : Node). is_among node.number out)
      (λ (node : Node). is_reached nodes outer step from node.number) 0 nodes
      (λ k l b. ap (is_among (tree_node nodes k).number) e ∙ flat_any (found_at nodes outer step) from (tree_node nodes k).number))
