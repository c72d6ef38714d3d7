-- How many elements are passed over.
use Rattle.std.proofs.Common.{◌≡◌, ◌<◌, ◌≤◌, ℕ, suc, Bool, true, false, List, [], ◌∷◌, length, filter, ap, arith}
use Rattle.std.specs.Prelude.{◌^◌, if◌then◌else◌}
use Rattle.std.proofs.lemmas.List.{length-map}
use Rattle.inv_base.specs.Tree.{Node}
use Rattle.node_arena.specs.Document.{Document}
use Rattle.node_arena.specs.Moves.{tree_nodes}
use Rattle.bind_rows.specs.declared.rows.Row.{Row}
use Rattle.bind_meaning.specs.Faults.{passed_nodes}
use Rattle.bind_meaning.specs.Terms.{is_passed_over, passed_over}
use Rattle.bind_terms.proofs.NodeLists.{long}

pub passed-count : (nodes : List Node) (rows : List Row) → length (passed_nodes nodes rows) ≡ passed_over nodes rows
unfolding passed_nodes
passed-count nodes rows = length-map (filter (is_passed_over nodes rows) nodes) (λ (node : Node). node.number)

filter-few : {X : Type 0} (p : X → Bool) (xs : List X) → length (filter p xs) ≤ length xs
filter-few p [] = omega arith
filter-few p (x ∷ xs) = go (p x) (filter-few p xs)
  where
    go : (b : Bool) → length (filter p xs) ≤ length xs → length (if b then x ∷ filter p xs else filter p xs) ≤ suc (length xs)
    go true h = omega (arith, h)
    go false h = omega (arith, h)

pub passed-few : (document : Document) (rows : List Row) (passed : List ℕ) → passed ≡ passed_nodes (tree_nodes document) rows → length document.nodes < 2 ^ 32
    → length passed < 2 ^ 32
passed-few document rows passed is few =
    let few_passed = filter-few (is_passed_over (tree_nodes document) rows) (tree_nodes document) in
    omega (arith, ap length is, passed-count (tree_nodes document) rows, few_passed, long document, few)
