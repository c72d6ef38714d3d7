use Rattle.std.proofs.Common.{◌≡◌, ◌++◌, drop, Ok, string_bytes}
use Rattle.std.specs.Str.{chars}
use Rattle.node_arena.specs.Moves.{tree_nodes}
use Rattle.xpath_meaning.specs.Values.{then_}
use Rattle.xpath_meaning.specs.Functions.{concatenated}
use Rattle.xpath_values.proofs.joining.concatenated.Given as goal

abbrev pub invariant-arguments : goal.invariant-arguments
invariant-arguments l =
    then_ (concatenated (tree_nodes l.doc) (drop l.argument-index l.arguments)) (λ t. Ok (chars (string_bytes l.out) ++ t)) ≡ concatenated
    (tree_nodes l.doc) l.arguments
