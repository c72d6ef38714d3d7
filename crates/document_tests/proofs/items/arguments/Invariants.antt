use Rattle.std.proofs.Common.{length}
use Rattle.xpath_operators.specs.Nodes.{AllWithin}
use Rattle.document_tests.proofs.items.arguments.Given as goal

abbrev pub invariant-values : goal.invariant-values
invariant-values l =
    (goal.iterator-values).can_next l.piece-iterator × (goal.iterator-values).is_finite l.piece-iterator × AllWithin (length l.doc.nodes) l.values.items
