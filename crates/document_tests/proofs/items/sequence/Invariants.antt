use Rattle.std.proofs.Common.{length}
use Rattle.xpath_operators.specs.Nodes.{AreWithin}
use Rattle.document_tests.proofs.items.sequence.Given as goal

abbrev pub invariant-items : goal.invariant-items
invariant-items l =
    (goal.iterator-items).can_next l.piece-iterator × (goal.iterator-items).is_finite l.piece-iterator × AreWithin (length l.doc.nodes) l.items
