use Rattle.document_tests.proofs.RowLemmas.{value_within}
use Rattle.document_tests.proofs.items.arguments.Goals as goal

pub values-preserved : goal.values-preserved
values-preserved c = (
  tt,
  tt,
  value_within _ c.values.values.items c.push.new.self.items c.in_ok-sequence.field-0 c.in_ok-push.ensures.items
      c.values.invariant.2 c.in_ok-sequence.ensures,
)
