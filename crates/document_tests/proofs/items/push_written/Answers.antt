use Rattle.document_tests.proofs.RowLemmas.{item_within}
use Rattle.document_tests.proofs.items.push_written.Goals as goal

pub returns : goal.returns
returns c = item_within _ c.args.items.now c.push.new.self c.in_ok-item.item c.in_ok-push.ensures.ok c.requires c.in_ok-item.ensures
