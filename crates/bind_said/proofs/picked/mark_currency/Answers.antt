use Rattle.bind_meaning.specs.Said.{is_of_amount}
use Rattle.bind_said.specs.Saying.{named_attributes}
use Rattle.bind_said.proofs.MarkLemmas.{unmarked-by}
use Rattle.bind_said.proofs.picked.mark_currency.Goals as goal

pub returns-else-is_of_amount : goal.returns-else-is_of_amount
returns-else-is_of_amount g c = unmarked-by c.args.marks.now.items (is_of_amount c.args.row.now) c.is_of_amount.result
    (named_attributes c.args.input.now.doc.now c.args.name c.args.n) c.is_of_amount.ensures c.if-is_of_amount.false
