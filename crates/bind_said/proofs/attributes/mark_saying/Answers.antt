use Rattle.std.proofs.Common.{[], ◌∷◌, chars}
use Rattle.bind_said.specs.Saying.{says}
use Rattle.bind_said.proofs.MarkLemmas.{unmarked-by}
use Rattle.bind_said.proofs.attributes.mark_saying.Goals as goal

pub returns-else-branch : goal.returns-else-branch
returns-else-branch g c = unmarked-by c.args.marks.now.items (says c.args.input.now.doc.now (chars c.args.text.now) c.args.n) c.in_ok-says.field-0
    (c.args.n ∷ []) c.in_ok-says.ensures c.if-branch.false
