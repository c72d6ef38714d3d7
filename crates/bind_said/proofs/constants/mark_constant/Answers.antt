use Rattle.std.proofs.Common.{ap, sym, ◌∙◌}
use Rattle.bind_said.specs.Marks.{mark_all}
use Rattle.bind_said.specs.Saying.{said_by}
use Rattle.bind_said.proofs.MarkLemmas.{marked-none}
use Rattle.bind_said.proofs.constants.mark_constant.Goals as goal

pub returns-in-Term : goal.returns-in-Term
returns-in-Term g c =
    marked-none c.args.marks.now.items
    ∙ ap (λ content. mark_all c.args.marks.now.items (said_by c.args.input.now.doc.now c.args.row.now content)) (sym c.in-Term.is)
