use Rattle.std.proofs.Common.{◌∙◌}
use Rattle.bind_walk.proofs.picks.lines_of.Goals as goal

pub returns : goal.returns
returns c = c.in_ok-lines.ensures ∙ c.rows_are_walked.ensures.lines c.args.doc.now c.args.table.now
