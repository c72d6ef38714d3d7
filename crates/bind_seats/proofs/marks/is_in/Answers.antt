use Rattle.std.proofs.Common.{◌∙◌}
use Rattle.bind_seats.proofs.MarkLemmas.{found-at, found-nowhere}
use Rattle.bind_seats.proofs.marks.is_in.Goals as goal

pub returns-then-before-marks : goal.returns-then-before-marks
returns-then-before-marks c = c.eq.ensures ∙ found-at c.args.mark c.args.marks.now _ c.requires c.count_before-before.ensures c.if-before-marks.true

pub returns-else-before-marks : goal.returns-else-before-marks
returns-else-before-marks c = found-nowhere c.args.mark c.args.marks.now _ c.requires c.count_before-before.ensures c.if-before-marks.false
