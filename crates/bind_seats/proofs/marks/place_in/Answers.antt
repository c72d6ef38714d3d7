use Rattle.std.proofs.Common.{arith}
use Rattle.bind_seats.proofs.MarkLemmas.{counts, few-lower}
use Rattle.bind_seats.proofs.marks.place_in.Goals as goal

pub overflow_sub-result : goal.overflow_sub-result
overflow_sub-result c = omega (arith, counts c.args.mark c.args.marks.now)

pub overflow_add-result : goal.overflow_add-result
overflow_add-result c = omega (arith, counts c.args.mark c.args.marks.now, few-lower c.args.mark c.args.marks.now c.requires.order, c.requires.few)

pub overflow_cast-result : goal.overflow_cast-result
overflow_cast-result c = omega (arith, counts c.args.mark c.args.marks.now, few-lower c.args.mark c.args.marks.now c.requires.order, c.requires.few)

pub returns : goal.returns
returns c = omega (arith, counts c.args.mark c.args.marks.now)
