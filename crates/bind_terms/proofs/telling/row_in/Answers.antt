use Rattle.std.proofs.Common.{sym, arith}
use Rattle.bind_terms.proofs.RowNumbers.{row-below}
use Rattle.bind_terms.proofs.telling.row_in.Goals as goal

pub overflow_cast-result : goal.overflow_cast-result
overflow_cast-result c = omega (arith, row-below c.args.term c.args.context c.in-Some.row (sym c.in-Some.ensures))
