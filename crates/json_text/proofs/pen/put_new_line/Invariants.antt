use Rattle.inv_base.specs.Printing.{Prints}
use Rattle.json_text.specs.Layout.{new_line}
use Rattle.json_text.proofs.pen.put_new_line.Given as goal

-- the line has begun, with the levels so far
abbrev pub invariant-levels : goal.invariant-levels
invariant-levels g l = Prints (new_line l._level) l.fn.printer.failed l.printer.failed (g.K.Sink.view l.fn.out) (g.K.Sink.view l.out)
