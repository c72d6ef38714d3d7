use Rattle.std.proofs.Common.{arith}
use Rattle.inv_base.proofs.PrintingLemmas.{Prints-append, Prints-same}
use Rattle.validation_report.specs.Held.{held_unread}
use Rattle.validation_report.proofs.ListLemmas.{text-more, text-all}
use Rattle.validation_report.proofs.printing.print_all_unread.Goals as goal

pub unread-preserved : goal.unread-preserved
unread-preserved g c =
    Prints-same _ _ _ _ _ _
    (text-more held_unread c.args.unread.now c.unread.one-index c.one-item.result c.unread-test.true c.one-item.is)
    (Prints-append _ _ _ _ _ _ _ _ c.unread.invariant c.print_unread.ensures)

pub returns : goal.returns
returns g c =
    Prints-same _ _ _ _ _ _
    (text-all held_unread c.args.unread.now c.unread.one-index (omega (arith, c.unread-test.false)))
    c.unread.invariant
