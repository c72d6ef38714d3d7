use Rattle.std.proofs.Common.{arith}
use Rattle.inv_base.proofs.PrintingLemmas.{Prints-append, Prints-same}
use Rattle.validation_report.specs.Held.{located_text}
use Rattle.validation_report.proofs.ListLemmas.{text-more, text-all}
use Rattle.validation_report.proofs.printing.print_all_located.Goals as goal

pub located-preserved : goal.located-preserved
located-preserved g c =
    Prints-same _ _ _ _ _ _
    (text-more (located_text c.args.word.now) c.args.located.now c.located.one-index c.one-item.result c.located-test.true c.one-item.is)
    (Prints-append _ _ _ _ _ _ _ _ c.located.invariant c.print_located.ensures)

pub returns : goal.returns
returns g c =
    Prints-same _ _ _ _ _ _
    (text-all (located_text c.args.word.now) c.args.located.now c.located.one-index (omega (arith, c.located-test.false)))
    c.located.invariant
