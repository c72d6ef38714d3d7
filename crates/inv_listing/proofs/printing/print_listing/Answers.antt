use Rattle.std.proofs.Common.{◌++◌, ap, subst, ◌∙◌, arith}
use Rattle.std.specs.Prelude.{flat_map}
use Rattle.std.proofs.lemmas.List.{take_all}
use Rattle.inv_base.specs.Printing.{Printed}
use Rattle.inv_listing.specs.Listing.{entry_line, passed_line, listing}
use Rattle.inv_listing.proofs.printing.print_listing.Goals as goal

pub returns : goal.returns
unfolding listing
returns g c =
    let all = ap (flat_map entry_line) (take_all c.entries.e-index c.entries-e-items.result.now (omega (arith, c.entries-test.false)) ∙
    c.entries-e-items.ensures.entries) in
    subst (λ text. Printed c.print_passed.new.printer.failed (text ++ passed_line c.args.passed_over) (g.K.Sink.view c.args.out.now)
    (g.K.Sink.view c.print_passed.new.out)) all
    (c.print_passed.ensures _ _ c.entries.invariant.0)
