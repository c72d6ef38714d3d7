use Rattle.std.proofs.Common.{◌++◌, length, ap, subst, arith}
use Rattle.std.specs.Prelude.{flat_map}
use Rattle.std.proofs.lemmas.List.{take_all}
use Rattle.inv_base.specs.Printing.{Printed}
use Rattle.inv_totals.specs.Lines.{line, count_line, differences_text}
use Rattle.inv_totals.proofs.printing.print_differences.Goals as goal

pub returns : goal.returns
unfolding differences_text
returns g c =
    let ds = c.args.differences.now in
    let all = ap (flat_map line) (take_all c.differences.difference-index ds (omega (arith, c.differences-test.false))) in
    subst (λ text. Printed c.print_count.new.printer.failed text (g.K.Sink.view c.args.out.now) (g.K.Sink.view c.print_count.new.out))
    (ap (λ x. x ++ count_line (length ds)) all)
    (c.print_count.ensures _ _ c.differences.invariant)
