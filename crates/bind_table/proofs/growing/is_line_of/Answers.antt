use Rattle.std.proofs.Common.{◌≡◌, ◌&&◌, Some, ap, sym, ◌∙◌, arith}
use Rattle.std.proofs.lemmas.Grind.{common_steps}
use Rattle.std.proofs.lemmas.Option.{gets}
use Rattle.std.specs.Prelude.{nat_lt, slice_get}
use Rattle.bind_table.specs.Growing.{is_line_of}
use Rattle.bind_table.proofs.GrowingLemmas.{line_test}
use Rattle.bind_table.proofs.growing.is_line_of.Goals as goal

pub returns-in-Some : goal.returns-in-Some
returns-in-Some c =
    let got : slice_get c.args.lines.now c.args.at ≡ Some c.in-Some.line.now = grind (arith, common_steps, gets) in
    line_test c.args.at c.args.to c.args.step.now c.in-Some.line.now.step (λ below. c.requires c.in-Some.line.now below got)
    ∙ ap (λ line. nat_lt c.args.at c.args.to && is_line_of c.args.step.now line) (sym got)
