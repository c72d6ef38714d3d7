use Rattle.std.proofs.Common.{◌≡◌, ap, ◌∙◌, pos, ◌+ℤ◌, arith}
use Rattle.std.proofs.Common.{to_z, of_z, w64}
use Rattle.std.specs.Prelude.{◌*ℤ◌}
use Rattle.std.proofs.lemmas.Int.{ints}
use Rattle.inv_decimal.specs.Number.{unit}
use Rattle.xpath_operators.proofs.RangeLemmas.{row_more}
use Rattle.xpath_operators.proofs.ranges.in_a_row.Goals as goal

pub numbers-preserved : goal.numbers-preserved
numbers-preserved c =
    let place : to_z w64 (of_z w64 (to_z w64 (of_z w64 c.args.from) +ℤ to_z w64 c.numbers.i)) ≡ to_z w64 (of_z w64 c.args.from) +ℤ pos c.numbers.i =
    omega (arith, ints) in
    row_more c.numbers.items.items _ _ c.args.count c.numbers.i
    (to_z w64 (of_z w64 c.args.from)) c.of_whole.result c.numbers-test.true c.in_ok-push.ensures.items
    (c.of_whole.ensures ∙ ap (λ z. z *ℤ pos unit) place) c.numbers.invariant
