use Rattle.std.proofs.Common.{sym, ◌∙◌, inl, inr}
use Rattle.inv_decimal.proofs.NumberParts.{reads_none, reads_more, reads_end, not_digit, one_too_many}
use Rattle.inv_decimal.proofs.reading.number.Goals as goal

pub loop-digit-init : goal.loop-digit-init
loop-digit-init c = reads_none _

pub returns-then-not-is_ascii_digit : goal.returns-then-not-is_ascii_digit
returns-then-not-is_ascii_digit c =
    elim c.then-not-is_ascii_digit.either [
      | inl other ↦ not_digit _ _ c.loop-digit-test.true (sym c.is_ascii_digit.ensures.value ∙ other)
      | inr large ↦ one_too_many _ _ _ c.loop-digit.invariant c.loop-digit-test.true large.1
    ]

pub loop-digit-preserved : goal.loop-digit-preserved
loop-digit-preserved c =
    reads_more _ _ _ _ c.loop-digit.invariant c.loop-digit-test.true
    (sym c.is_ascii_digit.ensures.value ∙ c.if-not-is_ascii_digit.false) c.if-value-ge100000000000000000.false c.from.ensures

pub returns : goal.returns
returns c = reads_end _ _ _ c.loop-digit.invariant c.loop-digit-test.false
