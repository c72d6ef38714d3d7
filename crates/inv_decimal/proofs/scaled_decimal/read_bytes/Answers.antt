use Rattle.std.proofs.Common.{ap, ◌∙◌}
use Rattle.std.specs.List.{before_first, after_first}
use Rattle.inv_decimal.specs.WrittenNumber.{is_point}
use Rattle.inv_decimal.proofs.ReadNumber.{scaled_none, scaled_some, is_scaled}
use Rattle.inv_decimal.proofs.scaled_decimal.read_bytes.Goals as goal

pub returns-in_err-magnitude : goal.returns-in_err-magnitude
returns-in_err-magnitude c =
    c.from_residual.ensures ∙ scaled_none _ _ _ (c.split_point.ensures.before ∙ ap (before_first is_point) c.split_sign-negative.ensures.rest)
    (c.split_point.ensures.behind ∙ ap (after_first is_point) c.split_sign-negative.ensures.rest) c.in_err-magnitude.ensures.value

pub invariant_of-result : goal.invariant_of-result
invariant_of-result c =
    is_scaled _ _ _ _ _ c.in_ok-magnitude.ensures.value c.in_ok-magnitude.ensures.bound c.in_ok-magnitude.ensures.digits c.from_parts.ensures

pub returns : goal.returns
returns c =
    scaled_some _ _ _ _ _ _ c.split_sign-negative.ensures.minus (c.split_point.ensures.before ∙ ap (before_first is_point) c.split_sign-negative.ensures.rest)
    (c.split_point.ensures.behind ∙ ap (after_first is_point) c.split_sign-negative.ensures.rest) c.in_ok-magnitude.ensures.value c.from_parts.ensures
