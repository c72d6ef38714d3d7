use Rattle.std.proofs.Common.{rules, ◌≡◌, length, ◌∙◌, false, replicate, chars}
use Rattle.std.proofs.lemmas.Result.{IfOk-weaker}
use Rattle.xsd_pattern.specs.Steps.{has_at}
use Rattle.xsd_pattern.proofs.Passing.{among}
use Rattle.xsd_pattern.proofs.going.is_among.Goals as goal

pub returns : goal.returns
returns c x s e =
    let made : c.in_ok-marks.marks.items ≡ replicate (length c.args.steps.now) false = search rules in
    IfOk-weaker c.go_over.result _ _ (λ b d. d ∙ among (has_at c.args.tokens.now) x c.args.steps.now c.args.empty c.deref_mut.result.now
    (chars c.args.text.now) s e (c.deref_mut.ensures.value ∙ made)) c.go_over.ensures
