use Rattle.std.proofs.Common.{◌≡◌, ◌∙◌, [], IfOk, ap, chars, map, subst}
use Rattle.schematron_texts.specs.Messages.{Written}
use Rattle.schematron_run.specs.Judging as spec
use Rattle.schematron_run.specs.Ready.{ready_part}
use Rattle.schematron_run.specs.Inputs.{nodes_of}
use Rattle.schematron_run.proofs.messages.message_at.Goals as goal

pub returns-clause-text : goal.returns-clause-text
returns-clause-text g c =
    let is : chars c.as_str.result.now ≡ spec.message_at (nodes_of c.args.input.now) c.args.n c.args.env.now (map ready_part c.args.parts.now) =
    c.as_str.ensures ∙ ap (λ (message : Written). message.text) (c.in_ok-push_parts.ensures.says [] c.new-message.ensures) in
    subst (λ t. IfOk c.of.result (λ text. text ≡ t)) is c.of.ensures
