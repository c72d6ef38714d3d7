use Rattle.std.proofs.Common.{◌∙◌, sym}
use Rattle.xpath_parts.specs.Named.{form}
use Rattle.xpath_parts.proofs.NamedLemmas.{inner_yes, inner_no, inner_some}
use Rattle.xpath_parts.proofs.named.inner_name.Goals as goal

pub returns-then-is_double_slash-clause-form : goal.returns-then-is_double_slash-clause-form
returns-then-is_double_slash-clause-form c = c.step_name.ensures.name
    ∙ sym (inner_yes c.args.part.now.0 (form c.args.part.now.1) (sym c.if-is_double_slash.ensures))

pub returns-then-is_double_slash-clause-part : goal.returns-then-is_double_slash-clause-part
returns-then-is_double_slash-clause-part c = inner_some c.args.part.now c.step_name.result (sym c.if-is_double_slash.ensures) c.step_name.ensures.step

pub returns-else-is_double_slash-clause-form : goal.returns-else-is_double_slash-clause-form
returns-else-is_double_slash-clause-form c = sym (inner_no c.args.part.now.0 (form c.args.part.now.1) (sym c.if-is_double_slash.ensures))
