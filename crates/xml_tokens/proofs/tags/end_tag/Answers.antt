use Rattle.std.proofs.Common.{sym, ◌∙◌}
use Rattle.xml_tokens.proofs.TagLemmas.{tells-end, tells-no-end}
use Rattle.xml_tokens.proofs.tags.end_tag.Goals as goal

pub returns-then-is_ended_name : goal.returns-then-is_ended_name
returns-then-is_ended_name c = tells-end c.args.inside.now c.split_name.result.0 c.split_name.result.1.now c.split_name.ensures.name c.split_name.ensures.rest
    (sym c.is_ended_name.ensures ∙ c.if-is_ended_name.true)

pub returns-else-is_ended_name : goal.returns-else-is_ended_name
returns-else-is_ended_name c = tells-no-end c.args.inside.now c.split_name.result.0.now c.split_name.result.1.now c.split_name.ensures.name
    c.split_name.ensures.rest (sym c.is_ended_name.ensures ∙ c.if-is_ended_name.false)
