use Rattle.std.proofs.Common.{sym, ◌∙◌}
use Rattle.xml_tokens.proofs.PlainTagLemmas.{end-shown}
use Rattle.xml_tokens.proofs.plain_tags.plain_end_tag.Goals as goal

pub returns-then-begins_with : goal.returns-then-begins_with
returns-then-begins_with c = end-shown c.args.bytes.now _ _ c.in_ok-name.ensures.behind c.in_ok-name.ensures.name c.in_ok-name.ensures.short
    (sym c.begins_with.ensures.exact ∙ c.if-begins_with.true)
