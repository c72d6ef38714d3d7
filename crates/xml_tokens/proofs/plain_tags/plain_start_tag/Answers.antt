use Rattle.std.proofs.Common.{sym, ◌∙◌}
use Rattle.xml_tokens.proofs.PlainTagLemmas.{start-shown, empty-shown, name-begins}
use Rattle.xml_tokens.proofs.plain_tags.plain_start_tag.Goals as goal

pub returns-then-begins_with-clause-tag : goal.returns-then-begins_with-clause-tag
returns-then-begins_with-clause-tag c =
    start-shown c.args.bytes.now _ _ c.in_ok-name.ensures.behind c.in_ok-name.ensures.name c.in_ok-name.ensures.short
    (sym c.begins_with.ensures.exact ∙ c.if-begins_with.true)

pub returns-then-begins_with-clause-begins : goal.returns-then-begins_with-clause-begins
returns-then-begins_with-clause-begins c = name-begins c.args.bytes.now _ _ c.in_ok-name.ensures.behind c.in_ok-name.ensures.name

pub returns-then-begins_with-2-clause-tag : goal.returns-then-begins_with-2-clause-tag
returns-then-begins_with-2-clause-tag c =
    empty-shown c.args.bytes.now _ _ c.in_ok-name.ensures.behind c.in_ok-name.ensures.name c.in_ok-name.ensures.short
    (sym c.begins_with-else-begins_with.ensures.exact ∙ c.if-begins_with-2.true)

pub returns-then-begins_with-2-clause-begins : goal.returns-then-begins_with-2-clause-begins
returns-then-begins_with-2-clause-begins c = name-begins c.args.bytes.now _ _ c.in_ok-name.ensures.behind c.in_ok-name.ensures.name
