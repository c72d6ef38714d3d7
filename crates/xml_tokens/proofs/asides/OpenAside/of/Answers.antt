use Rattle.std.proofs.Common.{sym, ◌∙◌}
use Rattle.xml_tokens.proofs.OpenLemmas.{not-open, comment-by, instruction-by}
use Rattle.xml_tokens.proofs.asides.OpenAside.of.Goals as goal

pub returns-then-begins_with : goal.returns-then-begins_with
returns-then-begins_with c = sym (comment-by c.args.position c.args.bytes.now _ _ _
    (sym c.begins_with.ensures.exact ∙ c.if-begins_with.true) c.new.ensures c.split_at.ensures.back (c.opened_by.ensures 4))

pub returns-then-begins_instruction : goal.returns-then-begins_instruction
returns-then-begins_instruction c =
    sym (instruction-by c.args.position c.args.bytes.now _ _ _ (sym c.begins_with.ensures.exact ∙ c.if-begins_with.false)
    (sym c.begins_instruction.ensures.exact ∙ c.if-begins_instruction.true)
    c.new-then-begins_instruction.ensures c.split_at-then-begins_instruction.ensures.back (c.opened_by-then-begins_instruction.ensures 2))

pub returns-else-begins_instruction : goal.returns-else-begins_instruction
returns-else-begins_instruction c = sym (not-open c.args.position c.args.bytes.now (sym c.begins_with.ensures.exact ∙ c.if-begins_with.false)
    (sym c.begins_instruction.ensures.exact ∙ c.if-begins_instruction.false))
