use Rattle.std.proofs.Common.{◌≤◌, ◌∷◌, length, sym, ◌∙◌, arith}
use Rattle.xml_tokens.proofs.ExtentLemmas.{doctype-shown, inside-shown, other-shown}
use Rattle.xml_tokens.proofs.SearchingLemmas.{few-searched, any-inside-short}
use Rattle.xml_tokens.proofs.extents.comment_or_section_at.Goals as goal

pub returns-then-begins_with-3-clause-answer : goal.returns-then-begins_with-3-clause-answer
returns-then-begins_with-3-clause-answer c = doctype-shown c.args.bytes.now (sym c.begins_with.ensures.exact ∙ c.if-begins_with.false)
    (sym c.begins_with-else-begins_with.ensures.exact ∙ c.if-begins_with-2.false) (sym c.begins_with-else-begins_with-2.ensures.exact ∙ c.if-begins_with-3.true)

pub returns-then-ends_inside_any-clause-answer : goal.returns-then-ends_inside_any-clause-answer
returns-then-ends_inside_any-clause-answer c = inside-shown c.args.bytes.now (sym c.begins_with.ensures.exact ∙ c.if-begins_with.false)
    (sym c.begins_with-else-begins_with.ensures.exact ∙ c.if-begins_with-2.false) (sym c.begins_with-else-begins_with-2.ensures.exact ∙
    c.if-begins_with-3.false)
    (sym c.ends_inside_any.ensures ∙ c.if-ends_inside_any.true)

pub returns-else-ends_inside_any-clause-answer : goal.returns-else-ends_inside_any-clause-answer
returns-else-ends_inside_any-clause-answer c = other-shown c.args.bytes.now c.shared_with_any.result (sym c.begins_with.ensures.exact ∙ c.if-begins_with.false)
    (sym c.begins_with-else-begins_with.ensures.exact ∙ c.if-begins_with-2.false) (sym c.begins_with-else-begins_with-2.ensures.exact ∙
    c.if-begins_with-3.false)
    (sym c.ends_inside_any.ensures ∙ c.if-ends_inside_any.false) c.shared_with_any.ensures

pub returns-then-ends_inside_any-clause-search : goal.returns-then-ends_inside_any-clause-search
returns-then-ends_inside_any-clause-search c =
    let short : length c.args.bytes.now ≤ 6 = any-inside-short c.args.bytes.now (sym c.ends_inside_any.ensures ∙ c.if-ends_inside_any.true) in
    few-searched c.args.search.now (0x3C ∷ (0x21 ∷ c.args.bytes.now)) c.requires (omega arith)
