use Rattle.std.proofs.Common.{◌≡◌, true, false, subst, sym, ap, ◌∙◌}
use Rattle.std.specs.Prelude.{codes}
use Rattle.std.specs.Str.{bytes_eq, IsUtf8}
use Rattle.xml_tokens.specs.Markup.{instruction}
use Rattle.xml_tokens.specs.Told.{Tells}
use Rattle.xml_tokens.proofs.MarkupLemmas.{tells-declaration, tells-instruction}
use Rattle.xml_tokens.proofs.markup.instruction.Goals as goal

pub returns-then-spells : goal.returns-then-spells
returns-then-spells c =
    let text : IsUtf8 c.split_target.result.0.now = subst IsUtf8 c.as_bytes.ensures.value c.as_bytes.ensures.utf8 in
    let spelled : bytes_eq c.split_target.result.0.now (codes "xml") ≡ true = ap (λ x. bytes_eq x (codes "xml")) (sym c.as_bytes.ensures.value) ∙
    (sym c.spells.ensures ∙ c.if-spells.true) in
    subst (λ r. Tells r (instruction c.args.may_declare c.args.inside.now)) (sym c.aside_if.ensures)
    (tells-declaration c.args.may_declare c.args.inside.now c.split_target.result.0.now c.split_target.result.1.now c.declares.result text
    c.split_target.ensures spelled c.declares.ensures)

pub returns-else-spells : goal.returns-else-spells
returns-else-spells c =
    let text : IsUtf8 c.split_target.result.0.now = subst IsUtf8 c.as_bytes.ensures.value c.as_bytes.ensures.utf8 in
    let spelled : bytes_eq c.split_target.result.0.now (codes "xml") ≡ false = ap (λ x. bytes_eq x (codes "xml")) (sym c.as_bytes.ensures.value) ∙
    (sym c.spells.ensures ∙ c.if-spells.false) in
    subst (λ r. Tells r (instruction c.args.may_declare c.args.inside.now)) (sym c.aside_if-else-spells.ensures)
    (tells-instruction c.args.may_declare c.args.inside.now c.split_target.result.0.now c.split_target.result.1.now c.is_instruction.result text
    c.split_target.ensures spelled c.is_instruction.ensures)
