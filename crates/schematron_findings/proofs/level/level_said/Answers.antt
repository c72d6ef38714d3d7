use Rattle.std.proofs.Common.{true, false, sym, ◌∙◌, refl, codes}
use Rattle.std.specs.Str.{chars, bytes_eq}
use Rattle.schematron_findings.proofs.LevelLemmas.{said}
use Rattle.schematron_findings.proofs.level.level_said.Goals as goal

pub returns-then-is_same_text : goal.returns-then-is_same_text
returns-then-is_same_text c = said _ true (bytes_eq (chars c.args.word.now) (chars (codes "information")))
    (sym c.if-is_same_text.true ∙ c.is_same_text.ensures) refl

pub returns-then-is_same_text-2 : goal.returns-then-is_same_text-2
returns-then-is_same_text-2 c = said _ false true (sym c.if-is_same_text.false ∙ c.is_same_text.ensures)
    (sym c.if-is_same_text-2.true ∙ c.is_same_text-else-is_same_text.ensures)

pub returns-else-is_same_text-2 : goal.returns-else-is_same_text-2
returns-else-is_same_text-2 c = said _ false false (sym c.if-is_same_text.false ∙ c.is_same_text.ensures)
    (sym c.if-is_same_text-2.false ∙ c.is_same_text-else-is_same_text.ensures)
