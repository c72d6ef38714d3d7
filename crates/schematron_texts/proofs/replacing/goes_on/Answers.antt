use Rattle.std.proofs.Common.{sym, ap, ◌∙◌}
use Rattle.schematron_texts.specs.Walking as walking
use Rattle.schematron_texts.proofs.WalkLemmas.{no_name, goes_on-more}
use Rattle.schematron_texts.proofs.replacing.goes_on.Goals as goal

pub returns-then-is_empty : goal.returns-then-is_empty
returns-then-is_empty c = c.is_name_start.ensures ∙
    sym (ap (λ n. walking.goes_on n c.args.c) (no_name c.args.name.now (sym c.is_empty.ensures ∙ c.if-is_empty.true)))

pub returns-else-is_empty : goal.returns-else-is_empty
returns-else-is_empty c = c.is_name_char.ensures ∙ goes_on-more c.args.name.now c.args.c c.utf8.name (sym c.is_empty.ensures ∙ c.if-is_empty.false)
