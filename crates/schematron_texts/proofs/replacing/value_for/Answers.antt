use Rattle.std.proofs.Common.{sym, ap, ◌∙◌}
use Rattle.schematron_texts.specs.Walking as walking
use Rattle.schematron_texts.proofs.WalkLemmas.{no_name, value_for-more}
use Rattle.schematron_texts.proofs.replacing.value_for.Goals as goal

pub returns-then-is_empty : goal.returns-then-is_empty
returns-then-is_empty c = sym (ap (walking.value_for c.args.parameters.now) (no_name c.args.name.now (sym c.is_empty.ensures ∙ c.if-is_empty.true)))

pub returns : goal.returns
returns c = c.value.ensures ∙ value_for-more c.args.parameters.now c.args.name.now c.utf8.name (sym c.is_empty.ensures ∙ c.if-is_empty.false)
