use Rattle.std.proofs.Common.{sym, ◌∙◌}
use Rattle.schematron_entries.specs.Seen.{seen_entry}
use Rattle.schematron_expansion.proofs.NameLemmas.{pattern_passed, patterns_added}
use Rattle.schematron_expansion.proofs.abstracts.take_pattern.Goals as goal

pub returns-then-is_abstract_pattern : goal.returns-then-is_abstract_pattern
returns-then-is_abstract_pattern c = patterns_added c.add_name.result _ _ (seen_entry c.args.e.now) c.args.at _ c.attribute.ensures
    (sym c.is_abstract_pattern.ensures ∙ c.if-is_abstract_pattern.true) c.add_name.ensures

pub returns-else-is_abstract_pattern : goal.returns-else-is_abstract_pattern
returns-else-is_abstract_pattern c = pattern_passed _ (seen_entry c.args.e.now) c.args.at (sym c.is_abstract_pattern.ensures ∙ c.if-is_abstract_pattern.false)
