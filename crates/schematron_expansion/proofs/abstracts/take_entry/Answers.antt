use Rattle.std.proofs.Common.{sym, ◌∙◌}
use Rattle.schematron_entries.specs.Seen.{seen_entry}
use Rattle.schematron_expansion.proofs.NameLemmas.{rules_added}
use Rattle.schematron_expansion.proofs.abstracts.take_entry.Goals as goal

pub returns-then-is_abstract_rule : goal.returns-then-is_abstract_rule
returns-then-is_abstract_rule c = rules_added c.add_rule.result _ _ _ _ (seen_entry c.args.e.now) (sym c.is_abstract_rule.ensures ∙ c.if-is_abstract_rule.true)
    c.add_rule.ensures.nodes c.add_rule.ensures.names
