use Rattle.std.proofs.Common.{◌∙◌}
use Rattle.schematron_entries.specs.Seen.{seen_entry}
use Rattle.schematron_entries.proofs.DeclaredLemmas.{own_same}
use Rattle.schematron_entries.proofs.showing.fault_by_itself.Goals as goal

pub returns : goal.returns
returns c = c.first_or-2.ensures ∙ own_same (seen_entry c.args.e.now) _ _ _ _ _ _ c.not_schematron.ensures c.bad_binding.ensures c.bad_element.ensures
    c.missing_attribute.ensures
    c.first_or-inner.ensures c.first_or.ensures
