use Rattle.std.proofs.Common.{length, sym, ap, ◌∙◌}
use Rattle.xpath_types.proofs.VariableLemmas.{length-with_kinds}
use Rattle.xpath_types.proofs.variables.Variables.len.Goals as goal

pub returns : goal.returns
returns c = c.len.ensures ∙ (sym (length-with_kinds c.self.inside.kinds.items c.self.inside.names) ∙ ap length c.self.view_is)
