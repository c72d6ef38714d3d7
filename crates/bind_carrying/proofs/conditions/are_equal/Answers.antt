use Rattle.std.proofs.Common.{◌∙◌}
use Rattle.inv_terms.proofs.SpellLemmas.{same_text}
use Rattle.bind_carrying.proofs.conditions.are_equal.Goals as goal

pub returns : goal.returns
returns c = c.eq.ensures ∙ same_text c.args.a.now c.args.b.now c.utf8.a c.utf8.b
