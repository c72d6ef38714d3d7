use Rattle.std.proofs.Common.{◌∙◌}
use Rattle.schematron_expansion.proofs.abstracts.place_of_name.Goals as goal

pub returns : goal.returns
returns c = c.copied.ensures ∙ c.get.ensures.value
