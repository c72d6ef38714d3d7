use Rattle.std.proofs.Common.{ap, ◌∙◌, take}
use Rattle.xpath_steps.specs.Variables.{variables_of}
use Rattle.xpath_steps.proofs.VariableLemmas.{map_take}
use Rattle.xpath_steps.proofs.variables.Env.truncate.Goals as goal

pub returns : goal.returns
returns c = ap variables_of c.truncate.ensures.items ∙ (map_take c.args.n c.self.inside.variables.items ∙ ap (take c.args.n) c.self.view_is)
