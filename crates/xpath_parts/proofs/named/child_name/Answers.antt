use Rattle.std.proofs.Common.{◌∙◌, ap, sym}
use Rattle.xpath_parts.specs.Named.{child_name}
use Rattle.xpath_parts.proofs.NamedLemmas.{child_some}
use Rattle.xpath_parts.proofs.named.child_name.Goals as goal

pub returns-in-Step-clause-step : goal.returns-in-Step-clause-step
returns-in-Step-clause-step c = child_some c.args.simple.now c.name_on.result (c.name_on.ensures ∙ sym (ap child_name c.in-Step.is))
