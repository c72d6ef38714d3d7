use Rattle.xpath_plan.proofs.CompiledLaws.{grammatical-typed}
use Rattle.xpath_plan.proofs.laws.typed_expressions_are_grammatical.Goals as goal

pub returns : goal.returns
returns c = grammatical-typed
