use Rattle.std.proofs.Common.{ap, ◌∙◌}
use Rattle.xpath_types.specs.Functions as functions
use Rattle.xpath_types.specs.Scopes.{namespace_of}
use Rattle.xpath_types.proofs.FunctionLemmas.{functions-ascii, resolves}
use Rattle.xpath_types.proofs.resolving.function_called.Goals as goal

pub returns-in-Some : goal.returns-in-Some
returns-in-Some c = c.known.ensures ∙ (ap functions.known c.function_in.ensures
    ∙ resolves _ functions.function_in _ _ c.args.name.now
    (c.in-Some.ensures ∙ ap (λ default. namespace_of c.args.scope.now default c.args.name.now) functions-ascii) c.local.ensures)
