use Rattle.std.proofs.Common.{ap, ◌∙◌}
use Rattle.std.proofs.lemmas.Str.{chars-nil}
use Rattle.xpath_types.specs.Functions as functions
use Rattle.xpath_types.specs.Scopes.{namespace_of}
use Rattle.xpath_types.proofs.FunctionLemmas.{resolves}
use Rattle.xpath_types.proofs.resolving.type_named.Goals as goal

pub returns-in-Some : goal.returns-in-Some
returns-in-Some c = c.known.ensures ∙ (ap functions.known c.type_in.ensures
    ∙ resolves _ functions.type_in _ _ c.args.name.now (c.in-Some.ensures ∙ ap (λ default. namespace_of c.args.scope.now default c.args.name.now) chars-nil)
    c.local.ensures)
