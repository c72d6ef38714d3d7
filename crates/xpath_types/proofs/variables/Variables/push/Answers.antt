use Rattle.std.proofs.Common.{◌∷◌, ap, ◌∙◌, chars, string_bytes}
use Rattle.xpath_types.specs.Variables.{with_kinds}
use Rattle.xpath_types.proofs.VariableLemmas.{with_kinds-push}
use Rattle.xpath_types.proofs.variables.Variables.push.Goals as goal

pub returns-clause-ok : goal.returns-clause-ok
returns-clause-ok c = (λ j. with_kinds (c.in_ok-push.ensures.items j) (c.in-Ok.ensures.ok j))
    ∙ (with_kinds-push c.self.inside.kinds.items c.args.kinds (chars (string_bytes c.args.name)) c.self.inside.names c.self.invariant
    ∙ ap (λ variables. (chars (string_bytes c.args.name), c.args.kinds) ∷ variables) c.self.view_is)
