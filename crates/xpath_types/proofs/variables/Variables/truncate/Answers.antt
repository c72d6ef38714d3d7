use Rattle.std.proofs.Common.{◌-◌, drop, length, ap, ◌∙◌, List, ℕ}
use Rattle.xpath_types.specs.declared.kinds.Kinds.{Kinds}
use Rattle.xpath_types.specs.Variables.{with_kinds}
use Rattle.xpath_types.proofs.VariableLemmas.{with_kinds-cut}
use Rattle.xpath_types.proofs.variables.Variables.truncate.Goals as goal

pub returns : goal.returns
returns c = (λ j. with_kinds (c.truncate-2.ensures.items j) (c.truncate.ensures j))
    ∙ (with_kinds-cut c.self.inside.kinds.items c.self.inside.names c.args.height c.self.invariant
    ∙ ap (λ (variables : List (List ℕ × Kinds)). drop (length variables - c.args.height) variables) c.self.view_is)
