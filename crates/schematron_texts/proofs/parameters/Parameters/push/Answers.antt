use Rattle.std.proofs.Common.{◌≡◌, false, is_some, sym, ap, ◌∙◌}
use Rattle.std.specs.Str.{chars}
use Rattle.schematron_texts.specs.Replacing as spec
use Rattle.schematron_texts.proofs.ParameterLemmas.{parameter-added, is_some-map}
use Rattle.schematron_texts.proofs.parameters.Parameters.push.Goals as goal

pub returns-clause-ok : goal.returns-clause-ok
returns-clause-ok c =
    let none : is_some (spec.value_of c.args.self.now (chars c.args.name.now)) ≡ false =
    ap is_some (sym c.value.ensures) ∙ (is_some-map _ c.value.result ∙ (sym c.is_some.ensures ∙ c.if-is_some.false)) in
    parameter-added c.args.name.now c.utf8.name c.args.value.now _ _ _ _ _ c.self.view_is c.in_ok-name.ensures.ok c.in_ok-value.ensures.ok none
    c.in_ok-insert.ensures.entries
