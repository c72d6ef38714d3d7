use Rattle.std.proofs.Common.{ap, ◌∙◌, map}
use Rattle.bind_write.specs.Roots.{declaration_call}
use Rattle.bind_write.proofs.WriterSteps.{each-err, each-ok, each-end}
use Rattle.bind_write.proofs.RootLemmas.{declarations-are}
use Rattle.bind_write.proofs.roots.put_declarations.Goals as goal

pub returns-in_err-put_declaration-clause-makes : goal.returns-in_err-put_declaration-clause-makes
returns-in_err-put_declaration-clause-makes g c =
    each-err declaration_call _ _ _ _ _ _ _ _ _ _ _ (ap (map declaration_call) c.declared_by-namespaces.ensures ∙
    declarations-are c.args.root) c.namespaces-test.true c.namespaces.invariant.ahead
    c.in_err-put_declaration.ensures.makes c.from_residual.ensures.0

pub namespaces-preserved : goal.namespaces-preserved
namespaces-preserved g c = record {
  ahead = each-ok declaration_call c.declared_by-namespaces.result.now _ _ _ _ _ _ _ _ c.namespaces-test.true c.namespaces.invariant.ahead
      c.in_ok-put_declaration.ensures.makes;
  state = c.in_ok-put_declaration.ensures.state;
}

pub returns-clause-makes : goal.returns-clause-makes
returns-clause-makes g c =
    each-end declaration_call _ _ _ _ _ _ _ (ap (map declaration_call) c.declared_by-namespaces.ensures ∙ declarations-are c.args.root) c.namespaces-test.false
    c.namespaces.invariant.ahead
