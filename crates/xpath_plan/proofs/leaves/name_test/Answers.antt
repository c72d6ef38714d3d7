use Rattle.std.proofs.Common.{◌≡◌, ◌++◌, List, Option, Some, IfOk, sym, ap, subst, ◌∙◌}
use Rattle.std.proofs.lemmas.Str.{chars-nil}
use Rattle.inv_base.specs.Tree.{Name}
use Rattle.xpath_types.specs.Scopes.{uri_of}
use Rattle.xpath_meaning.specs.Expressions as e
use Rattle.xpath_meaning.specs.Resolving as meaning
use Rattle.xpath_plan.specs.Plans.{test_in}
use Rattle.xpath_plan.proofs.leaves.name_test.Goals as goal

pub returns-in-Plain-clause-test : goal.returns-in-Plain-clause-test
returns-in-Plain-clause-test c = subst (λ (t : Option e.NodeTest). IfOk c.named_in.result
    (λ found. (later : List Name) → test_in (c.named_in.new.names ++ later) found ≡ t))
    ((λ j. Some (e.named (record { uri = chars-nil j; local = c.in-Plain.local }))) ∙ ap (meaning.name_test c.args.scope.now) (sym c.in-Plain.is))
    c.named_in.ensures.test

pub returns-in-Some-clause-test : goal.returns-in-Some-clause-test
returns-in-Some-clause-test c = subst (λ (t : Option e.NodeTest). IfOk c.named_in-in-Some.result
    (λ found. (later : List Name) → test_in (c.named_in-in-Some.new.names ++ later) found ≡ t))
    (ap (meaning.in_uri (λ uri. e.named (record { uri = uri; local = c.in-Prefixed.local })))
    (c.in-Some.ensures ∙ ap (λ prefix. uri_of prefix c.args.scope.now) c.as_str.ensures)
    ∙ ap (meaning.name_test c.args.scope.now) (sym c.in-Prefixed.is)) c.named_in-in-Some.ensures.test
