use Rattle.std.proofs.Common.{sym, ap, ◌∙◌}
use Rattle.code_lists.specs.CodeFiles.{codes_of}
use Rattle.code_lists.proofs.ListLemmas.{list_found, list_passed}
use Rattle.code_lists.proofs.lists.CodeLists.codes_of.Goals as goal

pub returns-then-eq : goal.returns-then-eq
returns-then-eq c =
    list_found _ _ c.lists-item.result c.args.list c.lists-test.true c.lists-item.is c.lists.invariant (sym c.if-eq.ensures)
    ∙ ap (λ ls. codes_of ls c.args.list) (c.deref-given-items.ensures.value ∙ c.self.view_is)

pub lists-preserved : goal.lists-preserved
lists-preserved c = list_passed _ _ c.lists-item.result c.args.list c.lists-test.true c.lists-item.is c.lists.invariant (sym c.if-eq.ensures)
