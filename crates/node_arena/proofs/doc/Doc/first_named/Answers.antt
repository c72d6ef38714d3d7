use Rattle.std.proofs.Common.{get_or, None, IfSome, subst, ap, sym, ◌∙◌, ◌<◌, length}
use Rattle.node_arena.proofs.MoveLemmas.{answers_first}
use Rattle.node_arena.proofs.doc.Doc.first_named.Goals as goal

pub returns-clause-node : goal.returns-clause-node
returns-clause-node g c =
    c.first_of.ensures ∙ (ap (λ links. get_or links c.args.name None) c.deref.ensures.value ∙
    (answers_first _ _ _ _ _ c.self.invariant c.self.view_is c.args.name c.requires).0)

pub returns-clause-within : goal.returns-clause-within
returns-clause-within g c =
    subst (λ o. IfSome o (λ m. m < length c.args.self.now.nodes)) (sym (c.first_of.ensures ∙ ap (λ links. get_or links c.args.name None) c.deref.ensures.value))
    (answers_first _ _ _ _ _ c.self.invariant c.self.view_is c.args.name c.requires).1
