use Rattle.std.proofs.Common.{◌<◌, ◌≤◌, get_or, length, subst, ap, sym, ◌∙◌}
use Rattle.node_arena.proofs.MoveLemmas.{answers_last}
use Rattle.node_arena.proofs.doc.Doc.last_inside.Goals as goal

pub returns-clause-node : goal.returns-clause-node
returns-clause-node g c =
    c.end_at.ensures ∙ (ap (λ ends. get_or ends c.args.n 0) c.deref.ensures.value ∙
    (answers_last _ _ _ _ _ c.self.invariant c.self.view_is c.args.n c.requires).0)

pub returns-clause-within : goal.returns-clause-within
returns-clause-within g c =
    subst (λ m. (c.args.n ≤ m) × (m < length c.args.self.now.nodes)) (sym (c.end_at.ensures ∙ ap (λ ends. get_or ends c.args.n 0) c.deref.ensures.value))
    (answers_last _ _ _ _ _ c.self.invariant c.self.view_is c.args.n c.requires).1
