use Rattle.node_arena.proofs.MoveLemmas.{answers_attribute, moved}
use Rattle.node_arena.proofs.doc.Doc.first_attribute.Goals as goal

pub returns : goal.returns
returns g c =
    let leads = answers_attribute _ _ _ _ _ c.self.invariant c.self.view_is c.args.n c.requires in
    moved _ _ _ _ _ _ _ _ c.linked.ensures c.deref.ensures.value leads.node leads.behind_it c.tick.ensures
