use Rattle.node_arena.proofs.MoveLemmas.{answers_named, moved}
use Rattle.node_arena.proofs.doc.Doc.next_named.Goals as goal

pub returns : goal.returns
returns g c =
    let leads = answers_named _ _ _ _ _ c.self.invariant c.self.view_is c.args.n c.requires in
    moved _ _ _ _ _ _ _ _ c.linked.ensures c.deref.ensures.value leads.0 leads.1 c.tick.ensures
