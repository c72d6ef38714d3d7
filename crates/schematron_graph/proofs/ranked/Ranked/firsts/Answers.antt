use Rattle.schematron_graph.proofs.ranked.Ranked.firsts.Goals as goal

pub returns : goal.returns
returns c = rw (← c.self.view_is, ← c.deref.ensures.value) c.firsts_of_body.ensures
