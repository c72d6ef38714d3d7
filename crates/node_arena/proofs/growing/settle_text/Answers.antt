use Rattle.node_arena.proofs.BuilderLemmas.{lent, lent_around}
use Rattle.node_arena.proofs.growing.settle_text.Goals as goal

pub returns-clause-nodes : goal.returns-clause-nodes
returns-clause-nodes c = lent _ _ _ _ c.in_ok-make_room.ensures.nodes _ _ _ c.push_text.ensures.nodes c.in_ok-text.ensures

pub returns-clause-around : goal.returns-clause-around
returns-clause-around c = lent_around _ _ _ _ c.in_ok-make_room.ensures.nodes c.push_text.ensures.around
