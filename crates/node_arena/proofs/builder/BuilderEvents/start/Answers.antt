use Rattle.node_arena.proofs.BuiltLemmas.{takes-builds}
use Rattle.node_arena.proofs.builder.BuilderEvents.start.Goals as goal

pub returns : goal.returns
returns c = takes-builds c.begin_element.result _ _ _ c.begin_element.ensures
