use Rattle.node_arena.proofs.BuiltLemmas.{takes-builds}
use Rattle.node_arena.proofs.builder.BuilderEvents.end.Goals as goal

pub returns : goal.returns
returns c = takes-builds c.end_element.result _ _ _ c.end_element.ensures
