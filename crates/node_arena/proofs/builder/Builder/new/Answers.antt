use Rattle.std.proofs.Common.{refl}
use Rattle.node_arena.proofs.BuilderLemmas.{begun_kept, begun_growing}
use Rattle.node_arena.proofs.builder.Builder.new.Goals as goal

pub invariant_of-result : goal.invariant_of-result
invariant_of-result c = begun_growing _ _ _ c.in_ok-nodes.ensures.items c.push_within.ensures.items refl _ _ c.in_ok-ends.ensures.items
    c.push_within-2.ensures.items

pub returns : goal.returns
returns c = begun_kept _ _ _ c.in_ok-nodes.ensures.items c.push_within.ensures.items refl refl refl refl
