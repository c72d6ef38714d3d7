use Rattle.std.proofs.Common.{ap, ◌∙◌}
use Rattle.std.specs.Map.{values_of}
use Rattle.ordered_map.proofs.MergingLemmas.{values-alone}
use Rattle.ordered_map.proofs.map.OrderedMap.into_values.Goals as goal

pub returns-then-is_empty : goal.returns-then-is_empty
returns-then-is_empty g c =
    values-alone g.met.K.Ord.total g.V.Keyed.key_of c.self.inside.sorted.items c.self.inside.others.entries (c.is_empty.ensures.0 c.if-is_empty.true)
    ∙ ap (λ m. values_of m.entries) c.self.view_is
