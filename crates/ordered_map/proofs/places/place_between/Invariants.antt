use Rattle.std.proofs.Common.{◌-◌}
use Rattle.ordered_map.specs.Places.{IsWithin}
use Rattle.ordered_map.proofs.places.place_between.Given as goal

abbrev pub invariant-halves : goal.invariant-halves
invariant-halves g l = IsWithin (λ x. g.K.Ord.cmp l.key (g.V.Keyed.key_of x)) l.values l.low l.high

abbrev pub decreases-halves : goal.decreases-halves
decreases-halves g l = l.high - l.low
