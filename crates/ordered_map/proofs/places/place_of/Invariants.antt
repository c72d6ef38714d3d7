use Rattle.std.proofs.Common.{◌≡◌, ◌<◌, ◌≤◌, length}
use Rattle.std.specs.declared.cmp.Ordering.TheVariants.{Less}
use Rattle.std.specs.List.{AllWithin}
use Rattle.ordered_map.proofs.places.place_of.Given as goal

abbrev pub invariant-steps : goal.invariant-steps
invariant-steps g l = record {
  bound : l.end ≤ length l.values;
  step : 0 < l.step;
  above : AllWithin (λ x. g.K.Ord.cmp l.key (g.V.Keyed.key_of x) ≡ Less) l.values l.end (length l.values);
}

abbrev pub decreases-steps : goal.decreases-steps
decreases-steps g l = l.end
