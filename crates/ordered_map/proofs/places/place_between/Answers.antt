use Rattle.std.proofs.Common.{ap, sym, ◌∙◌, ◌+◌, ◌-◌, ◌/◌, arith}
use Rattle.ordered_map.proofs.PlaceLemmas.{greater-up_to, less-from}
use Rattle.ordered_map.proofs.places.place_between.Goals as goal

pub halves-preserved-in-Less : goal.halves-preserved-in-Less
halves-preserved-in-Less g c = record {
  order = omega arith;
  bound = omega arith;
  below = c.halves.invariant.below;
  above = less-from g.V.Keyed.key_of g.met.K.Ord.total c.args.key.now c.args.values.now c.requires.ascend (c.halves.low + (c.halves.high - c.halves.low) / 2)
      c.index-values-middle.result c.index-values-middle.is (omega arith)
      (ap (g.K.Ord.cmp c.args.key.now) (sym c.key.ensures) ∙ (sym c.cmp.ensures ∙ c.in-Less.is));
}

pub halves-preserved : goal.halves-preserved
halves-preserved g c = record {
  order = omega arith;
  bound = c.halves.invariant.bound;
  below = greater-up_to g.V.Keyed.key_of g.met.K.Ord.total c.args.key.now c.args.values.now c.requires.ascend
      (c.halves.low + (c.halves.high - c.halves.low) / 2)
      c.index-values-middle.result c.index-values-middle.is (omega arith)
      (ap (g.K.Ord.cmp c.args.key.now) (sym c.key.ensures) ∙ (sym c.cmp.ensures ∙ c.in-Greater.is));
  above = c.halves.invariant.above;
}
