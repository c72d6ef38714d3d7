use Rattle.std.proofs.Common.{ap, sym, ◌∙◌, arith}
use Rattle.ordered_map.proofs.PlaceLemmas.{greater-up_to, less-from}
use Rattle.ordered_map.proofs.places.place_of.Goals as goal

pub place_between-requires-clause-within : goal.place_between-requires-clause-within
place_between-requires-clause-within g c = record {
  order = omega arith;
  bound = c.steps.invariant.bound;
  below = greater-up_to g.V.Keyed.key_of g.met.K.Ord.total c.args.key.now c.args.values.now c.requires c.saturating_sub-look.result
      c.index-values-look.result c.index-values-look.is (omega arith)
      (ap (g.K.Ord.cmp c.args.key.now) (sym c.key.ensures) ∙ (sym c.cmp.ensures ∙ c.in-Greater.is));
  above = c.steps.invariant.above;
}

pub steps-preserved : goal.steps-preserved
steps-preserved g c = record {
  bound = omega arith;
  step = omega arith;
  above = less-from g.V.Keyed.key_of g.met.K.Ord.total c.args.key.now c.args.values.now c.requires c.saturating_sub-look.result
      c.index-values-look.result c.index-values-look.is (omega arith)
      (ap (g.K.Ord.cmp c.args.key.now) (sym c.key.ensures) ∙ (sym c.cmp.ensures ∙ c.in-Less.is));
}
