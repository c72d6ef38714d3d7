use Rattle.std.proofs.Common.{◌≡◌, ◌++◌, length}
use Rattle.std.specs.Map.{values_of}
use Rattle.ordered_map.specs.Entries.{entries_of, AreApart}
use Rattle.ordered_map.proofs.merging.merged.Given as goal

abbrev pub invariant-values : goal.invariant-values
invariant-values g l = record {
  are_apart : AreApart g.K.Ord.cmp g.V.Keyed.key_of l.sorted.items l.others.entries;
  values : l.values.items ++ values_of (entries_of g.K.Ord.cmp g.V.Keyed.key_of l.sorted.items l.others.entries)
      ≡ values_of (entries_of g.K.Ord.cmp g.V.Keyed.key_of l.fn.sorted.items l.fn.others.entries);
}

abbrev pub decreases-values : goal.decreases-values
decreases-values g l = length (values_of (entries_of g.K.Ord.cmp g.V.Keyed.key_of l.sorted.items l.others.entries))
