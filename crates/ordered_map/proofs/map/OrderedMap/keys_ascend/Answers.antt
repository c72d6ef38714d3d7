use Rattle.std.proofs.Common.{ap, subst}
use Rattle.std.specs.List.Sorted.{IsStrictlySortedBy}
use Rattle.std.specs.Map.{keys_of}
use Rattle.ordered_map.specs.Entries.{HaveTheirKeys}
use Rattle.ordered_map.proofs.MergingLemmas.{ascend-both, keys-both}
use Rattle.ordered_map.proofs.map.OrderedMap.keys_ascend.Goals as goal

pub returns-clause-ordered : goal.returns-clause-ordered
returns-clause-ordered g c =
    subst (λ es. IsStrictlySortedBy g.K.Ord.cmp (keys_of es)) (ap (λ m. m.entries) c.self.view_is)
    (ascend-both g.met.K.Ord.total g.V.Keyed.key_of c.self.inside.sorted.items c.self.inside.others.entries c.self.invariant)

pub returns-clause-keys : goal.returns-clause-keys
returns-clause-keys g c =
    subst (HaveTheirKeys g.V.Keyed.key_of) (ap (λ m. m.entries) c.self.view_is)
    (keys-both g.met.K.Ord.total g.V.Keyed.key_of c.self.inside.sorted.items c.self.inside.others.entries c.self.invariant)
