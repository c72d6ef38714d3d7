use Rattle.std.proofs.Common.{refl}
use Rattle.ordered_map.proofs.MergingLemmas.{there-some, beside-some, beside-none}
use Rattle.ordered_map.proofs.merging.put.Goals as goal

pub returns-in_default-clause-ok : goal.returns-in_default-clause-ok
returns-in_default-clause-ok g c = (
  there-some g.met.K.Ord.total g.V.Keyed.key_of c.args.sorted.now.items c.args.others.now.entries c.requires _ refl
      c.key-key.result c.as_slice.result.now c.as_slice.ensures.value c.place_of.result c.place_of.ensures c.in_default.field-0 c.args.value
      c.key-key.ensures c.in_default.is,
  refl,
  refl,
  refl,
)

pub returns-then-contains_key-clause-ok : goal.returns-then-contains_key-clause-ok
returns-then-contains_key-clause-ok g c = (
  beside-some g.met.K.Ord.total g.V.Keyed.key_of c.args.sorted.now.items c.args.others.now.entries c.requires _ refl
      c.key-key.result c.as_slice.result.now c.as_slice.ensures.value c.place_of.result c.place_of.ensures c.in-Before.place c.args.value
      c.contains_key.result c.key-key.ensures c.in-Before.is c.contains_key.ensures c.if-contains_key.true,
  refl,
  refl,
  refl,
)

pub put_new-requires-clause-absent : goal.put_new-requires-clause-absent
put_new-requires-clause-absent g c =
    beside-none g.met.K.Ord.total g.V.Keyed.key_of c.args.sorted.now.items c.args.others.now.entries c.requires _ refl
    c.key-key.result c.as_slice.result.now c.as_slice.ensures.value c.place_of.result c.place_of.ensures c.in-Before.place c.args.value
    c.contains_key.result c.key-key.ensures c.in-Before.is c.contains_key.ensures c.if-contains_key.false

pub returns-clause-ok : goal.returns-clause-ok
returns-clause-ok g c = (
  beside-none g.met.K.Ord.total g.V.Keyed.key_of c.args.sorted.now.items c.args.others.now.entries c.requires _ refl
      c.key-key.result c.as_slice.result.now c.as_slice.ensures.value c.place_of.result c.place_of.ensures c.in-Before.place c.args.value
      c.contains_key.result c.key-key.ensures c.in-Before.is c.contains_key.ensures c.if-contains_key.false,
  c.in_ok-put_new.ensures.ok,
)
