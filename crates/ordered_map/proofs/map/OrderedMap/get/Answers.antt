use Rattle.std.proofs.Common.{ap}
use Rattle.std.specs.Option.{option_copied}
use Rattle.ordered_map.proofs.MergingLemmas.{value-there, value-beside}
use Rattle.ordered_map.proofs.map.OrderedMap.get.Goals as goal

pub returns-in-At : goal.returns-in-At
returns-in-At g c =
    value-there g.met.K.Ord.total g.V.Keyed.key_of c.self.inside.sorted.items c.self.inside.others.entries c.self.invariant c.args.self.now.entries
    (ap (λ m. m.entries) c.self.view_is)
    c.args.key.now c.as_slice.result.now c.as_slice.ensures.value c.place_of.result c.place_of.ensures c.in-At.place c.index.result.now c.in-At.is
    c.index.ensures

pub returns-in-Before : goal.returns-in-Before
returns-in-Before g c =
    value-beside g.met.K.Ord.total g.V.Keyed.key_of c.self.inside.sorted.items c.self.inside.others.entries c.self.invariant c.args.self.now.entries
    (ap (λ m. m.entries) c.self.view_is)
    c.args.key.now c.as_slice.result.now c.as_slice.ensures.value c.place_of.result c.place_of.ensures c.in-Before.field-0
    (option_copied c.get.result) c.in-Before.is c.get.ensures.value
