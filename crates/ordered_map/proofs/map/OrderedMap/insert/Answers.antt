use Rattle.std.proofs.Common.{ap}
use Rattle.std.proofs.lemmas.Result.{IfOk-weaker}
use Rattle.ordered_map.proofs.MergingLemmas.{values-behind}
use Rattle.ordered_map.proofs.map.OrderedMap.insert.Goals as goal

pub returns-clause-values : goal.returns-clause-values
returns-clause-values g c =
    IfOk-weaker c.put.result _ _
    (λ back put. values-behind g.met.K.Ord.total g.V.Keyed.key_of c.self.inside.sorted.items c.self.inside.others.entries c.args.value back
    c.put.new.sorted.items c.put.new.others.entries put c.args.self.now.entries (ap (λ m. m.entries) c.self.view_is))
    c.put.ensures.ok
