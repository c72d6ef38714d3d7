use Rattle.std.proofs.Common.{arith}
use Rattle.inv_base.proofs.FrontLemmas.{front-unmarked, front-marked, front-within}
use Rattle.inv_base.proofs.fronts.front_of_block.Goals as goal

pub returns-then-marks-eq0-clause-exact : goal.returns-then-marks-eq0-clause-exact
returns-then-marks-eq0-clause-exact g c = front-unmarked g.S.Stops.stops c.args.bytes.now c.args.place 16 c.stops_in-marks.result c.requires
    c.stops_in-marks.ensures c.if-marks-eq0.true

pub returns-else-marks-eq0-clause-exact : goal.returns-else-marks-eq0-clause-exact
returns-else-marks-eq0-clause-exact g c = front-marked g.S.Stops.stops c.args.bytes.now c.args.place 16 c.stops_in-marks.result c.requires
    (omega arith) c.stops_in-marks.ensures (omega arith)

pub returns-else-marks-eq0-clause-bound : goal.returns-else-marks-eq0-clause-bound
returns-else-marks-eq0-clause-bound g c =
    front-within g.S.Stops.stops c.args.bytes.now c.args.place 16 _ c.requires
    (front-marked g.S.Stops.stops c.args.bytes.now c.args.place 16 c.stops_in-marks.result c.requires (omega arith) c.stops_in-marks.ensures (omega arith))
