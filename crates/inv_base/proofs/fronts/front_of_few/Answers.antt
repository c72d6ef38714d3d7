use Rattle.std.proofs.Common.{arith, sym, ◌∙◌}
use Rattle.inv_base.proofs.FrontLemmas.{first-here, first-nowhere, none-one-more}
use Rattle.inv_base.proofs.fronts.front_of_few.Goals as goal

pub returns-then-is_stop : goal.returns-then-is_stop
returns-then-is_stop g c = first-here g.S.Stops.stops c.args.bytes.now c.bytes.count (omega arith) c.bytes.invariant.none
    (sym c.is_stop.ensures ∙ c.if-is_stop.true)

pub bytes-preserved : goal.bytes-preserved
bytes-preserved g c = record {
  within = omega arith;
  none = none-one-more g.S.Stops.stops c.args.bytes.now c.bytes.count c.bytes.invariant.none (sym c.is_stop.ensures ∙ c.if-is_stop.false);
}

pub returns : goal.returns
returns g c = first-nowhere g.S.Stops.stops c.args.bytes.now c.bytes.count c.bytes.invariant.within (omega arith) c.bytes.invariant.none
