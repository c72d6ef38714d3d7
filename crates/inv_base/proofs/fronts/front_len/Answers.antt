use Rattle.std.proofs.Common.{arith, length, ◌-◌}
use Rattle.inv_base.proofs.FrontLemmas.{first-in-block, none-behind, front-bound}
use Rattle.inv_base.proofs.fronts.front_len.Goals as goal

pub returns-then-bytes-lt-LANES-clause-bound : goal.returns-then-bytes-lt-LANES-clause-bound
returns-then-bytes-lt-LANES-clause-bound g c = front-bound g.S.Stops.stops c.args.bytes.now c.front_of_few.result c.front_of_few.ensures

pub returns-then-front-lt-LANES-clause-exact : goal.returns-then-front-lt-LANES-clause-exact
returns-then-front-lt-LANES-clause-exact g c =
    first-in-block g.S.Stops.stops c.args.bytes.now c.pieces.place 16 c.front_of_block-front.result
    (omega arith) c.front_of_block-front.ensures.exact c.pieces.place (omega arith) c.pieces.invariant.none (λ _. omega arith)

pub pieces-preserved : goal.pieces-preserved
pieces-preserved g c = record {
  within = omega arith;
  none = none-behind g.S.Stops.stops c.args.bytes.now c.pieces.place 16 c.front_of_block-front.result (omega arith) c.front_of_block-front.ensures.exact
      (omega arith) c.pieces.invariant.none;
}

pub returns-clause-exact : goal.returns-clause-exact
returns-clause-exact g c =
    first-in-block g.S.Stops.stops c.args.bytes.now (length c.args.bytes.now - 16) 16 c.front_of_block.result
    (omega arith) c.front_of_block.ensures.exact c.pieces.place (omega arith) c.pieces.invariant.none (λ l. omega arith)
