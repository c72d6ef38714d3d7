use Rattle.std.proofs.Common.{arith, ap}
use Rattle.std.proofs.lemmas.Option.{IfSome_then}
use Rattle.xpath_parts.specs.Depths.{deepest}
use Rattle.xpath_parts.proofs.DepthLemmas.{deeper}
use Rattle.xpath_parts.proofs.SlotLemmas.{placed_node, placed_parts}
use Rattle.xpath_parts.proofs.at_hand.+unkept.Goals as goal

pub unkept-requires : goal.unkept-requires
unkept-requires t c = omega (
  arith,
  deeper c.args.work.now c.in-Node.kind c.in-Node.parts c.in-Node.is,
  c.in-Some-sole.ensures.deeper,
  ap deepest c.as_slice-parts.ensures,
)

pub returns-in-Some-clause-kept : goal.returns-in-Some-clause-kept
returns-in-Some-clause-kept t c = λ base placed. c.in-Some.ensures.kept base
    (placed_node base c.args.work.now c.in-Node.kind c.in-Node.parts c.as_slice-parts.result.now c.in-Node.is c.as_slice-parts.ensures placed)

pub returns-in-Some-clause-deeper : goal.returns-in-Some-clause-deeper
returns-in-Some-clause-deeper t c = omega (
  arith,
  deeper c.args.work.now c.in-Node.kind c.in-Node.parts c.in-Node.is,
  c.in-Some.ensures.deeper,
  ap deepest c.as_slice-parts.ensures,
)

pub returns-in-Some-sole-clause-kept : goal.returns-in-Some-sole-clause-kept
returns-in-Some-sole-clause-kept t c = λ base placed. c.unkept.ensures.kept base (c.in-Some-sole.ensures.placed base
    (placed_parts base c.in-Node.kind c.as_slice-parts.result.now
    (placed_node base c.args.work.now c.in-Node.kind c.in-Node.parts c.as_slice-parts.result.now c.in-Node.is c.as_slice-parts.ensures placed)))

pub returns-in-Some-sole-clause-deeper : goal.returns-in-Some-sole-clause-deeper
returns-in-Some-sole-clause-deeper t c = IfSome_then c.unkept.result c.unkept.ensures.deeper (λ found less. omega (
  arith,
  less,
  deeper c.args.work.now c.in-Node.kind c.in-Node.parts c.in-Node.is,
  c.in-Some-sole.ensures.deeper,
  ap deepest c.as_slice-parts.ensures,
))
