use Rattle.std.proofs.Common.{◌≡◌, IfSome, arith, ap, sym, subst, ◌∙◌}
use Rattle.xpath_parts.specs.Contexts.{value_in}
use Rattle.xpath_parts.specs.Depths.{deepest}
use Rattle.xpath_steps.specs.Lending.{lent_value}
use Rattle.xpath_parts.proofs.DepthLemmas.{deeper}
use Rattle.xpath_parts.proofs.SeenLemmas.{seen-at}
use Rattle.xpath_parts.proofs.SlotLemmas.{placed_node, placed_parts}
use Rattle.xpath_parts.proofs.at_hand.+at_hand.Goals as goal

pub of_slot-requires-clause-placed : goal.of_slot-requires-clause-placed
of_slot-requires-clause-placed t c = placed_node c.args.dynamic.now c.args.work.now c.in-Node.kind c.in-Node.parts c.as_slice-parts.result.now c.in-Node.is
    c.as_slice-parts.ensures c.requires.placed

pub at_hand-requires : goal.at_hand-requires
at_hand-requires t c = (
  omega (
    arith,
    c.decreases,
    deeper c.args.work.now c.in-Node.kind c.in-Node.parts c.in-Node.is,
    c.in-Some-sole.ensures.deeper,
    ap deepest
        c.as_slice-parts.ensures,
  ),
  (
    c.requires.ready,
    (
      c.in-Some-sole.ensures.placed c.args.dynamic.now (placed_parts c.args.dynamic.now c.in-Node.kind c.as_slice-parts.result.now
          (placed_node c.args.dynamic.now c.args.work.now c.in-Node.kind c.in-Node.parts c.as_slice-parts.result.now c.in-Node.is
          c.as_slice-parts.ensures c.requires.placed)),
      c.requires.slots,
    ),
  ),
)

pub returns-in-Some-clause-value : goal.returns-in-Some-clause-value
returns-in-Some-clause-value t c = c.in-Some.ensures.value
    ∙ ap (λ e. value_in c.args.dynamic.now e c.args.focus.now c.args.bound.now) (sym (seen-at c.args.dynamic.now.names.now c.args.work.now c.in-Node.kind
    c.in-Node.parts c.as_slice-parts.result.now c.in-Node.is c.as_slice-parts.ensures))

pub returns-in-Some-sole-clause-value : goal.returns-in-Some-sole-clause-value
returns-in-Some-sole-clause-value t c =
    subst (λ e. IfSome c.at_hand.result (λ found. lent_value found ≡ value_in c.args.dynamic.now e c.args.focus.now c.args.bound.now))
    (sym (seen-at c.args.dynamic.now.names.now c.args.work.now c.in-Node.kind c.in-Node.parts c.as_slice-parts.result.now c.in-Node.is
    c.as_slice-parts.ensures ∙ c.in-Some-sole.ensures.some c.args.dynamic.now.names.now))
    c.at_hand.ensures.value
