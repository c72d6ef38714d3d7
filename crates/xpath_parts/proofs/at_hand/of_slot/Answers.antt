use Rattle.std.proofs.Common.{◌≡◌, IfSome, length, refl, sym, subst}
use Rattle.xpath_plan.specs.Plans.{made}
use Rattle.xpath_parts.specs.Contexts.{operands_of, value_in}
use Rattle.xpath_parts.specs.Slots.{PlacedNode}
use Rattle.xpath_steps.specs.Lending.{lent_value}
use Rattle.xpath_parts.proofs.SlotLemmas.{kept_if_there}
use Rattle.xpath_parts.proofs.at_hand.of_slot.Goals as goal

pub returns-in-Some-clause-value : goal.returns-in-Some-clause-value
returns-in-Some-clause-value c =
    subst (λ kind. IfSome c.lent.result (λ found. lent_value found ≡ value_in c.args.dynamic.now
    (made kind (operands_of c.args.dynamic.now.names.now c.args.parts.now)) c.args.focus.now c.args.bound.now)) (sym c.in-Some.ensures.once)
    (kept_if_there c.args.dynamic.now c.args.slots.now c.in-Some.slot (length c.args.bound.now) c.args.parts.now c.args.focus.now c.args.bound.now
    c.lent.result (subst (λ kind. PlacedNode c.args.dynamic.now kind c.args.parts.now) c.in-Some.ensures.once c.requires.placed) c.requires.slots
    c.in-Some.ensures.node refl c.lent.ensures).0

pub returns-in-Some-clause-within : goal.returns-in-Some-clause-within
returns-in-Some-clause-within c =
    (kept_if_there c.args.dynamic.now c.args.slots.now c.in-Some.slot (length c.args.bound.now) c.args.parts.now c.args.focus.now c.args.bound.now
    c.lent.result (subst (λ kind. PlacedNode c.args.dynamic.now kind c.args.parts.now) c.in-Some.ensures.once c.requires.placed) c.requires.slots
    c.in-Some.ensures.node refl c.lent.ensures).1
