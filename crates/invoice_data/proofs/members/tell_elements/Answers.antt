use Rattle.invoice_data.proofs.MemberLemmas.{next_element, no_element}
use Rattle.invoice_data.proofs.members.tell_elements.Goals as goal

pub elements-preserved : goal.elements-preserved
elements-preserved g c =
    next_element g.A.Arrays.told c.args.input.now c.args.room c.args.group _ _ c.elements.rest.now c.in-Some.behind.now c.in-Some.item.now
    c.split.result.0.now c.split.result.1.now _ _ _ c.in-Some.ensures.cases.0 c.split.ensures.parts c.in-Ok.ensures.told c.in-Ok.ensures.numbers
    c.elements.invariant

pub returns : goal.returns
returns g c =
    no_element g.A.Arrays.told c.args.input.now c.args.room c.args.group _ c.elements.rest.now _ _ c.in_default.ensures.cases c.elements.invariant
