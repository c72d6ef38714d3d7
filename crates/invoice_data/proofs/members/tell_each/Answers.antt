use Rattle.invoice_data.proofs.MemberLemmas.{next_member, no_member}
use Rattle.invoice_data.proofs.members.tell_each.Goals as goal

pub members-preserved : goal.members-preserved
members-preserved g c =
    next_member g.A.Arrays.told c.args.input.now c.args.room _ _ c.members.rest.now c.in-Some.behind.now c.in-Some.item.now c.split.result.0.now
    c.split.result.1.now _ _ _ c.in-Some.ensures.cases.0 c.split.ensures.parts c.in-Ok.ensures.told c.in-Ok.ensures.seen c.members.invariant

pub returns : goal.returns
returns g c =
    no_member g.A.Arrays.told c.args.input.now c.args.room _ c.members.rest.now _ _ c.in_default.ensures.cases c.members.invariant
