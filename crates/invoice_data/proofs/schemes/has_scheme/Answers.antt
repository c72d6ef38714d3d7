use Rattle.std.proofs.Common.{sym, ◌∙◌}
use Rattle.invoice_data.proofs.MemberLemmas.{scheme_said, no_scheme}
use Rattle.invoice_data.proofs.schemes.has_scheme.Goals as goal

pub returns-in-Ok : goal.returns-in-Ok
returns-in-Ok c =
    scheme_said c.args.input.now.bytes c.args.items.now c.members.rest.now c.in-Some.behind.now c.in-Some.item.now c.in-Ok.nothing c.in-Some.ensures.cases.0
    (sym c.in-Ok-true.ensures ∙ c.in-Ok-true.field-0-test) c.in-Ok.ensures c.members.invariant

pub returns : goal.returns
returns c = no_scheme c.args.input.now.bytes c.args.items.now c.members.rest.now c.in_default.ensures.cases c.members.invariant
