use Rattle.std.proofs.Common.{Some, None, string_bytes, subst}
use Rattle.xml_state.specs.Scopes.{Shows}
use Rattle.xml_state.proofs.FoundLemmas.{shows-update}
use Rattle.xml_state.proofs.scopes.unbind.Goals as goal

pub returns-in-Ok : goal.returns-in-Ok
returns-in-Ok c = shows-update c.args.shown.now c.insert.new.self (string_bytes c.args.bound.prefix)
    (Some c.in-Some.space) c.args.bound.hid c.in-Ok.ensures.updates c.in-Some.is

pub returns-in-None : goal.returns-in-None
returns-in-None c =
    subst (λ prefix. Shows prefix c.args.bound.hid c.args.shown.now c.remove.new.self) c.as_str.ensures.value
    (shows-update c.args.shown.now c.remove.new.self c.as_str.result.now None c.args.bound.hid c.remove.ensures.updates c.in-None.is)
