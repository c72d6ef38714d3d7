use Rattle.xml_events.proofs.NameLemmas.{space-found, sought-here, sought-nowhere, not_in_space}
use Rattle.xml_events.proofs.names.NameTable.find.Goals as goal

pub returns-in_default : goal.returns-in_default
returns-in_default c = not_in_space _ c.args.uri.now c.args.local.now c.utf8.uri c.in_default.ensures c.self.inside.names _ c.self.invariant.within
    c.self.view_is

pub returns-in_ok-at-in-Some-find : goal.returns-in_ok-at-in-Some-find
returns-in_ok-at-in-Some-find c =
    sought-here _ _ _ _ _ c.self.invariant c.self.view_is (space-found _ c.args.uri.now c.in-Some.space c.in-Some.ensures) c.utf8.local _ _
    c.in-Some-find.ensures c.in_ok-at-in-Some-find.ensures

pub returns-in-None : goal.returns-in-None
returns-in-None c = sought-nowhere _ _ _ _ _ c.self.invariant c.self.view_is (space-found _ c.args.uri.now c.in-Some.space c.in-Some.ensures) c.utf8.local
    c.in-None.ensures
