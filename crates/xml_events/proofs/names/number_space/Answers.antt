use Rattle.xml_events.proofs.NameLemmas.{takes-found, takes-new}
use Rattle.xml_events.proofs.names.number_space.Goals as goal

pub returns-in-Some : goal.returns-in-Some
returns-in-Some c = takes-found _ c.args.uri.now c.in-Some.n c.requires c.in-Some.ensures

pub returns-in_ok-push-in-None : goal.returns-in_ok-push-in-None
returns-in_ok-push-in-None c = takes-new _ _ c.args.uri.now c.len-n.result c.requires c.utf8.uri c.in-None.ensures c.len-n.ensures
    c.in_ok-push-in-None.ensures.ok
