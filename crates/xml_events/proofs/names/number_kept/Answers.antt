use Rattle.std.proofs.Common.{subst, ◌∙◌, ◌≡◌, IfOk}
use Rattle.xml_events.specs.NameTables.{is_kept}
use Rattle.xml_events.proofs.NameLemmas.{found_place, still_known, new_place, if_ok}
use Rattle.xml_events.proofs.names.number_kept.Goals as goal

pub returns-in-Some-clause-number : goal.returns-in-Some-clause-number
returns-in-Some-clause-number c = subst (λ n. IfOk c.at.result (λ id. id ≡ n)) (found_place _ c.args.names.now c.in-Some.index c.in-Some.ensures) c.at.ensures

pub returns-in-Some-clause-names : goal.returns-in-Some-clause-names
returns-in-Some-clause-names c = if_ok c.at.result (still_known c.args.space c.args.local.now c.args.names.now c.in-Some.index c.in-Some.ensures)

pub returns-in_ok-push-in-None-clause-number : goal.returns-in_ok-push-in-None-clause-number
returns-in_ok-push-in-None-clause-number c = new_place (is_kept c.args.space c.args.local.now) c.args.names.now _ c.in-None.ensures
    (c.in_ok-id-in-None.ensures ∙ c.len.ensures)
