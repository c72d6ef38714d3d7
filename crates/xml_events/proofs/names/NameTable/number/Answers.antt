use Rattle.std.proofs.Common.{◌∙◌}
use Rattle.std.proofs.lemmas.Result.{err_from_is_err_and}
use Rattle.xml_events.proofs.NameLemmas.{kept-grown, answers-number, answers-names, stays-kept, still-named}
use Rattle.xml_events.proofs.names.NameTable.number.Goals as goal

pub invariant_of-self : goal.invariant_of-self
invariant_of-self c = (kept-grown c.number_space.result _ _ _ _ c.self.invariant c.number_space.ensures).0

pub returns-in_err-space-clause-err : goal.returns-in_err-space-clause-err
returns-in_err-space-clause-err c =
    let p = err_from_is_err_and c.from_residual.result c.from_residual.ensures.1 in
    rw p.1 ((kept-grown c.number_space.result _ _ _ _ c.self.invariant c.number_space.ensures).1 ∙ c.self.view_is)

pub invariant_of-self-2 : goal.invariant_of-self-2
invariant_of-self-2 c = stays-kept c.number_kept.result _ _ _ _ _ _ _ _ c.self.invariant c.self.view_is c.in_ok-space.ensures c.utf8.local
    c.number_kept.ensures.names c.number_kept.ensures.err

pub returns-clause-number : goal.returns-clause-number
returns-clause-number c = answers-number c.number_kept.result _ _ _ _ c.number_kept.new.names _ _ _ c.self.invariant c.self.view_is c.in_ok-space.ensures
    c.utf8.local c.number_kept.ensures.number

pub returns-clause-names : goal.returns-clause-names
returns-clause-names c = answers-names c.number_kept.result _ _ _ _ _ _ _ _ c.self.invariant c.self.view_is c.in_ok-space.ensures c.utf8.local
    c.number_kept.ensures.names

pub returns-clause-err : goal.returns-clause-err
returns-clause-err c = still-named c.number_kept.result _ _ _ _ _ _ _ _ c.self.invariant c.self.view_is c.in_ok-space.ensures c.utf8.local
    c.number_kept.ensures.err
