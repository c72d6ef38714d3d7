use Rattle.std.proofs.Common.{refl}
use Rattle.std.proofs.lemmas.Result.{err_from_is_err_and}
use Rattle.xml_state.proofs.ScopeLemmas.{binds-none, binds-result}
use Rattle.xml_state.proofs.scopes.bind.Goals as goal

pub returns-in_err-space-clause-binds : goal.returns-in_err-space-clause-binds
returns-in_err-space-clause-binds c =
    let p = err_from_is_err_and c.from_residual.result c.from_residual.ensures.1 in
    rw p.1 (binds-none _ _ _ _ _ _ c.requires.bound c.number_space.ensures _ _ refl)

pub returns-clause-binds : goal.returns-clause-binds
returns-clause-binds c = binds-result c.bind_space.result _ _ _ _ _ _ _ c.requires.bound c.in_ok-space.ensures c.bind_space.ensures.ok c.bind_space.ensures.err
