use Rattle.std.proofs.lemmas.Result.{err_from_is_err_and}
use Rattle.xml_state.proofs.TellingLemmas.{all-is-front}
use Rattle.xml_state.proofs.telling.tell_and_open.Goals as goal

pub returns-in_err-open-clause-told : goal.returns-in_err-open-clause-told
returns-in_err-open-clause-told g c =
    let p = err_from_is_err_and c.from_residual-in_err-open.result c.from_residual-in_err-open.ensures.1 in
    rw p.1 (all-is-front _ _ _ c.in_ok-tell_tag.ensures)
