use Rattle.std.proofs.Common.{◌≡◌, subst}
use Rattle.std.specs.Prelude.{IfOk}
use Rattle.trial_run.specs.Memory.{terms_in, terms_read}
use Rattle.trial_run.proofs.reading.terms_read.Goals as goal

pub returns : goal.returns
unfolding terms_read
returns c = subst (λ nodes. IfOk c.terms_in-terms.result (λ invoice. invoice ≡ terms_in nodes)) c.in_ok-doc.ensures c.terms_in-terms.ensures
