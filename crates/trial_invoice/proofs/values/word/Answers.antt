use Rattle.std.proofs.Common.{◌≡◌, subst}
use Rattle.std.specs.Prelude.{IfOk}
use Rattle.trial_invoice.proofs.WordLemmas.{chars-ascii}
use Rattle.trial_invoice.proofs.values.word.Goals as goal

pub returns : goal.returns
returns c = subst (λ text. IfOk c.of.result (λ t. t ≡ text)) (chars-ascii c.args.text.now c.requires) c.of.ensures
