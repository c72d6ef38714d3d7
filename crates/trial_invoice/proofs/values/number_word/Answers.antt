use Rattle.std.proofs.Common.{◌≡◌, ◌∙◌, subst}
use Rattle.std.specs.Prelude.{IfOk}
use Rattle.std.proofs.lemmas.Str.{chars-IsAscii}
use Rattle.trial_invoice.proofs.values.number_word.Goals as goal

pub returns : goal.returns
returns c = subst (λ text. IfOk c.of.result (λ t. t ≡ text)) (chars-IsAscii _ c.format-text.ensures.ascii ∙ c.format-text.ensures.text) c.of.ensures
