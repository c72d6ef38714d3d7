use Rattle.std.proofs.Common.{ap, ◌∙◌, chars, false}
use Rattle.std.proofs.lemmas.Str.{chars-nil}
use Rattle.schematron_texts.specs.Messages.{Written}
use Rattle.schematron_texts.proofs.messages.Message.clear.Goals as goal

pub returns : goal.returns
returns c = ap (λ t. let w : Written = record { text = t; begun = false; waits = false } in w) (ap chars c.clear.ensures.bytes ∙ chars-nil)
