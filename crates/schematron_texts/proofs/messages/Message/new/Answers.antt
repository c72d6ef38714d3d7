use Rattle.std.proofs.Common.{ap, ◌∙◌, chars, false}
use Rattle.std.proofs.lemmas.Str.{chars-nil}
use Rattle.schematron_texts.specs.Messages.{Written}
use Rattle.schematron_texts.proofs.messages.Message.new.Goals as goal

pub returns : goal.returns
returns c = ap (λ t. let w : Written = record { text = t; begun = false; waits = false } in w) (ap chars c.new.ensures.bytes ∙ chars-nil)
