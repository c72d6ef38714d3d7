use Rattle.std.proofs.Common.{codes, refl, ap, sym, ◌∙◌}
use Rattle.bind_write.specs.Wordings.{due_date_text}
use Rattle.bind_write.proofs.WordLemmas.{chars-word}
use Rattle.bind_write.proofs.wording.due_date_text.Goals as goal

pub returns-in-Invoice : goal.returns-in-Invoice
returns-in-Invoice c = chars-word (codes "5") refl ∙ ap due_date_text (sym c.in-Invoice.is)

pub returns-in-Delivery : goal.returns-in-Delivery
returns-in-Delivery c = chars-word (codes "29") refl ∙ ap due_date_text (sym c.in-Delivery.is)

pub returns-in-Payment : goal.returns-in-Payment
returns-in-Payment c = chars-word (codes "72") refl ∙ ap due_date_text (sym c.in-Payment.is)
