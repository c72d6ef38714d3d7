use Rattle.std.proofs.Common.{◌≡◌, ◌≤◌, length, drop, chars}
use Rattle.bind_meaning.specs.Writing.{is_iban}
use Rattle.bind_write.specs.Wordings.{iban_from}
use Rattle.bind_write.proofs.wording.is_iban_text.Given as goal

abbrev pub invariant-characters : goal.invariant-characters
invariant-characters l = record { same : iban_from l.place (drop (length l.yielded) (chars l.text)) ≡ is_iban (chars l.text); within : l.place ≤ 34 }
