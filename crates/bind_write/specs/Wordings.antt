-- What the code's wordings say. No public clause cites it.
use Rattle.std.specs.Prelude.{◌≡◌, ℕ, ◌+◌, nat_le, nat_lt, Bool, false, ◌&&◌, ◌||◌, List, [], ◌∷◌, Option, None, codes, option_copied, IfSome, if◌then◌else◌}
use Rattle.inv_decimal.specs.WrittenDay.{plain_day_text}
use Rattle.inv_terms.specs.Values.{spelled}
use Rattle.bind_meaning.specs.Writing.{coded_note, is_upper, is_digit}
use Rattle.bind_write.specs.declared.wording.DueDateType.{DueDateType}
use Rattle.bind_write.specs.declared.wording.DueDateType.TheVariants as due
use Rattle.bind_write.specs.declared.wording.Plain.{Plain}
use Rattle.bind_write.specs.declared.wording.Plain.TheVariants as plain
use Rattle.bind_write.specs.declared.wording.Wording.{Wording}

abbrev pub due_date_text : DueDateType → List ℕ
due_date_text due.Invoice = codes "5"
due_date_text due.Delivery = codes "29"
due_date_text due.Payment = codes "72"

abbrev pub plain_text : Plain → List ℕ
plain_text (plain.Value value) = spelled value.now
plain_text (plain.PlainDate day) = plain_day_text day
plain_text (plain.DueDate code) = due_date_text code
plain_text (plain.Text text) = text.now

abbrev pub wording_text : Wording → List ℕ
wording_text w = coded_note (option_copied w.subject) (plain_text w.text)

-- What is written has no subject code.
abbrev pub IsPlain : Option Wording → Type 0
IsPlain w = IfSome w (λ x. x.subject ≡ None)

-- An IBAN may have the character at the place, from 0.
abbrev pub fits_iban : ℕ → ℕ → Bool
fits_iban place c = if nat_lt place 2 then is_upper c else
    (if nat_lt place 4 then is_digit c else (if nat_lt place 34 then is_upper c || is_digit c else false))

-- the characters from a place on may be those of an IBAN
abbrev pub iban_from : ℕ → List ℕ → Bool
iban_from place [] = nat_le 15 place
iban_from place (c ∷ text) = fits_iban place c && iban_from (place + 1) text
