use Rattle.std.proofs.Common.{◌≡◌, ℕ, ◌&&◌, Bool, true, false, List, [], ◌∷◌, ap, ◌∙◌, sym, refl}
use Rattle.std.specs.Prelude.{nat_lt, codes, bytes_eq}
use Rattle.std.specs.List.{list_all}
use Rattle.std.specs.Str.{chars, IsAscii}
use Rattle.std.proofs.lemmas.Bool.{ltb-true}
use Rattle.std.proofs.lemmas.Str.{chars-IsAscii}
use Rattle.std.proofs.lemmas.Str.Ascii.{IsAscii-nil, IsAscii-cons}
use Rattle.bind_table.specs.WellFormed.{is_root_of}
use Rattle.bind_table.proofs.judging.is_root_of.Goals as goal

both : (a b : Bool) → (a && b) ≡ true → (a ≡ true) × (b ≡ true)
both true b e = (refl, e)
both false b e = cc

ascii : (bytes : List ℕ) → list_all (λ b. nat_lt b 128) bytes ≡ true → IsAscii bytes
ascii [] e = IsAscii-nil
ascii (b ∷ bytes) e = let parts = both (nat_lt b 128) (list_all (λ b. nat_lt b 128) bytes) e in IsAscii-cons b bytes (ltb-true b 128 parts.0)
    (ascii bytes parts.1)

pub returns-in-UblInvoice : goal.returns-in-UblInvoice
returns-in-UblInvoice c =
    c.is_same_text.ensures ∙ (ap (λ x. bytes_eq x (chars (codes "Invoice"))) c.as_str-text.ensures
    ∙ (ap (bytes_eq c.args.local.now) (chars-IsAscii _ (ascii (codes "Invoice") refl)) ∙ ap (λ n. is_root_of n c.args.local.now) (sym c.in-UblInvoice.is)))

pub returns-in-UblCreditNote : goal.returns-in-UblCreditNote
returns-in-UblCreditNote c =
    c.is_same_text-in-UblCreditNote.ensures ∙ (ap (λ x. bytes_eq x (chars (codes "CreditNote"))) c.as_str-text.ensures
    ∙ (ap (bytes_eq c.args.local.now) (chars-IsAscii _ (ascii (codes "CreditNote") refl))
    ∙ ap (λ n. is_root_of n c.args.local.now) (sym c.in-UblCreditNote.is)))

pub returns-in-CiiInvoice : goal.returns-in-CiiInvoice
returns-in-CiiInvoice c =
    c.is_same_text-in-CiiInvoice.ensures ∙ (ap (λ x. bytes_eq x (chars (codes "CrossIndustryInvoice"))) c.as_str-text.ensures
    ∙ (ap (bytes_eq c.args.local.now) (chars-IsAscii _ (ascii (codes "CrossIndustryInvoice") refl))
    ∙ ap (λ n. is_root_of n c.args.local.now) (sym c.in-CiiInvoice.is)))
