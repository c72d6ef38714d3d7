use Rattle.std.proofs.Common.{◌<◌, ◌^◌, ◌∙◌, sym, subst, arith}
use Rattle.std.specs.Str.{IsAscii}
use Rattle.trial_invoice.specs.Amounts.{hundredths}
use Rattle.trial_invoice.proofs.WordLemmas.{found-same, none-found, hundredths-read, hundredths-made, hundredths-ascii}
use Rattle.trial_invoice.proofs.values.hundredths.Goals as goal

pub ascii_text-requires : goal.ascii_text-requires
ascii_text-requires c =
    let small : c.args.n < 2 ^ 64 = omega (arith, c.requires) in
    let made = c.deref.ensures.value ∙ (c.in_ok-extend_from_slice.ensures.items
    ∙ hundredths-made c.args.n _ _ _ (c.in_ok-text.ensures.items ∙ (c.as_bytes.ensures.value ∙ c.format.ensures.text)) c.last_digit.ensures.value
    c.last_digit-2.ensures.value) in
    subst IsAscii (sym made) (hundredths-ascii c.args.n small)

pub returns : goal.returns
returns c =
    let made = c.deref.ensures.value ∙ (c.in_ok-extend_from_slice.ensures.items
    ∙ hundredths-made c.args.n _ _ _ (c.in_ok-text.ensures.items ∙ (c.as_bytes.ensures.value ∙ c.format.ensures.text)) c.last_digit.ensures.value
    c.last_digit-2.ensures.value) in
    found-same c.in-Some.number (hundredths c.args.n)
    (sym c.in-Some.is ∙ (c.read.ensures ∙ hundredths-read c.printed_numbers_are_read.ensures.scaled c.args.n c.requires _ (c.ascii_text.ensures.bytes ∙ made)))

pub unreachable-requires : goal.unreachable-requires
unreachable-requires c =
    let made = c.deref.ensures.value ∙ (c.in_ok-extend_from_slice.ensures.items
    ∙ hundredths-made c.args.n _ _ _ (c.in_ok-text.ensures.items ∙ (c.as_bytes.ensures.value ∙ c.format.ensures.text)) c.last_digit.ensures.value
    c.last_digit-2.ensures.value) in
    none-found (hundredths c.args.n)
    (sym c.in-None.is ∙ (c.read.ensures ∙ hundredths-read c.printed_numbers_are_read.ensures.scaled c.args.n c.requires _ (c.ascii_text.ensures.bytes ∙ made)))
