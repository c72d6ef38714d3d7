use Rattle.std.proofs.Common.{◌∙◌, sym}
use Rattle.trial_invoice.specs.Amounts.{ones}
use Rattle.trial_invoice.proofs.WordLemmas.{found-same, none-found, ones-read}
use Rattle.trial_invoice.proofs.values.ones.Goals as goal

pub returns : goal.returns
returns c =
    found-same c.in-Some.number (ones c.args.n)
    (sym c.in-Some.is ∙ (c.read.ensures ∙ ones-read c.printed_numbers_are_read.ensures.scaled c.args.n c.requires _ c.format.ensures.text
    c.format.ensures.ascii))

pub unreachable-requires : goal.unreachable-requires
unreachable-requires c =
    none-found (ones c.args.n)
    (sym c.in-None.is ∙ (c.read.ensures ∙ ones-read c.printed_numbers_are_read.ensures.scaled c.args.n c.requires _ c.format.ensures.text
    c.format.ensures.ascii))
