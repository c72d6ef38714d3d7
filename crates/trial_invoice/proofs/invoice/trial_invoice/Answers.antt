use Rattle.std.proofs.Common.{◌∙◌, sym, subst}
use Rattle.inv_terms.specs.Listing.{IsInvoice}
use Rattle.trial_invoice.proofs.LineLemmas.{trial-is-invoice, trial-made}
use Rattle.trial_invoice.proofs.invoice.trial_invoice.Goals as goal

pub from_entries-requires : goal.from_entries-requires
from_entries-requires c =
    let made = trial-made c.args.lines _ c.sum_of_nets.result _ _ c.new-entries.ensures.items c.sum_of_nets.ensures.value c.in_ok-put_head.ensures
    c.in_ok-put_lines.ensures in
    subst IsInvoice (sym made) (trial-is-invoice c.printed_numbers_are_read.ensures.scaled c.push_refuses_what_makes_no_invoice.ensures c.args.lines c.requires)

pub returns : goal.returns
returns c =
    c.from_entries.ensures
    ∙ trial-made c.args.lines _ c.sum_of_nets.result _ _ c.new-entries.ensures.items c.sum_of_nets.ensures.value c.in_ok-put_head.ensures
    c.in_ok-put_lines.ensures
