use Rattle.trial_invoice.proofs.LineLemmas.{trial-is-invoice}
use Rattle.trial_laws.proofs.trial_entries_are_an_invoice.Goals as goal

pub returns : goal.returns
returns c lines few = trial-is-invoice c.printed_numbers_are_read.ensures.scaled c.push_refuses_what_makes_no_invoice.ensures lines few
