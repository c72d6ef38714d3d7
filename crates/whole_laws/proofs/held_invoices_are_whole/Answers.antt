use Rattle.whole_laws.proofs.TextLemmas.{held-whole}
use Rattle.whole_laws.proofs.held_invoices_are_whole.Goals as goal

pub returns : goal.returns
returns c = held-whole (record {
  values = c.spelled_values_are_read_back.ensures;
  days = c.printed_days_are_read.ensures.plain;
  are_days = c.readings_are_in_range.ensures.dashed;
})
