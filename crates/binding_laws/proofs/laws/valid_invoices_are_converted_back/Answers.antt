use Rattle.binding_laws.proofs.TableLemmas.{tables-convert}
use Rattle.binding_laws.proofs.laws.valid_invoices_are_converted_back.Goals as goal

pub returns : goal.returns
returns c = tables-convert (record {
  values = c.spelled_values_are_read_back.ensures;
  days = c.printed_days_are_read.ensures.plain;
  are_days =
      c.readings_are_in_range.ensures.dashed;
}) c.invoice_is_well_formed.ensures c.credit_note_is_well_formed.ensures c.cii_is_well_formed.ensures
