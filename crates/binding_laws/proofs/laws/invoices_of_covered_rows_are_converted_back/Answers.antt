use Rattle.binding_laws.proofs.RoundLemmas.{converted-back}
use Rattle.binding_laws.proofs.NoFaultLemmas.{converted-exactly}
use Rattle.binding_laws.proofs.laws.invoices_of_covered_rows_are_converted_back.Goals as goal

pub returns-clause-read : goal.returns-clause-read
returns-clause-read c = λ first second es lists read again invoice paths fine settled plainly other_paths other_fine other_settled other_plainly read_is
    again_is.
    converted-back (record {
      values = c.spelled_values_are_read_back.ensures;
      days = c.printed_days_are_read.ensures.plain;
      are_days =
          c.readings_are_in_range.ensures.dashed;
    }) first second es lists read again invoice paths fine settled plainly other_paths other_fine other_settled
    other_plainly read_is again_is

pub returns-clause-exactly : goal.returns-clause-exactly
returns-clause-exactly c = converted-exactly (record {
  values = c.spelled_values_are_read_back.ensures;
  days = c.printed_days_are_read.ensures.plain;
  are_days =
      c.readings_are_in_range.ensures.dashed;
})
