use Rattle.binding_laws.proofs.CurrencyLemmas.{own-currencies-by-test}
use Rattle.binding_laws.proofs.RoundLemmas.{entries-read, answer-is}
use Rattle.binding_laws.proofs.NoFaultLemmas.{read-exactly}
use Rattle.binding_laws.proofs.laws.invoices_of_covered_rows_are_read_back.Goals as goal

pub returns-clause-entries : goal.returns-clause-entries
returns-clause-entries c = λ rows es currencies invoice paths fine settled plainly own. entries-read
    (record {
      values = c.spelled_values_are_read_back.ensures;
      days = c.printed_days_are_read.ensures.plain;
      are_days =
          c.readings_are_in_range.ensures.dashed;
    }) rows es invoice paths fine settled plainly currencies (own-currencies-by-test rows es currencies own)

pub returns-clause-answer : goal.returns-clause-answer
returns-clause-answer c = λ rows es lists read invoice paths fine settled plainly read_is. answer-is
    (record {
      values = c.spelled_values_are_read_back.ensures;
      days = c.printed_days_are_read.ensures.plain;
      are_days =
          c.readings_are_in_range.ensures.dashed;
    }) rows es invoice paths fine settled plainly lists read read_is

pub returns-clause-exactly : goal.returns-clause-exactly
returns-clause-exactly c = λ rows es lists invoice is_valid paths fine settled faultless plainly. read-exactly
    (record {
      values = c.spelled_values_are_read_back.ensures;
      days = c.printed_days_are_read.ensures.plain;
      are_days =
          c.readings_are_in_range.ensures.dashed;
    }) rows es invoice paths fine settled plainly lists is_valid faultless
