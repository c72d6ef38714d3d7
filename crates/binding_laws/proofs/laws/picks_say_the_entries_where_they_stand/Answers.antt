use Rattle.binding_laws.proofs.CurrencyLemmas.{own-currencies-by-test, test-of-own-currencies}
use Rattle.binding_laws.proofs.RoundLemmas.{currency-read, told-says, entry-says, picks-say, entries-parsed, none-inside, seats-agree}
use Rattle.binding_laws.proofs.laws.picks_say_the_entries_where_they_stand.Goals as goal

pub returns-clause-currency : goal.returns-clause-currency
returns-clause-currency c = λ rows es invoice paths fine settled plainly. test-of-own-currencies rows es _
    (currency-read (record {
      values = c.spelled_values_are_read_back.ensures;
      days = c.printed_days_are_read.ensures.plain;
      are_days =
          c.readings_are_in_range.ensures.dashed;
    }) rows es invoice paths fine settled plainly)

pub returns-clause-parsed : goal.returns-clause-parsed
returns-clause-parsed c = λ rows es currencies p invoice paths fine settled plainly own uncoded there. picks-say
    (record {
      values = c.spelled_values_are_read_back.ensures;
      days = c.printed_days_are_read.ensures.plain;
      are_days =
          c.readings_are_in_range.ensures.dashed;
    }) rows es invoice paths fine settled plainly currencies
    (own-currencies-by-test rows es currencies own) uncoded p there

pub returns-clause-all : goal.returns-clause-all
returns-clause-all c = λ rows es currencies e invoice paths fine settled plainly own uncoded there. entries-parsed
    (record {
      values = c.spelled_values_are_read_back.ensures;
      days = c.printed_days_are_read.ensures.plain;
      are_days =
          c.readings_are_in_range.ensures.dashed;
    }) rows es invoice paths fine settled plainly currencies
    (own-currencies-by-test rows es currencies own) uncoded e there

pub returns-clause-inside : goal.returns-clause-inside
returns-clause-inside c = λ rows es currencies p invoice paths fine settled plainly own there. none-inside
    (record {
      values = c.spelled_values_are_read_back.ensures;
      days = c.printed_days_are_read.ensures.plain;
      are_days =
          c.readings_are_in_range.ensures.dashed;
    }) rows es invoice paths fine settled plainly currencies (own-currencies-by-test rows es currencies own) p there

pub returns-clause-agree : goal.returns-clause-agree
returns-clause-agree c = λ rows es currencies a b invoice paths fine settled plainly own first second same. seats-agree
    (record {
      values = c.spelled_values_are_read_back.ensures;
      days = c.printed_days_are_read.ensures.plain;
      are_days =
          c.readings_are_in_range.ensures.dashed;
    }) rows es invoice paths fine settled plainly currencies
    (own-currencies-by-test rows es currencies own) a b first second same

pub returns-clause-told : goal.returns-clause-told
returns-clause-told c = λ rows es currencies t invoice paths fine settled plainly own there. told-says
    (record {
      values = c.spelled_values_are_read_back.ensures;
      days = c.printed_days_are_read.ensures.plain;
      are_days =
          c.readings_are_in_range.ensures.dashed;
    }) rows es invoice paths fine settled plainly currencies (own-currencies-by-test rows es currencies own) t there

pub returns-clause-all_told : goal.returns-clause-all_told
returns-clause-all_told c = λ rows es currencies e invoice paths fine settled plainly own there. entry-says
    (record {
      values = c.spelled_values_are_read_back.ensures;
      days = c.printed_days_are_read.ensures.plain;
      are_days =
          c.readings_are_in_range.ensures.dashed;
    }) rows es invoice paths fine settled plainly currencies (own-currencies-by-test rows es currencies own) e there
