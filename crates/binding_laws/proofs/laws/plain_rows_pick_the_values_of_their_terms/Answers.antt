use Rattle.binding_laws.proofs.PlainLemmas.{plain-law, says-law, always-law}
use Rattle.binding_laws.proofs.laws.plain_rows_pick_the_values_of_their_terms.Goals as goal

pub returns-clause-strings : goal.returns-clause-strings
returns-clause-strings c = λ rows es k row term invoice plain. plain-law
    (record {
      values = c.spelled_values_are_read_back.ensures;
      days = c.printed_days_are_read.ensures.plain;
      are_days =
          c.readings_are_in_range.ensures.dashed;
    }) rows es invoice row term plain.there plain.apart plain.form k

pub returns-clause-says : goal.returns-clause-says
returns-clause-says c = λ rows es k row term invoice plain modelled. says-law
    (record {
      values = c.spelled_values_are_read_back.ensures;
      days = c.printed_days_are_read.ensures.plain;
      are_days =
          c.readings_are_in_range.ensures.dashed;
    }) rows es invoice row term plain.there plain.apart plain.form modelled k

pub returns-clause-always : goal.returns-clause-always
returns-clause-always c = λ rows es row term invoice plain always stands. always-law
    (record {
      values = c.spelled_values_are_read_back.ensures;
      days = c.printed_days_are_read.ensures.plain;
      are_days =
          c.readings_are_in_range.ensures.dashed;
    }) rows es invoice row term plain.there always stands
