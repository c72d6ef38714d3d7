use Rattle.binding_laws.proofs.PartLemmas.{part-law}
use Rattle.binding_laws.proofs.laws.plain_attributes_pick_the_values_beside_their_main_terms.Goals as goal

pub returns : goal.returns
returns c = λ rows es k row term main main_term invoice plain. part-law
    (record {
      values = c.spelled_values_are_read_back.ensures;
      days = c.printed_days_are_read.ensures.plain;
      are_days =
          c.readings_are_in_range.ensures.dashed;
    }) rows es invoice row term main main_term plain.there plain.apart k
