use Rattle.inv_terms.proofs.SpellLemmas.{read_back}
use Rattle.inv_terms.proofs.laws.spelled_values_are_read_back.Goals as goal

pub returns : goal.returns
returns c =
    read_back c.printed_numbers_are_read.ensures.scaled (λ text s. (c.readings_follow_the_grammar.ensures text s).0) c.readings_are_in_range.ensures.scaled
    c.printed_days_are_read.ensures.dashed
    c.readings_are_in_range.ensures.dashed
