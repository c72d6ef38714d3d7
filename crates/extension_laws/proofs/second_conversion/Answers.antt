use Rattle.extension_laws.proofs.TextLemmas.{converted-there, converted-back}
use Rattle.extension_laws.proofs.second_conversion.Goals as goal

pub returns-clause-there : goal.returns-clause-there
returns-clause-there c = λ tables first second es lists are.
    converted-there tables (λ table es lists. c.round_trip.ensures.table tables table es lists are) first second es lists

pub returns-clause-back : goal.returns-clause-back
returns-clause-back c = λ tables first second es lists are.
    converted-back tables (λ table es lists. c.round_trip.ensures.table tables table es lists are) first second es lists
