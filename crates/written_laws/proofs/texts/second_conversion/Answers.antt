use Rattle.written_laws.proofs.TextLemmas.{converted-there, converted-back}
use Rattle.written_laws.proofs.texts.second_conversion.Goals as goal

pub returns-clause-there : goal.returns-clause-there
returns-clause-there c = converted-there c.round_trip.ensures.syntax

pub returns-clause-back : goal.returns-clause-back
returns-clause-back c = converted-back c.round_trip.ensures.syntax
