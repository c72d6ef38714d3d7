use Rattle.term_table.proofs.SeatLemmas.{one_seat}
use Rattle.term_table.proofs.laws.equal_places_are_one_seat.Goals as goal

pub returns : goal.returns
returns c = one_seat
