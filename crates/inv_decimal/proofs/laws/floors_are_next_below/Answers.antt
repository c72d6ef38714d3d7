use Rattle.inv_decimal.proofs.NumberLaws.{floor_bounds}
use Rattle.inv_decimal.proofs.laws.floors_are_next_below.Goals as goal

pub returns : goal.returns
returns c = record { below = λ z. (floor_bounds z).0; next = λ z. (floor_bounds z).1 }
