-- The address of an entry's leaf along the path of a row that isn't spread: the elements that carry groups have the numbers of the entry's slots,
-- the outer one first.
use Rattle.std.specs.Prelude.{ℕ, List, [], ◌∷◌, ◌++◌, Option, Some, None}
use Rattle.term_table.specs.declared.groups.Group.{Group}
use Rattle.term_table.specs.declared.contexts.Slot.{Slot}
use Rattle.term_table.specs.declared.contexts.Context.{Context}
use Rattle.bind_rows.specs.declared.rows.Step.{Step}
use Rattle.address_laws.specs.AddressTrees.{Place}

abbrev pub slot_numbers : Option Slot → List ℕ
slot_numbers None = []
slot_numbers (Some slot) = slot.index ∷ []

abbrev pub numbers_of : Context → List ℕ
numbers_of c = slot_numbers c.outer ++ slot_numbers c.inner

-- the number of an element that carries a group or none, and those that are left for the elements in it
abbrev pub next_number : Option Group → List ℕ → ℕ
next_number None numbers = 1
next_number (Some group) [] = 1
next_number (Some group) (n ∷ numbers) = n

abbrev pub numbers_behind : Option Group → List ℕ → List ℕ
numbers_behind None numbers = numbers
numbers_behind (Some group) [] = []
numbers_behind (Some group) (n ∷ numbers) = numbers

abbrev pub address_along : List ℕ → List Step → List Place
address_along numbers [] = []
address_along numbers (s ∷ path) = record { step = s; occurrence = next_number s.group numbers } ∷ address_along (numbers_behind s.group numbers) path

abbrev pub address_in : Context → List Step → List Place
address_in c path = address_along (numbers_of c) path

abbrev pub last_step : Option Step → List Step → Option Step
last_step last [] = last
last_step last (s ∷ path) = last_step (Some s) path
