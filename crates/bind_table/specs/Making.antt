-- What private functions need of a table that is being made. No public clause cites it.
use Rattle.std.specs.Prelude.{◌+◌, ◌<◌, ◌^◌, All, IsTrue, List, length}
use Rattle.bind_rows.specs.declared.rows.Step.{Step}
use Rattle.bind_table.specs.declared.items.TableItem.{TableItem}
use Rattle.bind_table.specs.declared.listing.Listing.{Listing}
use Rattle.bind_table.specs.Items.{Made, is_nested}

abbrev pub made_of : Listing → Made
made_of listing = record { rows = listing.rows; path = listing.path.items; next = listing.next }

-- The items can be made behind what has been made.
pub record CanMake (items : List TableItem) (made : Made) : Type 0 where
  pub few_rows : length made.rows + length items + 1 < 2 ^ 31
  pub few_elements : made.next + length items < 2 ^ 31
  pub numbers : All (λ (s : Step). s.number < made.next) made.path
  pub nested : IsTrue (is_nested (length made.path) items)
