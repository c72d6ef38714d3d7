-- Private functions that look an entry up: what they answer. No public clause cites it.
use Rattle.std.specs.Prelude.{ℕ, Bool, false, List, Option, Some, None}
use Rattle.term_table.specs.Places.{precedes, seat_place}
use Rattle.inv_terms.specs.declared.entries.Entry.{Entry}
use Rattle.inv_terms.specs.Listing.{seat_of}

abbrev pub is_ahead : List ℕ → Option (List ℕ) → Bool
is_ahead place None = false
is_ahead place (Some other) = precedes other place

-- The entry stands ahead of the place.
abbrev pub stands_ahead : List ℕ → Entry → Bool
stands_ahead place e = is_ahead place (seat_place (seat_of e))
