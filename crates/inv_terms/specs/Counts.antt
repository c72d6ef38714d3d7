-- How many occurrences of groups stand right in an invoice, all counted at once.
use Rattle.std.specs.Prelude.{◌≡◌, ℕ, List, get_or}
use Rattle.term_table.specs.declared.groups.Group.{Group}
use Rattle.term_table.specs.Groups.{number_of}
use Rattle.inv_terms.specs.declared.entries.Entry.{Entry}
use Rattle.inv_terms.specs.declared.counts.Counts.{Counts}
use Rattle.inv_terms.specs.Listing.{last_outer}

abbrev pub last_of : Counts → Group → ℕ
last_of counts group = get_or counts.numbers (number_of group) 0

abbrev pub AreCounted : Counts → List Entry → Type 0
AreCounted counts es = (group : Group) → last_of counts group ≡ last_outer es group
