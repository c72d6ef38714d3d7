use Rattle.std.proofs.Common.{◌≡◌, drop}
use Rattle.inv_terms.specs.Listing as listing
use Rattle.page_values.proofs.places.value_among.Given as goal

abbrev pub invariant-entries : goal.invariant-entries
invariant-entries l = listing.value_in (drop l.e-index l.entries) l.term l.context ≡ listing.value_in l.entries l.term l.context
