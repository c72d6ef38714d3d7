use Rattle.std.proofs.Common.{◌≡◌, drop}
use Rattle.inv_terms.specs.Listing.{value_in}
use Rattle.bind_write.proofs.looking.first_value.Given as goal

abbrev pub invariant-entries : goal.invariant-entries
invariant-entries l = value_in (drop l.e-index l.entries) l.term l.context ≡ value_in l.entries l.term l.context
