use Rattle.std.proofs.Common.{◌≡◌, map}
use Rattle.page_values.specs.Places as places
use Rattle.page_values.proofs.sizes.put_sizes.Given as goal

abbrev pub invariant-documents : goal.invariant-documents
invariant-documents l = l.sizes.items ≡ map (places.size_in l.i) (places.numbers_to l.behind)
