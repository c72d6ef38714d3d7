use Rattle.std.proofs.Common.{◌≡◌, take}
use Rattle.schematron_compile.proofs.places.listed.Given as goal

abbrev pub invariant-numbers : goal.invariant-numbers
invariant-numbers l = l.list ≡ take l.n-index l.numbers
