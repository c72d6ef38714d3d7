use Rattle.std.proofs.Common.{◌≡◌, take}
use Rattle.xpath_walks.specs.Tests.{numbers_of}
use Rattle.xpath_walks.proofs.test.numbers_in.Given as goal

abbrev pub invariant-names : goal.invariant-names
invariant-names l = l.numbers.items ≡ take l.k (numbers_of l.doc.names l.table)
