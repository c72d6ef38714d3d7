use Rattle.std.proofs.Common.{◌≡◌, drop}
use Rattle.code_lists.specs.CodeFiles as spec
use Rattle.code_lists.proofs.lists.CodeLists.codes_of.Given as goal

abbrev pub invariant-lists : goal.invariant-lists
invariant-lists l = spec.codes_of (drop l.given-index l.given-items) l.list ≡ spec.codes_of l.given-items l.list
