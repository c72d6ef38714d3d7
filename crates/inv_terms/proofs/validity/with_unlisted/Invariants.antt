use Rattle.std.proofs.Common.{◌≡◌, drop}
use Rattle.std.specs.Prelude.{fold, map}
use Rattle.inv_terms.specs.Validity as spec
use Rattle.inv_terms.proofs.validity.with_unlisted.Given as goal

abbrev pub invariant-entries : goal.invariant-entries
invariant-entries l =
    fold spec.earlier l.first (map (spec.unlisted l.lists) (drop l.e-index l.entries)) ≡ fold spec.earlier l.fn.so_far (map (spec.unlisted l.lists) l.entries)
