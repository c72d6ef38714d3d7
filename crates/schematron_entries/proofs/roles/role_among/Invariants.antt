use Rattle.std.proofs.Common.{◌≡◌, chars, drop}
use Rattle.schematron_meaning.specs.Entries as spec
use Rattle.schematron_entries.proofs.roles.role_among.Given as goal

abbrev pub invariant-children : goal.invariant-children
invariant-children l = spec.role_among (drop l.child-index l.children) (chars l.local) ≡ spec.role_among l.children (chars l.local)
