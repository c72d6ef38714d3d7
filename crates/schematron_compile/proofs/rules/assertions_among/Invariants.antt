use Rattle.std.proofs.Common.{◌≡◌, take}
use Rattle.schematron_meaning.specs.Rules.{assertions_among}
use Rattle.schematron_compile.specs.Lent.{lent_entries, lent_puts}
use Rattle.schematron_compile.proofs.rules.assertions_among.Given as goal

-- the assertions so far
abbrev pub invariant-inclusions : goal.invariant-inclusions
invariant-inclusions l = lent_entries l.found.items ≡ assertions_among (lent_puts (take l.inclusion-index l.inclusions))
