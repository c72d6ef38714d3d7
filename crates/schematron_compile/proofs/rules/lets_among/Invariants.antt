use Rattle.std.proofs.Common.{◌≡◌, take}
use Rattle.schematron_meaning.specs.Written.{lets_among}
use Rattle.schematron_compile.specs.Lent.{lent_entries, lent_puts}
use Rattle.schematron_compile.proofs.rules.lets_among.Given as goal

-- the lets so far
abbrev pub invariant-inclusions : goal.invariant-inclusions
invariant-inclusions l = lent_entries l.lets.items ≡ lets_among (lent_puts (take l.inclusion-index l.inclusions))
