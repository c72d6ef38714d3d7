use Rattle.std.proofs.Common.{◌≡◌, length}
use Rattle.std.specs.Vec.Iter.{into_iter_items, into_iter_len}
use Rattle.schematron_rules.specs.Seen.{seen_lets}
use Rattle.schematron_compile.specs.Lent.{lent_entries}
use Rattle.schematron_compile.proofs.ScopeLemmas.{LetsTo}
use Rattle.schematron_compile.proofs.lets.lets_behind.Given as goal

-- the lets so far, and those to come in the scope so far, are all
abbrev pub invariant-lets : goal.invariant-lets
invariant-lets l = LetsTo l.params (lent_entries l.fn.lets.items) l.initial.scope l.scope (seen_lets l.found) (lent_entries (into_iter_items l.e-iterator))
    × (into_iter_len l.e-iterator ≡ length (into_iter_items l.e-iterator))
