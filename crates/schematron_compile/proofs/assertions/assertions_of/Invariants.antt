use Rattle.std.proofs.Common.{◌≡◌, ◌++◌, map, length}
use Rattle.std.specs.Vec.Iter.{into_iter_items, into_iter_len}
use Rattle.schematron_meaning.specs.Rules as spec
use Rattle.schematron_rules.specs.Seen.{seen_assertion}
use Rattle.schematron_compile.specs.Lent.{lent_entries}
use Rattle.schematron_compile.proofs.assertions.assertions_of.Given as goal

-- the assertions so far, and those to come, are all
abbrev pub invariant-entries : goal.invariant-entries
invariant-entries l =
    (map seen_assertion l.found ++ map (spec.assertion_of l.file.entries l.params l.scope) (lent_entries (into_iter_items l.e-iterator))
    ≡ map (spec.assertion_of l.file.entries l.params l.scope) (lent_entries l.fn.entries.items))
    × (into_iter_len l.e-iterator ≡ length (into_iter_items l.e-iterator))
