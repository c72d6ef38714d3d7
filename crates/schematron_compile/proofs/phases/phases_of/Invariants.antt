use Rattle.std.proofs.Common.{◌≡◌, ◌++◌, map, length}
use Rattle.std.specs.Vec.Iter.{into_iter_items, into_iter_len}
use Rattle.schematron_meaning.specs.Rules as spec
use Rattle.schematron_rules.specs.Seen.{seen_phases}
use Rattle.schematron_compile.specs.Lent.{lent_entries}
use Rattle.schematron_compile.proofs.phases.phases_of.Given as goal

-- the phases so far, and those to come, are all, and the scope is as it was
abbrev pub invariant-phases : goal.invariant-phases
invariant-phases l =
    (seen_phases l.found ++ map (spec.phase_of l.file.entries) (lent_entries (into_iter_items l.e-iterator)) ≡ map (spec.phase_of l.file.entries)
    (lent_entries l.fn.phases.items))
    × (into_iter_len l.e-iterator ≡ length (into_iter_items l.e-iterator)) × (l.scope ≡ l.initial.scope)
