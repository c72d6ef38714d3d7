use Rattle.std.proofs.Common.{◌≡◌, [], length}
use Rattle.std.specs.Vec.Iter.{into_iter_items, into_iter_len}
use Rattle.schematron_meaning.specs.Written.{with_lets}
use Rattle.schematron_compile.specs.Lent.{lent_entries}
use Rattle.schematron_compile.proofs.ScopeLemmas.{lets_of_phases}
use Rattle.schematron_compile.proofs.phases.declare_phases.Given as goal

-- the scope so far with the lets of the phases to come is the scope with all
abbrev pub invariant-phases : goal.invariant-phases
invariant-phases l =
    (with_lets [] l.scope (lets_of_phases l.file.entries (lent_entries (into_iter_items l.e-iterator))) ≡ with_lets [] l.initial.scope
    (lets_of_phases l.file.entries (lent_entries l.fn.phases.items)))
    × (into_iter_len l.e-iterator ≡ length (into_iter_items l.e-iterator))
