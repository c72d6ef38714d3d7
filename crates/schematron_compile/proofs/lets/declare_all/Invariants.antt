use Rattle.std.proofs.Common.{◌≡◌, length}
use Rattle.std.specs.Vec.Iter.{into_iter_items, into_iter_len}
use Rattle.schematron_meaning.specs.Written.{with_lets}
use Rattle.schematron_compile.specs.Lent.{lent_entries}
use Rattle.schematron_compile.proofs.lets.declare_all.Given as goal

-- the scope so far with the lets to come is the scope with all
abbrev pub invariant-lets : goal.invariant-lets
invariant-lets l = (with_lets l.params l.scope (lent_entries (into_iter_items l.one-iterator)) ≡ with_lets l.params l.initial.scope
    (lent_entries l.fn.lets.items))
    × (into_iter_len l.one-iterator ≡ length (into_iter_items l.one-iterator))
