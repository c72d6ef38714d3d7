use Rattle.std.proofs.Common.{◌≡◌, length}
use Rattle.std.specs.Vec.Iter.{into_iter_items, into_iter_len}
use Rattle.schematron_meaning.specs.Expansion.{parameters}
use Rattle.schematron_expansion.specs.Seen.{seen_things, with_all}
use Rattle.schematron_expansion.proofs.instances.parameters.Given as goal

-- those so far, and the ones to come behind them, are all
abbrev pub invariant-given : goal.invariant-given
invariant-given l = (with_all l.params (seen_things (λ e. e.now) (into_iter_items l.e-iterator)) ≡ parameters l.file.entries l.number)
    × (into_iter_len l.e-iterator ≡ length (into_iter_items l.e-iterator))
