use Rattle.std.proofs.Common.{◌≡◌, ◌++◌, map, length}
use Rattle.std.specs.Vec.Iter.{into_iter_items, into_iter_len}
use Rattle.schematron_meaning.specs.Expansion.{inclusions}
use Rattle.schematron_expansion.specs.Seen.{seen_things, seen_put, puts_of}
use Rattle.schematron_expansion.proofs.file.RuleFile.inclusions.Given as goal

-- what was found, and what the elements to come put, are all
abbrev pub invariant-items : goal.invariant-items
invariant-items l =
    (map seen_put l.found.items ++ puts_of l.self l.stand (seen_things (λ e. e.now) (into_iter_items l.e-iterator)) ≡ inclusions l.self l.stand l.number)
    × (into_iter_len l.e-iterator ≡ length (into_iter_items l.e-iterator))
