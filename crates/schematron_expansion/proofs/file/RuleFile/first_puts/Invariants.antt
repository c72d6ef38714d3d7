use Rattle.std.proofs.Common.{◌≡◌, ◌++◌, map, length}
use Rattle.std.specs.Vec.Iter.{into_iter_items, into_iter_len}
use Rattle.schematron_meaning.specs.Expansion.{inclusions}
use Rattle.schematron_expansion.specs.Seen.{seen_things, seen_put, puts_of, first_puts, first_puts_behind}
use Rattle.schematron_expansion.proofs.file.RuleFile.first_puts.Given as goal

-- what was found, and what is new of the elements to come, are all
abbrev pub invariant-items : goal.invariant-items
invariant-items l = (map seen_put l.firsts.found.items ++ first_puts_behind l.firsts.told.keys
    (puts_of l.self l.stand (seen_things (λ e. e.now) (into_iter_items l.e-iterator))) ≡ first_puts (inclusions l.self l.stand l.number))
    × (into_iter_len l.e-iterator ≡ length (into_iter_items l.e-iterator))
