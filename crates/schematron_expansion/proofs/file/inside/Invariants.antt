use Rattle.std.proofs.Common.{length}
use Rattle.schematron_entries.specs.Seen.{seen_entries}
use Rattle.schematron_meaning.specs.Lookup.{inside}
use Rattle.schematron_expansion.specs.Sorts.{test_of}
use Rattle.schematron_expansion.specs.Seen.{seen_things}
use Rattle.schematron_expansion.proofs.ChainLemmas.{OnChain, left_from}
use Rattle.schematron_expansion.proofs.file.inside.Given as goal

-- the things so far, and those from the next place on, are all
abbrev pub invariant-things : goal.invariant-things
invariant-things l = OnChain (λ es. inside (test_of l.sort) es l.number) (seen_entries l.entries) l.number (seen_things (λ e. e.now) l.found.items) l.next

abbrev pub decreases-things : goal.decreases-things
decreases-things l = left_from (length (seen_entries l.entries)) l.next
