use Rattle.std.proofs.Common.{take}
use Rattle.schematron_entries.specs.Seen.{seen_entries}
use Rattle.schematron_expansion.specs.Bodied.{named_in}
use Rattle.schematron_expansion.specs.Linked.{ArePatterns}
use Rattle.schematron_expansion.proofs.abstracts.abstract_patterns.Given as goal

-- the abstract patterns so far
abbrev pub invariant-entries : goal.invariant-entries
invariant-entries l = ArePatterns (named_in (λ key. key.now) l.names) (seen_entries (take l.at l.entries))
