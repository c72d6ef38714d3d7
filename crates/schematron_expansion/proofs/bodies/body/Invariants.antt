use Rattle.std.proofs.Common.{length}
use Rattle.schematron_entries.specs.Seen.{seen_entries}
use Rattle.schematron_meaning.specs.Bodies.{abstract_rules, body_at}
use Rattle.schematron_expansion.proofs.ChainLemmas.{OnChain, left_from}
use Rattle.schematron_expansion.proofs.bodies.body.Given as goal

-- the parts so far, and those from the next place on, are all
abbrev pub invariant-items : goal.invariant-items
invariant-items l = OnChain (λ es. body_at es (abstract_rules (seen_entries l.entries)) l.node) (seen_entries l.entries) l.node l.parts.items l.next

abbrev pub decreases-items : goal.decreases-items
decreases-items l = left_from (length (seen_entries l.entries)) l.next
