use Rattle.std.proofs.Common.{take}
use Rattle.schematron_entries.specs.Seen.{seen_entries}
use Rattle.schematron_expansion.specs.Bodied as spec
use Rattle.schematron_expansion.proofs.abstracts.abstract_rules.Given as goal

-- the rules so far
abbrev pub invariant-entries : goal.invariant-entries
invariant-entries l = spec.AreRules l.rules.nodes.items (spec.named_in (λ key. key.now) l.rules.names) (seen_entries (take l.e-index l.entries))
