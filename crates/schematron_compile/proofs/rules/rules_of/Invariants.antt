use Rattle.std.proofs.Common.{◌≡◌, ◌++◌, map, length}
use Rattle.std.specs.Vec.Iter.{into_iter_items, into_iter_len}
use Rattle.schematron_meaning.specs.Lookup as lookup
use Rattle.schematron_meaning.specs.Rules as spec
use Rattle.schematron_expansion.specs.Seen.{seen_instance}
use Rattle.schematron_rules.specs.Seen.{seen_rule}
use Rattle.schematron_compile.specs.Lent.{lent_entries}
use Rattle.schematron_compile.proofs.rules.rules_of.Given as goal

-- the rules so far, and those to come, are all, and the scope is as it was
abbrev pub invariant-rules : goal.invariant-rules
invariant-rules l =
    (map seen_rule l.rules ++ map (spec.rule_of l.file (seen_instance l.instance) l.initial.scope) (lent_entries (into_iter_items l.e-iterator))
    ≡ map (spec.rule_of l.file (seen_instance l.instance) l.initial.scope) (lookup.inside lookup.is_own_rule l.file.entries l.instance.body))
    × (into_iter_len l.e-iterator ≡ length (into_iter_items l.e-iterator)) × (l.scope ≡ l.initial.scope)
