use Rattle.std.proofs.Common.{◌≡◌, map, take}
use Rattle.schematron_meaning.specs.Rules as spec
use Rattle.schematron_rules.specs.Seen.{seen_pattern}
use Rattle.schematron_compile.specs.Lent.{lent_instances}
use Rattle.schematron_compile.proofs.patterns.patterns_of.Given as goal

-- the patterns so far, and the scope as it was
abbrev pub invariant-patterns : goal.invariant-patterns
invariant-patterns l = (map seen_pattern l.patterns ≡ map (spec.pattern_of l.file l.initial.scope) (lent_instances (take l.instance-index l.instances))) ×
    (l.scope ≡ l.initial.scope)
