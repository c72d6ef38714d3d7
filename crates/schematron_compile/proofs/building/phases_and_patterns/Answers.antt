use Rattle.std.proofs.Common.{◌∙◌, ap, map}
use Rattle.schematron_meaning.specs.Rules.{pattern_of}
use Rattle.schematron_compile.specs.Lent.{lent_instances}
use Rattle.schematron_compile.proofs.building.phases_and_patterns.Goals as goal

pub returns-in-Ok-clause-patterns : goal.returns-in-Ok-clause-patterns
returns-in-Ok-clause-patterns c = c.in-Ok.ensures ∙
    ap (λ s. map (pattern_of c.args.file.now s) (lent_instances c.args.instances.now)) c.in_ok-phases.ensures.scope
