use Rattle.std.proofs.Common.{◌∙◌}
use Rattle.schematron_compile.proofs.BuiltLemmas.{patterns_on}
use Rattle.schematron_compile.proofs.patterns.patterns_of.Goals as goal

pub patterns-preserved : goal.patterns-preserved
patterns-preserved c = (
  patterns_on c.args.file.now c.args.instances.now c.patterns.instance-index c.instance-item.result c.args.scope.now c.patterns.scope c.patterns.patterns
      c.push.new.self c.in_ok-pattern_of.field-0
      c.patterns-test.true c.instance-item.is c.patterns.invariant.1 c.patterns.invariant.0 c.in_ok-push.ensures.ok c.in_ok-pattern_of.ensures.pattern,
  c.in_ok-pattern_of.ensures.scope ∙ c.patterns.invariant.1,
)
