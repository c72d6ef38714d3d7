use Rattle.std.proofs.Common.{◌==◌, drop, true}
use Rattle.xpath_types.specs.Walking.{seen, walked_parts}
use Rattle.xpath_grammar.specs.View.{viewed}
use Rattle.xpath_types.proofs.WalkLemmas.{Goes}
use Rattle.xpath_types.proofs.walk.+walk.Given as goal

abbrev pub invariant-parts : goal.invariant-parts
invariant-parts l = Goes (walked_parts l.scope l.form l.inner l.state.variables (l.i == 0) l.so_far (seen l.state) (viewed (drop l.i l.parts)))
    (walked_parts l.scope l.form l.initial.inner l.initial.state.variables true l.initial.so_far (seen l.initial.state) (viewed l.parts))
    l.height l.index l.initial.state.variables l.state.variables l.initial.state.parts.items l.state.parts.items
