use Rattle.xpath_plan.proofs.SeenLaws.{Goes}
use Rattle.xpath_plan.proofs.compiling.+work_of.Given as goal

abbrev pub invariant-parts : goal.invariant-parts
invariant-parts l = Goes l.typed.declared l.typed.parts l.initial.state.bound l.state.bound l.initial.state.names l.state.names l.parts l.part-index l.works
    l.height
    l.initial.marks.before l.marks.before l.initial.marks.slots l.marks.slots l.free
