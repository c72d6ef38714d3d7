use Rattle.xpath_grammar.specs.View.{view}
use Rattle.xpath_types.specs.Typing.{typing}
use Rattle.xpath_plan.proofs.CompiledLaws.{parts-stated, known-first, counted-first, plan-expression, plan-shapes, plan-slots, plan-depth, plan-sound}
use Rattle.xpath_plan.proofs.plan.compile.Goals as goal

pub returns-clause-expression : goal.returns-clause-expression
returns-clause-expression c =
    let x = view c.args.typed.now.expression in
    let stated = parts-stated c.args.typed.now.declared x (typing c.args.typed.now) c.parts_are_stated.ensures in
    let is = known-first c.args.typed.now.declared x (view c.expr.result.now) c.new.result c.args.typed.now.parts c.work_of.new.state.names c.in_ok-work.work
    c.new.ensures (λ j. view (c.expr.ensures j)) c.in_ok-work.ensures.work in
    let count = counted-first c.args.typed.now.declared x (view c.expr.result.now) c.new.result c.args.typed.now.parts c.work_of.new.marks.slots c.new.ensures
    (λ j. view (c.expr.ensures j)) c.in_ok-work.ensures.slots in
    plan-expression c.args.typed.now.declared x c.args.typed.now.parts c.work_of.new.state.names c.in_ok-work.work c.work_of.new.marks.slots stated is count

pub returns-clause-shapes : goal.returns-clause-shapes
returns-clause-shapes c =
    let x = view c.args.typed.now.expression in
    let stated = parts-stated c.args.typed.now.declared x (typing c.args.typed.now) c.parts_are_stated.ensures in
    let is = known-first c.args.typed.now.declared x (view c.expr.result.now) c.new.result c.args.typed.now.parts c.work_of.new.state.names c.in_ok-work.work
    c.new.ensures (λ j. view (c.expr.ensures j)) c.in_ok-work.ensures.work in
    let count = counted-first c.args.typed.now.declared x (view c.expr.result.now) c.new.result c.args.typed.now.parts c.work_of.new.marks.slots c.new.ensures
    (λ j. view (c.expr.ensures j)) c.in_ok-work.ensures.slots in
    plan-shapes c.args.typed.now.declared x c.args.typed.now.parts c.work_of.new.state.names c.in_ok-work.work c.work_of.new.marks.slots stated is count

pub returns-clause-slots : goal.returns-clause-slots
returns-clause-slots c =
    let x = view c.args.typed.now.expression in
    let stated = parts-stated c.args.typed.now.declared x (typing c.args.typed.now) c.parts_are_stated.ensures in
    let is = known-first c.args.typed.now.declared x (view c.expr.result.now) c.new.result c.args.typed.now.parts c.work_of.new.state.names c.in_ok-work.work
    c.new.ensures (λ j. view (c.expr.ensures j)) c.in_ok-work.ensures.work in
    let count = counted-first c.args.typed.now.declared x (view c.expr.result.now) c.new.result c.args.typed.now.parts c.work_of.new.marks.slots c.new.ensures
    (λ j. view (c.expr.ensures j)) c.in_ok-work.ensures.slots in
    plan-slots c.args.typed.now.declared x c.args.typed.now.parts c.work_of.new.state.names c.in_ok-work.work c.work_of.new.marks.slots stated is count

pub returns-clause-depth : goal.returns-clause-depth
returns-clause-depth c =
    let x = view c.args.typed.now.expression in
    let stated = parts-stated c.args.typed.now.declared x (typing c.args.typed.now) c.parts_are_stated.ensures in
    let is = known-first c.args.typed.now.declared x (view c.expr.result.now) c.new.result c.args.typed.now.parts c.work_of.new.state.names c.in_ok-work.work
    c.new.ensures (λ j. view (c.expr.ensures j)) c.in_ok-work.ensures.work in
    let count = counted-first c.args.typed.now.declared x (view c.expr.result.now) c.new.result c.args.typed.now.parts c.work_of.new.marks.slots c.new.ensures
    (λ j. view (c.expr.ensures j)) c.in_ok-work.ensures.slots in
    plan-depth c.args.typed.now.declared x c.args.typed.now.parts c.work_of.new.state.names c.in_ok-work.work c.work_of.new.marks.slots stated is count

pub invariant_of-result : goal.invariant_of-result
invariant_of-result c =
    let x = view c.args.typed.now.expression in
    let stated = parts-stated c.args.typed.now.declared x (typing c.args.typed.now) c.parts_are_stated.ensures in
    let is = known-first c.args.typed.now.declared x (view c.expr.result.now) c.new.result c.args.typed.now.parts c.work_of.new.state.names c.in_ok-work.work
    c.new.ensures (λ j. view (c.expr.ensures j)) c.in_ok-work.ensures.work in
    let count = counted-first c.args.typed.now.declared x (view c.expr.result.now) c.new.result c.args.typed.now.parts c.work_of.new.marks.slots c.new.ensures
    (λ j. view (c.expr.ensures j)) c.in_ok-work.ensures.slots in
    plan-sound c.args.typed.now.declared x c.args.typed.now.parts c.work_of.new.state.names c.in_ok-work.work c.work_of.new.marks.slots stated is count
    c.parts_depend_on_the_document_alone.ensures c.positions_change_nothing.ensures c.requires
