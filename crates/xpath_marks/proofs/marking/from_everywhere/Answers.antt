use Rattle.xpath_plan.specs.Plans.{seen}
use Rattle.xpath_marks.specs.Marking.{Reached, FoundByStep}
use Rattle.xpath_marks.proofs.MarkingLemmas.{along_ok, step_everywhere}
use Rattle.xpath_marks.proofs.marking.from_everywhere.Goals as goal

pub returns-clause-marked : goal.returns-clause-marked
returns-clause-marked g c =
    let base = c.args.dynamic.now in
    let e = seen base.names.now c.args.work.now in
    along_ok c.reached.result (λ found. Reached base e c.as_slice.result.now found.items) (λ found. FoundByStep base e found.items)
    (λ found. step_everywhere base c.documents_are_walkable.ensures e c.in_ok-all.all.items c.as_slice.result.now found.items c.in_ok-all.ensures.all
    c.as_slice.ensures.value) c.reached.ensures.reached
