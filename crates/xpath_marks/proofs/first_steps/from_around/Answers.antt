use Rattle.std.proofs.Common.{sym, subst}
use Rattle.xpath_plan.specs.Plans.{seen}
use Rattle.xpath_marks.specs.Marking.{AreNodes, Reached, FoundByStep}
use Rattle.xpath_marks.proofs.FirstStepLemmas.{children_everywhere}
use Rattle.xpath_marks.proofs.MarkingLemmas.{along_ok}
use Rattle.xpath_marks.proofs.first_steps.from_around.Goals as goal

pub around-requires : goal.around-requires
around-requires g c = subst (AreNodes c.args.dynamic.now) (sym c.as_slice.ensures.value) c.in_ok-named.ensures.within

pub returns-clause-marked : goal.returns-clause-marked
returns-clause-marked g c =
    let base = c.args.dynamic.now in
    let e = seen base.names.now c.args.work.now in
    along_ok c.reached.result (λ found. Reached base e c.as_slice-2.result.now found.items) (λ found. FoundByStep base e found.items)
    (λ found r. children_everywhere base c.documents_are_walkable.ensures c.args.k e c.in_ok-named.named.items c.as_slice.result.now c.in_ok-from.from.items
    c.as_slice-2.result.now found.items
    c.requires.children c.in_ok-named.ensures.found c.as_slice.ensures.value c.in_ok-from.ensures.around c.as_slice-2.ensures.value r)
    c.reached.ensures.reached
