use Rattle.std.proofs.Common.{◌≡◌, sym, subst, length, true}
use Rattle.xpath_plan.specs.Plans.{seen}
use Rattle.xpath_walks.specs.Walks.{Bounds, chain_of}
use Rattle.xpath_marks.specs.FirstSteps.{elements_of}
use Rattle.xpath_marks.specs.Marking.{FoundByStep, Marked, nodes_of}
use Rattle.xpath_meaning.specs.Expressions as x
use Rattle.xpath_marks.proofs.AloneLemmas.{root_alone, alone_named, other_alone}
use Rattle.xpath_marks.proofs.FirstStepLemmas.{named_marked}
use Rattle.xpath_marks.proofs.MarkingLemmas.{along_ok, root_marked, simple_marked}
use Rattle.xpath_marks.proofs.marking.found_by_simple.Goals as goal

pub returns-then-is_root-clause-marked : goal.returns-then-is_root-clause-marked
returns-then-is_root-clause-marked g c =
    let base = c.args.dynamic.now in
    along_ok c.the_root.result (λ found. Marked base x.the_root found.items) (λ found. Marked base (seen base.names.now c.args.work.now) found.items)
    (λ found m. root_marked base c.args.work.now c.args.simple.now found.items c.requires.is (sym c.if-is_root.ensures) m) c.the_root.ensures.marked

pub returns-then-is_root-clause-cost : goal.returns-then-is_root-clause-cost
returns-then-is_root-clause-cost g c = λ name e.
    absurd (root_alone c.args.dynamic.now.names.now c.args.work.now c.args.simple.now name c.requires.is (sym c.if-is_root.ensures) e)

pub returns-in-Some-clause-marked : goal.returns-in-Some-clause-marked
returns-in-Some-clause-marked g c =
    let base = c.args.dynamic.now in
    along_ok c.all_of_name.result (λ found. found.items ≡ elements_of base c.in-Some.k) (λ found. Marked base (seen base.names.now c.args.work.now) found.items)
    (λ found e. named_marked base c.documents_are_walkable.ensures c.args.work.now c.args.simple.now c.in-Some.k found.items c.requires.is
    c.in-Some.ensures.step e) c.all_of_name.ensures.found

pub returns-in-Some-clause-cost : goal.returns-in-Some-clause-cost
returns-in-Some-clause-cost g c = λ name e.
    subst (λ test. Bounds (length (chain_of (nodes_of c.args.dynamic.now) test)) true c.all_of_name.result c.args.steps.now c.all_of_name.new.steps)
    (alone_named c.args.dynamic.now.names.now c.args.work.now c.args.simple.now c.in-Some.k name c.requires.is c.in-Some.ensures.step e)
    c.all_of_name.ensures.cost

pub returns-in-None-clause-marked : goal.returns-in-None-clause-marked
returns-in-None-clause-marked g c =
    let base = c.args.dynamic.now in
    along_ok c.from_everywhere.result (λ found. FoundByStep base (seen base.names.now c.args.work.now) found.items)
    (λ found. Marked base (seen base.names.now c.args.work.now) found.items)
    (λ found f. simple_marked base c.args.work.now c.args.simple.now found.items c.requires.is (sym c.if-is_root.ensures) f) c.from_everywhere.ensures.marked

pub returns-in-None-clause-cost : goal.returns-in-None-clause-cost
returns-in-None-clause-cost g c = λ name e.
    absurd (other_alone c.args.dynamic.now.names.now c.args.work.now c.args.simple.now name c.requires.is (sym c.in-None.ensures.name) e)
