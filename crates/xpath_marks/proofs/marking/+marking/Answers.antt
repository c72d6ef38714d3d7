use Rattle.std.proofs.Common.{rules, arith, ◌≡◌, ◌∷◌, ap, sym, subst, true, false, ◌∙◌, take}
use Rattle.xpath_meaning.specs.Expressions.{Exp}
use Rattle.xpath_meaning.specs.Items.{is_empty}
use Rattle.xpath_meaning.specs.Resolving.{all_inside, chained, chained_on, linked}
use Rattle.xpath_plan.specs.Plans.{seen, label_of}
use Rattle.xpath_parts.specs.Contexts.{operands_of}
use Rattle.xpath_parts.specs.Depths.{deepest}
use Rattle.xpath_parts.proofs.DepthLemmas.{deeper, no_deeper, first-no_deeper}
use Rattle.xpath_parts.proofs.SlotLemmas as slots
use Rattle.xpath_marks.specs.FirstSteps.{is_found_by_first}
use Rattle.xpath_marks.specs.Found.{all_reached}
use Rattle.xpath_marks.specs.Marking.{Marked, Reached, FoundByStep, nodes_of, united_of}
use Rattle.xpath_marks.proofs.AloneLemmas.{empty_alone, first_alone, others_alone}
use Rattle.xpath_marks.proofs.FirstStepLemmas.{filter_children}
use Rattle.xpath_marks.proofs.TurnLemmas.{alone_is}
use Rattle.xpath_marks.proofs.MarkingLemmas.{along_ok, nothing_found, none_of_none, first_marked, chain_marked, others_marked, below_marked, inside_marked}
use Rattle.xpath_marks.proofs.MarkingLemmas.{beside_marked, otherwise_marked, chain_more}
use Rattle.xpath_marks.proofs.marking.+marking.Goals as goal

pub chain-returns-in_default-clause-marked : goal.chain-returns-in_default-clause-marked
chain-returns-in_default-clause-marked g t c =
    subst (λ ps. Marked c.args.dynamic.now (chained (operands_of c.args.dynamic.now.names.now ps)) c.new.result.items)
    (sym (none_of_none c.args.parts.now c.in_default.ensures.cases))
    (λ p. nothing_found c.args.dynamic.now c.new.result.items c.new.ensures.items)

pub found-returns-in_default-clause-cost : goal.found-returns-in_default-clause-cost
found-returns-in_default-clause-cost g t c = λ name e.
    absurd (empty_alone c.args.dynamic.now.names.now c.args.work.now c.in-Node.kind c.in-Node.parts name c.in-Node.is
    (sym c.as_slice.ensures ∙ none_of_none c.as_slice.result.now c.in_default.ensures.cases) e)

pub found-returns-then-is_found_by_first-clause-marked : goal.found-returns-then-is_found_by_first-clause-marked
found-returns-then-is_found_by_first-clause-marked g t c =
    let base = c.args.dynamic.now in
    let first = c.in-Some.first.now in
    let others = c.in-Some.others.now in
    let kind = c.in-Node.kind in
    let divided : c.in-Node.parts ≡ first ∷ others = sym c.as_slice.ensures ∙ c.in-Some.ensures.cases.0 in
    let yes : is_found_by_first kind first.0 (is_empty others) ≡ true = ap (is_found_by_first kind first.0) (alone_is others ∙ sym c.is_empty.ensures) ∙
    sym c.if-is_found_by_first.ensures in
    along_ok c.found.result (λ found. Marked base (seen base.names.now first.1) found.items)
    (λ found. Marked base (seen base.names.now c.args.work.now) found.items)
    (λ found m. first_marked base c.args.work.now kind c.in-Node.parts c.in-Node.is found.items first others divided yes m) c.found.ensures.marked

pub found-returns-then-is_found_by_first-clause-cost : goal.found-returns-then-is_found_by_first-clause-cost
found-returns-then-is_found_by_first-clause-cost g t c =
    let base = c.args.dynamic.now in
    let first = c.in-Some.first.now in
    let others = c.in-Some.others.now in
    let kind = c.in-Node.kind in
    let divided : c.in-Node.parts ≡ first ∷ others = sym c.as_slice.ensures ∙ c.in-Some.ensures.cases.0 in
    let yes : is_found_by_first kind first.0 (is_empty others) ≡ true = ap (is_found_by_first kind first.0) (alone_is others ∙ sym c.is_empty.ensures) ∙
    sym c.if-is_found_by_first.ensures in
    λ name e. c.found.ensures.cost name (first_alone base.names.now c.args.work.now kind c.in-Node.parts c.in-Node.is first others divided yes ∙ e)

pub found-returns-then-is_chain-clause-marked : goal.found-returns-then-is_chain-clause-marked
found-returns-then-is_chain-clause-marked g t c =
    let base = c.args.dynamic.now in
    let lent = c.as_slice-then-is_chain.result.now in
    along_ok c.chain.result (λ found. Marked base (chained (operands_of base.names.now lent)) found.items)
    (λ found. Marked base (seen base.names.now c.args.work.now) found.items)
    (λ found m. chain_marked base c.args.work.now c.in-Node.kind c.in-Node.parts c.in-Node.is found.items (sym c.if-is_chain.ensures)
    (subst (λ ps. Marked base (chained (operands_of base.names.now ps)) found.items) c.as_slice-then-is_chain.ensures m))
    c.chain.ensures.marked

pub found-returns-then-is_chain-clause-cost : goal.found-returns-then-is_chain-clause-cost
found-returns-then-is_chain-clause-cost g t c =
    let base = c.args.dynamic.now in
    let first = c.in-Some.first.now in
    let others = c.in-Some.others.now in
    let kind = c.in-Node.kind in
    let divided : c.in-Node.parts ≡ first ∷ others = sym c.as_slice.ensures ∙ c.in-Some.ensures.cases.0 in
    let no : is_found_by_first kind first.0 (is_empty others) ≡ false = ap (is_found_by_first kind first.0) (alone_is others ∙ sym c.is_empty.ensures) ∙
    sym c.if-is_found_by_first.ensures in
    λ name e. absurd (others_alone base.names.now c.args.work.now kind c.in-Node.parts c.in-Node.is first others divided name no e)

pub found-from_around-requires-clause-children : goal.found-from_around-requires-clause-children
found-from_around-requires-clause-children g t c =
    let base = c.args.dynamic.now in
    let divided : c.in-Node.parts ≡ c.in-Some.first.now ∷ c.in-Some.others.now = sym c.as_slice.ensures ∙ c.in-Some.ensures.cases.0 in
    filter_children base c.args.work.now c.in-Node.kind c.in-Node.parts c.in-Some.first.now c.in-Some.others.now c.in-Some-filtered_name.k c.in-Node.is divided
    c.in-Some-filtered_name.ensures.filter c.in-Some-filtered_name.ensures.step

pub found-returns-in-Some-filtered_name-clause-marked : goal.found-returns-in-Some-filtered_name-clause-marked
found-returns-in-Some-filtered_name-clause-marked g t c =
    let base = c.args.dynamic.now in
    let first = c.in-Some.first.now in
    let others = c.in-Some.others.now in
    let kind = c.in-Node.kind in
    let divided : c.in-Node.parts ≡ first ∷ others = sym c.as_slice.ensures ∙ c.in-Some.ensures.cases.0 in
    let no : is_found_by_first kind first.0 (is_empty others) ≡ false = ap (is_found_by_first kind first.0) (alone_is others ∙ sym c.is_empty.ensures) ∙
    sym c.if-is_found_by_first.ensures in
    along_ok c.from_around.result (λ found. FoundByStep base (seen base.names.now c.args.work.now) found.items)
    (λ found. Marked base (seen base.names.now c.args.work.now) found.items)
    (λ found f. others_marked base c.args.work.now kind c.in-Node.parts c.in-Node.is found.items first others divided no (sym c.if-is_chain.ensures) f)
    c.from_around.ensures.marked

pub found-returns-in-Some-filtered_name-clause-cost : goal.found-returns-in-Some-filtered_name-clause-cost
found-returns-in-Some-filtered_name-clause-cost g t c =
    let base = c.args.dynamic.now in
    let first = c.in-Some.first.now in
    let others = c.in-Some.others.now in
    let kind = c.in-Node.kind in
    let divided : c.in-Node.parts ≡ first ∷ others = sym c.as_slice.ensures ∙ c.in-Some.ensures.cases.0 in
    let no : is_found_by_first kind first.0 (is_empty others) ≡ false = ap (is_found_by_first kind first.0) (alone_is others ∙ sym c.is_empty.ensures) ∙
    sym c.if-is_found_by_first.ensures in
    λ name e. absurd (others_alone base.names.now c.args.work.now kind c.in-Node.parts c.in-Node.is first others divided name no e)

pub found-returns-in-None-clause-marked : goal.found-returns-in-None-clause-marked
found-returns-in-None-clause-marked g t c =
    let base = c.args.dynamic.now in
    let first = c.in-Some.first.now in
    let others = c.in-Some.others.now in
    let kind = c.in-Node.kind in
    let divided : c.in-Node.parts ≡ first ∷ others = sym c.as_slice.ensures ∙ c.in-Some.ensures.cases.0 in
    let no : is_found_by_first kind first.0 (is_empty others) ≡ false = ap (is_found_by_first kind first.0) (alone_is others ∙ sym c.is_empty.ensures) ∙
    sym c.if-is_found_by_first.ensures in
    along_ok c.from_everywhere-in-None.result (λ found. FoundByStep base (seen base.names.now c.args.work.now) found.items)
    (λ found. Marked base (seen base.names.now c.args.work.now) found.items)
    (λ found f. others_marked base c.args.work.now kind c.in-Node.parts c.in-Node.is found.items first others divided no (sym c.if-is_chain.ensures) f)
    c.from_everywhere-in-None.ensures.marked

pub found-returns-in-None-clause-cost : goal.found-returns-in-None-clause-cost
found-returns-in-None-clause-cost g t c =
    let base = c.args.dynamic.now in
    let first = c.in-Some.first.now in
    let others = c.in-Some.others.now in
    let kind = c.in-Node.kind in
    let divided : c.in-Node.parts ≡ first ∷ others = sym c.as_slice.ensures ∙ c.in-Some.ensures.cases.0 in
    let no : is_found_by_first kind first.0 (is_empty others) ≡ false = ap (is_found_by_first kind first.0) (alone_is others ∙ sym c.is_empty.ensures) ∙
    sym c.if-is_found_by_first.ensures in
    λ name e. absurd (others_alone base.names.now c.args.work.now kind c.in-Node.parts c.in-Node.is first others divided name no e)

pub link_on-returns-in-Below-clause-marked : goal.link_on-returns-in-Below-clause-marked
link_on-returns-in-Below-clause-marked g t c =
    let base = c.args.dynamic.now in
    let f = seen base.names.now c.args.work.now in
    along_ok c.reached.result (λ found. Reached base f c.as_slice.result.now found.items)
    (λ found. (e : Exp) → Marked base e c.args.before.items → Marked base (linked e (label_of c.args.link) f) found.items)
    (λ found r e m. below_marked base c.documents_are_walkable.ensures c.args.link e f c.args.before.items found.items m c.in-Below.ensures
    (subst (λ xs. Reached base f xs found.items) c.as_slice.ensures.value r))
    c.reached.ensures.reached

pub link_on-returns-in_ok-inside-in-Inside-clause-marked : goal.link_on-returns-in_ok-inside-in-Inside-clause-marked
link_on-returns-in_ok-inside-in-Inside-clause-marked g t c =
    let base = c.args.dynamic.now in
    let f = seen base.names.now c.args.work.now in
    let inside = c.in_ok-inside-in-Inside.inside.items in
    let is : inside ≡ all_reached (nodes_of base) base.env.now all_inside c.args.before.items =
    c.in_ok-inside-in-Inside.ensures.reached ∙ ap (all_reached (nodes_of base) base.env.now all_inside) c.as_slice-in-Inside.ensures.value in
    along_ok c.reached-in-Inside.result (λ found. Reached base f c.as_slice-in-Inside-2.result.now found.items)
    (λ found. (e : Exp) → Marked base e c.args.before.items → Marked base (linked e (label_of c.args.link) f) found.items)
    (λ found r e m. inside_marked base c.documents_are_walkable.ensures c.args.link e f c.args.before.items found.items m inside c.in-Inside.ensures is
    (subst (λ xs. Reached base f xs found.items) c.as_slice-in-Inside-2.ensures.value r))
    c.reached-in-Inside.ensures.reached

pub link_on-returns-in_ok-other-in-Beside-clause-marked : goal.link_on-returns-in_ok-other-in-Beside-clause-marked
link_on-returns-in_ok-other-in-Beside-clause-marked g t c =
    let base = c.args.dynamic.now in
    let f = seen base.names.now c.args.work.now in
    let other = c.in_ok-other-in-Beside.other.items in
    along_ok c.united.result (λ found. found.items ≡ united_of base c.args.before.items other)
    (λ found. (e : Exp) → Marked base e c.args.before.items → Marked base (linked e (label_of c.args.link) f) found.items)
    (λ found u e m. beside_marked base c.documents_are_walkable.ensures c.args.link e f c.args.before.items found.items m other c.in-Beside.ensures
    c.in_ok-other-in-Beside.ensures.marked u)
    c.united.ensures.marked

pub link_on-returns-in-Otherwise-clause-marked : goal.link_on-returns-in-Otherwise-clause-marked
link_on-returns-in-Otherwise-clause-marked g t c = λ e m.
    otherwise_marked c.args.dynamic.now c.args.link e (seen c.args.dynamic.now.names.now c.args.work.now) c.new.result.items c.in-Otherwise.ensures
    c.new.ensures.items

pub links_on-parts-preserved : goal.links_on-parts-preserved
links_on-parts-preserved g t c =
    let base = c.args.dynamic.now in
    record {
      within = c.in_ok-before.ensures.within;
      held = c.in_ok-before.ensures.held;
      marked = λ e m. subst (λ x. Marked base x c.in_ok-before.before.items)
          (sym (chain_more base c.args.parts.now c.parts.part-index c.part-item.result e c.part-item.is c.parts-test.true))
          (c.in_ok-before.ensures.marked (chained_on e (operands_of base.names.now (take c.parts.part-index c.args.parts.now))) (c.parts.invariant.marked e m));
    }

pub found-found-requires : goal.found-found-requires
found-found-requires g t c κs within =
    let base = c.args.dynamic.now in
    let lent = c.as_slice.result.now in
    let first = c.in-Some.first.now in
    let others = c.in-Some.others.now in
    let node = slots.placed_node base c.args.work.now c.in-Node.kind c.in-Node.parts lent c.in-Node.is c.as_slice.ensures c.requires.placed in
    let inside = slots.placed_parts base c.in-Node.kind lent node in (
      omega (
        arith,
        c.decreases,
        deeper c.args.work.now c.in-Node.kind c.in-Node.parts c.in-Node.is,
        ap deepest c.as_slice.ensures,
        first-no_deeper
            lent others first c.in-Some.ensures.cases.0,
      ),
      (search rules, (c.requires.ready, (slots.placed_first base lent others first c.in-Some.ensures.cases.0 inside, c.requires.slots))),
    )

pub found-chain-requires : goal.found-chain-requires
found-chain-requires g t c κs within =
    let base = c.args.dynamic.now in
    let lent = c.as_slice-then-is_chain.result.now in
    let same = c.as_slice-then-is_chain.ensures in
    let node = slots.placed_node base c.args.work.now c.in-Node.kind c.in-Node.parts lent c.in-Node.is same c.requires.placed in (
      omega (arith, c.decreases, deeper c.args.work.now c.in-Node.kind c.in-Node.parts c.in-Node.is, ap deepest same),
      (search rules, (c.requires.ready, (slots.placed_parts base c.in-Node.kind lent node, c.requires.slots))),
    )

pub chain-found-requires : goal.chain-found-requires
chain-found-requires g t c κs within =
    let parts = c.args.parts.now in
    let first = c.in-Some.first.now in
    let others = c.in-Some.others.now in
    let divided = c.in-Some.ensures.cases.0 in (
      omega (arith, c.decreases, first-no_deeper parts others first divided),
      (search rules, (c.requires.ready, (slots.placed_first c.args.dynamic.now parts others first divided c.requires.placed, c.requires.slots))),
    )

pub chain-links_on-requires-else-is_operator : goal.chain-links_on-requires-else-is_operator
chain-links_on-requires-else-is_operator g t c κs within =
    let parts = c.args.parts.now in
    let first = c.in-Some.first.now in
    let others = c.in-Some.others.now in
    let divided = c.in-Some.ensures.cases.0 in (
      omega (arith, c.decreases, first-no_deeper parts others first divided),
      (
        search rules,
        (
          c.requires.ready,
          (
            c.in_ok-before.ensures.within,
            (
              slots.placed_others c.args.dynamic.now parts others first divided c.requires.placed,
              c.in_ok-before.ensures.held,
            ),
          ),
        ),
      ),
    )

pub links_on-link_on-requires : goal.links_on-link_on-requires
links_on-link_on-requires g t c κs within = (
  omega (arith, c.decreases, no_deeper c.args.parts.now c.parts.part-index c.part-item.result c.parts-test.true c.part-item.is),
  (
    search rules,
    (
      c.requires.ready,
      (
        c.parts.invariant.within,
        (
          slots.placed_at c.args.dynamic.now c.args.parts.now c.parts.part-index c.part-item.result c.parts-test.true c.part-item.is c.requires.placed,
          c.parts.invariant.held,
        ),
      ),
    ),
  ),
)
