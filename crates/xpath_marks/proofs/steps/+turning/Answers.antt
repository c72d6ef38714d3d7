use Rattle.std.proofs.Common.{rules, arith, ◌∙◌, ap, sym, subst, refl, true, false, ◌≡◌}
use Rattle.xpath_meaning.specs.Items.{is_empty}
use Rattle.xpath_plan.specs.Plans.{seen, made}
use Rattle.xpath_parts.specs.Contexts.{operands_of}
use Rattle.xpath_parts.specs.Depths.{deepest}
use Rattle.xpath_parts.proofs.DepthLemmas.{deeper, first-no_deeper}
use Rattle.xpath_parts.proofs.SlotLemmas as slots
use Rattle.xpath_marks.specs.Marking.{AreNodes, is_first_part}
use Rattle.xpath_marks.proofs.TurnLemmas.{node_seen, other_turned, first_turned, filters_turned, along_ok, nodes_append, alone_is}
use Rattle.xpath_marks.proofs.steps.+turning.Goals as goal

pub turn-returns-in-Node-clause-turned : goal.turn-returns-in-Node-clause-turned
turn-returns-in-Node-clause-turned g t c =
    let names = c.args.dynamic.now.names.now in
    rw (ap (seen names) c.in-Node.is ∙ (node_seen names c.in-Node.kind c.in-Node.parts ∙
    ap (λ parts. made c.in-Node.kind (operands_of names parts)) (sym c.as_slice.ensures))) c.turn_by.ensures.turned

pub turn_by-returns-then-is_filter-clause-turned : goal.turn_by-returns-then-is_filter-clause-turned
turn_by-returns-then-is_filter-clause-turned g t c =
    rw c.in-Some.ensures.cases.0 (along_ok c.filtered.result _ _
    (filters_turned c.args.dynamic.now c.args.kind.now c.in-Some.first.now c.in-Some.others.now c.args.n c.args.out.now.items c.filtered.new.out.items
    (sym c.if-is_filter.ensures))
    c.filtered.ensures.turned)

pub turn_by-returns-else-is_filter-clause-turned : goal.turn_by-returns-else-is_filter-clause-turned
turn_by-returns-else-is_filter-clause-turned g t c =
    let others = c.in-Some.others.now in
    let no : is_first_part c.args.kind.now c.in-Some.first.now.0 (is_empty others) ≡ false =
    ap (is_first_part c.args.kind.now c.in-Some.first.now.0) (alone_is others ∙ sym c.is_empty.ensures) ∙ sym c.if-is_first_part.ensures in
    rw c.in-Some.ensures.cases.0 (other_turned c.args.dynamic.now c.args.kind.now c.in-Some.first.now others c.args.n c.args.out.now.items c.args.out.now.items
    no (sym c.if-is_filter.ensures) refl)

pub filtered-returns-clause-within : goal.filtered-returns-clause-within
filtered-returns-clause-within g t c =
    subst (AreNodes c.args.dynamic.now) (sym c.in_ok-append.ensures.items)
    (nodes_append c.args.dynamic.now c.args.out.now.items c.in_ok-kept.kept.items c.requires.out c.in_ok-kept.ensures.within)

pub turn_by-returns-then-is_first_part-clause-turned : goal.turn_by-returns-then-is_first_part-clause-turned
turn_by-returns-then-is_first_part-clause-turned g t c =
    let others = c.in-Some.others.now in
    let yes : is_first_part c.args.kind.now c.in-Some.first.now.0 (is_empty others) ≡ true =
    ap (is_first_part c.args.kind.now c.in-Some.first.now.0) (alone_is others ∙ sym c.is_empty.ensures) ∙ sym c.if-is_first_part.ensures in
    rw c.in-Some.ensures.cases.0 (along_ok c.turn.result _ _
    (first_turned c.args.dynamic.now c.args.kind.now c.in-Some.first.now others c.args.n c.args.out.now.items c.turn.new.out.items yes) c.turn.ensures.turned)

pub turn-turn_by-requires : goal.turn-turn_by-requires
turn-turn_by-requires g t c κs within =
    let base = c.args.dynamic.now in
    let lent = c.as_slice.result.now in
    let node = slots.placed_node base c.args.work.now c.in-Node.kind c.in-Node.parts lent c.in-Node.is c.as_slice.ensures c.requires.placed in (
      omega (arith, c.decreases, deeper c.args.work.now c.in-Node.kind c.in-Node.parts c.in-Node.is, ap deepest c.as_slice.ensures),
      (search rules, (c.requires.ready, (c.requires.within, (c.requires.out, (slots.placed_parts base c.in-Node.kind lent node, c.requires.slots))))),
    )

pub turn_by-turn-requires : goal.turn_by-turn-requires
turn_by-turn-requires g t c κs within =
    let parts = c.args.parts.now in
    let first = c.in-Some.first.now in
    let others = c.in-Some.others.now in
    let divided = c.in-Some.ensures.cases.0 in (
      omega (arith, c.decreases, first-no_deeper parts others first divided),
      (
        search rules,
        (
          c.requires.ready,
          (
            c.requires.within,
            (
              c.requires.out,
              (slots.placed_first c.args.dynamic.now parts others first divided c.requires.placed, c.requires.slots),
            ),
          ),
        ),
      ),
    )

pub turn_by-filtered-requires : goal.turn_by-filtered-requires
turn_by-filtered-requires g t c κs within =
    let base = c.args.dynamic.now in
    let parts = c.args.parts.now in
    let first = c.in-Some.first.now in
    let others = c.in-Some.others.now in
    let divided = c.in-Some.ensures.cases.0 in
    let placed = c.requires.placed in (
      omega (arith, c.decreases, first-no_deeper parts others first divided),
      (
        search rules,
        (
          c.requires.ready,
          (
            c.requires.within,
            (
              c.requires.out,
              (
                slots.placed_first base parts others first divided placed,
                (slots.placed_others base parts others first divided placed, c.requires.slots),
              ),
            ),
          ),
        ),
      ),
    )
