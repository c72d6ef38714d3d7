use Rattle.std.proofs.Common.{rules, ◌≡◌, ◌+◌, ◌-◌, List, [], ◌∷◌, ◌++◌, length, drop, reverse, true, false, Ok, Err, IfOk, refl, sym, ap, ◌∙◌, subst, arith}
use Rattle.std.proofs.Common.{⊎_elim}
use Rattle.node_arena.specs.Moves.{tree_nodes}
use Rattle.xpath_items.specs.Faults.{Gives}
use Rattle.xpath_meaning.specs.Meaning.{means}
use Rattle.xpath_meaning.specs.Resolving.{arguments_of, in_axis_order}
use Rattle.xpath_meaning.specs.Steps as steps
use Rattle.xpath_meaning.specs.Values.{value, then_}
use Rattle.xpath_plan.specs.Plans.{seen, made}
use Rattle.xpath_plan.specs.declared.plan_node.Operation.TheVariants as m
use Rattle.xpath_parts.specs.Contexts.{context, count, operands_of, turn_in, value_in}
use Rattle.xpath_parts.specs.Depths.{deepest}
use Rattle.xpath_parts.specs.Finishing.{is_strict, finished}
use Rattle.xpath_parts.specs.Links as links
use Rattle.xpath_parts.specs.Slots.{IsKeptHere}
use Rattle.std.specs.Vec.Iter.{into_iter_items}
use Rattle.xpath_items.specs.declared.item.Item.{Item}
use Rattle.xpath_parts.specs.Turns.{Takes, after}
use Rattle.xpath_run.proofs.Costs.{to_come, level}
use Rattle.xpath_parts.proofs.DepthLemmas.{deeper, no_deeper, there-no_deeper, first-no_deeper, dropped-no_deeper}
use Rattle.xpath_parts.proofs.GivesLemmas.{gives-along, gives-within, outcome-within}
use Rattle.xpath_run.proofs.LoopLemmas as loop
use Rattle.xpath_parts.proofs.SeenLemmas as known
use Rattle.xpath_parts.proofs.SlotLemmas as slots
use Rattle.xpath_run.proofs.StrictLemmas.{strict, wanted-no_deeper}
use Rattle.xpath_run.proofs.TurnSteps as turn
use Rattle.xpath_operators.specs.Nodes.{AllWithin}
use Rattle.xpath_steps.specs.Lending.{lent_value}
use Rattle.xpath_steps.specs.Variables.{ValueWithin}
use Rattle.xpath_parts.proofs.WithinLemmas.{within-along, within-append, all_within-append, all_within-along}
use Rattle.xpath_run.proofs.evaluating.+evaluating.Goals as goal

pub along_axis-along_axis-requires : goal.along_axis-along_axis-requires
along_axis-along_axis-requires g t c κs within = (
  omega (
    arith,
    c.decreases,
    deeper c.args.work.now c.in-Node.kind c.in-Node.parts c.in-Node.is,
    c.in-Some.ensures.deeper,
    ap deepest
        c.as_slice-in-Node.ensures,
  ),
  (
    search rules,
    (
      c.requires.ready,
      (
        c.in-Some.ensures.placed c.args.dynamic.now (slots.placed_parts c.args.dynamic.now c.in-Node.kind c.as_slice-in-Node.result.now
            (slots.placed_node c.args.dynamic.now c.args.work.now c.in-Node.kind c.in-Node.parts c.as_slice-in-Node.result.now c.in-Node.is
            c.as_slice-in-Node.ensures c.requires.placed)),
        c.requires.slots,
      ),
    ),
  ),
)

pub along_axis-returns-in-Some : goal.along_axis-returns-in-Some
along_axis-returns-in-Some g t c = record {
  value = known.value-along c.along_axis.result c.args.dynamic.now c.args.focus.now c.args.bound.now.items _ _
      (ap in_axis_order (sym (known.seen-at c.args.dynamic.now.names.now c.args.work.now c.in-Node.kind c.in-Node.parts _ c.in-Node.is
      c.as_slice-in-Node.ensures ∙ c.in-Some.ensures.some c.args.dynamic.now.names.now))) c.along_axis.ensures.value;
  within = c.along_axis.ensures.within;
  kept = c.along_axis.ensures.kept;
  held = c.along_axis.ensures.held;
  grown = c.along_axis.ensures.grown;
}

pub evaluate-returns-in-Node-clause-value : goal.evaluate-returns-in-Node-clause-value
evaluate-returns-in-Node-clause-value g t c = known.value-along c.by_kind.result c.args.dynamic.now c.args.focus.now c.args.bound.now.items _ _
    (sym (known.seen-at c.args.dynamic.now.names.now c.args.work.now c.in-Node.kind c.in-Node.parts _ c.in-Node.is c.as_slice-in-Node.ensures))
    c.by_kind.ensures.value

pub link_on-returns-in-Some-clause-value : goal.link_on-returns-in-Some-clause-value
link_on-returns-in-Some-clause-value g t c =
    let found = c.in-Some.ensures c.args.dynamic.now.names.now (tree_nodes c.args.dynamic.now.doc.now) (value c.args.before)
    (context c.args.dynamic.now c.args.focus.now c.args.bound.now.items) in
    subst (λ v. IfOk c.step_inside.result (λ outcome. value outcome ≡ v)) (sym found) c.step_inside.ensures.value

pub link_on-returns-in-Turns-clause-within : goal.link_on-returns-in-Turns-clause-within
link_on-returns-in-Turns-clause-within g t c = outcome-within _ c.path.result c.outcome.result c.outcome.ensures c.path.ensures.within

pub links_on-parts-preserved : goal.links_on-parts-preserved
links_on-parts-preserved g t c = record {
  kept = c.in_ok-so_far.ensures.kept ∙ c.parts.invariant.kept;
  held = c.in_ok-so_far.ensures.held;
  grown = slots.grows_more _ _ _ c.parts.invariant.grown c.in_ok-so_far.ensures.grown;
  goes = loop.link-step (tree_nodes c.args.dynamic.now.doc.now) c.args.dynamic.now.names.now
      (context c.args.dynamic.now c.args.focus.now c.args.bound.now.items) c.args.parts.now c.parts.part-index c.part-item.result
      c.parts-test.true c.part-item.is (value c.parts.so_far) (value c.in_ok-so_far.so_far)
      (c.in_ok-so_far.ensures.value ∙ ap (λ bound. links.linked_value (tree_nodes c.args.dynamic.now.doc.now) c.part-item.result.0
      (value c.parts.so_far) (seen c.args.dynamic.now.names.now c.part-item.result.1) (context c.args.dynamic.now c.args.focus.now bound))
      c.parts.invariant.kept)
      ∙ c.parts.invariant.goes;
  within = c.in_ok-so_far.ensures.within;
}

pub links_on-link_on-requires : goal.links_on-link_on-requires
links_on-link_on-requires g t c κs within = (
  omega (arith, c.decreases, no_deeper c.args.parts.now c.parts.part-index c.part-item.result c.parts-test.true c.part-item.is),
  (
    search rules,
    (
      known.ready-along _ _ _ _ c.parts.invariant.kept c.requires.ready,
      (
        c.parts.invariant.within,
        (
          slots.placed_at c.args.dynamic.now c.args.parts.now c.parts.part-index c.part-item.result c.parts-test.true
              c.part-item.is c.requires.placed,
          c.parts.invariant.held,
        ),
      ),
    ),
  ),
)

pub bind-returns-clause-value : goal.bind-returns-clause-value
bind-returns-clause-value g t c =
    gives-along c.take_turns-found.result _ _
    (known.bind-value (tree_nodes c.args.dynamic.now.doc.now) c.args.dynamic.now.names.now c.args.binder c.args.parts.now c.in-Some.first.now
    c.in-Some.inside.now
    (context c.args.dynamic.now c.args.focus.now c.args.bound.now.items) (context c.args.dynamic.now c.args.focus.now c.evaluate.new.bound.items)
    c.in_ok-items.items
    c.in-Some.ensures.cases.0 (omega arith) (ap (context c.args.dynamic.now c.args.focus.now) c.evaluate.ensures.kept) c.in_ok-items.ensures.value)
    c.take_turns-found.ensures.value

pub by_kind-returns-in_ok-items-in-FilteredStep-clause-value : goal.by_kind-returns-in_ok-items-in-FilteredStep-clause-value
by_kind-returns-in_ok-items-in-FilteredStep-clause-value g t c =
    gives-along c.settled.result _ _
    (sym (known.filtered_step-ordered (tree_nodes c.args.dynamic.now.doc.now) (operands_of c.args.dynamic.now.names.now c.args.parts.now)
    (context c.args.dynamic.now c.args.focus.now c.args.bound.now.items) c.in_ok-items-in-FilteredStep.items c.in_ok-items-in-FilteredStep.ensures.value)
    ∙ ⊎_elim
    (λ (is : c.args.kind.now ≡ m.FilteredStep). ap (λ kind. value_in c.args.dynamic.now
    (made kind (operands_of c.args.dynamic.now.names.now c.args.parts.now)) c.args.focus.now c.args.bound.now.items) (sym is))
    (λ (is : c.args.kind.now ≡ m.FreeStep). ap (λ kind. value_in c.args.dynamic.now
    (made kind (operands_of c.args.dynamic.now.names.now c.args.parts.now)) c.args.focus.now c.args.bound.now.items) (sym is))
    c.in-FilteredStep.is)
    c.settled.ensures.value

pub along_axis-returns-then-is_filtered_step-clause-value : goal.along_axis-returns-then-is_filtered_step-clause-value
along_axis-returns-then-is_filtered_step-clause-value g t c = known.value-along c.filter.result c.args.dynamic.now c.args.focus.now c.args.bound.now.items _ _
    (known.filtered_step-made c.in-Node.kind (operands_of c.args.dynamic.now.names.now c.as_slice-then-is_filtered_step.result.now)
    (sym c.is_filtered_step.ensures ∙ c.if-is_filtered_step.true)
    ∙ ap in_axis_order (sym (known.seen-at c.args.dynamic.now.names.now c.args.work.now c.in-Node.kind c.in-Node.parts
    c.as_slice-then-is_filtered_step.result.now c.in-Node.is c.as_slice-then-is_filtered_step.ensures)))
    c.filter.ensures.value

pub along_axis-returns-in-None-clause-value : goal.along_axis-returns-in-None-clause-value
along_axis-returns-in-None-clause-value g t c = known.value-along c.by_kind.result c.args.dynamic.now c.args.focus.now c.args.bound.now.items _ _
    (ap (λ parts. made c.in-Node.kind (operands_of c.args.dynamic.now.names.now parts)) (c.as_slice-in-None.ensures ∙ sym c.as_slice-in-Node.ensures)
    ∙ (sym (c.in-None.ensures.none (sym c.is_filtered_step.ensures ∙ c.if-is_filtered_step.false) c.args.dynamic.now.names.now)
    ∙ ap in_axis_order (sym (known.seen-at c.args.dynamic.now.names.now c.args.work.now c.in-Node.kind c.in-Node.parts
    c.as_slice-in-Node.result.now c.in-Node.is c.as_slice-in-Node.ensures))))
    c.by_kind.ensures.value

pub chain-links_on-requires-else-is_operator : goal.chain-links_on-requires-else-is_operator
chain-links_on-requires-else-is_operator g t c κs within = (
  omega (arith, c.decreases, first-no_deeper c.args.parts.now c.in-Some.others.now c.in-Some.first.now c.in-Some.ensures.cases.0),
  (
    search rules,
    (
      known.ready-along _ _ _ _ c.evaluate-found.ensures.kept c.requires.ready,
      (
        outcome-within (count c.args.dynamic.now) c.evaluate-found.result (Ok c.in_ok-outcome-2.field-0) c.in_ok-outcome-2.ensures
            c.evaluate-found.ensures.within,
        (
          slots.placed_others c.args.dynamic.now c.args.parts.now c.in-Some.others.now c.in-Some.first.now c.in-Some.ensures.cases.0 c.requires.placed,
          c.evaluate-found.ensures.held,
        ),
      ),
    ),
  ),
)

pub chain-returns-in_ok-outcome-clause-value : goal.chain-returns-in_ok-outcome-clause-value
chain-returns-in_ok-outcome-clause-value g t c = gives-along c.links_on.result _ _
    (ap (λ before. links.chain_value (tree_nodes c.args.dynamic.now.doc.now) (links.linked_parts c.args.dynamic.now.names.now c.args.parts.now) before
    (context c.args.dynamic.now c.args.focus.now c.args.bound.now.items))
    (c.in_ok-outcome.ensures (steps.root_of c.args.focus.now.item) c.root_of-root.ensures.value)
    ∙ known.chain-at_root (tree_nodes c.args.dynamic.now.doc.now) c.args.dynamic.now.names.now c.args.parts.now c.in-Some.first.now c.in-Some.others.now
    (context c.args.dynamic.now c.args.focus.now c.args.bound.now.items) c.in-Some.ensures.cases.0 (sym c.is_operator.ensures ∙ c.if-is_operator.true))
    c.links_on.ensures.value

pub chain-returns-in_ok-outcome-2-clause-value : goal.chain-returns-in_ok-outcome-2-clause-value
chain-returns-in_ok-outcome-2-clause-value g t c = gives-along c.links_on-else-is_operator.result _ _
    (ap (λ bound. links.chain_value (tree_nodes c.args.dynamic.now.doc.now) (links.linked_parts c.args.dynamic.now.names.now c.in-Some.others.now)
    (value c.in_ok-outcome-2.field-0) (context c.args.dynamic.now c.args.focus.now bound)) c.evaluate-found.ensures.kept
    ∙ (ap (λ before. links.chain_value (tree_nodes c.args.dynamic.now.doc.now) (links.linked_parts c.args.dynamic.now.names.now c.in-Some.others.now)
    before (context c.args.dynamic.now c.args.focus.now c.args.bound.now.items))
    (c.in_ok-outcome-2.ensures (value_in c.args.dynamic.now (seen c.args.dynamic.now.names.now c.in-Some.first.now.1) c.args.focus.now
    c.args.bound.now.items) c.evaluate-found.ensures.value)
    ∙ known.chain-at_first (tree_nodes c.args.dynamic.now.doc.now) c.args.dynamic.now.names.now c.args.parts.now c.in-Some.first.now
    c.in-Some.others.now (context c.args.dynamic.now c.args.focus.now c.args.bound.now.items) c.in-Some.ensures.cases.0
    (sym c.is_operator.ensures ∙ c.if-is_operator.false)))
    c.links_on-else-is_operator.ensures.value

pub filter-returns-in-Ok-clause-value : goal.filter-returns-in-Ok-clause-value
filter-returns-in-Ok-clause-value g t c = gives-along c.keep_all.result _ _
    (ap (λ bound. links.kept_by_all (λ e. turn_in c.args.dynamic.now e bound) (operands_of c.args.dynamic.now.names.now c.in-Some.predicates.now)
    c.in-Ok.nodes) c.along_axis.ensures.kept
    ∙ known.filter-ok c.args.dynamic.now c.args.focus.now c.args.bound.now.items c.args.parts.now c.in-Some.predicates.now c.in-Some.first.now
    c.in-Some.ensures.cases.0 c.args.is_step true c.in-Ok.nodes c.if-is_step.true c.in-Ok.ensures.value)
    c.keep_all.ensures.value

pub filter-returns-in-Err-clause-value : goal.filter-returns-in-Err-clause-value
filter-returns-in-Err-clause-value g t c = known.filter-err c.args.dynamic.now c.args.focus.now c.args.bound.now.items c.args.parts.now
    c.in-Some.predicates.now c.in-Some.first.now c.in-Some.ensures.cases.0 c.args.is_step true c.in-Err.fault c.if-is_step.true c.in-Err.ensures.value

pub filter-returns-in-Ok-evaluate-clause-value : goal.filter-returns-in-Ok-evaluate-clause-value
filter-returns-in-Ok-evaluate-clause-value g t c = gives-along c.keep_all-in-Ok-evaluate.result _ _
    (ap (λ bound. links.kept_by_all (λ e. turn_in c.args.dynamic.now e bound) (operands_of c.args.dynamic.now.names.now c.in-Some.predicates.now)
    c.in-Ok-evaluate.items) c.evaluate.ensures.kept
    ∙ known.filter-ok c.args.dynamic.now c.args.focus.now c.args.bound.now.items c.args.parts.now c.in-Some.predicates.now c.in-Some.first.now
    c.in-Some.ensures.cases.0 c.args.is_step false c.in-Ok-evaluate.items c.if-is_step.false c.in-Ok-evaluate.ensures.value)
    c.keep_all-in-Ok-evaluate.ensures.value

pub filter-returns-in-Err-evaluate-clause-value : goal.filter-returns-in-Err-evaluate-clause-value
filter-returns-in-Err-evaluate-clause-value g t c = known.filter-err c.args.dynamic.now c.args.focus.now c.args.bound.now.items c.args.parts.now
    c.in-Some.predicates.now c.in-Some.first.now c.in-Some.ensures.cases.0 c.args.is_step false c.in-Err-evaluate.fault c.if-is_step.false
    c.in-Err-evaluate.ensures.value

pub keep-items-preserved : goal.keep-items-preserved
keep-items-preserved g t c = record {
  kept = c.evaluate.ensures.kept ∙ c.items.invariant.kept;
  held = c.evaluate.ensures.held;
  grown = slots.grows_more _ _ _ c.items.invariant.grown c.evaluate.ensures.grown;
  left = loop.fewer _ _ _ _ _ c.in-Some.ensures.steps.0 c.in-Some.ensures.steps.1 c.items.invariant.left;
  counted = loop.counts _ _ _ _ _ c.in-Some.ensures.steps.0 c.items.invariant.counted;
  goes = loop.keep-ok (turn_in c.args.dynamic.now (seen c.args.dynamic.now.names.now c.args.predicate.now) c.args.bound.now.items) c.len-last.result
      c.items.position (c.items.position + 1) (omega arith) c.in-Some.item (into_iter_items c.next.new.self) (into_iter_items c.items.item-iterator)
      c.in-Some.ensures.steps.0 c.items.kept c.in_ok-answer.answer c.in_ok-is_kept.is_kept c.keep_if.new.kept
      (ap (λ bound. turn_in c.args.dynamic.now (seen c.args.dynamic.now.names.now c.args.predicate.now) bound c.in-Some.item (c.items.position + 1)
      c.len-last.result) (sym c.items.invariant.kept) ∙ c.in_ok-answer.ensures.value)
      (sym c.in_ok-is_kept.ensures) c.in_ok-keep_if.ensures ∙ c.items.invariant.goes;
  inside = (loop.rest-within (count c.args.dynamic.now) _ _ _ c.in-Some.ensures.steps.0 c.items.invariant.inside).1;
  within = loop.kept-within (count c.args.dynamic.now) c.in_ok-is_kept.is_kept c.in-Some.item _ _ c.in_ok-keep_if.ensures
      (loop.rest-within (count c.args.dynamic.now) _ _ _ c.in-Some.ensures.steps.0 c.items.invariant.inside).0 c.items.invariant.within;
}

pub turns-items-preserved : goal.turns-items-preserved
turns-items-preserved g t c = record {
  kept = c.evaluate.ensures.kept ∙ c.items.invariant.kept;
  held = c.evaluate.ensures.held;
  grown = slots.grows_more _ _ _ c.items.invariant.grown c.evaluate.ensures.grown;
  left = loop.fewer _ _ _ _ _ c.in-Some.ensures.steps.0 c.in-Some.ensures.steps.1 c.items.invariant.left;
  counted = loop.counts _ _ _ _ _ c.in-Some.ensures.steps.0 c.items.invariant.counted;
  goes = loop.turn-ok (turn_in c.args.dynamic.now (seen c.args.dynamic.now.names.now c.args.work.now) c.args.bound.now.items) c.len-last.result
      c.items.position (c.items.position + 1) (omega arith) c.in-Some.item (into_iter_items c.next.new.self) (into_iter_items c.items.item-iterator)
      c.in-Some.ensures.steps.0 c.items.out c.append_found.new.out c.in_ok-found.found
      (ap (λ bound. turn_in c.args.dynamic.now (seen c.args.dynamic.now.names.now c.args.work.now) bound c.in-Some.item (c.items.position + 1)
      c.len-last.result) (sym c.items.invariant.kept) ∙ c.in_ok-found.ensures.value)
      c.in_ok-append_found.ensures ∙ c.items.invariant.goes;
  inside = (loop.rest-within (count c.args.dynamic.now) _ _ _ c.in-Some.ensures.steps.0 c.items.invariant.inside).1;
  within = within-along (count c.args.dynamic.now) _ _ c.in_ok-append_found.ensures
      (within-append (count c.args.dynamic.now) _ _ c.items.invariant.within c.in_ok-found.ensures.within);
}

pub keep_all-keep-requires : goal.keep_all-keep-requires
keep_all-keep-requires g t c κs within = (
  omega (arith, c.decreases, no_deeper c.args.predicates.now c.predicates.predicate-index c.predicate-item.result c.predicates-test.true c.predicate-item.is),
  (
    search rules,
    (
      record {
        numbered = c.requires.ready.numbered;
        variables = c.requires.ready.variables;
        inside =
            within-along _ _ _ c.predicates.invariant.kept c.requires.ready.inside;
      },
      (
        c.predicates.invariant.within,
        (
          slots.placed_at c.args.dynamic.now c.args.predicates.now c.predicates.predicate-index c.predicate-item.result c.predicates-test.true
              c.predicate-item.is c.requires.placed,
          c.predicates.invariant.held,
        ),
      ),
    ),
  ),
)

pub keep_all-predicates-preserved : goal.keep_all-predicates-preserved
keep_all-predicates-preserved g t c = record {
  kept = c.keep.ensures.kept ∙ c.predicates.invariant.kept;
  held = c.keep.ensures.held;
  grown = slots.grows_more _ _ _ c.predicates.invariant.grown c.keep.ensures.grown;
  goes = loop.predicate-ok (λ e. turn_in c.args.dynamic.now e c.args.bound.now.items) c.args.dynamic.now.names.now c.args.predicates.now
      c.predicates.predicate-index c.predicate-item.result c.predicates-test.true c.predicate-item.is c.predicates.kept c.in-Ok.items
      (ap (λ bound. steps.filtered_by (turn_in c.args.dynamic.now (seen c.args.dynamic.now.names.now c.predicate-item.result.1) bound)
      c.predicates.kept) (sym c.predicates.invariant.kept) ∙ c.in-Ok.ensures.value) ∙ c.predicates.invariant.goes;
  within = c.in-Ok.ensures.within;
}

pub keep_all-returns-in-Err-clause-value : goal.keep_all-returns-in-Err-clause-value
keep_all-returns-in-Err-clause-value g t c = loop.predicate-fault (λ e. turn_in c.args.dynamic.now e c.args.bound.now.items)
    c.args.dynamic.now.names.now c.args.predicates.now c.predicates.predicate-index c.predicate-item.result c.predicates-test.true c.predicate-item.is
    c.predicates.kept _ c.in-Err.fault c.predicates.invariant.goes
    (subst (λ bound. Gives {X = List Item} (Err c.in-Err.fault)
    (steps.filtered_by (turn_in c.args.dynamic.now (seen c.args.dynamic.now.names.now c.predicate-item.result.1) bound) c.predicates.kept))
    c.predicates.invariant.kept c.in-Err.ensures.value)

pub path-returns-in-Some-clause-value : goal.path-returns-in-Some-clause-value
path-returns-in-Some-clause-value g t c = gives-along c.steps_over.result _ _
    (known.path-step c.args.dynamic.now c.args.bound.now.items c.args.work.now c.in-Some.axis c.in-Some.test.now c.args.items c.as_slice.result.now
    (c.in-Some.ensures c.args.dynamic.now.names.now) c.as_slice.ensures)
    (c.steps_over.ensures.stepped c.args.dynamic.now.names.now c.requires.ready.numbered)

pub take_turns-turns-init : goal.take_turns-turns-init
take_turns-turns-init g t c =
    let pushed : c.push.new.self.items ≡ c.args.items ∷ [] = c.in_ok-push.ensures.items ∙ (λ j. c.new-turns.ensures.items j ++ c.new.ensures j ∷ []) in
    let high : c.len-height.result ≡ length c.args.bound.now.items = omega (arith, c.len-height.ensures, c.args.bound.now.ok.0) in
    record {
      kept = turn.take-whole c.len-height.result c.args.bound.now.items (omega (arith, high));
      held = c.requires.slots;
      grown = slots.grows_same c.args.slots.now;
      room = omega (arith, high, ap length pushed);
      fewer = omega (arith, ap length pushed, c.requires.inside);
      goes = (λ j. after c.args.binder (c.new-out.ensures j) (to_come c.args.binder (tree_nodes c.args.dynamic.now.doc.now)
          (operands_of c.args.dynamic.now.names.now c.args.inside.now)
          (level c.args.dynamic.now c.args.focus.now c.args.bound.now.items c.len-height.result) (reverse (pushed j))))
          ∙ turn.begins c.args.binder c.args.dynamic.now c.args.focus.now c.len-height.result c.args.inside.now c.args.bound.now.items c.args.items high;
      bound = c.requires.ready.inside;
      turns = all_within-along (count c.args.dynamic.now) _ _ pushed (c.requires.items, tt);
      within = within-along (count c.args.dynamic.now) _ _ c.new-out.ensures tt;
    }

pub take_turns-part_at-part-requires : goal.take_turns-part_at-part-requires
take_turns-part_at-part-requires g t c = omega (
  arith,
  turn.fewer-advanced c.len-height.result c.turns.bound.items c.advance.new.bound.items
      c.turns.turns.items c.advance.new.turns.items c.in_ok-advance.field-0 c.in_ok-advance.ensures.advances c.if-branch.true,
  c.turns.invariant.fewer,
  c.len-k.ensures,
  c.advance.new.turns.ok.0,
)

pub take_turns-evaluate-requires : goal.take_turns-evaluate-requires
take_turns-evaluate-requires g t c κs within =
    let rest = dropped-no_deeper (c.len-k.result - 1) c.args.inside.now in
    let first = first-no_deeper (drop (c.len-k.result - 1) c.args.inside.now) (drop (c.len-k.result - 1 + 1) c.args.inside.now)
    c.part_at-part.result.now c.part_at-part.ensures in (
      omega (arith, c.decreases, rest, first),
      (
        search rules,
        (
          record {
            numbered = c.requires.ready.numbered;
            variables = c.requires.ready.variables;
            item = c.requires.ready.item;
            inside =
                c.in_ok-advance.ensures.bound (count c.args.dynamic.now) c.turns.invariant.bound c.turns.invariant.turns;
          },
          (
            slots.placed_first c.args.dynamic.now (drop (c.len-k.result - 1) c.args.inside.now) (drop (c.len-k.result - 1 + 1) c.args.inside.now)
                c.part_at-part.result.now c.part_at-part.ensures
                (slots.placed_dropped c.args.dynamic.now (c.len-k.result - 1) c.args.inside.now c.requires.placed),
            c.turns.invariant.held,
          ),
        ),
      ),
    )

pub take_turns-returns-in-Err-clause-value : goal.take_turns-returns-in-Err-clause-value
take_turns-returns-in-Err-clause-value g t c =
    let s = turn.is-turn c.len-height.result c.args.inside.now c.turns.bound.items c.evaluate.new.bound.items c.advance.new.bound.items
    c.turns.turns.items c.advance.new.turns.items c.part_at-part.result.now c.in_ok-advance.field-0 (c.len-k.result - 1)
    c.in_ok-advance.ensures.advances c.if-branch.true c.evaluate.ensures.kept
    (omega (
      arith,
      turn.fewer-advanced c.len-height.result c.turns.bound.items c.advance.new.bound.items c.turns.turns.items
          c.advance.new.turns.items c.in_ok-advance.field-0 c.in_ok-advance.ensures.advances c.if-branch.true,
      c.len-k.ensures,
      c.advance.new.turns.ok.0,
    )) c.part_at-part.ensures in
    turn.turn-fault c.args.binder c.args.dynamic.now c.args.focus.now c.len-height.result c.args.inside.now c.turns.bound.items
    c.evaluate.new.bound.items c.turns.turns.items c.advance.new.turns.items c.part_at-part.result.now s c.turns.out _ c.in-Err.fault
    c.turns.invariant.goes (subst (λ bound. Gives {X = List Item} (Err c.in-Err.fault)
    (value_in c.args.dynamic.now (seen c.args.dynamic.now.names.now c.part_at-part.result.now.1) c.args.focus.now bound))
    (sym c.evaluate.ensures.kept) c.in-Err.ensures.value)

pub take_turns-returns-in-Err-take_turn-clause-value : goal.take_turns-returns-in-Err-take_turn-clause-value
take_turns-returns-in-Err-take_turn-clause-value g t c =
    let s = turn.is-turn c.len-height.result c.args.inside.now c.turns.bound.items c.evaluate.new.bound.items c.advance.new.bound.items
    c.turns.turns.items c.advance.new.turns.items c.part_at-part.result.now c.in_ok-advance.field-0 (c.len-k.result - 1)
    c.in_ok-advance.ensures.advances c.if-branch.true c.evaluate.ensures.kept
    (omega (
      arith,
      turn.fewer-advanced c.len-height.result c.turns.bound.items c.advance.new.bound.items c.turns.turns.items
          c.advance.new.turns.items c.in_ok-advance.field-0 c.in_ok-advance.ensures.advances c.if-branch.true,
      c.len-k.ensures,
      c.advance.new.turns.ok.0,
    )) c.part_at-part.ensures in
    turn.taken-fault c.args.binder c.args.dynamic.now c.args.focus.now c.len-height.result c.args.inside.now c.turns.bound.items
    c.evaluate.new.bound.items c.turns.turns.items c.advance.new.turns.items c.part_at-part.result.now s c.in-Ok.found
    (ap (value_in c.args.dynamic.now (seen c.args.dynamic.now.names.now c.part_at-part.result.now.1) c.args.focus.now) c.evaluate.ensures.kept
    ∙ c.in-Ok.ensures.value) (omega (arith, c.if-len-inside.true, c.len.ensures, c.advance.new.turns.ok.0)) c.turns.out c.take_turn.new.out _
    c.in-Err-take_turn.fault c.turns.invariant.goes c.in-Err-take_turn.ensures.takes

pub take_turns-returns-in-Ok-true-clause-value : goal.take_turns-returns-in-Ok-true-clause-value
take_turns-returns-in-Ok-true-clause-value g t c =
    let s = turn.is-turn c.len-height.result c.args.inside.now c.turns.bound.items c.evaluate.new.bound.items c.advance.new.bound.items
    c.turns.turns.items c.advance.new.turns.items c.part_at-part.result.now c.in_ok-advance.field-0 (c.len-k.result - 1)
    c.in_ok-advance.ensures.advances c.if-branch.true c.evaluate.ensures.kept
    (omega (
      arith,
      turn.fewer-advanced c.len-height.result c.turns.bound.items c.advance.new.bound.items c.turns.turns.items
          c.advance.new.turns.items c.in_ok-advance.field-0 c.in_ok-advance.ensures.advances c.if-branch.true,
      c.len-k.ensures,
      c.advance.new.turns.ok.0,
    )) c.part_at-part.ensures in
    gives-along c.decided.result _ _ (sym (turn.taken-decided c.args.binder c.args.dynamic.now c.args.focus.now c.len-height.result c.args.inside.now
    c.turns.bound.items c.evaluate.new.bound.items c.turns.turns.items c.advance.new.turns.items c.part_at-part.result.now s c.in-Ok.found
    (ap (value_in c.args.dynamic.now (seen c.args.dynamic.now.names.now c.part_at-part.result.now.1) c.args.focus.now) c.evaluate.ensures.kept
    ∙ c.in-Ok.ensures.value) (omega (arith, c.if-len-inside.true, c.len.ensures, c.advance.new.turns.ok.0)) c.turns.out c.take_turn.new.out
    (subst (λ b. Takes c.args.binder c.turns.out c.in-Ok.found (Ok b) c.take_turn.new.out) c.in-Ok-true.field-0-test c.in-Ok-true.ensures.takes))
    ∙ c.turns.invariant.goes) c.decided.ensures

pub take_turns-turns-smaller-in-Ok-false : goal.take_turns-turns-smaller-in-Ok-false
take_turns-turns-smaller-in-Ok-false g t c =
    let s = turn.is-turn c.len-height.result c.args.inside.now c.turns.bound.items c.evaluate.new.bound.items c.advance.new.bound.items
    c.turns.turns.items c.advance.new.turns.items c.part_at-part.result.now c.in_ok-advance.field-0 (c.len-k.result - 1)
    c.in_ok-advance.ensures.advances c.if-branch.true c.evaluate.ensures.kept
    (omega (
      arith,
      turn.fewer-advanced c.len-height.result c.turns.bound.items c.advance.new.bound.items c.turns.turns.items
          c.advance.new.turns.items c.in_ok-advance.field-0 c.in_ok-advance.ensures.advances c.if-branch.true,
      c.len-k.ensures,
      c.advance.new.turns.ok.0,
    )) c.part_at-part.ensures in
    turn.fewer c.args.binder c.args.dynamic.now c.args.focus.now c.len-height.result c.args.inside.now c.turns.bound.items c.evaluate.new.bound.items
    c.turns.turns.items c.advance.new.turns.items c.part_at-part.result.now s c.in-Ok.found
    (ap (value_in c.args.dynamic.now (seen c.args.dynamic.now.names.now c.part_at-part.result.now.1) c.args.focus.now) c.evaluate.ensures.kept
    ∙ c.in-Ok.ensures.value)

pub take_turns-turns-preserved-in-Ok-false : goal.take_turns-turns-preserved-in-Ok-false
take_turns-turns-preserved-in-Ok-false g t c =
    let s = turn.is-turn c.len-height.result c.args.inside.now c.turns.bound.items c.evaluate.new.bound.items c.advance.new.bound.items
    c.turns.turns.items c.advance.new.turns.items c.part_at-part.result.now c.in_ok-advance.field-0 (c.len-k.result - 1)
    c.in_ok-advance.ensures.advances c.if-branch.true c.evaluate.ensures.kept
    (omega (
      arith,
      turn.fewer-advanced c.len-height.result c.turns.bound.items c.advance.new.bound.items c.turns.turns.items
          c.advance.new.turns.items c.in_ok-advance.field-0 c.in_ok-advance.ensures.advances c.if-branch.true,
      c.len-k.ensures,
      c.advance.new.turns.ok.0,
    )) c.part_at-part.ensures in
    record {
      kept = turn.around-kept c.args.binder c.args.dynamic.now c.args.focus.now c.len-height.result c.args.inside.now c.turns.bound.items
          c.evaluate.new.bound.items c.turns.turns.items c.advance.new.turns.items c.part_at-part.result.now s ∙ c.turns.invariant.kept;
      held = c.evaluate.ensures.held;
      grown = slots.grows_more _ _ _ c.turns.invariant.grown c.evaluate.ensures.grown;
      room = omega (
        arith,
        turn.high-now c.args.binder c.args.dynamic.now c.args.focus.now c.len-height.result c.args.inside.now c.turns.bound.items
            c.evaluate.new.bound.items c.turns.turns.items c.advance.new.turns.items c.part_at-part.result.now s,
      );
      fewer = omega (
        arith,
        turn.fewer-advanced c.len-height.result c.turns.bound.items c.advance.new.bound.items c.turns.turns.items
            c.advance.new.turns.items c.in_ok-advance.field-0 c.in_ok-advance.ensures.advances c.if-branch.true,
        c.turns.invariant.fewer,
      );
      goes = turn.taken-more c.args.binder c.args.dynamic.now c.args.focus.now c.len-height.result c.args.inside.now c.turns.bound.items
          c.evaluate.new.bound.items c.turns.turns.items c.advance.new.turns.items c.part_at-part.result.now s c.in-Ok.found
          (ap (value_in c.args.dynamic.now (seen c.args.dynamic.now.names.now c.part_at-part.result.now.1) c.args.focus.now) c.evaluate.ensures.kept
          ∙ c.in-Ok.ensures.value) (omega (arith, c.if-len-inside.true, c.len.ensures, c.advance.new.turns.ok.0)) c.turns.out c.take_turn.new.out
          (subst (λ b. Takes c.args.binder c.turns.out c.in-Ok.found (Ok b) c.take_turn.new.out) c.in-Ok-false.field-0-test
          c.in-Ok-false.ensures.takes) ∙ c.turns.invariant.goes;
      bound = within-along (count c.args.dynamic.now) _ _ c.evaluate.ensures.kept
          (c.in_ok-advance.ensures.bound (count c.args.dynamic.now) c.turns.invariant.bound c.turns.invariant.turns);
      turns = c.in_ok-advance.ensures.turns (count c.args.dynamic.now) c.turns.invariant.turns;
      within = c.in-Ok-false.ensures.within (count c.args.dynamic.now) c.turns.invariant.within c.in-Ok.ensures.within;
    }

pub take_turns-turns-smaller : goal.take_turns-turns-smaller
take_turns-turns-smaller g t c =
    let s = turn.is-turn c.len-height.result c.args.inside.now c.turns.bound.items c.evaluate.new.bound.items c.advance.new.bound.items
    c.turns.turns.items c.advance.new.turns.items c.part_at-part.result.now c.in_ok-advance.field-0 (c.len-k.result - 1)
    c.in_ok-advance.ensures.advances c.if-branch.true c.evaluate.ensures.kept
    (omega (
      arith,
      turn.fewer-advanced c.len-height.result c.turns.bound.items c.advance.new.bound.items c.turns.turns.items
          c.advance.new.turns.items c.in_ok-advance.field-0 c.in_ok-advance.ensures.advances c.if-branch.true,
      c.len-k.ensures,
      c.advance.new.turns.ok.0,
    )) c.part_at-part.ensures in
    turn.fewer-pushed c.args.binder c.args.dynamic.now c.args.focus.now c.len-height.result c.args.inside.now c.turns.bound.items
    c.evaluate.new.bound.items c.turns.turns.items c.advance.new.turns.items c.part_at-part.result.now s c.in-Ok.found
    (ap (value_in c.args.dynamic.now (seen c.args.dynamic.now.names.now c.part_at-part.result.now.1) c.args.focus.now) c.evaluate.ensures.kept
    ∙ c.in-Ok.ensures.value) (omega (
      arith,
      c.if-len-inside.false,
      c.len.ensures,
      c.advance.new.turns.ok.0,
      c.turns.invariant.fewer,
      turn.fewer-advanced c.len-height.result c.turns.bound.items c.advance.new.bound.items c.turns.turns.items c.advance.new.turns.items
          c.in_ok-advance.field-0 c.in_ok-advance.ensures.advances c.if-branch.true,
    )) c.push-else-len-inside.new.self.items
    (c.in_ok-push-in-Ok.ensures.items ∙ (λ j. c.advance.new.turns.items ++ c.new-else-len-inside.ensures j ∷ []))

pub take_turns-turns-preserved : goal.take_turns-turns-preserved
take_turns-turns-preserved g t c =
    let s = turn.is-turn c.len-height.result c.args.inside.now c.turns.bound.items c.evaluate.new.bound.items c.advance.new.bound.items
    c.turns.turns.items c.advance.new.turns.items c.part_at-part.result.now c.in_ok-advance.field-0 (c.len-k.result - 1)
    c.in_ok-advance.ensures.advances c.if-branch.true c.evaluate.ensures.kept
    (omega (
      arith,
      turn.fewer-advanced c.len-height.result c.turns.bound.items c.advance.new.bound.items c.turns.turns.items
          c.advance.new.turns.items c.in_ok-advance.field-0 c.in_ok-advance.ensures.advances c.if-branch.true,
      c.len-k.ensures,
      c.advance.new.turns.ok.0,
    )) c.part_at-part.ensures in
    let pushed : c.push-else-len-inside.new.self.items ≡ c.advance.new.turns.items ++ c.in-Ok.found ∷ [] =
    (c.in_ok-push-in-Ok.ensures.items ∙ (λ j. c.advance.new.turns.items ++ c.new-else-len-inside.ensures j ∷ [])) in
    record {
      kept = turn.around-kept c.args.binder c.args.dynamic.now c.args.focus.now c.len-height.result c.args.inside.now c.turns.bound.items
          c.evaluate.new.bound.items c.turns.turns.items c.advance.new.turns.items c.part_at-part.result.now s ∙ c.turns.invariant.kept;
      held = c.evaluate.ensures.held;
      grown = slots.grows_more _ _ _ c.turns.invariant.grown c.evaluate.ensures.grown;
      room = omega (
        arith,
        turn.high-now c.args.binder c.args.dynamic.now c.args.focus.now c.len-height.result c.args.inside.now c.turns.bound.items
            c.evaluate.new.bound.items c.turns.turns.items c.advance.new.turns.items c.part_at-part.result.now s,
        ap length pushed
            ∙ turn.length-push c.advance.new.turns.items c.in-Ok.found,
      );
      fewer = omega (
        arith,
        ap length pushed ∙ turn.length-push c.advance.new.turns.items c.in-Ok.found,
        c.if-len-inside.false,
        c.len.ensures,
        c.advance.new.turns.ok.0,
        c.turns.invariant.fewer,
        turn.fewer-advanced c.len-height.result c.turns.bound.items c.advance.new.bound.items
            c.turns.turns.items c.advance.new.turns.items c.in_ok-advance.field-0 c.in_ok-advance.ensures.advances c.if-branch.true,
      );
      goes = turn.pushed-more c.args.binder c.args.dynamic.now c.args.focus.now c.len-height.result c.args.inside.now c.turns.bound.items
          c.evaluate.new.bound.items c.turns.turns.items c.advance.new.turns.items c.part_at-part.result.now s c.in-Ok.found
          (ap (value_in c.args.dynamic.now (seen c.args.dynamic.now.names.now c.part_at-part.result.now.1) c.args.focus.now) c.evaluate.ensures.kept
          ∙ c.in-Ok.ensures.value) (omega (
            arith,
            c.if-len-inside.false,
            c.len.ensures,
            c.advance.new.turns.ok.0,
            c.turns.invariant.fewer,
            turn.fewer-advanced c.len-height.result c.turns.bound.items c.advance.new.bound.items c.turns.turns.items c.advance.new.turns.items
                c.in_ok-advance.field-0 c.in_ok-advance.ensures.advances c.if-branch.true,
          )) c.push-else-len-inside.new.self.items pushed c.turns.out
          ∙ c.turns.invariant.goes;
      bound = within-along (count c.args.dynamic.now) _ _ c.evaluate.ensures.kept
          (c.in_ok-advance.ensures.bound (count c.args.dynamic.now) c.turns.invariant.bound c.turns.invariant.turns);
      turns = all_within-along (count c.args.dynamic.now) _ _ pushed
          (all_within-append (count c.args.dynamic.now) _ _ (c.in_ok-advance.ensures.turns (count c.args.dynamic.now) c.turns.invariant.turns)
          (c.in-Ok.ensures.within, tt));
      within = c.turns.invariant.within;
    }

pub take_turns-returns-clause-value : goal.take_turns-returns-clause-value
take_turns-returns-clause-value g t c = gives-along c.ended.result _ _
    (sym (turn.ends c.args.binder c.args.dynamic.now c.args.focus.now c.len-height.result c.args.inside.now c.turns.bound.items c.turns.turns.items c.turns.out
    (turn.none-advanced c.len-height.result c.turns.bound.items c.advance.new.bound.items c.turns.turns.items c.advance.new.turns.items
    c.in_ok-advance.field-0 c.in_ok-advance.ensures.advances c.if-branch.false)) ∙ c.turns.invariant.goes)
    c.ended.ensures

pub evaluate-returns-in-Simple-clause-grown : goal.evaluate-returns-in-Simple-clause-grown
evaluate-returns-in-Simple-clause-grown g t c = slots.grows_same c.args.slots.now

pub evaluate-by_kind-requires : goal.evaluate-by_kind-requires
evaluate-by_kind-requires g t c κs within = (
  omega (arith, c.decreases, deeper c.args.work.now c.in-Node.kind c.in-Node.parts c.in-Node.is, ap deepest c.as_slice-in-Node.ensures),
  (
    search rules,
    (
      c.requires.ready,
      (
        slots.placed_node c.args.dynamic.now c.args.work.now c.in-Node.kind c.in-Node.parts _ c.in-Node.is
            c.as_slice-in-Node.ensures c.requires.placed,
        c.requires.slots,
      ),
    ),
  ),
)

pub once-returns-in_default-clause-grown : goal.once-returns-in_default-clause-grown
once-returns-in_default-clause-grown g t c = slots.grows_same c.args.slots.now

pub once-evaluate-requires : goal.once-evaluate-requires
once-evaluate-requires g t c κs within = (
  omega (arith, c.decreases, c.in-Some.ensures.deeper),
  (
    search rules,
    (
      c.requires.ready,
      (
        c.in-Some.ensures.placed c.args.dynamic.now
            (slots.placed_parts c.args.dynamic.now _ c.args.parts.now c.requires.placed),
        c.requires.slots,
      ),
    ),
  ),
)

pub once-evaluate-found-requires : goal.once-evaluate-found-requires
once-evaluate-found-requires g t c κs within = (
  omega (arith, c.decreases, c.in-Some.ensures.deeper),
  (
    search rules,
    (
      c.requires.ready,
      (
        c.in-Some.ensures.placed c.args.dynamic.now
            (slots.placed_parts c.args.dynamic.now _ c.args.parts.now c.requires.placed),
        c.requires.slots,
      ),
    ),
  ),
)

pub once-returns-in_ok-fill-in-None-clause-within : goal.once-returns-in_ok-fill-in-None-clause-within
once-returns-in_ok-fill-in-None-clause-within g t c =
    let unused = c.in_ok-kept-in-None.ensures _ (known.value-along c.evaluate-found.result c.args.dynamic.now c.args.focus.now c.args.bound.now.items _
    _ (sym (c.in-Some.ensures.some c.args.dynamic.now.names.now)) c.evaluate-found.ensures.value) in
    let within : ValueWithin (count c.args.dynamic.now) (value c.in_ok-kept-in-None.kept) =
    subst (λ r. IfOk r (λ outcome. ValueWithin (count c.args.dynamic.now) (value outcome))) c.in_ok-kept-in-None.was
    (outcome-within (count c.args.dynamic.now) c.evaluate-found.result c.outcome.result c.outcome.ensures c.evaluate-found.ensures.within) in
    gives-within (count c.args.dynamic.now) c.value_of.result (value c.in_ok-fill-in-None.field-0) c.value_of.ensures
    (subst (ValueWithin (count c.args.dynamic.now)) (sym c.in_ok-fill-in-None.ensures.value) within)

pub once-returns-in_ok-fill-in-None-clause-value : goal.once-returns-in_ok-fill-in-None-clause-value
once-returns-in_ok-fill-in-None-clause-value g t c =
    let found = c.in_ok-kept-in-None.ensures _ (known.value-along c.evaluate-found.result c.args.dynamic.now c.args.focus.now c.args.bound.now.items _
    _ (sym (c.in-Some.ensures.some c.args.dynamic.now.names.now)) c.evaluate-found.ensures.value) in
    let within : ValueWithin (count c.args.dynamic.now) (value c.in_ok-kept-in-None.kept) =
    subst (λ r. IfOk r (λ outcome. ValueWithin (count c.args.dynamic.now) (value outcome))) c.in_ok-kept-in-None.was
    (outcome-within (count c.args.dynamic.now) c.evaluate-found.result c.outcome.result c.outcome.ensures c.evaluate-found.ensures.within) in
    gives-along c.value_of.result _ _ (c.in_ok-fill-in-None.ensures.value ∙ found) c.value_of.ensures

pub once-returns-in_ok-fill-in-None-clause-held : goal.once-returns-in_ok-fill-in-None-clause-held
once-returns-in_ok-fill-in-None-clause-held g t c =
    let found = c.in_ok-kept-in-None.ensures _ (known.value-along c.evaluate-found.result c.args.dynamic.now c.args.focus.now c.args.bound.now.items _
    _ (sym (c.in-Some.ensures.some c.args.dynamic.now.names.now)) c.evaluate-found.ensures.value) in
    let within : ValueWithin (count c.args.dynamic.now) (value c.in_ok-kept-in-None.kept) =
    subst (λ r. IfOk r (λ outcome. ValueWithin (count c.args.dynamic.now) (value outcome))) c.in_ok-kept-in-None.was
    (outcome-within (count c.args.dynamic.now) c.evaluate-found.result c.outcome.result c.outcome.ensures c.evaluate-found.ensures.within) in
    slots.held_now c.args.dynamic.now c.evaluate-found.new.slots c.fill.new.self c.args.slot c.args.height c.args.parts.now c.args.focus.now
    c.args.bound.now.items (value c.in_ok-kept-in-None.kept)
    c.requires.placed c.evaluate-found.ensures.held (sym c.is_node.ensures ∙ c.if-not-is_node.false)
    (omega (arith, c.len.ensures, c.if-len-height.false, c.args.bound.now.ok.0))
    found within c.in_ok-fill-in-None.ensures.filled

pub once-returns-in_ok-fill-in-None-clause-grown : goal.once-returns-in_ok-fill-in-None-clause-grown
once-returns-in_ok-fill-in-None-clause-grown g t c =
    let found = c.in_ok-kept-in-None.ensures _ (known.value-along c.evaluate-found.result c.args.dynamic.now c.args.focus.now c.args.bound.now.items _
    _ (sym (c.in-Some.ensures.some c.args.dynamic.now.names.now)) c.evaluate-found.ensures.value) in
    let within : ValueWithin (count c.args.dynamic.now) (value c.in_ok-kept-in-None.kept) =
    subst (λ r. IfOk r (λ outcome. ValueWithin (count c.args.dynamic.now) (value outcome))) c.in_ok-kept-in-None.was
    (outcome-within (count c.args.dynamic.now) c.evaluate-found.result c.outcome.result c.outcome.ensures c.evaluate-found.ensures.within) in
    slots.grows_more _ _ _ c.evaluate-found.ensures.grown (slots.grows_now c.args.dynamic.now c.evaluate-found.new.slots c.fill.new.self c.args.slot
    c.args.height c.args.parts.now c.args.focus.now c.args.bound.now.items (value c.in_ok-kept-in-None.kept)
    c.requires.placed c.evaluate-found.ensures.held (sym c.is_node.ensures ∙ c.if-not-is_node.false)
    (omega (arith, c.len.ensures, c.if-len-height.false, c.args.bound.now.ok.0))
    found within c.in_ok-fill-in-None.ensures.filled)

pub once-returns-in-Some-lent-clause-grown : goal.once-returns-in-Some-lent-clause-grown
once-returns-in-Some-lent-clause-grown g t c = slots.grows_same c.args.slots.now

pub values_of-parts-init : goal.values_of-parts-init
values_of-parts-init g t c = record {
  kept = refl;
  held = c.requires.slots;
  grown = slots.grows_same c.args.slots.now;
  goes =
      loop.begun _ _ c.new-values.ensures;
  within = subst (AllWithin (count c.args.dynamic.now)) (sym c.new-values.ensures) tt;
}

pub values_of-parts-preserved : goal.values_of-parts-preserved
values_of-parts-preserved g t c = record {
  kept = c.evaluate.ensures.kept ∙ c.parts.invariant.kept;
  held = c.evaluate.ensures.held;
  grown = slots.grows_more _ _ _ c.parts.invariant.grown c.evaluate.ensures.grown;
  goes = loop.argument-ok (tree_nodes c.args.dynamic.now.doc.now) c.args.dynamic.now.names.now
      (context c.args.dynamic.now c.args.focus.now c.args.bound.now.items) c.args.parts.now c.parts.part-index c.part-item.result c.parts-test.true
      c.part-item.is c.parts.values c.push.new.self c.in-Ok.value
      (ap (value_in c.args.dynamic.now (seen c.args.dynamic.now.names.now c.part-item.result.1) c.args.focus.now) (sym c.parts.invariant.kept)
      ∙ c.in-Ok.ensures.value) c.in_ok-push-in-Ok.ensures ∙ c.parts.invariant.goes;
  within = all_within-along (count c.args.dynamic.now) _ _ c.in_ok-push-in-Ok.ensures
      (all_within-append (count c.args.dynamic.now) _ _ c.parts.invariant.within (c.in-Ok.ensures.within, tt));
}

pub values_of-evaluate-requires : goal.values_of-evaluate-requires
values_of-evaluate-requires g t c κs within = (
  omega (arith, c.decreases, no_deeper c.args.parts.now c.parts.part-index c.part-item.result c.parts-test.true c.part-item.is),
  (
    search rules,
    (
      known.ready-along _ _ _ _ c.parts.invariant.kept c.requires.ready,
      (
        slots.placed_at c.args.dynamic.now c.args.parts.now c.parts.part-index c.part-item.result c.parts-test.true c.part-item.is c.requires.placed,
        c.parts.invariant.held,
      ),
    ),
  ),
)

pub values_of-returns-in_err-push-in-Ok-clause-grown : goal.values_of-returns-in_err-push-in-Ok-clause-grown
values_of-returns-in_err-push-in-Ok-clause-grown g t c = slots.grows_more _ _ _ c.parts.invariant.grown c.evaluate.ensures.grown

pub values_of-returns-in-Err-clause-grown : goal.values_of-returns-in-Err-clause-grown
values_of-returns-in-Err-clause-grown g t c = slots.grows_more _ _ _ c.parts.invariant.grown c.evaluate.ensures.grown

pub along_axis-filter-requires : goal.along_axis-filter-requires
along_axis-filter-requires g t c κs within = (
  omega (arith, c.decreases, deeper c.args.work.now c.in-Node.kind c.in-Node.parts c.in-Node.is, ap deepest c.as_slice-then-is_filtered_step.ensures),
  (
    search rules,
    (
      c.requires.ready,
      (
        slots.placed_parts c.args.dynamic.now c.in-Node.kind c.as_slice-then-is_filtered_step.result.now
            (slots.placed_node c.args.dynamic.now c.args.work.now c.in-Node.kind c.in-Node.parts c.as_slice-then-is_filtered_step.result.now
            c.in-Node.is c.as_slice-then-is_filtered_step.ensures c.requires.placed),
        c.requires.slots,
      ),
    ),
  ),
)

pub along_axis-by_kind-requires : goal.along_axis-by_kind-requires
along_axis-by_kind-requires g t c κs within = (
  omega (arith, c.decreases, deeper c.args.work.now c.in-Node.kind c.in-Node.parts c.in-Node.is, ap deepest c.as_slice-in-None.ensures),
  (
    search rules,
    (
      c.requires.ready,
      (
        slots.placed_node c.args.dynamic.now c.args.work.now c.in-Node.kind c.in-Node.parts c.as_slice-in-None.result.now c.in-Node.is
            c.as_slice-in-None.ensures c.requires.placed,
        c.requires.slots,
      ),
    ),
  ),
)

pub along_axis-returns-in-Simple-clause-grown : goal.along_axis-returns-in-Simple-clause-grown
along_axis-returns-in-Simple-clause-grown g t c = slots.grows_same c.args.slots.now

pub bind-returns-in_default-clause-grown : goal.bind-returns-in_default-clause-grown
bind-returns-in_default-clause-grown g t c = slots.grows_same c.args.slots.now

pub bind-evaluate-requires : goal.bind-evaluate-requires
bind-evaluate-requires g t c κs within = (
  omega (arith, c.decreases, first-no_deeper c.args.parts.now c.in-Some.inside.now c.in-Some.first.now c.in-Some.ensures.cases.0),
  (
    search rules,
    (
      c.requires.ready,
      (
        slots.placed_first c.args.dynamic.now c.args.parts.now c.in-Some.inside.now c.in-Some.first.now c.in-Some.ensures.cases.0 c.requires.placed,
        c.requires.slots,
      ),
    ),
  ),
)

pub bind-take_turns-found-requires : goal.bind-take_turns-found-requires
bind-take_turns-found-requires g t c κs within = (
  omega (arith, c.decreases, first-no_deeper c.args.parts.now c.in-Some.inside.now c.in-Some.first.now c.in-Some.ensures.cases.0),
  (
    search rules,
    (
      known.ready-along _ _ _ _ c.evaluate.ensures.kept c.requires.ready,
      (
        c.in_ok-items.ensures.within,
        (
          search rules,
          (
            slots.placed_others c.args.dynamic.now c.args.parts.now c.in-Some.inside.now c.in-Some.first.now
                c.in-Some.ensures.cases.0 c.requires.placed,
            c.evaluate.ensures.held,
          ),
        ),
      ),
    ),
  ),
)

pub bind-returns-clause-grown : goal.bind-returns-clause-grown
bind-returns-clause-grown g t c = slots.grows_more _ _ _ c.evaluate.ensures.grown c.take_turns-found.ensures.grown

pub by_kind-chain-requires : goal.by_kind-chain-requires
by_kind-chain-requires g t c κs within = (
  omega (arith, c.decreases),
  (
    search rules,
    (
      c.requires.ready,
      (slots.placed_parts c.args.dynamic.now c.args.kind.now c.args.parts.now c.requires.placed, c.requires.slots),
    ),
  ),
)

pub by_kind-bind-requires : goal.by_kind-bind-requires
by_kind-bind-requires g t c κs within = (
  omega (arith, c.decreases),
  (
    search rules,
    (
      c.requires.ready,
      (slots.placed_parts c.args.dynamic.now c.args.kind.now c.args.parts.now c.requires.placed, c.requires.slots),
    ),
  ),
)

pub by_kind-choose-requires : goal.by_kind-choose-requires
by_kind-choose-requires g t c κs within = (
  omega (arith, c.decreases),
  (
    search rules,
    (
      c.requires.ready,
      (slots.placed_parts c.args.dynamic.now c.args.kind.now c.args.parts.now c.requires.placed, c.requires.slots),
    ),
  ),
)

pub by_kind-filter-requires : goal.by_kind-filter-requires
by_kind-filter-requires g t c κs within = (
  omega (arith, c.decreases),
  (
    search rules,
    (
      c.requires.ready,
      (slots.placed_parts c.args.dynamic.now c.args.kind.now c.args.parts.now c.requires.placed, c.requires.slots),
    ),
  ),
)

pub by_kind-filter-requires-in-FilteredStep : goal.by_kind-filter-requires-in-FilteredStep
by_kind-filter-requires-in-FilteredStep g t c κs within = (
  omega (arith, c.decreases),
  (
    search rules,
    (
      c.requires.ready,
      (slots.placed_parts c.args.dynamic.now c.args.kind.now c.args.parts.now c.requires.placed, c.requires.slots),
    ),
  ),
)

pub chain-returns-in_default-clause-grown : goal.chain-returns-in_default-clause-grown
chain-returns-in_default-clause-grown g t c = slots.grows_same c.args.slots.now

pub chain-returns-in_err-outcome-clause-grown : goal.chain-returns-in_err-outcome-clause-grown
chain-returns-in_err-outcome-clause-grown g t c = slots.grows_same c.args.slots.now

pub chain-evaluate-found-requires : goal.chain-evaluate-found-requires
chain-evaluate-found-requires g t c κs within = (
  omega (arith, c.decreases, first-no_deeper c.args.parts.now c.in-Some.others.now c.in-Some.first.now c.in-Some.ensures.cases.0),
  (
    search rules,
    (
      c.requires.ready,
      (
        slots.placed_first c.args.dynamic.now c.args.parts.now c.in-Some.others.now c.in-Some.first.now c.in-Some.ensures.cases.0 c.requires.placed,
        c.requires.slots,
      ),
    ),
  ),
)

pub chain-returns-in_ok-outcome-2-clause-grown : goal.chain-returns-in_ok-outcome-2-clause-grown
chain-returns-in_ok-outcome-2-clause-grown g t c = slots.grows_more _ _ _ c.evaluate-found.ensures.grown c.links_on-else-is_operator.ensures.grown

pub choose-evaluate-requires : goal.choose-evaluate-requires
choose-evaluate-requires g t c κs within = (
  omega (arith, c.decreases, there-no_deeper c.args.parts.now 0 c.index-parts-0.result (omega (arith, c.in-len3.len_at_least)) c.index-parts-0.is),
  (
    search rules,
    (
      c.requires.ready,
      (
        (search (
          rules,
          slots.placed_there c.args.dynamic.now c.args.parts.now 0 c.index-parts-0.result (omega (arith, c.in-len3.len_at_least))
              c.index-parts-0.is c.requires.placed,
        )),
        c.requires.slots,
      ),
    ),
  ),
)

pub choose-evaluate-requires-then-holds : goal.choose-evaluate-requires-then-holds
choose-evaluate-requires-then-holds g t c κs within = (
  omega (arith, c.decreases, there-no_deeper c.args.parts.now 1 c.index-parts-1.result (omega (arith, c.in-len3.len_at_least)) c.index-parts-1.is),
  (
    search rules,
    (
      known.ready-along _ _ _ _ c.evaluate.ensures.kept c.requires.ready,
      (
        (search (
          rules,
          slots.placed_there c.args.dynamic.now c.args.parts.now 1 c.index-parts-1.result (omega (arith, c.in-len3.len_at_least))
              c.index-parts-1.is c.requires.placed,
        )),
        c.evaluate.ensures.held,
      ),
    ),
  ),
)

pub choose-evaluate-requires-else-holds : goal.choose-evaluate-requires-else-holds
choose-evaluate-requires-else-holds g t c κs within = (
  omega (arith, c.decreases, there-no_deeper c.args.parts.now 2 c.index-parts-2.result (omega (arith, c.in-len3.len_at_least)) c.index-parts-2.is),
  (
    search rules,
    (
      known.ready-along _ _ _ _ c.evaluate.ensures.kept c.requires.ready,
      (
        (search (
          rules,
          slots.placed_there c.args.dynamic.now c.args.parts.now 2 c.index-parts-2.result (omega (arith, c.in-len3.len_at_least))
              c.index-parts-2.is c.requires.placed,
        )),
        c.evaluate.ensures.held,
      ),
    ),
  ),
)

pub choose-returns-then-holds-clause-grown : goal.choose-returns-then-holds-clause-grown
choose-returns-then-holds-clause-grown g t c = slots.grows_more _ _ _ c.evaluate.ensures.grown c.evaluate-then-holds.ensures.grown

pub choose-returns-in-len3-clause-grown : goal.choose-returns-in-len3-clause-grown
choose-returns-in-len3-clause-grown g t c = slots.grows_more _ _ _ c.evaluate.ensures.grown c.evaluate-else-holds.ensures.grown

pub choose-returns-clause-grown : goal.choose-returns-clause-grown
choose-returns-clause-grown g t c = slots.grows_same c.args.slots.now

pub filter-returns-in_default-clause-grown : goal.filter-returns-in_default-clause-grown
filter-returns-in_default-clause-grown g t c = slots.grows_same c.args.slots.now

pub filter-along_axis-requires : goal.filter-along_axis-requires
filter-along_axis-requires g t c κs within = (
  omega (arith, c.decreases, first-no_deeper c.args.parts.now c.in-Some.predicates.now c.in-Some.first.now c.in-Some.ensures.cases.0),
  (
    search rules,
    (
      c.requires.ready,
      (
        slots.placed_first c.args.dynamic.now c.args.parts.now c.in-Some.predicates.now c.in-Some.first.now c.in-Some.ensures.cases.0 c.requires.placed,
        c.requires.slots,
      ),
    ),
  ),
)

pub filter-evaluate-requires : goal.filter-evaluate-requires
filter-evaluate-requires g t c κs within = (
  omega (arith, c.decreases, first-no_deeper c.args.parts.now c.in-Some.predicates.now c.in-Some.first.now c.in-Some.ensures.cases.0),
  (
    search rules,
    (
      c.requires.ready,
      (
        slots.placed_first c.args.dynamic.now c.args.parts.now c.in-Some.predicates.now c.in-Some.first.now c.in-Some.ensures.cases.0 c.requires.placed,
        c.requires.slots,
      ),
    ),
  ),
)

pub filter-keep_all-requires : goal.filter-keep_all-requires
filter-keep_all-requires g t c κs within = (
  omega (arith, c.decreases, first-no_deeper c.args.parts.now c.in-Some.predicates.now c.in-Some.first.now c.in-Some.ensures.cases.0),
  (
    search rules,
    (
      record {
        numbered = c.requires.ready.numbered;
        variables = c.requires.ready.variables;
        inside =
            within-along _ _ _ c.along_axis.ensures.kept c.requires.ready.inside;
      },
      (
        c.in-Ok.ensures.within,
        (
          slots.placed_others c.args.dynamic.now c.args.parts.now c.in-Some.predicates.now c.in-Some.first.now
              c.in-Some.ensures.cases.0 c.requires.placed,
          c.along_axis.ensures.held,
        ),
      ),
    ),
  ),
)

pub filter-keep_all-requires-in-Ok-evaluate : goal.filter-keep_all-requires-in-Ok-evaluate
filter-keep_all-requires-in-Ok-evaluate g t c κs within = (
  omega (arith, c.decreases, first-no_deeper c.args.parts.now c.in-Some.predicates.now c.in-Some.first.now c.in-Some.ensures.cases.0),
  (
    search rules,
    (
      record {
        numbered = c.requires.ready.numbered;
        variables = c.requires.ready.variables;
        inside =
            within-along _ _ _ c.evaluate.ensures.kept c.requires.ready.inside;
      },
      (
        c.in-Ok-evaluate.ensures.within,
        (
          slots.placed_others c.args.dynamic.now c.args.parts.now c.in-Some.predicates.now c.in-Some.first.now
              c.in-Some.ensures.cases.0 c.requires.placed,
          c.evaluate.ensures.held,
        ),
      ),
    ),
  ),
)

pub filter-returns-in-Ok-clause-grown : goal.filter-returns-in-Ok-clause-grown
filter-returns-in-Ok-clause-grown g t c = slots.grows_more _ _ _ c.along_axis.ensures.grown c.keep_all.ensures.grown

pub filter-returns-in-Ok-evaluate-clause-grown : goal.filter-returns-in-Ok-evaluate-clause-grown
filter-returns-in-Ok-evaluate-clause-grown g t c = slots.grows_more _ _ _ c.evaluate.ensures.grown c.keep_all-in-Ok-evaluate.ensures.grown

pub keep-items-init : goal.keep-items-init
keep-items-init g t c = search (rules, slots.grows_same)

pub keep-returns-in_err-answer-clause-grown : goal.keep-returns-in_err-answer-clause-grown
keep-returns-in_err-answer-clause-grown g t c = slots.grows_more _ _ _ c.items.invariant.grown c.evaluate.ensures.grown

pub keep-returns-in_err-is_kept-clause-grown : goal.keep-returns-in_err-is_kept-clause-grown
keep-returns-in_err-is_kept-clause-grown g t c = slots.grows_more _ _ _ c.items.invariant.grown c.evaluate.ensures.grown

pub keep-returns-in_err-keep_if-clause-grown : goal.keep-returns-in_err-keep_if-clause-grown
keep-returns-in_err-keep_if-clause-grown g t c = slots.grows_more _ _ _ c.items.invariant.grown c.evaluate.ensures.grown

pub keep_all-predicates-init : goal.keep_all-predicates-init
keep_all-predicates-init g t c = record {
  kept = refl;
  held = c.requires.slots;
  grown = slots.grows_same c.args.slots.now;
  goes = refl;
  within =
      c.requires.items;
}

pub keep_all-returns-in-Err-clause-grown : goal.keep_all-returns-in-Err-clause-grown
keep_all-returns-in-Err-clause-grown g t c = slots.grows_more _ _ _ c.predicates.invariant.grown c.keep.ensures.grown

pub link_on-returns-in-Some-clause-grown : goal.link_on-returns-in-Some-clause-grown
link_on-returns-in-Some-clause-grown g t c = slots.grows_same c.args.slots.now

pub link_on-returns-in_err-done-clause-grown : goal.link_on-returns-in_err-done-clause-grown
link_on-returns-in_err-done-clause-grown g t c = slots.grows_same c.args.slots.now

pub link_on-returns-in-Done-clause-grown : goal.link_on-returns-in-Done-clause-grown
link_on-returns-in-Done-clause-grown g t c = slots.grows_same c.args.slots.now

pub links_on-parts-init : goal.links_on-parts-init
links_on-parts-init g t c = record { kept = refl; held = c.requires.slots; grown = slots.grows_same c.args.slots.now; goes = refl; within = c.requires.before }

pub links_on-returns-in_err-so_far-clause-grown : goal.links_on-returns-in_err-so_far-clause-grown
links_on-returns-in_err-so_far-clause-grown g t c = slots.grows_more _ _ _ c.parts.invariant.grown c.link_on.ensures.grown

pub path-returns-in-Some-clause-grown : goal.path-returns-in-Some-clause-grown
path-returns-in-Some-clause-grown g t c = slots.grows_same c.args.slots.now

pub path-returns-clause-grown : goal.path-returns-clause-grown
path-returns-clause-grown g t c = search (rules, slots.grows_same)

pub take_turns-returns-in_err-push-clause-grown : goal.take_turns-returns-in_err-push-clause-grown
take_turns-returns-in_err-push-clause-grown g t c = slots.grows_same c.args.slots.now

pub take_turns-returns-in-Err-clause-grown : goal.take_turns-returns-in-Err-clause-grown
take_turns-returns-in-Err-clause-grown g t c = slots.grows_more _ _ _ c.turns.invariant.grown c.evaluate.ensures.grown

pub take_turns-returns-in-Err-take_turn-clause-grown : goal.take_turns-returns-in-Err-take_turn-clause-grown
take_turns-returns-in-Err-take_turn-clause-grown g t c = slots.grows_more _ _ _ c.turns.invariant.grown c.evaluate.ensures.grown

pub take_turns-returns-in-Ok-true-clause-grown : goal.take_turns-returns-in-Ok-true-clause-grown
take_turns-returns-in-Ok-true-clause-grown g t c = slots.grows_more _ _ _ c.turns.invariant.grown c.evaluate.ensures.grown

pub take_turns-returns-in_err-push-in-Ok-clause-grown : goal.take_turns-returns-in_err-push-in-Ok-clause-grown
take_turns-returns-in_err-push-in-Ok-clause-grown g t c = slots.grows_more _ _ _ c.turns.invariant.grown c.evaluate.ensures.grown

pub turns-items-init : goal.turns-items-init
turns-items-init g t c = search (rules, slots.grows_same)

pub turns-returns-in_err-found-clause-grown : goal.turns-returns-in_err-found-clause-grown
turns-returns-in_err-found-clause-grown g t c = slots.grows_more _ _ _ c.items.invariant.grown c.evaluate.ensures.grown

pub turns-returns-in_err-append_found-clause-grown : goal.turns-returns-in_err-append_found-clause-grown
turns-returns-in_err-append_found-clause-grown g t c = slots.grows_more _ _ _ c.items.invariant.grown c.evaluate.ensures.grown

pub once-returns-in-Some-lent-clause-value : goal.once-returns-in-Some-lent-clause-value
once-returns-in-Some-lent-clause-value g t c = gives-along c.copy_of.result _ _
    (slots.kept_here c.args.dynamic.now c.args.slots.now c.args.slot c.args.height c.args.parts.now c.args.focus.now c.args.bound.now.items
    c.lent.result c.in-Some-lent.found
    c.requires.placed c.requires.slots (sym c.is_node.ensures ∙ c.if-not-is_node.false)
    (omega (arith, c.len.ensures, c.if-len-height.false, c.args.bound.now.ok.0)) c.lent.ensures c.in-Some-lent.is).0 c.copy_of.ensures

pub once-returns-in-Some-lent-clause-within : goal.once-returns-in-Some-lent-clause-within
once-returns-in-Some-lent-clause-within g t c = gives-within (count c.args.dynamic.now) c.copy_of.result (lent_value c.in-Some-lent.found) c.copy_of.ensures
    (slots.kept_here c.args.dynamic.now c.args.slots.now c.args.slot c.args.height c.args.parts.now c.args.focus.now c.args.bound.now.items
    c.lent.result c.in-Some-lent.found
    c.requires.placed c.requires.slots (sym c.is_node.ensures ∙ c.if-not-is_node.false)
    (omega (arith, c.len.ensures, c.if-len-height.false, c.args.bound.now.ok.0)) c.lent.ensures c.in-Some-lent.is).1

pub finish-values_of-requires : goal.finish-values_of-requires
finish-values_of-requires g t c κs within = (
  omega (arith, c.decreases, wanted-no_deeper c.args.kind.now c.args.parts.now, ap deepest c.wanted.ensures),
  (
    search rules,
    (
      known.ready-along _ _ _ _ c.keep_argument.ensures.kept c.requires.ready,
      (
        slots.placed_wanted c.args.dynamic.now c.args.kind.now c.args.parts.now c.wanted.result.now c.wanted.ensures
            c.requires.placed,
        c.keep_argument.ensures.held,
      ),
    ),
  ),
)

pub finish-returns-in_ok-values-in-None-clause-value : goal.finish-returns-in_ok-values-in-None-clause-value
finish-returns-in_ok-values-in-None-clause-value g t c =
    let nodes = tree_nodes c.args.dynamic.now.doc.now in
    let here = context c.args.dynamic.now c.args.focus.now c.args.bound.now.items in
    gives-along c.finished.result _ _
    (sym (strict nodes c.args.dynamic.now.names.now c.args.kind.now c.args.parts.now c.wanted.result.now here c.requires.strict c.wanted.ensures
    ∙ ap (λ v. then_ v (finished nodes c.args.kind.now c.args.focus.now))
    (ap (λ bound. means nodes (arguments_of (operands_of c.args.dynamic.now.names.now c.wanted.result.now))
    (context c.args.dynamic.now c.args.focus.now bound)) (sym c.keep_argument.ensures.kept) ∙ c.in_ok-values-in-None.ensures.value)))
    c.finished.ensures.value

pub by_kind-finish-requires : goal.by_kind-finish-requires
by_kind-finish-requires g t c κs within = (
  omega (arith, c.decreases),
  (
    search rules,
    (
      ⊎_elim (λ x. ap is_strict x.3)
          (⊎_elim (λ x. ap is_strict x.1) (⊎_elim (ap is_strict) (⊎_elim (λ x. ap is_strict x.1) (⊎_elim (λ x. ap is_strict x.1) (ap is_strict)))))
          c.in-Cast.is,
      (c.requires.ready, (c.requires.placed, c.requires.slots)),
    ),
  ),
)

pub finish-told_at_hand-requires-clause-placed : goal.finish-told_at_hand-requires-clause-placed
finish-told_at_hand-requires-clause-placed g t c = slots.placed_parts c.args.dynamic.now c.args.kind.now c.args.parts.now c.requires.placed

pub finish-returns-in-Some-clause-grown : goal.finish-returns-in-Some-clause-grown
finish-returns-in-Some-clause-grown g t c = c.keep_argument.ensures.grown

pub finish-keep_argument-requires : goal.finish-keep_argument-requires
finish-keep_argument-requires g t c κs within = (
  omega (arith, c.decreases),
  (
    search rules,
    (
      c.requires.ready,
      (
        slots.placed_parts c.args.dynamic.now c.args.kind.now c.args.parts.now c.requires.placed,
        c.requires.slots,
      ),
    ),
  ),
)

pub finish-returns-in_err-values-in-None-clause-grown : goal.finish-returns-in_err-values-in-None-clause-grown
finish-returns-in_err-values-in-None-clause-grown g t c = slots.grows_more _ _ _ c.keep_argument.ensures.grown c.values_of.ensures.grown

pub finish-returns-in_ok-values-in-None-clause-grown : goal.finish-returns-in_ok-values-in-None-clause-grown
finish-returns-in_ok-values-in-None-clause-grown g t c = slots.grows_more _ _ _ c.keep_argument.ensures.grown c.values_of.ensures.grown

pub keep_argument-returns-in_ok-outcome-in-Some-clause-held : goal.keep_argument-returns-in_ok-outcome-in-Some-clause-held
keep_argument-returns-in_ok-outcome-in-Some-clause-held g t c =
    slots.held_here c.args.dynamic.now c.evaluate-found.new.slots c.keep.new.self c.args.focus.now c.args.bound.now.items c.in-Some.slot c.in-Some.part.now
    (value c.in_ok-outcome-in-Some.field-0)
    (subst (λ bound. IsKeptHere c.args.dynamic.now c.args.focus.now bound c.in-Some.slot c.in-Some.part.now) c.as_slice.ensures.value
    (c.in-Some.ensures.kept c.args.dynamic.now c.requires.placed))
    c.evaluate-found.ensures.held (c.in_ok-outcome-in-Some.ensures _ c.evaluate-found.ensures.value)
    (outcome-within (count c.args.dynamic.now) c.evaluate-found.result (Ok c.in_ok-outcome-in-Some.field-0) c.in_ok-outcome-in-Some.ensures
    c.evaluate-found.ensures.within)
    c.keep.ensures

pub keep_argument-returns-in_ok-outcome-in-Some-clause-grown : goal.keep_argument-returns-in_ok-outcome-in-Some-clause-grown
keep_argument-returns-in_ok-outcome-in-Some-clause-grown g t c = slots.grows_more _ _ _ c.evaluate-found.ensures.grown
    (slots.grows_here c.args.dynamic.now c.evaluate-found.new.slots c.keep.new.self c.args.focus.now c.args.bound.now.items c.in-Some.slot
    c.in-Some.part.now (value c.in_ok-outcome-in-Some.field-0)
    (subst (λ bound. IsKeptHere c.args.dynamic.now c.args.focus.now bound c.in-Some.slot c.in-Some.part.now) c.as_slice.ensures.value
    (c.in-Some.ensures.kept c.args.dynamic.now c.requires.placed))
    c.evaluate-found.ensures.held (c.in_ok-outcome-in-Some.ensures _ c.evaluate-found.ensures.value)
    (outcome-within (count c.args.dynamic.now) c.evaluate-found.result (Ok c.in_ok-outcome-in-Some.field-0) c.in_ok-outcome-in-Some.ensures
    c.evaluate-found.ensures.within)
    c.keep.ensures)

pub keep_argument-returns-in-None-clause-grown : goal.keep_argument-returns-in-None-clause-grown
keep_argument-returns-in-None-clause-grown g t c = slots.grows_same c.args.slots.now

pub operand-returns-in-Some-clause-grown : goal.operand-returns-in-Some-clause-grown
operand-returns-in-Some-clause-grown g t c = slots.grows_same c.args.slots.now

pub operand-returns-in-Some-clause-within : goal.operand-returns-in-Some-clause-within
operand-returns-in-Some-clause-within g t c = outcome-within (count c.args.dynamic.now) c.in-Some.found c.outcome.result c.outcome.ensures
    c.in-Some.ensures.within

pub operand-returns-in-Ok-clause-within : goal.operand-returns-in-Ok-clause-within
operand-returns-in-Ok-clause-within g t c =
    outcome-within (count c.args.dynamic.now) c.joined_by.result c.outcome-in-Ok.result c.outcome-in-Ok.ensures c.joined_by.ensures.within
