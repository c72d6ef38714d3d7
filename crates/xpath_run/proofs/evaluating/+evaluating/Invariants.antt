use Rattle.std.proofs.Common.{◌≡◌, suc, ◌+◌, ◌*◌, ◌≤◌, length, drop, take, reverse}
use Rattle.std.specs.Vec.Iter.{into_iter_items, into_iter_len}
use Rattle.node_arena.specs.Moves.{tree_nodes}
use Rattle.xpath_meaning.specs.Values.{value}
use Rattle.xpath_meaning.specs.Resolving.{arguments_of}
use Rattle.xpath_meaning.specs.Meaning.{means}
use Rattle.xpath_meaning.specs.Steps as steps
use Rattle.xpath_operators.specs.Nodes.{AreWithin, AllWithin}
use Rattle.xpath_plan.specs.Plans.{seen}
use Rattle.xpath_steps.specs.Variables.{ValueWithin}
use Rattle.xpath_parts.specs.Contexts.{context, count, operands_of, turn_in}
use Rattle.xpath_parts.specs.Depths.{depth, deepest}
use Rattle.xpath_parts.specs.Links as links
use Rattle.xpath_parts.specs.Slots.{AreHeld, Grows}
use Rattle.xpath_parts.specs.Turns.{after}
use Rattle.xpath_run.proofs.Continuing.{behind_those}
use Rattle.xpath_run.proofs.Costs.{level, costs, to_come}
use Rattle.xpath_run.proofs.evaluating.+evaluating.Given as goal

abbrev pub decreases-evaluate : goal.decreases-evaluate
decreases-evaluate g l = 8 * depth l.work.now

abbrev pub decreases-along_axis : goal.decreases-along_axis
decreases-along_axis g l = 8 * depth l.work.now + 1

abbrev pub decreases-turns : goal.decreases-turns
decreases-turns g l = 8 * depth l.work.now + 1

abbrev pub decreases-keep : goal.decreases-keep
decreases-keep g l = 8 * depth l.predicate.now + 1

abbrev pub decreases-path : goal.decreases-path
decreases-path g l = 8 * depth l.work.now + 2

abbrev pub decreases-link_on : goal.decreases-link_on
decreases-link_on g l = 8 * depth l.work.now + 3

abbrev pub decreases-keep_all : goal.decreases-keep_all
decreases-keep_all g l = 8 * deepest l.predicates.now + 4

abbrev pub decreases-links_on : goal.decreases-links_on
decreases-links_on g l = 8 * deepest l.parts.now + 4

abbrev pub decreases-take_turns : goal.decreases-take_turns
decreases-take_turns g l = 8 * deepest l.inside.now + 4

abbrev pub decreases-values_of : goal.decreases-values_of
decreases-values_of g l = 8 * deepest l.parts.now + 5

abbrev pub decreases-choose : goal.decreases-choose
decreases-choose g l = 8 * deepest l.parts.now + 5

abbrev pub decreases-chain : goal.decreases-chain
decreases-chain g l = 8 * deepest l.parts.now + 5

abbrev pub decreases-filter : goal.decreases-filter
decreases-filter g l = 8 * deepest l.parts.now + 5

abbrev pub decreases-bind : goal.decreases-bind
decreases-bind g l = 8 * deepest l.parts.now + 5

abbrev pub decreases-once : goal.decreases-once
decreases-once g l = 8 * deepest l.parts.now + 5

abbrev pub decreases-by_kind : goal.decreases-by_kind
decreases-by_kind g l = 8 * deepest l.parts.now + 7

abbrev pub decreases-finish : goal.decreases-finish
decreases-finish g l = 8 * deepest l.parts.now + 6

abbrev pub decreases-keep_argument : goal.decreases-keep_argument
decreases-keep_argument g l = 8 * deepest l.parts.now + 1

abbrev pub decreases-operand : goal.decreases-operand
decreases-operand g l = 8 * depth l.work.now + 1

abbrev pub invariant-values_of-parts : goal.invariant-values_of-parts
invariant-values_of-parts g l = record {
  kept : l.bound.items ≡ l.initial.bound.items;
  held : AreHeld l.dynamic l.slots;
  grown : Grows l.fn.slots l.slots;
  goes : behind_those l.values (means (tree_nodes l.dynamic.doc.now) (arguments_of (operands_of l.dynamic.names.now (drop l.part-index l.parts)))
      (context l.dynamic l.focus l.initial.bound.items))
      ≡ means (tree_nodes l.dynamic.doc.now) (arguments_of (operands_of l.dynamic.names.now l.parts)) (context l.dynamic l.focus l.initial.bound.items);
  within : AllWithin (count l.dynamic) l.values;
}

abbrev pub invariant-links_on-parts : goal.invariant-links_on-parts
invariant-links_on-parts g l = record {
  kept : l.bound.items ≡ l.initial.bound.items;
  held : AreHeld l.dynamic l.slots;
  grown : Grows l.fn.slots l.slots;
  goes : links.chain_value (tree_nodes l.dynamic.doc.now) (links.linked_parts l.dynamic.names.now (drop l.part-index l.parts)) (value l.so_far)
      (context l.dynamic l.focus l.initial.bound.items)
      ≡ links.chain_value (tree_nodes l.dynamic.doc.now) (links.linked_parts l.dynamic.names.now l.parts) (value l.initial.so_far)
      (context l.dynamic l.focus l.initial.bound.items);
  within : ValueWithin (count l.dynamic) (value l.so_far);
}

abbrev pub invariant-turns-items : goal.invariant-turns-items
invariant-turns-items g l = record {
  kept : l.bound.items ≡ l.initial.bound.items;
  held : AreHeld l.dynamic l.slots;
  grown : Grows l.fn.slots l.slots;
  left : into_iter_len l.item-iterator ≡ length (into_iter_items l.item-iterator);
  counted : l.position + length (into_iter_items l.item-iterator) ≡ l.last;
  goes : behind_those l.out (steps.turns (turn_in l.dynamic (seen l.dynamic.names.now l.work) l.initial.bound.items) l.last (suc l.position)
      (into_iter_items l.item-iterator))
      ≡ steps.turns (turn_in l.dynamic (seen l.dynamic.names.now l.work) l.initial.bound.items) (length l.fn.items) 1 l.fn.items;
  inside : AreWithin (count l.dynamic) (into_iter_items l.item-iterator);
  within : AreWithin (count l.dynamic) l.out;
}

abbrev pub invariant-keep-items : goal.invariant-keep-items
invariant-keep-items g l = record {
  kept : l.bound.items ≡ l.initial.bound.items;
  held : AreHeld l.dynamic l.slots;
  grown : Grows l.fn.slots l.slots;
  left : into_iter_len l.item-iterator ≡ length (into_iter_items l.item-iterator);
  counted : l.position + length (into_iter_items l.item-iterator) ≡ l.last;
  goes : behind_those l.kept (steps.kept (turn_in l.dynamic (seen l.dynamic.names.now l.predicate) l.initial.bound.items) l.last (suc l.position)
      (into_iter_items l.item-iterator))
      ≡ steps.filtered_by (turn_in l.dynamic (seen l.dynamic.names.now l.predicate) l.initial.bound.items) l.fn.items;
  inside : AreWithin (count l.dynamic) (into_iter_items l.item-iterator);
  within : AreWithin (count l.dynamic) l.kept;
}

abbrev pub invariant-keep_all-predicates : goal.invariant-keep_all-predicates
invariant-keep_all-predicates g l = record {
  kept : l.bound.items ≡ l.initial.bound.items;
  held : AreHeld l.dynamic l.slots;
  grown : Grows l.fn.slots l.slots;
  goes : links.kept_by_all (λ e. turn_in l.dynamic e l.initial.bound.items) (operands_of l.dynamic.names.now (drop l.predicate-index l.predicates)) l.kept
      ≡ links.kept_by_all (λ e. turn_in l.dynamic e l.initial.bound.items) (operands_of l.dynamic.names.now l.predicates) l.initial.kept;
  within : AreWithin (count l.dynamic) l.kept;
}

abbrev pub invariant-take_turns-turns : goal.invariant-take_turns-turns
invariant-take_turns-turns g l = record {
  kept : take l.height l.bound.items ≡ l.initial.bound.items;
  held : AreHeld l.dynamic l.slots;
  grown : Grows l.fn.slots l.slots;
  room : l.height + length l.turns.items ≤ length l.bound.items + 1;
  fewer : length l.turns.items ≤ length l.inside;
  goes : after l.binder l.out (to_come l.binder (tree_nodes l.dynamic.doc.now) (operands_of l.dynamic.names.now l.inside)
      (level l.dynamic l.focus l.bound.items l.height) (reverse l.turns.items))
      ≡ links.bound_value l.binder (tree_nodes l.dynamic.doc.now) (operands_of l.dynamic.names.now l.inside) l.fn.items
      (context l.dynamic l.focus l.initial.bound.items);
  bound : AreWithin (count l.dynamic) l.bound.items;
  turns : AllWithin (count l.dynamic) l.turns.items;
  within : AreWithin (count l.dynamic) l.out;
}

abbrev pub decreases-take_turns-turns : goal.decreases-take_turns-turns
decreases-take_turns-turns g l =
    costs (tree_nodes l.dynamic.doc.now) (operands_of l.dynamic.names.now l.inside) (level l.dynamic l.focus l.bound.items l.height) (reverse l.turns.items)
