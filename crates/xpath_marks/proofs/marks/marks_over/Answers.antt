use Rattle.std.proofs.Common.{◌≡◌, ◌∙◌, ap, sym, subst, true, arith}
use Rattle.std.proofs.lemmas.Result.{err_from_is_err_and}
use Rattle.node_arena.specs.Moves.{tree_nodes}
use Rattle.xpath_plan.specs.Plans.{expression, seen}
use Rattle.xpath_walks.specs.Tests.{numbers_of}
use Rattle.xpath_plan.specs.Claims.{kept_of}
use Rattle.xpath_parts.specs.Slots.{HoldIn}
use Rattle.xpath_parts.proofs.SlotLemmas as slots
use Rattle.xpath_marks.specs.Shapes.{alone, is_pattern}
use Rattle.xpath_marks.specs.Found.{all_found}
use Rattle.xpath_marks.proofs.marks.marks_over.Goals as goal

pub found-requires-clause-ready : goal.found-requires-clause-ready
found-requires-clause-ready g c = record {
  numbered = c.as_slice.ensures.value ∙ (c.in_ok-numbers.ensures ∙ ap (numbers_of c.args.doc.now.names) (c.names.ensures ∙ sym c.names-2.ensures));
  variables = c.requires;
  inside = tt;
}

pub found-requires-clause-placed : goal.found-requires-clause-placed
found-requires-clause-placed g c = slots.placed_plan _ c.work.result.now c.names-2.ensures c.work.ensures c.parts_are_sound.ensures.placed

pub found-requires-clause-slots : goal.found-requires-clause-slots
found-requires-clause-slots g c = subst (HoldIn c.args.doc.now (kept_of c.args.plan.now)) (sym c.in_ok-slots.ensures)
    (slots.none_held c.args.doc.now (kept_of c.args.plan.now) c.slots.result)

pub returns-clause-marks : goal.returns-clause-marks
returns-clause-marks g c = λ p.
    let nodes = tree_nodes c.args.doc.now in
    let is : seen c.names-2.result.now c.work.result.now ≡ expression c.args.plan.now = ap (λ names. seen names c.work.result.now) c.names-2.ensures ∙
    ap (seen c.args.plan.now.names) c.work.ensures in
    subst (λ e. is_pattern e ≡ true → c.in_ok-nodes.nodes.items ≡ all_found nodes c.args.env.now e) is c.in_ok-nodes.ensures.marked p
    ∙ sym (c.marks_are_found.ensures nodes c.args.env.now (expression c.args.plan.now) c.documents_are_walkable.ensures.walkable p)

pub returns-clause-cost : goal.returns-clause-cost
returns-clause-cost g c = λ name e.
    let is : seen c.names-2.result.now c.work.result.now ≡ expression c.args.plan.now = ap (λ names. seen names c.work.result.now) c.names-2.ensures ∙
    ap (seen c.args.plan.now.names) c.work.ensures in
    let bounds = c.in_ok-nodes.ensures.cost name (ap alone is ∙ e) in
    record { most = bounds.most; least = bounds.least }

pub returns-in_err-nodes-clause-cost : goal.returns-in_err-nodes-clause-cost
returns-in_err-nodes-clause-cost g c = λ name e.
    let is : seen c.names-2.result.now c.work.result.now ≡ expression c.args.plan.now = ap (λ names. seen names c.work.result.now) c.names-2.ensures ∙
    ap (seen c.args.plan.now.names) c.work.ensures in
    let bounds = c.in_err-nodes.ensures.cost name (ap alone is ∙ e) in
    rw (err_from_is_err_and c.from_residual-in_err-nodes.result c.from_residual-in_err-nodes.ensures.1).1 (record { most = bounds.most; least = λ leading. tt })

pub returns-in_err-numbers-clause-cost : goal.returns-in_err-numbers-clause-cost
returns-in_err-numbers-clause-cost g c = λ name e.
    rw (err_from_is_err_and c.from_residual.result c.from_residual.ensures.1).1 (record { most = omega arith; least = λ leading. tt })

pub returns-in_err-slots-clause-cost : goal.returns-in_err-slots-clause-cost
returns-in_err-slots-clause-cost g c = λ name e.
    rw (err_from_is_err_and c.from_residual-in_err-slots.result c.from_residual-in_err-slots.ensures.1).1 (record { most = omega arith; least = λ leading. tt })
