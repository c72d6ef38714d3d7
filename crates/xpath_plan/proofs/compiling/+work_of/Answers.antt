use Rattle.std.proofs.Common.{◌≡◌, ◌+◌, ◌++◌, drop, map, length, refl, sym, ap, ◌∙◌, arith}
use Rattle.std.proofs.lemmas.Result.{IfOk-weaker, on_ok_weaker}
use Rattle.xpath_grammar.specs.Grammar as g
use Rattle.xpath_grammar.specs.View.{view, viewed}
use Rattle.xpath_grammar.proofs.ViewLaws.{view-leaf, view-node}
use Rattle.xpath_meaning.specs.Resolving.{names_behind, leaf_of, begins_with_step}
use Rattle.xpath_plan.specs.Kinds.{link_of, kind_of, second_literal}
use Rattle.xpath_plan.specs.Shapes.{one_if}
use Rattle.xpath_plan.specs.Claims.{known_alone}
use Rattle.xpath_plan.specs.Walking.{size, is_kept_by, walked}
use Rattle.xpath_plan.proofs.SeenLaws.{step, still-free, still-passed, still-counted, still-grown, node-known, node-passed, node-slots, leaf-known, leaf-passed}
use Rattle.xpath_plan.proofs.SeenLaws.{leaf-slots}
use Rattle.xpath_plan.proofs.VariableLaws.{still, still-high}
use Rattle.xpath_plan.proofs.compiling.+work_of.Goals as goal

pub parts-preserved : goal.parts-preserved
parts-preserved t c =
    let done = c.in_ok-work-in-Node.ensures in
    let bound : c.put.new.bound ≡ names_behind c.part-item.result.0 c.parts.state.bound = c.in_ok-put-in-Node.ensures.bound ∙
    ap (names_behind c.part-item.result.0) done.kept in
    record {
      whole = step c.args.typed.now.declared c.args.typed.now.parts c.parts.state.bound c.parts.state.names c.work_of.new.state.names
          c.as_slice-parts.result.now c.parts.part-index c.part-item.result c.part-item.is (omega arith)
          c.put.new.bound bound c.parts.marks.before c.work_of.new.marks.before c.parts.marks.slots c.work_of.new.marks.slots done.passed done.slots
          c.parts.works c.put.new.works c.in_ok-work-in-Node.work _ (link_of c.part-item.result.0) done.grown c.parts.invariant.whole done.work refl
          c.in_ok-put-in-Node.ensures.put;
      freely = still-free c.args.typed.now.declared c.args.typed.now.parts c.parts.state.bound c.parts.state.names c.work_of.new.state.names
          c.as_slice-parts.result.now c.parts.part-index c.part-item.result c.part-item.is (omega arith)
          c.put.new.bound bound c.parts.marks.before c.work_of.new.marks.before c.parts.marks.slots c.work_of.new.marks.slots done.passed done.slots
          c.parts.free c.still_free-free.result _ c.still_free-free.ensures c.parts.invariant.freely;
      passed = still-passed c.args.typed.now.declared c.args.typed.now.parts c.parts.state.bound c.parts.state.names c.work_of.new.state.names
          c.as_slice-parts.result.now c.parts.part-index c.part-item.result c.part-item.is (omega arith)
          c.put.new.bound bound c.parts.marks.before c.work_of.new.marks.before c.parts.marks.slots c.work_of.new.marks.slots done.passed done.slots
          _ _ c.parts.invariant.passed;
      counted = still-counted c.args.typed.now.declared c.args.typed.now.parts c.parts.state.bound c.parts.state.names c.work_of.new.state.names
          c.as_slice-parts.result.now c.parts.part-index c.part-item.result c.part-item.is (omega arith)
          c.put.new.bound bound c.parts.marks.before c.work_of.new.marks.before c.parts.marks.slots c.work_of.new.marks.slots done.passed done.slots
          _ _ c.parts.invariant.counted;
      grown = still-grown c.args.state.now.names c.parts.state.names c.work_of.new.state.names c.parts.invariant.grown done.grown;
      kept = still c.len-height.result c.parts.state.bound c.parts.invariant.high c.part-item.result.0 c.put.new.bound bound c.parts.invariant.kept;
      high = still-high c.len-height.result c.parts.state.bound c.parts.invariant.high c.part-item.result.0 c.put.new.bound bound;
    }

pub returns-in_ok-work-in-Leaf-clause-work : goal.returns-in_ok-work-in-Leaf-clause-work
returns-in_ok-work-in-Leaf-clause-work t c =
    let tree : view c.args.x.now ≡ g.leaf c.in-Leaf.leaf = ap view c.in-Leaf.is ∙ view-leaf c.in-Leaf.leaf in
    let keeps = c.in_ok-keeps.ensures.keeps ∙ ap (is_kept_by (drop c.args.marks.now.before c.args.typed.now.parts)) tree in
    IfOk-weaker c.kept_work.result _ _ (λ kept is later.
    leaf-known c.args.typed.now.declared c.args.typed.now.parts c.args.state.now.bound
    (c.leaf_work.new.state.names ++ later) c.args.marks.now.before c.args.marks.now.slots c.keeps_next.new.marks.slots c.len-height.result c.in-Leaf.leaf
    c.in_ok-keeps.keeps c.in_ok-work-in-Leaf.work kept c.in_ok-keeps.ensures.slots c.len-height.ensures keeps
    (c.in_ok-work-in-Leaf.ensures.work later ∙ (λ j. known_alone (leaf_of (c.scope.ensures j) c.args.state.now.bound c.in-Leaf.leaf)))
    (is (c.leaf_work.new.state.names ++ later))
    ∙ ap (walked c.args.typed.now.declared c.args.state.now.bound (drop c.args.marks.now.before c.args.typed.now.parts) c.args.marks.now.slots) (sym tree))
    c.kept_work.ensures.work

pub returns-in_ok-work-in-Leaf-clause-passed : goal.returns-in_ok-work-in-Leaf-clause-passed
returns-in_ok-work-in-Leaf-clause-passed t c =
    let tree : view c.args.x.now ≡ g.leaf c.in-Leaf.leaf = ap view c.in-Leaf.is ∙ view-leaf c.in-Leaf.leaf in
    on_ok_weaker c.kept_work.result (λ _. leaf-passed c.args.marks.now.before c.kept_work.new.marks.before c.in-Leaf.leaf
    (c.kept_work.ensures.before ∙ c.in_ok-keeps.ensures.passed)
    ∙ ap (λ x. c.args.marks.now.before + size x) (sym tree)) c.kept_work.ensures.slots

pub returns-in_ok-work-in-Leaf-clause-slots : goal.returns-in_ok-work-in-Leaf-clause-slots
returns-in_ok-work-in-Leaf-clause-slots t c =
    let tree : view c.args.x.now ≡ g.leaf c.in-Leaf.leaf = ap view c.in-Leaf.is ∙ view-leaf c.in-Leaf.leaf in
    let keeps = c.in_ok-keeps.ensures.keeps ∙ ap (is_kept_by (drop c.args.marks.now.before c.args.typed.now.parts)) tree in
    on_ok_weaker c.kept_work.result (λ is.
    leaf-slots c.args.typed.now.declared c.args.typed.now.parts c.args.state.now.bound c.args.marks.now.before c.args.marks.now.slots
    c.kept_work.new.marks.slots c.in-Leaf.leaf c.in_ok-keeps.keeps keeps
    (is ∙ ap (λ n. n + one_if c.in_ok-keeps.keeps) c.in_ok-keeps.ensures.slots)
    ∙ ap (λ x. c.args.marks.now.slots + length (walked c.args.typed.now.declared c.args.state.now.bound
    (drop c.args.marks.now.before c.args.typed.now.parts) c.args.marks.now.slots x).kept) (sym tree)) c.kept_work.ensures.slots

pub returns-in_ok-kind-in-Node-clause-work : goal.returns-in_ok-kind-in-Node-clause-work
returns-in_ok-kind-in-Node-clause-work t c =
    let tree : view c.args.x.now ≡ g.node c.in-Node.form (viewed c.as_slice-parts.result.now)
    = ap view c.in-Node.is ∙ (view-node c.in-Node.form c.in-Node.parts ∙ ap (λ items. g.node c.in-Node.form (viewed items)) (sym c.as_slice-parts.ensures)) in
    let keeps = c.in_ok-keeps.ensures.keeps ∙ ap (is_kept_by (drop c.args.marks.now.before c.args.typed.now.parts)) tree in
    let named = c.in_ok-kind-in-Node.ensures ∙
    (λ j. kind_of (c.scope-in-Node.ensures j) c.in-Node.form (begins_with_step (viewed c.as_slice-parts.result.now)) c.parts.free
    (second_literal (viewed c.as_slice-parts.result.now))
    (map (λ part. part.0) c.as_slice-parts.result.now)) in
    IfOk-weaker c.kept_work-in-Node.result _ _ (λ kept is later.
    node-known c.args.typed.now.declared c.args.typed.now.parts c.args.state.now.bound c.parts.state.bound c.args.state.now.names c.parts.state.names
    c.as_slice-parts.result.now c.parts.part-index c.parts.works c.len-height.result
    c.keeps_next.new.marks.before c.parts.marks.before c.keeps_next.new.marks.slots c.parts.marks.slots c.parts.free c.parts.invariant (omega arith)
    c.in-Node.form c.in_ok-kind-in-Node.kind c.args.marks.now.before c.in_ok-keeps.keeps kept later named c.in_ok-keeps.ensures.passed c.len-height.ensures
    keeps (is (c.parts.state.names ++ later))
    ∙ (λ j. walked c.args.typed.now.declared c.args.state.now.bound (drop c.args.marks.now.before c.args.typed.now.parts) (c.in_ok-keeps.ensures.slots j)
    (sym tree j))) c.kept_work-in-Node.ensures.work

pub returns-in_ok-kind-in-Node-clause-passed : goal.returns-in_ok-kind-in-Node-clause-passed
returns-in_ok-kind-in-Node-clause-passed t c =
    let tree : view c.args.x.now ≡ g.node c.in-Node.form (viewed c.as_slice-parts.result.now)
    = ap view c.in-Node.is ∙ (view-node c.in-Node.form c.in-Node.parts ∙ ap (λ items. g.node c.in-Node.form (viewed items)) (sym c.as_slice-parts.ensures)) in
    on_ok_weaker c.kept_work-in-Node.result (λ _. c.kept_work-in-Node.ensures.before ∙
    (node-passed c.args.typed.now.declared c.args.typed.now.parts c.args.state.now.bound c.parts.state.bound c.args.state.now.names c.parts.state.names
    c.as_slice-parts.result.now c.parts.part-index c.parts.works c.len-height.result
    c.keeps_next.new.marks.before c.parts.marks.before c.keeps_next.new.marks.slots c.parts.marks.slots c.parts.free c.parts.invariant (omega arith)
    c.in-Node.form c.args.marks.now.before c.in_ok-keeps.ensures.passed
    ∙ ap (λ x. c.args.marks.now.before + size x) (sym tree))) c.kept_work-in-Node.ensures.slots

pub returns-in_ok-kind-in-Node-clause-slots : goal.returns-in_ok-kind-in-Node-clause-slots
returns-in_ok-kind-in-Node-clause-slots t c =
    let tree : view c.args.x.now ≡ g.node c.in-Node.form (viewed c.as_slice-parts.result.now)
    = ap view c.in-Node.is ∙ (view-node c.in-Node.form c.in-Node.parts ∙ ap (λ items. g.node c.in-Node.form (viewed items)) (sym c.as_slice-parts.ensures)) in
    let keeps = c.in_ok-keeps.ensures.keeps ∙ ap (is_kept_by (drop c.args.marks.now.before c.args.typed.now.parts)) tree in
    on_ok_weaker c.kept_work-in-Node.result (λ is. node-slots c.args.typed.now.declared c.args.typed.now.parts c.args.state.now.bound c.parts.state.bound
    c.args.state.now.names c.parts.state.names c.as_slice-parts.result.now c.parts.part-index c.parts.works c.len-height.result
    c.keeps_next.new.marks.before c.parts.marks.before c.keeps_next.new.marks.slots c.parts.marks.slots c.parts.free c.parts.invariant (omega arith)
    c.in-Node.form c.args.marks.now.before c.kept_work-in-Node.new.marks.slots c.in_ok-keeps.keeps c.in_ok-keeps.ensures.passed keeps is
    ∙ (λ j. c.in_ok-keeps.ensures.slots j + length
    (walked c.args.typed.now.declared c.args.state.now.bound (drop c.args.marks.now.before c.args.typed.now.parts) (c.in_ok-keeps.ensures.slots j)
    (sym tree j)).kept)) c.kept_work-in-Node.ensures.slots
