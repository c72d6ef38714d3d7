use Rattle.std.proofs.Common.{◌≡◌, ◌+◌, ◌==◌, refl, sym, ap, subst, ◌∙◌, length, arith, rules, IfOk, OnOk}
use Rattle.std.proofs.lemmas.List.{length_push}
use Rattle.xpath_grammar.specs.View.{view, viewed}
use Rattle.xpath_grammar.specs.Grammar as g
use Rattle.xpath_grammar.specs.Grammar.{Tree}
use Rattle.xpath_types.specs.declared.kinds.Kinds.{Kinds}
use Rattle.xpath_types.specs.declared.walk.Walked.{Walked}
use Rattle.xpath_types.specs.Judging.{variables_behind, sure_refusals}
use Rattle.xpath_types.specs.Refusals.{first_of}
use Rattle.xpath_types.specs.Walking.{Seen, seen, with_part, walked}
use Rattle.xpath_types.proofs.VariableLemmas.{none-dropped, still, still-high}
use Rattle.xpath_grammar.proofs.ViewLaws.{view-leaf, view-node}
use Rattle.xpath_types.proofs.WalkLemmas.{step, node-walked, kept-behind, longer-behind}
use Rattle.xpath_types.proofs.walk.+walk.Goals as goal

pub parts-init : goal.parts-init
parts-init t c =
    let count : c.len-height.result ≡ length c.args.state.now.variables = search rules in
    let now : c.len-height.result ≡ length c.begin.new.state.variables = count ∙ ap length (sym c.in_ok-so_far-in-Node.ensures.kept) in
    record { same = refl; kept = none-dropped _ c.begin.new.state.variables (omega arith); high = omega arith; longer = omega arith }

pub parts-preserved : goal.parts-preserved
parts-preserved t c =
    let at : c.walk.new.state.variables ≡ c.parts.state.variables = c.in_ok-walked-in-Node.ensures.kept in
    let binds = c.in_ok-bind-in-Node.ensures ∙ ap (variables_behind c.index-parts-i.result.0 c.in_ok-walked-in-Node.walked.facts.kinds) at in
    let first = c.refuse_operand.ensures ∙ ap (λ sure. first_of c.walk.new.state.first (sure_refusals c.in_ok-start-in-Node.start sure)) c.is_sure-sure.ensures
    in
    record {
      same = sym (step c.args.scope.now c.in-Node.form c.as_slice-parts.result.now c.parts.i c.index-parts-i.result c.index-parts-i.is
          (omega arith) c.parts.inner _ c.parts.state.variables _ c.parts.so_far _
          c.in_ok-walked-in-Node.walked (seen c.parts.state) (seen c.walk.new.state) _ c.in_ok-start-in-Node.start
          c.in_ok-start-in-Node.ensures
          (c.in_ok-walked-in-Node.ensures.walked ∙
          ap (λ (focus : Kinds). (walked c.args.scope.now focus c.parts.state.variables c.in_ok-start-in-Node.start (seen c.parts.state)
          (view c.index-parts-i.result.1)).0) c.focus_inside-focus.ensures)
          (c.in_ok-walked-in-Node.ensures.seen ∙
          ap (λ (focus : Kinds). (walked c.args.scope.now focus c.parts.state.variables c.in_ok-start-in-Node.start (seen c.parts.state)
          (view c.index-parts-i.result.1)).1) c.focus_inside-focus.ensures)
          c.focus_behind-inner.ensures (c.joined-so_far.ensures ∙
          (λ j. record {
            facts = with_part c.in-Node.form c.index-parts-i.result.0 (c.parts.i == 0)
                (c.is_sure-sure.ensures j) c.parts.so_far.facts c.in_ok-walked-in-Node.walked.facts;
            end = c.in_ok-walked-in-Node.walked.end;
          }))
          (λ j. record { parts = c.walk.new.state.parts.items; first = first j })
          binds) ∙ c.parts.invariant.same;
      kept = still _ _ c.index-parts-i.result.0 c.in_ok-walked-in-Node.walked.facts.kinds _ binds c.parts.invariant.high c.parts.invariant.kept;
      high = still-high _ _ c.index-parts-i.result.0 c.in_ok-walked-in-Node.walked.facts.kinds _ binds c.parts.invariant.high;
      longer = omega (arith, c.in_ok-walked-in-Node.ensures.longer, c.parts.invariant.longer);
    }

pub end-requires : goal.end-requires
end-requires t c =
    let begun : length c.begin.new.state.parts.items ≡ length c.args.state.now.parts.items + 1 =
    ap (λ (s : Seen). length s.parts) c.in_ok-so_far-in-Node.ensures.seen ∙ length_push c.args.state.now.parts.items _ in
    let count : c.len-index.result ≡ length c.args.state.now.parts.items = search rules in
    omega (arith, c.parts.invariant.longer, begun, count)

pub returns-in-Leaf-clause-walked : goal.returns-in-Leaf-clause-walked
unfolding walked
returns-in-Leaf-clause-walked t c =
    subst (λ (x : Tree). IfOk c.walk_leaf.result
    (λ result. result ≡ (walked c.args.scope.now c.args.focus c.args.state.now.variables c.args.token (seen c.args.state.now) x).0))
    (sym (ap view c.in-Leaf.is ∙ view-leaf c.in-Leaf.leaf)) c.walk_leaf.ensures.walked

pub returns-in-Leaf-clause-seen : goal.returns-in-Leaf-clause-seen
unfolding walked
returns-in-Leaf-clause-seen t c = subst (λ (x : Tree). OnOk c.walk_leaf.result
    (seen c.walk_leaf.new.state ≡ (walked c.args.scope.now c.args.focus c.args.state.now.variables c.args.token (seen c.args.state.now) x).1))
    (sym (ap view c.in-Leaf.is ∙ view-leaf c.in-Leaf.leaf)) c.walk_leaf.ensures.seen

pub returns-after-parts-clause-walked : goal.returns-after-parts-clause-walked
returns-after-parts-clause-walked t c =
    let vars : c.truncate.new.self ≡ c.args.state.now.variables = c.truncate.ensures ∙ (c.parts.invariant.kept ∙ c.in_ok-so_far-in-Node.ensures.kept) in
    let count : c.len-index.result ≡ length c.args.state.now.parts.items = search rules in
    let whole = node-walked c.args.scope.now c.args.focus c.args.state.now.variables c.args.token
    (seen c.args.state.now) c.in-Node.form c.as_slice-parts.result.now c.parts.i (omega arith)
    c.in_ok-so_far-in-Node.so_far c.parts.so_far (seen c.begin.new.state) (seen c.parts.state) c.parts.inner c.begin.new.state.variables _ _
    c.in_ok-so_far-in-Node.ensures.walked c.in_ok-so_far-in-Node.ensures.seen c.in_ok-so_far-in-Node.ensures.kept c.parts.invariant.same
    (length c.truncate.new.self) c.len-index.result (ap length vars) count in
    let tree : view c.args.x.now ≡ g.node c.in-Node.form (viewed c.as_slice-parts.result.now) = ap view c.in-Node.is ∙
    (view-node c.in-Node.form c.in-Node.parts ∙ ap (λ items. g.node c.in-Node.form (viewed items)) (sym c.as_slice-parts.ensures)) in
    subst (λ (r : Walked × Seen). IfOk c.end.result (λ result. result ≡ r.0))
    (whole ∙ ap (λ (x : Tree). walked c.args.scope.now c.args.focus c.args.state.now.variables c.args.token (seen c.args.state.now) x) (sym tree))
    c.end.ensures.walked

pub returns-after-parts-clause-seen : goal.returns-after-parts-clause-seen
returns-after-parts-clause-seen t c =
    let vars : c.truncate.new.self ≡ c.args.state.now.variables = c.truncate.ensures ∙ (c.parts.invariant.kept ∙ c.in_ok-so_far-in-Node.ensures.kept) in
    let count : c.len-index.result ≡ length c.args.state.now.parts.items = search rules in
    let whole = node-walked c.args.scope.now c.args.focus c.args.state.now.variables c.args.token
    (seen c.args.state.now) c.in-Node.form c.as_slice-parts.result.now c.parts.i (omega arith)
    c.in_ok-so_far-in-Node.so_far c.parts.so_far (seen c.begin.new.state) (seen c.parts.state) c.parts.inner c.begin.new.state.variables _ _
    c.in_ok-so_far-in-Node.ensures.walked c.in_ok-so_far-in-Node.ensures.seen c.in_ok-so_far-in-Node.ensures.kept c.parts.invariant.same
    (length c.truncate.new.self) c.len-index.result (ap length vars) count in
    let tree : view c.args.x.now ≡ g.node c.in-Node.form (viewed c.as_slice-parts.result.now) = ap view c.in-Node.is ∙
    (view-node c.in-Node.form c.in-Node.parts ∙ ap (λ items. g.node c.in-Node.form (viewed items)) (sym c.as_slice-parts.ensures)) in
    subst (λ (r : Walked × Seen). OnOk c.end.result (seen c.end.new.state ≡ r.1))
    (whole ∙ ap (λ (x : Tree). walked c.args.scope.now c.args.focus c.args.state.now.variables c.args.token (seen c.args.state.now) x) (sym tree))
    c.end.ensures.seen

pub returns-after-parts-clause-kept : goal.returns-after-parts-clause-kept
returns-after-parts-clause-kept t c = kept-behind c.end.result _ _ _ (c.truncate.ensures ∙ (c.parts.invariant.kept ∙ c.in_ok-so_far-in-Node.ensures.kept))
    c.end.ensures.kept

pub returns-after-parts-clause-longer : goal.returns-after-parts-clause-longer
returns-after-parts-clause-longer t c =
    let begun : length c.begin.new.state.parts.items ≡ length c.args.state.now.parts.items + 1 =
    ap (λ (s : Seen). length s.parts) c.in_ok-so_far-in-Node.ensures.seen ∙ length_push c.args.state.now.parts.items _ in
    longer-behind c.end.result _ _ _ (omega (arith, c.parts.invariant.longer, begun)) c.end.ensures.long
