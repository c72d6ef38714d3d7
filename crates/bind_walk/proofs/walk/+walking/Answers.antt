use Rattle.std.proofs.Common.{◌≡◌, ◌≤◌, length, arith, rules, ap, sym, ◌∙◌, subst}
use Rattle.std.proofs.lemmas.List.{nil_from_length}
use Rattle.std.proofs.lemmas.Result.{on_ok_weaker}
use Rattle.bind_walk.specs.Walks.{AreLined, around_in}
use Rattle.bind_walk.proofs.WalkLemmas.{Left, left_fits, left_inside, left_more, left_past, left_end, walks_nowhere, meets_nothing, entered}
use Rattle.bind_walk.proofs.walk.+walking.Goals as goal

pub follow-split_at-requires : goal.follow-split_at-requires
follow-split_at-requires g t c = left_fits _ _ _ _ c.in-Some.ensures.cases.0 c.lines.invariant.some

pub follow-enter-requires : goal.follow-enter-requires
follow-enter-requires g t c =
    let inside : AreLined c.args.input.now.doc.now c.split_at.result.0.now =
    left_inside _ _ _ _ _ c.in-Some.ensures.cases.0 c.split_at.ensures.front c.lines.invariant.some in
    let long : length c.split_at.result.0.now ≡ c.in-Some.line.now.size = c.split_at.ensures.front_len in
    let fits : c.in-Some.line.now.size ≤ length c.in-Some.behind.now = left_fits _ _ _ _ c.in-Some.ensures.cases.0 c.lines.invariant.some in
    let less = c.lines.invariant.shorter in
    let head = ap length c.in-Some.ensures.cases.0 in
    let falls = c.decreases in
    λ κs le. (omega arith, (search rules, (c.requires.within, inside)))

pub follow-lines-preserved-in_ok-enter : goal.follow-lines-preserved-in_ok-enter
follow-lines-preserved-in_ok-enter g t c =
    left_more _ _ _ _ _ _ _ _ _ _ _ c.lines.invariant c.in-Some.ensures.cases.0 c.split_at.ensures.front c.split_at.ensures.back _ c.in_ok-enter.ensures

pub follow-lines-preserved : goal.follow-lines-preserved
follow-lines-preserved g t c =
    left_past _ _ _ _ _ _ _ _ _ _ _ c.lines.invariant c.in-Some.ensures.cases.0 c.split_at.ensures.front c.split_at.ensures.back _ c.requires.named
    (sym c.is_number.ensures ∙ c.if-is_number.false)

pub follow-returns : goal.follow-returns
follow-returns g t c = let e = nil_from_length _ c.in_default.ensures.cases in
    left_end _ _ _ _ _ _ (subst (λ left. Left c.args.input.now.doc.now c.args.lines.now c.args.position.now.node c.args.position.now.around.now
    c.args.finds.now left c.lines.finds) e c.lines.invariant)

pub walk-returns-then-is_empty : goal.walk-returns-then-is_empty
walk-returns-then-is_empty g t c = walks_nowhere c.args.input.now.doc.now c.args.lines.now c.args.position.now.node c.args.position.now.around.now
    c.args.finds.now (sym c.is_empty.ensures ∙ c.if-is_empty.true)

pub meet-returns-in-None : goal.meet-returns-in-None
meet-returns-in-None g t c = meets_nothing _ _ _ _ _ (sym c.in-None.is ∙ c.name.ensures.value)

pub enter-returns-in-None : goal.enter-returns-in-None
enter-returns-in-None g t c =
    on_ok_weaker c.pick_in.result
    (entered c.args.input.now.doc.now c.args.line.now c.args.inside.now c.args.position.now.node c.args.position.now.around.now
    c.args.position.now.around.now c.in_ok-passes.field-0 _ _ c.in_ok-passes.ensures c.if-not-branch.false
    (ap (λ group. around_in group c.args.position.now.node c.args.position.now.around.now) c.in-None.is))
    c.pick_in.ensures

pub enter-returns-in_ok-further-in-Some : goal.enter-returns-in_ok-further-in-Some
enter-returns-in_ok-further-in-Some g t c =
    on_ok_weaker c.pick_in-in-Some.result
    (entered c.args.input.now.doc.now c.args.line.now c.args.inside.now c.args.position.now.node c.args.position.now.around.now _
    c.in_ok-passes.field-0 _ _ c.in_ok-passes.ensures c.if-not-branch.false
    (ap (λ group. around_in group c.args.position.now.node c.args.position.now.around.now) c.in-Some.is
    ∙ sym (c.as_slice.ensures.value ∙ c.in_ok-further-in-Some.ensures)))
    c.pick_in-in-Some.ensures
