use Rattle.std.proofs.Common.{Bool, length, ap, sym, ◌∙◌, subst, arith}
use Rattle.std.specs.List.{list_any}
use Rattle.term_table.specs.declared.contexts.Context.{Context}
use Rattle.bind_table.specs.Growing.{AreLines}
use Rattle.bind_meaning.specs.Trees as trees
use Rattle.bind_write.proofs.PlanLemmas.{opened_lines, opened, no_lines, nothing_left}
use Rattle.bind_write.proofs.SpotLemmas.{spots-next, spots-past}
use Rattle.bind_write.proofs.HoldLemmas.{cells_hold-by, holds-opened, either-true, either-false, held-seen, one-holds, one-fails, none-holds}
use Rattle.bind_write.proofs.holding.+holding.Goals as goal

pub holds-split_at-requires : goal.holds-split_at-requires
holds-split_at-requires t c = (opened_lines _ _ _ c.in-Some.ensures.cases.0 c.lines.invariant.lines).fits

pub holds-is_held_somewhere-requires : goal.holds-is_held_somewhere-requires
holds-is_held_somewhere-requires t c =
    let o = opened_lines _ _ _ c.in-Some.ensures.cases.0 c.lines.invariant.lines in
    let n = ap length c.in-Some.ensures.cases.0 in
    let f = o.fits in
    let l = c.split_at.ensures.front_len in
    let m = c.lines.invariant.fewer in
    let d = c.decreases in
    (omega arith, (c.requires.source, subst AreLines (sym c.split_at.ensures.front) o.inside))

pub holds-returns-then-is_held_somewhere : goal.holds-returns-then-is_held_somewhere
holds-returns-then-is_held_somewhere t c plan h =
    let s = c.lines.invariant.same plan h in
    let o = opened _ _ _ _ _ _ s.0 c.in-Some.ensures.cases.0 c.split_at.ensures.front c.split_at.ensures.back s.1 in
    either-true _ (λ _. trees.holds c.args.source.now.entries.now o.rest c.args.source.now.context)
    (sym (c.is_held_somewhere.ensures o.cells o.within o.line_is) ∙ c.if-is_held_somewhere.true)
    ∙ (sym (holds-opened c.args.source.now.entries.now _ _ _ _ s.0 c.args.source.now.context o) ∙ sym s.2)

pub holds-lines-preserved : goal.holds-lines-preserved
holds-lines-preserved t c =
    let ol = opened_lines _ _ _ c.in-Some.ensures.cases.0 c.lines.invariant.lines in
    let n = ap length c.in-Some.ensures.cases.0 in
    let l = c.split_at.ensures.back_len in
    let m = c.lines.invariant.fewer in
    record {
      lines = subst AreLines (sym c.split_at.ensures.back) ol.further;
      same = λ plan h.
          let s = c.lines.invariant.same plan h in
          let o = opened _ _ _ _ _ _ s.0 c.in-Some.ensures.cases.0 c.split_at.ensures.front c.split_at.ensures.back s.1 in (
            o.rest,
            o.rest_is,
            s.2 ∙ (holds-opened c.args.source.now.entries.now _ _ _ _ s.0 c.args.source.now.context o
                ∙ either-false _ (λ _. trees.holds c.args.source.now.entries.now o.rest c.args.source.now.context)
                (sym (c.is_held_somewhere.ensures o.cells o.within o.line_is) ∙ c.if-is_held_somewhere.false)),
          );
      fewer = omega arith;
    }

pub holds-returns : goal.holds-returns
holds-returns t c plan h =
    let s = c.lines.invariant.same plan h in
    sym (s.2 ∙ ap (λ p. trees.holds c.args.source.now.entries.now p c.args.source.now.context)
    (no_lines _ _ s.0 (nothing_left _ c.in_default.ensures.cases) s.1))

pub is_held-returns-then-cells_hold : goal.is_held-returns-then-cells_hold
is_held-returns-then-cells_hold t c cells plan h =
    let e = sym (cells_hold-by c.args.source.now.entries.now c.args.source.now.rows.now _ cells c.args.source.now.context h.numbers_are h.own_cells) ∙
    (sym c.cells_hold.ensures ∙ c.if-cells_hold.true) in
    c.if-cells_hold.true ∙ either-true _ (λ _. trees.holds c.args.source.now.entries.now plan c.args.source.now.context) e

pub is_held-returns-else-cells_hold : goal.is_held-returns-else-cells_hold
is_held-returns-else-cells_hold t c cells plan h =
    let e = sym (cells_hold-by c.args.source.now.entries.now c.args.source.now.rows.now _ cells c.args.source.now.context h.numbers_are h.own_cells) ∙
    (sym c.cells_hold.ensures ∙ c.if-cells_hold.false) in
    c.holds.ensures plan h.inside_is ∙ sym (either-false _ (λ _. trees.holds c.args.source.now.entries.now plan c.args.source.now.context) e)

pub is_held_somewhere-returns-then-is_held : goal.is_held_somewhere-returns-then-is_held
is_held_somewhere-returns-then-is_held t c cells plan h =
    let k = c.spots-test.true in
    let n = c.number_of-k-end.ensures in
    let here = held-seen _ _ _ _ _ _ cells plan _ c.spot_at.ensures c.is_held-in-spots.ensures h in
    let p : Context → Bool = trees.line_holds c.args.source.now.entries.now cells plan in
    one-holds p _ _ _ _ (c.spots.invariant cells plan h)
    (spots-next c.args.source.now.context c.spots_of-spots.result.group c.spots_of-spots.result.count c.spots.k (omega arith))
    (sym here ∙ c.if-is_held.true) ∙ ap (list_any p) c.spots_of-spots.ensures

pub is_held_somewhere-spots-preserved : goal.is_held_somewhere-spots-preserved
is_held_somewhere-spots-preserved t c cells plan h =
    let k = c.spots-test.true in
    let n = c.number_of-k-end.ensures in
    let here = held-seen _ _ _ _ _ _ cells plan _ c.spot_at.ensures c.is_held-in-spots.ensures h in
    let p : Context → Bool = trees.line_holds c.args.source.now.entries.now cells plan in
    one-fails p _ _ _ _ (c.spots.invariant cells plan h)
    (spots-next c.args.source.now.context c.spots_of-spots.result.group c.spots_of-spots.result.count c.spots.k (omega arith))
    (sym here ∙ c.if-is_held.false)

pub is_held_somewhere-returns : goal.is_held_somewhere-returns
is_held_somewhere-returns t c cells plan h =
    let k = c.spots-test.false in
    let n = c.number_of-k-end.ensures in
    let p : Context → Bool = trees.line_holds c.args.source.now.entries.now cells plan in
    none-holds p _ _ (c.spots.invariant cells plan h)
    (spots-past c.args.source.now.context c.spots_of-spots.result.group c.spots_of-spots.result.count c.spots.k (omega arith)) ∙
    ap (list_any p) c.spots_of-spots.ensures
