use Rattle.std.proofs.Common.{List, ap, sym, ◌∙◌, refl, arith}
use Rattle.term_table.specs.declared.contexts.Context.{Context}
use Rattle.bind_write.specs.Sources.{spots_by}
use Rattle.bind_write.specs.Roots.{first_root}
use Rattle.bind_write.proofs.SpotLemmas.{spots-next, spots-past}
use Rattle.bind_write.proofs.WalkLemmas.{line-seen}
use Rattle.bind_write.proofs.RootLemmas.{standing-seen, root-some, root-none, found-here, found-later}
use Rattle.bind_write.proofs.roots.root_at.Goals as goal

pub returns-in-Some : goal.returns-in-Some
returns-in-Some c cells plan h =
    let k = c.spots-test.true in
    let n = c.number_of-k-end.ensures in
    let s = c.spot_at-here.ensures in
    let f : List Context → _ = first_root c.args.source.now.entries.now c.args.line.now.step cells plan in
    let there = standing-seen c.spot_at-here.result _ _ _ c.args.line.now.step cells plan _ s
    (c.in-Some.ensures cells plan (line-seen c.spot_at-here.result _ _ _ _ _ cells plan s h)) in
    root-some c.args.source.now c.args.line.now.step cells plan _ _ _
    (ap f (sym c.spots_of-spots.ensures)
    ∙ found-here c.args.source.now.entries.now c.args.line.now.step cells plan
    (spots_by c.args.source.now.context c.spots_of-spots.result.group c.spots_of-spots.result.count) _ _ _ _ (c.spots.invariant cells plan h)
    (spots-next c.args.source.now.context c.spots_of-spots.result.group c.spots_of-spots.result.count c.spots.k (omega arith)) there)
    (record {
      rows_are = s.rows_are;
      entries_are = s.entries_are;
      context_is = s.context_is;
      held_is = refl;
      source_is = s.source;
      step_is = refl;
      line_is = h;
      lines_are = c.requires.lines;
    })

pub spots-preserved : goal.spots-preserved
spots-preserved c cells plan h =
    let k = c.spots-test.true in
    let n = c.number_of-k-end.ensures in
    let s = c.spot_at-here.ensures in
    let there = standing-seen c.spot_at-here.result _ _ _ c.args.line.now.step cells plan _ s
    (c.in-None.ensures cells plan (line-seen c.spot_at-here.result _ _ _ _ _ cells plan s h)) in
    found-later c.args.source.now.entries.now c.args.line.now.step cells plan
    (spots_by c.args.source.now.context c.spots_of-spots.result.group c.spots_of-spots.result.count) _ _ _ (c.spots.invariant cells plan h)
    (spots-next c.args.source.now.context c.spots_of-spots.result.group c.spots_of-spots.result.count c.spots.k (omega arith)) there

pub returns : goal.returns
returns c cells plan h =
    let k = c.spots-test.false in
    let n = c.number_of-k-end.ensures in
    let f : List Context → _ = first_root c.args.source.now.entries.now c.args.line.now.step cells plan in
    root-none c.args.source.now c.args.line.now.step cells plan _
    (ap f (sym c.spots_of-spots.ensures) ∙ (sym (c.spots.invariant cells plan h) ∙
    ap f (spots-past c.args.source.now.context c.spots_of-spots.result.group c.spots_of-spots.result.count c.spots.k (omega arith))))
