use Rattle.std.proofs.Common.{List, length, ap, sym, subst, arith}
use Rattle.xml_write.specs.Calls.{Call}
use Rattle.xml_write.proofs.WriterLemmas.{Makes-at_err}
use Rattle.bind_table.specs.Growing.{AreLines}
use Rattle.bind_write.specs.Walking.{plan_calls, element_calls}
use Rattle.bind_write.proofs.WriterSteps.{Makes-same, begin, step, break, last, end, same_left}
use Rattle.bind_write.proofs.PlanLemmas.{opened_lines, opened, no_lines, nothing_left}
use Rattle.bind_write.proofs.SpotLemmas.{spots-next, spots-past}
use Rattle.bind_write.proofs.WalkLemmas.{element-some, line-seen, calls-seen, spot-err, spot-ok, spots-end}
use Rattle.bind_write.proofs.walking.+walking.Goals as goal

pub put_element-returns-in_err-put_start-in-Some-clause-makes : goal.put_element-returns-in_err-put_start-in-Some-clause-makes
put_element-returns-in_err-put_start-in-Some-clause-makes g t c cells plan h =
    let es = c.args.source.now.entries.now in
    Makes-same _ _ _ _ _ _ _ (element-some c.args.source.now.rows.now es c.args.line.now c.args.inside.now cells plan c.args.held c.in-Some.further
    c.args.source.now.context h (sym (c.in-Some.ensures cells plan h)))
    (Makes-at_err _ _ _ _ _ _ c.from_residual.ensures.0 (break _ _ _ _ _ _ _ _ c.in_err-put_start-in-Some.ensures.makes (begin _ _ _)))

pub put_element-returns-in_err-put_cells-in-Some-clause-makes : goal.put_element-returns-in_err-put_cells-in-Some-clause-makes
put_element-returns-in_err-put_cells-in-Some-clause-makes g t c cells plan h =
    let es = c.args.source.now.entries.now in
    Makes-same _ _ _ _ _ _ _ (element-some c.args.source.now.rows.now es c.args.line.now c.args.inside.now cells plan c.args.held c.in-Some.further
    c.args.source.now.context h (sym (c.in-Some.ensures cells plan h)))
    (Makes-at_err _ _ _ _ _ _ c.from_residual-in_err-put_cells-in-Some.ensures.0
    (break _ _ _ _ _ _ _ _ c.in_err-put_cells-in-Some.ensures.makes (step _ _ _ _ _ _ _ _ _ c.in_ok-put_start-in-Some.ensures.makes (begin _ _ _))))

pub put_element-returns-in_err-put_lines-in-Some-clause-makes : goal.put_element-returns-in_err-put_lines-in-Some-clause-makes
put_element-returns-in_err-put_lines-in-Some-clause-makes g t c cells plan h =
    let es = c.args.source.now.entries.now in
    Makes-same _ _ _ _ _ _ _ (element-some c.args.source.now.rows.now es c.args.line.now c.args.inside.now cells plan c.args.held c.in-Some.further
    c.args.source.now.context h (sym (c.in-Some.ensures cells plan h)))
    (Makes-at_err _ _ _ _ _ _ c.from_residual-in_err-put_lines-in-Some.ensures.0
    (break _ _ _ _ _ _ _ _ (c.in_err-put_lines-in-Some.ensures.makes plan h.inside_is)
    (step _ _ _ _ _ _ _ _ _ c.in_ok-put_cells-in-Some.ensures.makes (step _ _ _ _ _ _ _ _ _ c.in_ok-put_start-in-Some.ensures.makes (begin _ _ _)))))

pub put_element-returns-in_ok-put_lines-in-Some-clause-makes : goal.put_element-returns-in_ok-put_lines-in-Some-clause-makes
put_element-returns-in_ok-put_lines-in-Some-clause-makes g t c cells plan h =
    let es = c.args.source.now.entries.now in
    Makes-same _ _ _ _ _ _ _ (element-some c.args.source.now.rows.now es c.args.line.now c.args.inside.now cells plan c.args.held c.in-Some.further
    c.args.source.now.context h (sym (c.in-Some.ensures cells plan h)))
    (last _ _ _ _ _ _ _ _ _ c.put_end.ensures.makes
    (step _ _ _ _ _ _ _ _ _ (c.in_ok-put_lines-in-Some.ensures.makes plan h.inside_is)
    (step _ _ _ _ _ _ _ _ _ c.in_ok-put_cells-in-Some.ensures.makes (step _ _ _ _ _ _ _ _ _ c.in_ok-put_start-in-Some.ensures.makes (begin _ _ _)))))

pub put_line-returns-in_err-put_element-clause-makes : goal.put_line-returns-in_err-put_element-clause-makes
put_line-returns-in_err-put_element-clause-makes g t c cells plan h =
    let k = c.spots-test.true in
    let n = c.number_of-k-end.ensures in
    let f : _ → List Call = element_calls c.args.source.now.entries.now c.args.line.now.step cells plan c.args.held in
    spot-err f _ _ _ _ _ _ _ _ _ _ _ _ _ c.spots_of-spots.ensures
    (spots-next c.args.source.now.context c.spots_of-spots.result.group c.spots_of-spots.result.count c.spots.k (omega arith))
    (calls-seen c.spot_at-here.result _ _ _ c.args.line.now.step cells plan c.args.held c.spot_at-here.ensures)
    (c.spots.invariant.ahead cells plan h)
    (c.in_err-put_element.ensures.makes cells plan (line-seen c.spot_at-here.result _ _ _ _ _ cells plan c.spot_at-here.ensures h)) c.from_residual.ensures.0

pub put_line-spots-preserved : goal.put_line-spots-preserved
put_line-spots-preserved g t c =
    let k = c.spots-test.true in
    let n = c.number_of-k-end.ensures in
    record {
      state = c.in_ok-put_element.ensures.state;
      ahead = λ cells plan h.
          spot-ok (element_calls c.args.source.now.entries.now c.args.line.now.step cells plan c.args.held) _ _ _ _ _ _ _ _ _ _ _
          (spots-next c.args.source.now.context c.spots_of-spots.result.group c.spots_of-spots.result.count c.spots.k (omega arith))
          (calls-seen c.spot_at-here.result _ _ _ c.args.line.now.step cells plan c.args.held c.spot_at-here.ensures)
          (c.spots.invariant.ahead cells plan h)
          (c.in_ok-put_element.ensures.makes cells plan (line-seen c.spot_at-here.result _ _ _ _ _ cells plan c.spot_at-here.ensures h));
    }

pub put_line-returns-clause-makes : goal.put_line-returns-clause-makes
put_line-returns-clause-makes g t c cells plan h =
    let k = c.spots-test.false in
    let n = c.number_of-k-end.ensures in
    spots-end (element_calls c.args.source.now.entries.now c.args.line.now.step cells plan c.args.held) _ _ _ _ _ _ _ c.spots_of-spots.ensures
    (spots-past c.args.source.now.context c.spots_of-spots.result.group c.spots_of-spots.result.count c.spots.k (omega arith))
    (c.spots.invariant.ahead cells plan h)

pub put_lines-split_at-requires : goal.put_lines-split_at-requires
put_lines-split_at-requires g t c = (opened_lines _ _ _ c.in-Some.ensures.cases.0 c.lines.invariant.lines).fits

pub put_lines-put_line-requires : goal.put_lines-put_line-requires
put_lines-put_line-requires g t c κs lives =
    let o = opened_lines _ _ _ c.in-Some.ensures.cases.0 c.lines.invariant.lines in
    let n = ap length c.in-Some.ensures.cases.0 in
    let f = o.fits in
    let l = c.split_at.ensures.front_len in
    let m = c.lines.invariant.fewer in
    let d = c.decreases in
    (omega arith, (lives.0, (lives.1, (c.lines.invariant.state, (c.requires.source, subst AreLines (sym c.split_at.ensures.front) o.inside)))))

pub put_lines-returns-in_err-put_line-clause-makes : goal.put_lines-returns-in_err-put_line-clause-makes
put_lines-returns-in_err-put_line-clause-makes g t c plan h =
    let a = c.lines.invariant.ahead plan h in
    let o = opened _ _ _ _ _ _ a.0 c.in-Some.ensures.cases.0 c.split_at.ensures.front c.split_at.ensures.back a.1 in
    Makes-at_err _ _ _ _ _ _ c.from_residual.ensures.0
    (break _ _ _ _ _ _ _ (plan_calls c.args.source.now.entries.now o.rest c.args.held c.args.source.now.context)
    (c.in_err-put_line.ensures.makes o.cells o.within o.line_is)
    (same_left _ _ _ _ _ _ _ (ap (λ p. plan_calls c.args.source.now.entries.now p c.args.held c.args.source.now.context) o.plan_is) a.2))

pub put_lines-lines-preserved : goal.put_lines-lines-preserved
put_lines-lines-preserved g t c =
    let ol = opened_lines _ _ _ c.in-Some.ensures.cases.0 c.lines.invariant.lines in
    let n = ap length c.in-Some.ensures.cases.0 in
    let l = c.split_at.ensures.back_len in
    let m = c.lines.invariant.fewer in
    record {
      lines = subst AreLines (sym c.split_at.ensures.back) ol.further;
      fewer = omega arith;
      state = c.in_ok-put_line.ensures.state;
      ahead = λ plan h.
          let a = c.lines.invariant.ahead plan h in
          let o = opened _ _ _ _ _ _ a.0 c.in-Some.ensures.cases.0 c.split_at.ensures.front c.split_at.ensures.back a.1 in (
            o.rest,
            o.rest_is,
            step _ _ _ _ _ _ _ _ (plan_calls c.args.source.now.entries.now o.rest c.args.held c.args.source.now.context)
                (c.in_ok-put_line.ensures.makes o.cells o.within o.line_is)
                (same_left _ _ _ _ _ _ _ (ap (λ p. plan_calls c.args.source.now.entries.now p c.args.held c.args.source.now.context) o.plan_is) a.2),
          );
    }

pub put_lines-returns-clause-makes : goal.put_lines-returns-clause-makes
put_lines-returns-clause-makes g t c plan h =
    let a = c.lines.invariant.ahead plan h in
    end _ _ _ _ _
    (same_left _ _ _ _ _ _ _ (ap (λ p. plan_calls c.args.source.now.entries.now p c.args.held c.args.source.now.context)
    (no_lines _ _ a.0 (nothing_left _ c.in_default.ensures.cases) a.1)) a.2)
