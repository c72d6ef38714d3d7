use Rattle.std.proofs.Common.{ap, ◌∙◌}
use Rattle.std.proofs.lemmas.List.{nil_from_length}
use Rattle.bind_walk.specs.Lines.{found_line, line_place}
use Rattle.bind_walk.proofs.LineLemmas.{find_more, find_end}
use Rattle.bind_walk.proofs.lines.find_lines.Goals as goal

pub lines-preserved : goal.lines-preserved
lines-preserved c =
    find_more c.args.doc.now c.args.table.now _ _ _ _ _ _ _ _ c.lines.invariant c.in-Some.ensures.cases.0
    (c.place_of-place.ensures ∙ ap (λ rs. line_place rs c.in-Some.line.now c.in-Some.behind.now) c.rows-all.ensures)
    (c.in_ok-find_line.ensures ∙ ap (λ rs. found_line c.args.doc.now rs c.in-Some.line.now c.place_of-place.result) c.rows-all.ensures)
    c.in_ok-push.ensures.items

pub returns : goal.returns
returns c = find_end c.args.doc.now c.args.table.now _ _ _ c.lines.invariant (nil_from_length _ c.in_default.ensures.cases)
