use Rattle.std.proofs.Common.{◌++◌}
use Rattle.std.specs.List.{flat_map}
use Rattle.std.proofs.lemmas.Result.{on_ok_weaker}
use Rattle.bind_said.specs.Judged.{said_by_pick}
use Rattle.bind_said.specs.Saying.{said_by_row, said_by_scheme}
use Rattle.bind_said.proofs.MarkLemmas.{marked-more}
use Rattle.bind_said.proofs.said.mark_said.Goals as goal

pub returns : goal.returns
returns g c =
    let d = c.args.input.now.doc.now in
    let rows = c.args.rows.now in
    on_ok_weaker c.mark_schemes.result
    (λ e. marked-more c.args.marks.now.items c.mark_picked.new.marks.items c.mark_schemes.new.marks.items
    (flat_map (said_by_pick d rows) c.args.terms.now) (flat_map (said_by_row d) rows ++ flat_map (said_by_scheme d) rows) c.in_ok-mark_picked.ensures
    (marked-more c.mark_picked.new.marks.items c.mark_constants.new.marks.items c.mark_schemes.new.marks.items
    (flat_map (said_by_row d) rows) (flat_map (said_by_scheme d) rows) c.in_ok-mark_constants.ensures e))
    c.mark_schemes.ensures
