use Rattle.bind_said.specs.Judged.{said_by_pick_named}
use Rattle.bind_said.proofs.MarkLemmas.{left-more, left-end}
use Rattle.bind_said.proofs.picked.mark_picks.Goals as goal

pub picks-preserved : goal.picks-preserved
picks-preserved g c =
    left-more (said_by_pick_named c.args.input.now.doc.now c.args.names c.args.rows.now) c.args.picks.now c.args.marks.now.items c.picks.pick-index c.pick-item.result c.picks.marks.items
    c.mark_pick.new.marks.items c.picks-test.true c.pick-item.is c.picks.invariant c.in_ok-mark_pick.ensures

pub returns : goal.returns
returns g c =
    left-end (said_by_pick_named c.args.input.now.doc.now c.args.names c.args.rows.now) c.args.picks.now c.args.marks.now.items c.picks.pick-index c.picks.marks.items
    c.picks-test.false c.picks.invariant
