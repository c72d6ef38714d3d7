use Rattle.std.proofs.Common.{◌∙◌}
use Rattle.std.proofs.lemmas.Result.{IfOk-weaker}
use Rattle.node_arena.specs.Moves.{tree_nodes}
use Rattle.bind_seats.proofs.AttributeLemmas.{long}
use Rattle.bind_seats.proofs.NumberedPicksLemmas.{within, rowed, kept_terms}
use Rattle.bind_seats.proofs.numbered_picks.kept_picks.Goals as goal

pub marks_beside-requires : goal.marks_beside-requires
marks_beside-requires g c =
    let is = c.as_slice.ensures.value ∙ c.requires.picks in
    record {
      within = within _ _ (long c.args.doc.now) c.nodes_are_sound.ensures c.args.table.now c.as_slice.result.now is;
      rowed = rowed _ c.nodes_are_sound.ensures c.rows-rows.result.now c.args.table.now c.rows-rows.ensures c.as_slice.result.now is;
    }

pub staying-requires-clause-within : goal.staying-requires-clause-within
staying-requires-clause-within g c = within _ _ (long c.args.doc.now) c.nodes_are_sound.ensures c.args.table.now c.args.picks.items c.requires.picks

pub staying-requires-clause-rowed : goal.staying-requires-clause-rowed
staying-requires-clause-rowed g c = rowed _ c.nodes_are_sound.ensures c.rows-rows.result.now c.args.table.now c.rows-rows.ensures c.args.picks.items
    c.requires.picks

pub returns : goal.returns
returns g c =
    IfOk-weaker c.staying.result _ _
    (λ kept is. kept_terms (tree_nodes c.args.doc.now) c.nodes_are_sound.ensures c.rows-rows.result.now c.args.table.now c.rows-rows.ensures
    c.as_slice.result.now c.args.picks.items c.as_slice.ensures.value c.requires.picks _ c.requires.named
    c.as_slice-2.result.now c.in_ok-marks.marks.items c.as_slice-2.ensures.value c.in_ok-marks.ensures.same kept.items is)
    c.staying.ensures
