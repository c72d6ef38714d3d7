use Rattle.std.proofs.Common.{length, sym, subst, ◌∙◌, List}
use Rattle.std.proofs.lemmas.Result.{IfOk-weaker}
use Rattle.node_arena.specs.Moves.{tree_nodes}
use Rattle.bind_rows.specs.declared.rows.Row.{Row}
use Rattle.bind_meaning.specs.Currencies.{currencies}
use Rattle.bind_seats.specs.Rowed.{AreRowed}
use Rattle.bind_seats.proofs.WholeLemmas.{terms-rowed}
use Rattle.bind_seats.proofs.NumberedPicksLemmas.{seated_terms}
use Rattle.bind_seats.proofs.numbered_picks.seats_of.Goals as goal

pub all_seated-requires : goal.all_seated-requires
all_seated-requires g c =
    let nodes = tree_nodes c.args.doc.now in
    subst (λ (r : List Row). AreRowed (length r) c.as_slice.result.now) (sym c.rows.ensures)
    (terms-rowed nodes c.nodes_are_sound.ensures c.args.table.now (currencies nodes c.args.table.now) c.as_slice.result.now
    (c.as_slice.ensures.value ∙ c.in_ok-kept.ensures))

pub returns : goal.returns
returns g c =
    let nodes = tree_nodes c.args.doc.now in
    IfOk-weaker c.all_seated.result _ _
    (λ seats is. seated_terms c.same_steps_are_equal.ensures nodes c.nodes_are_sound.ensures c.rows.result.now c.args.table.now c.rows.ensures c.requires.formed
    (currencies nodes c.args.table.now) c.as_slice.result.now c.in_ok-kept.kept.items c.as_slice.ensures.value c.in_ok-kept.ensures seats.items is)
    c.all_seated.ensures
