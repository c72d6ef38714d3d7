use Rattle.bind_seats.proofs.KnownLemmas.{sound}
use Rattle.bind_seats.proofs.known.nodes_are_sound.Goals as goal

pub returns : goal.returns
returns c =
    sound c.args.doc.now c.is_of_a_tree.ensures.tree c.is_of_a_tree.ensures.rooted c.is_of_a_tree.ensures.few c.is_of_a_tree.ensures.numbers
    c.moves_lead_on.ensures c.insides_are_intervals.ensures
