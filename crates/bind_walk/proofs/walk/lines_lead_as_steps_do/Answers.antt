use Rattle.bind_walk.proofs.LinkLemmas.{leads-alike}
use Rattle.bind_walk.proofs.walk.lines_lead_as_steps_do.Goals as goal

pub returns : goal.returns
returns c =
    let of = c.is_of_a_tree.ensures in
    leads-alike c.args.doc.now (record {
      named = λ name n within. c.names_are_found_by_number.ensures c.args.doc.now name n of.distinct of.named within;
      numbers = c.chains_lead_on.ensures.numbers;
    })
