use Rattle.written_laws.proofs.TextLemmas.{table-round, syntax-round}
use Rattle.written_laws.proofs.texts.round_trip.Goals as goal

pub returns-clause-table : goal.returns-clause-table
returns-clause-table c =
    table-round
    (record {
      spelled = c.spelled_values_are_read_back.ensures;
      canonical = c.canonical_text_is_read.ensures;
      told = c.read_tells_its_tree.ensures;
      nodes = c.events_build_the_nodes_of_their_tree.ensures;
    })
    c.carried_invoices_meet_each_condition.ensures.entries c.carried_invoices_are_read_exactly.ensures

pub returns-clause-syntax : goal.returns-clause-syntax
returns-clause-syntax c =
    syntax-round
    (record {
      spelled = c.spelled_values_are_read_back.ensures;
      canonical = c.canonical_text_is_read.ensures;
      told = c.read_tells_its_tree.ensures;
      nodes = c.events_build_the_nodes_of_their_tree.ensures;
    })
    c.carried_invoices_meet_each_condition.ensures.entries c.carried_invoices_are_read_exactly.ensures
