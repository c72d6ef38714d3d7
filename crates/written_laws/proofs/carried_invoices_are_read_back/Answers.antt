use Rattle.written_laws.proofs.TableLemmas.{table-back, valid-back}
use Rattle.written_laws.proofs.carried_invoices_are_read_back.Goals as goal

pub returns-clause-held : goal.returns-clause-held
returns-clause-held c =
    table-back (record {
      spelled = c.spelled_values_are_read_back.ensures;
      canonical = c.canonical_text_is_read.ensures;
      told = c.read_tells_its_tree.ensures;
      nodes = c.events_build_the_nodes_of_their_tree.ensures;
    })

pub returns-clause-valid : goal.returns-clause-valid
returns-clause-valid c =
    valid-back (record {
      spelled = c.spelled_values_are_read_back.ensures;
      canonical = c.canonical_text_is_read.ensures;
      told = c.read_tells_its_tree.ensures;
      nodes = c.events_build_the_nodes_of_their_tree.ensures;
    })
