use Rattle.written_laws.proofs.TableLemmas.{table-read, valid-read, read-again}
use Rattle.written_laws.proofs.carried_invoices_are_read_by_their_tables.Goals as goal

pub returns-clause-held : goal.returns-clause-held
returns-clause-held c =
    table-read (record {
      spelled = c.spelled_values_are_read_back.ensures;
      canonical = c.canonical_text_is_read.ensures;
      told = c.read_tells_its_tree.ensures;
      nodes = c.events_build_the_nodes_of_their_tree.ensures;
    })

pub returns-clause-valid : goal.returns-clause-valid
returns-clause-valid c =
    valid-read (record {
      spelled = c.spelled_values_are_read_back.ensures;
      canonical = c.canonical_text_is_read.ensures;
      told = c.read_tells_its_tree.ensures;
      nodes = c.events_build_the_nodes_of_their_tree.ensures;
    })

pub returns-clause-read : goal.returns-clause-read
returns-clause-read c =
    read-again (record {
      spelled = c.spelled_values_are_read_back.ensures;
      canonical = c.canonical_text_is_read.ensures;
      told = c.read_tells_its_tree.ensures;
      nodes = c.events_build_the_nodes_of_their_tree.ensures;
    })
