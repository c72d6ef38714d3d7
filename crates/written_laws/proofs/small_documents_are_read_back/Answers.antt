use Rattle.written_laws.proofs.ReadLemmas.{read-back}
use Rattle.written_laws.proofs.small_documents_are_read_back.Goals as goal

pub returns : goal.returns
returns c =
    read-back (record {
      spelled = c.spelled_values_are_read_back.ensures;
      canonical = c.canonical_text_is_read.ensures;
      told = c.read_tells_its_tree.ensures;
      nodes = c.events_build_the_nodes_of_their_tree.ensures;
    })
