use Rattle.xml_profile.specs.Profile.{tree_of}
use Rattle.xml_state.specs.Sizes.{rule_limits}
use Rattle.rule_library.proofs.loading.files_are_documents.Goals as goal

pub returns : goal.returns
returns c = λ content found is.
    let read = c.read_tells_its_tree.ensures rule_limits content found is in
    record {
      tree = tree_of found;
      whole = read.document;
      has_nodes = c.events_build_the_nodes_of_their_tree.ensures found.names (tree_of found) found.events read.document read.tells;
    }
