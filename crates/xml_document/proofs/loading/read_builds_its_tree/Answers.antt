use Rattle.std.proofs.Common.{arith}
use Rattle.xml_profile.specs.Profile.{tree_of}
use Rattle.xml_document.proofs.loading.read_builds_its_tree.Goals as goal

pub returns : goal.returns
returns c = λ limits bytes found few is.
    let read = c.read_tells_its_tree.ensures limits bytes found is in
    record {
      whole = c.events_build_a_whole_document.ensures found.names (tree_of found) found.events read.document read.tells (omega (arith, read.small));
      of_tree = c.events_build_the_nodes_of_their_tree.ensures found.names (tree_of found) found.events read.document read.tells;
    }
