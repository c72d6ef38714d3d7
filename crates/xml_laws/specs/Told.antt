-- What a document tells is a tree.
use Rattle.std.specs.Prelude.{◌+◌, ◌≤◌}
use Rattle.inv_base.specs.Tree.{Forest, IsDocument, size}
use Rattle.xml_state.specs.declared.limits.Limits.{Limits}
use Rattle.xml_events.specs.Documents.{Tells}
use Rattle.xml_profile.specs.Profile.{Document}

-- What was read tells the tree, which is that of a document and keeps the limit on nodes.
pub record IsReadAs (limits : Limits) (found : Document) (tree : Forest) : Type 0 where
  pub document : IsDocument tree
  pub tells : Tells found.names tree found.events
  pub small : size tree + 1 ≤ limits.nodes
