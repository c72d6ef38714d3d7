use Rattle.std.proofs.Common.{◌++◌, ap, ◌∙◌}
use Rattle.std.specs.Prelude.{chars}
use Rattle.std.proofs.lemmas.Str.{chars-nil}
use Rattle.node_arena.specs.Moves.{tree_nodes}
use Rattle.node_locations.specs.Locations.{location}
use Rattle.item_listing.proofs.lines.locate.Goals as goal

pub returns : goal.returns
returns c =
    c.in_ok-push_location.ensures ∙ ap (λ x. x ++ location (tree_nodes c.args.doc.now) c.args.n) (ap chars c.clear.ensures.bytes ∙ chars-nil)
