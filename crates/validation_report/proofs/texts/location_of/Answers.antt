use Rattle.std.proofs.Common.{◌≡◌, ◌∙◌, ◌++◌, IfOk, chars, ap, subst}
use Rattle.std.proofs.lemmas.Str.{chars-nil}
use Rattle.node_arena.specs.Moves.{tree_nodes}
use Rattle.node_locations.specs.Locations.{location}
use Rattle.validation_report.proofs.texts.location_of.Goals as goal

pub returns : goal.returns
returns c =
    let place = location (tree_nodes c.args.doc.now) c.args.n in
    let is : chars c.as_str.result.now ≡ place =
    ap chars c.as_str.ensures.value ∙ (c.in_ok-push_location.ensures ∙ ap (λ front. front ++ place) (ap chars c.new-text.ensures.bytes ∙ chars-nil)) in
    subst (λ t. IfOk c.of.result (λ text. text ≡ t)) is c.of.ensures
