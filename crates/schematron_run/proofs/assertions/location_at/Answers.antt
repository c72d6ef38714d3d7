use Rattle.std.proofs.Common.{◌≡◌, ◌∙◌, ◌++◌, IfOk, chars, ap, subst}
use Rattle.std.proofs.lemmas.Str.{chars-nil}
use Rattle.node_locations.specs.Locations.{location}
use Rattle.schematron_run.specs.Inputs.{nodes_of}
use Rattle.schematron_run.proofs.assertions.location_at.Goals as goal

pub returns : goal.returns
returns c =
    let place = location (nodes_of c.args.input.now) c.args.n in
    let is : chars c.as_str.result.now ≡ place =
    ap chars c.as_str.ensures.value ∙ (c.in_ok-push_location.ensures ∙ ap (λ front. front ++ place) (ap chars c.new-text.ensures.bytes ∙ chars-nil)) in
    subst (λ t. IfOk c.of.result (λ text. text ≡ t)) is c.of.ensures
