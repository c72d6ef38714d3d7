use Rattle.std.proofs.Common.{ap, ◌∙◌, [], if◌then◌else◌}
use Rattle.std.proofs.lemmas.Str.{chars-nil}
use Rattle.xml_state.specs.Namespaces.{uri_of}
use Rattle.xml_state.specs.Scopes.{bindings_of}
use Rattle.xml_state.proofs.ScopeLemmas.{takes-named}
use Rattle.xml_state.proofs.scopes.number_attribute_prefix.Goals as goal

pub returns-then-is_empty : goal.returns-then-is_empty
returns-then-is_empty c =
    let uri = uri_of (bindings_of c.args.spaces.now c.args.bindings.now) c.args.prefix.now in
    takes-named _ _ _ _ _ (chars-nil ∙ ap (λ b. if b then [] else uri) c.if-is_empty.ensures) c.number_space.ensures

pub returns-else-is_empty : goal.returns-else-is_empty
returns-else-is_empty c =
    let uri = uri_of (bindings_of c.args.spaces.now c.args.bindings.now) c.args.prefix.now in
    takes-named _ _ _ _ _ (ap (λ b. if b then [] else uri) c.if-is_empty.ensures) c.number_prefix.ensures
