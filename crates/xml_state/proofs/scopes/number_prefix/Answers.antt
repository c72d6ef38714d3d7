use Rattle.std.proofs.Common.{◌∙◌}
use Rattle.xml_state.proofs.ScopeLemmas.{takes-inside, takes-outside}
use Rattle.xml_state.proofs.scopes.number_prefix.Goals as goal

pub returns-in-Some : goal.returns-in-Some
returns-in-Some c = takes-inside _ _ _ c.in-Some.space c.requires.bound (c.in-Some.ensures ∙ c.requires.found.shows c.args.prefix.now)

pub returns-in-None : goal.returns-in-None
returns-in-None c =
    takes-outside c.args.spaces.now c.args.prefix.now c.args.bindings.now _ _ _
    (c.in-None.ensures ∙ c.requires.found.shows c.args.prefix.now) c.known_uri.ensures c.number_space.ensures
