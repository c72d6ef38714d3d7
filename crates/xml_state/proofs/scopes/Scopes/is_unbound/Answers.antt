use Rattle.std.proofs.Common.{ap, sym, ◌∙◌, is_none}
use Rattle.xml_state.specs.Namespaces.{bound_uri}
use Rattle.xml_state.specs.Scopes.{InScope}
use Rattle.xml_state.proofs.ScopeLemmas.{bound-inside, bound-outside}
use Rattle.xml_state.proofs.scopes.Scopes.is_unbound.Goals as goal

pub returns-in-Some : goal.returns-in-Some
returns-in-Some c =
    let scopes = c.self.inside in
    sym (ap is_none (bound-inside scopes.spaces c.args.prefix.now scopes.bindings.items _ (c.in-Some.ensures ∙ c.self.invariant.found.shows c.args.prefix.now)))
    ∙ ap (λ (s : InScope). is_none (bound_uri c.args.prefix.now s.bound)) c.self.view_is

pub returns-in-None : goal.returns-in-None
returns-in-None c =
    let scopes = c.self.inside in
    c.is_unknown.ensures
    ∙ (sym (ap is_none (bound-outside scopes.spaces c.args.prefix.now scopes.bindings.items
    (c.in-None.ensures ∙ c.self.invariant.found.shows c.args.prefix.now)))
    ∙ ap (λ (s : InScope). is_none (bound_uri c.args.prefix.now s.bound)) c.self.view_is)
