use Rattle.std.proofs.Common.{◌≡◌, false, is_some, sym, ap, ◌∙◌}
use Rattle.std.specs.Str.{chars}
use Rattle.xpath_types.specs.Scopes as spec
use Rattle.xpath_types.proofs.ScopeLemmas.{prefix-added, is_some-map}
use Rattle.xpath_types.proofs.scope.Scope.prefix.Goals as goal

pub returns-clause-ok : goal.returns-clause-ok
returns-clause-ok c =
    let none : is_some (spec.uri_of (chars c.args.prefix.now) c.args.self.now) ≡ false =
    ap is_some (sym c.uri.ensures) ∙ (is_some-map _ c.uri.result ∙ (sym c.is_some.ensures ∙ c.if-is_some.false)) in
    prefix-added c.args.prefix.now c.args.uri.now c.utf8.prefix _ _ _ _ _ _ c.self.view_is c.in_ok-prefix.ensures.ok c.in_ok-uri.ensures.ok none
    c.in_ok-insert.ensures.entries
