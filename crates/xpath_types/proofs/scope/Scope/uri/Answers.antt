use Rattle.std.proofs.Common.{sym, ap, ◌∙◌}
use Rattle.std.specs.Str.{chars}
use Rattle.xpath_types.specs.Scopes.{Declared, first_uri}
use Rattle.xpath_types.proofs.ScopeLemmas.{uri-fn, uri-xs, uri-bound}
use Rattle.xpath_types.proofs.scope.Scope.uri.Goals as goal

pub returns-then-is_text : goal.returns-then-is_text
returns-then-is_text c = sym (uri-fn _ c.args.self.now _ c.is_text.ensures c.if-is_text.true)

pub returns-then-is_text-2 : goal.returns-then-is_text-2
returns-then-is_text-2 c = sym (uri-xs _ c.args.self.now _ c.is_text.ensures _ c.is_text-else-is_text.ensures c.if-is_text.false c.if-is_text-2.true)

pub returns-else-is_text-2 : goal.returns-else-is_text-2
returns-else-is_text-2 c = c.bound_uri.ensures ∙ (ap (λ (declared : Declared). first_uri (chars c.args.prefix.now) declared.prefixes) c.self.view_is
    ∙ sym (uri-bound _ c.args.self.now _ c.is_text.ensures _ c.is_text-else-is_text.ensures c.if-is_text.false c.if-is_text-2.false))
