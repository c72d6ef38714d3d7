use Rattle.std.proofs.Common.{◌≡◌, map, length, reverse, ap, arith}
use Rattle.std.proofs.lemmas.Bool.Decides.{Decides-eqb}
use Rattle.xml_tokens.specs.Seen.{seen_attribute}
use Rattle.xml_state.specs.Scopes.{inside_innermost}
use Rattle.xml_state.proofs.ScopeLemmas.{innermost-bound, declared-same}
use Rattle.xml_state.proofs.scopes.Scopes.is_declared.Goals as goal

pub returns-then-len-bindings_inside : goal.returns-then-len-bindings_inside
returns-then-len-bindings_inside c = λ h.
    let s = c.self.inside in
    let turned = ap (λ x. inside_innermost (reverse x)) c.deref.ensures.value in
    let all : length s.bindings.items ≡ inside_innermost (reverse s.frames.items) = omega (arith, turned) in
    declared-same c.args.self.now (map seen_attribute c.args.attributes.now) c.declares.result c.declares.ensures h
    (innermost-bound s.spaces s.frames.items s.written.items s.bindings.items s.names c.args.self.now c.self.view_is all)

pub returns-else-len-bindings_inside : goal.returns-else-len-bindings_inside
returns-else-len-bindings_inside c = λ h. absurd (c.if-len-bindings_inside.false ((Decides-eqb c.len.result c.bindings_inside.result).0 h))
