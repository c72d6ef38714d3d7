use Rattle.std.proofs.Common.{◌≡◌, length, ap, rules}
use Rattle.xml_state.specs.Scopes.{InScope}
use Rattle.xml_state.proofs.ScopeLemmas.{depth_is}
use Rattle.xml_state.proofs.scopes.Scopes.depth.Goals as goal

pub returns : goal.returns
returns c =
    let s = c.self.inside in
    let e : length s.frames.items ≡ length c.args.self.now.open_elements =
    depth_is s.spaces s.frames.items s.written.items s.bindings.items _ (ap (λ (s : InScope). s.open_elements) c.self.view_is) in
    search rules
