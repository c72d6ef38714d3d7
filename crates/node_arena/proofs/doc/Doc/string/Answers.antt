use Rattle.std.proofs.Common.{◌≡◌, ℕ, ◌+◌, length, take, drop, IfOk, subst, ap, ◌∙◌, arith}
use Rattle.std.proofs.lemmas.List.{length-take, length-drop}
use Rattle.std.proofs.lemmas.Result.{on_ok_weaker}
use Rattle.node_arena.specs.Document.{Document}
use Rattle.node_arena.proofs.KeptLemmas.{kept_length}
use Rattle.node_arena.proofs.StringLemmas.{string_is}
use Rattle.node_arena.proofs.doc.Doc.string.Goals as goal

pub split_at-requires : goal.split_at-requires
split_at-requires g c =
    let seen = ap length c.deref.ensures.value in
    let count = ap (λ (document : Document). length document.nodes) c.self.view_is in
    let last = c.last.view_is in
    omega (arith, c.last_inside-last.ensures.within.1, seen, count, last, kept_length c.self.inside.nodes.items)

pub returns-clause-string : goal.returns-clause-string
returns-clause-string g c =
    let inside = c.split_at-2.ensures.back
    ∙ (ap (λ (n : ℕ). drop (n + 1) c.split_at.result.0.now) c.n.view_is
    ∙ ap (drop (c.args.n + 1)) (c.split_at.ensures.front
    ∙ (ap (λ (n : ℕ). take (n + 1) c.deref.result.now) c.last.view_is ∙ ap (take (c.last_inside-last.result + 1)) c.deref.ensures.value))) in
    subst (λ characters. IfOk c.join_texts.result (λ string. string ≡ characters))
    (string_is c.self.inside.nodes.items _ _ _ _ c.self.invariant c.self.view_is c.args.n c.last_inside-last.result c.requires c.last_inside-last.ensures.node
    c.last_inside-last.ensures.within.0 c.last_inside-last.ensures.within.1 _ c.text.ensures _ inside)
    c.join_texts.ensures.string

pub returns-clause-steps : goal.returns-clause-steps
returns-clause-steps g c =
    let seen = ap length c.deref.ensures.value in
    let count = ap (λ (document : Document). length document.nodes) c.self.view_is in
    let last = c.last.view_is in
    let first = c.n.view_is in
    let front = ap length c.split_at.ensures.front ∙ length-take (c.last.inside.number + 1) c.deref.result.now in
    let back = ap length c.split_at-2.ensures.back ∙ length-drop (c.n.inside.number + 1) c.split_at.result.0.now in
    let node = c.last_inside-last.ensures.node in
    on_ok_weaker c.join_texts.result (λ steps. omega (
      arith,
      steps,
      c.last_inside-last.ensures.step,
      c.last_inside-last.ensures.within.0,
      c.last_inside-last.ensures.within.1,
      seen,
      count,
      last,
      first,
      front,
      back,
      node,
      kept_length c.self.inside.nodes.items,
    )) c.join_texts.ensures.steps
