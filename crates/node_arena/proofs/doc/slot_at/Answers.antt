use Rattle.std.proofs.Common.{◌≡◌, ◌<◌, length, take, subst, sym}
use Rattle.node_arena.specs.Document.{node_at}
use Rattle.node_arena.specs.Slots.{placed, kept}
use Rattle.node_arena.proofs.KeptLemmas.{kept-at}
use Rattle.node_arena.proofs.doc.slot_at.Goals as goal

pub returns : goal.returns
returns c =
    let is = c.n.view_is in
    let within = subst (λ n. n < length c.args.nodes.now) (sym is) c.requires in
    subst (λ n. placed (take n (kept c.args.nodes.now)) c.index-nodes-n.result ≡ node_at (kept c.args.nodes.now) n) is
    (sym (kept-at c.args.nodes.now c.n.inside.number c.index-nodes-n.result within c.index-nodes-n.is))
