use Rattle.std.proofs.Common.{refl, ap, ◌∙◌, ◌+◌, ◌-◌, length}
use Rattle.std.proofs.lemmas.Result.{on_ok_weaker}
use Rattle.node_arena.specs.Document.{Document, node_at}
use Rattle.rule_library.specs.Joining.{closed_to}
use Rattle.rule_library.specs.Walk.{around}
use Rattle.rule_library.proofs.TurnLemmas.{closes}
use Rattle.rule_library.proofs.walk.close.Goals as goal

pub returns : goal.returns
returns c =
    let w = c.args.walk.now in
    let at = c.requires in
    let level = c.level_of-level.ensures ∙ ap (λ (d : Document). length (node_at d.nodes c.args.n).above) c.top_doc.ensures in
    let count = c.in_ok-count.ensures ∙ ap (λ l. w.top.base + (l - around w.top.bare)) level in
    record {
      closed = on_ok_weaker c.close_to.result (λ e. closes w c.args.n c.close_to.new.self at (e ∙ ap (λ m. closed_to m w.joined) count)) c.close_to.ensures;
      stands = on_ok_weaker c.close_to.result
          (λ e. record {
            stands = record { top = at.stands.top; outer = at.stands.outer; long = at.stands.long; few = at.stands.few };
            here = at.here;
            within =
                at.within;
          }) c.close_to.ensures;
      nodes = on_ok_weaker c.close_to.result (λ e. refl) c.close_to.ensures;
    }
