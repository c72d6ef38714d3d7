use Rattle.std.proofs.Common.{ap, ◌∙◌}
use Rattle.xml_events.specs.Events.{ends}
use Rattle.node_arena.specs.Document.{after}
use Rattle.node_arena.proofs.BuilderLemmas.{ended_behind, closed_around}
use Rattle.node_arena.proofs.builder.Builder.end_element.Goals as goal

pub returns : goal.returns
returns c =
    let so_far = c.in_ok-settle_text.ensures.nodes in
    let inside = c.in_ok-settle_text.ensures.around in
    ended_behind _ _ _ _ _ so_far inside (closed_around _ _ _ _ c.deref.ensures.value c.close-self-inside.ensures.around) ∙ ap (after ends) c.self.view_is
