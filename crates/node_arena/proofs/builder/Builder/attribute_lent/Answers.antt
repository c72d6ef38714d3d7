use Rattle.std.proofs.Common.{refl, ap, ◌∙◌, arith}
use Rattle.xml_events.specs.Events.{has_attribute}
use Rattle.node_arena.specs.Document.{after, last_place}
use Rattle.node_arena.specs.Slots.{kept}
use Rattle.node_arena.proofs.BuilderLemmas.{attributed}
use Rattle.node_arena.proofs.GrowingLemmas.{growing-more, path-more, kept-more}
use Rattle.node_arena.proofs.builder.Builder.attribute_lent.Goals as goal

pub invariant_of-self-2 : goal.invariant_of-self-2
invariant_of-self-2 c =
    growing-more _ _ _ _ _ _ c.in_ok-settle_text.ensures.growing refl c.push_within.ensures.items c.push_within-2.ensures.items
    (omega (arith, c.len-number.ensures, c.settle_text.new.nodes.ok.0))

pub returns : goal.returns
returns c =
    let so_far = c.in_ok-settle_text.ensures.nodes in
    let inside = c.in_ok-settle_text.ensures.around in
    let pushed = kept-more _ _ _ _ _ _ c.in_ok-settle_text.ensures.growing refl c.push_within.ensures.items c.push_within-2.ensures.items
    (omega (arith, c.len-number.ensures, c.settle_text.new.nodes.ok.0)) in
    let around = path-more _ _ _ _ _ _ c.in_ok-settle_text.ensures.growing refl c.push_within.ensures.items c.push_within-2.ensures.items
    (omega (arith, c.len-number.ensures, c.settle_text.new.nodes.ok.0)) in
    let at = c.last_place.ensures ∙ ap (λ slots. last_place (kept slots)) c.deref.ensures.value in
    attributed _ _ _ _ _ _ _ _ _ _ so_far inside pushed refl at around ∙ ap (after (has_attribute c.args.name _)) c.self.view_is
