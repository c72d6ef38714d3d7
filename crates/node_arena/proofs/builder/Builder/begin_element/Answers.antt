use Rattle.std.proofs.Common.{refl, ap, ◌∙◌, arith}
use Rattle.xml_events.specs.Events.{starts}
use Rattle.node_arena.specs.Document.{after}
use Rattle.node_arena.proofs.BuilderLemmas.{started}
use Rattle.node_arena.proofs.GrowingLemmas.{growing-opened, path-opened, kept-more}
use Rattle.node_arena.proofs.KeptLemmas.{kept_length}
use Rattle.node_arena.proofs.builder.Builder.begin_element.Goals as goal

pub invariant_of-self-2 : goal.invariant_of-self-2
invariant_of-self-2 c =
    growing-opened _ _ _ _ _ _ c.in_ok-settle_text.ensures.growing refl c.push_within.ensures.items c.push_within-2.ensures.items
    (omega (arith, c.len-number.ensures, c.settle_text.new.nodes.ok.0))

pub returns : goal.returns
returns c =
    let so_far = c.in_ok-settle_text.ensures.nodes in
    let inside = c.in_ok-settle_text.ensures.around in
    let count = kept_length c.settle_text.new.nodes.items in
    let pushed = kept-more _ _ _ _ _ _ c.in_ok-settle_text.ensures.growing refl c.push_within.ensures.items c.push_within-2.ensures.items
    (omega (arith, c.len-number.ensures, c.settle_text.new.nodes.ok.0)) in
    let opened = path-opened _ _ _ _ _ _ c.in_ok-settle_text.ensures.growing refl c.push_within.ensures.items c.push_within-2.ensures.items
    (omega (arith, c.len-number.ensures, c.settle_text.new.nodes.ok.0)) in
    started _ _ _ _ _ _ _ _ _ _ so_far inside pushed refl opened (omega (arith, count, c.len-number.ensures, c.settle_text.new.nodes.ok.0))
    ∙ ap (after (starts c.args.name c.args.place.byte)) c.self.view_is
