use Rattle.std.proofs.Common.{arith}
use Rattle.node_arena.specs.Moves.{tree_nodes}
use Rattle.bind_seats.proofs.AttributeLemmas.{currency-first, loop-found, loop-passed, long}
use Rattle.bind_seats.proofs.currencies.amount_currency.Goals as goal

pub attributes-init : goal.attributes-init
attributes-init g c =
    let doc = c.args.doc.now in
    let f = currency-first (tree_nodes doc) c.nodes_are_sound.ensures.numbered c.args.n 0 c.first_attribute-next.result c.first_attribute-next.ensures.node in
    record { at = f.at; by = f.by }

pub currency_at-requires : goal.currency_at-requires
currency_at-requires g c = let at = c.attributes.invariant.at c.in-Some.attribute c.in-Some.is in omega (arith, at.0, long c.args.doc.now)

pub returns-in-Some-2 : goal.returns-in-Some-2
returns-in-Some-2 g c =
    let doc = c.args.doc.now in
    loop-found (tree_nodes doc) c.nodes_are_sound.ensures.numbered c.args.n c.in-Some.attribute c.in_ok-text.field-0 _ c.attributes.next c.in-Some-2.text
    c.in-Some.is c.attributes.invariant.at c.attributes.invariant.by c.in_ok-text.ensures c.in-Some-2.is

pub attributes-smaller : goal.attributes-smaller
attributes-smaller g c =
    let doc = c.args.doc.now in
    (loop-passed (tree_nodes doc) c.nodes_are_sound.ensures.numbered c.args.n c.in-Some.attribute c.in_ok-text.field-0 _ c.attributes.next
    c.next_attribute-next.result
    c.in-Some.is c.attributes.invariant.at c.attributes.invariant.by c.in_ok-text.ensures c.in-None.is c.next_attribute-next.ensures.node).2

pub attributes-preserved : goal.attributes-preserved
attributes-preserved g c =
    let doc = c.args.doc.now in
    let passed = loop-passed (tree_nodes doc) c.nodes_are_sound.ensures.numbered c.args.n c.in-Some.attribute c.in_ok-text.field-0 _ c.attributes.next
    c.next_attribute-next.result
    c.in-Some.is c.attributes.invariant.at c.attributes.invariant.by c.in_ok-text.ensures c.in-None.is c.next_attribute-next.ensures.node in
    record { at = passed.0; by = passed.1 }
