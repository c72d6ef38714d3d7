use Rattle.std.proofs.Common.{List}
use Rattle.schematron_meaning.specs.Entries.{Entry}
use Rattle.schematron_meaning.specs.Bodies.{abstract_rules, body_at}
use Rattle.schematron_entries.specs.Seen.{seen_entries}
use Rattle.schematron_expansion.specs.Bodied.{parts_at}
use Rattle.schematron_expansion.proofs.BodyLemmas.{body_chained}
use Rattle.schematron_expansion.proofs.ChainLemmas.{chain_begins, chain_on}
use Rattle.schematron_expansion.proofs.bodies.body.Goals as goal

pub items-init : goal.items-init
items-init c =
    let rules : List Entry = abstract_rules (seen_entries c.args.entries.now) in
    chain_begins c.args.node (parts_at rules) (λ es. body_at es rules c.args.node) (body_chained rules c.args.node) _ _ _ _ c.requires.chains
    c.new-parts.ensures.items c.first-next.ensures

pub items-smaller : goal.items-smaller
items-smaller c =
    let rules : List Entry = abstract_rules (seen_entries c.args.entries.now) in
    let step = chain_on c.args.node (parts_at rules) (λ es. body_at es rules c.args.node) (body_chained rules c.args.node)
    c.args.entries.now c.in-Some.at c.args.chains.now c.items.parts.items c.push_item.new.parts.items c.index-entries-at.result c.items.next c.next-next.result
    c.in-Some.is c.requires.chains c.items.invariant c.index-entries-at.is (c.in_ok-push_item.ensures _ c.requires.names) c.next-next.ensures in
    step.1

pub items-preserved : goal.items-preserved
items-preserved c =
    let rules : List Entry = abstract_rules (seen_entries c.args.entries.now) in
    let step = chain_on c.args.node (parts_at rules) (λ es. body_at es rules c.args.node) (body_chained rules c.args.node)
    c.args.entries.now c.in-Some.at c.args.chains.now c.items.parts.items c.push_item.new.parts.items c.index-entries-at.result c.items.next c.next-next.result
    c.in-Some.is c.requires.chains c.items.invariant c.index-entries-at.is (c.in_ok-push_item.ensures _ c.requires.names) c.next-next.ensures in
    step.0
