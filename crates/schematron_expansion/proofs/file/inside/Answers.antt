use Rattle.std.proofs.Common.{Bor}
use Rattle.schematron_entries.specs.declared.entry.Entry.{Entry as Read}
use Rattle.schematron_meaning.specs.Lookup.{inside}
use Rattle.schematron_expansion.specs.Seen.{seen_things}
use Rattle.schematron_expansion.specs.Sorts.{test_of}
use Rattle.schematron_expansion.proofs.BodyLemmas.{thing_at, inside_chained, nothing_seen}
use Rattle.schematron_expansion.proofs.ChainLemmas.{chain_begins, chain_on}
use Rattle.schematron_expansion.proofs.file.inside.Goals as goal

pub things-init : goal.things-init
things-init c = chain_begins c.args.number (thing_at (test_of c.args.sort)) (λ es. inside (test_of c.args.sort) es c.args.number)
    (inside_chained (test_of c.args.sort) c.args.number)
    _ _ (seen_things (λ (e : Bor Read). e.now) c.new-found.result.items) _ c.requires (nothing_seen (λ (e : Bor Read). e.now) c.new-found.result.items
    c.new-found.ensures.items) c.first-next.ensures

pub things-smaller : goal.things-smaller
things-smaller c =
    let step = chain_on c.args.number (thing_at (test_of c.args.sort)) (λ es. inside (test_of c.args.sort) es c.args.number)
    (inside_chained (test_of c.args.sort) c.args.number)
    c.args.entries.now c.in-Some.at c.args.chains.now (seen_things (λ (e : Bor Read). e.now) c.things.found.items)
    (seen_things (λ (e : Bor Read). e.now) c.push_of.new.found.items)
    c.index-entries-at.result c.things.next c.next-next.result
    c.in-Some.is c.requires c.things.invariant c.index-entries-at.is c.in_ok-push_of.ensures c.next-next.ensures in
    step.1

pub things-preserved : goal.things-preserved
things-preserved c =
    let step = chain_on c.args.number (thing_at (test_of c.args.sort)) (λ es. inside (test_of c.args.sort) es c.args.number)
    (inside_chained (test_of c.args.sort) c.args.number)
    c.args.entries.now c.in-Some.at c.args.chains.now (seen_things (λ (e : Bor Read). e.now) c.things.found.items)
    (seen_things (λ (e : Bor Read). e.now) c.push_of.new.found.items)
    c.index-entries-at.result c.things.next c.next-next.result
    c.in-Some.is c.requires c.things.invariant c.index-entries-at.is c.in_ok-push_of.ensures c.next-next.ensures in
    step.0
