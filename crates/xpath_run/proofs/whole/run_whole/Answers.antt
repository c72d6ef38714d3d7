use Rattle.std.proofs.Common.{sym, ◌∙◌}
use Rattle.xpath_meaning.specs.Values.{value}
use Rattle.std.proofs.lemmas.Result.{err_from_is_err_and}
use Rattle.xpath_parts.proofs.NamedLemmas.{unkept_walk, whole_walk, on_ok_any, no_bounds_left}
use Rattle.xpath_parts.specs.Contexts.{count}
use Rattle.xpath_parts.proofs.GivesLemmas.{gives-along, outcome-so}
use Rattle.xpath_parts.proofs.SlotLemmas as slots
use Rattle.xpath_run.proofs.whole.run_whole.Goals as goal

pub returns-in-Some-lent-clause-value : goal.returns-in-Some-lent-clause-value
returns-in-Some-lent-clause-value g c = c.outcome.ensures _ (gives-along c.copy_of.result _ _
    (slots.whole_here c.args.dynamic.now c.args.slots.now c.args.work.now c.in-Some.part.now c.in-Some.slot
    c.args.focus.now c.lent.result c.in-Some-lent.kept
    c.in-Some.ensures.some c.requires.placed c.requires.slots (sym c.is_node.ensures ∙ c.if-not-is_node.false) c.lent.ensures c.in-Some-lent.is).0
    c.copy_of.ensures)

pub returns-in-Some-lent-clause-within : goal.returns-in-Some-lent-clause-within
returns-in-Some-lent-clause-within g c = outcome-so (count c.args.dynamic.now) c.outcome.result _ (c.outcome.ensures _ c.copy_of.ensures)
    (slots.whole_here c.args.dynamic.now c.args.slots.now c.args.work.now c.in-Some.part.now c.in-Some.slot
    c.args.focus.now c.lent.result c.in-Some-lent.kept
    c.in-Some.ensures.some c.requires.placed c.requires.slots (sym c.is_node.ensures ∙ c.if-not-is_node.false) c.lent.ensures c.in-Some-lent.is).1

pub returns-in-Some-lent-clause-grown : goal.returns-in-Some-lent-clause-grown
returns-in-Some-lent-clause-grown g c = slots.grows_same c.args.slots.now

pub plainly-requires-2-clause-placed : goal.plainly-requires-2-clause-placed
plainly-requires-2-clause-placed g c = slots.part_placed c.args.dynamic.now c.args.work.now c.in-Some.part.now c.in-Some.slot c.in-Some.ensures.some
    c.requires.placed

pub returns-clause-held : goal.returns-clause-held
returns-clause-held g c = slots.whole_held c.args.dynamic.now c.plainly-2.new.slots c.fill.new.self c.args.work.now c.in-Some.part.now c.in-Some.slot
    c.args.focus.now (value c.in_ok-found.found) c.fill.result
    c.in-Some.ensures.some c.requires.placed c.in_ok-found.ensures.held (sym c.is_node.ensures ∙ c.if-not-is_node.false) c.in_ok-found.ensures.value
    c.in_ok-found.ensures.within c.fill.ensures.filled c.fill.ensures.err

pub returns-clause-grown : goal.returns-clause-grown
returns-clause-grown g c = slots.grows_more _ _ _ c.in_ok-found.ensures.grown
    (slots.whole_grows c.args.dynamic.now c.plainly-2.new.slots c.fill.new.self c.args.work.now c.in-Some.part.now c.in-Some.slot c.args.focus.now
    (value c.in_ok-found.found) c.fill.result
    c.in-Some.ensures.some c.requires.placed c.in_ok-found.ensures.held (sym c.is_node.ensures ∙ c.if-not-is_node.false) c.in_ok-found.ensures.value
    c.in_ok-found.ensures.within c.fill.ensures.filled c.fill.ensures.err)

pub returns-clause-filled : goal.returns-clause-filled
returns-clause-filled g c = λ k there is. slots.whole_filled c.args.dynamic.now c.plainly-2.new.slots c.fill.new.self c.args.work.now
    c.in-Some.part.now c.in-Some.slot c.args.focus.now (value c.in_ok-found.found) c.fill.result
    c.in-Some.ensures.some c.requires.placed c.in_ok-found.ensures.held (sym c.is_node.ensures ∙ c.if-not-is_node.false) c.in_ok-found.ensures.value
    c.in_ok-found.ensures.within c.fill.ensures.filled c.fill.ensures.err
    (slots.grows_long _ _ c.in_ok-found.ensures.grown ∙ c.requires.long) c.fill.ensures.value k there

pub returns-in_default-clause-cost : goal.returns-in_default-clause-cost
returns-in_default-clause-cost g c = λ walk is empty node. c.plainly.ensures.cost walk (sym (unkept_walk c.args.work.now c.in_default.ensures.none) ∙ is) node

pub returns-in-Some-lent-clause-cost : goal.returns-in-Some-lent-clause-cost
returns-in-Some-lent-clause-cost g c = λ walk is empty node. no_bounds_left c.args.slots.now c.in-Some.slot c.lent.result c.in-Some-lent.kept
    c.lent.ensures c.in-Some-lent.is
    (empty c.in-Some.slot (slots.whole_is c.args.work.now c.in-Some.part.now c.in-Some.slot c.in-Some.ensures.some))

pub returns-clause-cost : goal.returns-clause-cost
returns-clause-cost g c = λ walk is empty node.
    let bounds = c.in_ok-found.ensures.cost walk (sym (whole_walk c.args.work.now c.in-Some.part.now c.in-Some.slot c.in-Some.ensures.some) ∙ is) node in
    record { most = bounds.most; least = λ leading. on_ok_any _ c.fill.result (bounds.least leading) }

pub returns-in_err-found-clause-cost : goal.returns-in_err-found-clause-cost
returns-in_err-found-clause-cost g c = λ walk is empty node.
    let bounds = c.in_err-found.ensures.cost walk (sym (whole_walk c.args.work.now c.in-Some.part.now c.in-Some.slot c.in-Some.ensures.some) ∙ is) node in
    rw (err_from_is_err_and c.from_residual.result c.from_residual.ensures.1).1 (record { most = bounds.most; least = λ leading. tt })
