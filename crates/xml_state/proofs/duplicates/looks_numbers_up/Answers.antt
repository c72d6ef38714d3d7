use Rattle.std.proofs.Common.{get_or, refl, sym, ap, ◌∙◌}
use Rattle.xml_state.proofs.LookupLemmas.{has-no-numbers, counted-found, counted-new, counts-more}
use Rattle.xml_state.proofs.duplicates.looks_numbers_up.Goals as goal

pub loop-number-init : goal.loop-number-init
loop-number-init c = record { twice = refl; has = has-no-numbers c.new-seen.result c.new-seen.ensures.empty }

pub returns-then-not-branch : goal.returns-then-not-branch
returns-then-not-branch c =
    let is = c.number.ensures ∙ (c.number-item.is ∙ ap (get_or c.args.numbers.now c.loop-number.number-index) (sym c.number.ensures)) in
    counted-found c.args.numbers.now c.loop-number.number-index c.number.result c.loop-number.seen _ _ c.loop-number-test.true is c.loop-number.invariant.twice
    c.loop-number.invariant.has c.in_ok-insert.ensures.added c.if-not-branch.true

pub loop-number-preserved : goal.loop-number-preserved
loop-number-preserved c =
    let is = c.number.ensures ∙ (c.number-item.is ∙ ap (get_or c.args.numbers.now c.loop-number.number-index) (sym c.number.ensures)) in
    record {
      twice =
          counted-new c.args.numbers.now c.loop-number.number-index c.number.result c.loop-number.seen _ _ c.loop-number-test.true is
          c.loop-number.invariant.twice c.loop-number.invariant.has c.in_ok-insert.ensures.added
          c.if-not-branch.false;
      has =
          counts-more c.args.numbers.now c.loop-number.number-index c.number.result c.loop-number.seen _ _ c.loop-number-test.true is
          c.loop-number.invariant.twice c.loop-number.invariant.has c.in_ok-insert.ensures.added
          c.insert.new.self c.in_ok-insert.ensures.updates;
    }
