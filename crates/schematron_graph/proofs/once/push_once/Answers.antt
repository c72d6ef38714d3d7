use Rattle.std.proofs.Common.{◌∙◌, sym, ap, [], Some, append-nil, arith, take, ◌-◌, ◌≡◌}
use Rattle.schematron_graph.specs.Rules.{bodies_of}
use Rattle.schematron_graph.proofs.WalkLemmas.{turns_left-own, turns_left-puts, turns_left-back}
use Rattle.schematron_graph.proofs.OnceLemmas.{walks-begin, walks-own, walks-puts, walks-skip, walks-back, walks-end, written-after, turns_left-skip}
use Rattle.schematron_graph.proofs.once.push_once.Goals as goal

pub budget-init : goal.budget-init
budget-init c = walks-begin (bodies_of c.args.bodies.now) c.args.gone.now.keys c.args.rank c.args.out.now.items c.new-above.result.items c.requires.ranked
    c.requires.written c.new-above.ensures.items

pub budget-smaller-in-Some-Own : goal.budget-smaller-in-Some-Own
budget-smaller-in-Some-Own c =
    let e = turns_left-own (bodies_of c.args.bodies.now) c.budget.place c.budget.above.items c.in-Some-Own.thing
    (sym c.in-Some-Own.ensures.part ∙ ap Some c.in-Some-Own.field-0-is) in
    omega (arith, e)

pub budget-preserved-in-Some-Own : goal.budget-preserved-in-Some-Own
budget-preserved-in-Some-Own c =
    walks-own (bodies_of c.args.bodies.now) c.budget.gone.keys _ c.budget.out.items c.push.new.self.items c.budget.place c.budget.above.items
    c.in-Some-Own.thing
    (sym c.in-Some-Own.ensures.part ∙ ap Some c.in-Some-Own.field-0-is) c.in_ok-push-in-Some-Own.ensures.items c.budget.invariant

pub budget-smaller-then-not-contains : goal.budget-smaller-then-not-contains
budget-smaller-then-not-contains c =
    let e = turns_left-puts (bodies_of c.args.bodies.now) c.budget.place c.budget.above.items c.in-Some-Puts.rule c.requires.ranked
    (sym c.in-Some-Puts.ensures.part ∙ ap Some c.in-Some-Puts.field-0-is) in
    rw c.in_ok-push-in-Some-Puts.ensures.items (omega (arith, e))

pub budget-preserved-then-not-contains : goal.budget-preserved-then-not-contains
budget-preserved-then-not-contains c =
    walks-puts (bodies_of c.args.bodies.now) c.budget.gone.keys _ c.budget.out.items c.budget.place c.budget.above.items _ c.in-Some-Puts.rule c.requires.ranked
    (sym c.in-Some-Puts.ensures.part ∙ ap Some c.in-Some-Puts.field-0-is) c.in_ok-push-in-Some-Puts.ensures.items c.budget.invariant

pub budget-smaller-else-not-contains : goal.budget-smaller-else-not-contains
budget-smaller-else-not-contains c = turns_left-skip (bodies_of c.args.bodies.now) c.budget.place c.budget.above.items c.in-Some-Puts.rule
    (sym c.in-Some-Puts.ensures.part ∙ ap Some c.in-Some-Puts.field-0-is)

pub budget-preserved-else-not-contains : goal.budget-preserved-else-not-contains
budget-preserved-else-not-contains c =
    walks-skip (bodies_of c.args.bodies.now) c.budget.gone.keys _ c.budget.out.items c.budget.place c.budget.above.items c.in-Some-Puts.rule
    (sym c.in-Some-Puts.ensures.part ∙ ap Some c.in-Some-Puts.field-0-is) (sym c.contains.ensures ∙ c.if-not-contains.false) c.budget.invariant

pub budget-smaller : goal.budget-smaller
budget-smaller c =
    let e = turns_left-back (bodies_of c.args.bodies.now) c.budget.place c.in-Some.last c.pop.new.self.items (sym c.in-None.ensures.part) in
    rw c.in-Some.ensures.items (omega (arith, e))

pub budget-preserved : goal.budget-preserved
budget-preserved c =
    walks-back (bodies_of c.args.bodies.now) c.budget.gone.keys _ _ c.budget.out.items c.budget.place
    (sym c.in-None.ensures.part) c.in_ok-insert-in-None.ensures.updates.0 c.budget.above.items c.pop.new.self.items c.in-Some.last c.in-Some.ensures.items
    c.budget.invariant

pub returns-in-None-pop-clause-written : goal.returns-in-None-pop-clause-written
returns-in-None-pop-clause-written c =
    written-after (bodies_of c.args.bodies.now) c.budget.gone.keys _ _ c.budget.out.items c.budget.place
    (sym c.in-None.ensures.part) c.in_ok-insert-in-None.ensures.updates.0 c.budget.above.items c.budget.invariant

pub returns-in-None-pop-clause-alike : goal.returns-in-None-pop-clause-alike
returns-in-None-pop-clause-alike c =
    let none : c.budget.above.items ≡ [] =
    c.in-None-pop.ensures.items ∙ (append-nil c.pop.new.self.items ∙
    (c.in-None-pop.ensures.rest ∙ ap (λ n. take (n - 1) c.budget.above.items) c.in-None-pop.ensures.cases.0)) in
    walks-end (bodies_of c.args.bodies.now) c.budget.gone.keys _ _ c.budget.out.items c.budget.place
    (sym c.in-None.ensures.part) c.in_ok-insert-in-None.ensures.updates.0 c.budget.above.items none c.budget.invariant
