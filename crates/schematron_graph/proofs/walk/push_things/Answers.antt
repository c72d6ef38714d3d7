use Rattle.std.proofs.Common.{◌≡◌, ◌++◌, [], ◌∷◌, List, Some, take, ◌-◌, ap, sym, ◌∙◌, append_assoc, append-nil, arith}
use Rattle.schematron_graph.specs.declared.part.Part.{Part}
use Rattle.schematron_graph.specs.Rules.{bodies_of, things_of}
use Rattle.schematron_graph.specs.Ranked.{found, things_behind}
use Rattle.schematron_graph.proofs.RankedLemmas.{things_of-Agrees}
use Rattle.schematron_graph.proofs.WalkLemmas.{behind_one, things_left, rest_of, first_of, rest-first, things_left-own, things_left-puts, things_left-back}
use Rattle.schematron_graph.proofs.WalkLemmas.{things_left-end, turns_left-own, turns_left-puts, turns_left-back}
use Rattle.schematron_graph.proofs.walk.push_things.Goals as goal

pub budget-init : goal.budget-init
budget-init c =
    let bodies : List (List Part) = bodies_of c.args.bodies.now in
    let all : things_left bodies (first_of c.args.rank) [] ≡ found (things_behind bodies) c.args.rank =
    append-nil (rest_of (things_of (found (things_behind bodies))) bodies (first_of c.args.rank)) ∙
    sym (rest-first things_of things_of-Agrees bodies c.args.rank c.requires) in
    rw c.new-above.ensures.items (ap (λ t. c.args.out.now.items ++ t) all)

pub budget-smaller-in-Some-Own : goal.budget-smaller-in-Some-Own
budget-smaller-in-Some-Own c =
    let e = turns_left-own (bodies_of c.args.bodies.now) c.budget.place c.budget.above.items c.in-Some-Own.thing
    (sym c.in-Some-Own.ensures.part ∙ ap Some c.in-Some-Own.field-0-is) in
    omega (arith, e)

pub budget-preserved-in-Some-Own : goal.budget-preserved-in-Some-Own
budget-preserved-in-Some-Own c =
    let bodies : List (List Part) = bodies_of c.args.bodies.now in
    let e = things_left-own bodies c.budget.place c.budget.above.items c.in-Some-Own.thing (sym c.in-Some-Own.ensures.part
    ∙ ap Some c.in-Some-Own.field-0-is) in
    rw c.in_ok-push_thing-in-Some-Own.ensures
    (append_assoc c.budget.out.items (c.in-Some-Own.thing ∷ []) (things_left bodies (behind_one c.budget.place) c.budget.above.items)
    ∙ (ap (λ t. c.budget.out.items ++ t) (sym e) ∙ c.budget.invariant))

pub budget-smaller-in-Some-Puts : goal.budget-smaller-in-Some-Puts
budget-smaller-in-Some-Puts c =
    let e = turns_left-puts (bodies_of c.args.bodies.now) c.budget.place c.budget.above.items c.in-Some-Puts.rule c.requires
    (sym c.in-Some-Puts.ensures.part ∙ ap Some c.in-Some-Puts.field-0-is) in
    rw c.in_ok-push-in-Some-Puts.ensures.items (omega (arith, e))

pub budget-preserved-in-Some-Puts : goal.budget-preserved-in-Some-Puts
budget-preserved-in-Some-Puts c =
    let bodies : List (List Part) = bodies_of c.args.bodies.now in
    let e = things_left-puts bodies c.budget.place c.budget.above.items c.in-Some-Puts.rule c.requires
    (sym c.in-Some-Puts.ensures.part ∙ ap Some c.in-Some-Puts.field-0-is) in
    rw c.in_ok-push-in-Some-Puts.ensures.items (ap (λ t. c.budget.out.items ++ t) (sym e) ∙ c.budget.invariant)

pub budget-smaller : goal.budget-smaller
budget-smaller c =
    let e = turns_left-back (bodies_of c.args.bodies.now) c.budget.place c.in-Some.last c.pop.new.self.items (sym c.in-None.ensures.part) in
    rw c.in-Some.ensures.items (omega (arith, e))

pub budget-preserved : goal.budget-preserved
budget-preserved c =
    let bodies : List (List Part) = bodies_of c.args.bodies.now in
    let e = things_left-back bodies c.budget.place c.in-Some.last c.pop.new.self.items (sym c.in-None.ensures.part) in
    ap (λ t. c.budget.out.items ++ t) (sym e ∙ ap (things_left bodies c.budget.place) (sym c.in-Some.ensures.items)) ∙ c.budget.invariant

pub returns-in-None-pop : goal.returns-in-None-pop
returns-in-None-pop c =
    let bodies : List (List Part) = bodies_of c.args.bodies.now in
    let none : c.budget.above.items ≡ [] =
    c.in-None-pop.ensures.items ∙ (append-nil c.pop.new.self.items ∙
    (c.in-None-pop.ensures.rest ∙ ap (λ n. take (n - 1) c.budget.above.items) c.in-None-pop.ensures.cases.0)) in
    sym (append-nil c.budget.out.items)
    ∙ (ap (λ t. c.budget.out.items ++ t) (sym (things_left-end bodies c.budget.place (sym c.in-None.ensures.part)) ∙
    ap (things_left bodies c.budget.place) (sym none)) ∙ c.budget.invariant)
