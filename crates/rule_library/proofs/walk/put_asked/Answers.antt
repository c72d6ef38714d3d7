use Rattle.std.proofs.Common.{sym, ap, subst, ◌∙◌}
use Rattle.std.specs.Prelude.{IfOk, IfErr}
use Rattle.std.proofs.lemmas.Result.{on_ok_weaker}
use Rattle.rule_library.specs.Requests.{asked_by}
use Rattle.rule_library.specs.Readings.{Readings}
use Rattle.rule_library.specs.Leads.{Reaches}
use Rattle.rule_library.specs.Faults.{Fails}
use Rattle.rule_library.specs.Turns.{given, Refuses, rest_of, node_rest, asked_rest, fault_at}
use Rattle.rule_library.specs.declared.faults.LoadKind.TheVariants as kinds
use Rattle.rule_library.proofs.LeadsLemmas.{goes_same, fails_pure, refused_fails}
use Rattle.rule_library.proofs.walk.put_asked.Goals as goal

pub returns-in-Stays : goal.returns-in-Stays
returns-in-Stays g c =
    let w = c.args.walk.now in
    let n = c.args.n in
    let same = ap (λ r. asked_rest w n (asked_by r)) (sym c.in-Stays.is) ∙ c.request_in.ensures in
    record {
      goes = goes_same c.put_element.result (node_rest w n) (rest_of c.put_element.new.walk) (g.S.Shelf.view c.args.shelf.now)
          (on_ok_weaker c.put_element.result (λ e. e ∙ same) c.put_element.ensures.goes);
      stands = c.put_element.ensures.stands;
      fails = fails_pure c.put_element.result (node_rest w n) (g.S.Shelf.view c.args.shelf.now)
          (subst (λ (r : Readings). IfErr c.put_element.result (Refuses r)) same c.put_element.ensures.fails);
    }

pub returns-in-Bad-clause-fails : goal.returns-in-Bad-clause-fails
returns-in-Bad-clause-fails g c =
    let w = c.args.walk.now in
    let n = c.args.n in
    let same = ap (λ r. asked_rest w n (asked_by r)) (sym c.in-Bad.is) ∙ c.request_in.ensures in
    refused_fails (node_rest w n) c.fault_in.result (g.S.Shelf.view c.args.shelf.now) (given (fault_at w n kinds.BadHref) tt (sym same) c.fault_in.ensures)

pub returns-in-RootOf : goal.returns-in-RootOf
returns-in-RootOf g c =
    let w = c.args.walk.now in
    let n = c.args.n in
    let same = ap (λ r. asked_rest w n (asked_by r)) (sym c.in-RootOf.is) ∙ c.request_in.ensures in
    record {
      goes = subst (λ (r : Readings). IfOk c.put_part.result
          (λ _. Reaches r (rest_of c.put_part.new.walk) (g.S.Shelf.view c.args.shelf.now) (g.S.Shelf.view c.put_part.new.shelf)))
          same c.put_part.ensures.goes;
      stands = c.put_part.ensures.stands;
      fails = subst (λ (r : Readings). IfErr c.put_part.result (λ fault. Fails r fault (g.S.Shelf.view c.args.shelf.now) (g.S.Shelf.view c.put_part.new.shelf)))
          same c.put_part.ensures.fails;
    }

pub returns-in-InsideOf : goal.returns-in-InsideOf
returns-in-InsideOf g c =
    let w = c.args.walk.now in
    let n = c.args.n in
    let same = ap (λ r. asked_rest w n (asked_by r)) (sym c.in-InsideOf.is) ∙ c.request_in.ensures in
    record {
      goes = subst (λ (r : Readings). IfOk c.put_part-in-InsideOf.result
          (λ _. Reaches r (rest_of c.put_part-in-InsideOf.new.walk) (g.S.Shelf.view c.args.shelf.now) (g.S.Shelf.view c.put_part-in-InsideOf.new.shelf)))
          same c.put_part-in-InsideOf.ensures.goes;
      stands = c.put_part-in-InsideOf.ensures.stands;
      fails = subst (λ (r : Readings). IfErr c.put_part-in-InsideOf.result
          (λ fault. Fails r fault (g.S.Shelf.view c.args.shelf.now) (g.S.Shelf.view c.put_part-in-InsideOf.new.shelf)))
          same c.put_part-in-InsideOf.ensures.fails;
    }
