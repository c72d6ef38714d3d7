use Rattle.std.proofs.Common.{ap, subst}
use Rattle.std.proofs.lemmas.Result.{IfOk-weaker}
use Rattle.bind_table.specs.Lines.{plan_of}
use Rattle.bind_walk.specs.Finds.{Lists}
use Rattle.bind_walk.specs.Sorting.{Sorts}
use Rattle.bind_walk.proofs.FindLemmas.{are-found}
use Rattle.bind_walk.proofs.picks.picks_by.Goals as goal

pub returns-clause-terms : goal.returns-clause-terms
returns-clause-terms g c =
    let found = are-found _ _ c.rows_are_walked.ensures c.lines_lead_as_steps_do.ensures c.requires.steps in
    let lists = c.in_ok-finds.ensures (plan_of c.args.table.now) c.requires.lines in
    IfOk-weaker c.sorted_picks.result _ _ (λ picks sorts. c.picks_are_sorted_finds.ensures.terms _ _ _ found
    (subst (λ xs. Sorts xs picks.terms.items) (ap (λ (l : Lists). l.terms) lists) sorts)) c.sorted_picks.ensures.terms

pub returns-clause-indicators : goal.returns-clause-indicators
returns-clause-indicators g c =
    let found = are-found _ _ c.rows_are_walked.ensures c.lines_lead_as_steps_do.ensures c.requires.steps in
    let lists = c.in_ok-finds.ensures (plan_of c.args.table.now) c.requires.lines in
    IfOk-weaker c.sorted_picks.result _ _ (λ picks sorts. c.picks_are_sorted_finds.ensures.indicators _ _ _ found
    (subst (λ xs. Sorts xs picks.indicators.items) (ap (λ (l : Lists). l.indicators) lists) sorts)) c.sorted_picks.ensures.indicators
