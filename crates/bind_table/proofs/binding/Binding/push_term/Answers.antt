use Rattle.std.proofs.Common.{◌≡◌, List, sym, subst}
use Rattle.bind_rows.specs.declared.rows.Row.{Row}
use Rattle.bind_table.specs.Limits.{HasSteps, HasSmallNumbers, HasRoom}
use Rattle.bind_table.proofs.ExtendLemmas.{added-steps, added-numbers}
use Rattle.bind_table.proofs.binding.Binding.push_term.Goals as goal

pub push-requires-clause-steps : goal.push-requires-clause-steps
push-requires-clause-steps c =
    let seen = c.self.view_is in
    let lent = c.as_slice.ensures.value in
    let same : c.args.self.now ≡ c.as_slice.result.now = cc in
    subst HasSteps (sym c.in_ok-row.ensures)
    (added-steps c.args.document_type c.as_slice.result.now c.args.term.now (subst (λ (rows : List Row). HasRoom rows c.args.term.now) same c.requires.room))

pub push-requires-clause-numbers : goal.push-requires-clause-numbers
push-requires-clause-numbers c =
    let seen = c.self.view_is in
    let lent = c.as_slice.ensures.value in
    let same : c.args.self.now ≡ c.as_slice.result.now = cc in
    subst HasSmallNumbers (sym c.in_ok-row.ensures)
    (added-numbers c.args.document_type c.as_slice.result.now c.args.term.now (subst (λ (rows : List Row). HasRoom rows c.args.term.now) same c.requires.room))
