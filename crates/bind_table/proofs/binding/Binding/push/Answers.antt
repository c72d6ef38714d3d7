use Rattle.std.proofs.Common.{◌≡◌, ℕ, ◌+◌, List, [], ◌∷◌, ◌++◌, length, sym, ap, ◌∙◌, arith, length-append}
use Rattle.bind_rows.specs.declared.rows.Row.{Row}
use Rattle.bind_rows.specs.declared.rows.Step.{Step}
use Rattle.bind_table.specs.declared.lines.Line.{Line}
use Rattle.bind_table.specs.Lines.{Plan, Cell, flat, add, grown, plan_of, nothing}
use Rattle.bind_table.proofs.binding.Binding.push.Goals as goal

grown-append : (plan : Plan) (n : ℕ) (rows : List Row) (row : Row)
    → grown plan n (rows ++ row ∷ []) ≡ add row.path (record { number = n + length rows; row = row }) (grown plan n rows)
grown-append plan n [] row = let e : n ≡ n + 0 = omega arith in ap (λ k. add row.path (record { number = k; row = row }) plan) e
grown-append plan n (r ∷ rows) row =
    let e : n + 1 + length rows ≡ n + length (r ∷ rows) = omega arith in
    grown-append (add r.path (record { number = n; row = r }) plan) (n + 1) rows row
    ∙ ap (λ k. add row.path (record { number = k; row = row }) (grown plan n (r ∷ rows))) e

push_rows : (rows rows' : List Row) (row : Row) (n : ℕ) (path : List Step) (lines : List Line)
    → ((cell : Cell) → cell.number ≡ n → lines ≡ flat (add path cell (plan_of rows)))
    → n ≡ length rows → path ≡ row.path → rows' ≡ rows ++ row ∷ [] → lines ≡ flat (plan_of rows')
push_rows rows rows' row n path lines says named path_is is =
    let cell : Cell = record { number = 0 + length rows; row = row } in
    says cell (let e : 0 + length rows ≡ n = omega (arith, named) in e)
    ∙ (ap (λ p. flat (add p cell (plan_of rows))) path_is ∙ (ap flat (sym (grown-append nothing 0 rows row)) ∙ ap (λ rs. flat (plan_of rs)) (sym is)))

pub invariant_of-self-in-Ok : goal.invariant_of-self-in-Ok
invariant_of-self-in-Ok c = (
  push_rows c.self.inside.rows.items _ c.args.row _ _ _
      (λ cell named. c.in_ok-add_row.ensures.ok _ cell c.self.invariant.0 named)
      (c.len.ensures ∙ (c.reserve.new.self.ok.0 ∙ ap length c.reserve.ensures.items))
      c.as_slice.ensures
      (c.in-Ok.ensures.items ∙ ap (λ rs. rs ++ c.args.row ∷ []) c.reserve.ensures.items),
  (let few = c.requires.few in
      let seen = ap length c.self.view_is in
      let items = ap length (c.in-Ok.ensures.items ∙ ap (λ rs. rs ++ c.args.row ∷ []) c.reserve.ensures.items) in
      let one = length-append c.self.inside.rows.items (c.args.row ∷ []) in
      omega arith),
)
