-- The lines of a table stand by their numbers, and no two beside one another have one step.
use Rattle.std.proofs.Common.{◌≡◌, ℕ, ◌+◌, ◌<◌, ◌≤◌, Bool, true, false, List, [], ◌∷◌, refl, sym, ap, ◌∙◌, arith}
use Rattle.std.specs.Prelude.{nat_lt}
use Rattle.std.proofs.lemmas.Bool.{ltb-true, ltb-false, false≢true}
use Rattle.bind_rows.specs.declared.rows.Row.{Row}
use Rattle.bind_rows.specs.declared.rows.Step.{Step}
use Rattle.bind_rows.specs.Same.{same_step, choose}
use Rattle.bind_table.specs.Lines.{Cell, Plan, nothing, a_line, own_cells, into, add, grown, plan_of}
use Rattle.bind_table.proofs.PathLemmas.{step-itself}
use Rattle.extension_laws.proofs.AddLemmas.{Past, Sorted}

past-below : (s t : Step) → s.number < t.number → (plan : Plan) → Past t plan → Past s plan
past-below s t below nothing p = tt
past-below s t below (a_line u cells inside rest) p =
    (omega (arith, below, p.0), ((λ e. (let n = ap (λ (r : Step). r.number) e in omega (arith, below, p.0, n))), past-below s t below rest p.1.1))

other : (s t : Step) → same_step s t ≡ false → t ≡ s → ⊥
other s t e same = false≢true (sym e ∙ (ap (same_step s) same ∙ step-itself s))

module _ (s : Step) (own : List Cell → List Cell) (deeper : Plan → Plan) (keeps : (plan : Plan) → Sorted plan → Sorted (deeper plan)) where
  past-by : (r t : Step) (cells : List Cell) (inside rest : Plan) (a b : Bool) → r.number ≤ s.number → (r ≡ s → ⊥) → Past r (a_line t cells inside rest)
      → Past r (into s own deeper rest)
      → Past r (choose a (λ _. a_line t (own cells) (deeper inside) rest)
      (λ _. choose b (λ _. a_line s (own []) (deeper nothing) (a_line t cells inside rest)) (λ _. a_line t cells inside (into s own deeper rest))))
  past-by r t cells inside rest true b low ne p later = p
  past-by r t cells inside rest false true low ne p later = (low, (ne, p))
  past-by r t cells inside rest false false low ne p later = (p.0, (p.1.0, later))

  past-into : (r : Step) → r.number ≤ s.number → (r ≡ s → ⊥) → (plan : Plan) → Past r plan → Past r (into s own deeper plan)
  past-into r low ne nothing p = (low, (ne, tt))
  past-into r low ne (a_line t cells inside rest) p = past-by r t cells inside rest (same_step s t) (nat_lt s.number t.number) low ne p
      (past-into r low ne rest p.1.1)

  sorted-by : (t : Step) (cells : List Cell) (inside rest : Plan) (a b : Bool) → same_step s t ≡ a → nat_lt s.number t.number ≡ b
      → Sorted (a_line t cells inside rest) → Sorted (into s own deeper rest)
      → Sorted (choose a (λ _. a_line t (own cells) (deeper inside) rest)
      (λ _. choose b (λ _. a_line s (own []) (deeper nothing) (a_line t cells inside rest)) (λ _. a_line t cells inside (into s own deeper rest))))
  sorted-by t cells inside rest true b same less p later = (p.0, (keeps inside p.1.0, p.1.1))
  sorted-by t cells inside rest false true same less p later =
      let below = ltb-true s.number t.number less in (
        (omega (arith, below), ((λ e. (let n = ap (λ (r : Step). r.number) e in omega (arith, below, n))), past-below s t below rest p.0)),
        (keeps nothing tt, p),
      )
  sorted-by t cells inside rest false false same less p later = (past-into t (ltb-false s.number t.number less) (other s t same) rest p.0, (p.1.0, later))

  sorted-into : (plan : Plan) → Sorted plan → Sorted (into s own deeper plan)
  sorted-into nothing p = (tt, (keeps nothing tt, tt))
  sorted-into (a_line t cells inside rest) p = sorted-by t cells inside rest (same_step s t) (nat_lt s.number t.number) refl refl p (sorted-into rest p.1.1)

pub sorted-add : (cell : Cell) (path : List Step) (plan : Plan) → Sorted plan → Sorted (add path cell plan)
sorted-add cell [] plan p = p
sorted-add cell (s ∷ steps) plan p = sorted-into s (own_cells steps cell) (add steps cell) (sorted-add cell steps) plan p

sorted-grown : (plan : Plan) (n : ℕ) (rows : List Row) → Sorted plan → Sorted (grown plan n rows)
sorted-grown plan n [] p = p
sorted-grown plan n (row ∷ rows) p = let cell : Cell = record { number = n; row = row } in
    sorted-grown (add row.path cell plan) (n + 1) rows (sorted-add cell row.path plan p)

pub sorted-rows : (rows : List Row) → Sorted (plan_of rows)
sorted-rows rows = sorted-grown nothing 0 rows tt
