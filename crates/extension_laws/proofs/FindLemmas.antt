-- A line stays where it was found, and the rows at it stay, whatever row that parts from its path is added.
use Rattle.std.proofs.Common.{◌≡◌, ℕ, ◌+◌, Bool, true, false, List, [], ◌∷◌, ◌++◌, length, map, filter, refl, sym, ap, ◌∙◌, subst, arith}
use Rattle.std.specs.Prelude.{nat_lt}
use Rattle.bind_rows.specs.declared.rows.Row.{Row}
use Rattle.bind_rows.specs.declared.rows.Step.{Step}
use Rattle.bind_rows.specs.Same.{same_step, choose}
use Rattle.bind_table.specs.Lines.{Cell, Plan, nothing, a_line, into, add, grown, plan_of}
use Rattle.bind_table.proofs.SameLemmas.{step-sound}
use Rattle.binding_laws.specs.Apart.{Known, is_apart}
use Rattle.binding_laws.specs.Plain.{rows_at}
use Rattle.extension_laws.specs.Ways.{part, are_unguarded, finds, leaves_by_name}
use Rattle.extension_laws.proofs.AddLemmas.{Sorted, apart-add}
use Rattle.extension_laws.proofs.OwnLemmas.{own-apart, leaves-add}

-- ---- the rows at the line of a path

module _ (is_so : Cell → Bool) (s : Step) (own : List Cell → List Cell) (deeper : Plan → Plan) (v : Step) (path : List Step)
    (other : same_step v s ≡ false) where
  rows-past : (t : Step) (cells : List Cell) (inside rest : Plan) → same_step v t ≡ false
      → rows_at is_so (a_line t cells inside rest) (v ∷ path) ≡ rows_at is_so rest (v ∷ path)
  rows-past t cells inside rest n = ap (λ b. elim b [
    | true ↦ elim path [ [] ↦ map (λ (cell : Cell). cell.row) (filter is_so cells) | (u ∷ further) ↦ rows_at is_so inside (u ∷ further) ]
    | false ↦ rows_at is_so rest (v ∷ path)
  ]) n

  rows-behind : (t : Step) (cells : List Cell) (inside rest rest' : Plan) → rows_at is_so rest' (v ∷ path) ≡ rows_at is_so rest (v ∷ path)
      → rows_at is_so (a_line t cells inside rest') (v ∷ path) ≡ rows_at is_so (a_line t cells inside rest) (v ∷ path)
  rows-behind t cells inside rest rest' e = ap (λ r. elim (same_step v t) [
    | true ↦ elim path [ [] ↦ map (λ (cell : Cell). cell.row) (filter is_so cells) | (u ∷ further) ↦ rows_at is_so inside (u ∷ further) ]
    | false ↦ r
  ]) e

  not-own : (t : Step) → same_step s t ≡ true → same_step v t ≡ false
  not-own t e = subst (λ x. same_step v x ≡ false) (step-sound s t e) other

  rows-by : (t : Step) (cells : List Cell) (inside rest : Plan) (a b : Bool) → same_step s t ≡ a
      → rows_at is_so (into s own deeper rest) (v ∷ path) ≡ rows_at is_so rest (v ∷ path)
      → rows_at is_so (choose a (λ _. a_line t (own cells) (deeper inside) rest)
      (λ _. choose b (λ _. a_line s (own []) (deeper nothing) (a_line t cells inside rest)) (λ _. a_line t cells inside (into s own deeper rest))))
      (v ∷ path)
      ≡ rows_at is_so (a_line t cells inside rest) (v ∷ path)
  rows-by t cells inside rest true b same later = rows-past t (own cells) (deeper inside) rest (not-own t same) ∙
      sym (rows-past t cells inside rest (not-own t same))
  rows-by t cells inside rest false true same later = rows-past s (own []) (deeper nothing) (a_line t cells inside rest) other
  rows-by t cells inside rest false false same later = rows-behind t cells inside rest (into s own deeper rest) later

  pub rows-into : (plan : Plan) → rows_at is_so (into s own deeper plan) (v ∷ path) ≡ rows_at is_so plan (v ∷ path)
  rows-into nothing = rows-past s (own []) (deeper nothing) nothing other
  rows-into (a_line t cells inside rest) = rows-by t cells inside rest (same_step s t) (nat_lt s.number t.number) refl (rows-into rest)

-- ---- a table with one row more

grown-more : (rows : List Row) (row : Row) (n : ℕ) (plan : Plan)
    → grown plan n (rows ++ row ∷ []) ≡ add row.path (record { number = n + length rows; row = row }) (grown plan n rows)
grown-more [] row n plan = let z : n ≡ n + 0 = omega arith in ap (λ k. add row.path (record { number = k; row = row }) plan) z
grown-more (r ∷ rows) row n plan =
    let z : (n + 1) + length rows ≡ n + length (r ∷ rows) = omega arith in
    grown-more rows row (n + 1) (add r.path (record { number = n; row = r }) plan)
    ∙ ap (λ k. add row.path (record { number = k; row = row }) (grown (add r.path (record { number = n; row = r }) plan) (n + 1) rows)) z

pub plan-more : (rows : List Row) (row : Row) → plan_of (rows ++ row ∷ []) ≡ add row.path (record { number = 0 + length rows; row = row }) (plan_of rows)
plan-more rows row = grown-more rows row 0 nothing

abbrev pub Every : (Row → Type 0) → List Row → Type 0
Every P [] = Unit {0}
Every P (row ∷ rows) = P row × Every P rows

pub leaves-grown : (q : List Step) (rows : List Row) (n : ℕ) (plan : Plan) → leaves_by_name q plan ≡ true → Every (λ (r : Row). part q r.path ≡ true) rows
    → leaves_by_name q (grown plan n rows) ≡ true
leaves-grown q [] n plan h a = h
leaves-grown q (r ∷ rows) n plan h a = leaves-grown q rows (n + 1) (add r.path (record { number = n; row = r }) plan)
    (leaves-add (record { number = n; row = r }) q r.path a.0 plan h) a.1

-- A row whose path parts from all others stands apart in the table with it.
pub added-apart : (rows : List Row) (row : Row) (s : Step) (q : List Step) → row.path ≡ s ∷ q → are_unguarded (s ∷ q) ≡ true → Sorted (plan_of rows)
    → Every (λ (r : Row). part (s ∷ q) r.path ≡ true) rows
    → (known : Known) → is_apart known (plan_of (rows ++ row ∷ [])) row.path ≡ true
added-apart rows row s q is free sorted parts known =
    let cell : Cell = record { number = 0 + length rows; row = row } in
    ap (λ plan. is_apart known plan row.path) (plan-more rows row)
    ∙ (ap (λ path. is_apart known (add path cell (plan_of rows)) path) is
    ∙ own-apart cell s q free known (plan_of rows) sorted (leaves-grown (s ∷ q) rows 0 nothing refl parts))

-- Another path stands apart in it exactly where it did.
pub others-apart : (rows : List Row) (row : Row) (path : List Step) → part path row.path ≡ true → are_unguarded row.path ≡ true → Sorted (plan_of rows)
    → finds path (plan_of rows) ≡ true
    → (known : Known) → is_apart known (plan_of (rows ++ row ∷ [])) path ≡ is_apart known (plan_of rows) path
others-apart rows row path parts free sorted there known =
    ap (λ plan. is_apart known plan path) (plan-more rows row) ∙ apart-add (record { number = 0 + length rows; row = row }) path row.path parts free known
    (plan_of rows) sorted there
