-- The path of an added row: as many elements as names, with numbers that the table has or that come next.
use Rattle.std.proofs.Common.{◌≡◌, ℕ, suc, ◌+◌, ◌<◌, ◌≤◌, ◌^◌, Bool, true, false, List, [], ◌∷◌, ◌++◌, length, map, Option, Some, None, refl, ap, arith}
use Rattle.std.specs.Prelude.{◌==◌, fold, max}
use Rattle.std.specs.List.{AllByRecursion}
use Rattle.std.proofs.lemmas.List.Elements.{All-from_recursion}
use Rattle.std.proofs.lemmas.Option.{same_Some}
use Rattle.bind_rows.specs.declared.names.ElementName.{ElementName}
use Rattle.bind_rows.specs.declared.rows.Row.{Row}
use Rattle.bind_rows.specs.declared.rows.Step.{Step}
use Rattle.bind_rows.specs.declared.tables.DocumentType.{DocumentType}
use Rattle.bind_rows.specs.Added.{built}
use Rattle.bind_rows.specs.Same.{same_name, choose}
use Rattle.bind_table.specs.declared.extending.AddedTerm.{AddedTerm}
use Rattle.bind_table.specs.Extending.{at_names, first_of, first_at, greatest_on, greatest, step_for, top_behind, path_of, names_for, added_row}
use Rattle.bind_table.specs.Limits.{HasSteps, HasSmallNumbers, HasRoom}

-- ---- numbers of a table

grows : (m : ℕ) (path : List Step) → m ≤ fold max m (map (λ (s : Step). s.number) path)
grows m [] = omega arith
grows m (s ∷ path) = let h = grows (max m s.number) path in omega (arith, h)

grows-rows : (m : ℕ) (rows : List Row) → m ≤ fold greatest_on m rows
grows-rows m [] = omega arith
grows-rows m (row ∷ rows) =
    let g = grows m row.path in
    let h = grows-rows (greatest_on m row) rows in
    omega (arith, g, h)

at-small : (names : List ElementName) (path : List Step) (s : Step) (m : ℕ) → at_names names path ≡ Some s
    → s.number ≤ fold max m (map (λ (t : Step). t.number) path)
at-small [] path s m e = cc
at-small (n ∷ names) [] s m e = cc
at-small (n ∷ names) (t ∷ path) s m e = by (same_name n t.name) (length names == 0) e (at-small names path s (max m t.number))
  where
    by : (a b : Bool) → choose a (λ _. choose b (λ _. Some t) (λ _. at_names names path)) (λ _. None) ≡ Some s
        → (at_names names path ≡ Some s → s.number ≤ fold max (max m t.number) (map (λ (t : Step). t.number) path))
        → s.number ≤ fold max (max m t.number) (map (λ (t : Step). t.number) path)
    by true true e f =
        let h = grows (max m t.number) path in
        let n = ap (λ (r : Step). r.number) (same_Some _ _ e) in
        omega (arith, h, n)
    by true false e f = f e
    by false b e f = cc

first-small : (names : List ElementName) (rows : List Row) (s : Step) (m : ℕ) → first_at names rows ≡ Some s → s.number ≤ fold greatest_on m rows
first-small names [] s m e = cc
first-small names (row ∷ rows) s m e = by (at_names names row.path) refl e (first-small names rows s (greatest_on m row))
  where
    by : (o : Option Step) → at_names names row.path ≡ o → first_of o (first_at names rows) ≡ Some s
        → (first_at names rows ≡ Some s → s.number ≤ fold greatest_on (greatest_on m row) rows) → s.number ≤ fold greatest_on (greatest_on m row) rows
    by None k e f = f e
    by (Some t) k e f =
        let h = at-small names row.path t m k in
        let g = grows-rows (greatest_on m row) rows in
        let n = ap (λ (r : Step). r.number) (same_Some _ _ e) in
        omega (arith, h, g, n)

-- ---- the path

length-path : (rows : List Row) (top : ℕ) (before names : List ElementName) → length (path_of rows top before names) ≡ length names
length-path rows top before [] = refl
length-path rows top before (n ∷ names) = ap suc (length-path rows (top_behind (first_at (before ++ n ∷ []) rows) top) (before ++ n ∷ []) names)

behind-low : (o : Option Step) (top : ℕ) → top_behind o top ≤ top + 1
behind-low None top = omega arith
behind-low (Some s) top = omega arith

small-step : (rows : List Row) (o : Option Step) (n : ElementName) (top : ℕ) → ((s : Step) → o ≡ Some s → s.number ≤ greatest rows) → greatest rows < 2 ^ 31
    → top + 1 < 2 ^ 31 → (step_for o n top).number < 2 ^ 31
small-step rows None n top f few room = room
small-step rows (Some s) n top f few room = let h = f s refl in omega (arith, h, few)

small-path : (rows : List Row) (top : ℕ) (before names : List ElementName) → greatest rows < 2 ^ 31 → top + length names < 2 ^ 31
    → AllByRecursion (λ (s : Step). s.number < 2 ^ 31) (path_of rows top before names)
small-path rows top before [] few room = tt
small-path rows top before (n ∷ names) few room =
    let o = first_at (before ++ n ∷ []) rows in
    let low = behind-low o top in (
      small-step rows o n top (λ s e. first-small (before ++ n ∷ []) rows s 0 e) few (omega (arith, room)),
      small-path rows (top_behind o top)
          (before ++ n ∷ []) names few (omega (arith, room, low)),
    )

pub added-steps : (table : DocumentType) (rows : List Row) (a : AddedTerm) → HasRoom rows a → HasSteps (added_row table rows a)
added-steps table rows a room =
    let e = length-path rows (greatest rows) [] (names_for (built rows) a) in
    let h = room.0 in
    omega (arith, e, h)

pub added-numbers : (table : DocumentType) (rows : List Row) (a : AddedTerm) → HasRoom rows a → HasSmallNumbers (added_row table rows a)
added-numbers table rows a room =
    let h = room.1 in
    All-from_recursion (λ (s : Step). s.number < 2 ^ 31) (path_of rows (greatest rows) [] (names_for (built rows) a))
    (small-path rows (greatest rows) [] (names_for (built rows) a) (omega (arith, h)) (omega (arith, h)))
