-- The tree of lines has the rows of the list, each once, at its path.
use Rattle.std.proofs.Common.{◌≡◌, ℕ, ◌+◌, ◌<◌, Bool, true, false, List, [], ◌∷◌, ◌++◌, length, refl, sym, ap, ◌∙◌, subst, arith, append_assoc, filter, cond}
use Rattle.std.specs.Prelude.{nat_lt, All, map}
use Rattle.std.specs.List.Sorted.{IsPermutation}
use Rattle.std.proofs.lemmas.List.{append-nil, map-append}
use Rattle.std.proofs.lemmas.List.Elements.{All-head, All-tail}
use Rattle.std.proofs.lemmas.List.Sorted.{IsPermutation-refl, IsPermutation-sym, IsPermutation-trans, IsPermutation-append, IsPermutation-append_comm}
use Rattle.std.proofs.lemmas.List.Sorted.{IsPermutation-append_left, IsPermutation-append_right}
use Rattle.bind_rows.specs.declared.rows.Row.{Row}
use Rattle.bind_rows.specs.declared.rows.Step.{Step}
use Rattle.bind_rows.specs.Same.{same_step, choose}
use Rattle.bind_table.specs.Lines.{Cell, Plan, nothing, a_line, own_cells, into, add, grown, plan_of}
use Rattle.bind_table.specs.Ends.{End, end_at, ends, own_ends}
use Rattle.bind_table.proofs.SameLemmas.{step-sound}
use Rattle.bind_table.proofs.PickLemmas.{same-perm, between, crossed}

-- the end of a row behind the steps above
abbrev one_end : List Step → Cell → List Step → List End
one_end above cell [] = end_at above cell ∷ []
one_end above cell (s ∷ steps) = []

abbrev deep_end : List Step → Cell → List Step → List End
deep_end above cell [] = []
deep_end above cell (s ∷ steps) = end_at (above ++ (s ∷ steps)) cell ∷ []

cells-more : (above : List Step) (cell : Cell) (steps : List Step) (cells : List Cell)
    → IsPermutation (map (end_at above) (own_cells steps cell cells)) (one_end above cell steps ++ map (end_at above) cells)
cells-more above cell [] cells =
    IsPermutation-trans _ _ _ (same-perm _ _ (map-append (end_at above) cells (cell ∷ [])))
    (IsPermutation-append_comm (map (end_at above) cells) (end_at above cell ∷ []))
cells-more above cell (s ∷ steps) cells = IsPermutation-refl _

both-ends : (above : List Step) (s : Step) (cell : Cell) (steps : List Step)
    → (one_end (above ++ s ∷ []) cell steps ++ deep_end (above ++ s ∷ []) cell steps) ≡ end_at (above ++ (s ∷ steps)) cell ∷ []
both-ends above s cell [] = refl
both-ends above s cell (t ∷ steps) = ap (λ p. end_at p cell ∷ []) (append_assoc above (s ∷ []) (t ∷ steps))

module _ (cell : Cell) (steps : List Step) (deeper-more : (above : List Step) (plan : Plan)
    → IsPermutation (ends above (add steps cell plan)) (deep_end above cell steps ++ ends above plan)) where
  line-ends : (above : List Step) (s : Step) (cells : List Cell) (inside : Plan)
      → IsPermutation (map (end_at (above ++ s ∷ [])) (own_cells steps cell cells) ++ ends (above ++ s ∷ []) (add steps cell inside))
      (end_at (above ++ (s ∷ steps)) cell ∷ (map (end_at (above ++ s ∷ [])) cells ++ ends (above ++ s ∷ []) inside))
  line-ends above s cells inside =
      let up = above ++ s ∷ [] in
      IsPermutation-trans _ _ _ (IsPermutation-append _ _ _ _ (cells-more up cell steps cells) (deeper-more up inside))
      (IsPermutation-trans _ _ _ (crossed (one_end up cell steps) (map (end_at up) cells) (deep_end up cell steps) (ends up inside))
      (same-perm _ _ (ap (λ zs. zs ++ (map (end_at up) cells ++ ends up inside)) (both-ends above s cell steps))))

  new-ends : (above : List Step) (s : Step) (rest : Plan) → IsPermutation (ends above (a_line s (own_cells steps cell []) (add steps cell nothing) rest))
      (end_at (above ++ (s ∷ steps)) cell ∷ ends above rest)
  new-ends above s rest =
      let up = above ++ s ∷ [] in
      IsPermutation-trans _ _ _
      (same-perm _ _ (sym (append_assoc (map (end_at up) (own_cells steps cell [])) (ends up (add steps cell nothing)) (ends above rest))))
      (IsPermutation-append_left (ends above rest) _ _ (line-ends above s [] nothing))

  same-ends : (above : List Step) (s t : Step) (cells : List Cell) (inside rest : Plan) → s ≡ t
      → IsPermutation (ends above (a_line t (own_cells steps cell cells) (add steps cell inside) rest))
      (end_at (above ++ (s ∷ steps)) cell ∷ ends above (a_line t cells inside rest))
  same-ends above s t cells inside rest e =
      let up = above ++ t ∷ [] in
      let P : Step → Type 0 = λ r. IsPermutation (ends above (a_line t (own_cells steps cell cells) (add steps cell inside) rest))
      (end_at (above ++ (r ∷ steps)) cell ∷ ends above (a_line t cells inside rest)) in
      subst P (sym e)
      (IsPermutation-trans _ _ _
      (same-perm _ _ (sym (append_assoc (map (end_at up) (own_cells steps cell cells)) (ends up (add steps cell inside)) (ends above rest))))
      (IsPermutation-trans _ _ _ (IsPermutation-append_left (ends above rest) _ _ (line-ends above t cells inside))
      (same-perm _ _ (ap (λ zs. end_at (above ++ (t ∷ steps)) cell ∷ zs) (append_assoc (map (end_at up) cells) (ends up inside) (ends above rest))))))

  past-ends : (above : List Step) (s t : Step) (cells : List Cell) (inside rest : Plan)
      → IsPermutation (ends above (into s (own_cells steps cell) (add steps cell) rest)) (end_at (above ++ (s ∷ steps)) cell ∷ ends above rest)
      → IsPermutation (ends above (a_line t cells inside (into s (own_cells steps cell) (add steps cell) rest)))
      (end_at (above ++ (s ∷ steps)) cell ∷ ends above (a_line t cells inside rest))
  past-ends above s t cells inside rest h =
      let up = above ++ t ∷ [] in
      let line = map (end_at up) cells ++ ends up inside in
      IsPermutation-trans _ _ _
      (same-perm _ _ (sym (append_assoc (map (end_at up) cells) (ends up inside) (ends above (into s (own_cells steps cell) (add steps cell) rest)))))
      (IsPermutation-trans _ _ _ (IsPermutation-append_right line _ _ h)
      (IsPermutation-trans _ _ _ (between line (end_at (above ++ (s ∷ steps)) cell ∷ []) (ends above rest))
      (same-perm _ _ (ap (λ zs. end_at (above ++ (s ∷ steps)) cell ∷ zs) (append_assoc (map (end_at up) cells) (ends up inside) (ends above rest))))))

  by : (above : List Step) (s t : Step) (cells : List Cell) (inside rest : Plan) (a b : Bool) → (a ≡ true → s ≡ t)
      → IsPermutation (ends above (into s (own_cells steps cell) (add steps cell) rest)) (end_at (above ++ (s ∷ steps)) cell ∷ ends above rest)
      → IsPermutation (ends above (choose a (λ _. a_line t (own_cells steps cell cells) (add steps cell inside) rest)
      (λ _. choose b (λ _. a_line s (own_cells steps cell []) (add steps cell nothing) (a_line t cells inside rest))
      (λ _. a_line t cells inside (into s (own_cells steps cell) (add steps cell) rest)))))
      (end_at (above ++ (s ∷ steps)) cell ∷ ends above (a_line t cells inside rest))
  by above s t cells inside rest true b sound h = same-ends above s t cells inside rest (sound refl)
  by above s t cells inside rest false true sound h = new-ends above s (a_line t cells inside rest)
  by above s t cells inside rest false false sound h = past-ends above s t cells inside rest h

  into-ends : (above : List Step) (s : Step) (plan : Plan) → IsPermutation (ends above (into s (own_cells steps cell) (add steps cell) plan))
      (end_at (above ++ (s ∷ steps)) cell ∷ ends above plan)
  into-ends above s nothing = new-ends above s nothing
  into-ends above s (a_line t cells inside rest) = by above s t cells inside rest (same_step s t) (nat_lt s.number t.number) (step-sound s t)
      (into-ends above s rest)

add-ends : (cell : Cell) (steps : List Step) (above : List Step) (plan : Plan)
    → IsPermutation (ends above (add steps cell plan)) (deep_end above cell steps ++ ends above plan)
add-ends cell [] above plan = IsPermutation-refl _
add-ends cell (s ∷ steps) above plan = into-ends cell steps (add-ends cell steps) above s plan

path-ends : (cell : Cell) (path : List Step) (plan : Plan) → 0 < length path → IsPermutation (ends [] (add path cell plan)) (end_at path cell ∷ ends [] plan)
path-ends cell [] plan h = absurd (omega arith)
path-ends cell (s ∷ path) plan h = add-ends cell (s ∷ path) [] plan

grown-ends : (plan : Plan) (n : ℕ) (rows : List Row) → All (λ (r : Row). 0 < length r.path) rows
    → IsPermutation (own_ends n rows ++ ends [] plan) (ends [] (grown plan n rows))
grown-ends plan n [] long = IsPermutation-refl _
grown-ends plan n (row ∷ rows) long =
    let cell : Cell = record { number = n; row = row } in
    let others = own_ends (n + 1) rows in
    IsPermutation-trans _ _ _ (between (end_at row.path cell ∷ []) others (ends [] plan))
    (IsPermutation-trans _ _ _
    (IsPermutation-append_right others _ _ (IsPermutation-sym _ _ (path-ends cell row.path plan (All-head (λ (r : Row). 0 < length r.path) row rows long))))
    (grown-ends (add row.path cell plan) (n + 1) rows (All-tail (λ (r : Row). 0 < length r.path) row rows long)))

pub rows-ends : (rows : List Row) → All (λ (r : Row). 0 < length r.path) rows → IsPermutation (own_ends 0 rows) (ends [] (plan_of rows))
rows-ends rows long = IsPermutation-trans _ _ _ (same-perm _ _ (sym (append-nil (own_ends 0 rows)))) (grown-ends nothing 0 rows long)
