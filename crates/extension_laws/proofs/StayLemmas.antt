-- Lines and their rows stay where another row is added.
use Rattle.std.proofs.Common.{◌≡◌, Bool, true, false, ◌&&◌, List, [], ◌∷◌, map, filter, refl, sym, ap, ◌∙◌, subst}
use Rattle.std.specs.Prelude.{nat_lt}
use Rattle.std.proofs.lemmas.Bool.{false≢true, ltb-true}
use Rattle.bind_rows.specs.declared.rows.Row.{Row}
use Rattle.bind_rows.specs.declared.rows.Step.{Step}
use Rattle.bind_rows.specs.Same.{same_step, choose}
use Rattle.bind_table.specs.Lines.{Cell, Plan, nothing, a_line, own_cells, into, add}
use Rattle.bind_table.proofs.SameLemmas.{step-sound}
use Rattle.bind_table.proofs.PathLemmas.{step-itself}
use Rattle.binding_laws.specs.Apart.{is_called}
use Rattle.binding_laws.specs.Plain.{rows_at}
use Rattle.extension_laws.specs.Ways.{part, finds, leaves_by_name}
use Rattle.extension_laws.proofs.AddLemmas.{both, Sorted, absent, called-as-itself}
use Rattle.extension_laws.proofs.FindLemmas.{rows-into}

-- the rows at a line by its cells and its inside
abbrev rows_in : (Cell → Bool) → List Cell → Plan → List Step → List Row
rows_in is_so cells inside path = elim path [ [] ↦ map (λ (cell : Cell). cell.row) (filter is_so cells) | (u ∷ further) ↦ rows_at is_so inside (u ∷ further) ]

module _ (is_so : Cell → Bool) (s : Step) (own : List Cell → List Cell) (deeper : Plan → Plan) (u : Step) (further : List Step)
    (below : (inside : Plan) → Sorted inside → finds (u ∷ further) inside ≡ true →
    rows_at is_so (deeper inside) (u ∷ further) ≡ rows_at is_so inside (u ∷ further)) where
  here : (t : Step) (cells : List Cell) (inside rest : Plan) → same_step s t ≡ true
      → rows_at is_so (a_line t cells inside rest) (s ∷ u ∷ further) ≡ rows_at is_so inside (u ∷ further)
  here t cells inside rest e = ap (λ b. elim b [ true ↦ rows_at is_so inside (u ∷ further) | false ↦ rows_at is_so rest (s ∷ u ∷ further) ]) e

  there : (t : Step) (cells : List Cell) (inside rest : Plan) → same_step s t ≡ false
      → rows_at is_so (a_line t cells inside rest) (s ∷ u ∷ further) ≡ rows_at is_so rest (s ∷ u ∷ further)
  there t cells inside rest e = ap (λ b. elim b [ true ↦ rows_at is_so inside (u ∷ further) | false ↦ rows_at is_so rest (s ∷ u ∷ further) ]) e

  finds-here : (t : Step) (cells : List Cell) (inside rest : Plan) → same_step s t ≡ true → finds (s ∷ u ∷ further) (a_line t cells inside rest) ≡ true
      → finds (u ∷ further) inside ≡ true
  finds-here t cells inside rest e h = ap (λ b. elim b [ true ↦ finds (u ∷ further) inside | false ↦ finds (s ∷ u ∷ further) rest ]) (sym e) ∙ h

  finds-there : (t : Step) (cells : List Cell) (inside rest : Plan) → same_step s t ≡ false → finds (s ∷ u ∷ further) (a_line t cells inside rest) ≡ true
      → finds (s ∷ u ∷ further) rest ≡ true
  finds-there t cells inside rest e h = ap (λ b. elim b [ true ↦ finds (u ∷ further) inside | false ↦ finds (s ∷ u ∷ further) rest ]) (sym e) ∙ h

  same-by : (t : Step) (cells : List Cell) (inside rest : Plan) (a b : Bool) → same_step s t ≡ a → nat_lt s.number t.number ≡ b
      → Sorted (a_line t cells inside rest)
      → finds (s ∷ u ∷ further) (a_line t cells inside rest) ≡ true
      → (finds (s ∷ u ∷ further) rest ≡ true → rows_at is_so (into s own deeper rest) (s ∷ u ∷ further) ≡ rows_at is_so rest (s ∷ u ∷ further))
      → rows_at is_so (choose a (λ _. a_line t (own cells) (deeper inside) rest)
      (λ _. choose b (λ _. a_line s (own []) (deeper nothing) (a_line t cells inside rest)) (λ _. a_line t cells inside (into s own deeper rest))))
      (s ∷ u ∷ further)
      ≡ rows_at is_so (a_line t cells inside rest) (s ∷ u ∷ further)
  same-by t cells inside rest true b same less sorted at later =
      here t (own cells) (deeper inside) rest same ∙ (below inside sorted.1.0 (finds-here t cells inside rest same at) ∙ sym (here t cells inside rest same))
  same-by t cells inside rest false true same less sorted at later =
      absurd (false≢true (sym (absent s t (u ∷ further) rest (ltb-true s.number t.number less) sorted.0) ∙ finds-there t cells inside rest same at))
  same-by t cells inside rest false false same less sorted at later =
      there t cells inside (into s own deeper rest) same ∙ (later (finds-there t cells inside rest same at) ∙ sym (there t cells inside rest same))

  pub same-rows : (plan : Plan) → Sorted plan → finds (s ∷ u ∷ further) plan ≡ true
      → rows_at is_so (into s own deeper plan) (s ∷ u ∷ further) ≡ rows_at is_so plan (s ∷ u ∷ further)
  same-rows nothing sorted at = absurd (false≢true at)
  same-rows (a_line t cells inside rest) sorted at = same-by t cells inside rest (same_step s t) (nat_lt s.number t.number) refl refl sorted at
      (λ h. same-rows rest sorted.1.1 h)

not-same-name : (v s : Step) → is_called v.name s.name ≡ false → same_step v s ≡ false
not-same-name v s n = go (same_step v s) refl
  where
    go : (b : Bool) → same_step v s ≡ b → b ≡ false
    go false e = refl
    go true e = absurd (false≢true (sym n ∙ subst (λ (x : Step). is_called v.name x.name ≡ true) (step-sound v s e) (called-as-itself v.name)))

pub rows-add : (is_so : Cell → Bool) (cell : Cell) (path q : List Step) → part path q ≡ true → (plan : Plan) → Sorted plan → finds path plan ≡ true
    → rows_at is_so (add q cell plan) path ≡ rows_at is_so plan path
rows-add is_so cell [] q p plan sorted at = absurd (false≢true p)
rows-add is_so cell (v ∷ path) [] p plan sorted at = absurd (false≢true p)
rows-add is_so cell (v ∷ []) (s ∷ q) p plan sorted at = by (is_called v.name s.name) refl p
  where
    never : (b : Bool) → (b && false) ≡ false
    never true = refl
    never false = refl

    by : (b : Bool) → is_called v.name s.name ≡ b → elim b [ true ↦ same_step v s && false | false ↦ true ] ≡ true
        → rows_at is_so (into s (own_cells q cell) (add q cell) plan) (v ∷ []) ≡ rows_at is_so plan (v ∷ [])
    by false e h = rows-into is_so s (own_cells q cell) (add q cell) v [] (not-same-name v s e) plan
    by true e h = absurd (false≢true (sym (never (same_step v s)) ∙ h))
rows-add is_so cell (v ∷ u ∷ further) (s ∷ q) p plan sorted at =
    by (is_called v.name s.name) refl p (λ h inside a b. rows-add is_so cell (u ∷ further) q h inside a b)
  where
    by : (b : Bool) → is_called v.name s.name ≡ b → elim b [ true ↦ same_step v s && part (u ∷ further) q | false ↦ true ] ≡ true
        → (part (u ∷ further) q ≡ true → (inside : Plan) → Sorted inside → finds (u ∷ further) inside ≡ true →
        rows_at is_so (add q cell inside) (u ∷ further) ≡ rows_at is_so inside (u ∷ further))
        → rows_at is_so (into s (own_cells q cell) (add q cell) plan) (v ∷ u ∷ further) ≡ rows_at is_so plan (v ∷ u ∷ further)
    by false e h f = rows-into is_so s (own_cells q cell) (add q cell) v (u ∷ further) (not-same-name v s e) plan
    by true e h f =
        let w = both (same_step v s) (part (u ∷ further) q) h in
        let same : v ≡ s = step-sound v s w.0 in
        let there : finds (s ∷ u ∷ further) plan ≡ true = subst (λ x. finds (x ∷ u ∷ further) plan ≡ true) same at in
        subst (λ x. rows_at is_so (into s (own_cells q cell) (add q cell) plan) (x ∷ u ∷ further) ≡ rows_at is_so plan (x ∷ u ∷ further)) (sym same)
        (same-rows is_so s (own_cells q cell) (add q cell) u further (f w.1) plan sorted there)

-- ---- the row itself is the only one at its line

module _ (is_so : Cell → Bool) (cell : Cell) (s : Step) (q : List Step)
    (below : (inside : Plan) → (leaves_by_name q inside ≡ true) → (cells : List Cell) →
    rows_in is_so (own_cells q cell cells) (add q cell inside) q ≡ map (λ (cell : Cell). cell.row) (filter is_so (cell ∷ [])))
    (new : rows_in is_so (own_cells q cell []) (add q cell nothing) q ≡ map (λ (cell : Cell). cell.row) (filter is_so (cell ∷ []))) where
  abbrev alone : List Row
  alone = map (λ (cell : Cell). cell.row) (filter is_so (cell ∷ []))

  at-line : (t : Step) (cells : List Cell) (inside rest : Plan) → same_step s t ≡ true
      → rows_at is_so (a_line t cells inside rest) (s ∷ q) ≡ rows_in is_so cells inside q
  at-line t cells inside rest e = ap (λ b. elim b [ true ↦ rows_in is_so cells inside q | false ↦ rows_at is_so rest (s ∷ q) ]) e

  behind-line : (t : Step) (cells : List Cell) (inside rest : Plan) → same_step s t ≡ false
      → rows_at is_so (a_line t cells inside rest) (s ∷ q) ≡ rows_at is_so rest (s ∷ q)
  behind-line t cells inside rest e = ap (λ b. elim b [ true ↦ rows_in is_so cells inside q | false ↦ rows_at is_so rest (s ∷ q) ]) e

  own-by : (t : Step) (cells : List Cell) (inside rest : Plan) (a b : Bool) → same_step s t ≡ a → leaves_by_name (s ∷ q) (a_line t cells inside rest) ≡ true
      → rows_at is_so (into s (own_cells q cell) (add q cell) rest) (s ∷ q) ≡ alone
      → rows_at is_so (choose a (λ _. a_line t (own_cells q cell cells) (add q cell inside) rest)
      (λ _. choose b (λ _. a_line s (own_cells q cell []) (add q cell nothing) (a_line t cells inside rest))
      (λ _. a_line t cells inside (into s (own_cells q cell) (add q cell) rest)))) (s ∷ q) ≡ alone
  own-by t cells inside rest true b same h later =
      let k = both _ (leaves_by_name (s ∷ q) rest) h in
      let called : is_called s.name t.name ≡ true = subst (λ (x : Step). is_called s.name x.name ≡ true) (step-sound s t same) (called-as-itself s.name) in
      let w = both (same_step s t) (leaves_by_name q inside) (ap (λ b. elim b [ true ↦ same_step s t && leaves_by_name q inside | false ↦ true ]) (sym called) ∙
      k.0) in
      at-line t (own_cells q cell cells) (add q cell inside) rest same ∙ below inside w.1 cells
  own-by t cells inside rest false true same h later = at-line s (own_cells q cell []) (add q cell nothing) (a_line t cells inside rest) (step-itself s) ∙ new
  own-by t cells inside rest false false same h later = behind-line t cells inside (into s (own_cells q cell) (add q cell) rest) same ∙ later

  own-into : (plan : Plan) → leaves_by_name (s ∷ q) plan ≡ true → rows_at is_so (into s (own_cells q cell) (add q cell) plan) (s ∷ q) ≡ alone
  own-into nothing h = at-line s (own_cells q cell []) (add q cell nothing) nothing (step-itself s) ∙ new
  own-into (a_line t cells inside rest) h = own-by t cells inside rest (same_step s t) (nat_lt s.number t.number) refl h
      (own-into rest (both _ (leaves_by_name (s ∷ q) rest) h).1)

pub own-rows : (is_so : Cell → Bool) (cell : Cell) (s : Step) (q : List Step) (plan : Plan) → leaves_by_name (s ∷ q) plan ≡ true
    → rows_at is_so (add (s ∷ q) cell plan) (s ∷ q) ≡ map (λ (cell : Cell). cell.row) (filter is_so (cell ∷ []))
own-rows is_so cell s [] plan h = own-into is_so cell s [] (λ inside y cells. absurd (false≢true y)) refl plan h
own-rows is_so cell s (u ∷ further) plan h = own-into is_so cell s (u ∷ further) (λ inside y cells. own-rows is_so cell u further inside y)
    (own-rows is_so cell u further nothing refl) plan h
