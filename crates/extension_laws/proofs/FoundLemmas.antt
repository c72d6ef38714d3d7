-- The path of each row is that of a line, and stays one where rows are added.
use Rattle.std.proofs.Common.{◌≡◌, ℕ, ◌+◌, ◌<◌, Bool, true, false, List, [], ◌∷◌, length, inl, inr, refl, sym, ap, ◌∙◌, subst, arith}
use Rattle.std.specs.Prelude.{nat_lt}
use Rattle.std.proofs.lemmas.Bool.{ltb-true, false≢true}
use Rattle.bind_rows.specs.declared.rows.Row.{Row}
use Rattle.bind_rows.specs.declared.rows.Step.{Step}
use Rattle.bind_rows.specs.Same.{same_step, choose}
use Rattle.bind_table.specs.Lines.{Cell, Plan, nothing, a_line, own_cells, into, add, grown, plan_of}
use Rattle.bind_table.proofs.PathLemmas.{step-itself}
use Rattle.bind_table.proofs.SameLemmas.{step-sound}
use Rattle.binding_laws.proofs.ReachLemmas.{Among}
use Rattle.extension_laws.specs.Ways.{finds}
use Rattle.extension_laws.proofs.AddLemmas.{Past, Sorted, absent}
use Rattle.extension_laws.proofs.SortedLemmas.{sorted-add}

-- behind the line's own step
abbrev found_in : List Step → Plan → Bool
found_in path inside = elim path [ [] ↦ true | (u ∷ further) ↦ finds (u ∷ further) inside ]

abbrev found_by : Bool → List Step → Plan → Bool → Bool
found_by same path inside behind = elim same [ true ↦ found_in path inside | false ↦ behind ]

line-is : (v : Step) (path : List Step) (t : Step) (cells : List Cell) (inside rest : Plan) (b : Bool) → same_step v t ≡ b
    → finds (v ∷ path) (a_line t cells inside rest) ≡ found_by b path inside (finds (v ∷ path) rest)
line-is v path t cells inside rest b e = ap (λ x. found_by x path inside (finds (v ∷ path) rest)) e

-- ---- a path that is found stays so

module _ (s : Step) (own : List Cell → List Cell) (deeper : Plan → Plan) (v : Step) (path : List Step)
    (keeps : (inside : Plan) → Sorted inside → found_in path inside ≡ true → found_in path (deeper inside) ≡ true) where
  same-line : (t : Step) (cells : List Cell) (inside rest : Plan) (b : Bool) → same_step v t ≡ b → Sorted inside
      → finds (v ∷ path) (a_line t cells inside rest) ≡ true
      → finds (v ∷ path) (a_line t (own cells) (deeper inside) rest) ≡ true
  same-line t cells inside rest true e sorted h =
      line-is v path t (own cells) (deeper inside) rest true e ∙ keeps inside sorted (sym (line-is v path t cells inside rest true e) ∙ h)
  same-line t cells inside rest false e sorted h =
      line-is v path t (own cells) (deeper inside) rest false e ∙ (sym (line-is v path t cells inside rest false e) ∙ h)

  new-line : (t : Step) (cells : List Cell) (inside rest : Plan) (b : Bool) → same_step v s ≡ b → same_step s t ≡ false → s.number < t.number → Past t rest
      → finds (v ∷ path) (a_line t cells inside rest) ≡ true → finds (v ∷ path) (a_line s (own []) (deeper nothing) (a_line t cells inside rest)) ≡ true
  new-line t cells inside rest true e other less past h =
      let at : finds (s ∷ path) (a_line t cells inside rest) ≡ true = subst (λ x. finds (x ∷ path) (a_line t cells inside rest) ≡ true) (step-sound v s e) h in
      absurd (false≢true (sym (absent s t path rest less past) ∙ (sym (line-is s path t cells inside rest false other) ∙ at)))
  new-line t cells inside rest false e other less past h = line-is v path s (own []) (deeper nothing) (a_line t cells inside rest) false e ∙ h

  behind-line : (t : Step) (cells : List Cell) (inside rest : Plan) (b : Bool) → same_step v t ≡ b → finds (v ∷ path) (a_line t cells inside rest) ≡ true
      → (finds (v ∷ path) rest ≡ true → finds (v ∷ path) (into s own deeper rest) ≡ true)
      → finds (v ∷ path) (a_line t cells inside (into s own deeper rest)) ≡ true
  behind-line t cells inside rest true e h later = line-is v path t cells inside (into s own deeper rest) true e ∙
      (sym (line-is v path t cells inside rest true e) ∙ h)
  behind-line t cells inside rest false e h later =
      line-is v path t cells inside (into s own deeper rest) false e ∙ later (sym (line-is v path t cells inside rest false e) ∙ h)

  by-line : (t : Step) (cells : List Cell) (inside rest : Plan) (a b : Bool) → same_step s t ≡ a → nat_lt s.number t.number ≡ b
      → Sorted (a_line t cells inside rest)
      → finds (v ∷ path) (a_line t cells inside rest) ≡ true → (finds (v ∷ path) rest ≡ true → finds (v ∷ path) (into s own deeper rest) ≡ true)
      → finds (v ∷ path) (choose a (λ _. a_line t (own cells) (deeper inside) rest)
      (λ _. choose b (λ _. a_line s (own []) (deeper nothing) (a_line t cells inside rest)) (λ _. a_line t cells inside (into s own deeper rest)))) ≡ true
  by-line t cells inside rest true b same less sorted h later = same-line t cells inside rest (same_step v t) refl sorted.1.0 h
  by-line t cells inside rest false true same less sorted h later =
      new-line t cells inside rest (same_step v s) refl same (ltb-true s.number t.number less) sorted.0 h
  by-line t cells inside rest false false same less sorted h later = behind-line t cells inside rest (same_step v t) refl h later

  found-into : (plan : Plan) → Sorted plan → finds (v ∷ path) plan ≡ true → finds (v ∷ path) (into s own deeper plan) ≡ true
  found-into nothing sorted h = absurd (false≢true h)
  found-into (a_line t cells inside rest) sorted h =
      by-line t cells inside rest (same_step s t) (nat_lt s.number t.number) refl refl sorted h (λ k. found-into rest sorted.1.1 k)

pub found-add : (cell : Cell) (path q : List Step) (plan : Plan) → Sorted plan → finds path plan ≡ true → finds path (add q cell plan) ≡ true
found-add cell path [] plan sorted h = h
found-add cell [] (s ∷ q) nothing sorted h = absurd (false≢true h)
found-add cell [] (s ∷ q) (a_line t cells inside rest) sorted h = absurd (false≢true h)
found-add cell (v ∷ []) (s ∷ q) plan sorted h = found-into s (own_cells q cell) (add q cell) v [] (λ inside x y. refl) plan sorted h
found-add cell (v ∷ u ∷ further) (s ∷ q) plan sorted h = found-into s (own_cells q cell) (add q cell) v (u ∷ further)
    (λ inside x y. found-add cell (u ∷ further) q inside x y) plan sorted h

-- ---- the path that is added is found

module _ (s : Step) (own : List Cell → List Cell) (deeper : Plan → Plan) (q : List Step) (there : (inside : Plan) → found_in q (deeper inside) ≡ true) where
  own-by : (t : Step) (cells : List Cell) (inside rest : Plan) (a b : Bool) → same_step s t ≡ a → finds (s ∷ q) (into s own deeper rest) ≡ true
      → finds (s ∷ q) (choose a (λ _. a_line t (own cells) (deeper inside) rest)
      (λ _. choose b (λ _. a_line s (own []) (deeper nothing) (a_line t cells inside rest)) (λ _. a_line t cells inside (into s own deeper rest)))) ≡ true
  own-by t cells inside rest true b same later = line-is s q t (own cells) (deeper inside) rest true same ∙ there inside
  own-by t cells inside rest false true same later = line-is s q s (own []) (deeper nothing) (a_line t cells inside rest) true (step-itself s) ∙ there nothing
  own-by t cells inside rest false false same later = line-is s q t cells inside (into s own deeper rest) false same ∙ later

  own-into : (plan : Plan) → finds (s ∷ q) (into s own deeper plan) ≡ true
  own-into nothing = line-is s q s (own []) (deeper nothing) nothing true (step-itself s) ∙ there nothing
  own-into (a_line t cells inside rest) = own-by t cells inside rest (same_step s t) (nat_lt s.number t.number) refl (own-into rest)

pub found-own : (cell : Cell) (s : Step) (q : List Step) (plan : Plan) → finds (s ∷ q) (add (s ∷ q) cell plan) ≡ true
found-own cell s [] plan = own-into s (own_cells [] cell) (add [] cell) [] (λ inside. refl) plan
found-own cell s (u ∷ further) plan = own-into s (own_cells (u ∷ further) cell) (add (u ∷ further) cell) (u ∷ further)
    (λ inside. found-own cell u further inside) plan

-- ---- of all rows of a table

found-grown : (path : List Step) (rows : List Row) (n : ℕ) (plan : Plan) → Sorted plan → finds path plan ≡ true → finds path (grown plan n rows) ≡ true
found-grown path [] n plan sorted h = h
found-grown path (r ∷ rows) n plan sorted h =
    let cell : Cell = record { number = n; row = r } in
    found-grown path rows (n + 1) (add r.path cell plan) (sorted-add cell r.path plan sorted) (found-add cell path r.path plan sorted h)

found-path : (cell : Cell) (path : List Step) (plan : Plan) → 0 < length path → finds path (add path cell plan) ≡ true
found-path cell [] plan long = let z : ⊥ = omega (arith, long) in absurd z
found-path cell (s ∷ q) plan long = found-own cell s q plan

found-among : (row : Row) (rows : List Row) (n : ℕ) (plan : Plan) → Sorted plan → Among row rows → 0 < length row.path
    → finds row.path (grown plan n rows) ≡ true
found-among row [] n plan sorted a long = absurd a
found-among row (r ∷ rows) n plan sorted (inl e) long =
    let cell : Cell = record { number = n; row = r } in
    found-grown row.path rows (n + 1) (add r.path cell plan) (sorted-add cell r.path plan sorted)
    (subst (λ (x : Row). finds x.path (add r.path cell plan) ≡ true) e (found-path cell r.path plan (subst (λ (x : Row). 0 < length x.path) (sym e) long)))
found-among row (r ∷ rows) n plan sorted (inr a) long =
    let cell : Cell = record { number = n; row = r } in
    found-among row rows (n + 1) (add r.path cell plan) (sorted-add cell r.path plan sorted) a long

pub found-row : (rows : List Row) (row : Row) → Among row rows → 0 < length row.path → finds row.path (plan_of rows) ≡ true
found-row rows row a long = found-among row rows 0 nothing tt a long
