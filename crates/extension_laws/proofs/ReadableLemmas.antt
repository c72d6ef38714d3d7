-- The documents of a table with a row that joins it can be read, where its names can be written and there is room for them.
use Rattle.std.proofs.Common.{◌≡◌, ℕ, suc, ◌+◌, ◌*◌, ◌<◌, ◌≤◌, Bool, true, false, not, ◌&&◌, List, [], ◌∷◌, ◌++◌, length, filter, map, max, All, refl, sym, ap}
use Rattle.std.proofs.Common.{◌∙◌, subst, arith}
use Rattle.std.specs.Prelude.{nat_lt, nat_le, bytes_eq, if◌then◌else◌}
use Rattle.std.specs.List.{list_all}
use Rattle.std.proofs.lemmas.Bool.{false≢true}
use Rattle.std.proofs.lemmas.Bool.Decides.{nat_tests}
use Rattle.std.proofs.lemmas.List.{length-append, length-map}
use Rattle.bind_rows.specs.declared.names.Leaf.{Leaf}
use Rattle.bind_rows.specs.declared.names.Leaf.TheVariants as leaves
use Rattle.bind_rows.specs.declared.rows.Step.{Step}
use Rattle.bind_rows.specs.declared.rows.Row.{Row}
use Rattle.bind_rows.specs.Same.{same_step, choose}
use Rattle.bind_table.specs.Lines.{Cell, Plan, nothing, a_line, own_cells, into, add, plan_of}
use Rattle.bind_table.proofs.SameLemmas.{step-sound}
use Rattle.bind_meaning.specs.Trees.{name_of, is_at_element}
use Rattle.binding_laws.specs.Apart.{is_called}
use Rattle.xml_state.specs.declared.limits.Limits.{Limits}
use Rattle.xml_state.specs.Admission.{has_twice}
use Rattle.xml_write.specs.Canonical.{Declaration, element_name}
use Rattle.xml_laws.specs.Writable.{is_element_name, is_short}
use Rattle.bind_meaning.specs.Currencies.{currency_id}
use Rattle.written_laws.specs.Readable.{levels, local_of, locals, unspaced, names_of, constant_of, placeholder_of, has_chars, all_lines, is_fine_local}
use Rattle.written_laws.specs.Readable.{is_fine_line}
use Rattle.written_laws.specs.Readable.{are_fine, is_one_root, is_readable_plan, is_readable}
use Rattle.bind_write.specs.Documents.{namespace_of, declared_for}
use Rattle.inv_base.specs.Characters.{is_char}
use Rattle.extension_laws.specs.Joins.{Joins}
use Rattle.extension_laws.specs.Ways.{leaves_by_name}
use Rattle.extension_laws.proofs.FindLemmas.{plan-more}
use Rattle.extension_laws.proofs.JoinLemmas.{IsAddedRow, is, leaves-lines}
use Rattle.extension_laws.proofs.ShowLemmas.{Rooted, rooted-more, one-root-more, namespace-more}
use Rattle.extension_laws.proofs.AddLemmas.{both, called-as-itself}
use Rattle.extension_laws.proofs.ListLemmas.{and-mono, flat-more}
use Rattle.carrying_laws.proofs.Disjuncts.{and-true}

-- ---- how deep it is

max-low : (a b c : ℕ) → a ≤ b → max a c ≤ max b c
max-low a b c h = omega (arith, h)

module _ (s : Step) (own : List Cell → List Cell) (deeper : Plan → Plan) (n : ℕ) (deep : (inside : Plan) → levels (deeper inside) ≤ max (levels inside) n) where
  levels-by : (t : Step) (cells : List Cell) (inside rest : Plan) (a b : Bool) → levels (into s own deeper rest) ≤ max (levels rest) (suc n)
      → levels (choose a (λ _. a_line t (own cells) (deeper inside) rest)
      (λ _. choose b (λ _. a_line s (own []) (deeper nothing) (a_line t cells inside rest)) (λ _. a_line t cells inside (into s own deeper rest))))
      ≤ max (max (1 + levels inside) (levels rest)) (suc n)
  levels-by t cells inside rest true b later = let d = deep inside in omega (arith, d)
  levels-by t cells inside rest false true later = let d = deep nothing in omega (arith, d)
  levels-by t cells inside rest false false later = omega (arith, later)

  levels-into : (plan : Plan) → levels (into s own deeper plan) ≤ max (levels plan) (suc n)
  levels-into nothing = let d = deep nothing in omega (arith, d)
  levels-into (a_line t cells inside rest) = levels-by t cells inside rest (same_step s t) (nat_lt s.number t.number) (levels-into rest)

pub levels-add : (q : List Step) (cell : Cell) (plan : Plan) → levels (add q cell plan) ≤ max (levels plan) (length q)
levels-add [] cell plan = omega arith
levels-add (s ∷ q) cell plan = levels-into s (own_cells q cell) (add q cell) (length q) (λ inside. levels-add q cell inside) plan

-- ---- how many names it has

abbrev named : Plan → ℕ
named plan = length (names_of plan)

named-line : (s : Step) (cells : List Cell) (inside rest : Plan)
    → named (a_line s cells inside rest) ≡ suc (length (locals cells) + (named inside + named rest))
named-line s cells inside rest =
    ap suc (length-append (map unspaced (locals cells)) (names_of inside ++ names_of rest)
    ∙ ((λ i. length-map (locals cells) unspaced i + length-append (names_of inside) (names_of rest) i)))

pub locals-own : (q : List Step) (cell : Cell) (cells : List Cell) → local_of cell ≡ [] → locals (own_cells q cell cells) ≡ locals cells
locals-own [] cell cells e = ap (λ l. currency_id ∷ l) (flat-more local_of local_of cells cell (λ x a. refl) e)
locals-own (s ∷ q) cell cells e = refl

module _ (s : Step) (own : List Cell → List Cell) (deeper : Plan → Plan) (n : ℕ)
    (same : (cells : List Cell) → length (locals (own cells)) ≡ length (locals cells))
    (deep : (inside : Plan) → named (deeper inside) ≤ named inside + 2 * n) where
  new-names : (rest : Plan) → named (a_line s (own []) (deeper nothing) rest) ≤ named rest + 2 * suc n
  new-names rest =
      let l = named-line s (own []) (deeper nothing) rest in
      let e = same [] in
      let d = deep nothing in
      omega (arith, l, e, d)

  named-by : (t : Step) (cells : List Cell) (inside rest : Plan) (a b : Bool) → named (into s own deeper rest) ≤ named rest + 2 * suc n
      → named (choose a (λ _. a_line t (own cells) (deeper inside) rest)
      (λ _. choose b (λ _. a_line s (own []) (deeper nothing) (a_line t cells inside rest)) (λ _. a_line t cells inside (into s own deeper rest))))
      ≤ named (a_line t cells inside rest) + 2 * suc n
  named-by t cells inside rest true b later =
      let l = named-line t (own cells) (deeper inside) rest in
      let k = named-line t cells inside rest in
      let e = same cells in
      let d = deep inside in
      omega (arith, l, k, e, d)
  named-by t cells inside rest false true later = new-names (a_line t cells inside rest)
  named-by t cells inside rest false false later =
      let l = named-line t cells inside (into s own deeper rest) in
      let k = named-line t cells inside rest in
      omega (arith, l, k, later)

  named-into : (plan : Plan) → named (into s own deeper plan) ≤ named plan + 2 * suc n
  named-into nothing = new-names nothing
  named-into (a_line t cells inside rest) = named-by t cells inside rest (same_step s t) (nat_lt s.number t.number) (named-into rest)

pub named-add : (q : List Step) (cell : Cell) → local_of cell ≡ [] → (plan : Plan) → length (names_of (add q cell plan)) ≤ length (names_of plan) + 2 * length q
named-add [] cell e plan = omega arith
named-add (s ∷ q) cell e plan = named-into s (own_cells q cell) (add q cell) (length q) (λ cells. ap length (locals-own q cell cells e))
    (λ inside. named-add q cell e inside) plan

-- ---- a test of all lines

-- The test holds of the steps, as those of new lines.
abbrev pub AreFine : (Step → List Cell → Bool) → Cell → List Step → Type 0
AreFine test cell [] = Unit {0}
AreFine test cell (s ∷ q) = (test s (own_cells q cell []) ≡ true) × AreFine test cell q

module _ (test : Step → List Cell → Bool) (s : Step) (q : List Step) (own : List Cell → List Cell) (deeper : Plan → Plan)
    (keeps : (t : Step) (cells : List Cell) (inside : Plan) → leaves_by_name q inside ≡ true → test t cells ≡ true → test t (own cells) ≡ true)
    (deep : (inside : Plan) → leaves_by_name q inside ≡ true → all_lines test inside ≡ true → all_lines test (deeper inside) ≡ true)
    (new : test s (own []) ≡ true) (new_inside : all_lines test (deeper nothing) ≡ true) where
  new-fine : (rest : Plan) → all_lines test rest ≡ true → all_lines test (a_line s (own []) (deeper nothing) rest) ≡ true
  new-fine rest h = and-true (test s (own [])) _ new (and-true (all_lines test (deeper nothing)) (all_lines test rest) new_inside h)

  lines-by : (t : Step) (cells : List Cell) (inside rest : Plan) (a b : Bool) → same_step s t ≡ a → leaves_by_name (s ∷ q) (a_line t cells inside rest) ≡ true
      → all_lines test (a_line t cells inside rest) ≡ true
      → (all_lines test rest ≡ true → all_lines test (into s own deeper rest) ≡ true)
      → all_lines test (choose a (λ _. a_line t (own cells) (deeper inside) rest)
      (λ _. choose b (λ _. a_line s (own []) (deeper nothing) (a_line t cells inside rest)) (λ _. a_line t cells inside (into s own deeper rest)))) ≡ true
  lines-by t cells inside rest true b same h fine later =
      let k = both _ (leaves_by_name (s ∷ q) rest) h in
      let called : is_called s.name t.name ≡ true = subst (λ (x : Step). is_called s.name x.name ≡ true) (step-sound s t same) (called-as-itself s.name) in
      let w = both (same_step s t) (leaves_by_name q inside) (ap (λ b. elim b [ true ↦ same_step s t && leaves_by_name q inside | false ↦ true ]) (sym called) ∙
      k.0) in
      and-mono (test t cells) (all_lines test inside && all_lines test rest) (test t (own cells)) (all_lines test (deeper inside) && all_lines test rest)
      (keeps t cells inside w.1)
      (and-mono (all_lines test inside) (all_lines test rest) (all_lines test (deeper inside)) (all_lines test rest) (deep inside w.1) (λ e. e)) fine
  lines-by t cells inside rest false true same h fine later = new-fine (a_line t cells inside rest) fine
  lines-by t cells inside rest false false same h fine later =
      and-mono (test t cells) (all_lines test inside && all_lines test rest) (test t cells) (all_lines test inside && all_lines test (into s own deeper rest))
      (λ e. e)
      (and-mono (all_lines test inside) (all_lines test rest) (all_lines test inside) (all_lines test (into s own deeper rest)) (λ e. e) later) fine

  lines-into : (plan : Plan) → leaves_by_name (s ∷ q) plan ≡ true → all_lines test plan ≡ true → all_lines test (into s own deeper plan) ≡ true
  lines-into nothing h fine = new-fine nothing refl
  lines-into (a_line t cells inside rest) h fine =
      lines-by t cells inside rest (same_step s t) (nat_lt s.number t.number) refl h fine (λ k. lines-into rest (both _ (leaves_by_name (s ∷ q) rest) h).1 k)

pub lines-add : (test : Step → List Cell → Bool) (s : Step) (q : List Step) (cell : Cell) → AreFine test cell (s ∷ q) → (plan : Plan)
    → leaves_by_name (s ∷ q) plan ≡ true → all_lines test plan ≡ true
    → all_lines test (add (s ∷ q) cell plan) ≡ true
lines-add test s [] cell f plan h fine =
    lines-into test s [] (own_cells [] cell) (add [] cell) (λ t cells inside e k. absurd (false≢true e)) (λ inside e k. k) f.0 refl plan h fine
lines-add test s (u ∷ q) cell f plan h fine =
    lines-into test s (u ∷ q) (own_cells (u ∷ q) cell) (add (u ∷ q) cell) (λ t cells inside e k. k) (λ inside e k. lines-add test u q cell f.1 inside e k) f.0
    (lines-add test u q cell f.1 nothing refl refl) plan h fine

-- ---- a new line is fine

module _ (limits : Limits) (declarations : List Declaration) where
  abbrev pub can_be_named : Step → Bool
  can_be_named s = is_element_name declarations (name_of s.name) && is_short limits (element_name declarations (name_of s.name))

  fine-by : (s : Step) (cells : List Cell) → can_be_named s ≡ true → is_fine_local limits declarations currency_id ≡ true
      → nat_le (length declarations + 1) limits.attributes ≡ true
      → locals cells ≡ currency_id ∷ [] → nat_le (length (filter is_at_element cells)) 1 ≡ true → list_all has_chars cells ≡ true
      → is_fine_line limits declarations s cells ≡ true
  fine-by s cells named local few e one chars =
      and-true (can_be_named s) _ named
      (and-true (list_all (is_fine_local limits declarations) (locals cells)) _
      (ap (list_all (is_fine_local limits declarations)) e ∙ ap (λ b. b && true) local)
      (and-true (not (has_twice bytes_eq (locals cells))) _ (ap (λ l. not (has_twice bytes_eq l)) e)
      (and-true (nat_le (length (filter is_at_element cells)) 1) _ one
      (and-true (nat_le (length declarations + length (locals cells)) limits.attributes) (list_all has_chars cells)
      (ap (λ l. nat_le (length declarations + length l) limits.attributes) e ∙ few) chars))))

  pub fine-steps : (cell : Cell) → local_of cell ≡ [] → has_chars cell ≡ true → is_fine_local limits declarations currency_id ≡ true
      → nat_le (length declarations + 1) limits.attributes ≡ true
      → (q : List Step) → list_all can_be_named q ≡ true → AreFine (is_fine_line limits declarations) cell q
  fine-steps cell none chars local few [] h = tt
  fine-steps cell none chars local few (s ∷ []) h = (
    fine-by s (cell ∷ []) (both (can_be_named s) true h).0 local few (ap (λ l. currency_id ∷ (l ++ [])) none) (at-most (is_at_element cell))
        (ap (λ b. b && true) chars),
    tt,
  )
    where
      at-most : (b : Bool) → nat_le (length (if b then cell ∷ [] else [])) 1 ≡ true
      at-most true = refl
      at-most false = refl
  fine-steps cell none chars local few (s ∷ u ∷ q) h =
      let w = both (can_be_named s) (list_all can_be_named (u ∷ q)) h in
      (fine-by s [] w.0 local few refl refl refl, fine-steps cell none chars local few (u ∷ q) w.1)

-- ---- a table

pub le-true : (a b : ℕ) → a ≤ b → nat_le a b ≡ true
le-true a b h = grind (arith, nat_tests, h)

pub le-from : (a b : ℕ) → nat_le a b ≡ true → a ≤ b
le-from a b h = grind (arith, nat_tests, h)

module _ (limits : Limits) (rows : List Row) (row : Row) (joins : Joins rows row) (long : All (λ (r : Row). 0 < length r.path) rows)
    (was : is_readable limits rows ≡ true) where
  abbrev declarations : List Declaration
  declarations = declared_for (namespace_of (plan_of rows))

  abbrev cell : Cell
  cell = record { number = 0 + length rows; row = row }

  abbrev test : Step → List Cell → Bool
  test = is_fine_line limits declarations

  one : (is_one_root (plan_of rows) ≡ true) ×
      ((are_fine limits declarations && (nat_le (levels (plan_of rows)) limits.depth &&
      (nat_le (length (names_of (plan_of rows))) limits.names && all_lines test (plan_of rows)))) ≡ true)
  one = both (is_one_root (plan_of rows)) _ was

  fine : (are_fine limits declarations ≡ true) ×
      ((nat_le (levels (plan_of rows)) limits.depth && (nat_le (length (names_of (plan_of rows))) limits.names && all_lines test (plan_of rows))) ≡ true)
  fine = both (are_fine limits declarations) _ one.1

  deep : (nat_le (levels (plan_of rows)) limits.depth ≡ true) ×
      ((nat_le (length (names_of (plan_of rows))) limits.names && all_lines test (plan_of rows)) ≡ true)
  deep = both (nat_le (levels (plan_of rows)) limits.depth) _ fine.1

  lines : all_lines test (plan_of rows) ≡ true
  lines = (both (nat_le (length (names_of (plan_of rows))) limits.names) (all_lines test (plan_of rows)) deep.1).1

  rooted : Rooted rows row
  rooted = rooted-more rows row joins long one.0

  own : IsAddedRow row
  own = is rows row joins

  none : local_of cell ≡ []
  none = ap (λ (l : Leaf). elim l [ leaves.Element ↦ [] | (leaves.Attribute local) ↦ local ∷ [] ]) own.leaf

  chars : has_chars cell ≡ true
  chars = λ i. list_all is_char (constant_of (joins.content i)) && list_all is_char (placeholder_of (own.written i))

  -- what the line of the root says of each line
  root-line : is_fine_line limits declarations rooted.step rooted.cells ≡ true
  root-line = (both (is_fine_line limits declarations rooted.step rooted.cells) _ (sym (ap (all_lines test) rooted.was) ∙ lines)).0

  behind : (list_all (is_fine_local limits declarations) (locals rooted.cells)
      && (not (has_twice bytes_eq (locals rooted.cells))
      && (nat_le (length (filter is_at_element rooted.cells)) 1 &&
      (nat_le (length declarations + length (locals rooted.cells)) limits.attributes && list_all has_chars rooted.cells)))) ≡ true
  behind = (both (can_be_named limits declarations rooted.step) _ root-line).1

  local : is_fine_local limits declarations currency_id ≡ true
  local = (both (is_fine_local limits declarations currency_id) _ (both (list_all (is_fine_local limits declarations) (locals rooted.cells)) _ behind).0).0

  few : nat_le (length declarations + 1) limits.attributes ≡ true
  few =
      let a = (both (not (has_twice bytes_eq (locals rooted.cells))) _ (both (list_all (is_fine_local limits declarations) (locals rooted.cells)) _ behind).1).1
      in
      let b = (both (nat_le (length (filter is_at_element rooted.cells)) 1) _ a).1 in
      let c = (both (nat_le (length declarations + length (locals rooted.cells)) limits.attributes) (list_all has_chars rooted.cells) b).0 in
      let d = le-from (length declarations + length (locals rooted.cells)) limits.attributes c in
      le-true (length declarations + 1) limits.attributes (omega (arith, d))

  pub lines-more : list_all (can_be_named limits declarations) row.path ≡ true → all_lines test (plan_of (rows ++ row ∷ [])) ≡ true
  lines-more named =
      let e = rooted.path in
      let steps = fine-steps limits declarations cell none chars local few row.path named in
      ap (all_lines test) (plan-more rows row)
      ∙ (ap (λ p. all_lines test (add p cell (plan_of rows))) e
      ∙ lines-add test rooted.step rooted.steps cell (subst (λ p. AreFine test cell p) e steps) (plan_of rows)
      (subst (λ p. leaves_by_name p (plan_of rows) ≡ true) e (leaves-lines rows row joins long)) lines)

  pub readable-more : length row.path ≤ limits.depth → length (names_of (plan_of rows)) + 2 * length row.path ≤ limits.names
      → list_all (can_be_named limits declarations) row.path ≡ true
      → is_readable limits (rows ++ row ∷ []) ≡ true
  readable-more short room named =
      let now : Plan = plan_of (rows ++ row ∷ []) in
      let l = levels-add row.path cell (plan_of rows) in
      let m = le-from (levels (plan_of rows)) limits.depth deep.0 in
      let k : levels now ≡ levels (add row.path cell (plan_of rows)) = ap levels (plan-more rows row) in
      let n = named-add row.path cell none (plan_of rows) in
      let j : length (names_of now) ≡ length (names_of (add row.path cell (plan_of rows))) = ap (λ plan. length (names_of plan)) (plan-more rows row) in
      ap (λ o. is_readable_plan limits (declared_for o) now) (namespace-more rows row rooted)
      ∙ and-true (is_one_root now) _ (one-root-more rows row rooted)
      (and-true (are_fine limits declarations) _ fine.0
      (and-true (nat_le (levels now) limits.depth) _ (le-true (levels now) limits.depth (omega (arith, l, m, k, short)))
      (and-true (nat_le (length (names_of now)) limits.names) (all_lines test now) (le-true (length (names_of now)) limits.names (omega (arith, n, j, room)))
      (lines-more named))))

  pub names-more : length (names_of (plan_of (rows ++ row ∷ []))) ≤ length (names_of (plan_of rows)) + 2 * length row.path
  names-more =
      let n = named-add row.path cell none (plan_of rows) in
      let j : length (names_of (plan_of (rows ++ row ∷ []))) ≡ length (names_of (add row.path cell (plan_of rows))) =
      ap (λ plan. length (names_of plan)) (plan-more rows row) in
      omega (arith, n, j)
