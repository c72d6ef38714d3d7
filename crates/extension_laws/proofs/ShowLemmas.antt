-- A table shows what it showed where a row joins it, and has the same root.
use Rattle.std.proofs.Common.{◌≡◌, ◌+◌, ◌<◌, Bool, true, false, ◌&&◌, ◌||◌, List, [], ◌∷◌, ◌++◌, length, None, option_and_then, All, inl, refl, sym, ap, ◌∙◌}
use Rattle.std.proofs.Common.{subst}
use Rattle.std.specs.Prelude.{nat_lt, is_none}
use Rattle.std.specs.List.{list_any}
use Rattle.std.proofs.lemmas.Bool.{false≢true}
use Rattle.term_table.specs.declared.terms.Term.{Term}
use Rattle.bind_rows.specs.declared.rows.Step.{Step}
use Rattle.bind_rows.specs.declared.rows.Row.{Row}
use Rattle.bind_rows.specs.Same.{same_name, same_step, choose}
use Rattle.bind_table.specs.Lines.{Cell, Plan, nothing, a_line, own_cells, into, add, plan_of}
use Rattle.bind_table.specs.WellFormed.{is_root, has_root}
use Rattle.bind_table.proofs.GrowingLemmas.{into-same}
use Rattle.bind_table.proofs.PathLemmas.{step-itself}
use Rattle.bind_table.proofs.SameLemmas.{step-sound}
use Rattle.bind_carrying.specs.Tables.{table_of, document_type_of}
use Rattle.bind_write.specs.Documents.{namespace_of}
use Rattle.bind_run.specs.Roots.{document_type_named}
use Rattle.binding_laws.specs.Apart.{is_called}
use Rattle.written_laws.specs.Readable.{always_writes, shows, is_one_root}
use Rattle.written_laws.specs.Roots.{root_name, root_table}
use Rattle.written_laws.proofs.RootLemmas.{one-root}
use Rattle.carrying_laws.proofs.Disjuncts.{or-second}
use Rattle.carrying_laws.proofs.ModelLemmas.{all-holds}
use Rattle.extension_laws.specs.Joins.{Joins}
use Rattle.extension_laws.specs.Ways.{part, finds}
use Rattle.extension_laws.proofs.AddLemmas.{both}
use Rattle.extension_laws.proofs.FindLemmas.{plan-more}
use Rattle.extension_laws.proofs.FoundLemmas.{found-row}
use Rattle.extension_laws.proofs.JoinLemmas.{own-parts}
use Rattle.extension_laws.proofs.ListLemmas.{or-mono, and-mono, any-front}
use Rattle.extension_laws.proofs.PartLemmas.{called-name}

-- ---- what is shown

module _ (term : Term) (s : Step) (own : List Cell → List Cell) (deeper : Plan → Plan)
    (cells-keep : (cells : List Cell) → list_any (always_writes term) cells ≡ true → list_any (always_writes term) (own cells) ≡ true)
    (keeps : (inside : Plan) → shows term inside ≡ true → shows term (deeper inside) ≡ true) where
  shows-by : (t : Step) (cells : List Cell) (inside rest : Plan) (a b : Bool) → shows term (a_line t cells inside rest) ≡ true
      → (shows term rest ≡ true → shows term (into s own deeper rest) ≡ true)
      → shows term (choose a (λ _. a_line t (own cells) (deeper inside) rest)
      (λ _. choose b (λ _. a_line s (own []) (deeper nothing) (a_line t cells inside rest)) (λ _. a_line t cells inside (into s own deeper rest)))) ≡ true
  shows-by t cells inside rest true b h later =
      or-mono (is_none t.group && (list_any (always_writes term) cells || shows term inside)) (shows term rest)
      (is_none t.group && (list_any (always_writes term) (own cells) || shows term (deeper inside))) (shows term rest)
      (and-mono (is_none t.group) (list_any (always_writes term) cells || shows term inside) (is_none t.group) (list_any (always_writes term) (own cells) ||
      shows term (deeper inside)) (λ e. e)
      (or-mono (list_any (always_writes term) cells) (shows term inside) (list_any (always_writes term) (own cells)) (shows term (deeper inside))
      (cells-keep cells) (keeps inside))) (λ e. e) h
  shows-by t cells inside rest false true h later =
      or-second (is_none s.group && (list_any (always_writes term) (own []) || shows term (deeper nothing))) (shows term (a_line t cells inside rest)) h
  shows-by t cells inside rest false false h later =
      or-mono (is_none t.group && (list_any (always_writes term) cells || shows term inside)) (shows term rest)
      (is_none t.group && (list_any (always_writes term) cells || shows term inside)) (shows term (into s own deeper rest)) (λ e. e) later h

  shows-into : (plan : Plan) → shows term plan ≡ true → shows term (into s own deeper plan) ≡ true
  shows-into nothing h = absurd (false≢true h)
  shows-into (a_line t cells inside rest) h = shows-by t cells inside rest (same_step s t) (nat_lt s.number t.number) h (shows-into rest)

cells-keep-more : (term : Term) (q : List Step) (cell : Cell) (cells : List Cell) → list_any (always_writes term) cells ≡ true
    → list_any (always_writes term) (own_cells q cell cells) ≡ true
cells-keep-more term [] cell cells h = any-front (always_writes term) (always_writes term) cells (cell ∷ []) (λ x a e. e) h
cells-keep-more term (s ∷ q) cell cells h = h

shows-add : (term : Term) (q : List Step) (cell : Cell) (plan : Plan) → shows term plan ≡ true → shows term (add q cell plan) ≡ true
shows-add term [] cell plan h = h
shows-add term (s ∷ q) cell plan h = shows-into term s (own_cells q cell) (add q cell) (cells-keep-more term q cell) (shows-add term q cell) plan h

pub shows-more : (term : Term) (rows : List Row) (row : Row) → shows term (plan_of rows) ≡ true → shows term (plan_of (rows ++ row ∷ [])) ≡ true
shows-more term rows row h = ap (shows term) (plan-more rows row) ∙ shows-add term row.path (record { number = 0 + length rows; row = row }) (plan_of rows) h

-- ---- the root

first-line : (path : List Step) (s : Step) (cells : List Cell) (inside : Plan) → finds path (a_line s cells inside nothing) ≡ true
    → (q : List Step) × (path ≡ s ∷ q)
first-line [] s cells inside h = absurd (false≢true h)
first-line (v ∷ q) s cells inside h = by (same_step v s) refl h
  where
    by : (b : Bool) → same_step v s ≡ b → elim b [ true ↦ elim q [ [] ↦ true | (u ∷ further) ↦ finds (u ∷ further) inside ] | false ↦ false ] ≡ true
        → (q' : List Step) × (v ∷ q ≡ s ∷ q')
    by true e k = (q, ap (λ x. x ∷ q) (step-sound v s e))
    by false e k = absurd (false≢true k)

same-front : (path other : List Step) (s : Step) (p : List Step) → other ≡ s ∷ p → has_root path other ≡ true → part path other ≡ true
    → (q : List Step) × (path ≡ s ∷ q)
same-front [] other s p e h k = absurd (false≢true h)
same-front (w ∷ q) other s p e h k =
    let root = both (same_name w.name s.name) (is_root w.name) (subst (λ o. has_root (w ∷ q) o ≡ true) e h) in
    let called : is_called w.name s.name ≡ true = called-name w.name s.name ∙ root.0 in
    let parts : part (w ∷ q) (s ∷ p) ≡ true = subst (λ o. part (w ∷ q) o ≡ true) e k in
    let same = both (same_step w s) (part q p) (ap (λ b. elim b [ true ↦ same_step w s && part q p | false ↦ true ]) (sym called) ∙ parts) in
    (q, ap (λ x. x ∷ q) (step-sound w s same.0))

starts : (rows : List Row) (row : Row) → Joins rows row → All (λ (r : Row). 0 < length r.path) rows → (s : Step) (cells : List Cell) (inside : Plan)
    → plan_of rows ≡ a_line s cells inside nothing
    → (q : List Step) × (row.path ≡ s ∷ q)
starts [] row joins long s cells inside e = absurd (false≢true joins.rooted)
starts (first ∷ others) row joins long s cells inside e =
    let there = found-row (first ∷ others) first (inl refl) (all-holds (λ (r : Row). 0 < length r.path) first (first ∷ others) long (inl refl)) in
    let f = first-line first.path s cells inside (subst (λ plan. finds first.path plan ≡ true) e there) in
    same-front row.path first.path s f.0 f.1 joins.rooted (own-parts (first ∷ others) row joins first (inl refl))

-- the one line of the root, with the row
pub record Rooted (rows : List Row) (row : Row) : Type 0 where
  pub step : Step
  pub cells : List Cell
  pub inside : Plan
  pub steps : List Step
  pub once : step.group ≡ None
  pub path : row.path ≡ step ∷ steps
  pub was : plan_of rows ≡ a_line step cells inside nothing
  pub is : plan_of (rows ++ row ∷ []) ≡ a_line step (own_cells steps (record { number = 0 + length rows; row = row }) cells)
      (add steps (record { number = 0 + length rows; row = row }) inside) nothing

pub rooted-more : (rows : List Row) (row : Row) → Joins rows row → All (λ (r : Row). 0 < length r.path) rows → is_one_root (plan_of rows) ≡ true
    → Rooted rows row
rooted-more rows row joins long h =
    let cell : Cell = record { number = 0 + length rows; row = row } in
    let r = one-root (plan_of rows) h in
    let f = starts rows row joins long r.step r.cells r.inside r.is in
    record {
      step = r.step;
      cells = r.cells;
      inside = r.inside;
      steps = f.0;
      once = r.once;
      path = f.1;
      was = r.is;
      is =
          plan-more rows row
          ∙ ((λ i. add (f.1 i) cell (r.is i))
          ∙ into-same r.step r.step (own_cells f.0 cell) (add f.0 cell) r.cells r.inside nothing (step-itself r.step));
    }

module _ (rows : List Row) (row : Row) (r : Rooted rows row) where
  pub one-root-more : is_one_root (plan_of (rows ++ row ∷ [])) ≡ true
  one-root-more = ap is_one_root r.is ∙ ap is_none r.once

  pub root-more : root_table (rows ++ row ∷ []) ≡ root_table rows
  root-more = ap (λ q. option_and_then document_type_named (root_name q)) r.is ∙ sym (ap (λ q. option_and_then document_type_named (root_name q)) r.was)

  pub namespace-more : namespace_of (plan_of (rows ++ row ∷ [])) ≡ namespace_of (plan_of rows)
  namespace-more = ap namespace_of r.is ∙ sym (ap namespace_of r.was)

  pub document_type-more : document_type_of (rows ++ row ∷ []) ≡ document_type_of rows
  document_type-more = ap table_of namespace-more
