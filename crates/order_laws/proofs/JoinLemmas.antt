-- A table in order stays so where a row joins it: the table's own rows have no place for the elements that the row adds.
use Rattle.std.proofs.Common.{◌≡◌, ℕ, ◌<◌, ◌≤◌, Bool, true, false, not, ◌&&◌, List, [], ◌∷◌, ◌++◌, refl, sym, ap, ◌∙◌, subst, arith}
use Rattle.std.specs.Prelude.{nat_lt, nat_le, Option, Some, None}
use Rattle.std.specs.List.{list_all}
use Rattle.std.proofs.lemmas.Bool.{false≢true, ltb-true, leb-true}
use Rattle.bind_rows.specs.declared.names.ElementName.{ElementName}
use Rattle.bind_rows.specs.declared.rows.Step.{Step}
use Rattle.bind_rows.specs.Same.{same_name, same_step, choose}
use Rattle.bind_table.specs.Crossings.{part_by_name}
use Rattle.bind_table.specs.Laid.{element_numbers}
use Rattle.bind_table.specs.Lines.{Cell, Plan, nothing, a_line, own_cells, into, add}
use Rattle.bind_table.proofs.PathLemmas.{name-itself}
use Rattle.bind_table.proofs.SameLemmas.{name-sound, step-sound}
use Rattle.bind_meaning.specs.Losses.{lesser}
use Rattle.extension_laws.specs.Ways.{finds, are_new, new_steps, all_below}
use Rattle.order_laws.specs.Order.{least_number, all_behind, is_less, raised, rise}
use Rattle.binding_laws.proofs.TreeLemmas.{Each}
use Rattle.order_laws.proofs.ListLemmas.{both, and-so}

-- ---- paths that another one parts from

-- The numbers of its elements are at most this one.
abbrev pub IsLow : ℕ → List Step → Type 0
IsLow top path = Each (λ (s : Step). s.number ≤ top) path

-- The path leaves each of the others by a name, and their numbers are low.
abbrev pub Parts : ℕ → List Step → List (List Step) → Type 0
Parts top path others = Each (λ other. (part_by_name path other ≡ true) × IsLow top other) others

-- Where both go through an element of one name, it is one element, and behind it they part.
part-further : (s o : Step) (path other : List Step) → same_name o.name s.name ≡ true → part_by_name (s ∷ path) (o ∷ other) ≡ true
    → (s ≡ o) × (part_by_name path other ≡ true)
part-further s o path other e h =
    by (same_name s.name o.name) (same_step s o) (ap (λ (name : ElementName). same_name s.name name) (name-sound o.name s.name e) ∙ name-itself s.name) refl h
  where
    by : (a b : Bool) → a ≡ true → same_step s o ≡ b → choose a (λ _. choose b (λ _. part_by_name path other) (λ _. false)) (λ _. true) ≡ true
        → (s ≡ o) × (part_by_name path other ≡ true)
    by true true k f h = (step-sound s o f, h)
    by true false k f h = absurd (false≢true h)
    by false b k f h = absurd (false≢true k)

parts-behind : (top : ℕ) (s : Step) (path : List Step) (others : List (List Step)) → Parts top (s ∷ path) others → Parts top path (all_behind s.name others)
parts-behind top s path [] h = tt
parts-behind top s path ([] ∷ others) h = parts-behind top s path others h.1
parts-behind top s path ((o ∷ other) ∷ others) h = by (same_name o.name s.name) refl (parts-behind top s path others h.1)
  where
    by : (b : Bool) → same_name o.name s.name ≡ b → Parts top path (all_behind s.name others)
        → Parts top path (elim b [ true ↦ other ∷ [] | false ↦ [] ] ++ all_behind s.name others)
    by true e later = (((part-further s o path other e h.0.0).1, h.0.1.1), later)
    by false e later = later

-- ---- a new element has no place

other-name : (top : ℕ) (s o : Step) (path other : List Step) → top < s.number → part_by_name (s ∷ path) (o ∷ other) ≡ true → o.number ≤ top
    → (b : Bool) → same_name o.name s.name ≡ b → b ≡ false
other-name top s o path other new h low true e =
    let n : s.number ≡ o.number = ap (λ (x : Step). x.number) (part-further s o path other e h).0 in
    let z : ⊥ = omega (arith, new, low, n) in
    absurd z
other-name top s o path other new h low false e = refl

no-place : (top : ℕ) (s : Step) (path : List Step) (others : List (List Step)) → top < s.number → Parts top (s ∷ path) others
    → least_number s.name others ≡ None
no-place top s path [] new h = refl
no-place top s path ([] ∷ others) new h = no-place top s path others new h.1
no-place top s path ((o ∷ other) ∷ others) new h =
    ap (λ b. lesser (elim b [ true ↦ Some o.number | false ↦ None ]) (least_number s.name others))
    (other-name top s o path other new h.0.0 h.0.1.0 (same_name o.name s.name) refl)
    ∙ no-place top s path others new h.1

nothing-behind : (top : ℕ) (s : Step) (path : List Step) (others : List (List Step)) → top < s.number → Parts top (s ∷ path) others
    → all_behind s.name others ≡ []
nothing-behind top s path [] new h = refl
nothing-behind top s path ([] ∷ others) new h = nothing-behind top s path others new h.1
nothing-behind top s path ((o ∷ other) ∷ others) new h =
    ap (λ b. elim b [ true ↦ other ∷ [] | false ↦ [] ] ++ all_behind s.name others)
    (other-name top s o path other new h.0.0 h.0.1.0 (same_name o.name s.name) refl)
    ∙ nothing-behind top s path others new h.1

rise-nowhere : (bound : ℕ) (plan : Plan) → rise [] bound plan ≡ true
rise-nowhere bound nothing = refl
rise-nowhere bound (a_line t cells inside rest) = and-so (rise [] 0 inside) (rise [] bound rest) (rise-nowhere 0 inside) (rise-nowhere bound rest)

new-line : (top : ℕ) (s : Step) (path : List Step) (others : List (List Step)) (bound : ℕ) (cells : List Cell) (inside rest : Plan) → top < s.number
    → Parts top (s ∷ path) others → rise others bound rest ≡ true → rise others bound (a_line s cells inside rest) ≡ true
new-line top s path others bound cells inside rest new parts h =
    ap (λ place. not (is_less place bound) && (rise (all_behind s.name others) 0 inside && rise others (raised bound place) rest))
    (no-place top s path others new parts)
    ∙ (ap (λ behind. rise behind 0 inside && rise others bound rest) (nothing-behind top s path others new parts)
    ∙ and-so (rise [] 0 inside) (rise others bound rest) (rise-nowhere 0 inside) h)

-- ---- lines with a further row

new-first : (top : ℕ) (s : Step) (path : List Step) → are_new top (s ∷ path) ≡ true → top < s.number
new-first top s path h = ltb-true top s.number (both (nat_lt top s.number) (are_new s.number path) h).0

module _ (top : ℕ) (s : Step) (path : List Step) (cell : Cell) (others : List (List Step)) (parts : Parts top (s ∷ path) others)
    (keeps : (inside : Plan) → are_new top (new_steps path inside) ≡ true → rise (all_behind s.name others) 0 inside ≡ true
    → rise (all_behind s.name others) 0 (add path cell inside) ≡ true) where
  same-line : (t : Step) (cells : List Cell) (inside rest : Plan) (bound : ℕ) → s ≡ t → are_new top (new_steps path inside) ≡ true
      → rise others bound (a_line t cells inside rest) ≡ true → rise others bound (a_line t (own_cells path cell cells) (add path cell inside) rest) ≡ true
  same-line t cells inside rest bound e new h =
      let place : Option ℕ = least_number t.name others in
      let own = both (not (is_less place bound)) (rise (all_behind t.name others) 0 inside && rise others (raised bound place) rest) h in
      let w = both (rise (all_behind t.name others) 0 inside) (rise others (raised bound place) rest) own.1 in
      let deeper : rise (all_behind t.name others) 0 (add path cell inside) ≡ true =
      subst (λ (x : Step). rise (all_behind x.name others) 0 (add path cell inside) ≡ true) e
      (keeps inside new (subst (λ (x : Step). rise (all_behind x.name others) 0 inside ≡ true) (sym e) w.0)) in
      and-so (not (is_less place bound)) (rise (all_behind t.name others) 0 (add path cell inside) && rise others (raised bound place) rest) own.0
      (and-so (rise (all_behind t.name others) 0 (add path cell inside)) (rise others (raised bound place) rest) deeper w.1)

  behind-line : (t : Step) (cells : List Cell) (inside rest rest' : Plan) (bound : ℕ)
      → ((bound' : ℕ) → rise others bound' rest ≡ true → rise others bound' rest' ≡ true)
      → rise others bound (a_line t cells inside rest) ≡ true → rise others bound (a_line t cells inside rest') ≡ true
  behind-line t cells inside rest rest' bound later h =
      let place : Option ℕ = least_number t.name others in
      let own = both (not (is_less place bound)) (rise (all_behind t.name others) 0 inside && rise others (raised bound place) rest) h in
      let w = both (rise (all_behind t.name others) 0 inside) (rise others (raised bound place) rest) own.1 in
      and-so (not (is_less place bound)) (rise (all_behind t.name others) 0 inside && rise others (raised bound place) rest') own.0
      (and-so (rise (all_behind t.name others) 0 inside) (rise others (raised bound place) rest') w.0 (later (raised bound place) w.1))

  rise-by : (t : Step) (cells : List Cell) (inside rest : Plan) (bound : ℕ) (a b : Bool) → same_step s t ≡ a
      → are_new top (choose a (λ _. new_steps path inside) (λ _. choose b (λ _. s ∷ path) (λ _. new_steps (s ∷ path) rest))) ≡ true
      → (are_new top (new_steps (s ∷ path) rest) ≡ true → (bound' : ℕ) → rise others bound' rest ≡ true
      → rise others bound' (into s (own_cells path cell) (add path cell) rest) ≡ true)
      → rise others bound (a_line t cells inside rest) ≡ true
      → rise others bound (choose a (λ _. a_line t (own_cells path cell cells) (add path cell inside) rest)
      (λ _. choose b (λ _. a_line s (own_cells path cell []) (add path cell nothing) (a_line t cells inside rest))
      (λ _. a_line t cells inside (into s (own_cells path cell) (add path cell) rest)))) ≡ true
  rise-by t cells inside rest bound true b e new later h = same-line t cells inside rest bound (step-sound s t e) new h
  rise-by t cells inside rest bound false true e new later h =
      new-line top s path others bound (own_cells path cell []) (add path cell nothing) (a_line t cells inside rest) (new-first top s path new) parts h
  rise-by t cells inside rest bound false false e new later h =
      behind-line t cells inside rest (into s (own_cells path cell) (add path cell) rest) bound (later new) h

  rise-into : (plan : Plan) (bound : ℕ) → are_new top (new_steps (s ∷ path) plan) ≡ true → rise others bound plan ≡ true
      → rise others bound (into s (own_cells path cell) (add path cell) plan) ≡ true
  rise-into nothing bound new h =
      new-line top s path others bound (own_cells path cell []) (add path cell nothing) nothing (new-first top s path new) parts refl
  rise-into (a_line t cells inside rest) bound new h =
      rise-by t cells inside rest bound (same_step s t) (nat_lt s.number t.number) refl new (λ n bound' k. rise-into rest bound' n k) h

pub rise-add : (top : ℕ) (cell : Cell) (path : List Step) (others : List (List Step)) (bound : ℕ) (plan : Plan) → Parts top path others
    → are_new top (new_steps path plan) ≡ true → rise others bound plan ≡ true → rise others bound (add path cell plan) ≡ true
rise-add top cell [] others bound plan parts new h = h
rise-add top cell (s ∷ path) others bound plan parts new h =
    rise-into top s path cell others parts
    (λ inside n k. rise-add top cell path (all_behind s.name others) 0 inside (parts-behind top s path others parts) n k) plan bound new h

-- ---- the numbers of paths that are those of lines

all-front : (p : ℕ → Bool) (xs ys : List ℕ) → list_all p (xs ++ ys) ≡ true → (list_all p xs ≡ true) × (list_all p ys ≡ true)
all-front p [] ys h = (refl, h)
all-front p (x ∷ xs) ys h =
    let w = both (p x) (list_all p (xs ++ ys)) h in
    let v = all-front p xs ys w.1 in (and-so (p x) (list_all p xs) w.0 v.0, v.1)

low-by : (top : ℕ) (s : Step) (path : List Step) (t : Step) (inside rest : Plan) (a : Bool) → same_step s t ≡ a
    → all_below top (t.number ∷ (element_numbers inside ++ element_numbers rest)) ≡ true
    → elim a [
      | true ↦ elim path [ [] ↦ true | (u ∷ further) ↦ finds (u ∷ further) inside ]
      | false ↦ finds (s ∷ path) rest
    ] ≡ true
    → (elim path [ [] ↦ true | (u ∷ further) ↦ finds (u ∷ further) inside ] ≡ true → all_below top (element_numbers inside) ≡ true → IsLow top path)
    → (finds (s ∷ path) rest ≡ true → all_below top (element_numbers rest) ≡ true → IsLow top (s ∷ path)) → IsLow top (s ∷ path)
low-by top s path t inside rest true e below h deeper later =
    let w = both (nat_le t.number top) (all_below top (element_numbers inside ++ element_numbers rest)) below in
    let v = all-front (λ n. nat_le n top) (element_numbers inside) (element_numbers rest) w.1 in
    (subst (λ (x : Step). x.number ≤ top) (sym (step-sound s t e)) (leb-true t.number top w.0), deeper h v.0)
low-by top s path t inside rest false e below h deeper later =
    let w = both (nat_le t.number top) (all_below top (element_numbers inside ++ element_numbers rest)) below in
    later h (all-front (λ n. nat_le n top) (element_numbers inside) (element_numbers rest) w.1).1

pub found-low : (top : ℕ) (path : List Step) (plan : Plan) → finds path plan ≡ true → all_below top (element_numbers plan) ≡ true → IsLow top path
found-low top [] plan h below = tt
found-low top (s ∷ path) nothing h below = absurd (false≢true h)
found-low top (s ∷ []) (a_line t cells inside rest) h below =
    low-by top s [] t inside rest (same_step s t) refl below h (λ k b. tt) (λ k b. found-low top (s ∷ []) rest k b)
found-low top (s ∷ u ∷ path) (a_line t cells inside rest) h below =
    low-by top s (u ∷ path) t inside rest (same_step s t) refl below h (λ k b. found-low top (u ∷ path) inside k b)
    (λ k b. found-low top (s ∷ u ∷ path) rest k b)
