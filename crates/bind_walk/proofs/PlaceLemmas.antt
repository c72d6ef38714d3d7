-- The least place of the lines to which a way leads is the least number that a row which nobody added has at its end.
use Rattle.std.proofs.Common.{◌≡◌, ℕ, ◌+◌, min, Bool, true, false, cond, List, [], ◌∷◌, ◌++◌, Option, Some, None, refl, ap, sym, ◌∙◌, arith}
use Rattle.std.specs.Prelude.{◌||◌, nat_lt}
use Rattle.std.specs.List.{list_any}
use Rattle.std.proofs.lemmas.Bool.{ltb-true, ltb-false}
use Rattle.std.proofs.lemmas.List.Folds.{list_any-append}
use Rattle.node_arena.specs.Document.{Document}
use Rattle.node_arena.specs.Moves.{tree_nodes, tree_node}
use Rattle.bind_rows.specs.Added.{is_built, built}
use Rattle.bind_rows.specs.declared.rows.Row.{Row}
use Rattle.bind_rows.specs.declared.rows.Step.{Step}
use Rattle.bind_rows.specs.Same.{same_step, choose}
use Rattle.bind_table.specs.Lines.{Cell, Plan, nothing, a_line, into, own_cells, add, grown, plan_of}
use Rattle.bind_meaning.specs.Names.{has_element_name}
use Rattle.bind_meaning.specs.Losses.{least_place, lesser, place_along}
use Rattle.bind_walk.specs.Lines.{cell_built, some_built, place_if, own_place}
use Rattle.bind_walk.specs.Passing.{Inside, an_inside, inside_named, insides, led, least_of, gate, roots_of}

-- ---- the lesser of two places

abbrev pick : Bool → ℕ → ℕ → Option ℕ
pick b x y = elim b [ true ↦ Some x | false ↦ Some y ]

lesser-min : (a b : ℕ) → lesser (Some a) (Some b) ≡ Some (min a b)
lesser-min a b = at (nat_lt b a) refl
  where
    at : (c : Bool) → nat_lt b a ≡ c → pick c b a ≡ Some (min a b)
    at true e = ap Some (let l = ltb-true b a e in let m : b ≡ min a b = omega (arith, l) in m)
    at false e = ap Some (let l = ltb-false b a e in let m : a ≡ min a b = omega (arith, l) in m)

pub lesser-none : (a : Option ℕ) → a ≡ lesser a None
lesser-none None = refl
lesser-none (Some a) = refl

lesser-comm : (a b : Option ℕ) → lesser a b ≡ lesser b a
lesser-comm None b = lesser-none b
lesser-comm (Some a) None = refl
lesser-comm (Some a) (Some b) = lesser-min a b ∙ (ap Some (let e : min a b ≡ min b a = omega arith in e) ∙ sym (lesser-min b a))

pub lesser-assoc : (a b c : Option ℕ) → lesser a (lesser b c) ≡ lesser (lesser a b) c
lesser-assoc None b c = refl
lesser-assoc (Some a) None c = refl
lesser-assoc (Some a) (Some b) None = lesser-none (lesser (Some a) (Some b))
lesser-assoc (Some a) (Some b) (Some c) =
    ap (lesser (Some a)) (lesser-min b c) ∙ (lesser-min a (min b c)
    ∙ (ap Some (let e : min a (min b c) ≡ min (min a b) c = omega arith in e)
    ∙ (sym (lesser-min (min a b) c) ∙ ap (λ x. lesser x (Some c)) (sym (lesser-min a b)))))

lesser-same : (a : ℕ) → lesser (Some a) (Some a) ≡ Some a
lesser-same a = lesser-min a a ∙ ap Some (let e : min a a ≡ a = omega arith in e)

-- ---- several

module _ {X : Type 0} (f : X → Option ℕ) where
  abbrev least-by : List X → Option ℕ
  least-by [] = None
  least-by (x ∷ xs) = lesser (f x) (least-by xs)

  least-append : (xs ys : List X) → least-by (xs ++ ys) ≡ lesser (least-by xs) (least-by ys)
  least-append [] ys = refl
  least-append (x ∷ xs) ys = ap (lesser (f x)) (least-append xs ys) ∙ lesser-assoc (f x) (least-by xs) (least-by ys)

-- ---- places that are there where some row is built in

or-place : (a b : Bool) (n : ℕ) → place_if (a || b) n ≡ lesser (place_if a n) (gate b (Some n))
or-place true true n = sym (lesser-same n)
or-place true false n = refl
or-place false true n = refl
or-place false false n = refl

or-none : (b : Bool) → b ≡ (b || false)
or-none true = refl
or-none false = refl

or-swap : (a b c : Bool) → ((a || b) || c) ≡ ((a || c) || b)
or-swap true b c = refl
or-swap false true true = refl
or-swap false true false = refl
or-swap false false true = refl
or-swap false false false = refl

or-join : (a b c : Bool) → (a || (b || c)) ≡ ((a || b) || c)
or-join true b c = refl
or-join false b c = refl

spread : (b : Bool) (h m r : Option ℕ) → lesser (gate b (lesser h m)) r ≡ lesser (lesser (gate b h) r) (gate b m)
spread false h m r = lesser-none r
spread true h m r = sym (lesser-assoc h m r) ∙ (ap (lesser h) (lesser-comm m r) ∙ lesser-assoc h r m)

-- ---- rows by lines

module _ (d : Document) (same : (s t : Step) → same_step s t ≡ true → s ≡ t) where
  abbrev named : Step → ℕ → Bool
  named s n = has_element_name s.name (tree_node (tree_nodes d) n)

  -- the place at the end of a way: of the line itself, or of those inside it
  abbrev place-by : Plan → List ℕ → Option ℕ
  place-by nothing way = None
  place-by (a_line s cells inside rest) way = elim way [
    | [] ↦ None
    | (n ∷ more) ↦ lesser (gate (named s n) (elim more [ [] ↦ own_place s cells inside | (m ∷ others) ↦ place-by inside (m ∷ others) ])) (place-by rest (n ∷ more))
  ]

  abbrev here : Option ℕ → Plan → List ℕ → Option ℕ
  here own inside more = elim more [ [] ↦ own | (m ∷ others) ↦ place-by inside (m ∷ others) ]

  by-nil : (plan : Plan) → place-by plan [] ≡ None
  by-nil nothing = refl
  by-nil (a_line s cells inside rest) = refl

  -- ---- a row more

  abbrev more-place : Step → Bool → (List ℕ → Option ℕ) → List ℕ → Option ℕ
  more-place s b more way = elim way [ [] ↦ gate b (Some s.number) | (m ∷ others) ↦ more (m ∷ others) ]

  module _ (s : Step) (own : List Cell → List Cell) (deeper : Plan → Plan) (b : Bool)
      (owns : (cells : List Cell) (inside : Plan) → (list_any cell_built (own cells) || some_built (deeper inside)) ≡
      ((list_any cell_built cells || some_built inside) || b)) where
    built-by : (t : Step) (cells : List Cell) (inside rest : Plan) (a c : Bool) → some_built (into s own deeper rest) ≡ (some_built rest || b)
        → some_built (choose a (λ _. a_line t (own cells) (deeper inside) rest)
        (λ _. choose c (λ _. a_line s (own []) (deeper nothing) (a_line t cells inside rest)) (λ _. a_line t cells inside (into s own deeper rest))))
        ≡ (some_built (a_line t cells inside rest) || b)
    built-by t cells inside rest true c others =
        or-join (list_any cell_built (own cells)) (some_built (deeper inside)) (some_built rest)
        ∙ (ap (λ x. x || some_built rest) (owns cells inside)
        ∙ (or-swap (list_any cell_built cells || some_built inside) b (some_built rest)
        ∙ ap (λ x. x || b) (sym (or-join (list_any cell_built cells) (some_built inside) (some_built rest)))))
    built-by t cells inside rest false true others =
        or-join (list_any cell_built (own [])) (some_built (deeper nothing)) (some_built (a_line t cells inside rest))
        ∙ (ap (λ x. x || some_built (a_line t cells inside rest)) (owns [] nothing) ∙ or-two b (some_built (a_line t cells inside rest)))
      where
        or-two : (x y : Bool) → (x || y) ≡ (y || x)
        or-two true true = refl
        or-two true false = refl
        or-two false true = refl
        or-two false false = refl
    built-by t cells inside rest false false others =
        ap (λ x. list_any cell_built cells || (some_built inside || x)) others
        ∙ (ap (λ x. list_any cell_built cells || x) (or-join (some_built inside) (some_built rest) b)
        ∙ or-join (list_any cell_built cells) (some_built inside || some_built rest) b)

    into-built : (plan : Plan) → some_built (into s own deeper plan) ≡ (some_built plan || b)
    into-built nothing =
        or-join (list_any cell_built (own [])) (some_built (deeper nothing)) false
        ∙ (sym (or-none (list_any cell_built (own []) || some_built (deeper nothing))) ∙ owns [] nothing)
    into-built (a_line t cells inside rest) = built-by t cells inside rest (same_step s t) (nat_lt s.number t.number) (into-built rest)

    module _ (more : List ℕ → Option ℕ)
        (deepens : (plan : Plan) (n : ℕ) (way : List ℕ) → place-by (deeper plan) (n ∷ way) ≡ lesser (place-by plan (n ∷ way)) (more (n ∷ way))) where
      there : (cells : List Cell) (inside : Plan) (way : List ℕ)
          → here (own_place s (own cells) (deeper inside)) (deeper inside) way ≡ lesser (here (own_place s cells inside) inside way) (more-place s b more way)
      there cells inside [] = ap (λ c. place_if c s.number) (owns cells inside) ∙ or-place (list_any cell_built cells || some_built inside) b s.number
      there cells inside (n ∷ way) = deepens inside n way

      none-here : (way : List ℕ) → here (own_place s [] nothing) nothing way ≡ None
      none-here [] = refl
      none-here (n ∷ way) = refl

      fresh : (way : List ℕ) → here (own_place s (own []) (deeper nothing)) (deeper nothing) way ≡ more-place s b more way
      fresh way = there [] nothing way ∙ ap (λ x. lesser x (more-place s b more way)) (none-here way)

      into-by : (t : Step) (cells : List Cell) (inside rest : Plan) (n : ℕ) (way : List ℕ) (a c : Bool) → (a ≡ true → s ≡ t)
          → place-by (into s own deeper rest) (n ∷ way) ≡ lesser (place-by rest (n ∷ way)) (gate (named s n) (more-place s b more way))
          → place-by (choose a (λ _. a_line t (own cells) (deeper inside) rest)
          (λ _. choose c (λ _. a_line s (own []) (deeper nothing) (a_line t cells inside rest)) (λ _. a_line t cells inside (into s own deeper rest))))
          (n ∷ way)
          ≡ lesser (place-by (a_line t cells inside rest) (n ∷ way)) (gate (named s n) (more-place s b more way))
      into-by t cells inside rest n way true c sound others =
          ap (λ r. lesser (gate (named t n) (here (own_place r (own cells) (deeper inside)) (deeper inside) way)) (place-by rest (n ∷ way))) (sym (sound refl))
          ∙ (ap (λ x. lesser (gate (named t n) x) (place-by rest (n ∷ way))) (there cells inside way)
          ∙ (spread (named t n) (here (own_place s cells inside) inside way) (more-place s b more way) (place-by rest (n ∷ way))
          ∙ (ap (λ r. lesser (lesser (gate (named t n) (here (own_place r cells inside) inside way)) (place-by rest (n ∷ way)))
          (gate (named t n) (more-place s b more way))) (sound refl)
          ∙ ap (λ r. lesser (place-by (a_line t cells inside rest) (n ∷ way)) (gate (named r n) (more-place s b more way))) (sym (sound refl)))))
      into-by t cells inside rest n way false true sound others =
          ap (λ x. lesser (gate (named s n) x) (place-by (a_line t cells inside rest) (n ∷ way))) (fresh way)
          ∙ lesser-comm (gate (named s n) (more-place s b more way)) (place-by (a_line t cells inside rest) (n ∷ way))
      into-by t cells inside rest n way false false sound others =
          ap (lesser (gate (named t n) (here (own_place t cells inside) inside way))) others
          ∙ lesser-assoc (gate (named t n) (here (own_place t cells inside) inside way)) (place-by rest (n ∷ way))
          (gate (named s n) (more-place s b more way))

      into-place : (plan : Plan) (n : ℕ) (way : List ℕ)
          → place-by (into s own deeper plan) (n ∷ way) ≡ lesser (place-by plan (n ∷ way)) (gate (named s n) (more-place s b more way))
      into-place nothing n way = sym (lesser-none (gate (named s n) (here (own_place s (own []) (deeper nothing)) (deeper nothing) way)))
          ∙ ap (gate (named s n)) (fresh way)
      into-place (a_line t cells inside rest) n way =
          into-by t cells inside rest n way (same_step s t) (nat_lt s.number t.number) (same s t) (into-place rest n way)

  -- the place of a row at the end of the way, where nobody added the row
  abbrev row-place : Cell → List Step → List ℕ → Option ℕ
  row-place cell steps way = gate (is_built cell.row) (place_along (tree_nodes d) steps way)

  last-built : (cell : Cell) (cells : List Cell) (inside : Plan)
      → (list_any cell_built (cells ++ cell ∷ []) || some_built inside) ≡ ((list_any cell_built cells || some_built inside) || is_built cell.row)
  last-built cell cells inside =
      ap (λ x. x || some_built inside) (list_any-append cell_built cells (cell ∷ []) ∙ ap (λ x. list_any cell_built cells || x) (sym (or-none (is_built cell.row))))
      ∙ or-swap (list_any cell_built cells) (is_built cell.row) (some_built inside)

  gate-none : (b : Bool) → None ≡ gate b None
  gate-none true = refl
  gate-none false = refl

  swap : (a b : Bool) (x : Option ℕ) → gate a (gate b x) ≡ gate b (elim a as (λ _. Option ℕ) [ true ↦ x | false ↦ None ])
  swap true b x = refl
  swap false b x = gate-none b

  row-step : (cell : Cell) (s : Step) (steps : List Step) (n : ℕ) (way : List ℕ)
      → gate (named s n) (more-place s (is_built cell.row) (row-place cell steps) way) ≡ row-place cell (s ∷ steps) (n ∷ way)
  row-step cell s steps n [] = swap (named s n) (is_built cell.row) (Some s.number)
  row-step cell s steps n (m ∷ way) = swap (named s n) (is_built cell.row) (place_along (tree_nodes d) steps (m ∷ way))

  add-built : (cell : Cell) (steps : List Step) (cells : List Cell) (inside : Plan)
      → (list_any cell_built (own_cells steps cell cells) || some_built (add steps cell inside))
      ≡ ((list_any cell_built cells || some_built inside) || is_built cell.row)
  add-built cell [] cells inside = last-built cell cells inside
  add-built cell (s ∷ steps) cells inside =
      ap (λ x. list_any cell_built cells || x)
      (into-built s (own_cells steps cell) (add steps cell) (is_built cell.row) (add-built cell steps) inside)
      ∙ or-join (list_any cell_built cells) (some_built inside) (is_built cell.row)

  add-place : (cell : Cell) (steps : List Step) (plan : Plan) (n : ℕ) (way : List ℕ)
      → place-by (add steps cell plan) (n ∷ way) ≡ lesser (place-by plan (n ∷ way)) (row-place cell steps (n ∷ way))
  add-place cell [] plan n way = lesser-none (place-by plan (n ∷ way)) ∙ ap (lesser (place-by plan (n ∷ way))) (gate-none (is_built cell.row))
  add-place cell (s ∷ steps) plan n way =
      into-place s (own_cells steps cell) (add steps cell) (is_built cell.row) (add-built cell steps) (row-place cell steps) (add-place cell steps) plan n way
      ∙ ap (lesser (place-by plan (n ∷ way))) (row-step cell s steps n way)

  grown-place : (plan : Plan) (k : ℕ) (rows : List Row) (n : ℕ) (way : List ℕ)
      → place-by (grown plan k rows) (n ∷ way) ≡ lesser (place-by plan (n ∷ way)) (least_place (tree_nodes d) (built rows) (n ∷ way))
  grown-place plan k [] n way = lesser-none (place-by plan (n ∷ way))
  grown-place plan k (row ∷ rows) n way =
      let cell : Cell = record { number = k; row = row } in
      let others = least_place (tree_nodes d) (built rows) (n ∷ way) in
      grown-place (add row.path cell plan) (k + 1) rows n way
      ∙ (ap (λ x. lesser x others) (add-place cell row.path plan n way)
      ∙ (sym (lesser-assoc (place-by plan (n ∷ way)) (row-place cell row.path (n ∷ way)) others)
      ∙ ap (lesser (place-by plan (n ∷ way))) (at (is_built row))))
    where
      at : (b : Bool) → lesser (gate b (place_along (tree_nodes d) row.path (n ∷ way))) (least_place (tree_nodes d) (built rows) (n ∷ way))
          ≡ least_place (tree_nodes d) (cond b (row ∷ built rows) (built rows)) (n ∷ way)
      at true = refl
      at false = refl

  -- ---- where a way leads

  abbrev inside-place : List ℕ → Inside → Option ℕ
  inside-place way x = here x.place x.plan way

  abbrev by-plan : List ℕ → Inside → Option ℕ
  by-plan way x = place-by x.plan way

  one-least : (n : ℕ) (plan : Plan) (way : List ℕ) → least-by (inside-place way) (inside_named d n plan) ≡ place-by plan (n ∷ way)
  one-least n nothing way = refl
  one-least n (a_line s cells inside rest) way = at (named s n) (one-least n rest way)
    where
      at : (b : Bool) → least-by (inside-place way) (inside_named d n rest) ≡ place-by rest (n ∷ way)
          → least-by (inside-place way) ((elim b as (λ _. List Inside) [ true ↦ an_inside s cells inside ∷ [] | false ↦ [] ]) ++ inside_named d n rest)
          ≡ lesser (gate b (here (own_place s cells inside) inside way)) (place-by rest (n ∷ way))
      at true e = ap (lesser (here (own_place s cells inside) inside way)) e
      at false e = e

  all-least : (n : ℕ) (xs : List Inside) (way : List ℕ) → least-by (inside-place way) (insides d n xs) ≡ least-by (by-plan (n ∷ way)) xs
  all-least n [] way = refl
  all-least n (x ∷ xs) way =
      least-append (inside-place way) (inside_named d n x.plan) (insides d n xs)
      ∙ (ap (λ a. lesser a (least-by (inside-place way) (insides d n xs))) (one-least n x.plan way)
      ∙ ap (lesser (place-by x.plan (n ∷ way))) (all-least n xs way))

  own-least : (xs : List Inside) → least_of xs ≡ least-by (inside-place []) xs
  own-least [] = refl
  own-least (x ∷ xs) = ap (lesser x.place) (own-least xs)

  led-least : (xs : List Inside) (way : List ℕ) → least_of (led d xs way) ≡ least-by (inside-place way) xs
  led-least xs [] = own-least xs
  led-least xs (n ∷ way) = led-least (insides d n xs) way ∙ all-least n xs way

  none-least : (rows : List Row) → None ≡ least_place (tree_nodes d) rows []
  none-least [] = refl
  none-least (row ∷ rows) = none-least rows ∙ ap (λ x. lesser x (least_place (tree_nodes d) rows [])) (none-along row.path)
    where
      none-along : (path : List Step) → None ≡ place_along (tree_nodes d) path []
      none-along [] = refl
      none-along (s ∷ path) = refl

  pub least-is : (rows : List Row) (way : List ℕ) → least_of (led d (roots_of rows) way) ≡ least_place (tree_nodes d) (built rows) way
  least-is [] [] = refl
  least-is [] (n ∷ way) = led-least [] (n ∷ way)
  least-is (row ∷ rows) [] = none-least (built (row ∷ rows))
  least-is (row ∷ rows) (n ∷ way) =
      led-least (roots_of (row ∷ rows)) (n ∷ way)
      ∙ (sym (lesser-none (place-by (plan_of (row ∷ rows)) (n ∷ way))) ∙ grown-place nothing 0 (row ∷ rows) n way)
