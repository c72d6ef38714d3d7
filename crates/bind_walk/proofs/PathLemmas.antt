-- What a row picks by itself, as the sight of the walk sees it.
use Rattle.std.proofs.Common.{◌≡◌, ℕ, ◌+◌, Bool, true, false, cond, List, [], ◌∷◌, ◌++◌, map, Option, Some, None, refl, ap, sym, ◌∙◌}
use Rattle.std.specs.Prelude.{filter, option_and_then}
use Rattle.std.specs.List.{flat_map}
use Rattle.std.proofs.lemmas.List.{append-nil, map-append}
use Rattle.std.proofs.lemmas.List.Concat.{flat_map-append}
use Rattle.term_table.specs.declared.groups.Group.{Group}
use Rattle.node_arena.specs.Document.{Document}
use Rattle.node_arena.specs.Moves.{tree_nodes}
use Rattle.bind_rows.specs.declared.rows.Step.{Step}
use Rattle.bind_rows.specs.declared.rows.Row.{Row}
use Rattle.bind_rows.specs.Same.{same_or_none}
use Rattle.bind_table.specs.Lines.{Cell}
use Rattle.bind_table.specs.Picks.{entered, picked, picked_from}
use Rattle.bind_meaning.specs.declared.picked.Picked.{Picked}
use Rattle.bind_meaning.specs.Elements.{met}
use Rattle.bind_meaning.specs.Picks.{ways, last_of, leaves_of, picks_of_way, nodes_picked, Numbered, numbered, all_picked, carrier}
use Rattle.bind_meaning.specs.Kept.{kept}
use Rattle.bind_walk.specs.declared.lines.Wanted.{Wanted}
use Rattle.bind_walk.specs.declared.walk.Carried.{Carried}
use Rattle.bind_walk.specs.declared.finds.Find.{Find}
use Rattle.bind_walk.specs.Lines.{wanted}
use Rattle.bind_walk.specs.Finds.{same_wanted, picked_for}
use Rattle.bind_walk.specs.Walks.{carried, carrier_of, told_for, sight}

-- ---- lists one behind another

flat-flat : {X Y Z : Type 0} (f : Y → List Z) (g : X → List Y) (xs : List X) → flat_map f (flat_map g xs) ≡ flat_map (λ x. flat_map f (g x)) xs
flat-flat f g [] = refl
flat-flat f g (x ∷ xs) = flat_map-append f (g x) (flat_map g xs) ∙ ap (λ ys. flat_map f (g x) ++ ys) (flat-flat f g xs)

flat-map : {X Y Z : Type 0} (f : Y → List Z) (g : X → Y) (xs : List X) → flat_map f (map g xs) ≡ flat_map (λ x. f (g x)) xs
flat-map f g [] = refl
flat-map f g (x ∷ xs) = ap (λ ys. f (g x) ++ ys) (flat-map f g xs)

flat-agree : {X Y : Type 0} (f g : X → List Y) → ((x : X) → f x ≡ g x) → (xs : List X) → flat_map f xs ≡ flat_map g xs
flat-agree f g h [] = refl
flat-agree f g h (x ∷ xs) = ap (λ ys. ys ++ flat_map f xs) (h x) ∙ ap (λ ys. g x ++ ys) (flat-agree f g h xs)

map-flat : {X Y Z : Type 0} (f : Y → Z) (g : X → List Y) (xs : List X) → map f (flat_map g xs) ≡ flat_map (λ x. map f (g x)) xs
map-flat f g [] = refl
map-flat f g (x ∷ xs) = map-append f (g x) (flat_map g xs) ∙ ap (λ ys. map f (g x) ++ ys) (map-flat f g xs)

map-map : {X Y Z : Type 0} (f : Y → Z) (g : X → Y) (xs : List X) → map f (map g xs) ≡ map (λ x. f (g x)) xs
map-map f g [] = refl
map-map f g (x ∷ xs) = ap (λ ys. f (g x) ∷ ys) (map-map f g xs)

-- ---- the elements of groups

abbrev or_else : Option ℕ → Option ℕ → Option ℕ
or_else a b = elim a [ Some n ↦ Some n | None ↦ b ]

or-none : (a : Option ℕ) → a ≡ or_else a None
or-none None = refl
or-none (Some n) = refl

or-assoc : (a b c : Option ℕ) → or_else (or_else a b) c ≡ or_else a (or_else b c)
or-assoc None b c = refl
or-assoc (Some n) b c = refl

-- of the elements around, or else of those on the way
abbrev of_group : List Carried → List Step → List ℕ → Option Group → Option ℕ
of_group around path way None = None
of_group around path way (Some group) = or_else (carried group around) (carrier group path way)

carried-push : (group : Group) (around : List Carried) (c : Carried)
    → carried group (around ++ c ∷ []) ≡ or_else (carried group around)
    (elim (same_or_none (Some c.group) (Some group)) [ true ↦ Some c.element | false ↦ None ])
carried-push group [] c = refl
carried-push group (a ∷ around) c = at (same_or_none (Some a.group) (Some group)) (carried-push group around c)
  where
    at : (b : Bool) → carried group (around ++ c ∷ [])
        ≡ or_else (carried group around) (elim (same_or_none (Some c.group) (Some group)) [ true ↦ Some c.element | false ↦ None ])
        → (elim b as (λ _. Option ℕ) [ true ↦ Some a.element | false ↦ carried group (around ++ c ∷ []) ])
        ≡ or_else (elim b as (λ _. Option ℕ) [ true ↦ Some a.element | false ↦ carried group around ])
        (elim (same_or_none (Some c.group) (Some group)) [ true ↦ Some c.element | false ↦ None ])
    at true e = refl
    at false e = e

module _ (d : Document) where
  abbrev enter : Group → ℕ → List Carried → List Carried
  enter = (sight d).enter

  carrier-step : (o : Option Group) (group : Group) (path : List Step) (way : List ℕ) (m : ℕ) (around : List Carried)
      → or_else (carried group (entered enter o m around)) (carrier group path way)
      ≡ or_else (carried group around) (elim (same_or_none o (Some group)) [ true ↦ Some m | false ↦ carrier group path way ])
  carrier-step None group path way m around = refl
  carrier-step (Some g) group path way m around =
      let here : Option ℕ = elim (same_or_none (Some g) (Some group)) [ true ↦ Some m | false ↦ None ] in
      ap (λ o. or_else o (carrier group path way)) (carried-push group around (record { group = g; element = m }))
      ∙ (or-assoc (carried group around) here (carrier group path way) ∙ ap (or_else (carried group around)) (at (same_or_none (Some g) (Some group))))
    where
      at : (b : Bool) → or_else (elim b as (λ _. Option ℕ) [ true ↦ Some m | false ↦ None ]) (carrier group path way)
          ≡ (elim b as (λ _. Option ℕ) [ true ↦ Some m | false ↦ carrier group path way ])
      at true = refl
      at false = refl

  group-step : (s : Step) (path : List Step) (way : List ℕ) (m : ℕ) (around : List Carried) (o : Option Group)
      → of_group (entered enter s.group m around) path way o ≡ of_group around (s ∷ path) (m ∷ way) o
  group-step s path way m around None = refl
  group-step s path way m around (Some group) = carrier-step s.group group path way m around

  group-none : (around : List Carried) (o : Option Group) → carrier_of around o ≡ of_group around [] [] o
  group-none around None = refl
  group-none around (Some group) = or-none (carried group around)

  group-whole : (path : List Step) (way : List ℕ) (o : Option Group) → of_group [] path way o ≡ option_and_then (λ group. carrier group path way) o
  group-whole path way None = refl
  group-whole path way (Some group) = refl

  -- ---- a row along its path

  abbrev find_with : ℕ → Wanted → Option ℕ → Option ℕ → ℕ → Find
  find_with k w outer inner n = record { wanted = w; picked = record { node = n; row = k; outer = outer; inner = inner } }

  abbrev told_by : ℕ → Row → Option ℕ → Option ℕ → ℕ → Option Wanted → List Find
  told_by k row outer inner n None = []
  told_by k row outer inner n (Some w) = map (find_with k w outer inner) (leaves_of (tree_nodes d) row.leaf n)

  abbrev told_way : List Carried → List Step → List ℕ → ℕ → Row → ℕ → Option Wanted → List Find
  told_way around path way k row n w = told_by k row (of_group around path way row.outer) (of_group around path way row.inner) n w

  told-is : (around : List Carried) (k : ℕ) (row : Row) (n : ℕ) (w : Option Wanted) → told_for d around k row n w ≡ told_way around [] [] k row n w
  told-is around k row n None = refl
  told-is around k row n (Some w) =
      ap (λ o. map (find_with k w o (carrier_of around row.inner)) (leaves_of (tree_nodes d) row.leaf n)) (group-none around row.outer)
      ∙ ap (λ i. map (find_with k w (of_group around [] [] row.outer) i) (leaves_of (tree_nodes d) row.leaf n)) (group-none around row.inner)

  told-step : (s : Step) (path : List Step) (around : List Carried) (k : ℕ) (row : Row) (m : ℕ) (w : Option Wanted) (way : List ℕ) (n : ℕ)
      → told_way (entered enter s.group m around) path way k row n w ≡ told_way around (s ∷ path) (m ∷ way) k row n w
  told-step s path around k row m w way n =
      ap (λ o. told_by k row o (of_group (entered enter s.group m around) path way row.inner) n w) (group-step s path way m around row.outer)
      ∙ ap (λ i. told_by k row (of_group around (s ∷ path) (m ∷ way) row.outer) i n w) (group-step s path way m around row.inner)

  path-is : (cell : Cell) (path : List Step) (around : List Carried) (x : ℕ)
      → picked (sight d) cell path around x ≡ flat_map (λ way. told_way around path way (cell.number + 1) cell.row (last_of (x ∷ way)) (wanted cell.row))
      (ways (tree_nodes d) path x)
  path-is cell [] around x = told-is around (cell.number + 1) cell.row x (wanted cell.row)
      ∙ sym (append-nil (told_way around [] [] (cell.number + 1) cell.row x (wanted cell.row)))
  path-is cell (s ∷ path) around x =
      let k = cell.number + 1 in
      let row = cell.row in
      let w = wanted cell.row in
      let nodes = tree_nodes d in
      let below : ℕ → List Find = λ m. picked (sight d) cell path (entered enter s.group m around) m in
      let along : ℕ → List Find = λ m. flat_map (λ way. told_way (entered enter s.group m around) path way k row (last_of (m ∷ way)) w) (ways nodes path m) in
      let whole : List ℕ → List Find = λ way. told_way around (s ∷ path) way k row (last_of (x ∷ way)) w in
      flat-agree below along (λ m. path-is cell path (entered enter s.group m around) m) (met nodes s x)
      ∙ (flat-agree along (λ m. flat_map whole (map (λ way. m ∷ way) (ways nodes path m)))
      (λ m. flat-agree (λ way. told_way (entered enter s.group m around) path way k row (last_of (m ∷ way)) w) (λ way. whole (m ∷ way))
      (λ way. told-step s path around k row m w way (last_of (m ∷ way))) (ways nodes path m)
      ∙ sym (flat-map whole (λ way. m ∷ way) (ways nodes path m))) (met nodes s x)
      ∙ sym (flat-flat whole (λ m. map (λ way. m ∷ way) (ways nodes path m)) (met nodes s x)))

  -- ---- what a row picks, by itself

  abbrev pub is_for : Wanted → Option Wanted → Bool
  is_for w None = false
  is_for w (Some v) = same_wanted v w

  abbrev when : {X : Type 0} → Bool → List X → List X
  when b xs = elim b [ true ↦ xs | false ↦ [] ]

  last-zero : (way : List ℕ) → last_of (0 ∷ way) ≡ last_of way
  last-zero [] = refl
  last-zero (n ∷ way) = refl

  kept-is : (k : ℕ) (row : Row) (way ns : List ℕ) (w : Wanted)
      → map (λ n. (find_with k w (of_group [] row.path way row.outer) (of_group [] row.path way row.inner) n).picked) ns
      ≡ map kept (map (λ n. record { place = k; row = row; elements = way; node = n }) ns)
  kept-is k row way ns w =
      ap (λ o. map (λ n. (find_with k w o (of_group [] row.path way row.inner) n).picked) ns) (group-whole row.path way row.outer)
      ∙ (ap (λ i. map (λ n. (find_with k w (option_and_then (λ group. carrier group row.path way) row.outer) i n).picked) ns)
      (group-whole row.path way row.inner)
      ∙ sym (map-map kept (λ n. record { place = k; row = row; elements = way; node = n }) ns))

  picked-when : (w v : Wanted) (k : ℕ) (outer inner : Option ℕ) (ns : List ℕ)
      → flat_map (picked_for w) (map (find_with k v outer inner) ns) ≡ when (same_wanted v w) (map (λ n. (find_with k v outer inner n).picked) ns)
  picked-when w v k outer inner [] = none (same_wanted v w)
    where
      none : (b : Bool) → [] ≡ when {X = Picked} b []
      none true = refl
      none false = refl
  picked-when w v k outer inner (n ∷ ns) = at (same_wanted v w) (picked-when w v k outer inner ns)
    where
      at : (b : Bool) → flat_map (picked_for w) (map (find_with k v outer inner) ns) ≡ when b (map (λ n. (find_with k v outer inner n).picked) ns)
          → (when b ((find_with k v outer inner n).picked ∷ []) ++ flat_map (picked_for w) (map (find_with k v outer inner) ns))
          ≡ when b (map (λ n. (find_with k v outer inner n).picked) (n ∷ ns))
      at true e = ap (λ xs. (find_with k v outer inner n).picked ∷ xs) e
      at false e = e

  way-is : (w : Wanted) (k : ℕ) (row : Row) (way : List ℕ) (o : Option Wanted)
      → flat_map (picked_for w) (told_way [] row.path way k row (last_of (0 ∷ way)) o) ≡ when (is_for w o) (map kept (picks_of_way (tree_nodes d) k row way))
  way-is w k row way None = refl
  way-is w k row way (Some v) =
      let ns = leaves_of (tree_nodes d) row.leaf (last_of way) in
      ap (λ n. flat_map (picked_for w) (told_way [] row.path way k row n (Some v))) (last-zero way)
      ∙ (picked-when w v k (of_group [] row.path way row.outer) (of_group [] row.path way row.inner) ns
      ∙ ap (when (same_wanted v w)) (kept-is k row way ns v))

  when-flat : {X Y : Type 0} (b : Bool) (f : X → List Y) (xs : List X) → flat_map (λ x. when b (f x)) xs ≡ when b (flat_map f xs)
  when-flat true f xs = refl
  when-flat false f [] = refl
  when-flat false f (x ∷ xs) = when-flat false f xs

  row-picks : (w : Wanted) (n : ℕ) (row : Row)
      → flat_map (picked_for w) (picked (sight d) (record { number = n; row = row }) row.path [] 0)
      ≡ when (is_for w (wanted row)) (map kept (nodes_picked (tree_nodes d) (n + 1) row))
  row-picks w n row =
      let nodes = tree_nodes d in
      let all = ways nodes row.path 0 in
      let one : List ℕ → List Find = λ way. told_way [] row.path way (n + 1) row (last_of (0 ∷ way)) (wanted row) in
      ap (flat_map (picked_for w)) (path-is (record { number = n; row = row }) row.path [] 0)
      ∙ (flat-flat (picked_for w) one all
      ∙ (flat-agree (λ way. flat_map (picked_for w) (one way)) (λ way. when (is_for w (wanted row)) (map kept (picks_of_way nodes (n + 1) row way)))
      (λ way. way-is w (n + 1) row way (wanted row)) all
      ∙ (when-flat (is_for w (wanted row)) (λ way. map kept (picks_of_way nodes (n + 1) row way)) all
      ∙ ap (when (is_for w (wanted row))) (sym (map-flat kept (picks_of_way nodes (n + 1) row) all)))))

  pub rows-pick : (w : Wanted) (test : Row → Bool) → ((row : Row) → test row ≡ is_for w (wanted row)) → (n : ℕ) (rows : List Row)
      → flat_map (picked_for w) (picked_from (sight d) n rows [] 0)
      ≡ map kept (all_picked (tree_nodes d) (filter (λ (r : Numbered). test r.row) (numbered (n + 1) rows)))
  rows-pick w test agree n [] = refl
  rows-pick w test agree n (row ∷ rows) =
      let own = picked (sight d) (record { number = n; row = row }) row.path [] 0 in
      let others = picked_from (sight d) (n + 1) rows [] 0 in
      flat_map-append (picked_for w) own others
      ∙ (ap (λ xs. xs ++ flat_map (picked_for w) others)
      (row-picks w n row ∙ ap (λ b. when b (map kept (nodes_picked (tree_nodes d) (n + 1) row))) (sym (agree row)))
      ∙ at (test row) (rows-pick w test agree (n + 1) rows))
    where
      at : (b : Bool) → flat_map (picked_for w) (picked_from (sight d) (n + 1) rows [] 0)
          ≡ map kept (all_picked (tree_nodes d) (filter (λ (r : Numbered). test r.row) (numbered (n + 1 + 1) rows)))
          → (when b (map kept (nodes_picked (tree_nodes d) (n + 1) row)) ++ flat_map (picked_for w) (picked_from (sight d) (n + 1) rows [] 0))
          ≡ map kept (all_picked (tree_nodes d) (cond b
          (record { place = n + 1; row = row } ∷ filter (λ (r : Numbered). test r.row) (numbered (n + 1 + 1) rows))
          (filter (λ (r : Numbered). test r.row) (numbered (n + 1 + 1) rows))))
      at true e = ap (λ xs. map kept (nodes_picked (tree_nodes d) (n + 1) row) ++ xs) e
          ∙ sym (map-append kept (nodes_picked (tree_nodes d) (n + 1) row)
          (all_picked (tree_nodes d) (filter (λ (r : Numbered). test r.row) (numbered (n + 1 + 1) rows))))
      at false e = e
