-- What is marked along the path of a row is what the row reaches and says its constant.
use Rattle.std.proofs.Common.{◌≡◌, ℕ, Bool, true, false, ◌&&◌, List, [], ◌∷◌, ◌++◌, map, Option, Some, None, refl, ap, sym, ◌∙◌}
use Rattle.std.specs.Prelude.{filter, codes, is_some}
use Rattle.std.specs.List.{flat_map, list_any, list_all}
use Rattle.std.proofs.lemmas.List.{append-nil}
use Rattle.std.proofs.lemmas.List.Folds.{flat_map-map}
use Rattle.inv_base.specs.Tree.{is_among}
use Rattle.node_arena.specs.Document.{Document, node_at}
use Rattle.node_arena.specs.Moves.{tree_nodes, has_found}
use Rattle.bind_rows.specs.declared.names.Leaf.{Leaf}
use Rattle.bind_rows.specs.declared.names.Leaf.TheVariants as leaves
use Rattle.bind_rows.specs.declared.rows.Content.{Content}
use Rattle.bind_rows.specs.declared.rows.Content.TheVariants as contents
use Rattle.bind_rows.specs.declared.rows.Step.{Step}
use Rattle.bind_rows.specs.declared.rows.Row.{Row}
use Rattle.bind_meaning.specs.Elements.{are_met, attributes_named, children_named, leaves_at, met}
use Rattle.bind_meaning.specs.Picks.{last_of, ways}
use Rattle.bind_meaning.specs.Said.{constant_in, reached, says_constant, scheme_row, scheme_rows, sepa}
use Rattle.bind_walk.specs.Chains.{attributes, children}
use Rattle.bind_walk.specs.Found as found
use Rattle.bind_walk.specs.Found.{found_element, found_leaf, found_guard}
use Rattle.bind_walk.specs.declared.names.FoundLeaf.{FoundLeaf}
use Rattle.bind_walk.proofs.LinkLemmas.{IsRead, flat-filter, children-are, attributes-are, guards-are}
use Rattle.bind_said.specs.declared.paths.FoundStep.{FoundStep}
use Rattle.bind_said.specs.Saying.{found_step, is_named, is_of, local_number, named, named_attributes, says, saying, saying_named, saying_attributes}
use Rattle.bind_said.specs.Saying.{saying_below, said_by, said_by_row, asks_for_scheme, said_by_scheme}
use Rattle.bind_said.proofs.ListLemmas.{flat-same, flat-flat, filter-flat, any-map, any-same, any-filter, among-filter, one_if, ones, lists_if, lists}

-- ---- paths with a name that the document lacks lead nowhere

nowhere : (f : ℕ → List ℕ) → ((m : ℕ) → f m ≡ []) → (ns : List ℕ) → flat_map f ns ≡ []
nowhere f h [] = refl
nowhere f h (n ∷ ns) = ap (λ ms. ms ++ flat_map f ns) (h n) ∙ nowhere f h ns

none-or : (b : Bool) (ms : List ℕ) → ms ≡ [] → (elim b as (λ _. List ℕ) [ true ↦ ms | false ↦ [] ]) ≡ []
none-or true ms e = e
none-or false ms e = refl

pub without-names : (d : Document) (text : List ℕ) (leaf : FoundLeaf) (path : List FoundStep) (n : ℕ) → list_all is_named path ≡ false
    → saying_below d text leaf path n ≡ []
without-names d text leaf [] n h = cc
without-names d text leaf (step ∷ path) n h = nowhere _ (λ m. at step.name refl m (λ l. without-names d text leaf path m l)) (children d n)
  where
    lacks : (b : Bool) → is_some step.name ≡ true → (is_some step.name && b) ≡ false → b ≡ false
    lacks b e f = sym (ap (λ a. a && b) e) ∙ f

    at : (name : Option ℕ) → step.name ≡ name → (m : ℕ) → (list_all is_named path ≡ false → saying_below d text leaf path m ≡ [])
        → (elim (has_found step.name (node_at d.nodes m) && list_all (found.is_met d m) step.guards) as (λ _. List ℕ)
        [ true ↦ saying_below d text leaf path m | false ↦ [] ]) ≡ []
    at None e m inner = ap (λ name. elim (has_found name (node_at d.nodes m) && list_all (found.is_met d m) step.guards) as (λ _. List ℕ)
        [ true ↦ saying_below d text leaf path m | false ↦ [] ]) e
    at (Some name) e m inner = none-or (has_found step.name (node_at d.nodes m) && list_all (found.is_met d m) step.guards) (saying_below d text leaf path m)
        (inner (lacks (list_all is_named path) (ap is_some e) h))

module _ (d : Document) (read : IsRead d) where
  abbrev has : Option ℕ → ℕ → Bool
  has name m = has_found name (node_at d.nodes m)

  -- ---- the nodes of a row, by recursion over its path

  abbrev leaves_below : Leaf → List Step → ℕ → List ℕ
  leaves_below leaf [] n = leaves_at (tree_nodes d) leaf n
  leaves_below leaf (step ∷ path) n = flat_map (leaves_below leaf path) (met (tree_nodes d) step n)

  ends : (leaf : Leaf) (path : List Step) (n : ℕ)
      → leaves_below leaf path n ≡ flat_map (λ way. leaves_at (tree_nodes d) leaf (last_of (n ∷ way))) (ways (tree_nodes d) path n)
  ends leaf [] n = sym (append-nil (leaves_at (tree_nodes d) leaf n))
  ends leaf (step ∷ path) n =
      let to : ℕ → List ℕ → List ℕ = λ x way. leaves_at (tree_nodes d) leaf (last_of (x ∷ way)) in
      flat-same (leaves_below leaf path) (λ m. flat_map (to n) (map (λ way. m ∷ way) (ways (tree_nodes d) path m)))
      (λ m. ends leaf path m ∙ sym (flat_map-map (to n) (λ way. m ∷ way) (ways (tree_nodes d) path m))) (met (tree_nodes d) step n)
      ∙ sym (flat-flat (to n) (λ m. map (λ way. m ∷ way) (ways (tree_nodes d) path m)) (met (tree_nodes d) step n))

  last-from : (way : List ℕ) → last_of (0 ∷ way) ≡ last_of way
  last-from [] = refl
  last-from (n ∷ way) = refl

  reached-is : (row : Row) → leaves_below row.leaf row.path 0 ≡ reached (tree_nodes d) row
  reached-is row = ends row.leaf row.path 0
      ∙ flat-same (λ way. leaves_at (tree_nodes d) row.leaf (last_of (0 ∷ way))) (λ way. leaves_at (tree_nodes d) row.leaf (last_of way))
      (λ way. ap (leaves_at (tree_nodes d) row.leaf) (last-from way)) (ways (tree_nodes d) row.path 0)

  -- ---- attributes of a name

  pub named-are : (local : List ℕ) (n : ℕ) → named_attributes d (local_number d local) n ≡ attributes_named (tree_nodes d) local n
  named-are local n = ones (has (local_number d local)) (attributes d n) ∙ sym (attributes-are d read local n)

  pub saying-attributes-are : (text local : List ℕ) (n : ℕ)
      → saying_attributes d text (local_number d local) n ≡ filter (says d text) (attributes_named (tree_nodes d) local n)
  saying-attributes-are text local n =
      lists (has (local_number d local)) (saying d text) (attributes d n)
      ∙ (ones (says d text) (filter (has (local_number d local)) (attributes d n)) ∙ ap (filter (says d text)) (sym (attributes-are d read local n)))

  -- ---- along a path

  met-are : (step : Step) (n : ℕ)
      → filter (λ m. list_all (found.is_met d m) (map (found_guard d) step.guards)) (filter (has (found_element d step.name)) (children d n))
      ≡ met (tree_nodes d) step n
  met-are step n =
      same (λ m. list_all (found.is_met d m) (map (found_guard d) step.guards)) (are_met (tree_nodes d) step.guards)
      (guards-are d read step.guards) (filter (has (found_element d step.name)) (children d n))
      ∙ ap (filter (are_met (tree_nodes d) step.guards)) (sym (children-are d read step.name n))
    where
      same : (p q : ℕ → Bool) → ((m : ℕ) → p m ≡ q m) → (ns : List ℕ) → filter p ns ≡ filter q ns
      same p q h ns = λ i. filter (λ m. h m i) ns

  saying-leaf : (text : List ℕ) (leaf : Leaf) (n : ℕ)
      → saying_below d text (found_leaf d leaf) [] n ≡ filter (says d text) (leaves_at (tree_nodes d) leaf n)
  saying-leaf text leaves.Element n = sym (append-nil (saying d text n)) ∙ ones (says d text) (n ∷ [])
  saying-leaf text (leaves.Attribute local) n = saying-attributes-are text local n

  saying-is : (text : List ℕ) (leaf : Leaf) (path : List Step) (n : ℕ)
      → saying_below d text (found_leaf d leaf) (map (found_step d) path) n ≡ filter (says d text) (leaves_below leaf path n)
  saying-is text leaf [] n = saying-leaf text leaf n
  saying-is text leaf (step ∷ path) n =
      let below : ℕ → List ℕ = saying_below d text (found_leaf d leaf) (map (found_step d) path) in
      flat-filter (has (found_element d step.name)) (λ m. list_all (found.is_met d m) (map (found_guard d) step.guards)) below (children d n)
      ∙ (ap (flat_map below) (met-are step n)
      ∙ (flat-same below (λ m. filter (says d text) (leaves_below leaf path m)) (λ m. saying-is text leaf path m) (met (tree_nodes d) step n)
      ∙ filter-flat (says d text) (leaves_below leaf path) (met (tree_nodes d) step n)))

  -- ---- rows

  abbrev says_in : ℕ → Row → Option (List ℕ) → Bool
  says_in n row constant = elim constant [ None ↦ false | Some text ↦ says d text n && is_among n (reached (tree_nodes d) row) ]

  pub row-says : (n : ℕ) (row : Row) → is_among n (said_by_row d row) ≡ says_constant (tree_nodes d) n row
  row-says n row = at row.content
    where
      at : (content : Content) → is_among n (said_by d row content) ≡ says_in n row (constant_in content)
      at (contents.Term term) = refl
      at (contents.Constant text) = ap (is_among n) (saying-is text row.leaf row.path 0 ∙ ap (filter (says d text)) (reached-is row))
          ∙ among-filter (says d text) n (reached (tree_nodes d) row)

  scheme-says : (n : ℕ) (row : Row) → is_among n (said_by_scheme d row) ≡ (asks_for_scheme row && says_constant (tree_nodes d) n (scheme_row row))
  scheme-says n row = at (asks_for_scheme row)
    where
      at : (b : Bool)
          → is_among n (elim b as (λ _. List ℕ) [
            | true ↦ saying_below d sepa (found_leaf d (leaves.Attribute (codes "schemeID"))) (map (found_step d) row.path) 0
            | false ↦ []
          ])
          ≡ (b && says_constant (tree_nodes d) n (scheme_row row))
      at true = row-says n (scheme_row row)
      at false = refl

  pub schemes-say : (n : ℕ) (rows : List Row)
      → list_any (λ row. is_among n (said_by_scheme d row)) rows ≡ list_any (says_constant (tree_nodes d) n) (scheme_rows rows)
  schemes-say n rows =
      any-same (λ row. is_among n (said_by_scheme d row)) (λ row. asks_for_scheme row && says_constant (tree_nodes d) n (scheme_row row)) (scheme-says n) rows
      ∙ (sym (any-filter asks_for_scheme (λ row. says_constant (tree_nodes d) n (scheme_row row)) rows)
      ∙ sym (any-map (says_constant (tree_nodes d) n) scheme_row (filter asks_for_scheme rows)))
