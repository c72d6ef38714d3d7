-- The place of an element by the names on the way to it: at each of them the paths that go on are left.
use Rattle.std.proofs.Common.{◌≡◌, ℕ, Bool, true, false, List, [], ◌∷◌, ◌++◌, refl, ap, ◌∙◌, append_assoc}
use Rattle.std.specs.Prelude.{Option, Some, None}
use Rattle.inv_base.specs.Tree.{Forest, an_element, Attribute, Node}
use Rattle.node_arena.specs.Moves.{tree_node}
use Rattle.bind_rows.specs.declared.names.ElementName.{ElementName}
use Rattle.bind_rows.specs.declared.rows.Row.{Row}
use Rattle.bind_rows.specs.declared.rows.Step.{Step}
use Rattle.bind_rows.specs.Added.{built}
use Rattle.bind_rows.specs.Same.{same_name}
use Rattle.bind_meaning.specs.Losses.{place_along, lesser, least_place}
use Rattle.bind_meaning.specs.Names.{has_element_name}
use Rattle.bind_meaning.specs.Trees.{name_of}
use Rattle.order_laws.specs.Order.{number_at, least_number, all_behind, paths_of}
use Rattle.binding_laws.proofs.TreeLemmas.{Lies}
use Rattle.binding_laws.proofs.NodeLemmas.{at-element}
use Rattle.extension_laws.proofs.PartLemmas.{called-name}

-- the least place that some path of these has at the end of the way
abbrev pub least_along : List Node → List (List Step) → List ℕ → Option ℕ
least_along nodes [] way = None
least_along nodes (path ∷ paths) way = lesser (place_along nodes path way) (least_along nodes paths way)

pub along-paths : (nodes : List Node) (rows : List Row) (way : List ℕ) → least_place nodes rows way ≡ least_along nodes (paths_of rows) way
along-paths nodes [] way = refl
along-paths nodes (row ∷ rows) way = ap (lesser (place_along nodes row.path way)) (along-paths nodes rows way)

-- ---- an element of a name

-- The node of that number has exactly the name.
abbrev pub IsCalled : List Node → ℕ → ElementName → Type 0
IsCalled nodes n name = (other : ElementName) → has_element_name other (tree_node nodes n) ≡ same_name other name

pub element-called : (nodes : List Node) (above : List ℕ) (n : ℕ) (name : ElementName) (attributes : List Attribute) (inside rest : Forest)
    → Lies nodes above n (an_element (name_of name) attributes inside rest) → IsCalled nodes n name
element-called nodes above n name attributes inside rest h other =
    ap (has_element_name other) (at-element nodes above n (name_of name) attributes inside rest h) ∙ called-name other name

module _ (nodes : List Node) (n : ℕ) (name : ElementName) (called : IsCalled nodes n name) where
  place-first : (path : List Step) → place_along nodes path (n ∷ []) ≡ number_at name path
  place-first [] = refl
  place-first (s ∷ path) = ap (λ b. elim b [ true ↦ Some s.number | false ↦ None ]) (called s.name)

  pub place-last : (paths : List (List Step)) → least_along nodes paths (n ∷ []) ≡ least_number name paths
  place-last [] = refl
  place-last (path ∷ paths) = λ i. lesser (place-first path i) (place-last paths i)

  pub place-further : (paths : List (List Step)) (m : ℕ) (way : List ℕ)
      → least_along nodes paths (n ∷ (m ∷ way)) ≡ least_along nodes (all_behind name paths) (m ∷ way)
  place-further [] m way = refl
  place-further ([] ∷ paths) m way = place-further paths m way
  place-further ((s ∷ path) ∷ paths) m way =
      ap (λ b. lesser (elim b [ true ↦ place_along nodes path (m ∷ way) | false ↦ None ]) (least_along nodes paths (n ∷ (m ∷ way)))) (called s.name)
      ∙ by (same_name s.name name) (place-further paths m way)
    where
      by : (b : Bool) → least_along nodes paths (n ∷ (m ∷ way)) ≡ least_along nodes (all_behind name paths) (m ∷ way)
          → lesser (elim b [ true ↦ place_along nodes path (m ∷ way) | false ↦ None ]) (least_along nodes paths (n ∷ (m ∷ way)))
          ≡ least_along nodes (elim b [ true ↦ path ∷ [] | false ↦ [] ] ++ all_behind name paths) (m ∷ way)
      by true later = ap (lesser (place_along nodes path (m ∷ way))) later
      by false later = later

-- ---- ways

-- Behind the way, places are those that these paths have.
abbrev pub Along : List Node → List Row → List (List Step) → List ℕ → Type 0
Along nodes rows paths way =
    (m : ℕ) (more : List ℕ) → least_along nodes (paths_of (built rows)) (way ++ (m ∷ more)) ≡ least_along nodes paths (m ∷ more)

pub along-more : (nodes : List Node) (rows : List Row) (paths : List (List Step)) (way : List ℕ) (n : ℕ) (name : ElementName) → IsCalled nodes n name
    → Along nodes rows paths way → Along nodes rows (all_behind name paths) (way ++ (n ∷ []))
along-more nodes rows paths way n name called along m more =
    ap (least_along nodes (paths_of (built rows))) (append_assoc way (n ∷ []) (m ∷ more))
    ∙ (along n (m ∷ more) ∙ place-further nodes n name called paths m more)
