-- Which nodes a row picks, by itself, over the whole document (CEN/TS 16931-3-2 and 16931-3-3): those whose path of names is the
-- row's, at whose elements the guards hold, and whose string isn't blank.
use Rattle.std.specs.Prelude.{ℕ, ◌+◌, Bool, true, false, not, ◌&&◌, List, [], ◌∷◌, filter, flat_map, map, Option, Some, None, is_some}
use Rattle.std.specs.List.{list_any}
use Rattle.std.specs.Str.{bytes_eq}
use Rattle.inv_base.specs.Tree.{Node}
use Rattle.term_table.specs.declared.groups.Group.{Group}
use Rattle.term_table.specs.declared.terms.Term.{Term}
use Rattle.inv_terms.specs.Values.{trimmed}
use Rattle.term_table.specs.SemanticModel.{same_term}
use Rattle.bind_rows.specs.declared.names.Leaf.{Leaf}
use Rattle.bind_rows.specs.declared.names.Leaf.TheVariants as leaves
use Rattle.bind_rows.specs.declared.rows.Step.{Step}
use Rattle.bind_rows.specs.declared.rows.Row.{Row}
use Rattle.bind_rows.specs.declared.rows.Content.{Content}
use Rattle.bind_rows.specs.declared.rows.Content.TheVariants as contents
use Rattle.bind_rows.specs.declared.rows.Placeholder.{Placeholder}
use Rattle.bind_rows.specs.declared.rows.Written.TheVariants as written
use Rattle.bind_rows.specs.Same.{same_or_none}
use Rattle.bind_meaning.specs.Elements.{met, attributes_named, is_blank_at, string_at}

-- A pick: the number of the row, from 1, the row, the elements on the way from the root on, and the node.
pub record Pick : Type 0 where
  pub place : ℕ
  pub row : Row
  pub elements : List ℕ
  pub node : ℕ

-- the ways along a path from a node: of each the elements that it goes through
abbrev pub ways : List Node → List Step → ℕ → List (List ℕ)
ways nodes [] n = [] ∷ []
ways nodes (step ∷ path) n = flat_map (λ m. map (λ way. m ∷ way) (ways nodes path m)) (met nodes step n)

abbrev pub last_of : List ℕ → ℕ
last_of [] = 0
last_of (n ∷ []) = n
last_of (n ∷ (m ∷ ns)) = last_of (m ∷ ns)

abbrev pub filled : List Node → List ℕ → List ℕ
filled nodes ns = filter (λ n. not (is_blank_at nodes n)) ns

-- the nodes at the end of a way: the element, or its attribute, unless the element or the attribute is blank
abbrev pub leaves_of : List Node → Leaf → ℕ → List ℕ
leaves_of nodes leaves.Element n = filled nodes (n ∷ [])
leaves_of nodes (leaves.Attribute local) n = flat_map (λ m. filled nodes (attributes_named nodes local m)) (filled nodes (n ∷ []))

abbrev pub picks_of_way : List Node → ℕ → Row → List ℕ → List Pick
picks_of_way nodes k row way = map (λ n. record { place = k; row = row; elements = way; node = n }) (leaves_of nodes row.leaf (last_of way))

-- what the row picks, but for the rules on placeholders and currencies, in document order
abbrev pub nodes_picked : List Node → ℕ → Row → List Pick
nodes_picked nodes k row = flat_map (picks_of_way nodes k row) (ways nodes row.path 0)

-- ---- rows with a term

abbrev pub term_in : Content → Option Term
term_in (contents.Term term) = Some term
term_in (contents.Constant text) = None

abbrev pub has_term : Term → Row → Bool
has_term term row = elim (term_in row.content) [ None ↦ false | Some t ↦ same_term t term ]

abbrev pub has_any_term : Row → Bool
has_any_term row = is_some (term_in row.content)

-- the rows with their numbers, from 1
pub record Numbered : Type 0 where
  pub place : ℕ
  pub row : Row

abbrev pub numbered : ℕ → List Row → List Numbered
numbered k [] = []
numbered k (row ∷ rows) = record { place = k; row = row } ∷ numbered (k + 1) rows

abbrev pub rows_where : (Row → Bool) → List Row → List Numbered
rows_where test rows = filter (λ (r : Numbered). test r.row) (numbered 1 rows)

-- what these rows pick
abbrev pub all_picked : List Node → List Numbered → List Pick
all_picked nodes rows = flat_map (λ (r : Numbered). nodes_picked nodes r.place r.row) rows

-- ---- placeholders

-- the elements above the last one of a way
abbrev pub around_last : List ℕ → List ℕ
around_last [] = []
around_last (n ∷ []) = []
around_last (n ∷ (m ∷ ns)) = n ∷ around_last (m ∷ ns)

-- The pick is a placeholder: it has the placeholder's text, and the term beside it stands in the same element.
abbrev pub stands_beside : List Pick → Placeholder → Pick → Bool
stands_beside picks placeholder pick = list_any (λ (other : Pick). has_term placeholder.beside other.row &&
    bytes_eq (around_last other.elements) (around_last pick.elements)) picks

abbrev pub is_placeholder : List Node → List Pick → Pick → Bool
is_placeholder nodes picks pick = elim pick.row.written [
  | (written.OrPlaceholder placeholder) ↦ elim (bytes_eq (trimmed (string_at nodes pick.node)) placeholder.text) [
    | true ↦ stands_beside picks placeholder pick
    | false ↦ false
  ]
  | _ ↦ false
]

abbrev pub without_placeholders : List Node → List Pick → List Pick
without_placeholders nodes picks = filter (λ pick. not (is_placeholder nodes picks pick)) picks

-- ---- the elements of groups

-- of a way along a path the element that is the group's
abbrev pub carrier : Group → List Step → List ℕ → Option ℕ
carrier group [] way = None
carrier group (step ∷ path) [] = None
carrier group (step ∷ path) (n ∷ way) = elim (same_or_none step.group (Some group)) [ true ↦ Some n | false ↦ carrier group path way ]

abbrev pub carrier_in : Pick → Group → Option ℕ
carrier_in pick group = carrier group pick.row.path pick.elements
