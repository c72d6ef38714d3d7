-- What says the constants of rows, by names and guards as a document has them. No public clause cites it.
use Rattle.std.specs.Prelude.{ℕ, Bool, true, false, ◌&&◌, List, [], ◌∷◌, map, Option, None, is_some, codes}
use Rattle.std.specs.List.{flat_map, list_any, list_all}
use Rattle.std.specs.Str.{bytes_eq}
use Rattle.inv_terms.specs.Values.{trimmed}
use Rattle.xml_events.specs.Names.{find_name}
use Rattle.node_arena.specs.Document.{Document, node_at}
use Rattle.node_arena.specs.Moves.{tree_nodes, has_found}
use Rattle.bind_rows.specs.declared.names.Leaf.{Leaf}
use Rattle.bind_rows.specs.declared.guards.Test.{Test}
use Rattle.bind_rows.specs.declared.guards.Test.TheVariants as tests
use Rattle.bind_rows.specs.declared.rows.Content.{Content}
use Rattle.bind_rows.specs.declared.rows.Content.TheVariants as contents
use Rattle.bind_rows.specs.declared.rows.Step.{Step}
use Rattle.bind_rows.specs.declared.rows.Row.{Row}
use Rattle.bind_meaning.specs.Elements.{is_one_of, string_at}
use Rattle.bind_meaning.specs.Picks.{has_term}
use Rattle.bind_meaning.specs.Said.{words, creditor, sepa, asks_for_sepa, is_under_sepa}
use Rattle.bind_walk.specs.declared.names.FoundLeaf.{FoundLeaf}
use Rattle.bind_walk.specs.declared.names.FoundLeaf.TheVariants as founds
use Rattle.bind_walk.specs.Chains.{children, attributes}
use Rattle.bind_walk.specs.Found.{found_element, found_leaf, found_guard, is_met}
use Rattle.bind_said.specs.declared.paths.FoundStep.{FoundStep}

-- ---- names and guards

abbrev pub found_step : Document → Step → FoundStep
found_step d step = record { name = found_element d step.name; guards = map (found_guard d) step.guards }

abbrev pub is_named : FoundStep → Bool
is_named step = is_some step.name

abbrev pub is_of : Document → FoundStep → ℕ → Bool
is_of d step n = has_found step.name (node_at d.nodes n) && list_all (is_met d n) step.guards

abbrev pub number_in : FoundLeaf → Option ℕ
number_in founds.Element = None
number_in (founds.Attribute number) = number

-- the number of an attribute's name
abbrev pub local_number : Document → List ℕ → Option ℕ
local_number d local = find_name (record { uri = []; local = local }) d.names

-- ---- attributes of a name

abbrev pub named : Document → Option ℕ → ℕ → List ℕ
named d name n = elim (has_found name (node_at d.nodes n)) [ true ↦ n ∷ [] | false ↦ [] ]

abbrev pub named_attributes : Document → Option ℕ → ℕ → List ℕ
named_attributes d name n = flat_map (named d name) (attributes d n)

-- ---- nodes that say a constant

abbrev pub says : Document → List ℕ → ℕ → Bool
says d text n = is_one_of (words text) (trimmed (string_at (tree_nodes d) n))

abbrev pub saying : Document → List ℕ → ℕ → List ℕ
saying d text n = elim (says d text n) [ true ↦ n ∷ [] | false ↦ [] ]

abbrev pub saying_named : Document → List ℕ → Option ℕ → ℕ → List ℕ
saying_named d text name n = elim (has_found name (node_at d.nodes n)) [ true ↦ saying d text n | false ↦ [] ]

abbrev pub saying_attributes : Document → List ℕ → Option ℕ → ℕ → List ℕ
saying_attributes d text name n = flat_map (saying_named d text name) (attributes d n)

-- at the end of a path
abbrev pub saying_at : Document → List ℕ → FoundLeaf → ℕ → List ℕ
saying_at d text founds.Element n = saying d text n
saying_at d text (founds.Attribute name) n = saying_attributes d text name n

-- below a node, along a path
abbrev pub saying_below : Document → List ℕ → FoundLeaf → List FoundStep → ℕ → List ℕ
saying_below d text leaf [] n = saying_at d text leaf n
saying_below d text leaf (step ∷ path) n =
    flat_map (λ m. elim (is_of d step m) [ true ↦ saying_below d text leaf path m | false ↦ [] ]) (children d n)

abbrev pub saying_in : Document → List ℕ → FoundLeaf → FoundStep → List FoundStep → ℕ → List ℕ
saying_in d text leaf step path n = elim (is_of d step n) [ true ↦ saying_below d text leaf path n | false ↦ [] ]

-- ---- rows with a constant

abbrev pub said_along : Document → List Step → Leaf → List ℕ → List ℕ
said_along d path leaf text = saying_below d text (found_leaf d leaf) (map (found_step d) path) 0

abbrev pub said_by : Document → Row → Content → List ℕ
said_by d row (contents.Term term) = []
said_by d row (contents.Constant text) = said_along d row.path row.leaf text

abbrev pub said_by_row : Document → Row → List ℕ
said_by_row d row = said_by d row row.content

-- ---- rows that ask for the scheme of BT-90 in a condition

abbrev pub is_sepa : List ℕ → Bool
is_sepa text = bytes_eq sepa text

abbrev pub test_asks : Test → Bool
test_asks (tests.OneOf texts) = is_one_of texts sepa
test_asks (tests.NoneOf texts) = false
test_asks tests.Present = false
test_asks tests.Absent = false

abbrev pub step_asks : Step → Bool
step_asks step = list_any asks_for_sepa step.guards

abbrev pub asks_for_scheme : Row → Bool
asks_for_scheme row = has_term creditor row && is_under_sepa row

abbrev pub said_by_scheme_named : Document → Option ℕ → Row → List ℕ
said_by_scheme_named d name row = elim (asks_for_scheme row) [
  | true ↦ saying_below d sepa (founds.Attribute name) (map (found_step d) row.path) 0
  | false ↦ []
]

abbrev pub said_by_scheme : Document → Row → List ℕ
said_by_scheme d row = said_by_scheme_named d (local_number d (codes "schemeID")) row
