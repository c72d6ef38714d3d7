-- The leaves of an invoice by a table, each at its address: those of its entries, the constants beside them, and the elements that are always
-- written.
use Rattle.std.specs.Prelude.{ℕ, ◌==◌, Bool, true, false, ◌||◌, List, [], ◌∷◌, ◌++◌, flat_map, map, Option, Some, None}
use Rattle.std.specs.List.{range_with_len}
use Rattle.inv_base.specs.Tree.{Attribute}
use Rattle.term_table.specs.declared.groups.Group.{Group}
use Rattle.term_table.specs.declared.contexts.Slot.{Slot}
use Rattle.term_table.specs.declared.contexts.Context.{Context}
use Rattle.term_table.specs.Contexts.{root_context}
use Rattle.inv_terms.specs.declared.entries.Entry.{Entry}
use Rattle.bind_rows.specs.declared.names.Leaf.TheVariants as leaves
use Rattle.bind_rows.specs.declared.names.Leaf.{Leaf as End}
use Rattle.bind_rows.specs.declared.rows.Step.{Step}
use Rattle.bind_rows.specs.declared.rows.Row.{Row}
use Rattle.bind_rows.specs.declared.rows.Content.TheVariants as contents
use Rattle.bind_rows.specs.declared.rows.Repeats.{Repeats}
use Rattle.bind_rows.specs.declared.rows.Repeats.TheVariants as repeat
use Rattle.bind_rows.specs.Same.{same_or_none}
use Rattle.bind_meaning.specs.Picks.{has_any_term}
use Rattle.bind_meaning.specs.Writing.{row_text}
use Rattle.bind_meaning.specs.Trees.{outer_count, inner_count, attribute, currency_attribute, shows_currency}
use Rattle.address_laws.specs.AddressTrees.{Place, Said, a_string, an_attribute, a_currency, a_mark, Leaf, inside, where_so}

-- ---- the occurrences of an element

-- one of an element's occurrences, and the context in it
pub record Turn : Type 0 where
  pub occurrence : ℕ
  pub context : Context

-- how often a group stands in the invoice, or in an occurrence of another
abbrev pub how_often : List Entry → Option Slot → Group → ℕ
how_often es None group = outer_count es group
how_often es (Some outer) group = inner_count es outer group

-- the context of an occurrence: an outer one, or one inside an outer one
abbrev pub within : Option Slot → Slot → Context
within None slot = record { outer = Some slot; inner = None }
within (Some outer) slot = record { outer = Some outer; inner = Some slot }

abbrev pub turn_of : Option Slot → Group → ℕ → Turn
turn_of outer group k = record { occurrence = k; context = within outer (record { group = group; index = k }) }

-- The occurrence has the number of the group's: the number in the slot of the contexts in it.
abbrev pub group_turns : List Entry → Option Slot → Group → List Turn
group_turns es outer group = map (turn_of outer group) (range_with_len 1 (how_often es outer group))

abbrev pub once : Context → List Turn
once c = record { occurrence = 1; context = c } ∷ []

abbrev pub or_once : Context → List Turn → List Turn
or_once c [] = once c
or_once c (t ∷ ts) = t ∷ ts

-- of an element in a context: one for each occurrence of its group, or one alone
abbrev pub turns : List Entry → Context → Option Group → List Turn
turns es c None = once c
turns es c (Some group) = or_once c (group_turns es c.outer group)

-- The group is one of the row's context.
abbrev pub is_own : Row → Group → Bool
is_own row group = same_or_none row.outer (Some group) || same_or_none row.inner (Some group)

-- of an element that carries a group which isn't one of the row's context: each for a value that is spread over them, else the first
abbrev pub foreign_turns : List Entry → Repeats → Context → Group → List Turn
foreign_turns es repeat.Spread c group = or_once c (group_turns es c.outer group)
foreign_turns es repeat.Once c group = once c
foreign_turns es repeat.Agreeing c group = once c

-- of an element on the path of a row: that of the entry's slot where the element carries a group of the row's context
abbrev pub row_turns : List Entry → Row → Context → Option Group → List Turn
row_turns es row c None = once c
row_turns es row c (Some group) = elim (is_own row group) [ true ↦ group_turns es c.outer group | false ↦ foreign_turns es row.repeats c group ]

-- ---- ways along a path

-- a way along a path: its address, the context at its end, and the last element
pub record Way : Type 0 where
  pub address : List Place
  pub context : Context
  pub last : Option Step

abbrev pub through : Step → Turn → Way → Way
through s t way = record { address = record { step = s; occurrence = t.occurrence } ∷ way.address; context = way.context; last = way.last }

abbrev pub ways : (Context → Option Group → List Turn) → Option Step → Context → List Step → List Way
ways turns_of last c [] = record { address = []; context = c; last = last } ∷ []
ways turns_of last c (s ∷ path) = flat_map (λ t. map (through s t) (ways turns_of (Some s) t.context path)) (turns_of c s.group)

-- ---- leaves of entries

abbrev pub said_by : End → List ℕ → Said
said_by leaves.Element text = a_string text
said_by (leaves.Attribute local) text = an_attribute (attribute local text)

-- the currency of an amount that stands in an element
abbrev pub currencies_at : Bool → End → List Attribute → List Said
currencies_at true leaves.Element attributes = map a_currency attributes
currencies_at true (leaves.Attribute local) attributes = []
currencies_at false leaf attributes = []

abbrev pub currencies_of : List Entry → Option Step → Row → List Said
currencies_of es None row = []
currencies_of es (Some s) row = currencies_at (shows_currency s row) row.leaf (currency_attribute es row)

-- what a row says at the end of a way: what it writes in the way's context of an entry, with its currency, or of a placeholder
abbrev pub said_with : List Entry → Row → Option Step → Option (List ℕ) → List Said
said_with es row last None = []
said_with es row last (Some text) = said_by row.leaf text ∷ currencies_of es last row

abbrev pub said_of_row : List Entry → Row → Context → Option Step → List Said
said_of_row es row c last = said_with es row last (row_text row es c)

abbrev pub leaf_at : List Place → Said → Leaf
leaf_at address said = record { address = address; said = said }

abbrev pub leaves_at : List Entry → Row → Way → List Leaf
leaves_at es row way = map (leaf_at way.address) (said_of_row es row way.context way.last)

abbrev pub entry_leaves : List Entry → Row → List Leaf
entry_leaves es row = flat_map (leaves_at es row) (ways (row_turns es row) None root_context row.path)

-- ---- constants

-- the paths that go through an element, from there on
abbrev pub beyond_one : ℕ → List Step → List (List Step)
beyond_one n [] = []
beyond_one n (s ∷ rest) = where_so (s.number == n) rest

abbrev pub beyond : ℕ → List (List Step) → List (List Step)
beyond n paths = flat_map (beyond_one n) paths

abbrev pub is_some_of : {A : Type 0} → List A → Bool
is_some_of [] = false
is_some_of (x ∷ xs) = true

-- whether the holder holds an entry: it is this element, if the table has a term below it, else the one above it
abbrev pub holder : Bool → Bool → Bool → Bool
holder true here above = here
holder false here above = above

-- Going along an address: an element below which the table has a term is the holder of what is in it, up to the next such element. It holds an
-- entry where a leaf of one is in it.
abbrev pub is_held : List (List Step) → List Leaf → Bool → List Place → Bool
is_held paths told held [] = held
is_held paths told held (p ∷ rest) = is_held (beyond p.step.number paths) (inside p told)
    (holder (is_some_of (beyond p.step.number paths)) (is_some_of (inside p told)) held) rest

abbrev pub but_last : List Place → List Place
but_last [] = []
but_last (p ∷ []) = []
but_last (p ∷ (q ∷ ps)) = p ∷ but_last (q ∷ ps)

-- The holder of a constant element stands above it, that of a constant attribute may be its element.
abbrev pub held_up_to : End → List Place → List Place
held_up_to leaves.Element address = but_last address
held_up_to (leaves.Attribute local) address = address

abbrev pub constant_leaf : List (List Step) → List Leaf → Row → List ℕ → Way → List Leaf
constant_leaf paths told row text way = where_so (is_held paths told false (held_up_to row.leaf way.address)) (leaf_at way.address (said_by row.leaf text))

-- ---- all leaves

abbrev pub row_leaves : List Entry → List (List Step) → List Leaf → Row → List Leaf
row_leaves es paths told row = elim row.content [
  | (contents.Term term) ↦ entry_leaves es row
  | (contents.Constant text) ↦ flat_map (constant_leaf paths told row text) (ways (turns es) None root_context row.path)
]

-- the elements of a path that are always written
abbrev pub under : Step → Turn → Leaf → Leaf
under s t leaf = record { address = record { step = s; occurrence = t.occurrence } ∷ leaf.address; said = leaf.said }

abbrev pub marks : List Entry → Context → List Step → List Leaf
marks es c [] = []
marks es c (s ∷ path) = flat_map (λ (t : Turn). map (under s t) (where_so s.always (leaf_at [] a_mark) ++ marks es t.context path)) (turns es c s.group)

abbrev pub paths_of_terms : List Row → List (List Step)
paths_of_terms rows = flat_map (λ (row : Row). where_so (has_any_term row) row.path) rows

-- those of the entries
abbrev pub told_leaves : List Row → List Entry → List Leaf
told_leaves rows es = flat_map (λ (row : Row). elim row.content [ (contents.Term term) ↦ entry_leaves es row | (contents.Constant text) ↦ [] ]) rows

abbrev pub leaves_of : List Row → List Entry → List Leaf
leaves_of rows es = flat_map (row_leaves es (paths_of_terms rows) (told_leaves rows es)) rows ++ flat_map (λ (row : Row). marks es root_context row.path) rows
