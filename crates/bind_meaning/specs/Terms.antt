-- The invoice that a document is by a table, or its first fault (EN 16931-1; CEN/TS 16931-3-2 and 16931-3-3).
use Rattle.std.specs.Prelude.{ℕ, ◌==◌, Bool, true, false, not, ◌&&◌, List, [], ◌∷◌, ◌++◌, length, filter, flat_map, map, Some, None, Result, Ok, Err}
use Rattle.std.specs.List.{list_any}
use Rattle.inv_base.specs.Tree.{Node}
use Rattle.code_lists.specs.CodeFiles.{Lists}
use Rattle.inv_terms.specs.declared.entries.Entry.{Entry}
use Rattle.term_table.specs.declared.contexts.Seat.{Seat}
use Rattle.term_table.specs.Places.{comes_before}
use Rattle.node_arena.specs.Moves.{tree_node}
use Rattle.bind_rows.specs.declared.rows.Step.{Step}
use Rattle.bind_rows.specs.declared.rows.Row.{Row}
use Rattle.bind_meaning.specs.declared.fault.BindFault.{BindFault}
use Rattle.bind_meaning.specs.Names.{has_element_name}
use Rattle.bind_meaning.specs.Elements.{is_element}
use Rattle.bind_meaning.specs.Picks.{Pick, has_any_term, rows_where, all_picked, without_placeholders}
use Rattle.bind_meaning.specs.Currencies.{Currencies, currencies, in_their_currencies}
use Rattle.bind_meaning.specs.Seats.{Placed, placed, context_of, rooms}
use Rattle.bind_meaning.specs.Judging.{Told, told_by, first_before, Found, faults_behind, wrong_word, missing_in, seat_of, least}

-- the picks in document order, at one node by their rows
abbrev pub in_order : List Node → List Pick → List Pick
in_order nodes picks = flat_map (λ (node : Node). filter (λ (pick : Pick). pick.node == node.number) picks) nodes

-- what the rows with a term pick
abbrev pub term_picks : List Node → Currencies → List Row → List Pick
term_picks nodes c rows = in_order nodes (in_their_currencies nodes c (without_placeholders nodes (all_picked nodes (rows_where has_any_term rows))))

-- what the other rows pick, which hold constants
abbrev pub constant_picks : List Node → List Row → List Pick
constant_picks nodes rows = all_picked nodes (rows_where (λ (row : Row). not (has_any_term row)) rows)

abbrev pub place_all : List Node → List Pick → List Placed
place_all nodes picks = map (placed nodes picks) picks

-- ---- the entries

-- the first that is told of each term in each context
abbrev pub firsts_behind : List Told → List Told → List Told
firsts_behind before [] = []
firsts_behind before (t ∷ ts) = elim (first_before before t) [
  | None ↦ t ∷ firsts_behind (before ++ (t ∷ [])) ts
  | Some first ↦ firsts_behind before ts
]

abbrev pub entry_of : Told → List Entry
entry_of t = elim t.parsed.value [ None ↦ [] | Some value ↦ record { context = context_of t.placed; term = t.parsed.term; value = value } ∷ [] ]

abbrev pub seat_of_entry : Entry → Seat
seat_of_entry e = record { term = e.term; context = e.context }

abbrev pub put : Entry → List Entry → List Entry
put e [] = e ∷ []
put e (other ∷ es) = elim (comes_before (seat_of_entry e) (seat_of_entry other)) [ true ↦ e ∷ (other ∷ es) | false ↦ other ∷ put e es ]

-- the entries in listing order
abbrev pub listed : List Entry → List Entry
listed [] = []
listed (e ∷ es) = put e (listed es)

abbrev pub entries : List Told → List Entry
entries ts = listed (flat_map entry_of (firsts_behind [] ts))

-- ---- elements that the table passes over: those whose names lead no further along any row, right inside one that is on the way of one

abbrev pub names_row : List Node → List Step → List ℕ → Bool
names_row nodes path [] = true
names_row nodes [] (n ∷ way) = false
names_row nodes (step ∷ path) (n ∷ way) = elim (has_element_name step.name (tree_node nodes n)) [ true ↦ names_row nodes path way | false ↦ false ]

abbrev pub is_on_a_way : List Node → List Row → List ℕ → Bool
is_on_a_way nodes rows way = list_any (λ (row : Row). names_row nodes row.path way) rows

abbrev pub turned : List ℕ → List ℕ → List ℕ
turned done [] = done
turned done (n ∷ ns) = turned (n ∷ done) ns

abbrev pub without_first : List ℕ → List ℕ
without_first [] = []
without_first (n ∷ ns) = ns

-- the elements from the root down to those with these ancestors, the nearest first
abbrev pub way_to : List ℕ → List ℕ
way_to above = without_first (turned [] above)

abbrev pub is_passed_over : List Node → List Row → Node → Bool
is_passed_over nodes rows node = elim (is_element node) [
  | true ↦ is_on_a_way nodes rows (way_to node.above) && not (is_on_a_way nodes rows (way_to (node.number ∷ node.above)))
  | false ↦ false
]

abbrev pub passed_over : List Node → List Row → ℕ
passed_over nodes rows = length (filter (is_passed_over nodes rows) nodes)

-- ---- the answer

pub record Read : Type 0 where
  pub entries : List Entry
  pub passed_over : ℕ

abbrev pub told : List Node → List Placed → List Told
told nodes ps = flat_map (told_by nodes) ps

abbrev pub all_faults : List Node → Lists → Currencies → List Row → List Placed → List Found
all_faults nodes lists c rows ps =
    faults_behind nodes lists c [] (told nodes ps)
    ++ (flat_map (wrong_word nodes) (constant_picks nodes rows) ++ flat_map (missing_in nodes (map seat_of (told nodes ps))) (rooms ps))

abbrev pub read_placed : List Node → Lists → Currencies → List Row → List Placed → Result Read BindFault
read_placed nodes lists c rows ps = elim (least (all_faults nodes lists c rows ps)) [
  | Some first ↦ Err first.fault
  | None ↦ Ok (record { entries = entries (told nodes ps); passed_over = passed_over nodes rows })
]

abbrev pub read_with : List Node → Lists → List Row → Currencies → Result Read BindFault
read_with nodes lists rows c = read_placed nodes lists c rows (place_all nodes (term_picks nodes c rows))

unfoldable pub terms_of : List Node → List Row → Lists → Result Read BindFault
terms_of nodes rows lists = read_with nodes lists rows (currencies nodes rows)
