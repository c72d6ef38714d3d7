-- What the walk records: what is found, at lines that are those of a tree of lines. No public clause cites it.
use Rattle.std.specs.Prelude.{◌≡◌, ℕ, ◌+◌, Bool, true, false, ◌&&◌, List, [], ◌∷◌, ◌++◌, length, map, Option, Some, None}
use Rattle.std.specs.List.{flat_map, list_all}
use Rattle.inv_terms.specs.Values.{is_blank}
use Rattle.term_table.specs.declared.groups.Group.{Group}
use Rattle.node_arena.specs.Document.{Document, node_at}
use Rattle.node_arena.specs.Moves.{tree_nodes, has_found}
use Rattle.bind_rows.specs.declared.rows.Row.{Row}
use Rattle.bind_rows.specs.declared.rows.Step.{Step}
use Rattle.bind_rows.specs.Same.{same_or_none}
use Rattle.bind_table.specs.Lines.{Cell, Plan, nothing, a_line}
use Rattle.bind_table.specs.Picks.{Sight, walked, through, here}
use Rattle.bind_walk.specs.Chains.{attributes, children}
use Rattle.bind_walk.specs.Found.{is_met, string_at}
use Rattle.bind_meaning.specs.Elements.{met}
use Rattle.bind_meaning.specs.Picks.{leaves_of}
use Rattle.bind_walk.specs.declared.lines.Wanted.{Wanted}
use Rattle.bind_walk.specs.declared.lines.End.{End}
use Rattle.bind_walk.specs.declared.lines.End.TheVariants as ends
use Rattle.bind_walk.specs.declared.lines.FoundRow.{FoundRow}
use Rattle.bind_walk.specs.declared.lines.FoundLine.{FoundLine}
use Rattle.bind_walk.specs.declared.walk.Carried.{Carried}
use Rattle.bind_walk.specs.declared.finds.Find.{Find}
use Rattle.bind_walk.specs.Finds.{Lists, put_all}
use Rattle.bind_walk.specs.Lines.{wanted, lined, found_cell, own_place}
use Rattle.bind_walk.specs.Found.{found_element, found_guard}

-- ---- the elements of groups

-- the outermost of the elements around that carries the group
abbrev pub carried : Group → List Carried → Option ℕ
carried group [] = None
carried group (c ∷ around) = elim (same_or_none (Some c.group) (Some group)) [ true ↦ Some c.element | false ↦ carried group around ]

abbrev pub carrier_of : List Carried → Option Group → Option ℕ
carrier_of around None = None
carrier_of around (Some group) = carried group around

abbrev pub find_of : List Carried → FoundRow → ℕ → Find
find_of around row n = record {
  wanted = row.wanted;
  picked = record { node = n; row = row.number; outer = carrier_of around row.outer; inner = carrier_of around row.inner };
}

-- ---- what rows pick that end at an element

abbrev pub found_attribute : Document → List Carried → FoundRow → ℕ → List Find
found_attribute d around row n = elim (has_found row.attribute (node_at d.nodes n)) [
  | false ↦ []
  | true ↦ elim (is_blank (string_at d n)) [ true ↦ [] | false ↦ find_of around row n ∷ [] ]
]

abbrev pub found_attributes : Document → List Carried → ℕ → FoundRow → List Find
found_attributes d around n row = flat_map (found_attribute d around row) (attributes d n)

abbrev pub found_by_end : Document → List Carried → ℕ → FoundRow → End → List Find
found_by_end d around n row ends.Element = find_of around row n ∷ []
found_by_end d around n row ends.Attribute = found_attributes d around n row

abbrev pub found_in_row : Document → List Carried → ℕ → FoundRow → List Find
found_in_row d around n row = found_by_end d around n row row.end

abbrev pub found_here : Document → List Carried → ℕ → List FoundRow → List Find
found_here d around n rows = elim (is_blank (string_at d n)) [ true ↦ [] | false ↦ flat_map (found_in_row d around n) rows ]

-- ---- the sight of a document in which the lines of a table pick these finds

abbrev pub find_at : List Carried → ℕ → Row → Wanted → ℕ → Find
find_at around k row w n = record {
  wanted = w;
  picked = record { node = n; row = k; outer = carrier_of around row.outer; inner = carrier_of around row.inner };
}

abbrev pub told_for : Document → List Carried → ℕ → Row → ℕ → Option Wanted → List Find
told_for d around k row n None = []
told_for d around k row n (Some w) = map (find_at around k row w) (leaves_of (tree_nodes d) row.leaf n)

abbrev pub told : Document → Cell → List Carried → ℕ → List Find
told d cell around n = told_for d around (cell.number + 1) cell.row n (wanted cell.row)

abbrev pub sight : Document → Sight ℕ (List Carried) Find
sight d = record {
  met = met (tree_nodes d);
  enter = λ group n around. around ++ record { group = group; element = n } ∷ [];
  told = told d;
}

-- ---- lines

-- The lines are those of a tree.
pub record AreLined (d : Document) (lines : List FoundLine) : Type 0 where
  pub plan : Plan
  pub is : lines ≡ lined d plan

-- the line of a step with these cells, and so many lines inside it
abbrev pub line_of : Document → Step → List Cell → Plan → FoundLine
line_of d s cells inside = record {
  name = found_element d s.name;
  guards = map (found_guard d) s.guards;
  group = s.group;
  rows = flat_map (found_cell d) cells;
  place = own_place s cells inside;
  size = length (lined d inside);
}

abbrev pub around_in : Option Group → ℕ → List Carried → List Carried
around_in None n around = around
around_in (Some group) n around = around ++ record { group = group; element = n } ∷ []

abbrev pub is_of : Document → FoundLine → ℕ → Bool
is_of d line n = has_found line.name (node_at d.nodes n) && list_all (is_met d n) line.guards

-- ---- the walk: over the children of an element, and in each over the lines

-- what is found at an element of a line, with what is found deeper
abbrev pub found_by : Document → FoundLine → (List Carried → ℕ → List Find) → List Carried → ℕ → List Find
found_by d line deeper around n = found_here d around n line.rows ++ deeper around n

abbrev pub entered_by : Document → FoundLine → (List Carried → ℕ → List Find) → List Carried → ℕ → List Find
entered_by d line deeper around n = elim (is_of d line n) [ true ↦ found_by d line deeper (around_in line.group n around) n | false ↦ [] ]

-- what is found in a child by lines that stand beside one another
abbrev pub met_by : Document → Plan → List Carried → ℕ → List Find
met_by d nothing around n = []
met_by d (a_line s cells inside rest) around n =
    entered_by d (line_of d s cells inside) (λ c m. flat_map (met_by d inside c) (children d m)) around n ++ met_by d rest around n

-- what is found in all children
abbrev pub strolled : Document → Plan → List Carried → ℕ → List Find
strolled d plan around n = flat_map (met_by d plan around) (children d n)

abbrev pub Walks : Document → List FoundLine → ℕ → List Carried → Lists → Lists → Type 0
Walks d lines n around old new = (plan : Plan) → lines ≡ lined d plan → new ≡ put_all old (strolled d plan around n)

abbrev pub Meets : Document → List FoundLine → ℕ → List Carried → Lists → Lists → Type 0
Meets d lines n around old new = (plan : Plan) → lines ≡ lined d plan → new ≡ put_all old (met_by d plan around n)

abbrev pub Enters : Document → FoundLine → List FoundLine → ℕ → List Carried → Lists → Lists → Type 0
Enters d line lines n around old new = (inside : Plan) → lines ≡ lined d inside → new ≡ put_all old (entered_by d line (strolled d inside) around n)

abbrev pub PicksIn : Document → FoundLine → List FoundLine → ℕ → List Carried → Lists → Lists → Type 0
PicksIn d line lines n around old new = (inside : Plan) → lines ≡ lined d inside → new ≡ put_all old (found_by d line (strolled d inside) around n)

-- ---- lines beside steps

-- what a line leads to by the walk of its table
abbrev pub found_in : Document → FoundLine → Plan → List Carried → ℕ → List Find
found_in d line inside around n = found_by d line (walked (sight d) inside) around n

abbrev pub entered_in : Document → FoundLine → Plan → List Carried → ℕ → List Find
entered_in d line inside around n = entered_by d line (walked (sight d) inside) around n

-- What is found in the children of an element by a line is what its step leads to.
abbrev pub LeadsAlike : Document → Type 0
LeadsAlike d = (s : Step) (cells : List Cell) (inside : Plan) (around : List Carried) (n : ℕ)
    → flat_map (entered_in d (line_of d s cells inside) inside around) (children d n)
    ≡ through (sight d) (λ c y. here (sight d) cells c y ++ walked (sight d) inside c y) s.group around (met (tree_nodes d) s n)
