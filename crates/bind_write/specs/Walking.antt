-- The calls that write the lines of a table, in bytes. No public clause cites it.
use Rattle.std.specs.Prelude.{ℕ, Bool, List, [], ◌∷◌, ◌++◌, Option, Some, None, flat_map, encode_utf8_all}
use Rattle.term_table.specs.declared.contexts.Context.{Context}
use Rattle.inv_terms.specs.declared.entries.Entry.{Entry}
use Rattle.xml_write.specs.Canonical.{qualified}
use Rattle.xml_write.specs.Calls.{Call, call_start, call_end}
use Rattle.bind_rows.specs.declared.rows.Step.{Step}
use Rattle.bind_table.specs.Lines.{Plan, Cell, nothing, a_line}
use Rattle.bind_rows.specs.Namespaces.{prefix_of}
use Rattle.bind_meaning.specs.Trees.{spots}
use Rattle.bind_write.specs.Cells.{currency_at, attribute_at, text_of, text_calls}
use Rattle.bind_write.specs.Holding.{standing}

abbrev pub name_bytes : Step → List ℕ
name_bytes s = encode_utf8_all (qualified (prefix_of s.name.namespace) s.name.local)

abbrev pub start_calls : Step → List Call
start_calls s = call_start (name_bytes s) ∷ []

abbrev pub end_calls : Step → List Call
end_calls s = call_end (name_bytes s) ∷ []

-- attributes and text of the cells of a line
abbrev pub cells_calls : List Entry → Step → List Cell → Context → List Call
cells_calls es s cells c =
    flat_map (λ (cell : Cell). currency_at es s c (Some cell.row)) cells
    ++ (flat_map (λ (cell : Cell). attribute_at es c (Some cell.row)) cells
    ++ text_calls (flat_map (λ (cell : Cell). text_of es c (Some cell.row)) cells))

abbrev pub around : List Entry → Step → List Cell → Context → List Call → List Call
around es s cells c inside = start_calls s ++ (cells_calls es s cells c ++ (inside ++ end_calls s))

abbrev pub if_standing : Option Bool → (Bool → List Call) → List Call
if_standing None calls = []
if_standing (Some further) calls = calls further

-- these lines in a context; `held` says whether the element above holds an entry
abbrev pub plan_calls : List Entry → Plan → Bool → Context → List Call
plan_calls es nothing held c = []
plan_calls es (a_line s cells inside rest) held c =
    flat_map (λ d. if_standing (standing es s cells inside held d) (λ further. around es s cells d (plan_calls es inside further d))) (spots es c s.group)
    ++ plan_calls es rest held c

-- a line in a context
abbrev pub element_calls : List Entry → Step → List Cell → Plan → Bool → Context → List Call
element_calls es s cells inside held d = if_standing (standing es s cells inside held d) (λ further. around es s cells d (plan_calls es inside further d))
