-- How an invoice is listed for a person: a line for each entry, in the order of the semantic model (EN 16931-1, section 6.3).
use Rattle.std.specs.Prelude.{ℕ, ◌-◌, nat_eq, List, [], ◌∷◌, ◌++◌, codes, decimal, encode_utf8_all, flat_map, Option, Some, None, if◌then◌else◌}
use Rattle.inv_base.specs.Text.{quoted}
use Rattle.term_table.specs.declared.terms.Term.{Term}
use Rattle.term_table.specs.declared.contexts.Slot.{Slot}
use Rattle.term_table.specs.declared.contexts.Context.{Context}
use Rattle.term_table.specs.SemanticModel.{is_extension}
use Rattle.term_table.specs.Groups.{label_of}
use Rattle.inv_terms.specs.declared.entries.Entry.{Entry}
use Rattle.inv_terms.specs.Values.{spelled}
use Rattle.inv_terms.specs.declared.violations.Name.{Name}
use Rattle.inv_terms.specs.declared.violations.Name.TheVariants as names

-- the part of a term, behind its number
abbrev pub part_text : ℕ → List ℕ
part_text part = if nat_eq part 0 then [] else 0x2D ∷ decimal part

-- a term by its number: `BT-1`, `BT-18-1`, and `EXT-1` of one that a table adds
abbrev pub term_text : Term → List ℕ
term_text term =
    if is_extension term
    then codes "EXT-" ++ decimal (term.number - 1000)
    else codes "BT-" ++ (decimal term.number ++ part_text term.part)

-- an occurrence of a group by its number: `BG-25[1]`
abbrev pub slot_text : Slot → List ℕ
slot_text slot = label_of slot.group ++ (0x5B ∷ (decimal slot.index ++ 0x5D ∷ []))

abbrev pub inner_text : Option Slot → List ℕ
inner_text None = 0x20 ∷ []
inner_text (Some slot) = 0x2F ∷ (slot_text slot ++ 0x20 ∷ [])

-- the occurrences in which an entry stands, the outer one first: `BG-25[1]/BG-27[2] `
abbrev pub context_text : Context → List ℕ
context_text context = elim context.outer [ None ↦ [] | Some slot ↦ slot_text slot ++ inner_text context.inner ]

-- an entry: its context, its term and its quoted value, in UTF-8
abbrev pub entry_line : Entry → List ℕ
entry_line e = context_text e.context ++ (term_text e.term ++ (0x20 ∷ (encode_utf8_all (quoted (spelled e.value)) ++ 0xA ∷ [])))

abbrev pub passed_line : ℕ → List ℕ
passed_line passed_over = codes "passed over " ++ (decimal passed_over ++ 0xA ∷ [])

-- the entries, and how many elements of the document were passed over
unfoldable pub listing : List Entry → ℕ → List ℕ
listing entries passed_over = flat_map entry_line entries ++ passed_line passed_over

-- what a fault names, behind a space
abbrev pub name_text : Name → List ℕ
name_text (names.Term term) = 0x20 ∷ term_text term
name_text (names.Group group) = 0x20 ∷ label_of group
name_text names.Nothing = []
