-- How a fault is told: its kind, the way to its object by the names of arrays and the positions in them, what it names, and its byte.
use Rattle.std.specs.Prelude.{ℕ, List, [], ◌∷◌, ◌++◌, Option, Some, None, codes, decimal}
use Rattle.json_reading.specs.Texts.{between}
use Rattle.term_table.specs.declared.contexts.Context.{Context}
use Rattle.term_table.specs.declared.contexts.Slot.{Slot}
use Rattle.inv_listing.specs.Listing.{term_text}
use Rattle.invoice_json.specs.InvoiceJson.{array_name}
use Rattle.invoice_data.specs.declared.faults.DataFault.{DataFault}
use Rattle.invoice_data.specs.declared.faults.DataKind.{DataKind}
use Rattle.invoice_data.specs.declared.faults.DataKind.TheVariants as kinds
use Rattle.invoice_data.specs.declared.faults.DataName.{DataName}
use Rattle.invoice_data.specs.declared.faults.DataName.TheVariants as names

unfoldable pub kind_text : DataKind → List ℕ
kind_text kinds.NotAnObject = codes "NotAnObject"
kind_text kinds.UnknownMember = codes "UnknownMember"
kind_text kinds.DuplicateMember = codes "DuplicateMember"
kind_text kinds.NotAnArray = codes "NotAnArray"
kind_text kinds.NotAText = codes "NotAText"
kind_text kinds.BadValue = codes "BadValue"
kind_text kinds.CodeNotListed = codes "CodeNotListed"
kind_text kinds.Missing = codes "Missing"

-- an object of an array: `BT-29[3]`
abbrev pub slot_text : Slot → List ℕ
slot_text s = array_name s.group ++ (0x5B ∷ (decimal s.index ++ 0x5D ∷ []))

abbrev pub inner_text : Option Slot → List ℕ
inner_text None = []
inner_text (Some s) = 0x2F ∷ slot_text s

-- the way to an object, behind a space; none to the outermost one
abbrev pub place_text : Context → List ℕ
place_text place = elim place.outer [ None ↦ [] | Some s ↦ 0x20 ∷ (slot_text s ++ inner_text place.inner) ]

-- what is named, behind a space; a name that isn't known as it is spelled, with its quotes
abbrev pub name_text : List ℕ → DataName → List ℕ
name_text bytes names.Nothing = []
name_text bytes (names.Term term) = 0x20 ∷ term_text term
name_text bytes (names.Array group) = 0x20 ∷ array_name group
name_text bytes (names.Spelled span) = 0x20 ∷ between span.at span.end bytes

-- a fault of a text of these bytes
unfoldable pub fault_text : List ℕ → DataFault → List ℕ
fault_text bytes f =
    kind_text f.kind ++ (place_text f.place ++ (name_text bytes f.name ++ (codes " at " ++ decimal f.at)))
