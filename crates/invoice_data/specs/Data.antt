-- The invoice that the members of a text say, or all faults of its content.
use Rattle.std.specs.Prelude.{◌≡◌, ◌↔◌, List, [], ◌∷◌, ◌≢◌, Some, None, flat_map, Contains}
use Rattle.code_lists.specs.CodeFiles.{Lists}
use Rattle.inv_terms.specs.declared.entries.Entry.{Entry}
use Rattle.inv_terms.specs.declared.values.Value.{Value}
use Rattle.inv_terms.specs.Listing.{Fits}
use Rattle.inv_terms.specs.Validity.{first_violation}
use Rattle.invoice_data.specs.declared.data.Data.{Data}
use Rattle.invoice_data.specs.declared.data.Data.TheVariants as data_
use Rattle.invoice_data.specs.declared.telling.Found.{Found}
use Rattle.invoice_data.specs.Told.{Told}

-- a found value as an entry
abbrev pub entries_of : Found → List Entry
entries_of f = elim f.value [ None ↦ [] | Some value ↦ record { context = f.seat.context; term = f.seat.term; value = value } ∷ [] ]

-- The value, if there is one, is of a type of the term.
abbrev pub FitsFound : Found → Type 0
FitsFound f = (value : Value) → f.value ≡ Some value → Fits f.seat.term value

unfoldable pub entries : List Found → List Entry
entries founds = flat_map entries_of founds

-- It is this invoice, which lacks nothing.
abbrev pub IsWhole : List Entry → Lists → Data → Type 0
IsWhole es lists (data_.Invoice i) = (i ≡ es) × (first_violation i lists ≡ None)
IsWhole es lists (data_.Faults faults) = ⊥

-- It is the invoice of exactly the entries that were found, of which there is only one, and it lacks nothing.
abbrev pub IsData : List Found → Lists → Data → Type 0
IsData founds lists (data_.Invoice i) = ((e : Entry) → (Contains i e ↔ Contains (entries founds) e)) × (first_violation i lists ≡ None)
IsData founds lists (data_.Faults faults) = ⊥

-- There is no fault, and it is the invoice of what was found; or it is the faults, of which there are some.
abbrev pub Says : Lists → Data → Told → Type 0
Says lists (data_.Invoice i) t = (t.faults ≡ []) × IsData t.founds lists (data_.Invoice i)
Says lists (data_.Faults faults) t = (faults.items ≡ t.faults) × (t.faults ≢ [])
