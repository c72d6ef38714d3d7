-- The differences between an invoice's totals and what its other values make of them (EN 16931-1) as JSON data: one object. Values
-- are texts, so that no digit is lost. What isn't there isn't written.
use Rattle.std.specs.Prelude.{ℕ, List, [], ◌∷◌, length, codes, Option, Some, None, Ok, Err}
use Rattle.inv_decimal.specs.Number.{ScaledDecimal}
use Rattle.inv_decimal.specs.WrittenNumber.{decimal_text, scaled_text}
use Rattle.term_table.specs.declared.contexts.Slot.{Slot}
use Rattle.inv_listing.specs.Listing.{slot_text, term_text}
use Rattle.inv_totals.specs.Numbers.{Number}
use Rattle.inv_totals.specs.declared.found.Difference.{Difference}
use Rattle.json_text.specs.Json.{Json, nothing}
use Rattle.json_text.specs.Making.{text_member, number_member, array_member, object_member, object, each}

-- the VAT breakdown of the total, where it is of one
abbrev pub context_member : Option Slot → Json
context_member None = nothing
context_member (Some slot) = text_member (codes "context") (slot_text slot)

-- what the invoice states, where it does
abbrev pub stated_member : Option ScaledDecimal → Json
stated_member None = nothing
stated_member (Some number) = text_member (codes "stated") (scaled_text number)

-- what its other values make, where that isn't out of range
abbrev pub computed_member : Number → Json
computed_member (Ok number) = text_member (codes "computed") (decimal_text number)
computed_member (Err fault) = nothing

abbrev pub difference_object : Difference → Json
difference_object d = object
    (context_member d.context.outer
    ∷ text_member (codes "term") (term_text d.term)
    ∷ stated_member d.stated
    ∷ computed_member d.computed
    ∷ [])

abbrev pub counts_member : ℕ → Json
counts_member count = object_member (codes "counts") (number_member (codes "differ") count ∷ [])

-- The name of the invoice's file, the differences in their order, and how many they are.
unfoldable pub totals_json : List ℕ → List Difference → Json
totals_json file differences = object
    (text_member (codes "file") file
    ∷ array_member (codes "differences") (each difference_object differences)
    ∷ counts_member (length differences)
    ∷ [])
