-- How a refused entry is handed back.
use Rattle.std.specs.Prelude.{◌≡◌, Option, Some}
use Rattle.inv_terms.specs.declared.entries.Entry.{Entry}
use Rattle.inv_terms.specs.declared.listing.Refusal.{Refusal}
use Rattle.inv_terms.specs.declared.listing.Refusal.TheVariants as refusals
use Rattle.inv_terms.specs.declared.invoice.PushFault.{PushFault}
use Rattle.inv_terms.specs.declared.invoice.PushFault.TheVariants as faults

-- The fault hands the entry back, and is the refusal, unless memory was wanting.
abbrev pub Refuses : Option Refusal → Entry → PushFault → Type 0
Refuses refusal e (faults.OutOfOrder back) = (refusal ≡ Some refusals.OutOfOrder) × (back ≡ e)
Refuses refusal e (faults.BadContext back) = (refusal ≡ Some refusals.BadContext) × (back ≡ e)
Refuses refusal e (faults.Memory back) = back ≡ e
