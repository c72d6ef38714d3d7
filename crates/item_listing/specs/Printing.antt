-- What private functions print. No public clause cites it.
use Rattle.std.specs.Prelude.{◌≡◌, ℕ, Bool, true, false, List, Option, Some, None, Result, Ok, Err}
use Rattle.inv_base.specs.Outside.{SinkView}
use Rattle.inv_base.specs.Printing.{Prints}
use Rattle.inv_base.specs.declared.printing.Printer.{Printer}
use Rattle.node_arena.specs.Document.{Document}
use Rattle.node_locations.specs.Locations.{AreOrdinals}
use Rattle.xpath_items.specs.declared.item.Item.{Item}
use Rattle.xpath_meaning.specs.Steps.{is_node}

-- The ordinals of the document's nodes are there.
abbrev pub HasOrdinals : Document → Option (List ℕ) → Type 0
HasOrdinals document None = ⊥
HasOrdinals document (Some ordinals) = AreOrdinals document ordinals

-- They are there where the item is a node.
abbrev pub IsTold : Document → Option (List ℕ) → Item → Type 0
IsTold document ordinals item = is_node item ≡ true → HasOrdinals document ordinals

-- The line was printed, or memory ran out and nothing was.
abbrev pub PrintsLine : {T E : Type 0} → Result T E → List ℕ → Printer → Printer → SinkView → SinkView → Type 0
PrintsLine (Ok t) text before after from to = Prints text before.failed after.failed from to
PrintsLine (Err e) text before after from to = (after.failed ≡ before.failed) × (to ≡ from)

abbrev pub stopped : {E : Type 0} → Bool → E → Result Bool E
stopped true error = Ok true
stopped false error = Err error
