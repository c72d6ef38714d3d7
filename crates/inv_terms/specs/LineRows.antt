-- A private function that passes over the rows of the model which can't miss in a line: what it answers. No public clause cites it.
use Rattle.std.specs.Prelude.{ℕ, true, false, Option, Some, None}
use Rattle.term_table.specs.declared.groups.Group.TheVariants as groups
use Rattle.term_table.specs.declared.contexts.Slot.{Slot}
use Rattle.term_table.specs.declared.contexts.Context.{Context}
use Rattle.term_table.specs.Groups.{same_group}

abbrev pub first_for : Option Slot → ℕ
first_for None = 0
first_for (Some slot) = elim (same_group slot.group groups.InvoiceLine) [ true ↦ 141 | false ↦ 0 ]

abbrev pub first_row_in : Context → ℕ
first_row_in context = first_for context.outer
