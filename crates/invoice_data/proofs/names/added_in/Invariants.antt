use Rattle.std.proofs.Common.{◌≡◌, ◌&&◌, drop, find, map}
use Rattle.term_table.specs.declared.terms.TermRow.{TermRow}
use Rattle.term_table.specs.SemanticModel.{same_term}
use Rattle.term_table.specs.Contexts.{has_context}
use Rattle.invoice_data.specs.Names.{added_row}
use Rattle.invoice_data.proofs.names.added_in.Given as goal

-- what is found in the rest is found in all
abbrev pub invariant-added : goal.invariant-added
invariant-added l =
    find (λ (row : TermRow). same_term row.term l.term && has_context row.group l.room.place) (map added_row (drop l.e-index l.added))
    ≡ find (λ (row : TermRow). same_term row.term l.term && has_context row.group l.room.place) (map added_row l.added)
