use Rattle.std.proofs.Common.{◌&&◌, map, sym, ◌∙◌}
use Rattle.term_table.specs.declared.terms.TermRow.{TermRow}
use Rattle.term_table.specs.SemanticModel.{same_term, terms}
use Rattle.term_table.specs.Contexts.{has_context}
use Rattle.invoice_data.specs.Names.{added_row}
use Rattle.invoice_data.proofs.FindLemmas.{find_ahead, find_behind, model_found}
use Rattle.invoice_data.proofs.names.row_in_room.Goals as goal

pub returns-in-Some : goal.returns-in-Some
returns-in-Some c =
    sym (find_ahead (λ (row : TermRow). same_term row.term c.args.term && has_context row.group c.args.room.place) terms (map added_row c.args.added.now)
    c.in-Some.row (sym (c.in-Some.ensures ∙ model_found c.args.term c.args.room.place)))

pub returns-in-None : goal.returns-in-None
returns-in-None c =
    c.added_in.ensures
    ∙ sym (find_behind (λ (row : TermRow). same_term row.term c.args.term && has_context row.group c.args.room.place) terms (map added_row c.args.added.now)
    (sym (c.in-None.ensures ∙ model_found c.args.term c.args.room.place)))
