use Rattle.std.proofs.Common.{◌∙◌, ap, position, slice_get}
use Rattle.std.specs.Prelude.{option_and_then}
use Rattle.term_table.specs.SemanticModel.{same_term}
use Rattle.term_table.specs.Names.{names}
use Rattle.term_table.specs.declared.terms.TermRow.{TermRow}
use Rattle.term_table.proofs.TermLemmas.{table_is}
use Rattle.term_table.proofs.names.term_name.Goals as goal

pub returns-in-Some : goal.returns-in-Some
returns-in-Some c =
    c.name_at.ensures
    ∙ ap (option_and_then (slice_get names)) (c.in-Some.ensures ∙ ap (position (λ (row : TermRow). same_term row.term c.args.term)) table_is)

pub returns-in-None : goal.returns-in-None
returns-in-None c = ap (option_and_then (slice_get names)) (c.in-None.ensures ∙ ap (position (λ (row : TermRow). same_term row.term c.args.term)) table_is)
