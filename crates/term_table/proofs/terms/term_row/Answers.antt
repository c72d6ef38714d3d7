use Rattle.std.proofs.Common.{ap, ◌∙◌, slice_get}
use Rattle.term_table.proofs.TermLemmas.{table_is}
use Rattle.term_table.proofs.terms.term_row.Goals as goal

pub returns : goal.returns
returns c = c.row_at.ensures ∙ ap (λ rows. slice_get rows c.args.k) table_is
