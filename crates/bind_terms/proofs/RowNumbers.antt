-- How large the numbers of rows in the table of terms are.
use Rattle.std.proofs.Common.{◌≡◌, ◌<◌, ℕ, length, Some, refl, subst}
use Rattle.std.proofs.lemmas.List.Quantifiers.{position-Some}
use Rattle.term_table.specs.declared.groups.Group.TheVariants as groups
use Rattle.term_table.specs.declared.terms.Term.{Term}
use Rattle.term_table.specs.declared.terms.TermRow.{TermRow}
use Rattle.term_table.specs.declared.terms.DataType.TheVariants as data_types
use Rattle.term_table.specs.declared.terms.Mark.TheVariants as marks
use Rattle.term_table.specs.declared.contexts.Context.{Context}
use Rattle.term_table.specs.Contexts.{slot_group}
use Rattle.term_table.specs.SemanticModel.{listing_rows, terms, extension_rows}
use Rattle.term_table.specs.Rows.{is_row_in, row_of}
use Rattle.std.specs.Prelude.{None}

any_row : TermRow
any_row = record { term = record { number = 0; part = 0 }; group = groups.Root; data_type = data_types.T; mark = marks.Optional; list = None }

-- how many rows there are: the terms, and those that users may add
rows-are : length listing_rows ≡ 379
unfolding listing_rows terms extension_rows
rows-are = refl

pub row-below : (term : Term) (context : Context) (row : ℕ) → row_of term context ≡ Some row → row < 379
row-below term context row h = subst (λ n. row < n) rows-are
    (position-Some (is_row_in term (slot_group context.outer) (slot_group context.inner)) listing_rows row any_row h).0
