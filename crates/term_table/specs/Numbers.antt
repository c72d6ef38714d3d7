-- Private functions that find a row by the number of its term: what they answer. No public clause cites it.
use Rattle.std.specs.Prelude.{ℕ, ◌+◌, ◌-◌, ◌*◌, Bool, true, false, List, Option, Some, None, find, option_map, position, slice_get, take, drop, unwrap_or}
use Rattle.term_table.specs.declared.groups.Group.{Group}
use Rattle.term_table.specs.declared.groups.Group.TheVariants as groups
use Rattle.term_table.specs.declared.terms.DataType.{DataType}
use Rattle.term_table.specs.declared.terms.Term.{Term}
use Rattle.term_table.specs.declared.terms.TermRow.{TermRow}
use Rattle.term_table.specs.SemanticModel.{same_term}
use Rattle.term_table.specs.Rows.{is_row_in}
use Rattle.term_table.specs.Contexts.{stands_in}

-- where the rows of a number begin, behind all of them where there are none
abbrev pub first_of : List ℕ → ℕ → ℕ
first_of firsts number = unwrap_or (slice_get firsts number) 181

-- the number of the row among the three from the first one on
abbrev pub row_from : List TermRow → ℕ → Term → Option Group → Option Group → Option ℕ
row_from rows first term outer inner = option_map (λ k. first + k) (position (is_row_in term outer inner) (take 3 (drop first rows)))

-- the type of the term among the three from the first one on
abbrev pub letter_from : List TermRow → ℕ → Term → Option DataType
letter_from rows first term = option_map (λ (row : TermRow). row.data_type) (find (λ (row : TermRow). same_term row.term term) (take 3 (drop first rows)))

-- the number of the row of a term that a table adds: first that in a line, and then that in the invoice itself
abbrev pub extension_place : Bool → Bool → Option ℕ
extension_place true in_root = Some 0
extension_place false true = Some 1
extension_place false false = None

abbrev pub extension_row : ℕ → Option Group → Option Group → Option ℕ
extension_row number outer inner = option_map (λ k. 181 + ((number - 1001) * 2 + k))
    (extension_place (stands_in groups.InvoiceLine outer inner) (stands_in groups.Root outer inner))
