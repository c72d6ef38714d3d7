-- A row that a user adds behind the rows of a table, as a table with it that is well formed says of it.
use Rattle.std.specs.Prelude.{◌≡◌, ℕ, ◌<◌, ◌≤◌, Bool, true, false, not, ◌&&◌, List, [], ◌∷◌, ◌++◌, length, Option, Some, None}
use Rattle.std.specs.List.{list_all}
use Rattle.term_table.specs.declared.terms.Term.{Term}
use Rattle.bind_rows.specs.declared.rows.Content.TheVariants as contents
use Rattle.bind_rows.specs.declared.rows.Row.{Row}
use Rattle.bind_rows.specs.declared.rows.Step.{Step}
use Rattle.bind_rows.specs.Added.{is_added}
use Rattle.bind_rows.specs.declared.names.Namespace.{Namespace}
use Rattle.bind_rows.specs.declared.tables.DocumentType.{DocumentType}
use Rattle.bind_table.specs.declared.extending.AddedTerm.{AddedTerm}
use Rattle.bind_table.specs.Crossings.{part_by_name}
use Rattle.bind_table.specs.Extending.{added_row}
use Rattle.bind_table.specs.Laid.{element_numbers, is_ncname, is_declared}
use Rattle.bind_table.specs.Lines.{plan_of}
use Rattle.bind_table.specs.WellFormed.{is_rooted, carries_only}
use Rattle.bind_meaning.specs.Picks.{has_term}
use Rattle.bind_meaning.specs.Trees.{name_of}
use Rattle.bind_write.specs.Documents.{declarations_for, root_namespace}
use Rattle.xml_write.specs.Canonical.{Declaration, element_name}
use Rattle.xml_laws.specs.Writable.{is_element_name, is_short}
use Rattle.written_laws.specs.Readable.{reading_limits}
use Rattle.extension_laws.specs.Ways.{are_new, new_steps, all_below}

-- The names can be written in documents whose root is in the namespace.
abbrev pub are_writable : Option Namespace → List Step → Bool
are_writable None path = false
are_writable (Some root) path = list_all (λ (s : Step). is_ncname s.name.local && is_declared root s.name.namespace) path

-- The name can be written with these declarations, and is short enough.
abbrev pub can_be_named : List Declaration → Step → Bool
can_be_named declarations s =
    is_element_name declarations (name_of s.name) && is_short reading_limits (element_name declarations (name_of s.name))

pub record Joins (rows : List Row) (row : Row) : Type 0 where
  pub added : is_added row ≡ true
  pub long : 0 < length row.path
  -- its path begins with the root of the others
  pub rooted : is_rooted rows row ≡ true
  -- and leaves that of each other row by a name
  pub parts : list_all (λ (other : Row). part_by_name row.path other.path) rows ≡ true
  -- it goes through the element of its context's group, and of no other
  pub through : carries_only row.outer row.path ≡ true
  -- no other row has its term
  pub term : Term
  pub content : row.content ≡ contents.Term term
  pub alone : list_all (λ (other : Row). not (has_term term other)) rows ≡ true
  -- its path is short, and documents of the table can have its names
  pub short : length row.path ≤ 23
  pub named : list_all (λ (s : Step). can_be_named (declarations_for rows) s) row.path ≡ true
  pub writable : are_writable (root_namespace rows) row.path ≡ true
  -- its new elements have numbers of their own, above those of all others
  pub top : ℕ
  pub below : all_below top (element_numbers (plan_of rows)) ≡ true
  pub fresh : are_new top (new_steps row.path (plan_of rows)) ≡ true

-- Each of the rows of the terms joins the rows before it.
abbrev pub JoinEach : DocumentType → List Row → List AddedTerm → Type 0
JoinEach table rows [] = Unit {0}
JoinEach table rows (a ∷ terms) = Joins rows (added_row table rows a) × JoinEach table (rows ++ added_row table rows a ∷ []) terms
