-- Tables that a user's terms extend: each term has a row of its own, behind the table's, whose path goes through elements
-- of the table as far as it has such names, and through new ones from there on.
use Rattle.std.specs.Prelude.{ℕ, ◌+◌, ◌==◌, false, List, [], ◌∷◌, ◌++◌, map, fold, max, take, length, Option, Some, None}
use Rattle.term_table.specs.declared.groups.Group.{Group}
use Rattle.term_table.specs.declared.terms.DataType.{DataType}
use Rattle.term_table.specs.declared.terms.DataType.TheVariants as data_types
use Rattle.term_table.specs.declared.terms.Term.{Term}
use Rattle.bind_rows.specs.declared.names.ElementName.{ElementName}
use Rattle.bind_rows.specs.declared.names.Leaf.TheVariants as leaves
use Rattle.bind_rows.specs.declared.rows.Check.TheVariants as checks
use Rattle.bind_rows.specs.declared.rows.Content.TheVariants as contents
use Rattle.bind_rows.specs.declared.rows.Form.{Form}
use Rattle.bind_rows.specs.declared.rows.Form.TheVariants as forms
use Rattle.bind_rows.specs.declared.rows.Repeats.TheVariants as repeat
use Rattle.bind_rows.specs.declared.rows.Row.{Row}
use Rattle.bind_rows.specs.declared.rows.Step.{Step}
use Rattle.bind_rows.specs.declared.rows.Written.TheVariants as written
use Rattle.bind_rows.specs.declared.tables.DocumentType.{DocumentType}
use Rattle.bind_rows.specs.declared.tables.DocumentType.TheVariants as document_type
use Rattle.bind_rows.specs.Added.{built}
use Rattle.bind_rows.specs.Same.{same_name, choose}
use Rattle.bind_table.specs.WellFormed.{first_carrier}
use Rattle.bind_table.specs.declared.extending.AddedTerm.{AddedTerm}

-- ---- elements by their names

-- the element at the end of the names, along a path
abbrev pub at_names : List ElementName → List Step → Option Step
at_names [] path = None
at_names (n ∷ names) [] = None
at_names (n ∷ names) (s ∷ path) = choose (same_name n s.name) (λ _. choose (length names == 0) (λ _. Some s) (λ _. at_names names path)) (λ _. None)

abbrev pub first_of : Option Step → Option Step → Option Step
first_of None other = other
first_of (Some s) other = Some s

-- the first such element of the table
abbrev pub first_at : List ElementName → List Row → Option Step
first_at names [] = None
first_at names (row ∷ rows) = first_of (at_names names row.path) (first_at names rows)

-- the greatest number of an element, of the path and of those before it, and of a table
abbrev pub greatest_on : ℕ → Row → ℕ
greatest_on most row = fold max most (map (λ (s : Step). s.number) row.path)

abbrev pub greatest : List Row → ℕ
greatest rows = fold greatest_on 0 rows

-- ---- the path of an added row

-- the element that was found, as an added row goes through it, else a new one of this name
abbrev pub step_for : Option Step → ElementName → ℕ → Step
step_for (Some s) name top = record { name = s.name; number = s.number; always = s.always; group = s.group; guards = [] }
step_for None name top = record { name = name; number = top + 1; always = false; group = None; guards = [] }

-- the greatest number behind it
abbrev pub top_behind : Option Step → ℕ → ℕ
top_behind (Some s) top = top
top_behind None top = top + 1

-- the path of the names behind those before: elements of the table where it has them, else new ones, with numbers above
-- the greatest
abbrev pub path_of : List Row → ℕ → List ElementName → List ElementName → List Step
path_of rows top before [] = []
path_of rows top before (n ∷ names) =
    let there = first_at (before ++ n ∷ []) rows in
    step_for there n top ∷ path_of rows (top_behind there top) (before ++ n ∷ []) names

abbrev pub front_path : Option (List Step) → List Step
front_path None = []
front_path (Some front) = front

abbrev pub root_path : List Row → List Step
root_path [] = []
root_path (row ∷ rows) = take 1 row.path

-- the path of the built-in part that leads to a context
abbrev pub context_path : List Row → Option Group → Option Group → List Step
context_path own None None = root_path own
context_path own (Some outer) None = front_path (first_carrier outer own)
context_path own None (Some inner) = front_path (first_carrier inner own)
context_path own (Some outer) (Some inner) = front_path (first_carrier inner own)

-- the names that lead to a term from the root
abbrev pub names_for : List Row → AddedTerm → List ElementName
names_for own a = map (λ (s : Step). s.name) (context_path own a.outer a.inner) ++ a.names

-- ---- its row

-- the form of a type: the dates of CII have no dashes
abbrev pub form_of_type : DocumentType → DataType → Form
form_of_type document_type.Cii data_types.D = forms.TypedPlainDate
form_of_type document_type.Cii data_type = forms.Typed data_type
form_of_type document_type.Invoice data_type = forms.Typed data_type
form_of_type document_type.CreditNote data_type = forms.Typed data_type

abbrev pub added_term : ℕ → Term
added_term number = record { number = 1000 + number; part = 0 }

abbrev pub added_row : DocumentType → List Row → AddedTerm → Row
added_row table rows a = record {
  path = path_of rows (greatest rows) [] (names_for (built rows) a);
  leaf = leaves.Element;
  outer = a.outer;
  inner = a.inner;
  content = contents.Term (added_term a.number);
  form = form_of_type table a.data_type;
  repeats = repeat.Once;
  written = written.Always;
  check = checks.Nothing;
}

-- the rows with those of the terms, one behind the other: each finds the elements of those before it
abbrev pub extended : DocumentType → List Row → List AddedTerm → List Row
extended table rows [] = rows
extended table rows (a ∷ others) = extended table (rows ++ added_row table rows a ∷ []) others
