-- The table by whose root the root of a document is told.
use Rattle.std.specs.Prelude.{List, Option, Some, None, option_and_then}
use Rattle.inv_base.specs.Tree.{Name}
use Rattle.bind_rows.specs.declared.rows.Row.{Row}
use Rattle.bind_table.specs.Lines.{Plan, nothing, a_line, plan_of}
use Rattle.bind_rows.specs.declared.tables.DocumentType.{DocumentType}
use Rattle.bind_meaning.specs.Trees.{name_of}
use Rattle.bind_run.specs.Roots.{document_type_named}

-- the name of the first line's element
abbrev pub root_name : Plan → Option Name
root_name nothing = None
root_name (a_line s cells inside rest) = Some (name_of s.name)

-- the table that documents with the root of these rows are read by
abbrev pub root_table : List Row → Option DocumentType
root_table rows = option_and_then document_type_named (root_name (plan_of rows))
