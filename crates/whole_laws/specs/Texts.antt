-- Texts of which nothing is lost, by three tables, one for each syntax and kind of document.
use Rattle.std.specs.Prelude.{◌≡◌, ℕ, true, List, None, Ok}
use Rattle.xml_profile.specs.Profile.{Document, document}
use Rattle.node_arena.specs.Document.{built}
use Rattle.node_arena.specs.Moves.{tree_nodes}
use Rattle.bind_rows.specs.declared.rows.Row.{Row}
use Rattle.bind_rows.specs.declared.tables.DocumentType.{DocumentType}
use Rattle.bind_run.specs.Reading.{first_lost}
use Rattle.written_laws.specs.Readable.{reading_limits}
use Rattle.whole_laws.specs.Whole.{is_whole}

-- Each is whole.
abbrev pub AreWhole : (DocumentType → List Row) → Type 0
AreWhole tables = (table : DocumentType) → is_whole (tables table) ≡ true

-- The bytes are a document of which nothing is lost, by the table that its root selects.
pub record IsWholeBy (tables : DocumentType → List Row) (bytes : List ℕ) : Type 0 where
  pub found : Document
  pub is : document reading_limits bytes ≡ Ok found
  pub lost : first_lost tables (tree_nodes (record { nodes = (built found.events).nodes; names = found.names })) ≡ None
