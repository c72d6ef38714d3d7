-- What a rule file is joined of: the files that are read for it, in their order, and what they give.
use Rattle.std.specs.Prelude.{ℕ, ◌+◌, List, [], ◌∷◌, Result, get_or}
use Rattle.inv_base.specs.Tree.{Name}
use Rattle.xml_profile.specs.Profile as profile
use Rattle.node_arena.specs.Document.{Built, Document, built}
use Rattle.rule_library.specs.declared.faults.LoadKind.{LoadKind}

-- A file that was read: its name and how many bytes it has, how many the files that were read before it have, and its
-- document.
pub record File : Type 0 where
  pub name : List ℕ
  pub length : ℕ
  pub start : ℕ
  pub document : Document

-- what is joined so far: nodes, and names in first-seen order
pub record Joined : Type 0 where
  pub built : Built
  pub names : List Name

-- the files in the order in which they were first read, and what is joined of them
pub record State : Type 0 where
  pub files : List File
  pub joined : Joined

-- why and where a file can't be joined
pub record Fault : Type 0 where
  pub kind : LoadKind
  pub file : List ℕ
  pub place : ℕ

-- What is read, file by file: a result, or a file by its name and what is done with its length and its document.
pub data Readings : Type 0 where
  gives : Result State Fault → Readings
  reads : List ℕ → (ℕ → profile.Document → Readings) → Readings

-- how many bytes the files have together
abbrev pub total : List File → ℕ
total [] = 0
total (file ∷ files) = file.length + total files

-- a file behind others, by what is read of it
abbrev pub file_behind : List File → List ℕ → ℕ → profile.Document → File
file_behind files name length found =
    record { name = name; length = length; start = total files; document = record { nodes = (built found.events).nodes; names = found.names } }

abbrev pub no_file : File
no_file = record { name = []; length = 0; start = 0; document = record { nodes = []; names = [] } }

-- the file of that number
abbrev pub file_at : ℕ → List File → File
file_at k files = get_or files k no_file
