-- How many assertions entries put, in numbers that stop.
use Rattle.std.specs.Prelude.{ℕ, min, List, map}
use Rattle.schematron_graph.specs.declared.part.Part.{Part}
use Rattle.schematron_graph.specs.Counts.{last_count}
use Rattle.schematron_meaning.specs.Entries.{Entry}
use Rattle.schematron_meaning.specs.Bodies.{abstract_rules}
use Rattle.schematron_meaning.specs.Expansion.{File}
use Rattle.schematron_meaning.specs.Counts.{assertions_by, assertions_of}

-- The file of these entries, where its abstract rules have these bodies. It is the definition's where they are its own.
abbrev pub file_with : List Entry → List (List Part) → File
file_with es bodies = record { entries = es; rules = abstract_rules es; bodies = bodies }

abbrev pub assertions_at : File → Entry → ℕ
assertions_at file e = min (assertions_by file e) last_count

abbrev pub assertions_among : File → List Entry → List ℕ
assertions_among file es = map (assertions_at file) es

abbrev pub assertions_inside_at : File → Entry → ℕ
assertions_inside_at file e = min (assertions_of file e.number) last_count

abbrev pub assertions_inside_all : File → List Entry → List ℕ
assertions_inside_all file es = map (assertions_inside_at file) es
