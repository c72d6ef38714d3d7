-- The first of faults, in parts.
use Rattle.std.specs.Prelude.{List, ◌++◌, Option, Some, None}
use Rattle.schematron_meaning.specs.declared.fault.Fault.{Fault}
use Rattle.schematron_meaning.specs.Entries as spec
use Rattle.schematron_meaning.specs.Showing as show
use Rattle.schematron_entries.specs.Keys.{SeenKey, duplicate_among, unnamed_by}

abbrev pub first_or : Option Fault → Option Fault → Option Fault
first_or None other = other
first_or (Some fault) other = Some fault

-- the first fault at an entry, by the names by which elements may be named and those that stand before it
abbrev pub declared_by : List SeenKey → List SeenKey → spec.Entry → Option Fault
declared_by ids names e = first_or (show.first_in (show.not_schematron e ++ (show.bad_binding e ++ (show.bad_element e ++ show.missing_attribute e))))
    (first_or (duplicate_among names e) (show.first_in (unnamed_by e.role ids e)))
