-- The expanded names of a plan.
use Rattle.std.specs.Prelude.{List, map, chars, string_bytes}
use Rattle.inv_base.specs.Tree.{Name}
use Rattle.xpath_plan.specs.declared.names.Kept.{Kept}

abbrev pub name_of : Kept → Name
name_of kept = record { uri = chars (string_bytes kept.uri); local = chars (string_bytes kept.local) }

abbrev pub names_of : List Kept → List Name
names_of kept = map name_of kept
