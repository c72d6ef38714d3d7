-- What contracts see of entries.
use Rattle.std.specs.Prelude.{List, map, chars}
use Rattle.schematron_meaning.specs.Entries as spec
use Rattle.schematron_entries.specs.declared.entry.Given.{Given}
use Rattle.schematron_entries.specs.declared.entry.Entry.{Entry}

abbrev pub seen_given : Given → spec.Given
seen_given given = record { name = chars given.name.now; value = chars given.value.now }

abbrev pub seen_entry : Entry → spec.Entry
seen_entry e = record { number = e.node; role = e.role; parent = e.parent; given = map seen_given e.given.items; text = chars e.text.now }

abbrev pub seen_entries : List Entry → List spec.Entry
seen_entries es = map seen_entry es
