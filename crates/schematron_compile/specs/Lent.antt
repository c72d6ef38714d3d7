-- What contracts see of lists of what is lent.
use Rattle.std.specs.Prelude.{List, map}
use Rattle.std.specs.Borrow.{Bor}
use Rattle.schematron_meaning.specs.Entries as meaning
use Rattle.schematron_meaning.specs.Expansion as expansion
use Rattle.schematron_entries.specs.declared.entry.Entry.{Entry}
use Rattle.schematron_entries.specs.Seen.{seen_entry}
use Rattle.schematron_expansion.specs.declared.inclusions.Inclusion.{Inclusion}
use Rattle.schematron_expansion.specs.declared.instances.Instance.{Instance}
use Rattle.schematron_expansion.specs.Seen.{seen_put, seen_instance}

-- the entries that these are
abbrev pub lent_entries : List (Bor Entry) → List meaning.Entry
lent_entries es = map (λ e. seen_entry e.now) es

-- what these put in a rule
abbrev pub lent_puts : List Inclusion → List expansion.Inclusion
lent_puts inclusions = map seen_put inclusions

-- the patterns that these are
abbrev pub lent_instances : List Instance → List expansion.Instance
lent_instances instances = map seen_instance instances
