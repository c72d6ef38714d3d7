-- The entries of what was told first of each term in each context.
use Rattle.std.specs.Prelude.{List, [], ◌∷◌, Some, None}
use Rattle.inv_terms.specs.declared.entries.Entry.{Entry}
use Rattle.bind_terms.specs.declared.firsts.First.{First}

-- its entry, where it has a value
abbrev pub entries_of : First → List Entry
entries_of f = elim f.value [ None ↦ [] | Some value ↦ record { context = f.context; term = f.term; value = value } ∷ [] ]
