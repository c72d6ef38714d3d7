-- Whether two lists of entries say the same.
use Rattle.std.specs.Prelude.{Bool, true, false, ◌&&◌, List, [], ◌∷◌}
use Rattle.term_table.specs.SemanticModel.{same_term}
use Rattle.term_table.specs.Contexts.{same_context}
use Rattle.inv_terms.specs.declared.entries.Entry.{Entry}
use Rattle.inv_terms.specs.Values.{same_value}

-- Both are of the same term in the same context, with equal values: 1.0 and 1.00 are.
unfoldable pub same_entry : Entry → Entry → Bool
same_entry a b = same_term a.term b.term && (same_context a.context b.context && same_value a.value b.value)

-- Both lists have the same entries, one after another.
abbrev pub same_entries : List Entry → List Entry → Bool
same_entries [] [] = true
same_entries [] (f ∷ fs) = false
same_entries (e ∷ es) [] = false
same_entries (e ∷ es) (f ∷ fs) = same_entry e f && same_entries es fs
