-- Which entries stand in rules that count.
use Rattle.std.specs.Prelude.{ℕ, Bool, List, map}
use Rattle.schematron_meaning.specs.Entries.{Entry}
use Rattle.schematron_meaning.specs.Lookup.{at_node}
use Rattle.schematron_meaning.specs.Counts.{is_counted_rule}

abbrev pub numbers : List Entry → List ℕ
numbers es = map (λ (e : Entry). e.number) es

-- The entry stands in a rule that counts.
abbrev pub is_counted : List Entry → Entry → Bool
is_counted es e = is_counted_rule es (at_node es e.parent)

abbrev pub counted_among : List Entry → List Entry → List Bool
counted_among all es = map (is_counted all) es
