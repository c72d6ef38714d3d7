-- How many things count, in numbers that stop at the greatest of 64 bits.
use Rattle.std.specs.Prelude.{ℕ, min, List}
use Rattle.std.specs.List.{count_by}
use Rattle.schematron_graph.specs.declared.part.Thing.{Thing}

abbrev pub last_count : ℕ
last_count = 18446744073709551615

-- how many of the things count
abbrev pub count_of : List Thing → ℕ
count_of things = min (count_by (λ (thing : Thing). thing.counts) things) last_count
