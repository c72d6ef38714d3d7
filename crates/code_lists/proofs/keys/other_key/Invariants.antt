use Rattle.std.proofs.Common.{◌≡◌, find, map, string_bytes}
use Rattle.std.specs.Map.{keys_of as entry_keys}
use Rattle.code_lists.specs.Keys.{is_other}
use Rattle.code_lists.proofs.keys.other_key.Given as goal

abbrev pub invariant-keys : goal.invariant-keys
invariant-keys l =
    (goal.iterator-keys).can_next l.key-iterator × (goal.iterator-keys).is_finite l.key-iterator
    × (find (is_other (map (λ word. word.now) l.words)) (map string_bytes l.key-iterator)
    ≡ find (is_other (map (λ word. word.now) l.words)) (map string_bytes (entry_keys l.table.entries)))
