use Rattle.std.proofs.Common.{◌≡◌, ◌++◌}
use Rattle.std.specs.List.Sorted.{IsStrictlySortedBy}
use Rattle.std.specs.Map.{keys_of as entry_keys}
use Rattle.std.specs.String.{string_cmp}
use Rattle.toml.specs.View.{members_view}
use Rattle.code_lists.specs.CodeFiles as spec
use Rattle.code_lists.proofs.file.read_lists.Given as goal

abbrev pub invariant-keys : goal.invariant-keys
invariant-keys l =
    (goal.iterator-keys).can_next l.key-iterator × (goal.iterator-keys).is_finite l.key-iterator
    × (IsStrictlySortedBy string_cmp (entry_keys l.key-iterator)
    × ((spec.offences (members_view l.key-iterator) ≡ spec.offences (members_view l.lists.entries))
    × (l.found.items ++ spec.given_lists (members_view l.key-iterator) ≡ l.initial.found.items ++ spec.given_lists (members_view l.lists.entries))))
