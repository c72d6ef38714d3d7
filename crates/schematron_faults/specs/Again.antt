-- Patterns that use an abstract one again.
use Rattle.std.specs.Prelude.{ℕ, Bool, false, ◌&&◌, nat_eq, nat_le, List, Option, Some, None}
use Rattle.std.specs.List.{list_any}
use Rattle.schematron_meaning.specs.Expansion.{Instance}

-- It stands at another, which isn't behind that element.
abbrev pub stands_up_to : ℕ → Option ℕ → Bool
stands_up_to n None = false
stands_up_to n (Some m) = nat_le m n

-- The pattern uses the abstract one of that number, and isn't behind that element.
abbrev pub is_use : ℕ → ℕ → Instance → Bool
is_use body n instance = nat_eq instance.body body && stands_up_to n instance.stand

-- One of the others uses the same abstract pattern, and isn't behind it.
abbrev pub is_again : List Instance → Instance → Bool
is_again others instance = elim instance.stand [ None ↦ false | Some n ↦ list_any (is_use instance.body n) others ]
