-- The keys of a table.
use Rattle.std.specs.Prelude.{ℕ, Bool, not, List, [], ◌∷◌, Option, Some, None, filter, bytes_eq, if◌then◌else◌}
use Rattle.std.specs.List.{list_any}
use Rattle.std.specs.Ordering.{nat_cmp, is_lt}
use Rattle.std.specs.Cmp.Lexicographic.{slice_cmp}
use Rattle.toml.specs.Data.{Members, no_members, member}

abbrev pub keys_of : Members → List (List ℕ)
keys_of no_members = []
keys_of (member key d ms) = key ∷ keys_of ms

-- The key is none of the words.
abbrev pub is_other : List (List ℕ) → List ℕ → Bool
is_other words key = not (list_any (λ word. bytes_eq word key) words)

-- the first of the keys in byte order
abbrev pub first_key : List (List ℕ) → Option (List ℕ)
first_key [] = None
first_key (key ∷ keys) = Some (elim (first_key keys) [ None ↦ key | Some other ↦ if is_lt (slice_cmp nat_cmp other key) then other else key ])

-- the first key in byte order that is none of the words
abbrev pub other_key : List (List ℕ) → Members → Option (List ℕ)
other_key words ms = first_key (filter (is_other words) (keys_of ms))
