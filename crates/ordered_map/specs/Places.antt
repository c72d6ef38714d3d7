-- Where a key stands among values in the order of their keys. `compare` says how the key compares with that of a value.
use Rattle.std.specs.Prelude.{◌≡◌, ℕ, ◌<◌, ◌≤◌, List, length}
use Rattle.std.specs.declared.cmp.Ordering.{Ordering}
use Rattle.std.specs.declared.cmp.Ordering.TheVariants.{Less, Equal, Greater}
use Rattle.std.specs.List.{AllWithin, HoldsAt}
use Rattle.ordered_map.specs.declared.places.Place.{Place}
use Rattle.ordered_map.specs.declared.places.Place.TheVariants as places

-- The key is above the keys of the values before the first place, and below those of the values from the second on.
pub record IsWithin {X : Type 0} (compare : X → Ordering) (values : List X) (low high : ℕ) : Type 0 where
  pub order : low ≤ high
  pub bound : high ≤ length values
  pub below : AllWithin (λ x. compare x ≡ Greater) values 0 low
  pub above : AllWithin (λ x. compare x ≡ Less) values high (length values)

-- The key is that of the value there, or it is above those before the place and below those from it on.
abbrev pub IsPlace : {X : Type 0} → (X → Ordering) → List X → Place → Type 0
IsPlace compare values (places.At k) = (k < length values) × HoldsAt (λ x. compare x ≡ Equal) values k
IsPlace compare values (places.Before k) = IsWithin compare values k k
