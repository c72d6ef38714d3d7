-- A table of names as it is kept: namespace names, each once, and pairs of the number of one and a local name.
use Rattle.std.specs.Prelude.{◌≡◌, ℕ, zero, suc, ◌<◌, Bool, true, false, ◌&&◌, ◌==◌, List, [], ◌∷◌, ◌++◌, map, length, chars, string_bytes, bytes_eq, String}
use Rattle.std.specs.Prelude.{Result, IfOk}
use Rattle.std.specs.Global.{Global}
use Rattle.std.specs.List.{list_any}
use Rattle.inv_base.specs.Tree.{Name}
use Rattle.xml_events.specs.Names.{AreDistinct}
use Rattle.xml_events.specs.declared.kept.Kept.{Kept}

-- the namespace name of a number, in characters
abbrev pub space_at : List (String Global) → ℕ → List ℕ
space_at [] n = []
space_at (space ∷ spaces) n = elim n [ zero ↦ chars (string_bytes space) | suc k ↦ space_at spaces k ]

-- the name that is kept
abbrev pub name_of : List (String Global) → Kept → Name
name_of spaces kept = record { uri = space_at spaces kept.space; local = chars (string_bytes kept.local) }

abbrev pub names_of : List (String Global) → List Kept → List Name
names_of spaces kept = map (name_of spaces) kept

-- The number is that of the namespace name.
pub record IsSpace (spaces : List (String Global)) (n : ℕ) (uri : List ℕ) : Type 0 where
  pub within : n < length spaces
  pub is : space_at spaces n ≡ uri

-- No namespace name is kept twice.
abbrev pub AreApart : List (String Global) → Type 0
AreApart spaces = (i j : ℕ) → i < length spaces → j < length spaces → space_at spaces i ≡ space_at spaces j → i ≡ j

-- Each number is one of so many.
abbrev pub AreWithin : ℕ → List Kept → Type 0
AreWithin n [] = Unit {0}
AreWithin n (kept ∷ keys) = (kept.space < n) × AreWithin n keys

-- What holds of a table.
pub record AreKept (spaces : List (String Global)) (keys : List Kept) : Type 0 where
  pub apart : AreApart spaces
  pub within : AreWithin (length spaces) keys
  pub distinct : AreDistinct (names_of spaces keys)

-- A namespace name was looked for, and added behind the others where it is new.
pub record TakesSpace {E : Type 0} (result : Result ℕ E) (uri : List ℕ) (old new : List (String Global)) : Type 0 where
  pub apart : AreApart new
  pub more : List (String Global)
  pub grown : new ≡ old ++ more
  pub number : IfOk result (λ n. IsSpace new n uri)

-- What is kept has this number and these bytes.
abbrev pub is_kept : ℕ → List ℕ → Kept → Bool
is_kept space local kept = space == kept.space && bytes_eq local (string_bytes kept.local)

-- It was among the old ones, or was added behind them.
pub data KeepsOne (space : ℕ) (local : List ℕ) (old : List Kept) : List Kept → Type 0 where
  known : list_any (is_kept space local) old ≡ true → KeepsOne space local old old
  added : (kept : Kept) → list_any (is_kept space local) old ≡ false → kept.space ≡ space → string_bytes kept.local ≡ local →
      KeepsOne space local old (old ++ kept ∷ [])
