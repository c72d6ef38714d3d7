-- What is known of a file that was read of a document.
use Rattle.std.specs.Prelude.{◌≡◌, ℕ, true, false, nat_eq, List, [], ◌∷◌, Option, Some, find}
use Rattle.schematron_meaning.specs.Entries.{Entry}
use Rattle.schematron_meaning.specs.Lookup.{is_let, is_own_rule}
use Rattle.schematron_meaning.specs.Expansion.{File, file_of}
use Rattle.schematron_entries.specs.Order.{NumbersRise}

-- the entry of a number
abbrev pub entry_at : List Entry → ℕ → Option Entry
entry_at es n = find (λ (e : Entry). nat_eq e.number n) es

-- The entry is one of the file's.
abbrev pub IsOf : List Entry → Entry → Type 0
IsOf es e = entry_at es e.number ≡ Some e

pub record IsRead (file : File) : Type 0 where
  pub rises : NumbersRise file.entries
  pub is : file ≡ file_of file.entries

-- The entry is a rule of the file that stands for itself.
pub record IsRule (es : List Entry) (e : Entry) : Type 0 where
  pub is_of : IsOf es e
  pub is_own : is_own_rule e.role ≡ true

-- The entry is a rule of the file that stands for itself, unless it is a let.
abbrev pub IsItem : List Entry → Entry → Type 0
IsItem es e = is_let e.role ≡ false → IsRule es e

abbrev pub AreItems : List Entry → List Entry → Type 0
AreItems es [] = Unit {0}
AreItems es (e ∷ others) = IsItem es e × AreItems es others
