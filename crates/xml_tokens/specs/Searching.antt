-- How far an unfinished token was searched for its end.
use Rattle.std.specs.Prelude.{◌≡◌, ℕ, ◌+◌, ◌≤◌, Bool, ◌||◌, ◌==◌, true, false, List, [], ◌∷◌, length, take, Option, None, if◌then◌else◌}
use Rattle.xml_tokens.specs.Searches.{quote_behind}
use Rattle.xml_tokens.specs.Beginnings.{beginning, later}
use Rattle.xml_tokens.specs.declared.beginning.Position.TheVariants.{Farther}
use Rattle.xml_tokens.specs.declared.beginning.Beginning.{Beginning}
use Rattle.xml_tokens.specs.declared.beginning.Beginning.TheVariants.{Good, Bad, Later}

-- so many bytes, and the quote that is open behind them
pub record Searched : Type 0 where
  pub searched : ℕ
  pub quote : Option ℕ

-- nothing was searched
abbrev pub fresh : Searched
fresh = record { searched = 0; quote = None }

-- the quote that is open behind the bytes, behind which stands the quote that was open before them
abbrev pub quote_after : Option ℕ → List ℕ → Option ℕ
quote_after quote [] = quote
quote_after quote (b ∷ bytes) = quote_after (quote_behind quote b) bytes

-- the quote that is open behind the bytes, where they are the front of a tag
abbrev pub open_quote : List ℕ → Option ℕ
open_quote [] = None
open_quote (b ∷ []) = None
open_quote (b ∷ (c ∷ bytes)) = if c == 0x21 || c == 0x3F then None else quote_after None (c ∷ bytes)

-- What was searched is a front of these bytes that isn't a token or a fault yet, and the quote is the one that is open
-- behind it.
pub record Fits (s : Searched) (bytes : List ℕ) : Type 0 where
  pub within : s.searched ≤ length bytes
  pub in_vain : beginning Farther false (take s.searched bytes) ≡ later
  pub quote : s.quote ≡ open_quote (take s.searched bytes)

-- The bytes begin with `<`: tags and extents, which alone can be long.
abbrev pub is_markup : List ℕ → Bool
is_markup [] = false
is_markup (b ∷ bytes) = b == 0x3C

-- What was searched of a token that isn't whole: all its bytes where they are markup, but for an opening string that
-- isn't whole yet. So where the bytes go on, none of these is searched again.
pub record IsSearched (s : Searched) (bytes : List ℕ) : Type 0 where
  pub fits : Fits s bytes
  pub all : is_markup bytes ≡ true → length bytes ≤ s.searched + 8

-- behind a token or a fault nothing was searched of what follows; behind an unfinished token its bytes were
abbrev pub Continues : Beginning → Searched → List ℕ → Type 0
Continues (Good token n) s bytes = s ≡ fresh
Continues (Bad kind n) s bytes = s ≡ fresh
Continues Later s bytes = IsSearched s bytes

-- behind an unfinished token its bytes were searched
abbrev pub Keeps : Beginning → Searched → List ℕ → Type 0
Keeps (Good token n) s bytes = Unit {0}
Keeps (Bad kind n) s bytes = Unit {0}
Keeps Later s bytes = IsSearched s bytes
