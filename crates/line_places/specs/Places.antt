-- The lines of bytes: the line and the column of a place, and where lines start.
use Rattle.std.specs.Prelude.{◌≡◌, ℕ, ◌+◌, ◌<◌, ◌≤◌, ◌==◌, suc, Bool, if◌then◌else◌, List, [], ◌∷◌, ◌++◌, length, take}
use lib.Dec.{leb}
use Rattle.line_places.specs.declared.place.LinePlace.{LinePlace}

-- a line feed
abbrev pub is_feed : ℕ → Bool
is_feed byte = byte == 10

-- ---- the line and the column of a place

-- how many line feeds stand among the bytes
abbrev pub feeds : List ℕ → ℕ
feeds [] = 0
feeds (b ∷ bytes) = if is_feed b then suc (feeds bytes) else feeds bytes

-- how many bytes stand behind the last line feed; where there is none, all, and so many more
abbrev pub behind_feed : ℕ → List ℕ → ℕ
behind_feed before [] = before
behind_feed before (b ∷ bytes) = behind_feed (if is_feed b then 0 else suc before) bytes

-- the line of a place, counted from 1: of CR and LF the LF alone ends a line
abbrev pub line_of : List ℕ → ℕ → ℕ
line_of content place = 1 + feeds (take place content)

-- the column of a place, counted in bytes from 1
abbrev pub column_of : List ℕ → ℕ → ℕ
column_of content place = 1 + behind_feed 0 (take place content)

-- Both; of a place past the end those of the end.
abbrev pub place_in : List ℕ → ℕ → LinePlace
place_in content place = record { line = line_of content place; column = column_of content place }

-- ---- where lines start

-- the places behind line feeds, of bytes that stand from a place on
abbrev pub starts_from : ℕ → List ℕ → List ℕ
starts_from place [] = []
starts_from place (b ∷ bytes) = if is_feed b then suc place ∷ starts_from (suc place) bytes else starts_from (suc place) bytes

-- where the lines behind the first one start, and how many bytes there are
pub record Lines : Type 0 where
  pub starts : List ℕ
  pub length : ℕ

-- The lines are those of the content.
pub record AreLinesOf (lines : Lines) (content : List ℕ) : Type 0 where
  pub starts : lines.starts ≡ starts_from 0 content
  pub counted : lines.length ≡ length content

-- The starts rise between these places.
abbrev pub Rise : ℕ → List ℕ → ℕ → Type 0
Rise low [] high = low ≤ high
Rise low (start ∷ starts) high = (low < start) × Rise start starts high

-- how many lines start at the place or before it
abbrev pub count_to : ℕ → List ℕ → ℕ
count_to place [] = 0
count_to place (start ∷ starts) = if leb start place then suc (count_to place starts) else count_to place starts

-- The bytes of the piece came behind the others.
pub record Gives (piece : List ℕ) (before after : Lines) : Type 0 where
  pub starts : after.starts ≡ before.starts ++ starts_from before.length piece
  pub counted : after.length ≡ before.length + length piece

-- A line of so many bytes, its line feed among them.
pub record EndsLine (len : ℕ) (before after : Lines) : Type 0 where
  pub starts : after.starts ≡ before.starts ++ (before.length + len) ∷ []
  pub counted : after.length ≡ before.length + len

-- So many bytes without a line feed.
pub record GoesOn (len : ℕ) (before after : Lines) : Type 0 where
  pub starts : after.starts ≡ before.starts
  pub counted : after.length ≡ before.length + len
