-- What reading a slice does to where reading stands, by the definition of reading from there.
use Rattle.std.specs.Prelude.{◌≡◌, ℕ, ◌+◌, ◌<◌, ◌≤◌, Bool, true, ◌==◌, ◌||◌, List, [], ◌∷◌, ◌++◌, length, Option, Some, None}
use Rattle.xml_tokens.specs.Searching.{Fits, IsSearched}
use Rattle.xml_tokens.specs.Beginnings.{sure_length}
use Rattle.xml_tokens.specs.declared.beginning.Position.{Position}
use Rattle.xml_tokens.specs.Asides.{open_aside}
use Rattle.xml_events.specs.Events.{Event, TakesAll}
use Rattle.xml_state.specs.declared.limits.Limits.{Limits}
use Rattle.xml_state.specs.declared.fault.TheConstants.XmlFault.{WANT_OF_MEMORY}
use Rattle.xml_state.specs.declared.fault.XmlFault.{XmlFault}
use Rattle.xml_profile.specs.TokenByToken.{waits, stopped, telling, read}
use Rattle.xml_profile.specs.Keeping.{Kept, kept_by}
use Rattle.xml_profile.specs.Keeping as keeping
use Rattle.xml_profile.specs.declared.cursor.Cursor.{Cursor}
use Rattle.xml_profile.specs.declared.cursor.Inside.{Inside}
use Rattle.xml_profile.specs.declared.cursor.Turn.{Turn}
use Rattle.xml_profile.specs.declared.cursor.Turn.TheVariants.{Behind, Unfinished, Stopped}

-- The place is within the limit, and what was searched are bytes of the token that begins here.
pub record IsAt (limits : Limits) (cursor : Cursor) (bytes : List ℕ) : Type 0 where
  pub within : cursor.place ≤ limits.bytes
  pub fits : Fits cursor.search bytes

-- TAB, LF and space: white space that is a token by itself
abbrev pub is_blank : ℕ → Bool
is_blank b = b == 0x20 || (b == 0x9 || b == 0xA)

-- Some bytes were read and what they tell was taken; the rest is still to be read.
pub record GoesOn (ended : Bool) (limits : Limits) (old new : Cursor) (bytes rest : List ℕ) (before after : List Event → Type 0) : Type 0 where
  pub events : List Event
  pub passed : List ℕ
  pub parts : bytes ≡ passed ++ rest
  pub is : read ended limits old.open_elements old.place 0 bytes ≡ telling events (read ended limits new.open_elements new.place 0 rest)
  pub told : TakesAll events before after
  pub at : IsAt limits new rest

-- All was read but the rest, which is no token yet and was searched, and what it tells was taken.
pub record Reaches (ended : Bool) (limits : Limits) (old new : Cursor) (bytes rest : List ℕ) (before after : List Event → Type 0) : Type 0 where
  pub events : List Event
  pub passed : List ℕ
  pub parts : bytes ≡ passed ++ rest
  pub is : read ended limits old.open_elements old.place 0 bytes ≡ record { events = events; stands = waits new.open_elements new.place rest }
  pub told : TakesAll events before after
  pub at : IsAt limits new rest
  pub searched : IsSearched new.search rest
  pub room : (b : ℕ) (more : List ℕ) → rest ≡ b ∷ more → new.place + sure_length b more ≤ limits.bytes
  pub ends_within : ended ≡ true → new.place + length rest ≤ limits.bytes

-- The bytes have this fault, and what stands before it was taken; or memory ran out, and a front of what they tell was
-- taken.
pub data Breaks (ended : Bool) (limits : Limits) (old : Cursor) (bytes : List ℕ) (before after : List Event → Type 0) : XmlFault → Type 0 where
  of_bytes : (fault : XmlFault) (events : List Event) → read ended limits old.open_elements old.place 0 bytes
      ≡ record { events = events; stands = stopped fault }
      → TakesAll events before after → Breaks ended limits old bytes before after fault
  of_memory : (front others : List Event) → (read ended limits old.open_elements old.place 0 bytes).events ≡ front ++ others
      → TakesAll front before after → Breaks ended limits old bytes before after WANT_OF_MEMORY

-- what one turn does
abbrev pub Turns : Turn → Bool → Limits → Cursor → Cursor → List ℕ → (List Event → Type 0) → (List Event → Type 0) → Type 0
Turns (Behind rest) ended limits old new bytes before after = (length rest.now < length bytes) × GoesOn ended limits old new bytes rest.now before after
Turns Unfinished ended limits old new bytes before after = Reaches ended limits old new bytes bytes before after
Turns (Stopped fault) ended limits old new bytes before after = Breaks ended limits old bytes before after fault

-- The bytes at such a place are the open comment or instruction that is kept, of which so many bytes came.
pub record IsInside (position : Position) (held : Inside) (bytes : List ℕ) : Type 0 where
  pub aside : open_aside position bytes ≡ Some held.aside
  pub came : length bytes ≡ held.came

-- what the code found: the open comment or instruction that the bytes are, if they are one
abbrev pub InsideOf : Position → Option Inside → List ℕ → Type 0
InsideOf position None bytes = open_aside position bytes ≡ None
InsideOf position (Some held) bytes = IsInside position held bytes

-- how many bytes of what isn't whole are kept
abbrev pub kept_len : Option Inside → ℕ → ℕ
kept_len None n = n
kept_len (Some held) n = 0

-- The comment or instruction is open behind all bytes, within the limit.
pub record StaysInside (ended : Bool) (limits : Limits) (old new : Cursor) (held : Inside) (bytes : List ℕ) (before after : List Event → Type 0) : Type 0 where
  pub same : new ≡ old
  pub is : read ended limits old.open_elements old.place 0 bytes ≡ record { events = []; stands = waits old.open_elements old.place bytes }
  pub inside : IsInside old.open_elements.position held bytes
  pub within : old.place + held.came ≤ limits.bytes
  pub told : TakesAll [] before after

-- what one turn inside a comment or instruction does, by all its bytes
abbrev pub AsideTurns : Turn → Bool → Limits → Cursor → Cursor → Inside → List ℕ → (List Event → Type 0) → (List Event → Type 0) → Type 0
AsideTurns (Behind rest) ended limits old new held bytes before after = GoesOn ended limits old new bytes rest.now before after
AsideTurns Unfinished ended limits old new held bytes before after = StaysInside ended limits old new held bytes before after
AsideTurns (Stopped fault) ended limits old new held bytes before after = Breaks ended limits old bytes before after fault

-- what is kept before a fault: where reading stands before the rest, or inside a comment or instruction
abbrev pub kept_going : Option Inside → Cursor → List ℕ → Kept
kept_going None cursor rest = keeping.waits cursor.open_elements cursor.place rest
kept_going (Some held) cursor rest = keeping.inside cursor.open_elements cursor.place held.came held.aside

-- The bytes are those of which this is kept.
abbrev pub IsKeptOf : Option Inside → Cursor → List ℕ → List ℕ → Type 0
IsKeptOf held cursor rest bytes = kept_by cursor.open_elements cursor.place bytes (open_aside cursor.open_elements.position bytes) ≡ kept_going held cursor rest

-- Reading stands before the rest, which was searched and is no comment or instruction.
pub record IsWaiting (limits : Limits) (cursor : Cursor) (rest : List ℕ) : Type 0 where
  pub at : IsAt limits cursor rest
  pub searched : IsSearched cursor.search rest
  pub other : open_aside cursor.open_elements.position rest ≡ None

-- Reading stands inside a comment or instruction, of which no byte is kept: some bytes are the one of which this is.
pub record StandsInside (limits : Limits) (held : Inside) (cursor : Cursor) (rest : List ℕ) : Type 0 where
  pub none : rest ≡ []
  pub within : cursor.place + held.came ≤ limits.bytes
  pub bytes : List ℕ
  pub inside : IsInside cursor.open_elements.position held bytes

-- the one or the other
abbrev pub IsGoing : Limits → Option Inside → Cursor → List ℕ → Type 0
IsGoing limits None cursor rest = IsWaiting limits cursor rest
IsGoing limits (Some held) cursor rest = StandsInside limits held cursor rest

-- All was read but what is left, of which this is kept.
pub record Leaves (ended : Bool) (limits : Limits) (old new : Cursor) (bytes : List ℕ) (held : Option Inside) (rest : List ℕ)
    (before after : List Event → Type 0) : Type 0 where
  pub events : List Event
  pub left : List ℕ
  pub is : read ended limits old.open_elements old.place 0 bytes ≡ record { events = events; stands = waits new.open_elements new.place left }
  pub told : TakesAll events before after
  pub kept : IsKeptOf held new rest left
  pub going : IsGoing limits held new rest
