-- What a JSON text (RFC 8259) says: its values with their places, or the first fault, byte by byte.
use Rattle.std.specs.Prelude.{ℕ, ◌+◌, ◌-◌, zero, suc, Bool, true, false, nat_lt, nat_le, List, [], ◌∷◌, ◌++◌, length, take, Option, Some, None, Result, Ok}
use Rattle.std.specs.Prelude.{Err, if◌then◌else◌, slice_set}
use Rattle.json_reading.specs.declared.fault.JsonFault.{JsonFault}
use Rattle.json_reading.specs.declared.fault.JsonKind.{JsonKind}
use Rattle.json_reading.specs.declared.fault.JsonKind.TheVariants.{NotJson, TooDeep, Truncated, TooLong}
use Rattle.json_reading.specs.declared.item.Container.{Container}
use Rattle.json_reading.specs.declared.item.Container.TheVariants as container
use Rattle.json_reading.specs.declared.item.Item.{Item}
use Rattle.json_reading.specs.declared.item.ItemKind.{ItemKind}
use Rattle.json_reading.specs.declared.item.ItemKind.TheVariants as kinds
use Rattle.json_reading.specs.declared.item.Span.{Span}
use Rattle.json_reading.specs.declared.mode.Form.{Form}
use Rattle.json_reading.specs.declared.mode.Mode.{Mode}
use Rattle.json_reading.specs.declared.mode.Mode.TheVariants as mode
use Rattle.json_reading.specs.declared.mode.NumberMode.{NumberMode}
use Rattle.json_reading.specs.declared.mode.Turn.{Turn}
use Rattle.json_reading.specs.declared.mode.Turn.TheVariants.{Goes, Stops, Names, Tells, Begins, Closes}
use Rattle.json_reading.specs.declared.reader.Open.{Open}
use Rattle.json_reading.specs.Numbers.{form_behind, is_whole}
use Rattle.json_reading.specs.Turns.{turn}

-- How far a text is read: what comes next, the name of the value to come, the objects and arrays whose ends aren't read, the
-- innermost first, and the items so far. Those of open objects and arrays are as their brackets begin them.
pub record State : Type 0 where
  pub mode : Mode
  pub name : Option Span
  pub around : List Open
  pub items : List Item

-- nothing is read
abbrev pub start : State
start = record { mode = mode.Start; name = None; around = []; items = [] }

abbrev pub fault : JsonKind → ℕ → JsonFault
fault kind at = record { kind = kind; at = at }

abbrev pub kind_of : Container → ItemKind
kind_of container.Object = kinds.Object
kind_of container.Array = kinds.Array

-- what comes behind the opening bracket
abbrev pub first_of : Container → Mode
first_of container.Object = mode.FirstMember
first_of container.Array = mode.FirstItem

abbrev pub span : ℕ → ℕ → Span
span at end = record { at = at; end = end; escaped = false }

abbrev pub innermost : List Open → Option Container
innermost [] = None
innermost (o ∷ around) = Some o.container

-- ---- numbers, whose end shows at what is behind them

abbrev pub has_ended_by : Form → Option Form → Bool
has_ended_by form (Some next) = false
has_ended_by form None = is_whole form

-- whether a number has ended before the next byte, or at the end of the text
abbrev pub has_ended : Form → Option ℕ → Bool
has_ended form (Some b) = has_ended_by form (form_behind form b)
has_ended form None = is_whole form

abbrev pub if_ended : NumberMode → Option ℕ → Option NumberMode
if_ended number next = if has_ended number.form next then Some number else None

unfoldable pub number_ended : Mode → Option ℕ → Option NumberMode
number_ended (mode.Number number) next = if_ended number next
number_ended _ next = None

-- a value without values inside has been read
abbrev pub told : ItemKind → Span → State → State
told kind value s = record {
  mode = mode.Behind;
  name = None;
  around = s.around;
  items = s.items ++ record { kind = kind; name = s.name; value = value; inside = 0 } ∷ [];
}

abbrev pub settled_by : ℕ → State → Option NumberMode → State
settled_by at s (Some number) = told kinds.Number (span number.start at) s
settled_by at s None = s

-- a number that doesn't go on has been read
abbrev pub settled : ℕ → Option ℕ → State → State
settled at next s = settled_by at s (number_ended s.mode next)

-- ---- objects and arrays

abbrev pub head : ℕ → Container → Option Span → Item
head at c name = record { kind = kind_of c; name = name; value = span at (at + 1); inside = 0 }

-- one begins
abbrev pub begun : ℕ → Container → State → State
begun at c s = record {
  mode = first_of c;
  name = None;
  around = record { container = c; index = length s.items; head = head at c s.name } ∷ s.around;
  items = s.items ++ head at c s.name ∷ [];
}

abbrev pub begun_within : ℕ → ℕ → Container → State → Result State JsonFault
begun_within deepest at c s = if nat_lt (length s.around) deepest then Ok (begun at c s) else Err (fault TooDeep at)

-- the item of one that ends with the byte at the place, where there are so many items
abbrev pub whole : ℕ → Open → ℕ → Item
whole at o count = record { kind = o.head.kind; name = o.head.name; value = span o.head.value.at (at + 1); inside = count - o.index - 1 }

abbrev pub put : List Item → ℕ → Item → List Item
put items index item = slice_set items index item

abbrev pub closed_by : ℕ → State → List Open → Result State JsonFault
closed_by at s [] = Err (fault NotJson at)
closed_by at s (o ∷ around) = Ok (record { mode = mode.Behind; name = s.name; around = around; items = put s.items o.index (whole at o (length s.items)) })

-- the innermost ends
abbrev pub closed : ℕ → State → Result State JsonFault
closed at s = closed_by at s s.around

-- ---- reading

-- does what a byte does
unfoldable pub act : ℕ → ℕ → Turn → State → Result State JsonFault
act deepest at (Goes mode) s = Ok (record { mode = mode; name = s.name; around = s.around; items = s.items })
act deepest at (Stops f) s = Err f
act deepest at (Names name) s = Ok (record { mode = mode.Colon; name = Some name; around = s.around; items = s.items })
act deepest at (Tells kind value) s = Ok (told kind value s)
act deepest at (Begins c) s = begun_within deepest at c s
act deepest at Closes s = closed at s

abbrev pub turned : ℕ → ℕ → ℕ → State → Result State JsonFault
turned deepest at b s = act deepest at (turn at b s.mode (innermost s.around)) s

-- the byte at a place is read, where so many objects and arrays may be inside one another
unfoldable pub step : ℕ → ℕ → ℕ → State → Result State JsonFault
step deepest at b s = turned deepest at b (settled at (Some b) s)

-- bytes are read, the first of them at a place
abbrev pub run : ℕ → ℕ → List ℕ → State → Result State JsonFault
run deepest at [] s = Ok s
run deepest at (b ∷ bytes) s = elim (step deepest at b s) [ Ok next ↦ run deepest (suc at) bytes next | Err f ↦ Err f ]

-- whether nothing is open around a place
abbrev pub is_top : Option Container → Bool
is_top None = true
is_top (Some c) = false

-- whether a value has been read, and none is open around it
unfoldable pub is_behind : Mode → Option Container → Bool
is_behind mode.Behind innermost = is_top innermost
is_behind _ innermost = false

abbrev pub ended_by : ℕ → State → Result (List Item) JsonFault
ended_by at s = if is_behind s.mode (innermost s.around) then Ok s.items else Err (fault Truncated at)

-- the text ends at the place
abbrev pub ended : ℕ → State → Result (List Item) JsonFault
ended at s = ended_by at (settled at None s)

abbrev pub ended_behind : ℕ → Result State JsonFault → Result (List Item) JsonFault
ended_behind at (Ok s) = ended at s
ended_behind at (Err f) = Err f

abbrev pub cut_behind : ℕ → Result State JsonFault → Result (List Item) JsonFault
cut_behind at (Ok s) = Err (fault TooLong at)
cut_behind at (Err f) = Err f

-- the values of a text that isn't too long, or its first fault
abbrev pub reading_whole : ℕ → List ℕ → Result (List Item) JsonFault
reading_whole deepest bytes = ended_behind (length bytes) (run deepest 0 bytes start)

-- the first fault of a text that begins with these bytes, and is too long
abbrev pub reading_front : ℕ → List ℕ → Result (List Item) JsonFault
reading_front deepest bytes = cut_behind (length bytes) (run deepest 0 bytes start)

-- The values of a text, or its first fault, where so many bytes are allowed, and so many objects and arrays inside one another. Of a
-- longer text only as many bytes are looked at.
unfoldable pub reading : ℕ → ℕ → List ℕ → Result (List Item) JsonFault
reading longest deepest bytes =
    if nat_le (length bytes) longest then reading_whole deepest bytes else reading_front deepest (take longest bytes)
