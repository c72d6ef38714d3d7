-- What the functions that read answer, by what the text says.
use Rattle.std.specs.Prelude.{◌≡◌, ◌⊎◌, ℕ, ◌+◌, List, [], ◌∷◌, drop, reverse, Result, Ok, Err, alloc_error}
use Rattle.std.specs.Global.{Vec}
use Rattle.std.specs.declared.alloc.AllocError.{AllocError}
use Rattle.json_reading.specs.declared.fault.JsonFault.{JsonFault}
use Rattle.json_reading.specs.declared.fault.JsonKind.TheVariants.{Memory}
use Rattle.json_reading.specs.declared.item.Item.{Item}
use Rattle.json_reading.specs.declared.reader.Reader.{Reader}
use Rattle.json_reading.specs.Reading.{State, run}

-- a reader as contracts see it
abbrev pub state_of : Reader → State
state_of r = record { mode = r.mode; name = r.name; around = reverse r.around.items; items = r.items.items }

-- The fault is the one that is read, unless memory ran out.
abbrev pub IsTold : {X : Type 0} → JsonFault → Result X JsonFault → Type 0
IsTold f read = (f.kind ≡ Memory) ⊎ (read ≡ Err f)

-- A call that changes a state leaves the one that is read, or tells the fault.
abbrev pub Follows : {X : Type 0} → Result X JsonFault → State → Result State JsonFault → Type 0
Follows (Ok x) new read = read ≡ Ok new
Follows (Err f) new read = IsTold f read

-- A call that took memory is told: want of it is the only fault.
abbrev pub Becomes : {X : Type 0} → Result X AllocError → Result X JsonFault → Type 0
Becomes (Ok x) (Ok y) = x ≡ y
Becomes (Ok x) (Err f) = Unit {0} → ⊥
Becomes (Err e) (Ok y) = Unit {0} → ⊥
Becomes (Err e) (Err f) = f.kind ≡ Memory

-- A call that reads answers the items that are read, or tells the fault.
abbrev pub Says : Result (Vec Item) JsonFault → Result (List Item) JsonFault → Type 0
Says (Ok items) read = read ≡ Ok items.items
Says (Err f) read = IsTold f read

-- A byte and so many behind it are read, or the fault is told that comes of all of them.
abbrev pub Runs : ℕ → ℕ → List ℕ → Result ℕ JsonFault → State → State → Type 0
Runs deepest at bytes (Ok len) old new = run deepest at bytes old ≡ run deepest (at + (len + 1)) (drop (len + 1) bytes) new
Runs deepest at bytes (Err f) old new = IsTold f (run deepest at bytes old)
