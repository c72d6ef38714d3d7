-- Bytes that can begin a JSON text.
use Rattle.std.specs.Prelude.{◌≡◌, ℕ, ◌+◌, ◌<◌, List, ◌++◌, length, take, Ok}
use Rattle.json_reading.specs.declared.item.Item.{Item}
use Rattle.json_reading.specs.Reading.{reading_whole}

-- The text is one, with so many objects and arrays inside one another at most.
abbrev pub IsRead : ℕ → List ℕ → Type 0
IsRead deepest bytes = (items : List Item) × (reading_whole deepest bytes ≡ Ok items)

-- A text goes on behind them.
abbrev pub CanBegin : ℕ → List ℕ → Type 0
CanBegin deepest bytes = (more : List ℕ) × IsRead deepest (bytes ++ more)

-- So many bytes can begin a text, and with the next one they can't.
abbrev pub IsFirstRefused : ℕ → List ℕ → ℕ → Type 0
IsFirstRefused deepest bytes count =
    (count < length bytes) × CanBegin deepest (take count bytes) × ¬ (CanBegin deepest (take (count + 1) bytes))
