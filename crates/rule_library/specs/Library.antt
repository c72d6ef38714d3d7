-- A rule file with its parts: the joined document, and whose place each place of it is.
use Rattle.std.specs.Prelude.{◌≡◌, ℕ, suc, ◌-◌, true, false, List, [], ◌∷◌, map, Option, Some, None, nat_lt, Ok}
use Rattle.inv_base.specs.Outside.{ShelfView}
use Rattle.inv_base.specs.declared.place.Place.{Place}
use Rattle.node_arena.specs.Document.{Document}
use Rattle.rule_library.specs.Readings.{File, State, Readings, gives}
use Rattle.rule_library.specs.Leads.{Reaches}

-- a file by its name and how many bytes it has
pub record Named : Type 0 where
  pub name : List ℕ
  pub length : ℕ

pub record Held : Type 0 where
  pub document : Document
  pub files : List Named

abbrev pub named : File → Named
named file = record { name = file.name; length = file.length }

-- what is joined, with the files that it is joined of
abbrev pub held_of : State → Held
held_of s = record { document = record { nodes = s.joined.built.nodes; names = s.joined.names }; files = map named s.files }

-- a place in a file, by the file's number
pub record Home : Type 0 where
  pub file : ℕ
  pub place : ℕ

abbrev pub name_of : Named → List ℕ
name_of file = file.name

-- the same, as it is answered
abbrev pub home_of : (ℕ × Place) → Home
home_of home = record { file = home.0; place = home.1.byte }

-- The file of a place among files that stand one behind another, the first of them with the number, and the place in it.
abbrev pub home_from : ℕ → List Named → ℕ → Option Home
home_from k [] place = None
home_from k (file ∷ files) place = elim (nat_lt place file.length) [
  | true ↦ Some (record { file = k; place = place })
  | false ↦ home_from (suc k) files (place - file.length)
]

-- The readings give what was loaded.
pub record Loads (first : Readings) (held : Held) (before after : ShelfView) : Type 0 where
  pub state : State
  pub reaches : Reaches first (gives (Ok state)) before after
  pub is : held ≡ held_of state
