-- What the code keeps while it reads a pattern, as a state of the machine over parts.
use Rattle.std.specs.Prelude.{ℕ, suc, Bool, true, false, List, [], ◌∷◌, Option, Some, None}
use Rattle.xsd_pattern.specs.declared.machine.State as code
use Rattle.xsd_pattern.specs.declared.parts.Part.{Part}
use Rattle.xsd_pattern.specs.declared.token.Class.{Class}
use Rattle.xsd_pattern.specs.declared.token.Token.{Token}
use Rattle.xsd_pattern.specs.declared.token.Token.TheVariants.{Item, Quantifier, Opens, Closes, Bar, Begins, Ends}
use Rattle.xsd_pattern.specs.Machine.{State, at}

abbrev pub seen : code.State → State Part Part Part Part
seen s = at s.lines s.starts s.frames s.before s.branch s.last

abbrev pub only_if : {X : Type 0} → Bool → X → Option X
only_if true x = Some x
only_if false x = None

-- a token whose class is named by its place
abbrev pub placed : ℕ → Token Class → Token (Option ℕ)
placed place (Item class) = Item (Some place)
placed place (Quantifier q) = Quantifier q
placed place Opens = Opens
placed place Closes = Closes
placed place Bar = Bar
placed place Begins = Begins
placed place Ends = Ends

abbrev pub placed_from : ℕ → List (Token Class) → List (Token (Option ℕ))
placed_from place [] = []
placed_from place (token ∷ tokens) = placed place token ∷ placed_from (suc place) tokens
