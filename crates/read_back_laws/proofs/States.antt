-- States of reading, and how bytes lead from one to another.
use Rattle.std.proofs.Common.{◌≡◌, ℕ, ◌+◌, Bool, List, ◌∷◌, Option, Ok, ap, sym, ◌∙◌, add-one}
use Rattle.json_reading.specs.declared.item.Item.{Item}
use Rattle.json_reading.specs.declared.item.Span.{Span}
use Rattle.json_reading.specs.declared.mode.Form.{Form}
use Rattle.json_reading.specs.declared.mode.Inside.{Inside}
use Rattle.json_reading.specs.declared.mode.Mode.{Mode}
use Rattle.json_reading.specs.declared.mode.Mode.TheVariants as mode
use Rattle.json_reading.specs.declared.mode.Role.{Role}
use Rattle.json_reading.specs.declared.reader.Open.{Open}
use Rattle.json_reading.specs.Reading.{State, step, run}
use Rattle.json_reading_laws.proofs.Steps.{run_ok}

abbrev pub state : Mode → Option Span → List Open → List Item → State
state m name around items = record { mode = m; name = name; around = around; items = items }

abbrev pub number : ℕ → Form → Mode
number start f = mode.Number (record { start = start; form = f })

abbrev pub text_mode : ℕ → Bool → Role → Inside → Mode
text_mode start escaped r i = mode.Text (record { start = start; escaped = escaped; role = r; inside = i })

-- One byte is read, and then the others.
pub one : (deepest at b : ℕ) (more : List ℕ) (s next : State) → step deepest at b s ≡ Ok next → run deepest at (b ∷ more) s ≡ run deepest (at + 1) more next
one deepest at b more s next h = run_ok deepest at b more s next h ∙ ap (λ n. run deepest n more next) (sym (add-one at))

-- the same state at another place
pub moved : (deepest at place : ℕ) (more : List ℕ) (s : State) → at ≡ place → run deepest at more s ≡ run deepest place more s
moved deepest at place more s e = ap (λ n. run deepest n more s) e
