-- Reading token by token: what tokens tell, and where reading stands behind them.
use Rattle.std.specs.Prelude.{ℕ, ◌+◌, zero, suc, pred, Bool, true, false, nat_le, List, [], ◌∷◌, ◌++◌, Some, None, if◌then◌else◌}
use Rattle.xml_state.specs.Faults.{fault_at}
use Rattle.xml_events.specs.Events.{Event}
use Rattle.xml_tokens.specs.declared.kind.XmlKind.{XmlKind}
use Rattle.xml_tokens.specs.declared.kind.XmlKind.TheVariants.{TooLong}
use Rattle.xml_state.specs.declared.fault.XmlFault.{XmlFault}
use Rattle.xml_state.specs.declared.limits.Limits.{Limits}
use Rattle.xml_tokens.specs.Beginnings.{good, bad, later, beginning, sure_length}
use Rattle.xml_state.specs.States.{State, begin, state_behind, events_of}
use Rattle.xml_state.specs.Admission.{fault_of}

-- Where reading stands: behind so many bytes in a state, with the bytes of what isn't a token yet, or at a fault.
pub data Standing : Type 0 where
  waits : State → ℕ → List ℕ → Standing
  stopped : XmlFault → Standing

-- what tokens tell, a text in as many pieces as it has tokens, and where reading stands behind them
pub record Read : Type 0 where
  pub events : List Event
  pub stands : Standing

-- the same behind events
abbrev pub telling : List Event → Read → Read
telling events r = record { events = events ++ r.events; stands = r.stands }

-- a fault at a place, where reading stops
abbrev pub stops_at : XmlKind → ℕ → Read
stops_at kind place = record { events = []; stands = stopped (fault_at kind place) }

-- a fault of what ends at a place, where that is within the limit; else the input is too long
abbrev pub fault_within : Limits → ℕ → XmlKind → ℕ → Read
fault_within limits end kind place = if nat_le end limits.bytes then stops_at kind place else stops_at TooLong limits.bytes

-- a place at which nothing begins yet
abbrev pub unfinished : Limits → State → ℕ → ℕ → List ℕ → Read
unfinished limits s place b bytes =
    if nat_le (place + sure_length b bytes) limits.bytes then record { events = []; stands = waits s place (b ∷ bytes) } else stops_at TooLong limits.bytes

-- what the bytes tell from a place on, behind so many bytes that belong to the token before, in an input that has ended
-- or may go on
unfoldable pub read : Bool → Limits → State → ℕ → ℕ → List ℕ → Read
read ended limits s place skip [] = record { events = []; stands = waits s place [] }
read ended limits s place (suc skip) (b ∷ bytes) = read ended limits s (place + 1) skip bytes
read ended limits s place zero (b ∷ bytes) = elim (beginning s.position ended (b ∷ bytes)) [
  | later ↦ unfinished limits s place b bytes
  | (bad kind n) ↦ fault_within limits (place + n) kind place
  | (good token n) ↦ elim (nat_le (place + n) limits.bytes) [
    | false ↦ stops_at TooLong limits.bytes
    | true ↦ elim (fault_of limits s token) [
      | (Some kind) ↦ stops_at kind place
      | None ↦ telling (events_of s token place) (read ended limits (state_behind s token) (place + 1) (pred n) bytes)
    ]
  ]
]

-- before the first byte
abbrev pub outset : Standing
outset = waits begin 0 []

-- what a further piece tells, from where reading stands; behind a fault nothing
unfoldable pub resume : Bool → Limits → Standing → List ℕ → Read
resume ended limits (waits s place rest) piece = read ended limits s place 0 (rest ++ piece)
resume ended limits (stopped fault) piece = record { events = []; stands = stopped fault }

-- what bytes tell that may go on
abbrev pub read_front : Limits → List ℕ → Read
read_front limits bytes = resume false limits outset bytes

-- what bytes tell that have ended
abbrev pub read_whole : Limits → List ℕ → Read
read_whole limits bytes = resume true limits outset bytes
