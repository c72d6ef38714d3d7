-- The faults of loading a rule file with its parts, and when each is answered.
use Rattle.std.specs.Prelude.{◌≡◌, ℕ, List, chars, encode_utf8_all, Some, None, Err}
use Rattle.std.proofs.Common.{◌⊎◌}
use Rattle.inv_base.specs.Counts.{Rose}
use Rattle.inv_base.specs.Outside.{ShelfView}
use Rattle.xml_state.specs.declared.fault.XmlFault.{XmlFault}
use Rattle.xml_document.specs.Loading.{IsRefused, StopsInTime}
use Rattle.xml_document.specs.declared.loading.LoadFault.{LoadFault as FileFault}
use Rattle.xml_document.specs.declared.loading.LoadFault.TheVariants as file_faults
use Rattle.xml_state.specs.Sizes.{rule_limits}
use Rattle.rule_library.specs.Readings.{Fault, Readings, gives}
use Rattle.rule_library.specs.Leads.{told_under, Reaches, Stops}
use Rattle.rule_library.specs.declared.faults.LoadFault.{LoadFault}
use Rattle.rule_library.specs.declared.faults.LoadKind.{LoadKind}
use Rattle.rule_library.specs.declared.faults.LoadKind.TheVariants as kinds

-- a fault as it is answered
abbrev pub told : Fault → LoadFault
told fault = record { kind = fault.kind; file = Some (chars fault.file); place = record { byte = fault.place } }

-- the fault of want of memory, which is of no file
abbrev pub want_of_memory : LoadFault
want_of_memory = record { kind = kinds.Memory; file = None; place = record { byte = 0 } }

-- the fault of a file that couldn't be read, or isn't a document under the limits
abbrev pub unread : List ℕ → Fault
unread name = record { kind = kinds.Read; file = name; place = 0 }

abbrev pub malformed : List ℕ → XmlFault → Fault
malformed name fault = record { kind = kinds.Xml fault.kind; file = name; place = fault.place.byte }

-- The fault is this one, and the name of its file is a text: the bytes of its characters.
pub record Tells (fault : LoadFault) (wanted : Fault) : Type 0 where
  pub is : fault ≡ told wanted
  pub text : encode_utf8_all (chars wanted.file) ≡ wanted.file

-- The same, or memory ran out over it.
abbrev pub TellsOf : LoadFault → Fault → Type 0
TellsOf fault wanted = Tells fault wanted ⊎ (fault ≡ want_of_memory)

-- The same of the fault of a file that was asked for.
abbrev pub TellsOfFile : List ℕ → FileFault → LoadFault → Type 0
TellsOfFile name file_faults.Read fault = TellsOf fault (unread name)
TellsOfFile name (file_faults.Refused wrong) fault = TellsOf fault (malformed name wrong)
TellsOfFile name file_faults.Memory fault = fault ≡ want_of_memory

-- The kinds of a fault at an element or a text.
abbrev pub IsOfANode : LoadKind → Type 0
IsOfANode kinds.Read = ⊥
IsOfANode (kinds.Xml kind) = ⊥
IsOfANode kinds.Memory = ⊥
IsOfANode _ = Unit {0}

-- The file that was opened last isn't a document, for this first fault, and no more of it was read than must be.
pub record IsMalformed (first : Readings) (fault : XmlFault) (before after : ShelfView) : Type 0 where
  pub stops : Stops first before after
  pub quiet : after.faults ≡ before.faults
  pub refused : IsRefused rule_limits (told_under stops.name before.held) fault
  pub in_time : StopsInTime rule_limits (told_under stops.name before.held) after.left

-- Why a fault is answered: the readings give it; the file that was opened last couldn't be read, where the shelf's count
-- of faults rose; it isn't a document; or memory ran out, somewhere on the way.
pub data Fails (first : Readings) (fault : LoadFault) (before after : ShelfView) : Type 0 where
  given : (wrong : Fault) → IsOfANode wrong.kind → Tells fault wrong → Reaches first (gives (Err wrong)) before after → Fails first fault before after
  unreadable : (stops : Stops first before after) → Tells fault (unread stops.name) → Rose before.faults after.faults → Fails first fault before after
  no_document : (wrong : XmlFault) (is : IsMalformed first wrong before after) → Tells fault (malformed is.stops.name wrong) → Fails first fault before after
  full_between : (others : Readings) → fault ≡ want_of_memory → Reaches first others before after → Fails first fault before after
  full_inside : fault ≡ want_of_memory → Stops first before after → Fails first fault before after
