-- What contracts see of a reader, and what its calls answer and tell. They speak of all bytes that it was given, in
-- whatever pieces; what they say of a receiver holds of one that has taken what the calls before told, behind any first
-- events.
use Rattle.std.specs.Prelude.{◌≡◌, ◌≢◌, ℕ, List, [], ◌++◌, Option, Some, None, Result, MatchResult}
use Rattle.inv_base.specs.Tree.{Name}
use Rattle.xml_events.specs.Events.{Event, with_events}
use Rattle.xml_state.specs.declared.limits.Limits.{Limits}
use Rattle.xml_state.specs.declared.fault.TheConstants.XmlFault.{WANT_OF_MEMORY}
use Rattle.xml_state.specs.declared.fault.XmlFault.{XmlFault}
use Rattle.xml_state.specs.States.{begin}
use Rattle.xml_profile.specs.TokenByToken.{read_front, read_whole}
use Rattle.xml_profile.specs.Profile.{first_fault, names_of}
use Rattle.xml_profile.specs.Keeping.{Kept, waits, kept_of, fault_of_kept, bytes_kept}

-- its limits, and where it stands, by what it keeps: where memory has run out, at want of memory
pub record Progress : Type 0 where
  pub limits : Limits
  pub stands : Kept

-- a reader that was given nothing
abbrev pub unread : Limits → Progress
unread limits = record { limits = limits; stands = waits begin 0 [] }

-- The reader was given these bytes, and found memory: it stands where they lead.
pub record HasRead (reader : Progress) (fed : List ℕ) : Type 0 where
  pub stands : reader.stands ≡ kept_of (read_front reader.limits fed).stands

-- the fault at which a reader stands, which each call answers
abbrev pub fault_of_reader : Progress → Option XmlFault
fault_of_reader reader = fault_of_kept reader.stands

-- how many bytes of the input a reader keeps
abbrev pub kept : Progress → ℕ
kept reader = bytes_kept reader.stands

-- The reader hasn't run out of memory.
abbrev pub HasMemory : Progress → Type 0
HasMemory reader = fault_of_reader reader ≢ Some WANT_OF_MEMORY

-- The answer is the fault where there is one.
abbrev pub Answers : {T : Type 0} → Result T XmlFault → Option XmlFault → Type 0
Answers result fault = MatchResult result (λ _. fault ≡ None) (λ f. fault ≡ Some f)

-- A receiver that had taken the events behind any first ones has now taken the others behind these.
abbrev pub Moves : List Event → List Event → (List Event → Type 0) → (List Event → Type 0) → Type 0
Moves events others before after = (first : List Event) → before (with_events first events) → after (with_events first others)

-- A receiver that had taken the events has now taken a front of the others.
pub record MovesWithin (events others : List Event) (before after : List Event → Type 0) : Type 0 where
  pub front : List Event
  pub behind : List Event
  pub is : others ≡ front ++ behind
  pub moves : Moves events front before after

-- What a call to feed tells a receiver: a front of what all bytes tell so far, and all of it unless memory ran out.
pub record Tells (reader : Progress) (fed more : List ℕ) (before after : List Event → Type 0) : Type 0 where
  pub within : MovesWithin (read_front reader.limits fed).events (read_front reader.limits more).events before after
  pub all : HasMemory reader → Moves (read_front reader.limits fed).events (read_front reader.limits more).events before after

-- The bytes are a document, of these names, and all that it tells was taken.
pub record Finishes (limits : Limits) (fed : List ℕ) (names : List Name) (before after : List Event → Type 0) : Type 0 where
  pub document : first_fault limits fed ≡ None
  pub named : names ≡ names_of (read_whole limits fed).stands
  pub told : Moves (read_front limits fed).events (read_whole limits fed).events before after

-- The bytes have this first fault, and what stands before it was taken; or memory ran out.
pub data Fails (limits : Limits) (fed : List ℕ) (before after : List Event → Type 0) : XmlFault → Type 0 where
  of_document : (fault : XmlFault) → first_fault limits fed ≡ Some fault → Moves (read_front limits fed).events (read_whole limits fed).events before after
      → Fails limits fed before after fault
  of_memory : MovesWithin (read_front limits fed).events (read_whole limits fed).events before after → Fails limits fed before after WANT_OF_MEMORY

-- what a call to finish answers and tells, of all bytes
abbrev pub Ends : {T : Type 0} → (T → List Name) → Result T XmlFault → Limits → List ℕ → (List Event → Type 0) → (List Event → Type 0) → Type 0
Ends names_of_table result limits fed before after = MatchResult result
    (λ table. Finishes limits fed (names_of_table table) before after)
    (λ fault. Fails limits fed before after fault)
