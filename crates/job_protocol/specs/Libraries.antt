-- A rule file with the parts that it takes of other files, as a protocol of readings.
use Rattle.std.specs.Prelude.{◌≡◌, ℕ, Bool, true, false, List, length, encode_utf8_all, Option, Some, None, Result}
use Rattle.inv_base.specs.Outside.{SinkView}
use Rattle.inv_base.specs.declared.place.Place.{Place}
use Rattle.xml_state.specs.Sizes.{rule_limits}
use Rattle.rule_library.specs.Readings.{State, Fault, Readings, gives, reads}
use Rattle.rule_library.specs.Walk.{library}
use Rattle.rule_library.specs.Library.{Held, held_of}
use Rattle.rule_library.specs.declared.faults.LoadKind.{LoadKind}
use Rattle.rule_library.specs.declared.faults.LoadKind.TheVariants as kinds
use Rattle.rule_library.specs.declared.faults.LoadFault.{LoadFault}
use Rattle.job_protocol.specs.declared.status.Status.{Status}
use Rattle.job_protocol.specs.declared.status.Status.TheVariants as statuses
use Rattle.job_protocol.specs.Protocol.{Protocol, ends, loads, refusal, by_result}
use Rattle.job_protocol.specs.Lines.{read_fault_line, document_line, load_line}
use Rattle.job_protocol.specs.Outside.{TakesOrFails}

-- what follows by what is given behind readings, each of a document under the limits of rule files
abbrev pub library_by : Readings → (Result State Fault → Protocol) → Protocol
library_by (gives result) next = next result
library_by (reads name more) next =
    loads rule_limits name (λ fault. refusal statuses.RulesRefused (document_line name fault)) (λ content found. library_by (more (length content) found) next)

-- what follows by what is joined, or the refusal of what can't be
abbrev pub by_joined : (Held → Protocol) → Result State Fault → Protocol
by_joined next found = by_result (λ fault. ends (refusal statuses.RulesRefused (load_line fault))) (λ joined. next (held_of joined)) found

-- the rule file of that name with its parts, each file being read when it is first asked for, and what follows by it
unfoldable pub library_protocol : List ℕ → (Held → Protocol) → Protocol
library_protocol name next = library_by (library name) (by_joined next)

-- ---- what the code has

abbrev pub is_unread : LoadKind → Bool
is_unread kinds.Read = true
is_unread _ = false

-- The status of a file that can't be read, or that is at fault, whose line was told.
abbrev pub IsRefusedFile : Bool → Fault → Status → SinkView → SinkView → Type 0
IsRefusedFile true fault status before after = (status ≡ statuses.ReadFault) × TakesOrFails (read_fault_line fault.file) before after
IsRefusedFile false fault status before after = (status ≡ statuses.RulesRefused) × TakesOrFails (load_line fault) before after

-- a fault at a place of a file, by the characters of its name
abbrev pub fault_named : LoadKind → List ℕ → Place → Fault
fault_named kind file place = record { kind = kind; file = encode_utf8_all file; place = place.byte }

-- The status of a fault, whose line was told; want of memory, which is of no file, has none.
abbrev pub IsLoadRefusal : Option (List ℕ) → LoadFault → Status → SinkView → SinkView → Type 0
IsLoadRefusal None fault status before after = (status ≡ statuses.Memory) × (after ≡ before)
IsLoadRefusal (Some file) fault status before after = IsRefusedFile (is_unread fault.kind) (fault_named fault.kind file fault.place) status before after
