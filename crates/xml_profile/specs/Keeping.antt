-- What is kept of the bytes that were read: those of what isn't a token yet, but of a comment or a processing
-- instruction that hasn't ended no byte.
use Rattle.std.specs.Prelude.{ℕ, ◌+◌, List, length, Option, Some, None}
use Rattle.xml_tokens.specs.declared.asides.OpenAside.{OpenAside}
use Rattle.xml_tokens.specs.Asides.{open_aside}
use Rattle.xml_state.specs.declared.fault.XmlFault.{XmlFault}
use Rattle.xml_state.specs.States.{State}
use Rattle.xml_profile.specs.TokenByToken as reading
use Rattle.xml_profile.specs.TokenByToken.{Standing}

-- Where reading stands: behind so many bytes in a state, with the bytes of what isn't a token yet; there inside a
-- comment or an instruction of which so many bytes came, with what can still matter of them; or at a fault.
pub data Kept : Type 0 where
  waits : State → ℕ → List ℕ → Kept
  inside : State → ℕ → ℕ → OpenAside → Kept
  stopped : XmlFault → Kept

-- by the open comment or instruction that the bytes are, if they are one
abbrev pub kept_by : State → ℕ → List ℕ → Option OpenAside → Kept
kept_by s place rest None = waits s place rest
kept_by s place rest (Some aside) = inside s place (length rest) aside

-- what is kept of where reading stands
abbrev pub kept_of : Standing → Kept
kept_of (reading.waits s place rest) = kept_by s place rest (open_aside s.position rest)
kept_of (reading.stopped fault) = stopped fault

-- the fault at which reading stands
abbrev pub fault_of_kept : Kept → Option XmlFault
fault_of_kept (waits s place rest) = None
fault_of_kept (inside s place n aside) = None
fault_of_kept (stopped fault) = Some fault

-- how many bytes of the input are kept: those of what isn't a token yet, and none of a comment, of an instruction but
-- what may be the XML declaration, or behind a fault
abbrev pub bytes_kept : Kept → ℕ
bytes_kept (waits s place rest) = length rest
bytes_kept (inside s place n aside) = 0
bytes_kept (stopped fault) = 0

-- how many bytes were read, where no fault was found
abbrev pub bytes_taken : Kept → ℕ
bytes_taken (waits s place rest) = place + length rest
bytes_taken (inside s place n aside) = place + n
bytes_taken (stopped fault) = 0
