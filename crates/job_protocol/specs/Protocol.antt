-- What a job does: it reads files one after another, each by what the files before it hold, and ends with an answer.
use Rattle.std.specs.Prelude.{ℕ, suc, nat_le, Bool, true, false, List, [], length, Option, Some, None, Result, Ok, Err}
use Rattle.inv_base.specs.Files.{Files, bytes_under}
use Rattle.xml_state.specs.declared.fault.XmlFault.{XmlFault}
use Rattle.xml_state.specs.declared.limits.Limits.{Limits}
use Rattle.xml_state.specs.Sizes as sizes
use Rattle.xml_profile.specs.Profile.{document}
use Rattle.xml_profile.specs.Profile as profile
use Rattle.code_lists.specs.declared.fault.ListFault.{ListFault}
use Rattle.code_lists.specs.CodeFiles.{Lists, file_lists}
use Rattle.job_protocol.specs.declared.status.Status.{Status}
use Rattle.job_protocol.specs.declared.status.Status.TheVariants as statuses
use Rattle.job_protocol.specs.Lines.{document_line, list_line, too_long_line}

-- the status, and the bytes for the output and for the error output
pub record Answer : Type 0 where
  pub status : Status
  pub out : List ℕ
  pub err : List ℕ

abbrev pub done : List ℕ → Answer
done text = record { status = statuses.Done; out = text; err = [] }

-- a status with its line, and nothing for the output
abbrev pub refusal : Status → List ℕ → Answer
refusal status line = record { status = status; out = []; err = line }

pub data Protocol : Type 0 where
  -- what is answered
  ends : Answer → Protocol
  -- a document, under limits: what is answered where it is refused, and what follows by the bytes of its file and what it
  -- is
  loads : Limits → List ℕ → (XmlFault → Answer) → (List ℕ → profile.Document → Protocol) → Protocol
  -- a file that is taken whole, of at most so many bytes: what is answered where it is longer, and what follows by its
  -- bytes
  takes : ℕ → List ℕ → Answer → (List ℕ → Protocol) → Protocol

abbrev pub by_result : {T E A : Type 0} → (E → A) → (T → A) → Result T E → A
by_result fails goes (Ok t) = goes t
by_result fails goes (Err e) = fails e

abbrev pub by_test : {A : Type 0} → A → A → Bool → A
by_test fails goes true = goes
by_test fails goes false = fails

abbrev pub is_within : ℕ → List ℕ → Bool
is_within limit bytes = nat_le (length bytes) limit

-- what is answered where the files hold this
abbrev pub answer_of : Protocol → Files → Answer
answer_of (ends answer) files = answer
answer_of (loads limits name refused next) files =
    by_result refused (λ found. answer_of (next (bytes_under name files) found) files) (document limits (bytes_under name files))
answer_of (takes limit name too_long next) files =
    by_test too_long (answer_of (next (bytes_under name files)) files) (is_within limit (bytes_under name files))

-- how many files are opened until then
abbrev pub readings : Protocol → Files → ℕ
readings (ends answer) files = 0
readings (loads limits name refused next) files =
    suc (by_result (λ fault. 0) (λ found. readings (next (bytes_under name files) found) files) (document limits (bytes_under name files)))
readings (takes limit name too_long next) files = suc (by_test 0 (readings (next (bytes_under name files)) files) (is_within limit (bytes_under name files)))

-- a file at which the job stops: a document that is refused, or a file that is longer than it may be
pub data Stop : Type 0 where
  at_fault : Limits → List ℕ → Stop
  past_limit : ℕ → List ℕ → Stop

abbrev pub stopped_at : Protocol → Files → Option Stop
stopped_at (ends answer) files = None
stopped_at (loads limits name refused next) files =
    by_result (λ fault. Some (at_fault limits name)) (λ found. stopped_at (next (bytes_under name files) found) files)
    (document limits (bytes_under name files))
stopped_at (takes limit name too_long next) files =
    by_test (Some (past_limit limit name)) (stopped_at (next (bytes_under name files)) files) (is_within limit (bytes_under name files))

-- ---- the files of a job

-- how large a document may be
abbrev pub document_limits : Limits
document_limits = sizes.document_limits

-- how large a file of code lists may be
abbrev pub list_limit : ℕ
list_limit = 4194304

-- a document by its name, and what follows by the bytes of its file and what it is: so what is answered may tell a place
-- in the file by its line
abbrev pub told_protocol : List ℕ → (List ℕ → profile.Document → Protocol) → Protocol
told_protocol name next = loads document_limits name (λ fault. refusal statuses.DocumentRefused (document_line name fault)) next

-- a document by its name, and what follows by what it is
abbrev pub document_protocol : List ℕ → (profile.Document → Protocol) → Protocol
document_protocol name next = told_protocol name (λ bytes found. next found)

-- a file by its name that is taken whole, as large as a file of code lists may be, and what follows by its bytes
abbrev pub taken_protocol : List ℕ → (List ℕ → Protocol) → Protocol
taken_protocol name next = takes list_limit name (refusal statuses.RulesRefused (too_long_line name)) next

-- what follows by the lists of a file, or its refusal
abbrev pub by_lists : List ℕ → (Lists → Protocol) → Result Lists ListFault → Protocol
by_lists name next found = by_result (λ fault. ends (refusal statuses.RulesRefused (list_line name fault))) next found

-- a file of code lists by its name, and what follows by its lists
abbrev pub lists_protocol : List ℕ → (Lists → Protocol) → Protocol
lists_protocol name next = taken_protocol name (λ bytes. by_lists name next (file_lists bytes))
