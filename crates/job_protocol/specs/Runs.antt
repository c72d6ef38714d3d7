-- How a job is run by its protocol: each way in which it may end, with what it leaves.
use Rattle.std.specs.Prelude.{◌≡◌, ℕ, ◌≤◌, suc, true, false, List, [], Option, Some, Ok, Err}
use Rattle.std.proofs.Common.{◌⊎◌}
use Rattle.inv_base.specs.Counts.{Rose}
use Rattle.inv_base.specs.Files.{Files, bytes_under}
use Rattle.inv_base.specs.Outside.{ShelfView, SinkView, WhereTold, appended}
use Rattle.inv_base.specs.Writing.{IsFront, WritesAll, WritesFront}
use Rattle.code_lists.specs.CodeFiles.{Lists, file_lists}
use Rattle.code_lists.specs.declared.fault.ListFault.{ListFault}
use Rattle.code_lists.specs.declared.fault.ListFault.TheVariants as list_faults
use Rattle.xml_state.specs.declared.fault.XmlFault.{XmlFault}
use Rattle.xml_state.specs.declared.limits.Limits.{Limits}
use Rattle.xml_profile.specs.Profile.{document}
use Rattle.xml_profile.specs.Profile as profile
use Rattle.xml_document.specs.Loading.{StopsInTime}
use Rattle.xml_document.specs.Whole.{IsTooLong}
use Rattle.job_protocol.specs.declared.status.Status.{Status}
use Rattle.job_protocol.specs.declared.status.Status.TheVariants as statuses
use Rattle.job_protocol.specs.Protocol.{Answer, Protocol, ends, loads, takes, Stop, at_fault, past_limit, answer_of, readings, stopped_at, is_within}
use Rattle.job_protocol.specs.Protocol.{list_limit}
use Rattle.job_protocol.specs.Lines.{read_fault_line, list_line}
use Rattle.job_protocol.specs.Outside.{Outside, IsRefusedAnswer, IsAccepted, TakesOrFails, counted, HasRead, HasOpened}

-- The content is that of the file, where the files are told.
abbrev pub IsContentOf : Option Files → List ℕ → List ℕ → Type 0
IsContentOf held name content = WhereTold held (λ files. content ≡ bytes_under name files)

-- The lists are those of some content of the file, which is its own where the files are told.
pub record AreListed (held : Option Files) (name : List ℕ) (lists : Lists) : Type 0 where
  pub content : List ℕ
  pub of_file : IsContentOf held name content
  pub within : is_within list_limit content ≡ true
  pub are : file_lists content ≡ Ok lists

-- The status of a fault of code lists, whose line was told; want of memory has none.
abbrev pub IsListRefusal : ListFault → List ℕ → Status → SinkView → SinkView → Type 0
IsListRefusal list_faults.Memory name status before after = (status ≡ statuses.Memory) × (after ≡ before)
IsListRefusal fault name status before after = (status ≡ statuses.RulesRefused) × TakesOrFails (list_line name fault) before after

-- Behind so many readings the protocol ends with the answer, each file having some content, which is its own where the files are told.
pub data EndsIn (held : Option Files) : Protocol → ℕ → Answer → Type 0 where
  at_end : {answer : Answer} → EndsIn held (ends answer) 0 answer
  refused_at : {limits : Limits} {name : List ℕ} {refused : XmlFault → Answer} {next : List ℕ → profile.Document
      → Protocol} {content : List ℕ} {fault : XmlFault}
      → IsContentOf held name content → document limits content ≡ Err fault → EndsIn held (loads limits name refused next) 1 (refused fault)
  loaded : {limits : Limits} {name : List ℕ} {refused : XmlFault → Answer} {next : List ℕ → profile.Document →
      Protocol} {content : List ℕ} {found : profile.Document}
      {n : ℕ} {answer : Answer}
      → IsContentOf held name content → document limits content ≡ Ok found → EndsIn held (next content found) n answer
      → EndsIn held (loads limits name refused next) (suc n) answer
  too_long_at : {limit : ℕ} {name : List ℕ} {too_long : Answer} {next : List ℕ → Protocol} {content : List ℕ}
      → IsContentOf held name content → is_within limit content ≡ false → EndsIn held (takes limit name too_long next) 1 too_long
  taken : {limit : ℕ} {name : List ℕ} {too_long : Answer} {next : List ℕ → Protocol} {content : List ℕ} {n : ℕ} {answer : Answer}
      → IsContentOf held name content → is_within limit content ≡ true → EndsIn held (next content) n answer
      → EndsIn held (takes limit name too_long next) (suc n) answer

-- The file of this name is the one that is read then, counted from 1, where each file before it has some content, as above.
pub data ReadsAt (held : Option Files) : Protocol → ℕ → List ℕ → Type 0 where
  a_load : {limits : Limits} {name : List ℕ} {refused : XmlFault → Answer} {next : List ℕ → profile.Document → Protocol}
      → ReadsAt held (loads limits name refused next) 1 name
  a_taking : {limit : ℕ} {name : List ℕ} {too_long : Answer} {next : List ℕ → Protocol} → ReadsAt held (takes limit name too_long next) 1 name
  behind_load : {limits : Limits} {name : List ℕ} {refused : XmlFault → Answer} {next : List ℕ → profile.Document → Protocol} {content : List ℕ}
      {found : profile.Document} {n : ℕ} {file : List ℕ}
      → IsContentOf held name content → document limits content ≡ Ok found → ReadsAt held (next content found) n file
      → ReadsAt held (loads limits name refused next) (suc n) file
  behind_taking : {limit : ℕ} {name : List ℕ} {too_long : Answer} {next : List ℕ → Protocol} {content : List ℕ} {n : ℕ} {file : List ℕ}
      → IsContentOf held name content → is_within limit content ≡ true → ReadsAt held (next content) n file
      → ReadsAt held (takes limit name too_long next) (suc n) file

-- Of a document that is refused, at most one piece is read behind bytes that settle no fault yet; of a file that is too long, at most one behind its limit.
abbrev pub StopsThere : Stop → Files → Option (List ℕ) → Type 0
StopsThere (at_fault limits name) files left = StopsInTime limits (Some (bytes_under name files)) left
StopsThere (past_limit limit name) files left = IsTooLong limit (Some (bytes_under name files)) left

abbrev pub StopsAtFault : Protocol → Option Files → Option (List ℕ) → Type 0
StopsAtFault protocol held left = WhereTold held (λ files. (stop : Stop) → stopped_at protocol files ≡ Some stop → StopsThere stop files left)

-- The answer is a refusal: its line was told, and nothing written to the output.
pub record IsRefused (protocol : Protocol) (before after : Outside) (status : Status) : Type 0 where
  pub count : ℕ
  pub answer : Answer
  pub ends_in : EndsIn before.shelf.held protocol count answer
  pub told : answer.status ≡ status
  pub refuses : IsRefusedAnswer status
  pub empty : answer.out ≡ []
  pub read : HasRead count before.shelf after.shelf
  pub nothing : after.out ≡ before.out
  pub line : TakesOrFails answer.err before.err after.err
  pub stops : StopsAtFault protocol before.shelf.held after.shelf.left

-- The file of a reading couldn't be read, and its line was told.
pub record IsUnread (protocol : Protocol) (before after : Outside) (status : Status) : Type 0 where
  pub count : ℕ
  pub file : List ℕ
  pub reads_at : ReadsAt before.shelf.held protocol count file
  pub told : status ≡ statuses.ReadFault
  pub held : after.shelf.held ≡ before.shelf.held
  pub opens : after.shelf.opens ≡ counted count before.shelf.opens
  pub rises : before.shelf.faults ≤ after.shelf.faults
  pub rose : Rose before.shelf.faults after.shelf.faults
  pub nothing : after.out ≡ before.out
  pub line : TakesOrFails (read_fault_line file) before.err after.err

-- Memory ran out before anything was written: no more files were opened than the protocol has. The last of them may have
-- been unread: of a part's fault that wants memory to be told, none is.
pub record IsOutOfMemory (protocol : Protocol) (before after : Outside) (status : Status) : Type 0 where
  pub count : ℕ
  pub told : status ≡ statuses.Memory
  pub few : WhereTold before.shelf.held (λ files. count ≤ readings protocol files)
  pub read : HasOpened count before.shelf after.shelf
  pub nothing : after.out ≡ before.out
  pub no_line : after.err ≡ before.err

-- Memory ran out while the answer was written: a front of it was.
pub record IsCut (protocol : Protocol) (before after : Outside) (status : Status) : Type 0 where
  pub count : ℕ
  pub told : status ≡ statuses.Memory
  pub few : WhereTold before.shelf.held (λ files. count ≤ readings protocol files)
  pub read : HasRead count before.shelf after.shelf
  pub quiet : after.out.faults ≡ before.out.faults
  pub front : WhereTold before.shelf.held (λ files.
      (front : List ℕ) × IsFront front (answer_of protocol files).out × (after.out.told ≡ appended front before.out.told))
  pub no_line : after.err ≡ before.err

-- The answer is no refusal: the whole of it was written, or, where the output failed, a front of it.
pub record IsWritten (protocol : Protocol) (before after : Outside) (status : Status) : Type 0 where
  pub count : ℕ
  pub answer : Answer
  pub ends_in : EndsIn before.shelf.held protocol count answer
  pub accepted : IsAccepted answer.status
  pub silent : answer.err ≡ []
  pub read : HasRead count before.shelf after.shelf
  pub written : ((status ≡ answer.status) × WritesAll answer.out before.out after.out) ⊎
      ((status ≡ statuses.WriteFault) × WritesFront answer.out before.out after.out)
  pub no_line : after.err ≡ before.err

abbrev pub Runs : Protocol → Outside → Outside → Status → Type 0
Runs protocol before after status =
    IsRefused protocol before after status ⊎ (IsUnread protocol before after status ⊎
    (IsOutOfMemory protocol before after status ⊎ IsWritten protocol before after status))

-- The same of a job that wants memory while it writes.
abbrev pub RunsInPieces : Protocol → Outside → Outside → Status → Type 0
RunsInPieces protocol before after status = Runs protocol before after status ⊎ IsCut protocol before after status

-- Whatever follows by a value that was had of files: where what follows runs from here, the whole runs from there ..
abbrev pub Continues : {T : Type 0} → ((T → Protocol) → Protocol) → T → ShelfView → ShelfView → SinkView → SinkView → Type 0
Continues {T} whole value shelf mid err mid_err =
    (next : T → Protocol) (shelf' : ShelfView) (out out' err' : SinkView) (status : Status)
    → Runs (next value) (record { shelf = mid; out = out; err = mid_err }) (record { shelf = shelf'; out = out'; err = err' }) status
    → Runs (whole next) (record { shelf = shelf; out = out; err = err }) (record { shelf = shelf'; out = out'; err = err' }) status

-- .. and where it can't be had, the whole ends with the status.
abbrev pub Fails : {T : Type 0} → ((T → Protocol) → Protocol) → Status → ShelfView → ShelfView → SinkView → SinkView → Type 0
Fails {T} whole status shelf shelf' err err' =
    (next : T → Protocol) (out : SinkView)
    → Runs (whole next) (record { shelf = shelf; out = out; err = err }) (record { shelf = shelf'; out = out; err = err' }) status
