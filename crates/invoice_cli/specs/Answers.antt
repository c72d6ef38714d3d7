-- The contract of the program's call.
use Rattle.std.specs.Prelude.{◌≡◌, ◌≢◌, ℕ, ◌<◌, ◌≤◌, List, Option}
use Rattle.std.proofs.Common.{◌⊎◌}
use Rattle.inv_base.specs.Counts.{Rose, Quiet, next_count}
use Rattle.inv_base.specs.Files.{Files}
use Rattle.inv_base.specs.Outside.{SinkView, WhereTold, appended}
use Rattle.inv_base.specs.Writing.{IsFront, WritesAll, WritesFront}
use Rattle.job_protocol.specs.declared.status.Status.{Status}
use Rattle.job_protocol.specs.declared.status.Status.TheVariants as statuses
use Rattle.job_protocol.specs.Protocol.{Answer, ends, readings}
use Rattle.job_protocol.specs.Lines.{bad_word_line, read_fault_line}
use Rattle.job_protocol.specs.Outside.{Outside, IsRefusal, IsAccepted, IsRefusedAnswer, TakesOrFails, HasRead, counted}
use Rattle.job_protocol.specs.Runs.{EndsIn, ReadsAt, StopsAtFault}
use Rattle.invoice_cli.specs.Job.{Job, outline, query, trial, help, version, bad_word}
use Rattle.invoice_cli.specs.Answer.{protocol_of, answer_to}

-- The words name files.
abbrev pub NamesFiles : Job → Type 0
NamesFiles (trial lines) = ⊥
NamesFiles help = ⊥
NamesFiles version = ⊥
NamesFiles (bad_word number) = ⊥
NamesFiles _ = Unit {0}

-- The words ask for what takes memory: they name files, or a trial.
abbrev pub WantsMemory : Job → Type 0
WantsMemory (trial lines) = Unit {0}
WantsMemory job = NamesFiles job

-- The job wants memory while it writes: the values of an expression are made text one after another.
abbrev pub WritesInPieces : Job → Type 0
WritesInPieces (query expression file) = Unit {0}
WritesInPieces _ = ⊥

-- The line is that of an answer with which the job ends where each file has some content, which is its own where the files are told.
pub record IsRefusalLine (steps : ℕ) (job : Job) (status : Status) (held : Option Files) (line : List ℕ) : Type 0 where
  pub count : ℕ
  pub answer : Answer
  pub ends_in : EndsIn held (protocol_of steps job) count answer
  pub status_is : answer.status ≡ status
  pub line_is : line ≡ answer.err

-- The line names the file of the reading that failed: the k-th, where k files were opened. Nothing before it is refused.
-- Where the shelf tells no files, each before it has some content: of the parts of a rule file that names the first alone.
pub record IsReadFaultLine (steps : ℕ) (job : Job) (held : Option Files) (opens opens' : ℕ) (line : List ℕ) : Type 0 where
  pub count : ℕ
  pub file : List ℕ
  pub reads_at : ReadsAt held (protocol_of steps job) count file
  pub opened : opens' ≡ counted count opens
  pub line_is : line ≡ read_fault_line file

-- The line is one that a refusal of the job may write, where the shelf tells these files or none.
abbrev pub IsLineOf : ℕ → Job → Status → Outside → Outside → List ℕ → Type 0
IsLineOf steps job statuses.BadWords before after line = (number : ℕ) × (job ≡ bad_word number) × (line ≡ bad_word_line number)
IsLineOf steps job statuses.ReadFault before after line = IsReadFaultLine steps job before.shelf.held before.shelf.opens after.shelf.opens line
IsLineOf steps job status before after line = IsRefusalLine steps job status before.shelf.held line

-- A front of the answer's bytes was appended.
abbrev pub AppendsFront : ℕ → Job → Outside → Outside → Type 0
AppendsFront steps job before after = WhereTold before.shelf.held (λ files.
    (front : List ℕ) × IsFront front (answer_to steps job files).out × (after.out.told ≡ appended front before.out.told))

-- The answer was written, each part whole or a front of it where that output failed; or memory ran out before anything was written.
abbrev pub IsGiven : Answer → Outside → Outside → Status → Type 0
IsGiven answer before after status =
    ((status ≡ answer.status) × WritesAll answer.out before.out after.out × TakesOrFails answer.err before.err after.err)
    ⊎ (((status ≡ statuses.WriteFault) × WritesFront answer.out before.out after.out × (after.err ≡ before.err))
    ⊎ ((status ≡ statuses.Memory) × (after.out ≡ before.out) × (after.err ≡ before.err)))

-- The output stayed quiet, where the answer is one that is written to it.
abbrev pub QuietIfWritten : Answer → Outside → Outside → Type 0
QuietIfWritten answer before after = IsAccepted answer.status → Quiet before.out.faults after.out.faults

-- The output got the whole of an answer with which the job ends where each file has some content, which is its own where the files are told.
pub record IsWhole (steps : ℕ) (job : Job) (before after : Outside) (status : Status) : Type 0 where
  pub count : ℕ
  pub answer : Answer
  pub ends_in : EndsIn before.shelf.held (protocol_of steps job) count answer
  pub status_is : status ≡ answer.status
  pub all : WritesAll answer.out before.out after.out

-- The refusal stood at the beginning: no file was opened, nothing written, and the one line told.
pub record IsRefusedAtOnce (answer : Answer) (before after : Outside) (status : Status) : Type 0 where
  pub status_is : status ≡ answer.status
  pub read : HasRead 0 before.shelf after.shelf
  pub nothing : after.out ≡ before.out
  pub line : TakesOrFails answer.err before.err after.err

-- What is left behind the job, where the last line of a trial tells so many steps.
pub record Answers (steps : ℕ) (job : Job) (before after : Outside) (status : Status) : Type 0 where
  -- While no call on the shelf fails, nor one on an output to which the answer is written, and memory is found, the status is the answer's ..
  pub answered : Quiet before.shelf.faults after.shelf.faults → status ≢ statuses.Memory → WhereTold before.shelf.held (λ files.
      QuietIfWritten (answer_to steps job files) before after → status ≡ (answer_to steps job files).status)
  -- .. and the output got exactly the answer's bytes. With the clause above this is completeness: words that name a job
  -- and files that are accepted end in Done or Findings with the whole text, or for want of memory.
  pub output : Quiet before.shelf.faults after.shelf.faults → status ≢ statuses.Memory → WhereTold before.shelf.held (λ files.
      QuietIfWritten (answer_to steps job files) before after → after.out.told ≡ appended (answer_to steps job files).out before.out.told)
  -- While no call on the error output fails either, it got exactly the answer's bytes.
  pub errors : Quiet before.shelf.faults after.shelf.faults → Quiet before.err.faults after.err.faults → status ≢ statuses.Memory
      → WhereTold before.shelf.held (λ files. QuietIfWritten (answer_to steps job files) before after
      → after.err.told ≡ appended (answer_to steps job files).err before.err.told)
  -- Done and Findings come only with the whole of an answer, also where the shelf tells no files.
  pub written : IsAccepted status → IsWhole steps job before after status
  -- An expression that is refused is told before any file is opened, whatever the shelf is and its counts are.
  pub at_once : (answer : Answer) → protocol_of steps job ≡ ends answer → IsRefusedAnswer answer.status → status ≢ statuses.Memory →
      IsRefusedAtOnce answer before after status
  -- Bad words are told exactly where the words name no job.
  pub bad_words : status ≡ statuses.BadWords → (number : ℕ) × (job ≡ bad_word number)
  pub only_bad_words : (number : ℕ) → job ≡ bad_word number → status ≡ statuses.BadWords
  -- Memory runs out only where the words name files or a trial.
  pub memory : status ≡ statuses.Memory → WantsMemory job
  -- Where memory ran out nothing was written, but for jobs that want some while they write.
  pub spent : status ≡ statuses.Memory → (WritesInPieces job → ⊥) → after.out ≡ before.out
  -- A read fault is told only where the shelf's count rose, and a write fault only where the output's did and the answer is no refusal.
  pub read_fault : status ≡ statuses.ReadFault → Rose before.shelf.faults after.shelf.faults
  pub write_fault : status ≡ statuses.WriteFault → Rose before.out.faults after.out.faults
  pub write_done : status ≡ statuses.WriteFault → WhereTold before.shelf.held (λ files. IsAccepted (answer_to steps job files).status)
  -- A count that rose is told, on the shelf unless memory ran out.
  pub shelf_rose : before.shelf.faults < after.shelf.faults → (status ≡ statuses.ReadFault) ⊎ (status ≡ statuses.Memory)
  pub out_rose : before.out.faults < after.out.faults → status ≡ statuses.WriteFault
  -- A refusal writes nothing to the output and its line to the error output, or a front of it where that fails; the
  -- other statuses write nothing to the error output.
  pub nothing : IsRefusal status → after.out ≡ before.out
  pub line : IsRefusal status → (line : List ℕ) × IsLineOf steps job status before after line × TakesOrFails line before.err after.err
  pub no_line : (IsRefusal status → ⊥) → after.err ≡ before.err
  -- On the other statuses the output got a front of the answer's bytes.
  pub front : (IsRefusal status → ⊥) → AppendsFront steps job before after
  -- Behind bytes of a refused document that settle no fault yet, and behind the limit of a file that is too long, at most one piece was read: the
  -- rest is left.
  pub stops : IsRefusedAnswer status → StopsAtFault (protocol_of steps job) before.shelf.held after.shelf.left
  -- No file is opened that the job doesn't read, each is opened once, and all are where nothing fails and memory is found.
  pub opens : (count : ℕ) × (after.shelf.opens ≡ counted count before.shelf.opens) ×
      WhereTold before.shelf.held (λ files. count ≤ readings (protocol_of steps job) files)
  pub all_opened : Quiet before.shelf.faults after.shelf.faults → status ≢ statuses.Memory
      → WhereTold before.shelf.held (λ files. after.shelf.opens ≡ counted (readings (protocol_of steps job) files) before.shelf.opens)
  -- The outline opens its document's file in any case.
  pub outline_opens : (file : List ℕ) → job ≡ outline file → after.shelf.opens ≡ next_count before.shelf.opens
  -- Words that name no files are answered whatever the shelf is. They leave it alone, and the files stay as they are.
  pub given : (NamesFiles job → ⊥) → (files : Files) → IsGiven (answer_to steps job files) before after status
  pub untouched : (NamesFiles job → ⊥) → after.shelf ≡ before.shelf
  pub held : after.shelf.held ≡ before.shelf.held

-- The text was written, or the output failed.
abbrev pub Says : Status → List ℕ → SinkView → SinkView → Type 0
Says status text before after = ((status ≡ statuses.Done) × WritesAll text before after) ⊎ ((status ≡ statuses.WriteFault) × WritesFront text before after)

-- The same, or memory ran out before anything was written.
abbrev pub Tries : Status → List ℕ → SinkView → SinkView → Type 0
Tries status text before after = Says status text before after ⊎ ((status ≡ statuses.Memory) × (after ≡ before))
