-- What a run leaves of the shelf and of the outputs.
use Rattle.std.specs.Prelude.{◌≡◌, ℕ, ◌≤◌, suc, zero, List}
use Rattle.std.proofs.Common.{◌⊎◌}
use Rattle.inv_base.specs.Counts.{next_count}
use Rattle.inv_base.specs.Outside.{ShelfView, SinkView}
use Rattle.inv_base.specs.Writing.{WritesAll, WritesFront}
use Rattle.job_protocol.specs.declared.status.Status.{Status}
use Rattle.job_protocol.specs.declared.status.Status.TheVariants as statuses

-- the shelf, the output and the error output
pub record Outside : Type 0 where
  pub shelf : ShelfView
  pub out : SinkView
  pub err : SinkView

-- The statuses that write a line to the error output and nothing to the output: 2 to 6.
abbrev pub IsRefusal : Status → Type 0
IsRefusal statuses.BadWords = Unit {0}
IsRefusal statuses.DocumentRefused = Unit {0}
IsRefusal statuses.RulesRefused = Unit {0}
IsRefusal statuses.Unable = Unit {0}
IsRefusal statuses.ReadFault = Unit {0}
IsRefusal _ = ⊥

-- The statuses of a refusal that files or what they say give.
abbrev pub IsRefusedAnswer : Status → Type 0
IsRefusedAnswer statuses.DocumentRefused = Unit {0}
IsRefusedAnswer statuses.RulesRefused = Unit {0}
IsRefusedAnswer statuses.Unable = Unit {0}
IsRefusedAnswer _ = ⊥

-- The statuses of an answer that is written to the output.
abbrev pub IsAccepted : Status → Type 0
IsAccepted statuses.Done = Unit {0}
IsAccepted statuses.Findings = Unit {0}
IsAccepted _ = ⊥

-- The sink took the text, or, where its count of faults rose, a front of it.
abbrev pub TakesOrFails : List ℕ → SinkView → SinkView → Type 0
TakesOrFails text before after = WritesAll text before after ⊎ WritesFront text before after

-- the count behind so many calls
abbrev pub counted : ℕ → ℕ → ℕ
counted zero count = count
counted (suc n) count = counted n (next_count count)

-- So many files were opened and read without a fault, and the files stay.
pub record HasRead (n : ℕ) (before after : ShelfView) : Type 0 where
  pub held : after.held ≡ before.held
  pub opens : after.opens ≡ counted n before.opens
  pub faults : after.faults ≡ before.faults

-- So many files were opened, of which the last may not have been read whole, and the files stay.
pub record HasOpened (n : ℕ) (before after : ShelfView) : Type 0 where
  pub held : after.held ≡ before.held
  pub opens : after.opens ≡ counted n before.opens
  pub rises : before.faults ≤ after.faults
