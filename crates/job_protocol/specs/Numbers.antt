-- The numbers with which the program ends.
use Rattle.std.specs.Prelude.{ℕ}
use Rattle.job_protocol.specs.declared.status.Status.{Status}
use Rattle.job_protocol.specs.declared.status.Status.TheVariants as statuses

abbrev pub exit_number : Status → ℕ
exit_number statuses.Done = 0
exit_number statuses.Findings = 1
exit_number statuses.BadWords = 2
exit_number statuses.DocumentRefused = 3
exit_number statuses.RulesRefused = 4
exit_number statuses.Unable = 5
exit_number statuses.ReadFault = 6
exit_number statuses.WriteFault = 7
exit_number statuses.Memory = 8
