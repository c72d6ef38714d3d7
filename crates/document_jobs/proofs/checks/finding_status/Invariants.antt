use Rattle.std.specs.Prelude.{◌≡◌, drop}
use Rattle.document_jobs.specs.Checks.{finding_status}
use Rattle.document_jobs.proofs.checks.finding_status.Given as goal

-- No line so far counts, so the files to come decide.
abbrev pub invariant-files : goal.invariant-files
invariant-files l = finding_status (drop l.file-index l.found) ≡ finding_status l.found
