use Rattle.std.proofs.Common.{ap}
use Rattle.std.specs.Prelude.{unwrap_or}
use Rattle.document_jobs.proofs.refusals.file_at.Goals as goal

pub returns-in-None : goal.returns-in-None
returns-in-None c = ap (λ file. unwrap_or file c.args.name.now) c.in-None.ensures

pub returns-in-Some : goal.returns-in-Some
returns-in-Some c = ap (λ file. unwrap_or file c.args.name.now) c.in-Some.ensures
