use Rattle.json_reading.proofs.ReadingLemmas.{runs_ok}
use Rattle.json_reading.proofs.reading.read_run.Goals as goal

pub returns-in-Ok-clause-run : goal.returns-in-Ok-clause-run
returns-in-Ok-clause-run c = runs_ok _ _ _ _ _ _ _ c.in-Ok.ensures c.idle_len.ensures.exact
