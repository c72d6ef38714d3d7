use Rattle.xml_tokens.specs.Told.{ends_run}
use Rattle.xml_tokens.proofs.CutLemmas.{none-any, no-place}
use Rattle.xml_tokens.proofs.PlainLemmas.{before-place}
use Rattle.xml_tokens.proofs.run.before_end.Goals as goal

pub returns-in-Some-clause-none : goal.returns-in-Some-clause-none
returns-in-Some-clause-none c = before-place c.args.bytes.now c.in-Some.end c.split_at.result.0.now c.in-Some.ensures c.split_at.ensures.front

pub returns-in-None-clause-none : goal.returns-in-None-clause-none
returns-in-None-clause-none c = none-any ends_run c.args.bytes.now (no-place ends_run c.args.bytes.now c.in-None.ensures)
