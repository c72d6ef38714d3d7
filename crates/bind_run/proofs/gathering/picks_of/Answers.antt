use Rattle.std.proofs.Common.{◌∙◌}
use Rattle.bind_run.proofs.StepLemmas.{rows-have-steps}
use Rattle.bind_run.proofs.IndicatorLemmas.{same-indicators}
use Rattle.bind_run.proofs.gathering.picks_of.Goals as goal

pub pick_all-requires : goal.pick_all-requires
pick_all-requires g c = rows-have-steps c.args.table.now c.requires

pub returns-clause-indicators : goal.returns-clause-indicators
returns-clause-indicators g c = c.in_ok-picks.ensures.indicators ∙ same-indicators _ c.args.table.now
