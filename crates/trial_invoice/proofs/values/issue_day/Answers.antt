use Rattle.std.proofs.Common.{◌∙◌, sym}
use Rattle.trial_invoice.proofs.WordLemmas.{found-same, none-found, day-read}
use Rattle.trial_invoice.proofs.values.issue_day.Goals as goal

pub returns : goal.returns
returns c = found-same c.in-Some.day (record { year = 2024; month = 1; day = 1 }) (sym c.in-Some.is ∙ (c.read_dashed.ensures ∙ day-read))

pub unreachable-requires : goal.unreachable-requires
unreachable-requires c = none-found (record { year = 2024; month = 1; day = 1 }) (sym c.in-None.is ∙ (c.read_dashed.ensures ∙ day-read))
