use Rattle.std.proofs.Common.{ap, ◌∙◌}
use Rattle.bind_rows.specs.Added.{built}
use Rattle.bind_table.specs.WellFormed.{all_are}
use Rattle.bind_table.proofs.judging.is_carried_once.Goals as goal

pub returns-in-Some : goal.returns-in-Some
returns-in-Some c = c.all_are.ensures ∙ ap (all_are c.args.group (built c.args.rows.now)) c.in-Some.ensures
