use Rattle.bind_table.proofs.PickLemmas.{rows-and-lines}
use Rattle.bind_table.proofs.laws.rows_pick_what_lines_pick.Goals as goal

pub returns : goal.returns
returns g c see rows around x long = rows-and-lines see rows around x long
