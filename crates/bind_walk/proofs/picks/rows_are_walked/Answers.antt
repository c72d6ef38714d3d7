use Rattle.std.proofs.Common.{[]}
use Rattle.bind_walk.specs.Walks.{sight}
use Rattle.bind_walk.proofs.LineLemmas.{lines-of}
use Rattle.bind_walk.proofs.picks.rows_are_walked.Goals as goal

pub returns : goal.returns
returns c = record {
  moved = λ d rows long. c.rows_pick_what_lines_pick.ensures (sight d) rows [] 0 long;
  lines = λ d rows. lines-of d rows;
}
