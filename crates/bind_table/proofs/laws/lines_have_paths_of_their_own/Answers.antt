use Rattle.bind_table.proofs.PathLemmas.{one-path}
use Rattle.bind_table.proofs.laws.lines_have_paths_of_their_own.Goals as goal

pub returns : goal.returns
returns c = one-path
