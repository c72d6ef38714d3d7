use Rattle.node_arena.proofs.IntervalLemmas.{document_interval}
use Rattle.node_arena.proofs.laws.insides_are_intervals.Goals as goal

pub returns : goal.returns
returns c = document_interval
