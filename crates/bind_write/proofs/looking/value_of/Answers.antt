use Rattle.bind_write.proofs.LookLemmas.{found_in_front}
use Rattle.bind_write.proofs.looking.value_of.Goals as goal

pub returns-in-Some : goal.returns-in-Some
returns-in-Some c = found_in_front c.args.entries.now c.split_at.result.0.now 24 c.args.term c.args.context _ c.split_at.ensures.front c.in-Some.ensures
