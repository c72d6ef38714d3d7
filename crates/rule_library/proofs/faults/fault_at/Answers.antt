use Rattle.std.proofs.Common.{inr}
use Rattle.rule_library.proofs.FaultLemmas.{tells_of}
use Rattle.rule_library.proofs.faults.fault_at.Goals as goal

pub returns-in-Ok : goal.returns-in-Ok
returns-in-Ok c = tells_of c.args.kind c.args.name.now c.in-Ok.file c.args.place c.utf8.name c.in-Ok.ensures

pub returns-in-Err : goal.returns-in-Err
returns-in-Err c = inr c.want_of_memory.ensures
