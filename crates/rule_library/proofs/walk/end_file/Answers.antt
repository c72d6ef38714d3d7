use Rattle.rule_library.specs.Turns.{full}
use Rattle.rule_library.proofs.walk.end_file.Goals as goal

pub returns-in-Err-clause-fails : goal.returns-in-Err-clause-fails
returns-in-Err-clause-fails c = full c.want_of_memory.ensures
