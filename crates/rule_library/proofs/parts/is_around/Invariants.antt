use Rattle.std.proofs.Common.{◌≡◌, [], take}
use Rattle.rule_library.specs.Turns.{stack_of, all_opened}
use Rattle.rule_library.specs.Walk.{is_in}
use Rattle.rule_library.proofs.parts.is_around.Given as goal

abbrev pub invariant-frames : goal.invariant-frames
invariant-frames l = l.found ≡ is_in l.name (stack_of (all_opened l.files [] (take l.frame-index l.frames)))
