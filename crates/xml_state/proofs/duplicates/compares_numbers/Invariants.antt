use Rattle.std.proofs.Common.{◌≡◌, drop, take, [], nat_eq}
use Rattle.xml_state.specs.StartTags.{twice_behind}
use Rattle.xml_state.proofs.duplicates.compares_numbers.Given as goal

abbrev pub invariant-loop-i : goal.invariant-loop-i
invariant-loop-i l = twice_behind nat_eq (take l.i l.numbers) (drop l.i l.numbers) ≡ twice_behind nat_eq [] l.numbers
