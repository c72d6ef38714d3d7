use Rattle.std.proofs.Common.{◌≡◌, drop, take, [], nat_eq}
use Rattle.xml_state.specs.StartTags.{twice_behind}
use Rattle.xml_state.proofs.LookupLemmas.{HasNumbers}
use Rattle.xml_state.proofs.duplicates.looks_numbers_up.Given as goal

abbrev pub invariant-loop-number : goal.invariant-loop-number
invariant-loop-number l = record {
  twice : twice_behind nat_eq (take l.number-index l.numbers) (drop l.number-index l.numbers) ≡ twice_behind nat_eq [] l.numbers;
  has : HasNumbers l.seen (take l.number-index l.numbers);
}
