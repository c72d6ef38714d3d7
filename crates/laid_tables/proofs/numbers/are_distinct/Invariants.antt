use Rattle.std.proofs.Common.{◌≡◌, List, ℕ, drop, take, [], nat_eq}
use Rattle.xml_state.specs.StartTags.{twice_behind}
use Rattle.xml_state.proofs.LookupLemmas.{HasNumbers}
use Rattle.laid_tables.specs.Lines.{line_numbers}
use Rattle.laid_tables.proofs.numbers.are_distinct.Given as goal

abbrev pub invariant-lines : goal.invariant-lines
invariant-lines l =
    let all : List ℕ = line_numbers l.lines in
    record {
      twice : twice_behind nat_eq (take l.line-index all) (drop l.line-index all) ≡ twice_behind nat_eq [] all;
      has : HasNumbers l.seen (take l.line-index all);
    }
