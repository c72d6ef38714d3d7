use Rattle.std.proofs.Common.{◌≡◌, ◌++◌, length, map, drop}
use Rattle.std.specs.List.{flat_map}
use Rattle.schematron_rules.specs.Seen.{seen_pattern}
use Rattle.schematron_run.specs.Firsts.{IsClear}
use Rattle.schematron_run.specs.Judging.{by_number}
use Rattle.schematron_run.specs.Inputs.{nodes_of}
use Rattle.schematron_run.proofs.patterns.judge_patterns.Given as goal

abbrev pub invariant-numbers : goal.invariant-numbers
invariant-numbers g l =
    let f = by_number (nodes_of l.input) l.initial.env (map seen_pattern l.patterns) in
    record {
      env : l.env ≡ l.initial.env;
      long : length l.table ≡ length l.initial.table;
      clear : IsClear l.table;
      found : l.findings ++ flat_map f (drop l.k-index l.numbers) ≡ l.initial.findings ++ flat_map f l.numbers;
    }
