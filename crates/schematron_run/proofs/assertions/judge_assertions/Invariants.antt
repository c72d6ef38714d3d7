use Rattle.std.proofs.Common.{◌≡◌, ◌++◌, map, drop}
use Rattle.std.specs.List.{All, flat_map}
use Rattle.schematron_run.specs.Judging.{by_assertion}
use Rattle.schematron_run.specs.Ready.{ready_assertion, IsAssertionFor}
use Rattle.schematron_run.specs.Inputs.{nodes_of}
use Rattle.schematron_run.proofs.assertions.judge_assertions.Given as goal

abbrev pub invariant-assertions : goal.invariant-assertions
invariant-assertions g l =
    let f = by_assertion (nodes_of l.input) l.n l.env in
    record {
      same : map ready_assertion l.assertions ≡ map ready_assertion l.initial.assertions;
      ready : All (IsAssertionFor l.input.doc.now) l.assertions;
      found : l.findings ++ flat_map f (drop l.k (map ready_assertion l.initial.assertions)) ≡ l.initial.findings ++
          flat_map f (map ready_assertion l.initial.assertions);
    }
