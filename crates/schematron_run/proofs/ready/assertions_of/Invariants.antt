use Rattle.std.proofs.Common.{◌≡◌, ◌++◌, map, drop}
use Rattle.std.specs.List.{All}
use Rattle.schematron_rules.specs.Seen.{seen_assertion}
use Rattle.schematron_run.specs.Ready.{ready_assertion, IsAssertionFor}
use Rattle.schematron_run.proofs.ready.assertions_of.Given as goal

abbrev pub invariant-assertions : goal.invariant-assertions
invariant-assertions l = record {
  seen : map ready_assertion l.made.items ++ map seen_assertion (drop l.assertion-index l.assertions) ≡ map seen_assertion l.assertions;
  ready : All (IsAssertionFor l.input.doc.now) l.made.items;
}
