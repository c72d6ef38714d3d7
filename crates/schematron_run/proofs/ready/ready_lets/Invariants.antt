use Rattle.std.proofs.Common.{◌≡◌, ◌++◌, map, drop}
use Rattle.std.specs.List.{All}
use Rattle.schematron_rules.specs.Seen.{seen_let}
use Rattle.schematron_run.specs.Ready.{ready_let, IsLetFor}
use Rattle.schematron_run.proofs.ready.ready_lets.Given as goal

abbrev pub invariant-lets : goal.invariant-lets
invariant-lets l = record {
  seen : map ready_let l.made.items ++ map seen_let (drop l.variable-index l.lets) ≡ map seen_let l.lets;
  ready : All (IsLetFor l.input.doc.now) l.made.items;
}
