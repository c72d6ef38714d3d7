use Rattle.std.proofs.Common.{◌≡◌, map, drop}
use Rattle.std.specs.List.{All}
use Rattle.xpath_steps.specs.Variables.{ValuesWithin}
use Rattle.schematron_run.specs.Judging.{filled}
use Rattle.schematron_run.specs.Ready.{ready_let, IsLetFor}
use Rattle.schematron_run.specs.Inputs.{nodes_of, count}
use Rattle.schematron_run.proofs.lets.fill.Given as goal

abbrev pub invariant-lets : goal.invariant-lets
invariant-lets g l = record {
  same : map ready_let l.lets ≡ map ready_let l.initial.lets;
  ready : All (IsLetFor l.input.doc.now) l.lets;
  within : ValuesWithin (count l.input) l.env;
  filled : filled (nodes_of l.input) l.n (drop l.k (map ready_let l.initial.lets)) l.env ≡ filled (nodes_of l.input) l.n
      (map ready_let l.initial.lets) l.initial.env;
}
