use Rattle.std.proofs.Common.{◌≡◌, ◌++◌, ℕ, List, map, drop}
use Rattle.std.specs.List.{All, flat_map}
use Rattle.schematron_findings.specs.declared.finding.Line.{Line}
use Rattle.schematron_run.specs.Firsts.{entry, by_entry}
use Rattle.schematron_run.specs.Ready.{ready_rule, IsRuleFor}
use Rattle.schematron_run.specs.Inputs.{nodes_of}
use Rattle.schematron_run.proofs.nodes.judge_nodes.Given as goal

abbrev pub invariant-nodes : goal.invariant-nodes
invariant-nodes g l =
    let f : ℕ → List Line = λ n. by_entry (nodes_of l.input) l.initial.env (map ready_rule l.initial.rules) n (entry l.table n) in
    record {
      same : map ready_rule l.rules ≡ map ready_rule l.initial.rules;
      ready : All (IsRuleFor l.input.doc.now) l.rules;
      env : l.env ≡ l.initial.env;
      found : l.findings ++ flat_map f (drop l.n-index l.nodes) ≡ l.initial.findings ++ flat_map f l.nodes;
    }
