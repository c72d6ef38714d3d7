use Rattle.std.proofs.Common.{◌≡◌, length, map, drop}
use Rattle.schematron_rules.specs.Seen.{seen_rule}
use Rattle.schematron_run.specs.Firsts.{AreTouched}
use Rattle.schematron_run.specs.Inputs.{nodes_of}
use Rattle.schematron_run.proofs.FirstLemmas.{Coming}
use Rattle.schematron_run.proofs.firsts.first_rules.Given as goal

abbrev pub invariant-rules : goal.invariant-rules
invariant-rules g l = record {
  long : length l.table ≡ length l.initial.table;
  number : l.number ≡ l.rule-index;
  touched : AreTouched l.table l.touched.items;
  coming : Coming (nodes_of l.input) l.env (map seen_rule l.rules) l.rule-index (map seen_rule (drop l.rule-index l.rules)) l.table;
}
