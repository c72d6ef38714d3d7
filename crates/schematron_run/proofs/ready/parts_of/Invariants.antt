use Rattle.std.proofs.Common.{◌≡◌, ◌++◌, map, drop}
use Rattle.std.specs.List.{All}
use Rattle.schematron_rules.specs.Seen.{seen_part}
use Rattle.schematron_run.specs.Ready.{ready_part, IsPartFor}
use Rattle.schematron_run.proofs.ready.parts_of.Given as goal

abbrev pub invariant-parts : goal.invariant-parts
invariant-parts l = record {
  seen : map ready_part l.made.items ++ map seen_part (drop l.part-index l.parts) ≡ map seen_part l.parts;
  ready : All (IsPartFor l.input.doc.now) l.made.items;
}
