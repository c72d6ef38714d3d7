use Rattle.std.proofs.Common.{map, take}
use Rattle.std.specs.Prelude.{flat_map}
use Rattle.schematron_meaning.specs.Written.{outer_scope, written_pattern}
use Rattle.schematron_expansion.specs.Seen.{seen_instance}
use Rattle.schematron_faults.specs.Searching.{Goes, AreAll}
use Rattle.schematron_faults.specs.Read.{IsRead}
use Rattle.schematron_faults.proofs.patterns.judge_patterns.Given as goal

abbrev pub invariant-instances : goal.invariant-instances
invariant-instances l = record {
  goes : IsRead l.file → Goes l.initial.search l.search
      (flat_map (written_pattern l.file (outer_scope l.file.entries)) (map seen_instance (take l.at l.instances.items)));
  scopes : AreAll l.scopes (outer_scope l.file.entries);
}
