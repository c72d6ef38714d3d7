use Rattle.std.proofs.Common.{◌≡◌, drop}
use Rattle.schematron_entries.specs.Seen.{seen_entries}
use Rattle.schematron_faults.specs.declared.search.Search.{Search}
use Rattle.schematron_faults.specs.Searching.{Goes}
use Rattle.schematron_faults.specs.Phases.{written_phases_of}
use Rattle.schematron_faults.proofs.phases.judge_phases.Given as goal

abbrev pub invariant-entries : goal.invariant-entries
invariant-entries l = record {
  goes : (u : Search) → Goes l.search u (written_phases_of l.file.entries l.scope (seen_entries (drop l.e-index l.entries))) →
      Goes l.initial.search u (written_phases_of l.file.entries l.initial.scope l.file.entries);
  scope : l.scope ≡ l.initial.scope;
}
