use Rattle.std.specs.Prelude.{◌≡◌, map, drop}
use Rattle.document_jobs.specs.Checks.{named_of, chosen_of, chosen, AreChosen}
use Rattle.document_jobs.proofs.CheckLemmas.{chosen_behind}
use Rattle.document_jobs.proofs.checks.choose.Given as goal

-- what is active so far, and then in the files to come, is what is active in all
abbrev pub invariant-files : goal.invariant-files
invariant-files g l = record {
  chosen : chosen_behind (map chosen_of l.chosen.items) (chosen l.phase (map named_of (drop l.file-index l.files))) ≡ chosen l.phase (map named_of l.files);
  came : AreChosen (map chosen_of l.chosen.items);
  quiet : g.E.Sink.view l.err ≡ g.E.Sink.view l.initial.err;
}
