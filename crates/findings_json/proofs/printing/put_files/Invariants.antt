use Rattle.std.proofs.Common.{drop}
use Rattle.json_text.proofs.MakingLemmas.{Leads}
use Rattle.findings_json.specs.FindingsJson.{all_objects, names_of}
use Rattle.findings_json.proofs.printing.put_files.Given as goal

-- those to come are left
abbrev pub invariant-files : goal.invariant-files
invariant-files g l =
    Leads (all_objects (names_of l.rules) l.findings) l.initial.pen (g.K.Sink.view l.initial.out)
    (all_objects (drop l.k (names_of l.rules)) (drop l.k l.findings)) l.pen (g.K.Sink.view l.out)
