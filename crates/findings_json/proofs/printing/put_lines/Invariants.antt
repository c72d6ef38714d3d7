use Rattle.std.proofs.Common.{drop}
use Rattle.std.specs.Prelude.{chars, option_map}
use Rattle.json_text.specs.Making.{each}
use Rattle.json_text.proofs.MakingLemmas.{Leads}
use Rattle.findings_json.specs.FindingsJson.{line_object}
use Rattle.findings_json.proofs.printing.put_lines.Given as goal

-- those to come are left
abbrev pub invariant-lines : goal.invariant-lines
invariant-lines g l =
    let said = line_object (option_map (λ name. chars name.now) l.fn.rules) in
    Leads (each said l.lines) l.initial.pen (g.K.Sink.view l.initial.out) (each said (drop l.line-index l.lines)) l.pen (g.K.Sink.view l.out)
