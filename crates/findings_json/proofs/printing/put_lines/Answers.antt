use Rattle.std.proofs.Common.{arith}
use Rattle.std.specs.Prelude.{chars, option_map}
use Rattle.json_text.proofs.MakingLemmas.{Leads-next, Leads-all}
use Rattle.findings_json.specs.FindingsJson.{line_object}
use Rattle.findings_json.proofs.printing.put_lines.Goals as goal

pub lines-preserved : goal.lines-preserved
lines-preserved g c =
    Leads-next (line_object (option_map (λ name. chars name.now) c.args.rules)) c.args.lines.now c.lines.line-index c.line-item.result _ _ _ _ _ _ _
    c.lines-test.true c.line-item.is c.lines.invariant c.put_line.ensures

pub returns : goal.returns
returns g c =
    Leads-all (line_object (option_map (λ name. chars name.now) c.args.rules)) c.args.lines.now c.lines.line-index _ _ _ _ _
    (omega (arith, c.lines-test.false)) c.lines.invariant
