use Rattle.json_text.proofs.MakingLemmas.{Wrote-array}
use Rattle.findings_json.proofs.printing.put_findings.Goals as goal

pub returns : goal.returns
returns g c = Wrote-array _ _ _ _ _ _ _ _ _ _ c.begin_member.ensures c.put_files.ensures c.end.ensures.prints c.end.ensures.state
