use Rattle.json_text.proofs.MakingLemmas.{Wrote-last, Wrote-object}
use Rattle.totals_json.proofs.printing.put_counts.Goals as goal

pub returns : goal.returns
returns g c =
    Wrote-object _ _ _ _ _ _ _ _ _ _ c.begin_member.ensures (Wrote-last _ _ _ _ _ c.number_member.ensures) c.end.ensures.prints c.end.ensures.state
