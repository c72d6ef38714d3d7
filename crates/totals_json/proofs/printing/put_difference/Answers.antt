use Rattle.json_text.proofs.MakingLemmas.{Wrote-append, Wrote-last, Wrote-object}
use Rattle.totals_json.proofs.printing.put_difference.Goals as goal

pub returns : goal.returns
returns g c =
    Wrote-object _ _ _ _ _ _ _ _ _ _ c.begin_item.ensures
    (Wrote-append _ _ _ _ _ _ _ _ c.put_context.ensures
    (Wrote-append _ _ _ _ _ _ _ _ c.put_term_member.ensures
    (Wrote-append _ _ _ _ _ _ _ _ c.put_stated.ensures (Wrote-last _ _ _ _ _ c.put_computed.ensures))))
    c.end.ensures.prints c.end.ensures.state
