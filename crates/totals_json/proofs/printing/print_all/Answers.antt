use Rattle.std.specs.Prelude.{chars}
use Rattle.json_text.proofs.MakingLemmas.{Wrote-append, Wrote-last, Wrote-object, Printed-document}
use Rattle.totals_json.specs.TotalsJson.{totals_json}
use Rattle.totals_json.proofs.printing.print_all.Goals as goal

pub returns : goal.returns
unfolding totals_json
returns g c =
    Printed-document (totals_json (chars c.args.file.now) c.args.differences.now) _ _ _ _ _ _ c.new-pen.ensures.state c.new-pen.ensures.printer
    (Wrote-object _ _ _ _ _ _ _ _ _ _ c.begin_item.ensures
    (Wrote-append _ _ _ _ _ _ _ _ c.text_member.ensures
    (Wrote-append _ _ _ _ _ _ _ _ c.put_differences.ensures (Wrote-last _ _ _ _ _ c.put_counts.ensures)))
    c.end.ensures.prints c.end.ensures.state)
    c.finish.ensures
