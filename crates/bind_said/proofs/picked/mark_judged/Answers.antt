use Rattle.std.proofs.lemmas.Result.{on_ok_weaker}
use Rattle.bind_said.specs.Judged.{currency_at, format_at}
use Rattle.bind_said.proofs.MarkLemmas.{marked-more}
use Rattle.bind_said.proofs.picked.mark_judged.Goals as goal

pub returns : goal.returns
returns g c =
    let d = c.args.input.now.doc.now in
    on_ok_weaker c.mark_format.result
    (λ e. marked-more c.args.marks.now.items c.mark_currency.new.marks.items c.mark_format.new.marks.items
    (currency_at d c.args.names.currency c.args.row.now c.args.n) (format_at d c.args.names.format c.args.row.now c.args.n) c.mark_currency.ensures e)
    c.mark_format.ensures
