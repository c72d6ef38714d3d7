use Rattle.std.proofs.lemmas.Result.{IfOk-weaker}
use Rattle.invoice_data.specs.Data.{IsWhole, IsData}
use Rattle.invoice_data.proofs.DataLemmas.{whole_data}
use Rattle.invoice_data.proofs.reading.invoice_data.Goals as goal

pub returns-in-Ok : goal.returns-in-Ok
returns-in-Ok c =
    IfOk-weaker c.whole.result (λ d. IsWhole c.in-Ok.invoice c.args.lists.now d) (λ d. IsData c.args.founds.items c.args.lists.now d)
    (λ d h. whole_data c.in-Ok.invoice c.args.founds.items c.args.lists.now d c.in-Ok.ensures h) c.whole.ensures
