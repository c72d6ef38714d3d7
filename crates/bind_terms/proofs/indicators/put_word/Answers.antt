use Rattle.std.proofs.Common.{ap, sym, ◌∙◌}
use Rattle.std.proofs.lemmas.Option.{same_Some}
use Rattle.std.proofs.lemmas.Result.{on_ok_weaker}
use Rattle.bind_meaning.specs.declared.picked.Picked.{Picked}
use Rattle.bind_terms.specs.Steps.{row_numbered}
use Rattle.bind_terms.proofs.indicators.put_word.Goals as goal

pub returns : goal.returns
returns g c =
    on_ok_weaker c.put_row.result
    (λ put pick same of_row. put pick same (same_Some _ _ (sym of_row ∙ (ap (λ (x : Picked). row_numbered c.args.input.now.table.now x.row) same
    ∙ sym c.in-Some.ensures)))) c.put_row.ensures
