use Rattle.std.proofs.Common.{◌≢◌, List, [], sym, ◌∙◌, subst}
use Rattle.std.proofs.lemmas.Result.{IfOk-weaker}
use Rattle.invoice_data.specs.declared.faults.DataFault.{DataFault}
use Rattle.invoice_data.specs.Data.{IsData, Says}
use Rattle.invoice_data.proofs.EntryLemmas.{no_faults, some_faults}
use Rattle.invoice_data.proofs.DataLemmas.{data_said}
use Rattle.invoice_data.proofs.reading.data_of.Goals as goal

pub returns-then-is_empty : goal.returns-then-is_empty
returns-then-is_empty c =
    let none = sym c.into_parts-founds.ensures.faults
    ∙ (sym c.as_slice.ensures.value ∙ no_faults c.as_slice.result.now (sym c.is_empty.ensures ∙ c.if-is_empty.true)) in
    IfOk-weaker c.invoice_data.result (λ d. IsData c.into_parts-founds.result.0.items c.args.lists.now d) (λ d. Says c.args.lists.now d c.args.telling)
    (λ d h. data_said c.args.telling c.into_parts-founds.result.0.items c.args.lists.now d c.into_parts-founds.ensures.founds none h) c.invoice_data.ensures

pub returns : goal.returns
returns c =
    let P : List DataFault → Type 0 = λ faults. faults ≢ [] in (
      c.into_parts-founds.ensures.faults,
      subst P (c.as_slice.ensures.value ∙ c.into_parts-founds.ensures.faults)
          (some_faults c.as_slice.result.now (sym c.is_empty.ensures ∙ c.if-is_empty.false)),
    )
