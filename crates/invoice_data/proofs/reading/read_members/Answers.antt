use Rattle.std.proofs.Common.{All, sym, subst}
use Rattle.std.specs.Result.{IfOk}
use Rattle.invoice_data.specs.Told.{Told}
use Rattle.invoice_data.specs.Data.{Says, FitsFound}
use Rattle.invoice_data.proofs.FitLemmas.{fit_told}
use Rattle.invoice_data.proofs.ReadingLemmas.{source_of, whole}
use Rattle.invoice_data.proofs.reading.read_members.Goals as goal

pub data_of-requires : goal.data_of-requires
data_of-requires c =
    let same = whole c.args.text.now.bytes.now _ c.args.added.now c.args.lists.now _ c.args.text.now.items.items _ c.tell_all.new.telling c.in-Ok.ensures
    c.new-telling.ensures c.terms.ensures.terms c.as_slice.ensures.value in
    let P : Told → Type 0 = λ t. All FitsFound t.founds in
    subst P (sym same)
    (fit_told (source_of c.args.text.now.bytes.now c.args.added.now c.args.lists.now) c.args.text.now.items.items c.terms.ensures.fine)

pub returns-in-Ok : goal.returns-in-Ok
returns-in-Ok c =
    let same = whole c.args.text.now.bytes.now _ c.args.added.now c.args.lists.now _ c.args.text.now.items.items _ c.tell_all.new.telling c.in-Ok.ensures
    c.new-telling.ensures c.terms.ensures.terms c.as_slice.ensures.value in
    let P : Told → Type 0 = λ t. IfOk c.data_of.result (λ d. Says c.args.lists.now d t) in
    subst P same c.data_of.ensures
