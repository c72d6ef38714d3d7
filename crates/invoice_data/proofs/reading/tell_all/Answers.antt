use Rattle.std.proofs.Common.{◌≡◌, sym, ap, ◌∙◌, subst}
use Rattle.std.specs.Result.{OnOk}
use Rattle.invoice_data.specs.Told.{Told, both, one_fault}
use Rattle.invoice_data.specs.Members.{told, told_in}
use Rattle.invoice_data.proofs.PartLemmas.{parts_none}
use Rattle.invoice_data.proofs.reading.tell_all.Goals as goal

pub returns-in-None : goal.returns-in-None
unfolding told
returns-in-None c =
    let P : Told → Type 0 = λ t. OnOk c.put_fault.result (c.put_fault.new.self ≡ both c.args.telling.now t) in
    subst P (ap one_fault c.fault_at.ensures ∙ ap (told_in c.args.input.now) (sym (parts_none c.args.items.now c.in-None.ensures.cases))) c.put_fault.ensures
