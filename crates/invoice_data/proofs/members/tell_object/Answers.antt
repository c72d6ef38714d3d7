use Rattle.std.proofs.Common.{◌≡◌, subst}
use Rattle.std.specs.Result.{OnOk}
use Rattle.invoice_data.specs.Told.{Told}
use Rattle.invoice_data.specs.Members.{object_told}
use Rattle.invoice_data.proofs.MemberLemmas.{lacks_behind}
use Rattle.invoice_data.proofs.ToldLemmas.{within_both}
use Rattle.invoice_data.proofs.members.tell_object.Goals as goal

pub put_lacks-requires : goal.put_lacks-requires
put_lacks-requires g c = within_both c.args.telling.now _ _ _ c.count-count.ensures c.in-Ok.ensures

pub returns-in-Ok : goal.returns-in-Ok
unfolding object_told
returns-in-Ok g c =
    let P : Told → Type 0 = λ t. OnOk c.put_lacks.result (c.put_lacks.new.telling ≡ t) in
    let same = lacks_behind c.args.telling.now _ c.tell_members.new.telling _ c.args.room c.args.item.now.value.at c.count-count.ensures c.in-Ok.ensures in
    subst P same c.put_lacks.ensures
