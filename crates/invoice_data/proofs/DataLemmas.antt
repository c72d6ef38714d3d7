-- Data of what was told.
use Rattle.std.proofs.Common.{◌≡◌, List, [], sym, subst, ◌↔◌, Contains}
use Rattle.code_lists.specs.CodeFiles.{Lists}
use Rattle.inv_terms.specs.declared.entries.Entry.{Entry}
use Rattle.invoice_data.specs.declared.data.Data.{Data}
use Rattle.invoice_data.specs.declared.data.Data.TheVariants as data_
use Rattle.invoice_data.specs.declared.telling.Found.{Found}
use Rattle.invoice_data.specs.Told.{Told}
use Rattle.invoice_data.specs.Data.{entries, IsWhole, IsData, Says}

pub whole_data : (es : List Entry) (founds : List Found) (lists : Lists) (d : Data) → ((e : Entry) → (Contains es e ↔ Contains (entries founds) e))
    → IsWhole es lists d → IsData founds lists d
whole_data es founds lists (data_.Invoice i) same h =
    let P : List Entry → Type 0 = λ l. (e : Entry) → (Contains l e ↔ Contains (entries founds) e) in
    (subst P (sym h.0) same, h.1)
whole_data es founds lists (data_.Faults faults) same h = h

pub data_said : (t : Told) (founds : List Found) (lists : Lists) (d : Data) → founds ≡ t.founds → t.faults ≡ [] → IsData founds lists d → Says lists d t
data_said t founds lists (data_.Invoice i) same none h =
    let P : List Found → Type 0 = λ fs. IsData fs lists (data_.Invoice i) in
    (none, subst P same h)
data_said t founds lists (data_.Faults faults) same none h = absurd h
