use Rattle.std.proofs.Common.{◌≡◌, ◌↔◌, flat_map, Contains}
use Rattle.std.proofs.lemmas.List.Sorted.{All-permutation}
use Rattle.std.proofs.lemmas.Result.{IfOk-weaker}
use Rattle.inv_terms.specs.declared.entries.Entry.{Entry}
use Rattle.invoice_data.specs.Data.{FitsFound, entries, entries_of}
use Rattle.invoice_data.proofs.EntryLemmas.{same_entries}
use Rattle.invoice_data.proofs.reading.listed.Goals as goal

pub invoice_of-requires : goal.invoice_of-requires
invoice_of-requires c = All-permutation FitsFound c.args.unsorted.items c.sort.new.founds.items c.in-Ok.ensures c.requires

pub returns-in-Ok : goal.returns-in-Ok
returns-in-Ok c =
    IfOk-weaker c.invoice_of.result (λ invoice. invoice ≡ flat_map entries_of c.sort.new.founds.items)
    (λ invoice. (e : Entry) → (Contains invoice e ↔ Contains (entries c.args.unsorted.items) e))
    (λ invoice same. same_entries c.args.unsorted.items c.sort.new.founds.items invoice c.in-Ok.ensures same) c.invoice_of.ensures
