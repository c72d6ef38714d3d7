use Rattle.std.proofs.Common.{◌≡◌, ◌++◌, All, flat_map, length}
use Rattle.std.specs.Vec.Iter.{into_iter_items, into_iter_len}
use Rattle.invoice_data.specs.Data.{FitsFound, entries_of}
use Rattle.invoice_data.proofs.reading.put_all.Given as goal

-- the invoice so far, and the entries to come, are the invoice before and all entries
abbrev pub invariant-founds : goal.invariant-founds
invariant-founds l = record {
  same : l.invoice ++ flat_map entries_of (into_iter_items l.found-iterator) ≡ l.initial.invoice ++ flat_map entries_of l.fn.founds.items;
  fit : All FitsFound (into_iter_items l.found-iterator);
  len : into_iter_len l.found-iterator ≡ length (into_iter_items l.found-iterator);
}
