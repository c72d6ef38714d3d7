use Rattle.std.proofs.Common.{◌≡◌, drop}
use Rattle.bind_table.specs.Items.{made_by_all}
use Rattle.bind_table.specs.Making.{CanMake, made_of}
use Rattle.bind_table.proofs.listing.make_all.Given as goal

abbrev pub invariant-items : goal.invariant-items
invariant-items l = record {
  left : CanMake (drop l.item-index l.items) (made_of l.listing);
  same : made_by_all (drop l.item-index l.items) (made_of l.listing) ≡ made_by_all l.items (made_of l.initial.listing);
}
