use Rattle.std.proofs.Common.{◌≡◌, ◌<◌, ℕ, false, length, get_or}
use Rattle.xpath_items.specs.declared.item.Item.{Item}
use Rattle.xpath_operators.specs.Ranks.{item_cmp}
use Rattle.xpath_operators.specs.Rows.{decides}
use Rattle.xpath_operators.proofs.searching.deciding.Given as goal

abbrev pub invariant-items : goal.invariant-items
invariant-items l = record {
  within : l.best < length l.items;
  best : (n : ℕ) (d : Item) → n < l.k → decides l.op (item_cmp (get_or l.items n d) (get_or l.items l.best d)) ≡ false;
}
