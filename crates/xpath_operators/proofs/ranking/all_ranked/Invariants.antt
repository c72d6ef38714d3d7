use Rattle.std.proofs.Common.{◌≡◌, map, take}
use Rattle.xpath_operators.proofs.ranking.all_ranked.Given as goal

abbrev pub invariant-items : goal.invariant-items
invariant-items l = map (λ known. known.item.now) l.ranked.items ≡ take l.item-index l.items
