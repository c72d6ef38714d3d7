use Rattle.std.proofs.Common.{◌≡◌, take}
use Rattle.bind_rows.proofs.copies.ManyCopied.copied.Given as goal

abbrev pub invariant-items : goal.invariant-items
invariant-items g l = l.copies ≡ take l.item-index l.item-items
