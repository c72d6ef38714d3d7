use Rattle.std.proofs.Common.{◌≡◌, take}
use Rattle.bind_table.proofs.listing.copies.Given as goal

abbrev pub invariant-steps : goal.invariant-steps
invariant-steps l = l.steps ≡ take l.step-index l.path
