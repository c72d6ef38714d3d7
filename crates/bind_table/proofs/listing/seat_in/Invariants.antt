use Rattle.std.proofs.Common.{◌≡◌, drop}
use Rattle.bind_table.specs.Items.{inside_all, seat_in}
use Rattle.bind_table.proofs.listing.seat_in.Given as goal

abbrev pub invariant-steps : goal.invariant-steps
invariant-steps l = inside_all l.seat (drop l.step-index l.path) ≡ seat_in l.path
