use Rattle.std.proofs.Common.{◌≡◌, drop}
use Rattle.bind_walk.specs.Walks.{carried}
use Rattle.bind_walk.proofs.walk.carrier.Given as goal

abbrev pub invariant-around : goal.invariant-around
invariant-around l = carried l.group (drop l.carried-index l.around) ≡ carried l.group l.around
