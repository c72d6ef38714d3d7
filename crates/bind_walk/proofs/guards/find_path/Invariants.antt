use Rattle.std.proofs.Common.{◌≡◌, map, take}
use Rattle.bind_walk.specs.Found.{found_element}
use Rattle.bind_walk.proofs.guards.find_path.Given as goal

abbrev pub invariant-names : goal.invariant-names
invariant-names l = l.found ≡ map (found_element l.doc) (take l.name-index l.path)
