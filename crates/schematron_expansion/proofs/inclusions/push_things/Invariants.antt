use Rattle.std.proofs.Common.{◌≡◌, ◌++◌, map, take}
use Rattle.std.specs.Prelude.{flat_map}
use Rattle.schematron_expansion.specs.Seen.{seen_put}
use Rattle.schematron_expansion.proofs.PutLemmas.{at_thing}
use Rattle.schematron_expansion.proofs.inclusions.push_things.Given as goal

-- the things so far
abbrev pub invariant-things : goal.invariant-things
invariant-things l = map seen_put l.found.items ≡ map seen_put l.fn.found.items ++ flat_map (at_thing l.file l.stand) (take l.thing-index l.thing-items)
