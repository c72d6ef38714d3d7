use Rattle.std.proofs.Common.{map, take}
use Rattle.std.specs.Prelude.{flat_map}
use Rattle.schematron_expansion.specs.Seen.{seen_put, Tells}
use Rattle.schematron_expansion.proofs.PutLemmas.{at_thing}
use Rattle.schematron_expansion.proofs.inclusions.tell_things.Given as goal

-- the things so far
abbrev pub invariant-things : goal.invariant-things
invariant-things l = Tells l.fn.firsts.told.keys (map seen_put l.fn.firsts.found.items) l.firsts.told.keys (map seen_put l.firsts.found.items)
    (flat_map (at_thing l.file l.stand) (take l.thing-index l.thing-items))
