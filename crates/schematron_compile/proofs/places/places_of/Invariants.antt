use Rattle.std.proofs.Common.{take}
use Rattle.schematron_compile.specs.Lent.{lent_instances}
use Rattle.schematron_compile.specs.Places as spec
use Rattle.schematron_compile.proofs.places.places_of.Given as goal

-- the places of the patterns so far
abbrev pub invariant-instances : goal.invariant-instances
invariant-instances l = spec.ArePlaces (spec.places_in l.places) (spec.ids_of (lent_instances (take l.place l.instances)))
