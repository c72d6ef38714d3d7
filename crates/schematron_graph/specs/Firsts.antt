-- Things without their copies.
use Rattle.std.specs.Prelude.{ℕ, true, false, nat_eq, List, [], ◌∷◌}
use Rattle.std.specs.List.{list_any}
use Rattle.schematron_graph.specs.declared.part.Thing.{Thing}

-- of each number the first, but for those of which one was told before
abbrev pub firsts_behind : List ℕ → List Thing → List Thing
firsts_behind told [] = []
firsts_behind told (thing ∷ things) = elim (list_any (nat_eq thing.number) told) [
  | true ↦ firsts_behind told things
  | false ↦ thing ∷ firsts_behind (thing.number ∷ told) things
]

-- of each number the first
abbrev pub firsts : List Thing → List Thing
firsts things = firsts_behind [] things
