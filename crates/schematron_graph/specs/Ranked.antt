-- Bodies in an order in which each puts only earlier ones, and what is found from one to the next.
use Rattle.std.specs.Prelude.{ℕ, ◌+◌, Bool, true, ◌&&◌, nat_lt, List, [], ◌∷◌, ◌++◌, slice_index_or}
use Rattle.std.specs.List.{list_all, flat_map}
use Rattle.schematron_graph.specs.declared.part.Thing.{Thing}
use Rattle.schematron_graph.specs.declared.part.Part.{Part}
use Rattle.schematron_graph.specs.declared.part.Part.TheVariants.{Own, Puts}
use Rattle.schematron_graph.specs.Rules.{things_of}

-- what is found of the rules, by rank
abbrev pub found : {A : Type 0} → List (List A) → ℕ → List A
found so_far rank = slice_index_or so_far rank []

-- what each body comes to by that of its parts, from what the earlier ones came to
abbrev pub behind : {A : Type 0} → ((ℕ → List A) → Part → List A) → List (List A) → List (List Part) → List (List A)
behind value so_far [] = so_far
behind value so_far (body ∷ bodies) = behind value (so_far ++ flat_map (value (found so_far)) body ∷ []) bodies

-- the things of each rule
abbrev pub things_behind : List (List Part) → List (List Thing)
things_behind bodies = behind things_of [] bodies

abbrev pub is_below : ℕ → Part → Bool
is_below rank (Own thing) = true
is_below rank (Puts rule) = nat_lt rule rank

-- Each body, the first of which has the rank, puts only rules of smaller ranks.
abbrev pub are_ranked : ℕ → List (List Part) → Bool
are_ranked rank [] = true
are_ranked rank (body ∷ bodies) = list_all (is_below rank) body && are_ranked (rank + 1) bodies
