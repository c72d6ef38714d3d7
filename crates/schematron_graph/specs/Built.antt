-- Rules that were built, each behind those that it puts: what stands at the place of each, by the ranked bodies.
use Rattle.std.specs.Prelude.{◌≡◌, ℕ, suc, Bool, true, false, ◌&&◌, List, [], ◌∷◌, ◌++◌, length, slice_get, Option, Some, None, is_some}
use Rattle.std.specs.List.{list_all, count_by, flat_map}
use Rattle.schematron_graph.specs.declared.part.Part.{Part}
use Rattle.schematron_graph.specs.declared.part.Part.TheVariants.{Own, Puts}
use Rattle.schematron_graph.specs.declared.building.Substitute.{Substitute}
use Rattle.schematron_graph.specs.declared.building.Substitute.TheVariants.{Nothing, One}
use Rattle.schematron_graph.specs.Rules.{body_of, most_depth, ends_within, things_within, things_of}
use Rattle.schematron_graph.specs.Ranked.{found, things_behind, is_below}

-- the parts that stand at the place of a rule
abbrev pub parts_put : Substitute → List Part
parts_put Nothing = []
parts_put (One part) = part ∷ []

abbrev pub parts_found : Option (Option Substitute) → List Part
parts_found (Some (Some put)) = parts_put put
parts_found (Some None) = []
parts_found None = []

-- what stands at the place of a part once the rules are built
abbrev pub built_part : List (Option Substitute) → Part → List Part
built_part puts (Own thing) = Own thing ∷ []
built_part puts (Puts rule) = parts_found (slice_get puts rule)

abbrev pub built_body : List (Option Substitute) → List Part → List Part
built_body puts body = flat_map (built_part puts) body

-- A rule is built, or isn't there.
abbrev pub is_built_found : Option (Option Substitute) → Bool
is_built_found None = true
is_built_found (Some put) = is_some put

abbrev pub is_settled : List (Option Substitute) → ℕ → Bool
is_settled puts rule = is_built_found (slice_get puts rule)

-- the rule that the part puts is built
abbrev pub is_ready_part : List (Option Substitute) → Part → Bool
is_ready_part puts (Own thing) = true
is_ready_part puts (Puts rule) = is_settled puts rule

abbrev pub is_ready : List (Option Substitute) → List Part → Bool
is_ready puts body = list_all (is_ready_part puts) body

-- how many rules are built
abbrev pub built_count : List (Option Substitute) → ℕ
built_count puts = count_by is_some puts

-- What was built of a rule is right: it ends, and its things are those of the parts at its place.
pub record FitsRule (rules ranked : List (List Part)) (count rule : ℕ) (put : Substitute) : Type 0 where
  pub ends_there : ends_within (suc count) rules rule ≡ true
  pub below : list_all (is_below (length ranked)) (parts_put put) ≡ true
  pub things : flat_map (things_of (found (things_behind ranked))) (parts_put put) ≡ things_within (most_depth rules) rules rule

-- All that was built is right.
pub record Fits (rules ranked : List (List Part)) (puts : List (Option Substitute)) : Type 0 where
  pub whole : length puts ≡ length rules
  pub each : (rule : ℕ) (put : Substitute) → slice_get puts rule ≡ Some (Some put) → FitsRule rules ranked (built_count puts) rule put

-- Each rule that isn't built puts one that isn't.
abbrev pub IsClosed : List (List Part) → List (Option Substitute) → Type 0
IsClosed rules puts = (rule : ℕ) → slice_get puts rule ≡ Some None → is_ready puts (body_of rules rule) ≡ false

-- The rule isn't built, and those that it puts are.
abbrev pub is_unbuilt_found : Option (Option Substitute) → Bool
is_unbuilt_found (Some None) = true
is_unbuilt_found (Some (Some put)) = false
is_unbuilt_found None = false

abbrev pub is_next : List (List Part) → List (Option Substitute) → ℕ → Bool
is_next rules puts rule = is_unbuilt_found (slice_get puts rule) && is_ready puts (body_of rules rule)

-- the ranked bodies with one more, if it has two parts or more
abbrev pub ranked_with : List (List Part) → List Part → List (List Part)
ranked_with ranked [] = ranked
ranked_with ranked (part ∷ []) = ranked
ranked_with ranked (part ∷ other ∷ parts) = ranked ++ (part ∷ other ∷ parts) ∷ []

-- what stands at its place
abbrev pub put_with : List (List Part) → List Part → Substitute
put_with ranked [] = Nothing
put_with ranked (part ∷ []) = One part
put_with ranked (part ∷ other ∷ parts) = One (Puts (length ranked))
