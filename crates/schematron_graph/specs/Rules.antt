-- Rules whose bodies have things of their own and put the things of other rules (ISO/IEC 19757-3, section 5.4.12,
-- `extends`): which rules end, and what stands at the place of one that is put.
use Rattle.std.specs.Prelude.{ℕ, zero, suc, Bool, true, false, ◌||◌, nat_eq, List, [], ◌∷◌, length, map, slice_index_or, Vec}
use Rattle.std.specs.List.{list_all, list_any, flat_map}
use Rattle.schematron_graph.specs.declared.part.Thing.{Thing}
use Rattle.schematron_graph.specs.declared.part.Part.{Part}
use Rattle.schematron_graph.specs.declared.part.Part.TheVariants.{Own, Puts}

-- the bodies of rules by their numbers, as lists
abbrev pub bodies_of : {Z : Type 0} → List (Vec Part Z) → List (List Part)
bodies_of {Z} bodies = map (λ (body : Vec Part Z). body.items) bodies

-- the body of a rule; one that isn't there is empty
abbrev pub body_of : List (List Part) → ℕ → List Part
body_of bodies rule = slice_index_or bodies rule []

abbrev pub part_ends : (ℕ → Bool) → Part → Bool
part_ends ends (Own thing) = true
part_ends ends (Puts rule) = ends rule

-- A chain of rules, each of which puts the next, has at most so many rules where it begins with this one.
abbrev pub ends_within : ℕ → List (List Part) → ℕ → Bool
ends_within zero bodies rule = false
ends_within (suc depth) bodies rule = list_all (part_ends (ends_within depth bodies)) (body_of bodies rule)

-- A chain of different rules has at most so many, a last one that isn't there included.
abbrev pub most_depth : List (List Part) → ℕ
most_depth bodies = suc (length bodies)

-- The rule ends: no chain from it goes on for longer.
abbrev pub ends : List (List Part) → ℕ → Bool
ends bodies rule = ends_within (most_depth bodies) bodies rule

-- the things of a part, by what stands at the place of a rule
abbrev pub things_of : (ℕ → List Thing) → Part → List Thing
things_of given (Own thing) = thing ∷ []
things_of given (Puts rule) = given rule

-- the things of a rule and of those that it puts, down to that depth
abbrev pub things_within : ℕ → List (List Part) → ℕ → List Thing
things_within zero bodies rule = []
things_within (suc depth) bodies rule = flat_map (things_of (things_within depth bodies)) (body_of bodies rule)

abbrev pub things_where : Bool → ℕ → List (List Part) → ℕ → List Thing
things_where true depth bodies rule = things_within depth bodies rule
things_where false depth bodies rule = []

-- what stands at the place of a rule: nothing where it doesn't end
abbrev pub things_put : List (List Part) → ℕ → List Thing
things_put bodies rule = things_where (ends bodies rule) (most_depth bodies) bodies rule

-- what a body is, with what the rules that it puts have
abbrev pub expansion : List (List Part) → List Part → List Thing
expansion bodies body = flat_map (things_of (things_put bodies)) body

-- Rules that lead back to themselves

abbrev pub part_leads : (ℕ → Bool) → ℕ → Part → Bool
part_leads leads other (Own thing) = false
part_leads leads other (Puts rule) = nat_eq rule other || leads rule

-- A chain of at most so many rules, each of which puts the next, leads from the rule to the other.
abbrev pub leads_within : ℕ → List (List Part) → ℕ → ℕ → Bool
leads_within zero bodies other rule = false
leads_within (suc depth) bodies other rule = list_any (part_leads (leads_within depth bodies other) other) (body_of bodies rule)

-- The part puts the rule in which it stands, or one that leads back to it.
abbrev pub is_back : List (List Part) → ℕ → Part → Bool
is_back bodies rule part = part_leads (leads_within (length bodies) bodies rule) rule part
