-- Where picks stand in an invoice: in the invoice itself, in an occurrence of a group, or in one inside another (EN 16931-1, section 6.2).
-- An element of a repeated group is an occurrence where some row of the group, or of a group inside it, picks something in it;
-- occurrences are numbered from 1 in document order, those of an inner group in each occurrence of the outer one.
use Rattle.std.specs.Prelude.{ℕ, ◌+◌, nat_lt, Bool, not, ◌&&◌, List, [], ◌∷◌, ◌++◌, length, filter, flat_map, Option, Some, None, option_map, option_and_then}
use Rattle.inv_base.specs.Tree.{Node, is_among}
use Rattle.term_table.specs.declared.groups.Group.{Group}
use Rattle.term_table.specs.declared.contexts.Slot.{Slot}
use Rattle.term_table.specs.declared.contexts.Context.{Context}
use Rattle.term_table.specs.Contexts.{same_context, root_context, outer_context}
use Rattle.bind_rows.specs.Same.{same_or_none}
use Rattle.bind_meaning.specs.declared.picked.Seated.{Seated}
use Rattle.bind_meaning.specs.Picks.{Pick, carrier_in}

-- The pick stands in an occurrence of the group, or of the group inside one of the other.
abbrev pub is_of_outer : Group → Pick → Bool
is_of_outer group pick = same_or_none pick.row.outer (Some group)

abbrev pub is_of_inner : Group → Pick → Bool
is_of_inner group pick = same_or_none pick.row.inner (Some group)

abbrev pub listed : Option ℕ → List ℕ
listed None = []
listed (Some n) = n ∷ []

-- the elements that are occurrences of a group, as often as something is picked in them
abbrev pub outer_elements : List Pick → Group → List ℕ
outer_elements picks group = flat_map (λ pick. listed (carrier_in pick group)) (filter (is_of_outer group) picks)

-- the same inside an element of an outer group
abbrev pub is_inside_of : Group → ℕ → Pick → Bool
is_inside_of group n pick = is_among n (listed (carrier_in pick group))

abbrev pub inner_elements : List Pick → Group → ℕ → Group → List ℕ
inner_elements picks outer n group = flat_map (λ pick. listed (carrier_in pick group))
    (filter (λ pick. is_of_inner group pick && is_inside_of outer n pick) picks)

-- the number of an element among others, from 1
abbrev pub place_among : List Node → List ℕ → ℕ → ℕ
place_among nodes elements n = 1 + length (filter (λ (node : Node). nat_lt node.number n && is_among node.number elements) nodes)

abbrev pub outer_at : List Node → List Pick → Group → ℕ → Seated
outer_at nodes picks group n = record { slot = record { group = group; index = place_among nodes (outer_elements picks group) n }; element = n }

abbrev pub inner_at : List Node → List Pick → Group → ℕ → Group → ℕ → Seated
inner_at nodes picks outer n group m = record { slot = record { group = group; index = place_among nodes (inner_elements picks outer n group) m }; element = m }

-- the occurrence of the outer group in which a pick stands, and that of the inner one
abbrev pub outer_seat : List Node → List Pick → Pick → Option Seated
outer_seat nodes picks pick = option_and_then (λ group. option_map (outer_at nodes picks group) (carrier_in pick group)) pick.row.outer

abbrev pub inner_within : List Node → List Pick → Pick → Group → ℕ → Option Seated
inner_within nodes picks pick outer n =
    option_and_then (λ group. option_map (inner_at nodes picks outer n group) (carrier_in pick group)) pick.row.inner

abbrev pub inner_seat : List Node → List Pick → Pick → Option Seated
inner_seat nodes picks pick =
    option_and_then (λ outer. option_and_then (inner_within nodes picks pick outer) (carrier_in pick outer)) pick.row.outer

abbrev pub slot_of : Option Seated → Option Slot
slot_of seat = option_map (λ (s : Seated). s.slot) seat

-- A pick with its context, and the elements of that context.
pub record Placed : Type 0 where
  pub pick : Pick
  pub outer : Option Seated
  pub inner : Option Seated

abbrev pub placed : List Node → List Pick → Pick → Placed
placed nodes picks pick = record { pick = pick; outer = outer_seat nodes picks pick; inner = inner_seat nodes picks pick }

abbrev pub context_of : Placed → Context
context_of p = record { outer = slot_of p.outer; inner = slot_of p.inner }

-- ---- the contexts of a document, each with its element

pub record Room : Type 0 where
  pub context : Context
  pub element : ℕ

-- the invoice itself, whose element is the root
abbrev pub whole : Room
whole = record { context = root_context; element = 1 }

abbrev pub outer_room : Placed → List Room
outer_room p = elim p.outer [ None ↦ [] | Some seat ↦ record { context = outer_context (context_of p); element = seat.element } ∷ [] ]

abbrev pub inner_room : Placed → List Room
inner_room p = elim p.inner [ None ↦ [] | Some seat ↦ record { context = context_of p; element = seat.element } ∷ [] ]

abbrev pub each_once : List Room → List Room
each_once [] = []
each_once (room ∷ rooms) = room ∷ filter (λ (other : Room). not (same_context room.context other.context)) (each_once rooms)

abbrev pub rooms : List Placed → List Room
rooms ps = whole ∷ each_once (flat_map (λ p. outer_room p ++ inner_room p) ps)
