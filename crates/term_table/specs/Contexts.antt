-- Contexts: the invoice itself, one occurrence of a group that may stand several times, or one occurrence of such a
-- group inside an occurrence of another. No group stands inside more than two.
use Rattle.std.specs.Prelude.{Bool, true, false, ◌&&◌, ◌||◌, ◌==◌, List, [], ◌∷◌, Option, Some, None, filter, is_none}
use Rattle.term_table.specs.declared.groups.Group.{Group}
use Rattle.term_table.specs.declared.contexts.Slot.{Slot}
use Rattle.term_table.specs.declared.contexts.Context.{Context}
use Rattle.term_table.specs.Groups.{same_group, parent_of, is_repeated}

-- the groups around a group's terms that may stand several times, from the inside
abbrev pub repeated_around : Group → List Group
repeated_around group = filter is_repeated (group ∷ parent_of group ∷ parent_of (parent_of group) ∷ [])

abbrev pub outermost : List Group → Option Group
outermost [] = None
outermost (g ∷ []) = Some g
outermost (g ∷ h ∷ gs) = Some h

abbrev pub innermost : List Group → Option Group
innermost [] = None
innermost (g ∷ []) = None
innermost (g ∷ h ∷ gs) = Some g

-- the group of the outer slot and the group of the inner slot, for the terms of a group
abbrev pub outer_group : Group → Option Group
outer_group group = outermost (repeated_around group)

abbrev pub inner_group : Group → Option Group
inner_group group = innermost (repeated_around group)

-- the group of a slot
abbrev pub slot_group : Option Slot → Option Group
slot_group None = None
slot_group (Some slot) = Some slot.group

-- Both are the same group, or both are none.
abbrev pub same_groups : Option Group → Option Group → Bool
same_groups None None = true
same_groups None (Some b) = false
same_groups (Some a) None = false
same_groups (Some a) (Some b) = same_group a b

-- The group's terms stand in occurrences of these groups: of the outer one, and of the inner one inside it.
abbrev pub stands_in : Group → Option Group → Option Group → Bool
stands_in group outer inner = same_groups outer (outer_group group) && same_groups inner (inner_group group)

-- The group's terms stand in such a context.
abbrev pub has_context : Group → Context → Bool
has_context group context = stands_in group (slot_group context.outer) (slot_group context.inner)

abbrev pub same_slot : Option Slot → Option Slot → Bool
same_slot None None = true
same_slot None (Some b) = false
same_slot (Some a) None = false
same_slot (Some a) (Some b) = same_group a.group b.group && (a.index == b.index)

abbrev pub same_context : Context → Context → Bool
same_context a b = same_slot a.outer b.outer && same_slot a.inner b.inner

-- The second context is the first or one inside it.
abbrev pub is_inside : Context → Context → Bool
is_inside around context = (is_none around.outer || same_slot around.outer context.outer) && (is_none around.inner || same_slot around.inner context.inner)

abbrev pub root_context : Context
root_context = record { outer = None; inner = None }

-- the context of the outer slot alone
abbrev pub outer_context : Context → Context
outer_context context = record { outer = context.outer; inner = None }
