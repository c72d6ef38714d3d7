-- Private functions that look at the last entry alone: what they answer. No public clause cites it.
use Rattle.std.specs.Prelude.{Bool, ◌&&◌, Option, Some, None, ℕ, if◌then◌else◌}
use Rattle.term_table.specs.declared.groups.Group.{Group}
use Rattle.term_table.specs.declared.contexts.Context.{Context}
use Rattle.inv_terms.specs.declared.entries.Entry.{Entry}
use Rattle.term_table.specs.Contexts.{same_slot}
use Rattle.inv_terms.specs.Listing.{index_in, is_last_or_next}

-- the number of the group's last occurrence, if the last entry stands in one
abbrev pub outer_behind : Option Entry → Group → ℕ
outer_behind None group = 0
outer_behind (Some last) group = index_in group last.context.outer

abbrev pub inner_behind : Option Entry → Context → Group → ℕ
inner_behind None context group = 0
inner_behind (Some last) context group = if same_slot last.context.outer context.outer then index_in group last.context.inner else 0

abbrev pub is_next_behind : Option Entry → Context → Bool
is_next_behind last context = is_last_or_next (outer_behind last) context.outer && is_last_or_next (inner_behind last context) context.inner
