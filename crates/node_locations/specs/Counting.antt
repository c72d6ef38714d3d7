-- How nodes are counted among their siblings. No public clause cites it.
use Rattle.std.specs.Prelude.{◌≡◌, ℕ, zero, suc, ◌+◌, ◌<◌, ◌==◌, ◌&&◌, Bool, true, if◌then◌else◌, List, length, get_or, Option, Some, None}
use Rattle.node_arena.specs.Document.{Document, node_at}
use Rattle.node_arena.specs.Moves.{tree_nodes, tree_node, is_child}
use Rattle.node_locations.specs.declared.counting.Seen.{Seen}
use Rattle.node_locations.specs.Locations.{ordinal}

-- what a child is counted with: 0 of texts, and behind it the names by their numbers
abbrev pub key : Option ℕ → ℕ
key None = 0
key (Some name) = name + 1

abbrev pub none_seen : Seen
none_seen = record { parent = 0; count = 0 }

-- what is kept says nothing of any other parent
abbrev pub seen_of : ℕ → Seen → ℕ
seen_of parent kept = if kept.parent == parent then kept.count else 0

-- how many children of the parent and the key were seen
abbrev pub seen : List Seen → ℕ → ℕ → ℕ
seen table parent k = seen_of parent (get_or table k none_seen)

-- how many of the first n numbers pass
abbrev pub tally : (ℕ → Bool) → ℕ → ℕ
tally test zero = 0
tally test (suc n) = (if test n then 1 else 0) + tally test n

-- The node of that number is a child of the parent, and counted with this key.
abbrev pub is_keyed : Document → ℕ → ℕ → ℕ → Bool
is_keyed document parent k n = is_child parent (tree_node (tree_nodes document) n) && key (node_at document.nodes n).name == k

-- the number of the next child, or how many nodes there are behind the last
abbrev pub reach : ℕ → Option ℕ → ℕ
reach count None = count
reach count (Some n) = n

-- The children of the nodes before this one have their ordinals.
abbrev pub AreCounted : Document → ℕ → List ℕ → Type 0
AreCounted document bound counts = (p n : ℕ) → p < bound → n < length document.nodes → is_child p (tree_node (tree_nodes document) n) ≡ true
    → get_or counts n 0 ≡ ordinal (tree_nodes document) n
