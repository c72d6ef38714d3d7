-- How the marked nodes are the said ones. No public clause cites it.
use Rattle.std.specs.Prelude.{◌≡◌, ℕ, All, false, List, ◌++◌, length, replicate}
use Rattle.std.specs.List.{flat_map}
use Rattle.node_arena.specs.Document.{Document}
use Rattle.node_arena.specs.Moves.{tree_nodes}
use Rattle.bind_rows.specs.declared.rows.Row.{Row}
use Rattle.bind_meaning.specs.declared.picked.Picked.{Picked}
use Rattle.bind_meaning.specs.Kept.{all_kept}
use Rattle.bind_meaning.specs.Picks.{has_any_term, rows_where, all_picked}
use Rattle.bind_meaning.specs.Terms.{in_order}
use Rattle.bind_meaning.specs.Said.{said_nodes}
use Rattle.bind_said.specs.Judged.{IsWithin, said_by_pick}
use Rattle.bind_said.specs.Marks.{mark_all}
use Rattle.bind_said.specs.Saying.{said_by_row, said_by_scheme}

-- all that is marked
abbrev pub said_by_all : Document → List Row → List Picked → List ℕ
said_by_all d rows terms = flat_map (said_by_pick d rows) terms ++ (flat_map (said_by_row d) rows ++ flat_map (said_by_scheme d) rows)

abbrev pub ArePicked : Document → List Row → List Picked → Type 0
ArePicked d rows terms = terms ≡ all_kept (in_order (tree_nodes d) (all_picked (tree_nodes d) (rows_where has_any_term rows)))

pub record MarksAreSaid (d : Document) : Type 0 where
  pub within : (rows : List Row) (terms : List Picked) → ArePicked d rows terms → All (IsWithin d) terms
  pub all : (rows : List Row) (terms : List Picked) → ArePicked d rows terms
      → mark_all (replicate (length d.nodes) false) (said_by_all d rows terms) ≡ said_nodes (tree_nodes d) rows
