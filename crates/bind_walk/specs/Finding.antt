-- How what is found by lines is what rows pick. No public clause cites it.
use Rattle.std.specs.Prelude.{◌≡◌, ℕ, All, List, []}
use Rattle.std.specs.List.{flat_map, sum_by}
use Rattle.std.specs.List.Sorted.{IsPermutation}
use Rattle.node_arena.specs.Document.{Document}
use Rattle.node_arena.specs.Moves.{tree_nodes}
use Rattle.bind_rows.specs.declared.rows.Row.{Row}
use Rattle.bind_table.specs.Lines.{flat, plan_of}
use Rattle.bind_table.specs.Limits.{HasSteps}
use Rattle.bind_table.specs.Picks.{picked_from, walked}
use Rattle.bind_meaning.specs.declared.picked.Picked.{Picked}
use Rattle.bind_meaning.specs.Kept.{all_kept}
use Rattle.bind_meaning.specs.Picks.{has_any_term, rows_where, all_picked}
use Rattle.bind_meaning.specs.Terms.{in_order}
use Rattle.bind_walk.specs.declared.lines.Wanted.TheVariants as wants
use Rattle.bind_walk.specs.declared.finds.Find.{Find}
use Rattle.bind_walk.specs.Finds.{picked_for}
use Rattle.bind_walk.specs.Lines.{found_lines, lined}
use Rattle.bind_walk.specs.Picks.{is_indicator}
use Rattle.bind_walk.specs.Sorting.{Sorts}
use Rattle.bind_walk.specs.Walks.{sight}

-- What was found is what the rows pick, in another order: every sum over both is the same.
pub record AreFound (d : Document) (rows : List Row) (finds : List Find) : Type 0 where
  pub moved : (f : Find → ℕ) → sum_by f (picked_from (sight d) 0 rows [] 0) ≡ sum_by f finds

pub record RowsAreWalked : Type 0 where
  pub moved : (d : Document) (rows : List Row) → All HasSteps rows → IsPermutation (picked_from (sight d) 0 rows [] 0) (walked (sight d) (plan_of rows) [] 0)
  pub lines : (d : Document) (rows : List Row) → found_lines d rows (flat (plan_of rows)) ≡ lined d (plan_of rows)

-- What was found for one reason, in order, is what the rows of that sort pick.
pub record SortsPicks (d : Document) : Type 0 where
  pub terms : (rows : List Row) (finds : List Find) (picks : List Picked) → AreFound d rows finds
      → Sorts (flat_map (picked_for wants.Term) finds) picks
      → picks ≡ all_kept (in_order (tree_nodes d) (all_picked (tree_nodes d) (rows_where has_any_term rows)))
  pub indicators : (rows : List Row) (finds : List Find) (picks : List Picked) → AreFound d rows finds
      → Sorts (flat_map (picked_for wants.Indicator) finds) picks
      → picks ≡ all_kept (in_order (tree_nodes d) (all_picked (tree_nodes d) (rows_where is_indicator rows)))
