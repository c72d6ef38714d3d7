-- What was found for one reason, sorted, is what the rows of that sort pick in document order.
use Rattle.std.proofs.Common.{◌≡◌, ℕ, suc, ◌+◌, ◌<◌, Bool, List, [], ◌∷◌, length, map, get_or, refl, ap, sym, ◌∙◌, subst, arith}
use Rattle.std.specs.Prelude.{is_some, All}
use Rattle.std.specs.List.{flat_map, sum_by}
use Rattle.std.proofs.lemmas.List.{length-map}
use Rattle.std.proofs.lemmas.List.Sorted.{sum_by-IsPermutation}
use Rattle.inv_base.specs.Tree.{Node}
use Rattle.node_arena.specs.Document.{Document}
use Rattle.node_arena.specs.Moves.{node_of, tree_nodes}
use Rattle.bind_rows.specs.declared.rows.Row.{Row}
use Rattle.bind_rows.specs.declared.rows.Content.{Content}
use Rattle.bind_rows.specs.declared.rows.Content.TheVariants as contents
use Rattle.bind_rows.specs.declared.rows.Check.{Check}
use Rattle.bind_rows.specs.declared.rows.Check.TheVariants as checks
use Rattle.bind_table.specs.Lines.{plan_of}
use Rattle.bind_table.specs.Limits.{HasSteps}
use Rattle.bind_table.specs.Picks.{picked_from, walked}
use Rattle.bind_meaning.specs.declared.picked.Picked.{Picked}
use Rattle.bind_meaning.specs.Kept.{kept, all_kept}
use Rattle.bind_meaning.specs.Picks.{Pick, Numbered, term_in, has_any_term, rows_where, all_picked}
use Rattle.bind_meaning.specs.Terms.{in_order}
use Rattle.bind_walk.specs.declared.lines.Wanted.{Wanted}
use Rattle.bind_walk.specs.declared.lines.Wanted.TheVariants as wants
use Rattle.bind_walk.specs.declared.finds.Find.{Find}
use Rattle.bind_walk.specs.Finding.{AreFound, RowsAreWalked, SortsPicks}
use Rattle.bind_walk.specs.Lines.{wanted, wanted_by}
use Rattle.bind_walk.specs.Picks.{is_indicator, indicator_in}
use Rattle.bind_walk.specs.Sorting.{order, Sorts}
use Rattle.bind_walk.specs.Finds.{picked_for}
use Rattle.bind_walk.specs.Walks.{sight, strolled, LeadsAlike}
use Rattle.bind_walk.proofs.SortLemmas.{Every, up-sorted, up-map, unique, sum-flat_map, sum-map}
use Rattle.bind_walk.proofs.LinkLemmas.{none}
use Rattle.bind_walk.proofs.StrollLemmas.{strolled-sum}
use Rattle.bind_walk.proofs.PathLemmas.{is_for, rows-pick}
use Rattle.bind_walk.proofs.OrderLemmas.{IsNested, From, NotAbove, order-exact, order-total, all-before, all-inside, rows-up, in_order-up, in_order-counts}

pub from-places : (n : ℕ) (nodes : List Node) → ((k : ℕ) → k < length nodes → (get_or nodes k none).number ≡ n + k) → From n nodes
from-places n [] h = tt
from-places n (node ∷ nodes) h = (
  h 0 (omega arith) ∙ (let e : n + 0 ≡ n = omega arith in e),
  from-places (n + 1) nodes (λ k l. h (suc k) (omega (arith, l)) ∙ (let e : n + suc k ≡ n + 1 + k = omega arith in e)),
)

-- What is found by the lines of a table is what its rows pick, in another order.
pub are-found : (d : Document) (rows : List Row) → RowsAreWalked → LeadsAlike d → All HasSteps rows → AreFound d rows (strolled d (plan_of rows) [] 0)
are-found d rows walking alike long = record {
  moved = λ f.
      sym (sum_by-IsPermutation f (picked_from (sight d) 0 rows [] 0) (walked (sight d) (plan_of rows) [] 0) (walking.moved d rows long))
      ∙ sym (strolled-sum f d alike (plan_of rows) [] 0);
}

term-agrees : (d : Document) (content : Content) (check : Check) → is_some (term_in content) ≡ is_for d wants.Term (wanted_by content check)
term-agrees d (contents.Term term) check = refl
term-agrees d (contents.Constant text) checks.Nothing = refl
term-agrees d (contents.Constant text) checks.Scheme = refl
term-agrees d (contents.Constant text) checks.Format = refl
term-agrees d (contents.Constant text) (checks.Indicator term) = refl

indicator-agrees : (d : Document) (content : Content) (check : Check) → indicator_in content check ≡ is_for d wants.Indicator (wanted_by content check)
indicator-agrees d (contents.Term term) check = refl
indicator-agrees d (contents.Constant text) checks.Nothing = refl
indicator-agrees d (contents.Constant text) checks.Scheme = refl
indicator-agrees d (contents.Constant text) checks.Format = refl
indicator-agrees d (contents.Constant text) (checks.Indicator term) = refl

module _ (d : Document) (nested : IsNested d) (some : 0 < length d.nodes) where
  numbers : From 0 (tree_nodes d)
  numbers = from-places 0 (tree_nodes d) (λ k l. nested.read.numbers k (omega (arith, l, length-map d.nodes (node_of d.names)))
      ∙ (let e : k ≡ 0 + k = omega arith in e))

  module _ (w : Wanted) (test : Row → Bool) (agree : (row : Row) → test row ≡ is_for d w (wanted row)) (rows : List Row) (finds : List Find)
      (picks : List Picked)
      (found : AreFound d rows finds) (sorts : Sorts (flat_map (picked_for w) finds) picks) where
    counts : (f : Picked → ℕ) → sum_by f (map kept (in_order (tree_nodes d) (all_picked (tree_nodes d) (rows_where test rows)))) ≡ sum_by f picks
    counts f =
        let ps = all_picked (tree_nodes d) (rows_where test rows) in
        let raw = picked_from (sight d) 0 rows [] 0 in
        let inside : Every (λ (p : Pick). p.node < length (tree_nodes d)) ps =
        subst (λ n. Every (λ (p : Pick). p.node < n) ps) (sym (length-map d.nodes (node_of d.names))) (all-inside d nested some (rows_where test rows)) in
        sum-map f kept (in_order (tree_nodes d) ps)
        ∙ (in_order-counts (λ p. f (kept p)) (tree_nodes d) ps numbers inside
        ∙ (sym (sum-map f kept ps)
        ∙ (ap (sum_by f) (sym (rows-pick d w test agree 0 rows))
        ∙ (sum-flat_map f (picked_for w) raw
        ∙ (found.moved (λ x. sum_by f (picked_for w x))
        ∙ (sym (sum-flat_map f (picked_for w) finds) ∙ sym (sum_by-IsPermutation f (flat_map (picked_for w) finds) picks sorts.moved)))))))

    pub sorted-picks : picks ≡ all_kept (in_order (tree_nodes d) (all_picked (tree_nodes d) (rows_where test rows)))
    sorted-picks =
        let ps = all_picked (tree_nodes d) (rows_where test rows) in
        unique order order-total order-exact picks (map kept (in_order (tree_nodes d) ps)) counts (up-sorted order order-total order-exact picks sorts.sorted)
        (up-map NotAbove kept (in_order (tree_nodes d) ps)
        (in_order-up 0 (tree_nodes d) ps numbers (all-before d nested some (rows_where test rows) (rows-up (λ (r : Numbered). test r.row) 1 rows))))

  pub sorts-picks : SortsPicks d
  sorts-picks = record {
    terms = λ rows finds picks found sorts. sorted-picks wants.Term has_any_term (λ row. term-agrees d row.content row.check) rows finds picks found sorts;
    indicators = λ rows finds picks found sorts. sorted-picks wants.Indicator is_indicator
        (λ row. indicator-agrees d row.content row.check) rows finds picks found sorts;
  }
