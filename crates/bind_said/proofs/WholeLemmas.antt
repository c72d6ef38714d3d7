-- The marked nodes are the said ones.
use Rattle.std.proofs.Common.{◌≡◌, ℕ, suc, ◌+◌, ◌<◌, Bool, true, false, ◌||◌, List, [], ◌∷◌, ◌++◌, length, map, get_or, replicate, refl, ap, sym, ◌∙◌, subst, arith}
use Rattle.std.specs.Prelude.{All}
use Rattle.std.specs.List.{flat_map, list_any}
use Rattle.std.proofs.lemmas.List.{length-map}
use Rattle.std.proofs.lemmas.List.Folds.{list_any-append}
use Rattle.inv_base.specs.Tree.{Node, is_among}
use Rattle.node_arena.specs.Document.{Document}
use Rattle.node_arena.specs.Moves.{node_of, tree_nodes}
use Rattle.bind_rows.specs.declared.rows.Row.{Row}
use Rattle.bind_meaning.specs.declared.picked.Picked.{Picked}
use Rattle.bind_meaning.specs.Kept.{all_kept}
use Rattle.bind_meaning.specs.Picks.{has_any_term, rows_where, all_picked}
use Rattle.bind_meaning.specs.Terms.{in_order}
use Rattle.bind_meaning.specs.Said.{is_picked, is_constant, is_currency, is_format, is_said, said_nodes, says_constant, scheme_rows, term_picks}
use Rattle.bind_walk.proofs.LinkLemmas.{none}
use Rattle.bind_walk.proofs.OrderLemmas.{IsNested, From}
use Rattle.bind_said.specs.Judged.{IsWithin, said_by_pick}
use Rattle.bind_said.specs.Marks.{mark_all}
use Rattle.bind_said.specs.Saying.{said_by_row, said_by_scheme}
use Rattle.bind_said.specs.Whole.{said_by_all, ArePicked, MarksAreSaid}
use Rattle.bind_said.proofs.ListLemmas.{map-same, any-same, among-append, among-flat}
use Rattle.bind_said.proofs.MarkLemmas.{mark-whole}
use Rattle.bind_said.proofs.SayLemmas.{row-says, schemes-say}
use Rattle.bind_said.proofs.PickLemmas.{picks-within, picks-say}

from-places : (n : ℕ) (nodes : List Node) → ((k : ℕ) → k < length nodes → (get_or nodes k none).number ≡ n + k) → From n nodes
from-places n [] h = tt
from-places n (node ∷ nodes) h = (
  h 0 (omega arith) ∙ (let e : n + 0 ≡ n = omega arith in e),
  from-places (n + 1) nodes (λ k l. h (suc k) (omega (arith, l)) ∙ (let e : n + suc k ≡ n + 1 + k = omega arith in e)),
)

module _ (d : Document) (nested : IsNested d) (some : 0 < length d.nodes) where
  numbers : From 0 (tree_nodes d)
  numbers = from-places 0 (tree_nodes d) (λ k l. nested.read.numbers k (omega (arith, l, length-map d.nodes (node_of d.names)))
      ∙ (let e : k ≡ 0 + k = omega arith in e))

  constants-say : (n : ℕ) (rows : List Row)
      → is_among n (flat_map (said_by_row d) rows ++ flat_map (said_by_scheme d) rows) ≡ is_constant (tree_nodes d) rows n
  constants-say n rows =
      among-append n (flat_map (said_by_row d) rows) (flat_map (said_by_scheme d) rows)
      ∙ (ap (λ b. b || is_among n (flat_map (said_by_scheme d) rows))
      (among-flat n (said_by_row d) rows
      ∙ any-same (λ row. is_among n (said_by_row d row)) (says_constant (tree_nodes d) n) (row-says d nested.read n) rows)
      ∙ (ap (λ b. list_any (says_constant (tree_nodes d) n) rows || b) (among-flat n (said_by_scheme d) rows ∙ schemes-say d nested.read n rows)
      ∙ sym (list_any-append (says_constant (tree_nodes d) n) rows (scheme_rows rows))))

  all-said : (rows : List Row) (terms : List Picked) → ArePicked d rows terms → (n : ℕ)
      → is_among n (said_by_all d rows terms) ≡ is_said (tree_nodes d) rows n
  unfolding is_said
  all-said rows terms picked n =
      let ps = term_picks (tree_nodes d) rows in
      let constants = flat_map (said_by_row d) rows ++ flat_map (said_by_scheme d) rows in
      among-append n (flat_map (said_by_pick d rows) terms) constants
      ∙ (ap (λ b. b || is_among n constants)
      (ap (λ ts. is_among n (flat_map (said_by_pick d rows) ts)) picked ∙ picks-say d nested some numbers n has_any_term rows)
      ∙ (ap (λ b. (is_picked ps n || (is_currency (tree_nodes d) ps n || is_format (tree_nodes d) ps n)) || b) (constants-say n rows)
      ∙ swap (is_picked ps n) (is_currency (tree_nodes d) ps n) (is_format (tree_nodes d) ps n) (is_constant (tree_nodes d) rows n)))
    where
      swap : (p c f k : Bool) → ((p || (c || f)) || k) ≡ (p || (k || (c || f)))
      swap true c f k = refl
      swap false true f true = refl
      swap false true f false = refl
      swap false false true true = refl
      swap false false true false = refl
      swap false false false true = refl
      swap false false false false = refl

  pub marks-are-said : MarksAreSaid d
  marks-are-said = record {
    within = λ rows terms picked. subst (All (IsWithin d)) (sym picked) (picks-within d nested some numbers has_any_term rows);
    all = λ rows terms picked.
        ap (λ k. mark_all (replicate k false) (said_by_all d rows terms)) (sym (length-map d.nodes (node_of d.names)))
        ∙ (mark-whole 0 (tree_nodes d) (said_by_all d rows terms) numbers
        ∙ map-same (λ (node : Node). is_among node.number (said_by_all d rows terms)) (λ (node : Node). is_said (tree_nodes d) rows node.number)
        (λ node. all-said rows terms picked node.number) (tree_nodes d));
  }
