-- One step of the walk over the parts of an expression.
use Rattle.std.proofs.Common.{◌≡◌, ℕ, ◌+◌, ◌<◌, ◌≤◌, ◌-◌, ◌==◌, Bool, true, false, List, [], ◌∷◌, length, get_or, map, drop, Result, Ok, Err, OnOk, refl, sym}
use Rattle.std.proofs.Common.{ap, ◌∙◌, arith}
use Rattle.std.proofs.lemmas.List.{drop_more, at_drop_all, length-drop}
use Rattle.std.proofs.lemmas.Bool.Decides.{nat_tests}
use Rattle.std.proofs.Math.Dec.{eqb-suc-zero}
use Rattle.xpath_grammar.specs.Grammar as g
use Rattle.xpath_grammar.specs.Grammar.{Tree, Parts}
use Rattle.xpath_grammar.specs.View.{view, viewed}
use Rattle.xpath_grammar.specs.declared.expr.Expr.{Expr}
use Rattle.xpath_grammar.specs.declared.expr.Form.{Form}
use Rattle.xpath_grammar.specs.declared.expr.Label.{Label}
use Rattle.xpath_types.specs.declared.kinds.Kinds.{Kinds}
use Rattle.xpath_types.specs.declared.part.Part.{Part}
use Rattle.xpath_types.specs.declared.walk.Walked.{Walked}
use Rattle.xpath_types.specs.Scopes.{Declared}
use Rattle.xpath_types.specs.Judging.{labels, focus_inside, focus_behind, variables_behind, is_last}
use Rattle.xpath_types.specs.Walking.{Seen, walked, walked_parts, part_ended, seen_ended, node_begun, seen_begun, node_ended}

pub labels-viewed : (items : List (Label × Expr)) → labels (viewed items) ≡ map (λ part. part.0) items
labels-viewed [] = refl
labels-viewed (item ∷ items) = ap (λ labels. item.0 ∷ labels) (labels-viewed items)

zero-length : (items : List (Label × Expr)) → is_last (viewed items) ≡ (length items == 0)
zero-length [] = refl
zero-length (item ∷ items) = sym (eqb-suc-zero (length items))

same_test : (n i l : ℕ) → n ≡ l - (i + 1) → i < l → (n == 0) ≡ (i + 1 == l)
same_test n i l e h = grind (arith, nat_tests)

last : (items : List (Label × Expr)) (i : ℕ) → i < length items → is_last (viewed (drop (i + 1) items)) ≡ (i + 1 == length items)
last items i h = zero-length (drop (i + 1) items) ∙ same_test _ i (length items) (length-drop (i + 1) items) h

not_first : (i : ℕ) → false ≡ (i + 1 == 0)
not_first i = grind (arith, nat_tests)

module _ (declared : Declared) (form : Form) (items : List (Label × Expr)) (i : ℕ) (item : Label × Expr) (at : item ≡ get_or items i item)
    (h : i < length items) where
  here : viewed (drop i items) ≡ g.more item.0 (view item.1) (viewed (drop (i + 1) items))
  here = ap viewed (drop_more items i item h) ∙ ap (λ (it : Label × Expr). g.more it.0 (view it.1) (viewed (drop (i + 1) items))) (sym at)

  module _ (inner inner' : Kinds) (bound bound' : List (List ℕ × Kinds)) (so_far so_far' part : Walked) (s s' s'' : Seen) (start : ℕ)
      (starts : start ≡ so_far.end + length (g.label_tokens item.0))
      (walked_is : part ≡ (walked declared (focus_inside form item.0 inner) bound start s (view item.1)).0)
      (seen_is : s' ≡ (walked declared (focus_inside form item.0 inner) bound start s (view item.1)).1)
      (inner_is : inner' ≡ focus_behind form item.0 part.facts.kinds inner)
      (so_far_is : so_far' ≡ part_ended form item.0 (i == 0) (i + 1 == length items) so_far part)
      (s_is : s'' ≡ seen_ended form (i + 1 == length items) start part.facts.kinds s')
      (bound_is : bound' ≡ variables_behind item.0 part.facts.kinds bound) where
    abbrev result : ℕ → Walked × Seen
    result start = walked declared (focus_inside form item.0 inner) bound start s (view item.1)

    part_is : (result (so_far.end + length (g.label_tokens item.0))).0 ≡ part
    part_is = sym (walked_is ∙ ap (λ start. (result start).0) starts)

    s'_is : (result (so_far.end + length (g.label_tokens item.0))).1 ≡ s'
    s'_is = sym (seen_is ∙ ap (λ start. (result start).1) starts)

    first_after : false ≡ (i + 1 == 0)
    first_after = not_first i

    pub step : walked_parts declared form inner bound (i == 0) so_far s (viewed (drop i items)) ≡ walked_parts declared form inner' bound'
        (i + 1 == 0) so_far' s'' (viewed (drop (i + 1) items))
    unfolding walked_parts
    step =
        let focus : focus_behind form item.0 (result (so_far.end + length (g.label_tokens item.0))).0.facts.kinds inner ≡ inner' =
        ap (λ (p : Walked). focus_behind form item.0 p.facts.kinds inner) part_is ∙ sym inner_is in
        let variables : variables_behind item.0 (result (so_far.end + length (g.label_tokens item.0))).0.facts.kinds bound ≡ bound' =
        ap (λ (p : Walked). variables_behind item.0 p.facts.kinds bound) part_is ∙ sym bound_is in
        let ended : part_ended form item.0 (i == 0) (is_last (viewed (drop (i + 1) items))) so_far
        (result (so_far.end + length (g.label_tokens item.0))).0 ≡ so_far' =
        (λ j. part_ended form item.0 (i == 0) (last items i h j) so_far (part_is j)) ∙ sym so_far_is in
        let seen : seen_ended form (is_last (viewed (drop (i + 1) items))) (so_far.end + length (g.label_tokens item.0))
        (result (so_far.end + length (g.label_tokens item.0))).0.facts.kinds (result (so_far.end + length (g.label_tokens item.0))).1 ≡ s'' =
        (λ j. seen_ended form (last items i h j) (sym starts j) (part_is j).facts.kinds (s'_is j)) ∙ sym s_is in
        ap (walked_parts declared form inner bound (i == 0) so_far s) here
        ∙ (λ j. walked_parts declared form (focus j) (variables j) (first_after j) (ended j) (seen j) (viewed (drop (i + 1) items)))

-- what a turn of the loop keeps
pub record Goes (rest whole : Walked × Seen) (height index : ℕ) (outer variables : List (List ℕ × Kinds)) (begun parts : List Part) : Type 0 where
  pub same : rest ≡ whole
  pub kept : drop (length variables - height) variables ≡ outer
  pub high : height ≤ length variables
  pub longer : length begun ≤ length parts

pub nothing_left : (items : List (Label × Expr)) (i : ℕ) → length items ≤ i → viewed (drop i items) ≡ g.none
nothing_left items i h = at_drop_all viewed items i h

-- behind the last part
module _ (declared : Declared) (focus : Kinds) (bound : List (List ℕ × Kinds)) (token : ℕ) (s : Seen) (form : Form) (items : List (Label × Expr)) where
  pub node-walked : (i : ℕ) → length items ≤ i → (so_far so_far' : Walked) (s' s'' : Seen) (inner : Kinds) (bound' bound'' : List (List ℕ × Kinds))
      (first : Bool)
      → so_far ≡ node_begun declared token form (viewed items) → s' ≡ seen_begun declared token form (viewed items) s → bound' ≡ bound
      → walked_parts declared form inner bound'' first so_far' s'' (viewed (drop i items)) ≡ walked_parts declared form focus bound' true so_far s'
      (viewed items)
      → (height index : ℕ) → height ≡ length bound → index ≡ length s.parts
      → node_ended declared focus height index form (map (λ part. part.0) items) (so_far', s'') ≡ walked declared focus bound token s
      (g.node form (viewed items))
  unfolding walked walked_parts
  node-walked i h so_far so_far' s' s'' inner bound' bound'' first begins sees binds goes height index high at =
      let left = nothing_left items i h in
      let named = labels-viewed items in
      let gone : (so_far', s'') ≡ walked_parts declared form focus bound true (node_begun declared token form (viewed items))
      (seen_begun declared token form (viewed items) s) (viewed items) =
      sym (ap (walked_parts declared form inner bound'' first so_far' s'') left) ∙
      (goes ∙ (λ j. walked_parts declared form focus (binds j) true (begins j) (sees j) (viewed items))) in
      (λ j. node_ended declared focus (high j) (at j) form (map (λ part. part.0) items) (gone j))
      ∙ (λ j. node_ended declared focus (length bound) (length s.parts) form (sym named j)
      (walked_parts declared form focus bound true (node_begun declared token form (viewed items)) (seen_begun declared token form (viewed items) s)
      (viewed items)))

-- what the call behind the parts leaves as it was before them
pub kept-behind : {X E V : Type 0} (r : Result X E) (outer before after : V) → before ≡ outer → OnOk r (after ≡ before) → OnOk r (after ≡ outer)
kept-behind (Ok x) outer before after is kept = kept ∙ is
kept-behind (Err e) outer before after is kept = tt

pub longer-behind : {X E : Type 0} (r : Result X E) (outer before after : ℕ) → outer ≤ before → OnOk r (after ≡ before) → OnOk r (outer ≤ after)
longer-behind (Ok x) outer before after less long = omega (arith, less, long)
longer-behind (Err e) outer before after less long = tt
