-- A pattern matches a node exactly where it finds it from some node of the document.
use Rattle.std.proofs.Common.{◌≡◌, ℕ, suc, ◌<◌, Bool, true, false, not, ◌&&◌, ◌||◌, ◌==◌, ◌⊎◌, inl, inr, ⊎_elim, List, [], ◌∷◌, length, refl, ap, sym, subst}
use Rattle.std.proofs.Common.{◌∙◌, arith}
use Rattle.std.specs.Prelude.{filter}
use Rattle.std.specs.List.{list_any}
use Rattle.std.proofs.lemmas.Bool.{or_cases, or_left, or_right, and_parts, eqb-true, eq-eqb, false≢true}
use Rattle.std.proofs.lemmas.List.Folds.{list_any_at}
use Rattle.inv_base.specs.Tree.{Node, is_among}
use Rattle.node_arena.specs.Moves.{tree_node, is_inside, is_nearest, is_attribute}
use Rattle.xpath_tokens.specs.declared.token.Operator.{Operator}
use Rattle.xpath_tokens.specs.declared.token.Operator.TheVariants as o
use Rattle.xpath_grammar.specs.declared.step.Axis.{Axis}
use Rattle.xpath_grammar.specs.declared.step.Axis.TheVariants as a
use Rattle.xpath_meaning.specs.Values.{Value}
use Rattle.xpath_meaning.specs.Expressions as x
use Rattle.xpath_meaning.specs.Expressions.{Exp, NodeTest}
use Rattle.xpath_meaning.specs.Axes.{is_on, is_the, passes, in_order_of}
use Rattle.xpath_items.specs.declared.item.Item.TheVariants as i
use Rattle.xpath_meaning.specs.Meaning.{mean, at_top, at}
use Rattle.xpath_meaning.specs.Patterns.{found_at, kept_nodes, with_number, matches, marks}
use Rattle.xpath_walks.specs.Walks.{IsWalkable, node_numbers}
use Rattle.xpath_walks.proofs.FilterLemmas.{alike}
use Rattle.xpath_marks.specs.Shapes.{is_downward, is_step, is_bar, is_pattern}
use Rattle.xpath_marks.specs.Found.{is_under, is_found}
use Rattle.xpath_marks.proofs.AmongLemmas.{in_front, in_back, in_either, IsFrom, from_any, any_from, mapped_from, from_mapped, IsNumberOf, filtered_from}
use Rattle.xpath_marks.proofs.AmongLemmas.{any_place, same_truth}
use Rattle.xpath_marks.proofs.UnderLemmas.{under_under, under_within}

bar_is : (operator : Operator) → is_bar operator ≡ true → operator ≡ o.Bar
bar_is o.Slash e = absurd (false≢true e)
bar_is o.DoubleSlash e = absurd (false≢true e)
bar_is o.Bar e = refl
bar_is o.Plus e = absurd (false≢true e)
bar_is o.Minus e = absurd (false≢true e)
bar_is o.Times e = absurd (false≢true e)
bar_is o.Equal e = absurd (false≢true e)
bar_is o.NotEqual e = absurd (false≢true e)
bar_is o.Less e = absurd (false≢true e)
bar_is o.LessOrEqual e = absurd (false≢true e)
bar_is o.Greater e = absurd (false≢true e)
bar_is o.GreaterOrEqual e = absurd (false≢true e)
bar_is o.And e = absurd (false≢true e)
bar_is o.Or e = absurd (false≢true e)
bar_is o.Div e = absurd (false≢true e)
bar_is o.Idiv e = absurd (false≢true e)
bar_is o.Mod e = absurd (false≢true e)
bar_is o.Eq e = absurd (false≢true e)
bar_is o.Ne e = absurd (false≢true e)
bar_is o.Lt e = absurd (false≢true e)
bar_is o.Le e = absurd (false≢true e)
bar_is o.Gt e = absurd (false≢true e)
bar_is o.Ge e = absurd (false≢true e)
bar_is o.To e = absurd (false≢true e)
bar_is o.Union e = absurd (false≢true e)
bar_is o.Intersect e = absurd (false≢true e)
bar_is o.Except e = absurd (false≢true e)
bar_is o.In e = absurd (false≢true e)
bar_is o.Return e = absurd (false≢true e)
bar_is o.Satisfies e = absurd (false≢true e)
bar_is o.Then e = absurd (false≢true e)
bar_is o.Else e = absurd (false≢true e)
bar_is o.Cast e = absurd (false≢true e)
bar_is o.Castable e = absurd (false≢true e)
bar_is o.As e = absurd (false≢true e)

-- ---- steps lead to what is under a node

forward_order : (axis : Axis) → is_downward axis ≡ true → (ns : List Node) → in_order_of axis ns ≡ ns
forward_order a.Child down ns = refl
forward_order a.Descendant down ns = refl
forward_order a.DescendantOrSelf down ns = refl
forward_order a.Itself down ns = refl
forward_order a.Attribute down ns = refl
forward_order a.Parent down ns = absurd (false≢true down)
forward_order a.Ancestor down ns = absurd (false≢true down)
forward_order a.AncestorOrSelf down ns = absurd (false≢true down)
forward_order a.FollowingSibling down ns = absurd (false≢true down)
forward_order a.PrecedingSibling down ns = absurd (false≢true down)
forward_order a.Following down ns = absurd (false≢true down)
forward_order a.Preceding down ns = absurd (false≢true down)

nearest_among : (n : ℕ) (above : List ℕ) → is_nearest n above ≡ true → is_among n above ≡ true
nearest_among n [] e = absurd (false≢true e)
nearest_among n (m ∷ above) e = or_left (n == m) (is_among n above) (eq-eqb n m (sym (eqb-true m n e)))

on_under : (axis : Axis) (from node : Node) → is_downward axis ≡ true → is_on axis from node ≡ true
    → (node.number == from.number || is_inside from.number node) ≡ true
on_under a.Child from node down on = or_right (node.number == from.number) (is_inside from.number node)
    (nearest_among from.number node.above (and_parts (is_nearest from.number node.above) (not (is_attribute node)) on).0)
on_under a.Descendant from node down on = or_right (node.number == from.number) (is_inside from.number node)
    (and_parts (is_inside from.number node) (not (is_attribute node)) on).0
on_under a.DescendantOrSelf from node down on = ⊎_elim
    (λ (same : is_the from node ≡ true). or_left (node.number == from.number) (is_inside from.number node) same)
    (λ (inner : (is_inside from.number node && not (is_attribute node)) ≡ true). or_right (node.number == from.number) (is_inside from.number node)
    (and_parts (is_inside from.number node) (not (is_attribute node)) inner).0)
    (or_cases (is_the from node) (is_inside from.number node && not (is_attribute node)) on)
on_under a.Itself from node down on = or_left (node.number == from.number) (is_inside from.number node) on
on_under a.Attribute from node down on = or_right (node.number == from.number) (is_inside from.number node)
    (nearest_among from.number node.above (and_parts (is_nearest from.number node.above) (is_attribute node) on).0)
on_under a.Parent from node down on = absurd (false≢true down)
on_under a.Ancestor from node down on = absurd (false≢true down)
on_under a.AncestorOrSelf from node down on = absurd (false≢true down)
on_under a.FollowingSibling from node down on = absurd (false≢true down)
on_under a.PrecedingSibling from node down on = absurd (false≢true down)
on_under a.Following from node down on = absurd (false≢true down)
on_under a.Preceding from node down on = absurd (false≢true down)

kept_with : (b : Bool) (n k : ℕ) (rest ns : List ℕ) → (is_among k rest ≡ true → is_among k ns ≡ true) → is_among k (with_number b n rest) ≡ true
    → is_among k (n ∷ ns) ≡ true
kept_with true n k rest ns f e = ⊎_elim
    (λ (here : (k == n) ≡ true). or_left (k == n) (is_among k ns) here)
    (λ (there : is_among k rest ≡ true). or_right (k == n) (is_among k ns) (f there))
    (or_cases (k == n) (is_among k rest) e)
kept_with false n k rest ns f e = or_right (k == n) (is_among k ns) (f e)

kept_among : (predicate : ℕ → ℕ → ℕ → Value) (last position : ℕ) (ns : List ℕ) (k : ℕ) → is_among k (kept_nodes predicate last position ns) ≡ true →
    is_among k ns ≡ true
kept_among predicate last position [] k e = e
kept_among predicate last position (n ∷ ns) k e =
    kept_with _ n k (kept_nodes predicate last (suc position) ns) ns (kept_among predicate last (suc position) ns k) e

module _ (nodes : List Node) (w : IsWalkable nodes) (outer : List (List ℕ × Value)) where
  -- what it finds at a node is under it
  abbrev pub FindsUnder : Exp → Type 0
  FindsUnder e = (n k : ℕ) → n < length nodes → is_among k (found_at nodes outer e n) ≡ true → (k < length nodes) × (is_under nodes n k ≡ true)

  -- what it finds at a node is under it, or is found at every node
  abbrev pub FindsDown : Exp → Type 0
  FindsDown e = (n k : ℕ) → n < length nodes → is_among k (found_at nodes outer e n) ≡ true
      → (k < length nodes) × ((is_under nodes n k ≡ true) ⊎ ((m : ℕ) → is_among k (found_at nodes outer e m) ≡ true))

  axis_under : (axis : Axis) (test : NodeTest) → is_downward axis ≡ true → FindsUnder (x.axis_step axis test)
  axis_under axis test down n k within i =
      let q : Node → Bool = λ node. is_on axis (tree_node nodes n) node && passes axis test node in
      let at : IsNumberOf q nodes k = filtered_from q nodes k (ap (λ ns. is_among k (node_numbers ns)) (sym (forward_order axis down (filter q nodes))) ∙ i) in
      let same : at.place ≡ k = sym (w.counted at.place at.within) ∙ at.number in
      let on : is_on axis (tree_node nodes n) (tree_node nodes at.place) ≡ true =
      (and_parts (is_on axis (tree_node nodes n) (tree_node nodes at.place)) (passes axis test (tree_node nodes at.place)) at.passes).0 in (
        omega (arith, same, at.within),
        ap (λ m. k == m || is_inside m (tree_node nodes k)) (sym (w.counted n within))
            ∙ (ap (λ y. y == (tree_node nodes n).number || is_inside (tree_node nodes n).number (tree_node nodes k)) (sym at.number)
            ∙ (ap (λ p. (tree_node nodes at.place).number == (tree_node nodes n).number || is_inside (tree_node nodes n).number (tree_node nodes p)) (sym same)
            ∙ on_under axis (tree_node nodes n) (tree_node nodes at.place) down on)),
      )

  pub step_under : (e : Exp) → is_step e ≡ true → FindsUnder e
  step_under x.nothing s = λ n k within i. absurd (false≢true i)
  step_under (x.axis_step axis test) s = axis_under axis test s
  step_under (x.filtered e predicate) s = λ n k within found. step_under e s n k within
      (kept_among (λ m position last. mean nodes predicate (at (at_top m outer) (i.Node m) position last)) (length (found_at nodes outer e n)) 1
      (found_at nodes outer e n) k found)
  step_under (x.stepped e) s = step_under e s
  step_under (x.text t) s = absurd (false≢true s)
  step_under (x.number z) s = absurd (false≢true s)
  step_under x.the_item s = absurd (false≢true s)
  step_under (x.variable height) s = absurd (false≢true s)
  step_under (x.outer name) s = absurd (false≢true s)
  step_under (x.comma e f) s = absurd (false≢true s)
  step_under (x.both e f) s = absurd (false≢true s)
  step_under (x.either e f) s = absurd (false≢true s)
  step_under (x.signed signs e) s = absurd (false≢true s)
  step_under (x.chosen c e f) s = absurd (false≢true s)
  step_under (x.bound binder e f) s = absurd (false≢true s)
  step_under (x.cast word type optional e) s = absurd (false≢true s)
  step_under (x.called function arguments) s = absurd (false≢true s)
  step_under x.the_root s = absurd (false≢true s)
  step_under (x.slash e f) s = absurd (false≢true s)
  step_under (x.operated operator e f) s = absurd (false≢true s)

  under_down : (e : Exp) → FindsUnder e → FindsDown e
  under_down e f = λ n k within i. ((f n k within i).0, inl (f n k within i).1)

  along : (e step : Exp) → FindsDown e → FindsUnder step → FindsDown (x.slash e step)
  along e step f g = λ n k within i.
      let from : IsFrom (found_at nodes outer step) (found_at nodes outer e n) k = mapped_from (found_at nodes outer step) (found_at nodes outer e n) k i in
      let first = f n from.origin within from.among in
      let second = g from.origin k first.0 from.from in (
        second.0,
        ⊎_elim
            (λ (under : is_under nodes n from.origin ≡ true). inl (under_under nodes w k from.origin n second.0 second.1 under))
            (λ (all : (m : ℕ) → is_among from.origin (found_at nodes outer e m) ≡ true).
            inr (λ m. from_mapped (found_at nodes outer step) (found_at nodes outer e m) from.origin k (all m) from.from))
            first.1,
      )

  beside : (e f : Exp) → FindsDown e → FindsDown f → FindsDown (x.operated o.Bar e f)
  beside e f g h = λ n k within i. ⊎_elim
      (λ (left : is_among k (found_at nodes outer e n) ≡ true).
      let found = g n k within left in (
        found.0,
        ⊎_elim (λ (under : is_under nodes n k ≡ true). inl under)
            (λ (all : (m : ℕ) → is_among k (found_at nodes outer e m) ≡ true). inr
            (λ m. in_front k (found_at nodes outer e m) (found_at nodes outer f m) (all m))) found.1,
      ))
      (λ (right : is_among k (found_at nodes outer f n) ≡ true).
      let found = h n k within right in (
        found.0,
        ⊎_elim (λ (under : is_under nodes n k ≡ true). inl under)
            (λ (all : (m : ℕ) → is_among k (found_at nodes outer f m) ≡ true). inr
            (λ m. in_back k (found_at nodes outer e m) (found_at nodes outer f m) (all m))) found.1,
      ))
      (in_either k (found_at nodes outer e n) (found_at nodes outer f n) i)

  root_down : FindsDown x.the_root
  root_down n k within i = (
    ⊎_elim
        (λ (same : (k == 0) ≡ true). omega (arith, eqb-true k 0 same, within))
        (λ (no : false ≡ true). absurd (false≢true no))
        (or_cases (k == 0) false i),
    inr (λ m. i),
  )

  pub pattern_down : (e : Exp) → is_pattern e ≡ true → FindsDown e
  pattern_down x.the_root s = root_down
  pattern_down x.nothing s = under_down x.nothing (step_under x.nothing s)
  pattern_down (x.axis_step axis test) s = under_down (x.axis_step axis test) (step_under (x.axis_step axis test) s)
  pattern_down (x.filtered e predicate) s = under_down (x.filtered e predicate) (step_under (x.filtered e predicate) s)
  pattern_down (x.stepped e) s = under_down (x.stepped e) (step_under (x.stepped e) s)
  pattern_down (x.slash e step) s =
      let parts = and_parts (is_pattern e) (is_step step) s in
      along e step (pattern_down e parts.0) (step_under step parts.1)
  pattern_down (x.operated operator e f) s =
      let parts = and_parts (is_bar operator) (is_pattern e && is_pattern f) s in
      let both = and_parts (is_pattern e) (is_pattern f) parts.1 in
      subst (λ op. FindsDown (x.operated op e f)) (sym (bar_is operator parts.0)) (beside e f (pattern_down e both.0) (pattern_down f both.1))
  pattern_down (x.text t) s = absurd (false≢true s)
  pattern_down (x.number z) s = absurd (false≢true s)
  pattern_down x.the_item s = absurd (false≢true s)
  pattern_down (x.variable height) s = absurd (false≢true s)
  pattern_down (x.outer name) s = absurd (false≢true s)
  pattern_down (x.comma e f) s = absurd (false≢true s)
  pattern_down (x.both e f) s = absurd (false≢true s)
  pattern_down (x.either e f) s = absurd (false≢true s)
  pattern_down (x.signed signs e) s = absurd (false≢true s)
  pattern_down (x.chosen c e f) s = absurd (false≢true s)
  pattern_down (x.bound binder e f) s = absurd (false≢true s)
  pattern_down (x.cast word type optional e) s = absurd (false≢true s)
  pattern_down (x.called function arguments) s = absurd (false≢true s)

  -- ---- the swap

  found_matches : (pattern : Exp) → is_pattern pattern ≡ true → (k : ℕ) → k < length nodes → is_found nodes outer pattern k ≡ true
      → list_any (λ n. is_among k (found_at nodes outer pattern n)) (k ∷ (tree_node nodes k).above) ≡ true
  found_matches pattern s k within e =
      let some : (m : ℕ) × IsNumberOf (λ (node : Node). is_among k (found_at nodes outer pattern node.number)) nodes m =
      any_place (λ node. is_among k (found_at nodes outer pattern node.number)) nodes e in
      let at : ℕ = some.1.place in
      let here : is_among k (found_at nodes outer pattern at) ≡ true = ap (λ n. is_among k (found_at nodes outer pattern n)) (sym (w.counted at some.1.within))
      ∙ some.1.passes in
      ⊎_elim
      (λ (under : is_under nodes at k ≡ true). any_from (found_at nodes outer pattern) (k ∷ (tree_node nodes k).above) at k (turned at k under) here)
      (λ (all : (m : ℕ) → is_among k (found_at nodes outer pattern m) ≡ true).
      any_from (found_at nodes outer pattern) (k ∷ (tree_node nodes k).above) k k (or_left (k == k) (is_among k (tree_node nodes k).above) (eq-eqb k k refl))
      (all k))
      (pattern_down pattern s at k some.1.within here).1
    where
      turned : (n k : ℕ) → is_under nodes n k ≡ true → is_among n (k ∷ (tree_node nodes k).above) ≡ true
      turned n k e = ⊎_elim
          (λ (same : (k == n) ≡ true). or_left (n == k) (is_among n (tree_node nodes k).above) (eq-eqb n k (sym (eqb-true k n same))))
          (λ (inner : is_inside n (tree_node nodes k) ≡ true). or_right (n == k) (is_among n (tree_node nodes k).above) inner)
          (or_cases (k == n) (is_inside n (tree_node nodes k)) e)

  matches_found : (pattern : Exp) (k : ℕ) → k < length nodes →
      list_any (λ n. is_among k (found_at nodes outer pattern n)) (k ∷ (tree_node nodes k).above) ≡ true
      → is_found nodes outer pattern k ≡ true
  matches_found pattern k within e =
      let from : IsFrom (found_at nodes outer pattern) (k ∷ (tree_node nodes k).above) k =
      from_any (found_at nodes outer pattern) (k ∷ (tree_node nodes k).above) k e in
      let inside : from.origin < length nodes = under_within nodes w k from.origin within (turned from.origin from.among) in
      list_any_at (λ (node : Node). is_among k (found_at nodes outer pattern node.number)) nodes from.origin _ inside
      (ap (λ n. is_among k (found_at nodes outer pattern n)) (w.counted from.origin inside) ∙ from.from)
    where
      turned : (n : ℕ) → is_among n (k ∷ (tree_node nodes k).above) ≡ true → is_under nodes n k ≡ true
      turned n e = ⊎_elim
          (λ (same : (n == k) ≡ true). or_left (k == n) (is_inside n (tree_node nodes k)) (eq-eqb k n (sym (eqb-true n k same))))
          (λ (inner : is_among n (tree_node nodes k).above ≡ true). or_right (k == n) (is_inside n (tree_node nodes k)) inner)
          (or_cases (n == k) (is_among n (tree_node nodes k).above) e)

  swapped : (pattern : Exp) → is_pattern pattern ≡ true → (k : ℕ) → k < length nodes →
      matches nodes outer pattern (tree_node nodes k) ≡ is_found nodes outer pattern k
  swapped pattern s k within =
      ap (λ n. list_any (λ m. is_among n (found_at nodes outer pattern m)) (n ∷ (tree_node nodes k).above)) (w.counted k within)
      ∙ same_truth (list_any (λ n. is_among k (found_at nodes outer pattern n)) (k ∷ (tree_node nodes k).above)) (is_found nodes outer pattern k)
      (matches_found pattern k within) (found_matches pattern s k within)

  -- The marks of a pattern are the nodes that it finds from some node.
  pub marks_are_found : (pattern : Exp) → is_pattern pattern ≡ true
      → marks nodes outer pattern ≡ node_numbers (filter (λ (node : Node). is_found nodes outer pattern node.number) nodes)
  marks_are_found pattern s =
      ap node_numbers (alike (matches nodes outer pattern) (λ node. is_found nodes outer pattern node.number) 0 nodes
      (λ k l b. swapped pattern s k b ∙ ap (is_found nodes outer pattern) (sym (w.counted k b))))
