-- Steps to children of a name, from the document's elements of that name.
use Rattle.std.proofs.Common.{◌≡◌, ℕ, suc, ◌+◌, ◌<◌, ◌≤◌, Bool, true, false, not, ◌&&◌, ⊎_elim, ◌||◌, ◌==◌, List, [], ◌∷◌, ◌++◌, length, get_or, drop, Option}
use Rattle.std.proofs.Common.{Some, None, refl, ap, sym, ◌∙◌, arith, append_assoc}
use Rattle.std.specs.Prelude.{filter, nat_le}
use Rattle.std.specs.List.{list_any, flat_map}
use Rattle.std.proofs.lemmas.List.{drop_more}
use Rattle.std.proofs.lemmas.List.Concat.{flat_map-cons}
use Rattle.std.proofs.lemmas.Bool.{and_parts, and_from, or_cases, or_left, or_right, eqb-true, eq-eqb, false≢true, false_from_ne_true, lt-ltb, le-leb}
use Rattle.inv_base.specs.Tree.{Node, is_among}
use Rattle.node_arena.specs.Moves.{tree_node, parent, nearest, is_nearest, is_inside, is_attribute, last_inside}
use Rattle.xpath_grammar.specs.declared.step.Axis.TheVariants as a
use Rattle.xpath_meaning.specs.Values.{Value}
use Rattle.xpath_meaning.specs.Expressions.{Exp, NodeTest}
use Rattle.xpath_meaning.specs.Axes.{is_on, passes}
use Rattle.xpath_meaning.specs.Resolving.{Operand, step_of}
use Rattle.xpath_meaning.specs.Patterns.{found_at, kept_nodes, with_number, is_kept}
use Rattle.xpath_meaning.specs.Steps.{keeps}
use Rattle.xpath_meaning.specs.Values.{then_}
use Rattle.xpath_plan.specs.declared.plan_node.Operation.{Operation}
use Rattle.xpath_plan.specs.declared.plan_node.Separator.{Separator}
use Rattle.xpath_plan.specs.declared.plan_node.PlanNode.{PlanNode}
use Rattle.xpath_plan.specs.declared.plan_node.PlanNode.TheVariants as w
use Rattle.xpath_plan.specs.declared.plan_node.Simple.{Simple}
use Rattle.xpath_plan.specs.declared.plan_node.Simple.TheVariants as s
use Rattle.xpath_plan.specs.declared.plan_node.StepTest.TheVariants as t
use Rattle.xpath_plan.specs.Plans.{seen, made, simple_seen, test_seen}
use Rattle.xpath_parts.proofs.SeenLemmas.{seen-simple}
use Rattle.xpath_parts.specs.declared.dynamic.DynamicContext.{DynamicContext}
use Rattle.xpath_parts.specs.Contexts.{operands_of}
use Rattle.xpath_walks.specs.Walks.{IsWalkable, IsWalked, axis_numbers, node_numbers}
use Rattle.xpath_walks.proofs.FilterLemmas.{alike}
use Rattle.xpath_walks.proofs.ReverseLemmas.{above_below}
use Rattle.xpath_marks.specs.Found.{is_found, is_reached, all_found, all_reached}
use Rattle.xpath_marks.specs.FirstSteps.{GoesToChildren, all_around, around_at, elements_of}
use Rattle.xpath_marks.specs.Marking.{FoundByStep, Marked, Reached, nodes_of, judged, kept_by, kept_by_all, is_filter}
use Rattle.xpath_marks.proofs.AmongLemmas.{IsFrom, from_any, any_from, IsNumberOf, filtered_from, any_place, same_truth, among_passing, flat_any}
use Rattle.xpath_marks.proofs.FoundLemmas.{found_by}
use Rattle.xpath_marks.proofs.TurnLemmas.{node_seen, filter_found}
use Rattle.xpath_marks.proofs.MarkingLemmas.{nothing_found}

-- ---- what filters keep

among_kept : (predicate : ℕ → ℕ → ℕ → Value) (last position : ℕ) (ns : List ℕ) (m : ℕ) → is_among m (kept_nodes predicate last position ns) ≡ true →
    is_among m ns ≡ true
among_kept predicate last position [] m h = h
among_kept predicate last position (n ∷ ns) m h =
    go (is_kept (then_ (predicate n position last) (keeps position))) (among_kept predicate last (suc position) ns m) h
  where
    go : (b : Bool) → (is_among m (kept_nodes predicate last (suc position) ns) ≡ true → is_among m ns ≡ true)
        → is_among m (with_number b n (kept_nodes predicate last (suc position) ns)) ≡ true → is_among m (n ∷ ns) ≡ true
    go true rest e = ⊎_elim
        (λ (here : (m == n) ≡ true). or_left (m == n) (is_among m ns) here)
        (λ (there : is_among m (kept_nodes predicate last (suc position) ns) ≡ true). or_right (m == n) (is_among m ns) (rest there))
        (or_cases (m == n) (is_among m (kept_nodes predicate last (suc position) ns)) e)
    go false rest e = or_right (m == n) (is_among m ns) (rest e)

among_kept_all : (base : DynamicContext) (parts : List Operand) (ns : List ℕ) (m : ℕ) → is_among m (kept_by_all base parts ns) ≡ true → is_among m ns ≡ true
among_kept_all base [] ns m h = h
among_kept_all base (part ∷ parts) ns m h = among_kept (judged base part.1) (length ns) 1 ns m (among_kept_all base parts (kept_by base part.1 ns) m h)

-- What predicates keep of children of a name are such children.
pub filter_children : (base : DynamicContext) (work : PlanNode) (kind : Operation) (parts : List (Separator × PlanNode)) (first : Separator
    × PlanNode) (others : List (Separator × PlanNode)) (name : ℕ)
    → work ≡ w.Node kind parts → parts ≡ first ∷ others → is_filter kind ≡ true → first.1 ≡ w.Simple (s.Step a.Child (t.Named name))
    → GoesToChildren base name (seen base.names.now work)
filter_children base work kind parts first others name is divided filters step n m h =
    let names = base.names.now in
    let predicates = operands_of names others in
    let nodes = nodes_of base in
    let env = base.env.now in
    let made_is : seen names work ≡ made kind (operands_of names (first ∷ others)) =
    ap (seen names) is ∙ (node_seen names kind parts ∙ ap (λ ps. made kind (operands_of names ps)) divided) in
    let begin : seen names first.1 ≡ step_of a.Child (test_seen names (t.Named name)) = ap (seen names) step ∙
    seen-simple names (s.Step a.Child (t.Named name)) in
    let kept : is_among m (kept_by_all base predicates (found_at nodes env (seen names first.1) n)) ≡ true =
    ap (is_among m) (sym (filter_found base kind first.0 (seen names first.1) predicates n filters)) ∙
    (ap (λ e. is_among m (found_at nodes env e n)) (sym made_is) ∙ h) in
    ap (λ e. is_among m (found_at nodes env e n)) (sym begin) ∙ among_kept_all base predicates (found_at nodes env (seen names first.1) n) m kept

-- ---- the node around a node

among_nearest : (above : List ℕ) (n : ℕ) → is_nearest n above ≡ true → is_among n (elim (nearest above) [ None ↦ [] | Some around ↦ around ∷ [] ]) ≡ true
among_nearest [] n h = absurd (false≢true h)
among_nearest (m ∷ above) n h = or_left (n == m) false (eq-eqb n m (sym (eqb-true m n h)))

pub around_some : (nodes : List Node) (n m : ℕ) → Some m ≡ parent nodes n → m ∷ [] ≡ around_at nodes n
around_some nodes n m e = ap (λ (o : Option ℕ). elim o [ None ↦ [] | Some around ↦ around ∷ [] ]) e

pub around_none : (nodes : List Node) (n : ℕ) → None ≡ parent nodes n → [] ≡ around_at nodes n
around_none nodes n e = ap (λ (o : Option ℕ). elim o [ None ↦ [] | Some around ↦ around ∷ [] ]) e

-- Something is inside what is the nearest around it.
some_above : (above : List ℕ) (n : ℕ) → is_nearest n above ≡ true → 0 < length above
some_above [] n h = absurd (false≢true h)
some_above (m ∷ above) n h = omega arith

-- All that a function gives at some nodes, in document order.
pub all_of_flat : (nodes : List Node) (f : ℕ → List ℕ) (from out : List ℕ) → out ≡ flat_map f from
    → node_numbers (filter (λ (node : Node). is_among node.number out) nodes) ≡ node_numbers
    (filter (λ (node : Node). list_any (λ n. is_among node.number (f n)) from) nodes)
all_of_flat nodes f from out e = ap node_numbers (alike (λ (node : Node). is_among node.number out)
    (λ (node : Node). list_any (λ n. is_among node.number (f n)) from) 0 nodes
    (λ k l b. ap (is_among (tree_node nodes k).number) e ∙ flat_any f from (tree_node nodes k).number))

module _ (nodes : List Node) (w : IsWalkable nodes) where
  none_long : (above : List ℕ) → length above ≤ 0 → nearest above ≡ None
  none_long [] h = refl
  none_long (n ∷ above) h = absurd (omega (arith, h))

  -- Everything but the document is inside it.
  inside_whole : (k : ℕ) → k < length nodes → 0 < k → is_inside 0 (tree_node nodes k) ≡ true
  inside_whole k within behind =
      let rooted : 0 < length nodes = omega (arith, within) in
      let last = last_inside nodes 0 in
      let to : k ≤ last = omega (arith, within, (w.leads 0 rooted).whole (none_long (tree_node nodes 0).above (w.leads 0 rooted).level)) in
      w.inside 0 k rooted within ∙ (ap (λ b. b && nat_le k last) (lt-ltb 0 k behind) ∙ le-leb k last to)

  module _ (outer : List (List ℕ × Value)) (test : NodeTest) where
    abbrev child : Exp
    child = step_of a.Child (Some test)

    abbrev elements : List ℕ
    elements = axis_numbers nodes a.Descendant 0 (Some test)

    abbrev is_right_inside : ℕ → Node → Bool
    is_right_inside n node = is_on a.Child (tree_node nodes n) node && passes a.Child test node

    abbrev is_element : Node → Bool
    is_element node = is_on a.Descendant (tree_node nodes 0) node && passes a.Descendant test node

    -- The second node is a child of the first that passes.
    record IsChild (n k : ℕ) : Type 0 where
      pub around : is_nearest n (tree_node nodes k).above ≡ true
      pub plain : not (is_attribute (tree_node nodes k)) ≡ true
      pub wanted : passes a.Child test (tree_node nodes k) ≡ true

    child_is : (n k : ℕ) → n < length nodes → is_right_inside n (tree_node nodes k) ≡ true → IsChild n k
    child_is n k within h =
        let parts = and_parts (is_on a.Child (tree_node nodes n) (tree_node nodes k)) (passes a.Child test (tree_node nodes k)) h in
        let on = and_parts (is_nearest (tree_node nodes n).number (tree_node nodes k).above) (not (is_attribute (tree_node nodes k))) parts.0 in
        record {
          around = ap (λ m. is_nearest m (tree_node nodes k).above) (sym (w.counted n within)) ∙ on.0;
          plain = on.1;
          wanted = parts.1;
        }

    found_child : (n k : ℕ) → n < length nodes → is_among k (found_at nodes outer child n) ≡ true → (k < length nodes) × IsChild n k
    found_child n k within h =
        let at : IsNumberOf (is_right_inside n) nodes k = filtered_from (is_right_inside n) nodes k h in
        let same : at.place ≡ k = sym (w.counted at.place at.within) ∙ at.number in
        (omega (arith, same, at.within), child_is n k within (ap (λ j. is_right_inside n (tree_node nodes j)) (sym same) ∙ at.passes))

    child_found : (n k : ℕ) → n < length nodes → k < length nodes → IsChild n k → is_among k (found_at nodes outer child n) ≡ true
    child_found n k within below c =
        among_passing (is_right_inside n) nodes k w.counted below
        ∙ and_from (is_on a.Child (tree_node nodes n) (tree_node nodes k)) (passes a.Child test (tree_node nodes k))
        (and_from (is_nearest (tree_node nodes n).number (tree_node nodes k).above) (not (is_attribute (tree_node nodes k)))
        (ap (λ m. is_nearest m (tree_node nodes k).above) (w.counted n within) ∙ c.around) c.plain)
        c.wanted

    -- A child that passes is among the elements.
    child_element : (n k : ℕ) → k < length nodes → IsChild n k → is_element (tree_node nodes k) ≡ true
    child_element n k within c =
        let rooted : 0 < length nodes = omega (arith, within) in
        let behind : 0 < k = omega (arith, some_above (tree_node nodes k).above n c.around, (w.leads k within).level) in
        and_from (is_on a.Descendant (tree_node nodes 0) (tree_node nodes k)) (passes a.Descendant test (tree_node nodes k))
        (and_from (is_inside (tree_node nodes 0).number (tree_node nodes k)) (not (is_attribute (tree_node nodes k)))
        (ap (λ m. is_inside m (tree_node nodes k)) (w.counted 0 rooted) ∙ inside_whole k within behind) c.plain)
        c.wanted

    -- Each element is a child of some node.
    element_child : (k : ℕ) → k < length nodes → is_element (tree_node nodes k) ≡ true → (n : ℕ) × (n < length nodes) × IsChild n k
    element_child k within h =
        let parts = and_parts (is_on a.Descendant (tree_node nodes 0) (tree_node nodes k)) (passes a.Descendant test (tree_node nodes k)) h in
        let on = and_parts (is_inside (tree_node nodes 0).number (tree_node nodes k)) (not (is_attribute (tree_node nodes k))) parts.0 in
        by (tree_node nodes k).above refl on.0 on.1 parts.1
      where
        by : (above : List ℕ) → (tree_node nodes k).above ≡ above → is_among (tree_node nodes 0).number above ≡ true →
            not (is_attribute (tree_node nodes k)) ≡ true
            → passes a.Child test (tree_node nodes k) ≡ true → (n : ℕ) × (n < length nodes) × IsChild n k
        by [] e inside plain wanted = absurd (false≢true inside)
        by (n ∷ above) e inside plain wanted =
            let lower : n < k = above_below nodes w k within n (ap (is_among n) e ∙ or_left (n == n) (is_among n above) (eq-eqb n n refl)) in (
              n,
              omega (arith, lower, within),
              record {
                around = ap (is_nearest n) e ∙ eq-eqb n n refl;
                plain = plain;
                wanted = wanted;
              },
            )

    -- Steps to children find the elements.
    pub elements_found : elements ≡ all_found nodes outer child
    elements_found = ap node_numbers (alike is_element (λ (node : Node). is_found nodes outer child node.number) 0 nodes
        (λ k l b. same_truth (is_element (tree_node nodes k)) (is_found nodes outer child (tree_node nodes k).number) (to k b) (from k b)))
      where
        to : (k : ℕ) → k < length nodes → is_element (tree_node nodes k) ≡ true → is_found nodes outer child (tree_node nodes k).number ≡ true
        to k b h =
            let c = element_child k b h in
            ap (is_found nodes outer child) (w.counted k b) ∙ found_by nodes w outer child c.0 k c.1 (child_found c.0 k c.1 b c.2)

        from : (k : ℕ) → k < length nodes → is_found nodes outer child (tree_node nodes k).number ≡ true → is_element (tree_node nodes k) ≡ true
        from k b h =
            let some : (m : ℕ) × IsNumberOf (λ (node : Node). is_among k (found_at nodes outer child node.number)) nodes m =
            any_place (λ node. is_among k (found_at nodes outer child node.number)) nodes (ap (is_found nodes outer child) (sym (w.counted k b)) ∙ h) in
            let n : ℕ = some.1.place in
            let c = found_child n k some.1.within (ap (λ m. is_among k (found_at nodes outer child m)) (sym (w.counted n some.1.within)) ∙ some.1.passes) in
            child_element n k b c.1

    -- The node around an element is among those around the elements.
    around_child : (n k : ℕ) → n < length nodes → is_among k (found_at nodes outer child n) ≡ true → is_among n (all_around nodes elements) ≡ true
    around_child n k within h =
        let c = found_child n k within h in
        let is_around : Node → Bool = λ node. list_any (λ m. is_among node.number (around_at nodes m)) elements in
        among_passing is_around nodes n w.counted within
        ∙ any_from (around_at nodes) elements k (tree_node nodes n).number
        (among_passing is_element nodes k w.counted c.0 ∙ child_element n k c.0 c.1)
        (ap (λ m. is_among m (around_at nodes k)) (w.counted n within) ∙ among_nearest (tree_node nodes k).above n c.1.around)

    -- What finds such children alone finds the same from the nodes around the elements as from all.
    pub around_reached : (e : Exp) → ((n m : ℕ) → is_among m (found_at nodes outer e n) ≡ true → is_among m (found_at nodes outer child n) ≡ true)
        → all_reached nodes outer e (all_around nodes elements) ≡ all_found nodes outer e
    around_reached e goes = ap node_numbers (alike (λ (node : Node). is_reached nodes outer e (all_around nodes elements) node.number)
        (λ (node : Node). is_found nodes outer e node.number) 0 nodes
        (λ k l b. same_truth (is_reached nodes outer e (all_around nodes elements) (tree_node nodes k).number)
        (is_found nodes outer e (tree_node nodes k).number)
        (to (tree_node nodes k).number) (from (tree_node nodes k).number)))
      where
        to : (k : ℕ) → is_reached nodes outer e (all_around nodes elements) k ≡ true → is_found nodes outer e k ≡ true
        to k h =
            let i : IsFrom (found_at nodes outer e) (all_around nodes elements) k = from_any (found_at nodes outer e) (all_around nodes elements) k h in
            let at = filtered_from (λ (node : Node). list_any (λ m. is_among node.number (around_at nodes m)) elements) nodes i.origin i.among in
            let same : at.place ≡ i.origin = sym (w.counted at.place at.within) ∙ at.number in
            found_by nodes w outer e i.origin k (omega (arith, same, at.within)) i.from

        from : (k : ℕ) → is_found nodes outer e k ≡ true → is_reached nodes outer e (all_around nodes elements) k ≡ true
        from k h =
            let some : (m : ℕ) × IsNumberOf (λ (node : Node). is_among k (found_at nodes outer e node.number)) nodes m =
            any_place (λ node. is_among k (found_at nodes outer e node.number)) nodes h in
            let n : ℕ = some.1.place in
            let here : is_among k (found_at nodes outer e n) ≡ true = ap (λ m. is_among k (found_at nodes outer e m)) (sym (w.counted n some.1.within)) ∙
            some.1.passes in
            any_from (found_at nodes outer e) (all_around nodes elements) n k (around_child n k some.1.within (goes n k here)) here

-- ---- as calls have it

pub all_children_found : (base : DynamicContext) (w : IsWalked base.doc.now) (test : Option NodeTest)
    → axis_numbers (nodes_of base) a.Descendant 0 test ≡ all_found (nodes_of base) base.env.now (step_of a.Child test)
all_children_found base w None = nothing_found base [] refl
all_children_found base w (Some test) = elements_found (nodes_of base) w.walkable base.env.now test

all_around_reached : (base : DynamicContext) (w : IsWalked base.doc.now) (test : Option NodeTest) (e : Exp)
    → ((n m : ℕ) → is_among m (found_at (nodes_of base) base.env.now e n) ≡ true →
    is_among m (found_at (nodes_of base) base.env.now (step_of a.Child test) n) ≡ true)
    → all_reached (nodes_of base) base.env.now e (all_around (nodes_of base) (axis_numbers (nodes_of base) a.Descendant 0 test)) ≡ all_found
    (nodes_of base) base.env.now e
all_around_reached base w None e goes =
    ap node_numbers (alike (λ (node : Node). is_reached (nodes_of base) base.env.now e (all_around (nodes_of base) []) node.number)
    (λ (node : Node). is_found (nodes_of base) base.env.now e node.number) 0 (nodes_of base)
    (λ k l b. none_reached k ∙ sym (none_found (tree_node (nodes_of base) k).number (nodes_of base))))
  where
    none_around : (ns : List Node) → node_numbers (filter (λ (node : Node). false) ns) ≡ []
    none_around [] = refl
    none_around (n ∷ ns) = none_around ns

    none_reached : (k : ℕ) → is_reached (nodes_of base) base.env.now e (all_around (nodes_of base) []) (tree_node (nodes_of base) k).number ≡ false
    none_reached k = ap (λ from. is_reached (nodes_of base) base.env.now e from (tree_node (nodes_of base) k).number) (none_around (nodes_of base))

    none_found : (k : ℕ) (ns : List Node) → list_any (λ (node : Node). is_among k (found_at (nodes_of base) base.env.now e node.number)) ns ≡ false
    none_found k [] = refl
    none_found k (n ∷ ns) =
        ap (λ b. b || list_any (λ (node : Node). is_among k (found_at (nodes_of base) base.env.now e node.number)) ns)
        (false_from_ne_true (is_among k (found_at (nodes_of base) base.env.now e n.number)) (λ h. false≢true (goes n.number k h)))
        ∙ none_found k ns
all_around_reached base w (Some test) e goes = around_reached (nodes_of base) w.walkable base.env.now test e goes

pub children_everywhere : (base : DynamicContext) → IsWalked base.doc.now → (name : ℕ) (e : Exp) (named lent from lent' found : List ℕ)
    → GoesToChildren base name e
    → named ≡ elements_of base name → lent ≡ named → from ≡ all_around (nodes_of base) lent → lent' ≡ from → Reached base e lent' found →
    FoundByStep base e found
children_everywhere base w name e named lent from lent' found goes is same around same' r = λ step.
    r step
    ∙ (ap (all_reached (nodes_of base) base.env.now e) (same' ∙ (around ∙ ap (all_around (nodes_of base)) (same ∙ is)))
    ∙ all_around_reached base w (test_seen base.names.now (t.Named name)) e goes)

-- a step alone to children of a name
pub named_marked : (base : DynamicContext) → IsWalked base.doc.now → (work : PlanNode) (simple : Simple) (name : ℕ) (found : List ℕ) → work ≡ w.Simple simple →
    simple ≡ s.Step a.Child (t.Named name)
    → found ≡ elements_of base name → Marked base (seen base.names.now work) found
named_marked base w work simple name found is step e = λ p.
    let names = base.names.now in
    e ∙ (all_children_found base w (test_seen names (t.Named name))
    ∙ ap (all_found (nodes_of base) base.env.now) (sym (ap (seen names) is ∙ (seen-simple names simple ∙ ap (simple_seen names) step))))

pub around_more : (f : ℕ → List ℕ) (xs : List ℕ) (k n : ℕ) (old new : List ℕ) {whole : List ℕ} → n ≡ get_or xs k n → k < length xs → new ≡ old ++ f n
    → old ++ flat_map f (drop k xs) ≡ whole → new ++ flat_map f (drop (k + 1) xs) ≡ whole
around_more f xs k n old new e l put h =
    let here : drop k xs ≡ n ∷ drop (k + 1) xs = drop_more xs k n l ∙ ap (λ m. m ∷ drop (k + 1) xs) (sym e) in
    ap (λ ys. ys ++ flat_map f (drop (k + 1) xs)) put
    ∙ (append_assoc old (f n) (flat_map f (drop (k + 1) xs))
    ∙ (ap (λ ys. old ++ ys) (sym (flat_map-cons f n (drop (k + 1) xs)) ∙ ap (flat_map f) (sym here)) ∙ h))
