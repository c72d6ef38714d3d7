-- The axes that lead back.
use Rattle.std.proofs.Common.{◌≡◌, ℕ, zero, suc, ◌+◌, ◌-◌, ◌<◌, ◌≤◌, Bool, true, false, not, cond, ◌&&◌, ◌||◌, ◌==◌, ⊎_elim, ◌⊎◌, List, [], ◌∷◌, ◌++◌, length}
use Rattle.std.proofs.Common.{take, drop, reverse, Option, Some, None, Ok, refl, ap, sym, subst, ◌∙◌, arith}
use Rattle.std.specs.Prelude.{filter, nat_le, nat_lt}
use Rattle.std.proofs.lemmas.List.{append-nil, map-append, reverse-append, take_at, drop_at}
use Rattle.std.proofs.lemmas.Bool.{cases_lt, cases_eq, or_cases, le-leb, lt-leb, lt-ltb, le-ltb, eqb-true, eq-eqb, ne_eqb, false≢true, false_from_ne_true}
use Rattle.std.proofs.lemmas.Bool.{or_left}
use Rattle.inv_base.specs.Tree.{Node, is_among}
use Rattle.node_arena.specs.Document.{Document}
use Rattle.node_arena.specs.Moves.{tree_node, nearest, is_nearest, is_attribute, is_child, is_inside, first_that, parent, first_child}
use Rattle.xpath_grammar.specs.declared.step.Axis.{Axis}
use Rattle.xpath_grammar.specs.declared.step.Axis.TheVariants as a
use Rattle.xpath_meaning.specs.Expressions.{NodeTest}
use Rattle.xpath_meaning.specs.Axes.{is_on, is_earlier, are_siblings, is_child_of_nearest}
use Rattle.xpath_plan.specs.Plans.{test_seen}
use Rattle.xpath_walks.specs.declared.step.Step.{Step}
use Rattle.xpath_walks.specs.declared.walk.Way.TheVariants as w
use Rattle.xpath_walks.specs.Tests.{is_passed}
use Rattle.xpath_walks.specs.Walks.{IsWalkable, Adds, node_numbers, walked, if_so, found_on, passing, from_up}
use Rattle.xpath_walks.proofs.FilterLemmas.{AreCounted, number_is, alike, none_from, one_more}
use Rattle.xpath_walks.proofs.WalkLemmas.{suc-one}
use Rattle.xpath_walks.proofs.ForwardLemmas.{walk_is, and_assoc}

-- ---- numbers that fall

abbrev pub Falls : List ℕ → Type 0
Falls [] = Unit {0}
Falls (p ∷ ps) = ((m : ℕ) → is_among m ps ≡ true → m < p) × Falls ps

cond-append : (b : Bool) (node : Node) (xs ys : List Node) → cond b (node ∷ (xs ++ ys)) (xs ++ ys) ≡ cond b (node ∷ xs) xs ++ ys
cond-append true node xs ys = refl
cond-append false node xs ys = refl

-- a filter that passes one node more, behind all that the other passes
add_last : (p q : Node → Bool) (n : ℕ) (nodes : List Node) → n < length nodes
    → ((k : ℕ) → k < n → k < length nodes → p (tree_node nodes k) ≡ q (tree_node nodes k))
    → ((k : ℕ) → n < k → k < length nodes → p (tree_node nodes k) ≡ false)
    → ((k : ℕ) → n ≤ k → k < length nodes → q (tree_node nodes k) ≡ false)
    → filter p nodes ≡ filter q nodes ++ cond (p (tree_node nodes n)) (tree_node nodes n ∷ []) []
add_last p q n [] h before later none = absurd (omega (arith, h))
add_last p q zero (node ∷ nodes) h before later none =
    one_more p 0 (node ∷ nodes) h
    ∙ (ap (λ ns. cond (p node) (node ∷ []) [] ++ ns) (none_from p 1 (node ∷ nodes) (λ k l b. later k (omega (arith, l)) b))
    ∙ (append-nil (cond (p node) (node ∷ []) [])
    ∙ ap (λ ns. ns ++ cond (p node) (node ∷ []) []) (sym (none_from q 0 (node ∷ nodes) (λ k l b. none k l b)))))
add_last p q (suc n) (node ∷ nodes) h before later none =
    let last : List Node = cond (p (tree_node nodes n)) (tree_node nodes n ∷ []) [] in
    ap (λ ns. cond (p node) (node ∷ ns) ns) (add_last p q n nodes (omega (arith, h))
    (λ k l b. before (suc k) (omega (arith, l)) (omega (arith, b)))
    (λ k l b. later (suc k) (omega (arith, l)) (omega (arith, b)))
    (λ k l b. none (suc k) (omega (arith, l)) (omega (arith, b))))
    ∙ (ap (λ b. cond b (node ∷ (filter q nodes ++ last)) (filter q nodes ++ last)) (before 0 (omega arith) (omega arith))
    ∙ cond-append (q node) node (filter q nodes) last)

numbers-back : (b : Bool) (node : Node) (nodes : List Node) → node_numbers (reverse (nodes ++ cond b (node ∷ []) [])) ≡ if_so b node.number ++
    node_numbers (reverse nodes)
numbers-back true node nodes = ap node_numbers (reverse-append nodes (node ∷ []))
numbers-back false node nodes = ap (λ ns. node_numbers (reverse ns)) (append-nil nodes)

cond-split : (b : Bool) (n : ℕ) (ns : List ℕ) → if_so b n ++ ns ≡ cond b (n ∷ ns) ns
cond-split true n ns = refl
cond-split false n ns = refl

same_or : (x y t : Bool) → x ≡ true → ((x || y) && t) ≡ t
same_or x y t h = rw h refl

other_or : (x y t : Bool) → x ≡ false → ((x || y) && t) ≡ (y && t)
other_or x y t h = rw h refl

neither : (x y t : Bool) → x ≡ false → y ≡ false → ((x || y) && t) ≡ false
neither x y t h k = rw (h, k) refl

left_false : (x t : Bool) → x ≡ false → (x && t) ≡ false
left_false x t h = rw h refl

module _ (nodes : List Node) (counted : AreCounted nodes) (pass : Node → Bool) where
  not_among : (ps : List ℕ) (p k : ℕ) → ((m : ℕ) → is_among m ps ≡ true → m < p) → p ≤ k → is_among k ps ≡ false
  not_among ps p k f le = false_from_ne_true (is_among k ps) (λ e. omega (arith, f k e, le))

  among_at : (ps : List ℕ) (k : ℕ) → k < length nodes → is_among (tree_node nodes k).number ps ≡ is_among k ps
  among_at ps k b = ap (λ m. is_among m ps) (counted k b)

  same_at : (p k : ℕ) → k < length nodes → ((tree_node nodes k).number == p) ≡ (k == p)
  same_at p k b = ap (λ m. m == p) (counted k b)

  pub falling : (ns : List ℕ) → Falls ns → ((m : ℕ) → is_among m ns ≡ true → m < length nodes)
      → node_numbers (reverse (filter (λ node. is_among node.number ns && pass node) nodes)) ≡ filter (λ n. pass (tree_node nodes n)) ns
  falling [] f within = ap (λ ns. node_numbers (reverse ns)) (none_from (λ node. is_among node.number [] && pass node) 0 nodes (λ k l b. refl))
  falling (p ∷ ps) f within =
      let here : p < length nodes = within p (or_left (p == p) (is_among p ps) (eq-eqb p p refl)) in
      let all : Node → Bool = λ node. is_among node.number (p ∷ ps) && pass node in
      let rest : Node → Bool = λ node. is_among node.number ps && pass node in
      ap (λ ns. node_numbers (reverse ns)) (add_last all rest p nodes here
      (λ k l b. other_or ((tree_node nodes k).number == p) (is_among (tree_node nodes k).number ps) (pass (tree_node nodes k))
      (same_at p k b ∙ ne_eqb k p (λ e. omega (arith, e, l))))
      (λ k l b. neither ((tree_node nodes k).number == p) (is_among (tree_node nodes k).number ps) (pass (tree_node nodes k))
      (same_at p k b ∙ ne_eqb k p (λ e. omega (arith, e, l))) (among_at ps k b ∙ not_among ps p k f.0 (omega (arith, l))))
      (λ k l b. left_false (is_among (tree_node nodes k).number ps) (pass (tree_node nodes k)) (among_at ps k b ∙ not_among ps p k f.0 l)))
      ∙ (numbers-back (all (tree_node nodes p)) (tree_node nodes p) (filter rest nodes)
      ∙ (ap (λ m. if_so (all (tree_node nodes p)) m ++ node_numbers (reverse (filter rest nodes))) (counted p here)
      ∙ (ap (λ b. if_so b p ++ node_numbers (reverse (filter rest nodes)))
      (same_or ((tree_node nodes p).number == p) (is_among (tree_node nodes p).number ps) (pass (tree_node nodes p)) (same_at p p here ∙ eq-eqb p p refl))
      ∙ (ap (λ ns. if_so (pass (tree_node nodes p)) p ++ ns) (falling ps f.1 (λ m e. omega (arith, f.0 m e, here)))
      ∙ cond-split (pass (tree_node nodes p)) p (filter (λ n. pass (tree_node nodes n)) ps)))))

-- ---- ancestors fall

none_above : (above : List ℕ) → nearest above ≡ None → [] ≡ above
none_above [] e = refl
none_above (m ∷ above) e = cc

short : (m : ℕ) (ns : List ℕ) → length ns ≤ 0 → is_among m ns ≡ true → ⊥
short m [] h e = false≢true e
short m (n ∷ ns) h e = omega (arith, h)

module _ (nodes : List Node) (s : IsWalkable nodes) where
  pub up_is : (n : ℕ) → n < length nodes → (o : Option ℕ) → parent nodes n ≡ o → from_up o nodes ≡ (tree_node nodes n).above
  up_is n h None e = none_above (tree_node nodes n).above e
  up_is n h (Some p) e = sym ((s.leads n h).around p e)

  below : (b n : ℕ) → n < b → n < length nodes → (m : ℕ) → is_among m (tree_node nodes n).above ≡ true → m < n
  below zero n l h m e = absurd (omega (arith, l))
  below (suc b) zero l h m e = absurd (short m (tree_node nodes 0).above ((s.leads 0 h).level) e)
  below (suc b) (suc n) l h m e =
      let at : suc n ≡ n + 1 = suc-one n in
      let in_it : n < length nodes = omega (arith, h) in
      let next : (p : ℕ) × (parent nodes (n + 1) ≡ Some p) × ((p ≡ n) ⊎ (is_inside p (tree_node nodes n) ≡ true)) =
      (s.leads n in_it).next_parent (omega (arith, h)) in
      let p : ℕ = next.0 in
      let to : p ≤ n = ⊎_elim (λ (same : next.0 ≡ n). omega (arith, same))
      (λ (i : is_inside next.0 (tree_node nodes n) ≡ true). omega (arith, below b n (omega (arith, l)) in_it next.0 i)) next.2 in
      let above_is : (tree_node nodes (suc n)).above ≡ p ∷ (tree_node nodes p).above = (s.leads (suc n) h).around p (ap (parent nodes) at ∙ next.1) in
      ⊎_elim
      (λ (same : (m == p) ≡ true). omega (arith, eqb-true m p same, to))
      (λ (more : is_among m (tree_node nodes p).above ≡ true). omega (arith, below b p (omega (arith, to, l)) (omega (arith, to, in_it)) m more, to))
      (or_cases (m == p) (is_among m (tree_node nodes p).above) (sym (ap (is_among m) above_is) ∙ e))

  pub above_below : (n : ℕ) → n < length nodes → (m : ℕ) → is_among m (tree_node nodes n).above ≡ true → m < n
  above_below n h m e = below (suc n) n (omega arith) h m e

  falls_from : (b n : ℕ) → n < b → n < length nodes → (o : Option ℕ) → parent nodes n ≡ o → Falls (tree_node nodes n).above
  falls_from zero n l h o e = absurd (omega (arith, l))
  falls_from (suc b) n l h None e = subst Falls (none_above (tree_node nodes n).above e) tt
  falls_from (suc b) n l h (Some p) e =
      let above_is : (tree_node nodes n).above ≡ p ∷ (tree_node nodes p).above = (s.leads n h).around p e in
      let lower : p < n = above_below n h p (ap (is_among p) above_is ∙ or_left (p == p) (is_among p (tree_node nodes p).above) (eq-eqb p p refl)) in
      let in_it : p < length nodes = omega (arith, lower, h) in
      subst Falls (sym above_is) (above_below p in_it, falls_from b p (omega (arith, lower, l)) in_it (parent nodes p) refl)

  pub above_falls : (n : ℕ) → n < length nodes → Falls (tree_node nodes n).above
  above_falls n h = falls_from (suc n) n (omega arith) h (parent nodes n) refl

  -- ---- the axes

  module _ (n : ℕ) (h : n < length nodes) (axis : Axis) (test : Option NodeTest) where
    pub ancestor_is : passing axis nodes (tree_node nodes n).above test ≡ found_on a.Ancestor axis nodes n test
    ancestor_is = sym (falling nodes s.counted (λ node. is_passed axis test node) (tree_node nodes n).above (above_falls n h)
        (λ m e. omega (arith, above_below n h m e, h)))

    pub ancestor_or_self_is : if_so (is_passed axis test (tree_node nodes n)) n ++
        passing axis nodes (tree_node nodes n).above test ≡ found_on a.AncestorOrSelf axis nodes n test
    ancestor_or_self_is =
        let up : List ℕ = (tree_node nodes n).above in
        cond-split (is_passed axis test (tree_node nodes n)) n (passing axis nodes up test)
        ∙ (sym (falling nodes s.counted (λ node. is_passed axis test node) (n ∷ up) (above_below n h, above_falls n h) (within n h))
        ∙ ap (λ m. node_numbers (reverse (filter (λ node. is_among node.number (m ∷ (tree_node nodes n).above) && is_passed axis test node) nodes)))
        (sym (s.counted n h)))
      where
        within : (n : ℕ) → n < length nodes → (m : ℕ) → is_among m (n ∷ (tree_node nodes n).above) ≡ true → m < length nodes
        within n h m e = ⊎_elim
            (λ (same : (m == n) ≡ true). omega (arith, eqb-true m n same, h))
            (λ (more : is_among m (tree_node nodes n).above ≡ true). omega (arith, above_below n h m more, h))
            (or_cases (m == n) (is_among m (tree_node nodes n).above) e)

split-cond : (b : Bool) (n : ℕ) (ns : List ℕ) → cond b (n ∷ ns) ns ≡ if_so b n ++ ns
split-cond true n ns = refl
split-cond false n ns = refl

-- one step up
pub climbed : (axis : Axis) (nodes : List Node) (s : IsWalkable nodes) (n : ℕ) (h : n < length nodes) (next up : Option ℕ) (test : Option NodeTest)
    → next ≡ Some n → up ≡ parent nodes n
    → passing axis nodes (from_up next nodes) test ≡ if_so (is_passed axis test (tree_node nodes n)) n ++ passing axis nodes (from_up up nodes) test
climbed axis nodes s n h next up test e u =
    ap (λ o. passing axis nodes (from_up o nodes) test) e
    ∙ (split-cond (is_passed axis test (tree_node nodes n)) n (passing axis nodes (tree_node nodes n).above test)
    ∙ ap (λ ns. if_so (is_passed axis test (tree_node nodes n)) n ++ passing axis nodes ns test) (sym (up_is nodes s n h up (sym u))))

-- ---- what is turned round

pub reverse-numbers : (nodes : List Node) → reverse (node_numbers nodes) ≡ node_numbers (reverse nodes)
reverse-numbers [] = refl
reverse-numbers (node ∷ nodes) =
    reverse-append (node.number ∷ []) (node_numbers nodes)
    ∙ (ap (λ ns. ns ++ node.number ∷ []) (reverse-numbers nodes)
    ∙ (sym (map-append (λ (x : Node). x.number) (reverse nodes) (node ∷ [])) ∙ ap node_numbers (sym (reverse-append (node ∷ []) nodes))))

pub adds_back : {X Y : Type 0} (E : Type 0) (document : Document) (step : Step) (x : X) (y : Y) (old middle new : List ℕ) (at : ℕ)
    (f g : Option NodeTest → List ℕ)
    → length old ≡ at → new ≡ take at middle ++ reverse (drop at middle) → ((test : Option NodeTest) → reverse (f test) ≡ g test)
    → Adds {X = X} {E = E} document step (Ok x) old middle f → Adds {X = Y} {E = E} document step (Ok y) old new g
adds_back E document step x y old middle new at f g long turned same h = λ names is.
    let t = test_seen names step.test.now in
    turned
    ∙ (ap (λ xs. take at xs ++ reverse (drop at xs)) (h names is)
    ∙ (ap (λ xs. xs ++ reverse (drop at (old ++ f t))) (take_at old (f t) at long)
    ∙ ap (λ xs. old ++ xs) (ap reverse (drop_at old (f t) at long) ∙ same t)))

lt-le : (k n last : ℕ) → last ≡ n - 1 → 0 < n → nat_lt k n ≡ nat_le k last
lt-le k n last e h = ⊎_elim
    (λ (l : k < n). lt-ltb k n l ∙ sym (le-leb k last (omega (arith, l, e))))
    (λ (g : n ≤ k). le-ltb k n g ∙ sym (lt-leb k last (omega (arith, g, e, h))))
    (cases_lt k n)

pub first_all : (nodes : List Node) (m : ℕ) → AreCounted nodes → 0 < length nodes → m ≡ 0 → Some m ≡ first_that (λ _. true) nodes
first_all [] m counted h e = absurd (omega (arith, h))
first_all (node ∷ nodes) m counted h e = ap Some (e ∙ sym (counted 0 h))

nearest_is : (above : List ℕ) (p k : ℕ) → nearest above ≡ Some p → is_nearest k above ≡ is_among k (p ∷ [])
nearest_is [] p k e = cc
nearest_is (m ∷ above) p k e = ap (λ q. q == k) (number_is m p e) ∙ turned p k
  where
    turned : (p k : ℕ) → (p == k) ≡ (k == p || false)
    turned p k = ⊎_elim
        (λ (same : p ≡ k). eq-eqb p k same ∙ sym (or_left (k == p) false (eq-eqb k p (sym same))))
        (λ (other : p ≡ k → ⊥). ne_eqb p k other ∙ sym (ap (λ b. b || false) (ne_eqb k p (λ e. other (sym e)))))
        (cases_eq p k)

no_nearest : (above : List ℕ) (k : ℕ) → nearest above ≡ None → is_nearest k above ≡ false
no_nearest [] k e = refl
no_nearest (m ∷ above) k e = cc

child_of : (above : List ℕ) (p : ℕ) (node : Node) → nearest above ≡ Some p → is_child_of_nearest above node ≡ is_child p node
child_of [] p node e = cc
child_of (m ∷ above) p node e = ap (λ x. is_child x node) (number_is m p e)

no_child : (above : List ℕ) (node : Node) → nearest above ≡ None → is_child_of_nearest above node ≡ false
no_child [] node e = refl
no_child (m ∷ above) node e = cc

middle_false : (x e t : Bool) → (((x && false) && e) && t) ≡ false
middle_false true e t = refl
middle_false false e t = refl

module _ (nodes : List Node) (s : IsWalkable nodes) (n : ℕ) (h : n < length nodes) (axis : Axis) (test : Option NodeTest) where
  earlier_is : (k : ℕ) → k < length nodes → is_earlier (tree_node nodes k) (tree_node nodes n) ≡ nat_lt k n
  earlier_is k b = ap (λ m. nat_lt m (tree_node nodes n).number) (s.counted k b) ∙ ap (λ m. nat_lt k m) (s.counted n h)

  to_last : (k last : ℕ) → k < length nodes → last ≡ n - 1 → 0 < n → is_earlier (tree_node nodes k) (tree_node nodes n) ≡ nat_le (tree_node nodes k).number last
  to_last k last b e z = earlier_is k b ∙ (lt-le k n last e z ∙ ap (λ m. nat_le m last) (sym (s.counted k b)))

  pub parent_is : (p : ℕ) → p < length nodes → parent nodes n ≡ Some p → if_so (is_passed axis test (tree_node nodes p)) p ≡ found_on a.Parent axis nodes n test
  parent_is p within e =
      sym (falling nodes s.counted (λ node. is_passed axis test node) (p ∷ []) ((λ m i. absurd (false≢true i)), tt) (λ m i. one m i))
      ∙ ap (λ ns. node_numbers (reverse ns)) (alike (λ node. is_among node.number (p ∷ []) && is_passed axis test node)
      (λ node. is_nearest node.number (tree_node nodes n).above && is_passed axis test node) 0 nodes
      (λ k l b. ap (λ c. c && is_passed axis test (tree_node nodes k)) (sym (nearest_is (tree_node nodes n).above p (tree_node nodes k).number e))))
    where
      one : (m : ℕ) → is_among m (p ∷ []) ≡ true → m < length nodes
      one m i = ⊎_elim
          (λ (same : (m == p) ≡ true). omega (arith, eqb-true m p same, within))
          (λ (no : false ≡ true). absurd (false≢true no))
          (or_cases (m == p) false i)

  pub no_parent : parent nodes n ≡ None → [] ≡ found_on a.Parent axis nodes n test
  no_parent e = ap (λ ns. node_numbers (reverse ns))
      (sym (none_from (λ node. is_nearest node.number (tree_node nodes n).above && is_passed axis test node) 0 nodes
      (λ k l b. ap (λ c. c && is_passed axis test (tree_node nodes k)) (no_nearest (tree_node nodes n).above (tree_node nodes k).number e))))

  pub preceding_is : (begin : Option ℕ) (last : ℕ) → last ≡ n - 1 → 0 < n → begin ≡ first_that (λ _. true) nodes
      → reverse (walked (w.Before n) nodes begin last axis test) ≡ found_on a.Preceding axis nodes n test
  preceding_is begin last l z e =
      ap reverse (walk_is (λ node. is_on a.Preceding (tree_node nodes n) node && is_passed axis test node) (w.Before n) nodes 0 begin last axis test s.counted
      (λ k le b. absurd (omega (arith, le)))
      (λ k le b.
      let m : Bool = not (is_attribute (tree_node nodes k)) && not (is_inside (tree_node nodes k).number (tree_node nodes n)) in
      ap (λ c. (c && m) && is_passed axis test (tree_node nodes k)) (to_last k last b l z)
      ∙ and_assoc (nat_le (tree_node nodes k).number last) m (is_passed axis test (tree_node nodes k)))
      e)
      ∙ reverse-numbers (filter (λ node. is_on a.Preceding (tree_node nodes n) node && is_passed axis test node) nodes)

  pub none_preceding : n ≡ 0 → [] ≡ found_on a.Preceding axis nodes n test
  none_preceding e = ap (λ ns. node_numbers (reverse ns))
      (sym (none_from (λ node. is_on a.Preceding (tree_node nodes n) node && is_passed axis test node) 0 nodes
      (λ k l b. ap (λ c. (c && (not (is_attribute (tree_node nodes k)) && not (is_inside (tree_node nodes k).number (tree_node nodes n)))) &&
      is_passed axis test (tree_node nodes k))
      (earlier_is k b ∙ le-ltb k n (omega (arith, e))))))

  pub preceding_sibling_is : (begin : Option ℕ) (p last : ℕ) → is_attribute (tree_node nodes n) ≡ false → parent nodes n ≡ Some p → last ≡ n - 1 → 0 < n
      → begin ≡ first_child nodes p
      → reverse (walked (w.Children p) nodes begin last axis test) ≡ found_on a.PrecedingSibling axis nodes n test
  preceding_sibling_is begin p last plain par l z e =
      ap reverse (walk_is (λ node. is_on a.PrecedingSibling (tree_node nodes n) node && is_passed axis test node)
      (w.Children p) nodes 0 begin last axis test s.counted
      (λ k le b. absurd (omega (arith, le)))
      (λ k le b.
      ap (λ c. (are_siblings (tree_node nodes n) (tree_node nodes k) && c) && is_passed axis test (tree_node nodes k)) (to_last k last b l z)
      ∙ (and_assoc (are_siblings (tree_node nodes n) (tree_node nodes k)) (nat_le (tree_node nodes k).number last) (is_passed axis test (tree_node nodes k))
      ∙ ap (λ c. c && (nat_le (tree_node nodes k).number last && is_passed axis test (tree_node nodes k)))
      (ap (λ c. not c && is_child_of_nearest (tree_node nodes n).above (tree_node nodes k)) plain ∙
      child_of (tree_node nodes n).above p (tree_node nodes k) par)))
      e)
      ∙ reverse-numbers (filter (λ node. is_on a.PrecedingSibling (tree_node nodes n) node && is_passed axis test node) nodes)

  pub attribute_alone : is_attribute (tree_node nodes n) ≡ true → [] ≡ found_on a.PrecedingSibling axis nodes n test
  attribute_alone so = ap (λ ns. node_numbers (reverse ns))
      (sym (none_from (λ node. is_on a.PrecedingSibling (tree_node nodes n) node && is_passed axis test node) 0 nodes
      (λ k l b. ap (λ c. ((not c && is_child_of_nearest (tree_node nodes n).above (tree_node nodes k)) && is_earlier (tree_node nodes k) (tree_node nodes n)) &&
      is_passed axis test (tree_node nodes k)) so)))

  pub outermost_alone : parent nodes n ≡ None → [] ≡ found_on a.PrecedingSibling axis nodes n test
  outermost_alone e = ap (λ ns. node_numbers (reverse ns))
      (sym (none_from (λ node. is_on a.PrecedingSibling (tree_node nodes n) node && is_passed axis test node) 0 nodes
      (λ k l b. ap (λ c. ((not (is_attribute (tree_node nodes n)) && c) && is_earlier (tree_node nodes k) (tree_node nodes n)) &&
      is_passed axis test (tree_node nodes k))
      (no_child (tree_node nodes n).above (tree_node nodes k) e)
      ∙ middle_false (not (is_attribute (tree_node nodes n))) (is_earlier (tree_node nodes k) (tree_node nodes n)) (is_passed axis test (tree_node nodes k)))))
