-- The axes that lead forward are walks.
use Rattle.std.proofs.Common.{◌≡◌, ℕ, suc, ◌+◌, ◌<◌, ◌≤◌, Bool, true, false, not, cond, ◌&&◌, ◌||◌, ◌==◌, ⊎_elim, List, [], ◌∷◌, ◌++◌, length, drop, reverse}
use Rattle.std.proofs.Common.{Option, Some, None, Result, Ok, Err, IfSome, refl, ap, sym, ◌∙◌, arith, append_assoc}
use Rattle.std.specs.Prelude.{filter, nat_le, nat_lt}
use Rattle.std.proofs.lemmas.List.{append-nil}
use Rattle.std.proofs.lemmas.Bool.{cases_Bool, cases_lt, le-leb, lt-leb, lt-ltb, le-ltb, eq-eqb, ne_eqb}
use Rattle.inv_base.specs.Tree.{Node}
use Rattle.node_arena.specs.Document.{Document}
use Rattle.xpath_plan.specs.Plans.{test_seen}
use Rattle.xpath_walks.specs.declared.step.Step.{Step}
use Rattle.node_arena.specs.Moves.{tree_node, behind, nearest, is_attribute, is_child, is_attribute_of, is_inside, is_between, first_that, parent, first_child}
use Rattle.node_arena.specs.Moves.{first_attribute, next_sibling, last_inside}
use Rattle.xpath_grammar.specs.declared.step.Axis.{Axis}
use Rattle.xpath_grammar.specs.declared.step.Axis.TheVariants as a
use Rattle.xpath_meaning.specs.Expressions.{NodeTest}
use Rattle.xpath_meaning.specs.Axes.{is_on, is_reverse, in_order_of, is_the, is_earlier, are_siblings, is_child_of_nearest}
use Rattle.xpath_walks.specs.declared.walk.Way.{Way}
use Rattle.xpath_walks.specs.declared.walk.Way.TheVariants as w
use Rattle.xpath_walks.specs.Tests.{is_passed}
use Rattle.xpath_walks.specs.Walks.{IsWalkable, Adds, node_numbers, is_on_way, is_taken, is_walked, walked, if_so, found_on, found, axis_numbers}
use Rattle.xpath_walks.proofs.FilterLemmas.{AreCounted, right_none, number_is, skip, alike, none_from, one_more, from_first}
use Rattle.xpath_walks.proofs.WalkLemmas.{numbers-cond, first_is_on}

-- What is wanted is what a walk takes, where it is nothing before the walk's first place.
pub walk_is : (p : Node → Bool) (way : Way) (nodes : List Node) (from : ℕ) (begin : Option ℕ) (last : ℕ) (axis : Axis) (test : Option NodeTest) →
    AreCounted nodes
    → ((k : ℕ) → k < from → k < length nodes → p (tree_node nodes k) ≡ false)
    → ((k : ℕ) → from ≤ k → k < length nodes → p (tree_node nodes k) ≡ is_walked way nodes last axis test (tree_node nodes k))
    → begin ≡ first_that (is_on_way way) (drop from nodes)
    → walked way nodes begin last axis test ≡ node_numbers (filter p nodes)
walk_is p way nodes from begin last axis test counted before behind_it e =
    let v = is_walked way nodes last axis test in
    ap node_numbers (sym (skip p 0 from nodes (omega arith) (λ k a b c. before k b c)
    ∙ (alike p v from nodes behind_it
    ∙ from_first v (is_on_way way) from nodes begin counted (λ node h. ap (λ b. b && (nat_le node.number last && is_taken way nodes axis test node)) h) e)))

up_to : (nodes : List Node) (last k : ℕ) → AreCounted nodes → k < length nodes → k ≤ last → nat_le (tree_node nodes k).number last ≡ true
up_to nodes last k counted within le = ap (λ m. nat_le m last) (counted k within) ∙ le-leb k last le

-- ---- tests

pub and_assoc : (x y z : Bool) → ((x && y) && z) ≡ (x && (y && z))
and_assoc true y z = refl
and_assoc false y z = refl

and_false : (x y : Bool) → ((x && false) && y) ≡ false
and_false true y = refl
and_false false y = refl

and_true : (x y : Bool) → ((x && true) && y) ≡ (x && y)
and_true true y = refl
and_true false y = refl

following_out : (e a i t : Bool) → i ≡ true → ((e && (a && not i)) && t) ≡ false
following_out e a i t h = rw h (go e a t)
  where
    go : (e a t : Bool) → ((e && (a && false)) && t) ≡ false
    go true true t = refl
    go true false t = refl
    go false a t = refl

following_in : (e a i t m : Bool) → e ≡ true → i ≡ false → m ≡ true → ((e && (a && not i)) && t) ≡ (m && (a && t))
following_in e a i t m he hi hm = rw (he, hi, hm) (and_true a t)

sibling_in : (s e t m : Bool) → e ≡ true → m ≡ true → ((s && e) && t) ≡ (s && (m && t))
sibling_in s e t m he hm = rw (he, hm) (and_true s t)

sibling_out : (s e t : Bool) → e ≡ false → ((s && e) && t) ≡ false
sibling_out s e t he = rw he (and_false s t)

or_self : (x y t : Bool) → x ≡ true → ((x || y) && t) ≡ t
or_self x y t h = rw h refl

or_other : (x y t : Bool) → x ≡ false → ((x || y) && t) ≡ (y && t)
or_other x y t h = rw h refl

or_none : (x i a t : Bool) → x ≡ false → i ≡ false → ((x || (i && a)) && t) ≡ false
or_none x i a t h k = rw (h, k) refl

inside_out : (i a t : Bool) → i ≡ false → ((i && a) && t) ≡ false
inside_out i a t h = rw h refl

-- the one node that may pass
pub only : (p : Node → Bool) (nodes : List Node) (n : ℕ) → AreCounted nodes → n < length nodes
    → ((k : ℕ) → (k ≡ n → ⊥) → k < length nodes → p (tree_node nodes k) ≡ false)
    → node_numbers (filter p nodes) ≡ if_so (p (tree_node nodes n)) n
only p nodes n counted h none =
    ap node_numbers (skip p 0 n nodes (omega arith) (λ k a b c. none k (λ e. omega (arith, e, b)) c)
    ∙ (one_more p n nodes h
    ∙ ap (λ ns. cond (p (tree_node nodes n)) (tree_node nodes n ∷ []) [] ++ ns) (none_from p (suc n) nodes (λ k a c. none k (λ e. omega (arith, e, a)) c))))
    ∙ (numbers-cond (p (tree_node nodes n)) (tree_node nodes n) []
    ∙ (append-nil (if_so (p (tree_node nodes n)) (tree_node nodes n).number) ∙ ap (if_so (p (tree_node nodes n))) (counted n h)))

module _ (nodes : List Node) (s : IsWalkable nodes) (n : ℕ) (h : n < length nodes) (axis : Axis) (test : Option NodeTest) where
  the_is : (k : ℕ) → k < length nodes → is_the (tree_node nodes n) (tree_node nodes k) ≡ (k == n)
  the_is k b = ap (λ m. m == (tree_node nodes n).number) (s.counted k b) ∙ ap (λ m. k == m) (s.counted n h)

  the_other : (k : ℕ) → (k ≡ n → ⊥) → k < length nodes → is_the (tree_node nodes n) (tree_node nodes k) ≡ false
  the_other k ne b = the_is k b ∙ ne_eqb k n ne

  the_same : is_the (tree_node nodes n) (tree_node nodes n) ≡ true
  the_same = eq-eqb _ _ refl

  earlier_is : (k : ℕ) → k < length nodes → is_earlier (tree_node nodes n) (tree_node nodes k) ≡ nat_lt n k
  earlier_is k b = ap (λ m. nat_lt m (tree_node nodes k).number) (s.counted n h) ∙ ap (λ m. nat_lt n m) (s.counted k b)

  inside_is : (k : ℕ) → k < length nodes → is_inside (tree_node nodes n).number (tree_node nodes k) ≡ is_between n (last_inside nodes n) k
  inside_is k b = ap (λ m. is_inside m (tree_node nodes k)) (s.counted n h) ∙ s.inside n k h b

  inside_before : (k : ℕ) → k < length nodes → k ≤ n → is_inside (tree_node nodes n).number (tree_node nodes k) ≡ false
  inside_before k b le = inside_is k b ∙ ap (λ c. c && nat_le k (last_inside nodes n)) (le-ltb n k le)

  inside_behind : (k : ℕ) → k < length nodes → n < k → is_inside (tree_node nodes n).number (tree_node nodes k) ≡ nat_le k (last_inside nodes n)
  inside_behind k b lt = inside_is k b ∙ ap (λ c. c && nat_le k (last_inside nodes n)) (lt-ltb n k lt)

  pub child_is : (begin : Option ℕ) (last : ℕ) → length nodes ≤ last + 1 → begin ≡ first_child nodes n
      → walked (w.Children n) nodes begin last axis test ≡ found_on a.Child axis nodes n test
  child_is begin last few e =
      walk_is (λ node. is_on a.Child (tree_node nodes n) node && is_passed axis test node) (w.Children n) nodes 0 begin last axis test s.counted
      (λ k a b. absurd (omega (arith, a)))
      (λ k a b. ap (λ m. is_child m (tree_node nodes k) && is_passed axis test (tree_node nodes k)) (s.counted n h)
      ∙ ap (λ c. is_child n (tree_node nodes k) && (c && is_passed axis test (tree_node nodes k)))
      (sym (up_to nodes last k s.counted b (omega (arith, b, few)))))
      e

  pub attribute_is : (begin : Option ℕ) (last : ℕ) → length nodes ≤ last + 1 → begin ≡ first_attribute nodes n
      → walked (w.Attributes n) nodes begin last axis test ≡ found_on a.Attribute axis nodes n test
  attribute_is begin last few e =
      walk_is (λ node. is_on a.Attribute (tree_node nodes n) node && is_passed axis test node) (w.Attributes n) nodes 0 begin last axis test s.counted
      (λ k a b. absurd (omega (arith, a)))
      (λ k a b. ap (λ m. is_attribute_of m (tree_node nodes k) && is_passed axis test (tree_node nodes k)) (s.counted n h)
      ∙ ap (λ c. is_attribute_of n (tree_node nodes k) && (c && is_passed axis test (tree_node nodes k)))
      (sym (up_to nodes last k s.counted b (omega (arith, b, few)))))
      e

  pub itself_is : if_so (is_passed axis test (tree_node nodes n)) n ≡ found_on a.Itself axis nodes n test
  itself_is =
      sym (only (λ node. is_on a.Itself (tree_node nodes n) node && is_passed axis test node) nodes n s.counted h
      (λ k ne b. ap (λ c. c && is_passed axis test (tree_node nodes k)) (the_other k ne b))
      ∙ ap (λ c. if_so (c && is_passed axis test (tree_node nodes n)) n) the_same)

  pub descendant_is : (begin : Option ℕ) (last : ℕ) → last ≡ last_inside nodes n → begin ≡ first_that (λ _. true) (behind n nodes)
      → walked w.All nodes begin last axis test ≡ found_on a.Descendant axis nodes n test
  descendant_is begin last l e =
      walk_is (λ node. is_on a.Descendant (tree_node nodes n) node && is_passed axis test node) w.All nodes (n + 1) begin last axis test s.counted
      (λ k a b. inside_out (is_inside (tree_node nodes n).number (tree_node nodes k)) (not (is_attribute (tree_node nodes k)))
      (is_passed axis test (tree_node nodes k))
      (inside_before k b (omega (arith, a))))
      (λ k a b. and_assoc (is_inside (tree_node nodes n).number (tree_node nodes k)) (not (is_attribute (tree_node nodes k)))
      (is_passed axis test (tree_node nodes k))
      ∙ ap (λ c. c && (not (is_attribute (tree_node nodes k)) && is_passed axis test (tree_node nodes k)))
      (inside_behind k b (omega (arith, a)) ∙ (ap (λ m. nat_le k m) (sym l) ∙ ap (λ m. nat_le m last) (sym (s.counted k b)))))
      e

  pub descendant_or_self_is : if_so (is_passed axis test (tree_node nodes n)) n ++
      found_on a.Descendant axis nodes n test ≡ found_on a.DescendantOrSelf axis nodes n test
  descendant_or_self_is =
      let t : Node → Bool = λ node. is_passed axis test node in
      let p : Node → Bool = λ node. is_on a.Descendant (tree_node nodes n) node && is_passed axis test node in
      let q : Node → Bool = λ node. is_on a.DescendantOrSelf (tree_node nodes n) node && is_passed axis test node in
      let before : filter q (drop 0 nodes) ≡ filter q (drop n nodes) = skip q 0 n nodes (omega arith) (λ k a b c.
      or_none (is_the (tree_node nodes n) (tree_node nodes k)) (is_inside (tree_node nodes n).number (tree_node nodes k))
      (not (is_attribute (tree_node nodes k))) (t (tree_node nodes k))
      (the_other k (λ e. omega (arith, e, b)) c) (inside_before k c (omega (arith, b)))) in
      let same : filter q (drop (suc n) nodes) ≡ filter p (drop (suc n) nodes) = alike q p (suc n) nodes (λ k le b.
      or_other (is_the (tree_node nodes n) (tree_node nodes k)) (is_on a.Descendant (tree_node nodes n) (tree_node nodes k)) (t (tree_node nodes k))
      (the_other k (λ e. omega (arith, e, le)) b)) in
      let rest : filter p (drop 0 nodes) ≡ filter p (drop (suc n) nodes) = skip p 0 (suc n) nodes (omega arith) (λ k a b c.
      inside_out (is_inside (tree_node nodes n).number (tree_node nodes k)) (not (is_attribute (tree_node nodes k))) (t (tree_node nodes k))
      (inside_before k c (omega (arith, b)))) in
      let here : q (tree_node nodes n) ≡ t (tree_node nodes n) =
      or_self (is_the (tree_node nodes n) (tree_node nodes n)) (is_on a.Descendant (tree_node nodes n) (tree_node nodes n))
      (t (tree_node nodes n)) the_same in
      sym (ap node_numbers (before ∙ one_more q n nodes h)
      ∙ (numbers-cond (q (tree_node nodes n)) (tree_node nodes n) (filter q (drop (suc n) nodes))
      ∙ (ap (λ m. if_so (q (tree_node nodes n)) m ++ node_numbers (filter q (drop (suc n) nodes))) (s.counted n h)
      ∙ (ap (λ b. if_so b n ++ node_numbers (filter q (drop (suc n) nodes))) here
      ∙ ap (λ ns. if_so (t (tree_node nodes n)) n ++ node_numbers ns) (same ∙ sym rest)))))

  pub following_is : (begin : Option ℕ) (last most : ℕ) → last ≡ last_inside nodes n → n ≤ last → length nodes ≤ most + 1 →
      begin ≡ first_that (λ _. true) (behind last nodes)
      → walked w.All nodes begin most axis test ≡ found_on a.Following axis nodes n test
  following_is begin last most l le few e =
      walk_is (λ node. is_on a.Following (tree_node nodes n) node && is_passed axis test node) w.All nodes (last + 1) begin most axis test s.counted
      (λ k a b. before k b (omega (arith, a)))
      (λ k a b. following_in (is_earlier (tree_node nodes n) (tree_node nodes k)) (not (is_attribute (tree_node nodes k)))
      (is_inside (tree_node nodes n).number (tree_node nodes k))
      (is_passed axis test (tree_node nodes k)) (nat_le (tree_node nodes k).number most)
      (earlier_is k b ∙ lt-ltb n k (omega (arith, a, le)))
      (inside_behind k b (omega (arith, a, le)) ∙ lt-leb k (last_inside nodes n) (omega (arith, a, l)))
      (up_to nodes most k s.counted b (omega (arith, b, few))))
      e
    where
      before : (k : ℕ) → k < length nodes → k ≤ last →
          (is_on a.Following (tree_node nodes n) (tree_node nodes k) && is_passed axis test (tree_node nodes k)) ≡ false
      before k b to = ⊎_elim
          (λ (in_it : n < k). following_out (is_earlier (tree_node nodes n) (tree_node nodes k)) (not (is_attribute (tree_node nodes k)))
          (is_inside (tree_node nodes n).number (tree_node nodes k)) (is_passed axis test (tree_node nodes k))
          (inside_behind k b in_it ∙ le-leb k (last_inside nodes n) (omega (arith, to, l))))
          (λ (out : k ≤ n). ap (λ c. (c && (not (is_attribute (tree_node nodes k)) && not (is_inside (tree_node nodes n).number (tree_node nodes k)))) &&
          is_passed axis test (tree_node nodes k))
          (earlier_is k b ∙ le-ltb n k out))
          (cases_lt n k)

  -- ---- siblings

  child_of : (above : List ℕ) (p : ℕ) (node : Node) → nearest above ≡ Some p → is_child_of_nearest above node ≡ is_child p node
  child_of [] p node e = cc
  child_of (m ∷ above) p node e = ap (λ x. is_child x node) (number_is m p e)

  no_child : (above : List ℕ) (node : Node) → nearest above ≡ None → is_child_of_nearest above node ≡ false
  no_child [] node e = refl
  no_child (m ∷ above) node e = cc

  right_false : (x e t : Bool) → ((x && false && e) && t) ≡ false
  right_false true e t = refl
  right_false false e t = refl

  pub no_siblings : parent nodes n ≡ None → [] ≡ found_on a.FollowingSibling axis nodes n test
  no_siblings e = sym (ap node_numbers (none_from (λ node. is_on a.FollowingSibling (tree_node nodes n) node && is_passed axis test node) 0 nodes (λ k a b.
      ap (λ c. ((not (is_attribute (tree_node nodes n)) && c) && is_earlier (tree_node nodes n) (tree_node nodes k)) && is_passed axis test (tree_node nodes k))
      (no_child (tree_node nodes n).above (tree_node nodes k) e)
      ∙ right_false (not (is_attribute (tree_node nodes n))) (is_earlier (tree_node nodes n) (tree_node nodes k)) (is_passed axis test (tree_node nodes k)))))

  sibling_link : (p : ℕ) → is_attribute (tree_node nodes n) ≡ false → parent nodes n ≡ Some p → next_sibling nodes n ≡ first_that (is_child p) (behind n nodes)
  sibling_link p plain e =
      ap (λ b. cond b None (elim (parent nodes n) [ None ↦ None | Some q ↦ first_that (is_child q) (behind n nodes) ])) plain
      ∙ ap (λ o. elim o [ None ↦ None | Some q ↦ first_that (is_child q) (behind n nodes) ]) e

  pub sibling_on : (begin : Option ℕ) (p : ℕ) → parent nodes n ≡ Some p → begin ≡ next_sibling nodes n →
      IfSome begin (λ m. is_on_way (w.Children p) (tree_node nodes m) ≡ true)
  sibling_on begin p par e = ⊎_elim
      (λ (so : is_attribute (tree_node nodes n) ≡ true). nowhere begin
      (e ∙ ap (λ b. cond b None (elim (parent nodes n) [ None ↦ None | Some q ↦ first_that (is_child q) (behind n nodes) ])) so))
      (λ (plain : is_attribute (tree_node nodes n) ≡ false). first_is_on (w.Children p) nodes (n + 1) begin s.counted (e ∙ sibling_link p plain par))
      (cases_Bool (is_attribute (tree_node nodes n)))
    where
      nowhere : (o : Option ℕ) → o ≡ None → IfSome o (λ m. is_on_way (w.Children p) (tree_node nodes m) ≡ true)
      nowhere None e = tt
      nowhere (Some m) e = cc

  pub following_sibling_is : (begin : Option ℕ) (p most : ℕ) → parent nodes n ≡ Some p → length nodes ≤ most + 1 → begin ≡ next_sibling nodes n
      → walked (w.Children p) nodes begin most axis test ≡ found_on a.FollowingSibling axis nodes n test
  following_sibling_is begin p most par few e = ⊎_elim
      (λ (so : is_attribute (tree_node nodes n) ≡ true).
      ap (λ o. walked (w.Children p) nodes o most axis test)
      (e ∙ ap (λ b. cond b None (elim (parent nodes n) [ None ↦ None | Some q ↦ first_that (is_child q) (behind n nodes) ])) so)
      ∙ sym (ap node_numbers (none_from (λ node. is_on a.FollowingSibling (tree_node nodes n) node && is_passed axis test node) 0 nodes (λ k a b.
      ap (λ c. ((not c && is_child_of_nearest (tree_node nodes n).above (tree_node nodes k)) && is_earlier (tree_node nodes n) (tree_node nodes k)) &&
      is_passed axis test (tree_node nodes k)) so))))
      (λ (plain : is_attribute (tree_node nodes n) ≡ false).
      walk_is (λ node. is_on a.FollowingSibling (tree_node nodes n) node && is_passed axis test node) (w.Children p) nodes
      (n + 1) begin most axis test s.counted
      (λ k a b. sibling_out (are_siblings (tree_node nodes n) (tree_node nodes k)) (is_earlier (tree_node nodes n) (tree_node nodes k))
      (is_passed axis test (tree_node nodes k))
      (earlier_is k b ∙ le-ltb n k (omega (arith, a))))
      (λ k a b. sibling_in (are_siblings (tree_node nodes n) (tree_node nodes k)) (is_earlier (tree_node nodes n) (tree_node nodes k))
      (is_passed axis test (tree_node nodes k))
      (nat_le (tree_node nodes k).number most)
      (earlier_is k b ∙ lt-ltb n k (omega (arith, a))) (up_to nodes most k s.counted b (omega (arith, b, few)))
      ∙ ap (λ c. c && (nat_le (tree_node nodes k).number most && is_passed axis test (tree_node nodes k)))
      (ap (λ c. not c && is_child_of_nearest (tree_node nodes n).above (tree_node nodes k)) plain ∙
      child_of (tree_node nodes n).above p (tree_node nodes k) par))
      (e ∙ sibling_link p plain par))
      (cases_Bool (is_attribute (tree_node nodes n)))

-- ---- what is put out

pub adds_same : {X E : Type 0} (document : Document) (step : Step) (result : Result X E) (old new : List ℕ) (f g : Option NodeTest → List ℕ)
    → ((test : Option NodeTest) → f test ≡ g test) → Adds document step result old new f → Adds document step result old new g
adds_same document step (Ok x) old new f g same h = λ names is. h names is ∙ ap (λ xs. old ++ xs) (same (test_seen names step.test.now))
adds_same document step (Err e) old new f g same h = λ names is. tt

pub adds_both : {X Y E : Type 0} (document : Document) (step : Step) (x : X) (result : Result Y E) (old middle new : List ℕ) (f g k : Option NodeTest → List ℕ)
    → ((test : Option NodeTest) → f test ++ g test ≡ k test)
    → Adds {X = X} {E = E} document step (Ok x) old middle f → Adds document step result middle new g → Adds document step result old new k
adds_both document step x (Ok y) old middle new f g k same h l = λ names is.
    let t = test_seen names step.test.now in
    l names is ∙ (ap (λ xs. xs ++ g t) (h names is) ∙ (append_assoc old (f t) (g t) ∙ ap (λ xs. old ++ xs) (same t)))
adds_both document step x (Err e) old middle new f g k same h l = λ names is. tt

pub adds_none : {X : Type 0} (E : Type 0) (document : Document) (step : Step) (x : X) (old : List ℕ) (f : Option NodeTest → List ℕ)
    → ((test : Option NodeTest) → [] ≡ f test) → Adds {X = X} {E = E} document step (Ok x) old old f
adds_none E document step x old f same = λ names is. sym (append-nil old) ∙ ap (λ xs. old ++ xs) (same (test_seen names step.test.now))

pub most : (nodes : List Node) → IsWalkable nodes → length nodes ≤ 4294967295 + 1
most nodes s = omega (arith, s.few)

-- without a test nothing is found
abbrev nothing : Bool → List Node
nothing b = elim b [ true ↦ reverse [] | false ↦ [] ]

none_ordered : (b : Bool) → nothing b ≡ []
none_ordered true = refl
none_ordered false = refl

pub found_is : (nodes : List Node) (axis : Axis) (n : ℕ) (test : Option NodeTest) → found axis nodes n test ≡ axis_numbers nodes axis n test
found_is nodes axis n (Some test) = refl
found_is nodes axis n None =
    ap (λ ns. node_numbers (in_order_of axis ns))
    (none_from (λ node. is_on axis (tree_node nodes n) node && false) 0 nodes (λ k l b. right_none (is_on axis (tree_node nodes n) (tree_node nodes k))))
    ∙ ap node_numbers (none_ordered (is_reverse axis))
