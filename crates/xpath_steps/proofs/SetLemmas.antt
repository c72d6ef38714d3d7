-- Sets of nodes by numbers and by items.
use Rattle.std.proofs.Common.{◌≡◌, ℕ, suc, zero, ◌<◌, ◌≤◌, Bool, true, false, cond, List, [], ◌∷◌, ◌++◌, length, get_or, Result, Ok, Err, is_ok, IfOk}
use Rattle.std.proofs.Common.{MatchResult, refl, ap, sym, ◌∙◌, arith, ◌⊎◌, inl, inr, ⊎_elim}
use Rattle.std.specs.Prelude.{Vec, filter, ◌==◌, ◌||◌, ◌&&◌}
use Rattle.std.specs.List.{list_any, list_all}
use Rattle.std.specs.List.Sorted.{IsNonDecreasing, IsBinarySearchResult}
use Rattle.std.proofs.lemmas.List.Sorted.{searched}
use Rattle.std.specs.Ordering.{nat_cmp}
use Rattle.std.proofs.lemmas.Bool.{false≢true, eqb-true, eq-eqb, cases_lt}
use Rattle.std.specs.Global.{Global}
use Rattle.inv_base.specs.Tree.{Node, is_among}
use Rattle.xpath_tokens.specs.declared.token.Operator.{Operator}
use Rattle.xpath_tokens.specs.declared.token.Operator.TheVariants as o
use Rattle.xpath_items.specs.declared.item.Item.{Item}
use Rattle.xpath_items.specs.declared.outcome.DynError.TheVariants as e
use Rattle.xpath_meaning.specs.Steps.{is_node, has_node, nodes_where, in_document_order, is_in_set, set_of}
use Rattle.xpath_steps.specs.Numbers.{numbers_among}
use Rattle.xpath_steps.specs.Sets.{is_in_both, is_wanted}
use Rattle.xpath_walks.specs.Order.{node_items}
use Rattle.xpath_operators.specs.Nodes.{AreWithin}
use Rattle.xpath_steps.proofs.WithinLemmas.{number_within}
use Rattle.xpath_steps.proofs.NodeLemmas.{among_items, among_nodes, where_alike}

and_false : (b : Bool) → (b && false) ≡ false
and_false true = refl
and_false false = refl

-- one number more, kept or not
among_one : (p : ℕ → Bool) (n m : ℕ) (ns kept : List ℕ) → (b c : Bool) → p m ≡ b → (n == m) ≡ c → is_among n kept ≡ (is_among n ns && p n)
    → is_among n (cond b (m ∷ kept) kept) ≡ ((c || is_among n ns) && p n)
among_one p n m ns kept true true e s h = ap (λ d. d || is_among n kept) s ∙ sym (ap p (eqb-true n m s) ∙ e)
among_one p n m ns kept true false e s h = ap (λ d. d || is_among n kept) s ∙ h
among_one p n m ns kept false true e s h =
    let no : p n ≡ false = ap p (eqb-true n m s) ∙ e in
    h ∙ (ap (λ d. is_among n ns && d) no ∙ (and_false (is_among n ns) ∙ sym no))
among_one p n m ns kept false false e s h = h

-- what a filter keeps
pub among_filter : (p : ℕ → Bool) (ns : List ℕ) (n : ℕ) → is_among n (filter p ns) ≡ (is_among n ns && p n)
among_filter p [] n = refl
among_filter p (m ∷ ns) n = among_one p n m ns (filter p ns) (p m) (n == m) refl refl (among_filter p ns n)

or_assoc : (x y z : Bool) → (x || (y || z)) ≡ ((x || y) || z)
or_assoc true y z = refl
or_assoc false y z = refl

pub among_append : (xs ys : List ℕ) (n : ℕ) → is_among n (xs ++ ys) ≡ (is_among n xs || is_among n ys)
among_append [] ys n = refl
among_append (x ∷ xs) ys n = ap (λ b. n == x || b) (among_append xs ys n) ∙ or_assoc (n == x) (is_among n xs) (is_among n ys)

pub set_members : (operator : Operator) (xs ys : List Item) (n : ℕ) → is_in_set operator xs ys n ≡ is_in_both operator (has_node xs n) (has_node ys n)
set_members o.Intersect xs ys n = refl
set_members o.Except xs ys n = refl
set_members _ xs ys n = refl

-- the nodes that were found are those of the set
pub set_is : (nodes : List Node) (operator : Operator) (xs ys : List Item) (found : List ℕ)
    → ((n : ℕ) → is_among n found ≡ is_in_both operator (is_among n (numbers_among xs)) (is_among n (numbers_among ys)))
    → in_document_order nodes (node_items found) ≡ nodes_where nodes (is_in_set operator xs ys)
set_is nodes operator xs ys found h = where_alike (has_node (node_items found)) (is_in_set operator xs ys) nodes (λ k l. same _)
  where
    same : (n : ℕ) → has_node (node_items found) n ≡ is_in_set operator xs ys n
    same n =
        among_nodes found n
        ∙ (h n
        ∙ (ap (λ a. is_in_both operator a (is_among n (numbers_among ys))) (among_items xs n)
        ∙ (ap (λ b. is_in_both operator (has_node xs n) b) (among_items ys n) ∙ sym (set_members operator xs ys n))))

pub of_sets : (nodes : List Node) (operator : Operator) (xs ys : List Item) → list_all is_node xs ≡ true → list_all is_node ys ≡ true
    → set_of nodes operator xs ys ≡ Ok (nodes_where nodes (is_in_set operator xs ys))
of_sets nodes operator xs ys h k =
    ap (λ a. elim (a && list_all is_node ys) [ true ↦ Ok (nodes_where nodes (is_in_set operator xs ys)) | false ↦ Err e.XPTY0004 ]) h
    ∙ ap (λ (b : Bool). elim b [ true ↦ Ok (nodes_where nodes (is_in_set operator xs ys)) | false ↦ Err e.XPTY0004 ]) k

pub among_any : (n : ℕ) (ns : List ℕ) → is_among n ns ≡ list_any (λ m. n == m) ns
among_any n [] = refl
among_any n (m ∷ ns) = ap (λ b. n == m || b) (among_any n ns)

-- ---- searching in sorted numbers

or_true : (b : Bool) → (b || true) ≡ true
or_true true = refl
or_true false = refl

among_at : (ns : List ℕ) (k n : ℕ) → k < length ns → get_or ns k 0 ≡ n → is_among n ns ≡ true
among_at [] k n l e = absurd (omega (arith, l))
among_at (m ∷ ns) zero n l e = ap (λ b. b || is_among n ns) (eq-eqb n m (sym e))
among_at (m ∷ ns) (suc k) n l e = ap (λ b. n == m || b) (among_at ns k n (omega (arith, l)) e) ∙ or_true (n == m)

not_among : (ns : List ℕ) (n : ℕ) → ((k : ℕ) → k < length ns → (get_or ns k 0 ≡ n) → ⊥) → is_among n ns ≡ false
not_among [] n h = refl
not_among (m ∷ ns) n h = ap (λ b. b || is_among n ns) (no (n == m) refl) ∙ not_among ns n (λ k l e. h (suc k) (omega (arith, l)) e)
  where
    no : (b : Bool) → (n == m) ≡ b → b ≡ false
    no false e = refl
    no true e = absurd (h 0 (omega arith) (sym (eqb-true n m e)))

found_by : (ns : List ℕ) (n : ℕ) (r : Result ℕ ℕ)
    → MatchResult r (λ i. (i < length ns) × (get_or ns i 0 ≡ n)) (λ i. (i ≤ length ns) × ((k : ℕ) → k < i → get_or ns k 0 < n) ×
    ((k : ℕ) → i ≤ k → k < length ns → n < get_or ns k 0))
    → is_ok r ≡ is_among n ns
found_by ns n (Ok i) h = sym (among_at ns i n h.0 h.1)
found_by ns n (Err i) h = sym (not_among ns n (λ k l e. ⊎_elim
    (λ (below : k < i). omega (arith, h.1 k below, e))
    (λ (above : i ≤ k). omega (arith, h.2 k above l, e))
    (cases_lt k i)))

pub found_is : (ns : List ℕ) (n : ℕ) (r : Result ℕ ℕ) → IsNonDecreasing ns → IsBinarySearchResult (λ y. nat_cmp y n) ns r → is_ok r ≡ is_among n ns
found_is ns n r h s = found_by ns n r (searched ns n r s (λ i j le l. h i j 0 le l))

-- ---- what is combined

kept_by : {E : Type 0} (operator : Operator) (wanted : Bool) (xs ys others xs' others' : List ℕ) (r : Result (Vec ℕ Global) E)
    → ((a b : Bool) → (a && is_wanted wanted b) ≡ is_in_both operator a b) → ((n : ℕ) → is_among n others ≡ is_among n ys) → xs' ≡ xs → others' ≡ others
    → IfOk r (λ found. found.items ≡ filter (λ n. is_wanted wanted (is_among n others')) xs')
    → IfOk r (λ found. (n : ℕ) → is_among n found.items ≡ is_in_both operator (is_among n xs) (is_among n ys))
kept_by operator wanted xs ys others xs' others' (Ok found) h same ex eo e = λ n.
    ap (is_among n) e
    ∙ (among_filter (λ m. is_wanted wanted (is_among m others')) xs' n
    ∙ (ap (λ zs. is_among n zs && is_wanted wanted (is_among n others')) ex
    ∙ (ap (λ zs. is_among n xs && is_wanted wanted (is_among n zs)) eo
    ∙ (ap (λ b. is_among n xs && is_wanted wanted b) (same n) ∙ h (is_among n xs) (is_among n ys)))))
kept_by operator wanted xs ys others xs' others' (Err error) h same ex eo e = tt

pub kept_in : {E : Type 0} (operator : Operator) (xs ys others xs' others' : List ℕ) (r : Result (Vec ℕ Global) E)
    → operator ≡ o.Intersect → ((n : ℕ) → is_among n others ≡ is_among n ys) → xs' ≡ xs → others' ≡ others
    → IfOk r (λ found. found.items ≡ filter (λ n. is_wanted true (is_among n others')) xs')
    → IfOk r (λ found. (n : ℕ) → is_among n found.items ≡ is_in_both operator (is_among n xs) (is_among n ys))
kept_in operator xs ys others xs' others' r is same ex eo e =
    kept_by operator true xs ys others xs' others' r (λ a b. ap (λ x. is_in_both x a b) (sym is)) same ex eo e

pub kept_out : {E : Type 0} (operator : Operator) (xs ys others xs' others' : List ℕ) (r : Result (Vec ℕ Global) E)
    → operator ≡ o.Except → ((n : ℕ) → is_among n others ≡ is_among n ys) → xs' ≡ xs → others' ≡ others
    → IfOk r (λ found. found.items ≡ filter (λ n. is_wanted false (is_among n others')) xs')
    → IfOk r (λ found. (n : ℕ) → is_among n found.items ≡ is_in_both operator (is_among n xs) (is_among n ys))
kept_out operator xs ys others xs' others' r is same ex eo e =
    kept_by operator false xs ys others xs' others' r (λ a b. ap (λ x. is_in_both x a b) (sym is)) same ex eo e

-- every other operator takes the nodes of both
in_either : (operator : Operator) (a b : Bool) → (operator ≡ o.Intersect → ⊥) → (operator ≡ o.Except → ⊥) → (a || b) ≡ is_in_both operator a b
in_either o.Intersect a b h k = absurd (h refl)
in_either o.Except a b h k = absurd (k refl)
in_either _ a b h k = refl

pub kept_both : {E : Type 0} (operator : Operator) (xs ys ys' : List ℕ) (r : Result (Vec ℕ Global) E)
    → (operator ≡ o.Intersect → ⊥) → (operator ≡ o.Except → ⊥) → ys' ≡ ys → IfOk r (λ all. all.items ≡ xs ++ ys')
    → IfOk r (λ found. (n : ℕ) → is_among n found.items ≡ is_in_both operator (is_among n xs) (is_among n ys))
kept_both operator xs ys ys' (Ok all) h k ey e = λ n.
    ap (is_among n) (e ∙ ap (λ zs. xs ++ zs) ey) ∙ (among_append xs ys n ∙ in_either operator (is_among n xs) (is_among n ys) h k)
kept_both operator xs ys ys' (Err error) h k ey e = tt

-- ---- nodes of a set are within

members_within : (count : ℕ) (ns : List ℕ) → ((n : ℕ) → is_among n ns ≡ true → n < count) → AreWithin count (node_items ns)
members_within count [] h = tt
members_within count (m ∷ ns) h =
    (h m (ap (λ b. b || is_among m ns) (eq-eqb m m refl)), members_within count ns (λ n e. h n (ap (λ b. n == m || b) e ∙ or_true (n == m))))

one_of : (operator : Operator) (a b : Bool) → is_in_both operator a b ≡ true → (a ≡ true) ⊎ (b ≡ true)
one_of operator true b e = inl refl
one_of operator false true e = inr refl
one_of o.Intersect false false e = absurd (false≢true e)
one_of o.Except false false e = absurd (false≢true e)
one_of _ false false e = absurd (false≢true e)

pub set_within : (count : ℕ) (operator : Operator) (xs ys found : List ℕ) → ((n : ℕ) → is_among n found ≡ is_in_both operator (is_among n xs) (is_among n ys))
    → AreWithin count (node_items xs) → AreWithin count (node_items ys) → AreWithin count (node_items found)
set_within count operator xs ys found h wx wy = members_within count found (λ n e. ⊎_elim
    (λ (left : is_among n xs ≡ true). number_within count xs n wx left)
    (λ (right : is_among n ys ≡ true). number_within count ys n wy right)
    (one_of operator (is_among n xs) (is_among n ys) (sym (h n) ∙ e)))
