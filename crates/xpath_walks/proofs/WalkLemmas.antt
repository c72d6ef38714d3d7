-- What a walk takes, step by step.
use Rattle.std.proofs.Common.{◌≡◌, ℕ, zero, suc, ◌+◌, ◌<◌, ◌≤◌, Bool, true, false, not, cond, ◌&&◌, ⊎_elim, List, [], ◌∷◌, ◌++◌, length, drop, Option, Some}
use Rattle.std.proofs.Common.{None, IfSome, SomeIff, refl, ap, sym, subst, ◌∙◌, arith, append_assoc}
use Rattle.std.specs.Prelude.{filter, nat_le}
use Rattle.std.proofs.lemmas.List.{length-map, append-nil, get_or-map, drop_all, drop_more}
use Rattle.std.proofs.lemmas.Bool.{cases_lt, and_parts, le-leb, lt-leb, eqb-true, false≢true, not-true}
use Rattle.inv_base.specs.Tree.{Node}
use Rattle.node_arena.specs.Document.{Document, Placed, AreNumbered, node_at, document_node}
use Rattle.node_arena.specs.Moves.{tree_nodes, tree_node, node_of, behind, nearest, is_nearest, is_inside, is_attribute, is_child, is_attribute_of, first_that}
use Rattle.node_arena.specs.Moves.{parent, next_sibling, next_attribute}
use Rattle.xpath_grammar.specs.declared.step.Axis.{Axis}
use Rattle.xpath_meaning.specs.Expressions.{NodeTest}
use Rattle.xpath_walks.specs.declared.walk.Way.{Way}
use Rattle.xpath_walks.specs.declared.walk.Way.TheVariants as w
use Rattle.xpath_walks.specs.Walks.{node_numbers, is_on_way, is_taken, is_walked, walked, if_so, from_on}
use Rattle.xpath_walks.proofs.FilterLemmas.{AreCounted, right_none, number_is, none_from, one_more, from_first, first_so}

numbered-at : (n : ℕ) (nodes : List Placed) → AreNumbered n nodes → (k : ℕ) → k < length nodes → (node_at nodes k).number ≡ n + k
numbered-at n [] h k within = absurd (omega (arith, within))
numbered-at n (node ∷ nodes) h zero within = h.0 ∙ (omega arith)
numbered-at n (node ∷ nodes) h (suc k) within = numbered-at (n + 1) nodes h.1 k (omega (arith, within)) ∙ (omega arith)

pub counted-document : (document : Document) → AreNumbered 0 document.nodes → AreCounted (tree_nodes document)
counted-document document h k within =
    let long = length-map document.nodes (node_of document.names) in
    let in_it : k < length document.nodes = omega (arith, within, long) in
    ap (λ (node : Node). node.number) (get_or-map (node_of document.names) document.nodes k document_node _ in_it)
    ∙ (numbered-at 0 document.nodes h k in_it ∙ (omega arith))

-- ---- where links lead

pub next_all : (nodes : List Node) (n count : ℕ) (next : Option ℕ) → length nodes ≡ count → AreCounted nodes → SomeIff next (n + 1 < count) (n + 1)
    → next ≡ first_that (λ _. true) (behind n nodes)
next_all nodes n count None long counted h =
    let le : length nodes ≤ n + 1 = ⊎_elim (λ (l : n + 1 < count). absurd (h l)) (λ (g : count ≤ n + 1). omega (arith, g, long)) (cases_lt (n + 1) count) in
    ap (first_that (λ _. true)) (sym (drop_all (n + 1) nodes le))
next_all nodes n count (Some m) long counted h =
    ap Some (h.1 ∙ sym (counted (n + 1) (omega (arith, h.0, long))))
    ∙ ap (first_that (λ _. true)) (sym (drop_more nodes (n + 1) _ (omega (arith, h.0, long))))

elim_parent : (above : List ℕ) (p : ℕ) (f : ℕ → Option ℕ) → is_nearest p above ≡ true → elim (nearest above) [ None ↦ None | Some q ↦ f q ] ≡ f p
elim_parent [] p f h = absurd (false≢true h)
elim_parent (m ∷ above) p f h = ap f (eqb-true m p h)

pub next_child : (nodes : List Node) (n p : ℕ) → is_child p (tree_node nodes n) ≡ true → next_sibling nodes n ≡ first_that (is_child p) (behind n nodes)
next_child nodes n p h =
    let parts = and_parts (is_nearest p (tree_node nodes n).above) (not (is_attribute (tree_node nodes n))) h in
    ap (λ b. cond b None (elim (parent nodes n) [ None ↦ None | Some q ↦ first_that (is_child q) (behind n nodes) ]))
    (not-true (is_attribute (tree_node nodes n)) parts.1)
    ∙ elim_parent (tree_node nodes n).above p (λ q. first_that (is_child q) (behind n nodes)) parts.0

pub next_attribute_of : (nodes : List Node) (n p : ℕ) → is_attribute_of p (tree_node nodes n) ≡ true
    → next_attribute nodes n ≡ first_that (is_attribute_of p) (behind n nodes)
next_attribute_of nodes n p h =
    let parts = and_parts (is_nearest p (tree_node nodes n).above) (is_attribute (tree_node nodes n)) h in
    ap (λ b. cond b (elim (parent nodes n) [ None ↦ None | Some q ↦ first_that (is_attribute_of q) (behind n nodes) ]) None) parts.1
    ∙ elim_parent (tree_node nodes n).above p (λ q. first_that (is_attribute_of q) (behind n nodes)) parts.0

pub on_all : (way : Way) (nodes : List Node) (n count : ℕ) (next : Option ℕ) → way ≡ w.All → length nodes ≡ count → AreCounted nodes
    → SomeIff next (n + 1 < count) (n + 1) → next ≡ first_that (is_on_way way) (behind n nodes)
on_all w.All nodes n count next e long counted h = next_all nodes n count next long counted h
on_all (w.Before p) nodes n count next e long counted h = cc
on_all (w.Children p) nodes n count next e long counted h = cc
on_all (w.Attributes p) nodes n count next e long counted h = cc

pub on_before : (way : Way) (p : ℕ) (nodes : List Node) (n count : ℕ) (next : Option ℕ) → way ≡ w.Before p → length nodes ≡ count → AreCounted nodes
    → SomeIff next (n + 1 < count) (n + 1) → next ≡ first_that (is_on_way way) (behind n nodes)
on_before w.All p nodes n count next e long counted h = cc
on_before (w.Before q) p nodes n count next e long counted h = next_all nodes n count next long counted h
on_before (w.Children q) p nodes n count next e long counted h = cc
on_before (w.Attributes q) p nodes n count next e long counted h = cc

pub on_children : (way : Way) (p : ℕ) (nodes : List Node) (n : ℕ) (next : Option ℕ) → way ≡ w.Children p → is_on_way way (tree_node nodes n) ≡ true
    → next ≡ next_sibling nodes n → next ≡ first_that (is_on_way way) (behind n nodes)
on_children w.All p nodes n next e on is = cc
on_children (w.Before q) p nodes n next e on is = cc
on_children (w.Children q) p nodes n next e on is = is ∙ next_child nodes n q on
on_children (w.Attributes q) p nodes n next e on is = cc

pub on_attributes : (way : Way) (p : ℕ) (nodes : List Node) (n : ℕ) (next : Option ℕ) → way ≡ w.Attributes p → is_on_way way (tree_node nodes n) ≡ true
    → next ≡ next_attribute nodes n → next ≡ first_that (is_on_way way) (behind n nodes)
on_attributes w.All p nodes n next e on is = cc
on_attributes (w.Before q) p nodes n next e on is = cc
on_attributes (w.Children q) p nodes n next e on is = cc
on_attributes (w.Attributes q) p nodes n next e on is = is ∙ next_attribute_of nodes n q on

-- ---- the walk

pub apart : (node inner : Node) (n : ℕ) (r : Bool) → node.number ≡ n → not (is_attribute node) ≡ true → r ≡ is_inside n inner
    → not r ≡ (not (is_attribute node) && not (is_inside node.number inner))
apart node inner n r number plain e =
    ap not e ∙ (ap (λ m. not (is_inside m inner)) (sym number) ∙ ap (λ b. b && not (is_inside node.number inner)) (sym plain))

pub numbers-cond : (b : Bool) (node : Node) (nodes : List Node) → node_numbers (cond b (node ∷ []) [] ++ nodes) ≡ if_so b node.number ++ node_numbers nodes
numbers-cond true node nodes = refl
numbers-cond false node nodes = refl

not_on : (way : Way) (nodes : List Node) (last : ℕ) (axis : Axis) (test : Option NodeTest) (node : Node) → is_on_way way node ≡ false
    → is_walked way nodes last axis test node ≡ false
not_on way nodes last axis test node h = ap (λ b. b && (nat_le node.number last && is_taken way nodes axis test node)) h

pub walked_at : (way : Way) (nodes : List Node) (last : ℕ) (axis : Axis) (test : Option NodeTest) (n : ℕ) → (tree_node nodes n).number ≡ n
    → is_on_way way (tree_node nodes n) ≡ true → n ≤ last
    → is_walked way nodes last axis test (tree_node nodes n) ≡ is_taken way nodes axis test (tree_node nodes n)
walked_at way nodes last axis test n number on le =
    ap (λ b. b && (nat_le (tree_node nodes n).number last && is_taken way nodes axis test (tree_node nodes n))) on
    ∙ ap (λ b. b && is_taken way nodes axis test (tree_node nodes n)) (ap (λ m. nat_le m last) number ∙ le-leb n last le)

pub suc-one : (n : ℕ) → suc n ≡ n + 1
suc-one n = omega arith

-- one step from node to node of a sort, where only what is of that sort passes
pub one_step : (p is_so : Node → Bool) (nodes : List Node) (n : ℕ) (next : Option ℕ) → AreCounted nodes → n < length nodes
    → ((node : Node) → is_so node ≡ false → p node ≡ false) → next ≡ first_that is_so (behind n nodes)
    → node_numbers (filter p (drop n nodes)) ≡ if_so (p (tree_node nodes n)) n ++ node_numbers (filter p (from_on next nodes))
one_step p is_so nodes n next counted within only e =
    ap node_numbers (one_more p n nodes within)
    ∙ (numbers-cond (p (tree_node nodes n)) (tree_node nodes n) (filter p (drop (suc n) nodes))
    ∙ (ap (λ m. if_so (p (tree_node nodes n)) m ++ node_numbers (filter p (drop (suc n) nodes))) (counted n within)
    ∙ (ap (λ m. if_so (p (tree_node nodes n)) n ++ node_numbers (filter p (drop m nodes))) (suc-one n)
    ∙ ap (λ ns. if_so (p (tree_node nodes n)) n ++ node_numbers ns) (from_first p is_so (n + 1) nodes next counted only e))))

-- one step of a walk
pub walked_step : (way : Way) (nodes : List Node) (last : ℕ) (axis : Axis) (test : Option NodeTest) (n : ℕ) (next : Option ℕ) → AreCounted nodes →
    n < length nodes
    → is_on_way way (tree_node nodes n) ≡ true → n ≤ last → next ≡ first_that (is_on_way way) (behind n nodes)
    → walked way nodes (Some n) last axis test ≡ if_so (is_taken way nodes axis test (tree_node nodes n)) n ++ walked way nodes next last axis test
walked_step way nodes last axis test n next counted within on le e =
    one_step (is_walked way nodes last axis test) (is_on_way way) nodes n next counted within (not_on way nodes last axis test) e
    ∙ ap (λ b. if_so b n ++ walked way nodes next last axis test) (walked_at way nodes last axis test n (counted n within) on le)

-- its end
pub walked_past : (way : Way) (nodes : List Node) (last : ℕ) (axis : Axis) (test : Option NodeTest) (n : ℕ) → AreCounted nodes → last < n
    → walked way nodes (Some n) last axis test ≡ []
walked_past way nodes last axis test n counted past =
    ap node_numbers (none_from (is_walked way nodes last axis test) n nodes (λ k a b.
    let t = is_taken way nodes axis test (tree_node nodes k) in
    ap (λ c. is_on_way way (tree_node nodes k) && (c && t)) (ap (λ m. nat_le m last) (counted k b) ∙ lt-leb k last (omega (arith, a, past)))
    ∙ right_none (is_on_way way (tree_node nodes k))))

pub first_is_on : (way : Way) (nodes : List Node) (from : ℕ) (next : Option ℕ) → AreCounted nodes → next ≡ first_that (is_on_way way) (drop from nodes)
    → IfSome next (λ m. is_on_way way (tree_node nodes m) ≡ true)
first_is_on way nodes from next counted e = first_so (is_on_way way) from nodes next counted e

-- what is out before a step and what is to come of it
pub put_on : (whole before after taken rest old : List ℕ) → after ≡ before ++ taken → rest ≡ taken ++ old → before ++ rest ≡ whole → after ++ old ≡ whole
put_on whole before after taken rest old a r w =
    ap (λ xs. xs ++ old) a ∙ (append_assoc before taken old ∙ (ap (λ xs. before ++ xs) (sym r) ∙ w))

pub at_some : (P : ℕ → Type 0) (o : Option ℕ) (n : ℕ) → o ≡ Some n → IfSome o P → P n
at_some P None n e h = cc
at_some P (Some m) n e h = subst P (number_is m n e) h

pub then_some : (P Q : ℕ → Type 0) (o : Option ℕ) → IfSome o P → ((n : ℕ) → P n → Q n) → IfSome o Q
then_some P Q None h f = tt
then_some P Q (Some n) h f = f n h

pub past_last : (way : Way) (nodes : List Node) (last : ℕ) (axis : Axis) (test : Option NodeTest) (n : ℕ) (next : Option ℕ) (before whole : List ℕ) →
    AreCounted nodes
    → last < n → next ≡ Some n → before ++ walked way nodes next last axis test ≡ whole → before ≡ whole
past_last way nodes last axis test n next before whole counted past e h =
    sym (append-nil before)
    ∙ (ap (λ xs. before ++ xs) (sym (ap (λ o. walked way nodes o last axis test) e ∙ walked_past way nodes last axis test n counted past)) ∙ h)
