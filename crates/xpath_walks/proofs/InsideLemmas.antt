-- What is inside a node, along the chain of a name.
use Rattle.std.proofs.Common.{◌≡◌, ℕ, zero, suc, ◌+◌, ◌<◌, ◌≤◌, Bool, true, false, cond, ◌&&◌, ⊎_elim, List, [], ◌∷◌, ◌++◌, length, drop, Option, Some, None}
use Rattle.std.proofs.Common.{IfSome, refl, ap, sym, ◌∙◌, arith}
use Rattle.std.specs.Prelude.{filter, nat_le}
use Rattle.std.proofs.lemmas.List.{length-map}
use Rattle.std.proofs.lemmas.Bool.{cases_lt, le-leb, lt-leb}
use Rattle.inv_base.specs.Tree.{Node}
use Rattle.node_arena.specs.Moves.{tree_node, behind, first_that, last_inside}
use Rattle.xpath_grammar.specs.declared.step.Axis.{Axis}
use Rattle.xpath_grammar.specs.declared.step.Axis.TheVariants as a
use Rattle.xpath_meaning.specs.Expressions.{NodeTest}
use Rattle.xpath_walks.specs.declared.walk.Way.TheVariants as w
use Rattle.xpath_walks.specs.Walks.{IsWalkable, LeadsInside, node_numbers, is_taken, is_walked, walked, if_so, found_on, has_wanted, chain_of, chain_from}
use Rattle.xpath_walks.specs.Walks.{chain_up_to, is_passed_by}
use Rattle.xpath_walks.proofs.FilterLemmas.{right_none, none_from, from_first, first_so}
use Rattle.xpath_walks.proofs.WalkLemmas.{one_step, walked_at}
use Rattle.xpath_walks.proofs.ForwardLemmas.{descendant_is}
use Rattle.xpath_walks.proofs.ChainLemmas.{IsOfName, taken_only}

-- A filter passes as much as up to a place and from it on.
in_two : (p q : Node → Bool) (m : ℕ) (nodes : List Node) → ((k : ℕ) → k < m → k < length nodes → q (tree_node nodes k) ≡ p (tree_node nodes k))
    → ((k : ℕ) → m ≤ k → k < length nodes → q (tree_node nodes k) ≡ false)
    → length (filter p nodes) ≡ length (filter q nodes) + length (filter p (drop m nodes))
in_two p q zero nodes same none = let nothing : length (filter q nodes) ≡ 0 = ap length (none_from q 0 nodes none) in omega (arith, nothing)
in_two p q (suc m) [] same none = refl
in_two p q (suc m) (node ∷ nodes) same none =
    let rest = in_two p q m nodes (λ k a b. same (suc k) (omega (arith, a)) (omega (arith, b))) (λ k a b. none (suc k) (omega (arith, a)) (omega (arith, b))) in
    by (p node) (q node) (same 0 (omega arith) (omega arith)) rest
  where
    by : (b c : Bool) → c ≡ b → length (filter p nodes) ≡ length (filter q nodes) + length (filter p (drop m nodes))
        → length (cond b (node ∷ filter p nodes) (filter p nodes)) ≡ length (cond c (node ∷ filter q nodes) (filter q nodes)) + length (filter p (drop m nodes))
    by true true e rest = omega (arith, rest)
    by false false e rest = rest
    by true false e rest = cc
    by false true e rest = cc

module _ (nodes : List Node) (s : IsWalkable nodes) (test : Option NodeTest) (from : ℕ) (next : Option ℕ)
    (leads : next ≡ first_that (has_wanted test) (behind from nodes)) where
  -- the chain up to the node and behind it
  two_parts : length (chain_of nodes test) ≡ length (chain_up_to from nodes test) + length (chain_from nodes next test)
  two_parts =
      length-map (filter (has_wanted test) nodes) (λ (node : Node). node.number)
      ∙ (in_two (has_wanted test) (is_passed_by test from) (from + 1) nodes
      (λ k a b. ap (λ c. has_wanted test (tree_node nodes k) && c) (ap (λ m. nat_le m from) (s.counted k b) ∙ le-leb k from (omega (arith, a))) ∙
      right_all (has_wanted test (tree_node nodes k)))
      (λ k a b. ap (λ c. has_wanted test (tree_node nodes k) && c) (ap (λ m. nat_le m from) (s.counted k b) ∙ lt-leb k from (omega (arith, a))) ∙
      right_none (has_wanted test (tree_node nodes k)))
      ∙ ap (λ j. length (chain_up_to from nodes test) + j)
      (sym (length-map (filter (has_wanted test) (drop (from + 1) nodes)) (λ (node : Node). node.number))
      ∙ ap (λ ns. length (node_numbers ns)) (from_first (has_wanted test) (has_wanted test) (from + 1) nodes next s.counted (λ node h. h) leads)))
    where
      right_all : (b : Bool) → (b && true) ≡ b
      right_all true = refl
      right_all false = refl

-- what is left of the chain inside the node
pub first_is_so : (nodes : List Node) (s : IsWalkable nodes) (test : Option NodeTest) (from last : ℕ) (first : Option ℕ) →
    LeadsInside (has_wanted test) from last nodes first
    → IfSome first (λ m. has_wanted test (tree_node nodes m) ≡ true)
first_is_so nodes s test from last None none = tt
first_is_so nodes s test from last (Some m) leads = first_so (has_wanted test) (from + 1) nodes (Some m) s.counted leads

pub parts_within : (nodes : List Node) (s : IsWalkable nodes) (test : Option NodeTest) (from last : ℕ) (first : Option ℕ) →
    LeadsInside (has_wanted test) from last nodes first
    → length (chain_up_to from nodes test) + length (chain_from nodes first test) ≤ length (chain_of nodes test)
parts_within nodes s test from last None none = let both = two_parts nodes s test from (first_that (has_wanted test) (behind from nodes)) refl in
    omega (arith, both)
parts_within nodes s test from last (Some m) leads = let both = two_parts nodes s test from (Some m) leads in omega (arith, both)

module _ (nodes : List Node) (s : IsWalkable nodes) (axis : Axis) (test : Option NodeTest) (only : IsOfName axis test) (last : ℕ) where
  walked_only : (node : Node) → has_wanted test node ≡ false → is_walked w.All nodes last axis test node ≡ false
  walked_only node h = ap (λ b. nat_le node.number last && b) (taken_only nodes axis test only node h) ∙ right_none (nat_le node.number last)

  -- the walk behind a node
  whole_inside : (from : ℕ) → from < length nodes → last ≡ last_inside nodes from
      → node_numbers (filter (is_walked w.All nodes last axis test) (behind from nodes)) ≡ found_on a.Descendant axis nodes from test
  whole_inside from within e =
      ap node_numbers (from_first (is_walked w.All nodes last axis test) (λ _. true) (from + 1) nodes (first_that (λ _. true) (behind from nodes)) s.counted
      (λ node h. cc) refl)
      ∙ descendant_is nodes s from within axis test (first_that (λ _. true) (behind from nodes)) last e refl

  -- the same from the first of the name, and nothing where there is none inside
  pub inside_is : (from : ℕ) (first : Option ℕ) → from < length nodes → last ≡ last_inside nodes from → LeadsInside (has_wanted test) from last nodes first
      → walked w.All nodes first last axis test ≡ found_on a.Descendant axis nodes from test
  inside_is from (Some m) within e leads =
      ap node_numbers (sym (from_first (is_walked w.All nodes last axis test) (has_wanted test) (from + 1) nodes (Some m) s.counted walked_only leads)) ∙
      whole_inside from within e
  inside_is from None within e none =
      ap node_numbers (sym (none_from (is_walked w.All nodes last axis test) (from + 1) nodes (λ k a b. ⊎_elim
      (λ (past : last < k). ap (λ c. c && is_taken w.All nodes axis test (tree_node nodes k)) (ap (λ m. nat_le m last) (s.counted k b) ∙ lt-leb k last past))
      (λ (to : k ≤ last). walked_only (tree_node nodes k) (none k (omega (arith, a)) to b))
      (cases_lt last k))))
      ∙ whole_inside from within e

  -- one step of it
  pub inside_step : (n : ℕ) (next : Option ℕ) → n < length nodes → n ≤ last → next ≡ first_that (has_wanted test) (behind n nodes)
      → walked w.All nodes (Some n) last axis test ≡ if_so (is_taken w.All nodes axis test (tree_node nodes n)) n ++ walked w.All nodes next last axis test
  inside_step n next within le e =
      one_step (is_walked w.All nodes last axis test) (has_wanted test) nodes n next s.counted within walked_only e
      ∙ ap (λ b. if_so b n ++ walked w.All nodes next last axis test) (walked_at w.All nodes last axis test n (s.counted n within) refl le)
