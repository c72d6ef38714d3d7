-- The first of a sort behind a node, along the chain of the sort and along the nodes at once.
use Rattle.std.proofs.Common.{◌≡◌, get_or, ℕ, zero, suc, ◌+◌, ◌*◌, ◌<◌, ◌≤◌, Bool, true, false, cond, ◌&&◌, ⊎_elim, List, [], ◌∷◌, ◌++◌, length, drop, Option}
use Rattle.std.proofs.Common.{Some, None, refl, ap, sym, ◌∙◌, arith}
use Rattle.std.specs.Prelude.{filter, nat_le}
use Rattle.std.proofs.lemmas.Bool.{cases_lt, le-leb, false≢true}
use Rattle.inv_base.specs.Tree.{Node, Name}
use Rattle.xml_events.specs.Names.{find_name}
use Rattle.xpath_plan.specs.declared.plan_node.StepTest.TheVariants as t
use Rattle.xpath_plan.specs.Plans.{test_seen}
use Rattle.xpath_walks.specs.Tests.{numbers_of}
use Rattle.node_arena.specs.Moves.{tree_node, behind, first_that, has_name}
use Rattle.xpath_walks.specs.Walks.{LeadsInside, has_wanted}
use Rattle.xpath_walks.proofs.FilterLemmas.{AreCounted, first_from, IsFirstFrom, none_that, one_more, skip}

pub wanted_has : (names table : List Name) (k : ℕ) (node : Node) (b : Bool) (number : Option ℕ)
    → number ≡ get_or (numbers_of table names) k None
    → ((name : Name) → number ≡ find_name name table → b ≡ has_name name node)
    → (number ≡ None → b ≡ false)
    → b ≡ has_wanted (test_seen names (t.Named k)) node
wanted_has [] table k node b number e f n = n e
wanted_has (name ∷ names) table zero node b number e f n = f name e
wanted_has (name ∷ names) table (suc k) node b number e f n = wanted_has names table k node b number e f n

-- what passes up to a node
abbrev pub upto : (Node → Bool) → ℕ → Node → Bool
upto is_so from node = is_so node && nat_le node.number from

-- For some place no further than behind the node, what is ahead is the first from it on; nothing between the node and the other is so;
-- and each of the chain that is passed took two steps.
pub record IsAhead (is_so : Node → Bool) (from here : ℕ) (ahead : Option ℕ) (before now : ℕ) (nodes : List Node) : Type 0 where
  pub place : ℕ
  pub no_further : place ≤ from + 1
  pub first : ahead ≡ first_that is_so (drop place nodes)
  pub none : (j : ℕ) → from < j → j ≤ here → is_so (tree_node nodes j) ≡ false
  pub cost : now + 2 * length (filter (upto is_so from) (drop place nodes)) ≤ before + (2 * length (filter (upto is_so from) nodes) + 1)

pub ahead_first : (is_so : Node → Bool) (from : ℕ) (ahead : Option ℕ) (before now : ℕ) (nodes : List Node) → ahead ≡ first_that is_so nodes → now ≤ before + 1
    → IsAhead is_so from from ahead before now nodes
ahead_first is_so from ahead before now nodes is le = record {
  place = 0;
  no_further = omega arith;
  first = is;
  none = λ j a b. absurd (omega (arith, a, b));
  cost = omega (arith, le);
}

first_is : (is_so : Node → Bool) (from m : ℕ) (nodes : List Node) → AreCounted nodes → from ≤ m → m < length nodes → is_so (tree_node nodes m) ≡ true
    → ((k : ℕ) → from ≤ k → k < m → is_so (tree_node nodes k) ≡ false) → Some m ≡ first_that is_so (drop from nodes)
first_is is_so from m nodes counted le within is before = by (first_that is_so (drop from nodes)) refl
  where
    same : (k : ℕ) → IsFirstFrom is_so from nodes k → m ≡ k
    same k f = ⊎_elim
        (λ (less : m < k). absurd (false≢true (sym (f.before m le less) ∙ is)))
        (λ (more : k ≤ m). ⊎_elim
        (λ (less : k < m). absurd (false≢true (sym (before k f.behind_it less) ∙ f.is)))
        (λ (other : m ≤ k). omega (arith, more, other))
        (cases_lt k m))
        (cases_lt m k)

    by : (o : Option ℕ) → first_that is_so (drop from nodes) ≡ o → Some m ≡ o
    by None e = absurd (false≢true (sym (none_that is_so from nodes e m le within) ∙ is))
    by (Some k) e = ap Some (same k (first_from is_so from nodes k counted e))

module _ (is_so : Node → Bool) (from here : ℕ) (ahead : Option ℕ) (before now : ℕ) (nodes : List Node) (counted : AreCounted nodes)
    (a : IsAhead is_so from here ahead before now nodes) where
  pub at_first : (m : ℕ) → ahead ≡ Some m → IsFirstFrom is_so a.place nodes m
  at_first m is = first_from is_so a.place nodes m counted (sym a.first ∙ is)

  -- what is ahead is behind the node
  pub is_behind : (m : ℕ) → ahead ≡ Some m → from < m → Some m ≡ first_that is_so (behind from nodes)
  is_behind m is more =
      let f = at_first m is in
      first_is is_so (from + 1) m nodes counted (omega (arith, more)) f.within f.is (λ k le less. f.before k (omega (arith, le, a.no_further)) less)

  -- nothing is ahead
  pub none_ahead : (last : ℕ) → ahead ≡ None → LeadsInside is_so from last nodes None
  none_ahead last is k more to within = none_that is_so a.place nodes (sym a.first ∙ is) k (omega (arith, more, a.no_further)) within

  -- the nodes end
  pub none_here : (last : ℕ) → length nodes ≤ here + 1 → LeadsInside is_so from last nodes None
  none_here last long k more to within = a.none k more (omega (arith, within, long))

  -- the next node is behind the last
  pub none_past : (last n : ℕ) → n ≡ here + 1 → last < n → LeadsInside is_so from last nodes None
  none_past last n next past k more to within = a.none k more (omega (arith, to, past, next))

  -- the next node is so
  pub found_here : (n : ℕ) → n ≡ here + 1 → from ≤ here → n < length nodes → is_so (tree_node nodes n) ≡ true → Some n ≡ first_that is_so (behind from nodes)
  found_here n next long within is =
      first_is is_so (from + 1) n nodes counted (omega (arith, next, long)) within is (λ k le less. a.none k (omega (arith, le)) (omega (arith, less, next)))

  -- the next node isn't so, and what is ahead isn't behind the node
  one_passed : (m : ℕ) → ahead ≡ Some m → m ≤ from → length (filter (upto is_so from) (drop a.place nodes)) ≡ length
      (filter (upto is_so from) (drop (m + 1) nodes)) + 1
  one_passed m is le =
      let f = at_first m is in
      let here_so : upto is_so from (tree_node nodes m) ≡ true = ap (λ b. b && nat_le (tree_node nodes m).number from) f.is ∙
      (ap (λ k. nat_le k from) (counted m f.within) ∙ le-leb m from le) in
      ap length (skip (upto is_so from) a.place m nodes f.behind_it (λ k b c d. ap (λ t. t && nat_le (tree_node nodes k).number from) (f.before k b c)))
      ∙ (ap length (one_more (upto is_so from) m nodes f.within)
      ∙ (ap (λ b. length (cond b (tree_node nodes m ∷ []) [] ++ filter (upto is_so from) (drop (suc m) nodes))) here_so
      ∙ (ap (λ j. suc (length (filter (upto is_so from) (drop j nodes)))) (let e : suc m ≡ m + 1 = omega arith in e) ∙ (omega arith))))

  pub least_left : (m : ℕ) → ahead ≡ Some m → m ≤ from → now + 1 ≤ before + (2 * length (filter (upto is_so from) nodes) + 1)
  least_left m is le = let one = one_passed m is le in omega (arith, a.cost, one)

  pub goes_on : (m n : ℕ) (next : Option ℕ) (later : ℕ) → ahead ≡ Some m → m ≤ from → n ≡ here + 1 → is_so (tree_node nodes n) ≡ false →
      next ≡ first_that is_so (behind m nodes) → later ≡ now + 2
      → IsAhead is_so from n next before later nodes
  goes_on m n next later is le after not_so leads took = record {
    place = m + 1;
    no_further = omega (arith, le);
    first = leads;
    none = λ j more most. ⊎_elim
        (λ (less : j < n). a.none j more (omega (arith, less, after)))
        (λ (other : n ≤ j). let same : j ≡ n = omega (arith, most, other) in ap (λ k. is_so (tree_node nodes k)) same ∙ not_so)
        (cases_lt j n);
    cost = let one = one_passed m is le in omega (arith, a.cost, one, took);
  }
