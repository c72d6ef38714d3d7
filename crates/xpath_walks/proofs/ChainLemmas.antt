-- The chain of a name leads over all that pass a test for that name.
use Rattle.std.proofs.Common.{◌≡◌, ℕ, zero, suc, ◌+◌, ◌<◌, ◌≤◌, Bool, true, false, not, cond, ◌&&◌, ⊎_elim, List, [], ◌∷◌, ◌++◌, length, get_or, Option, Some}
use Rattle.std.proofs.Common.{None, option_map, refl, ap, sym, subst, ◌∙◌, arith}
use Rattle.std.specs.Prelude.{nat_le}
use Rattle.std.specs.Option.{ForSome}
use Rattle.std.proofs.lemmas.Bool.{cases_Bool, and_parts, lt-ltb, le-leb, false≢true}
use Rattle.std.proofs.lemmas.Slice.Eq.{bytes_eq-Decides}
use Rattle.inv_base.specs.Tree.{Node, Name}
use Rattle.xml_events.specs.Events.{name_at}
use Rattle.xml_events.specs.Names.{same_name, find_name}
use Rattle.node_arena.specs.Document.{Document, Placed, node_at, AreNamed}
use Rattle.node_arena.specs.Moves.{tree_nodes, tree_node, behind, first_that, parent, is_attribute, is_inside, last_inside, has_name, has_found}
use Rattle.xpath_grammar.specs.declared.step.Axis.{Axis}
use Rattle.xpath_grammar.specs.declared.step.Axis.TheVariants as a
use Rattle.xpath_meaning.specs.Expressions.{NodeTest, named, in_namespace, with_local, any_name, of_kind}
use Rattle.xpath_meaning.specs.Axes.{is_on, is_principal}
use Rattle.xpath_plan.specs.declared.plan_node.StepTest.{StepTest}
use Rattle.xpath_plan.specs.declared.plan_node.StepTest.TheVariants as t
use Rattle.xpath_plan.specs.Plans.{test_seen}
use Rattle.xpath_walks.specs.declared.walk.Way.TheVariants as w
use Rattle.xpath_walks.specs.Tests.{numbers_of, is_passed}
use Rattle.xpath_walks.specs.Walks.{IsWalkable, node_numbers, is_taken, if_so, found_on, has_wanted, taken_from, chain_of, chain_from}
use Rattle.xpath_walks.proofs.FilterLemmas.{AreCounted, right_none, alike, from_first, none_first}
use Rattle.xpath_walks.proofs.WalkLemmas.{one_step}
use Rattle.xpath_walks.proofs.TestLemmas.{at-node}

-- ---- names by number

same_is : (x y : Name) → same_name x y ≡ true → x ≡ y
same_is x y e =
    let parts = and_parts _ _ e in
    let uri : x.uri ≡ y.uri = (bytes_eq-Decides x.uri y.uri).0 parts.0 in
    let local : x.local ≡ y.local = (bytes_eq-Decides x.local y.local).0 parts.1 in
    let both : (u l : List ℕ) → Name = λ u l. record { uri = u; local = l } in
    ap (λ u. both u x.local) uri ∙ ap (both y.uri) local

-- Where a name is found, it has the number.
abbrev IsAt : Name → List Name → Option ℕ → Type 0
IsAt name names None = Unit {0}
IsAt name names (Some j) = (j < length names) × (name_at names j ≡ name)

at_more : (name first : Name) (names : List Name) (o : Option ℕ) → IsAt name names o → IsAt name (first ∷ names) (option_map (λ k. k + 1) o)
at_more name first names None h = tt
at_more name first names (Some j) h = (omega (arith, h.0), ap (name_at (first ∷ names)) (let e : j + 1 ≡ suc j = omega arith in e) ∙ h.1)

is_at : (name : Name) (names : List Name) → IsAt name names (find_name name names)
is_at name [] = tt
is_at name (first ∷ names) = ⊎_elim
    (λ (same : same_name first name ≡ true). subst (λ b. IsAt name (first ∷ names) (cond b (Some 0) (option_map (λ k. k + 1) (find_name name names))))
    (sym same)
    (let here : IsAt name (first ∷ names) (Some 0) = (omega arith, same_is first name same) in here))
    (λ (other : same_name first name ≡ false). subst (λ b. IsAt name (first ∷ names) (cond b (Some 0) (option_map (λ k. k + 1) (find_name name names))))
    (sym other)
    (at_more name first names (find_name name names) (is_at name names)))
    (cases_Bool (same_name first name))

-- ---- where the chain leads

pub none_of_name : (document : Document) (names : List Name) (k : ℕ)
    → ((name : Name) (n : ℕ) → n < length (tree_nodes document) → has_name name (tree_node (tree_nodes document) n) ≡ has_found (find_name name document.names)
    (node_at document.nodes n))
    → None ≡ get_or (numbers_of document.names names) k None
    → None ≡ first_that (has_wanted (test_seen names (t.Named k))) (tree_nodes document)
none_of_name document [] k law e = none_first (has_wanted None) (tree_nodes document) (λ n h. refl)
none_of_name document (name ∷ names) zero law e =
    none_first (has_name name) (tree_nodes document) (λ n h. law name n h ∙ ap (λ o. has_found o (node_at document.nodes n)) (sym e))
none_of_name document (name ∷ names) (suc k) law e = none_of_name document names k law e

pub first_of_name : (nodes : List Node) (table names : List Name) (k j : ℕ) (first : Option ℕ)
    → Some j ≡ get_or (numbers_of table names) k None
    → (j < length table → first ≡ first_that (has_name (name_at table j)) nodes)
    → first ≡ first_that (has_wanted (test_seen names (t.Named k))) nodes
first_of_name nodes table [] k j first e law = cc
first_of_name nodes table (name ∷ names) zero j first e law =
    let found : IsAt name table (Some j) = subst (IsAt name table) (sym e) (is_at name table) in
    law found.0 ∙ ap (λ x. first_that (has_name x) nodes) found.1
first_of_name nodes table (name ∷ names) (suc k) j first e law = first_of_name nodes table names k j first e law

named_node : (count : ℕ) (nodes : List Placed) (n : ℕ) → AreNamed count nodes → n < length nodes → ForSome (node_at nodes n).name (λ name. name < count)
named_node count [] n h within = absurd (omega (arith, within))
named_node count (node ∷ nodes) zero h within = h.0
named_node count (node ∷ nodes) (suc n) h within = named_node count nodes n h.1 (omega (arith, within))

pub next_of_name : (document : Document) (n : ℕ) (next : Option ℕ) → AreNamed (length document.names) document.nodes → n < length document.nodes
    → ((j : ℕ) → (node_at document.nodes n).name ≡ Some j → j < length document.names
    → next ≡ first_that (has_name (name_at document.names j)) (behind n (tree_nodes document)))
    → (test : Option NodeTest) → has_wanted test (tree_node (tree_nodes document) n) ≡ true
    → next ≡ first_that (has_wanted test) (behind n (tree_nodes document))
next_of_name document n next are_named within law None h = absurd (false≢true h)
next_of_name document n next are_named within law (Some (in_namespace uri)) h = absurd (false≢true h)
next_of_name document n next are_named within law (Some (with_local local)) h = absurd (false≢true h)
next_of_name document n next are_named within law (Some any_name) h = absurd (false≢true h)
next_of_name document n next are_named within law (Some (of_kind kind)) h = absurd (false≢true h)
next_of_name document n next are_named within law (Some (named name)) h =
    by_name (node_at document.nodes n).name refl (ap (has_name name) (sym (at-node document n within)) ∙ h)
  where
    by_name : (o : Option ℕ) → (node_at document.nodes n).name ≡ o
        → (elim (option_map (name_at document.names) o) as (λ _. Bool) [ None ↦ false | Some x ↦ same_name x name ]) ≡ true
        → next ≡ first_that (has_name name) (behind n (tree_nodes document))
    by_name None e is = absurd (false≢true is)
    by_name (Some j) e is =
        law j e (named_node (length document.names) document.nodes n are_named within j e)
        ∙ ap (λ x. first_that (has_name x) (behind n (tree_nodes document))) (same_is (name_at document.names j) name is)

-- ---- what it takes

pub wanted_only : (names : List Name) (k : ℕ) (axis : Axis) (node : Node) → has_wanted (test_seen names (t.Named k)) node ≡ false
    → is_passed axis (test_seen names (t.Named k)) node ≡ false
wanted_only [] k axis node h = refl
wanted_only (name ∷ names) zero axis node h = ap (λ b. is_principal axis node.kind && b) h ∙ right_none (is_principal axis node.kind)
wanted_only (name ∷ names) (suc k) axis node h = wanted_only names k axis node h

-- Only what has the wanted name passes, as it is of a test for an expanded name.
abbrev pub IsOfName : Axis → Option NodeTest → Type 0
IsOfName axis test = (node : Node) → has_wanted test node ≡ false → is_passed axis test node ≡ false

pub is_of_name : (names : List Name) (k : ℕ) (axis : Axis) (test : StepTest) → test ≡ t.Named k → IsOfName axis (test_seen names test)
is_of_name names k axis test e = subst (λ x. IsOfName axis (test_seen names x)) (sym e) (wanted_only names k axis)

pub taken_only : (nodes : List Node) (axis : Axis) (test : Option NodeTest) → IsOfName axis test → (node : Node) → has_wanted test node ≡ false →
    is_taken w.All nodes axis test node ≡ false
taken_only nodes axis test only node h = ap (λ b. not (is_attribute node) && b) (only node h) ∙ right_none (not (is_attribute node))

nameless : (test : Option NodeTest) (node : Node) → node.name ≡ None → has_wanted test node ≡ false
nameless None node e = refl
nameless (Some (in_namespace uri)) node e = refl
nameless (Some (with_local local)) node e = refl
nameless (Some any_name) node e = refl
nameless (Some (of_kind kind)) node e = refl
nameless (Some (named name)) node e = ap (λ o. elim o as (λ _. Bool) [ None ↦ false | Some x ↦ same_name x name ]) e

module _ (nodes : List Node) (s : IsWalkable nodes) (axis : Axis) (test : Option NodeTest) (only : IsOfName axis test) where
  pub chain_step : (n : ℕ) (next : Option ℕ) → n < length nodes → next ≡ first_that (has_wanted test) (behind n nodes)
      → taken_from nodes (Some n) axis test ≡ if_so (is_taken w.All nodes axis test (tree_node nodes n)) n ++ taken_from nodes next axis test
  chain_step n next within e = one_step (is_taken w.All nodes axis test) (has_wanted test) nodes n next s.counted within (taken_only nodes axis test only) e

  not_passed : (b c : Bool) → is_passed axis test (tree_node nodes 0) ≡ false
      → ((b && c) && is_passed axis test (tree_node nodes 0)) ≡ (c && is_passed axis test (tree_node nodes 0))
  not_passed b c h = ap (λ x. (b && c) && x) h ∙ (right_none (b && c) ∙ (sym (right_none c) ∙ ap (λ x. c && x) (sym h)))

  -- Everything but the document's own node, which has no name, is inside it.
  whole_alike : 0 < length nodes → (tree_node nodes 0).name ≡ None → parent nodes 0 ≡ None → (k : ℕ) → 0 ≤ k → k < length nodes
      → (is_on a.Descendant (tree_node nodes 0) (tree_node nodes k) && is_passed axis test (tree_node nodes k)) ≡ is_taken w.All nodes axis test
      (tree_node nodes k)
  whole_alike rooted no_name alone zero le h =
      not_passed (is_inside (tree_node nodes 0).number (tree_node nodes 0)) (not (is_attribute (tree_node nodes 0)))
      (only (tree_node nodes 0) (nameless test (tree_node nodes 0) no_name))
  whole_alike rooted no_name alone (suc k) le h =
      let last = last_inside nodes 0 in
      let to : suc k ≤ last = omega (arith, h, (s.leads 0 rooted).whole alone) in
      ap (λ b. (b && not (is_attribute (tree_node nodes (suc k)))) && is_passed axis test (tree_node nodes (suc k)))
      (ap (λ m. is_inside m (tree_node nodes (suc k))) (s.counted 0 rooted)
      ∙ (s.inside 0 (suc k) rooted h
      ∙ (ap (λ b. b && nat_le (suc k) last) (lt-ltb 0 (suc k) (omega arith)) ∙ le-leb (suc k) last to)))

  pub all_is : (begin : Option ℕ) → 0 < length nodes → (tree_node nodes 0).name ≡ None → parent nodes 0 ≡ None → begin ≡ first_that (has_wanted test) nodes
      → taken_from nodes begin axis test ≡ found_on a.Descendant axis nodes 0 test
  all_is begin rooted no_name alone e =
      ap node_numbers (sym (alike (λ node. is_on a.Descendant (tree_node nodes 0) node && is_passed axis test node) (is_taken w.All nodes axis test) 0 nodes
      (whole_alike rooted no_name alone)
      ∙ from_first (is_taken w.All nodes axis test) (has_wanted test) 0 nodes begin s.counted (taken_only nodes axis test only) e))

-- ---- what it costs

pub chain_first : (nodes : List Node) (s : IsWalkable nodes) (test : Option NodeTest) (first : Option ℕ) → first ≡ first_that (has_wanted test) nodes
    → length (chain_from nodes first test) ≡ length (chain_of nodes test)
chain_first nodes s test first e = ap (λ ns. length (node_numbers ns))
    (sym (from_first (has_wanted test) (has_wanted test) 0 nodes first s.counted (λ node h. h) e))

pub chain_more : (nodes : List Node) (s : IsWalkable nodes) (test : Option NodeTest) (n : ℕ) (next : Option ℕ) → n < length nodes →
    has_wanted test (tree_node nodes n) ≡ true
    → next ≡ first_that (has_wanted test) (behind n nodes) → length (chain_from nodes (Some n) test) ≡ length (chain_from nodes next test) + 1
chain_more nodes s test n next within is e =
    ap length (one_step (has_wanted test) (has_wanted test) nodes n next s.counted within (λ node h. h) e
    ∙ ap (λ b. if_so b n ++ chain_from nodes next test) is) ∙ (omega arith)

-- ---- children

-- Where the document has nothing of a test's name, no node has children that pass.
pub none_found : (nodes : List Node) (principal : Axis) (n : ℕ) (test : Option NodeTest) → AreCounted nodes → IsOfName principal test
    → None ≡ first_that (has_wanted test) nodes → found_on a.Child principal nodes n test ≡ []
none_found nodes principal n test counted only e =
    ap node_numbers (from_first (λ node. is_on a.Child (tree_node nodes n) node && is_passed principal test node) (has_wanted test) 0 nodes None counted
    (λ node h. ap (λ b. is_on a.Child (tree_node nodes n) node && b) (only node h) ∙ right_none (is_on a.Child (tree_node nodes n) node)) e)
