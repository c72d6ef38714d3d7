-- Children counted by keys, and their ordinals.
use Rattle.std.proofs.Common.{◌≡◌, ℕ, zero, suc, ◌+◌, ◌<◌, ◌≤◌, ◌^◌, ◌==◌, ◌&&◌, Bool, true, false, not, cond, List, [], ◌∷◌, length, take, drop, get_or, set}
use Rattle.std.proofs.Common.{Option, Some, None, IfSome, option_map, refl, ap, sym, subst, ◌∙◌, arith, ⊎_elim, inl}
use Rattle.std.specs.Prelude.{filter}
use Rattle.std.specs.Option.{ForSome}
use Rattle.std.proofs.lemmas.Bool.{eqb-true, eq-eqb, cases_lt, cases_eq, and_parts, not-true}
use Rattle.std.proofs.lemmas.List.{length-map, get_or-map, get_or-set_same, get_or-set_other}
use Rattle.std.proofs.lemmas.List.Filters.{length-filter_more}
use Rattle.std.proofs.lemmas.Slice.Eq.{bytes_eq-Decides}
use Rattle.inv_base.specs.declared.tree.Kind.{Kind}
use Rattle.inv_base.specs.declared.tree.Kind.TheVariants as kinds
use Rattle.node_arena.specs.Keys.{is_attribute_kind}
use Rattle.inv_base.specs.Tree.{Name, Node}
use Rattle.xml_events.specs.Events.{name_at}
use Rattle.xml_events.specs.Names.{same_name, AreDistinct}
use Rattle.node_arena.specs.Document.{Document, Placed, document_node, node_at, AreNamed}
use Rattle.node_arena.specs.Moves.{node_of, tree_nodes, tree_node, behind, nearest, is_nearest, is_child, is_attribute, first_that, first_child, next_sibling}
use Rattle.node_arena.specs.Moves.{parent}
use Rattle.node_arena.proofs.FoundLemmas.{first_from, none_from}
use Rattle.node_arena.proofs.StepLemmas.{Walk, In}
use Rattle.node_arena.proofs.WalkLemmas.{before, both_ways}
use Rattle.node_locations.specs.Locations.{same_names, is_alike, ordinal, is_counted, AreOrdinals}
use Rattle.node_locations.specs.declared.counting.Seen.{Seen}
use Rattle.node_locations.specs.Counting.{key, seen, tally, is_keyed, reach, AreCounted}

-- ---- tallies

-- no more than all pass
pub tally_few : (test : ℕ → Bool) (n : ℕ) → tally test n ≤ n
tally_few test zero = omega arith
tally_few test (suc n) = few (test n) (tally test n) n (tally_few test n)
  where
    few : (b : Bool) (k n : ℕ) → k ≤ n → cond b 1 0 + k ≤ suc n
    few true k n h = omega arith
    few false k n h = omega arith

-- what none between passes
pub tally_skip : (test : ℕ → Bool) (m n : ℕ) → m ≤ n → ((k : ℕ) → m ≤ k → k < n → test k ≡ false) → tally test n ≡ tally test m
tally_skip test m zero h none = let e : zero ≡ m = omega arith in ap (tally test) e
tally_skip test m (suc n) h none = ⊎_elim
    (λ (l : m < suc n). ap (λ b. cond b 1 0 + tally test n) (none n (omega arith) (omega arith))
    ∙ ((let e : 0 + tally test n ≡ tally test n = omega arith in e) ∙ tally_skip test m n (omega arith) (λ k a b. none k a (omega arith))))
    (λ (g : suc n ≤ m). let e : suc n ≡ m = omega arith in ap (tally test) e)
    (cases_lt m (suc n))

pub tally_same : (test other : ℕ → Bool) (n : ℕ) → ((k : ℕ) → k < n → test k ≡ other k) → tally test n ≡ tally other n
tally_same test other zero same = refl
tally_same test other (suc n) same =
    ap (λ b. cond b 1 0 + tally test n) (same n (omega arith)) ∙ ap (λ k. cond (other n) 1 0 + k) (tally_same test other n (λ k h. same k (omega arith)))

add_back : (n k : ℕ) → n + k ≡ k + n
add_back n k = omega arith

-- a filter of the first nodes, counted
pub filter_tally : (is_so : Node → Bool) (nodes : List Node) (n : ℕ) → n ≤ length nodes →
    length (filter is_so (take n nodes)) ≡ tally (λ k. is_so (tree_node nodes k)) n
filter_tally is_so nodes zero h = refl
filter_tally is_so nodes (suc n) h =
    ap (λ m. length (filter is_so (take m nodes))) (let e : suc n ≡ n + 1 = omega arith in e)
    ∙ (length-filter_more is_so nodes n (record { number = 0; kind = kinds.Document; name = None; above = []; text = [] }) (omega arith)
    ∙ (add_back _ _ ∙ ap (λ k. cond (is_so (tree_node nodes n)) 1 0 + k) (filter_tally is_so nodes n (omega arith))))

-- ---- keys

same_is : (a b : Name) → same_name a b ≡ true → a ≡ b
same_is a b e =
    let parts = and_parts _ _ e in
    let uri : a.uri ≡ b.uri = (bytes_eq-Decides a.uri b.uri).0 parts.0 in
    let local : a.local ≡ b.local = (bytes_eq-Decides a.local b.local).0 parts.1 in
    let both : (x y : List ℕ) → Name = λ x y. record { uri = x; local = y } in
    ap (λ x. both x a.local) uri ∙ ap (both b.uri) local

is_same : (a b : Name) → a ≡ b → same_name a b ≡ true
is_same a b e = ap (λ (x : Name). same_name x b) e ∙ self b
  where
    self : (b : Name) → same_name b b ≡ true
    self b = ap (λ x. x && (Rattle.std.specs.Prelude.bytes_eq b.local b.local)) ((bytes_eq-Decides b.uri b.uri).1 refl) ∙
        (bytes_eq-Decides b.local b.local).1 refl

one_answer : (a b : Bool) → (a ≡ true → b ≡ true) → (b ≡ true → a ≡ true) → a ≡ b
one_answer true b f g = sym (f refl)
one_answer false true f g = g refl
one_answer false false f g = refl

-- Names are the same exactly where their numbers are.
pub same_key : (names : List Name) → AreDistinct names → (a b : Option ℕ) → ForSome a (λ k. k < length names) → ForSome b (λ k. k < length names)
    → same_names (option_map (name_at names) a) (option_map (name_at names) b) ≡ (key b == key a)
same_key names distinct None None ha hb = refl
same_key names distinct None (Some b) ha hb = one_answer false (b + 1 == 0) (λ e. cc) (λ e. let z = eqb-true (b + 1) 0 e in absurd (omega arith))
same_key names distinct (Some a) None ha hb = one_answer false (0 == a + 1) (λ e. cc) (λ e. let z = eqb-true 0 (a + 1) e in absurd (omega arith))
same_key names distinct (Some a) (Some b) ha hb =
    one_answer (same_name (name_at names a) (name_at names b)) (b + 1 == a + 1)
    (λ e. eq-eqb (b + 1) (a + 1) (ap (λ k. k + 1) (sym (distinct a b (ha a refl) (hb b refl) (same_is (name_at names a) (name_at names b) e)))))
    (λ e. let z = eqb-true (b + 1) (a + 1) e in let same : a ≡ b = omega arith in is_same (name_at names a) (name_at names b) (ap (name_at names) same))

-- ---- the loop over the children of a parent

-- The next child of a parent from a place on, and none between.
pub record IsNext (p count from : ℕ) (all : List Node) (next : Option ℕ) : Type 0 where
  pub within : IfSome next (λ n. n < count)
  pub on : IfSome next (λ n. is_child p (tree_node all n) ≡ true)
  pub behind_it : from ≤ reach count next
  pub none : (k : ℕ) → from ≤ k → k < reach count next → is_child p (tree_node all k) ≡ false

next_is : (p count from : ℕ) (all : List Node) → Walk all → length all ≡ count → from ≤ count → (next : Option ℕ) →
    first_that (is_child p) (drop from all) ≡ next
    → IsNext p count from all next
next_is p count from all walk is le None e = record {
  within = tt;
  on = tt;
  behind_it = le;
  none = λ k a b. none_from (is_child p) all from e k a (omega arith);
}
next_is p count from all walk is le (Some m) e =
    let f = first_from (is_child p) all walk.numbers from m e in
    record { within = omega (arith, f.within); on = f.is; behind_it = f.from; none = f.before }

-- The children of the parent before the next one are counted, and those of the parents before it.
pub record IsCounting (document : Document) (p : ℕ) (table : List Seen) (counts : List ℕ) (next : Option ℕ) : Type 0 where
  pub within : IfSome next (λ n. n < length document.nodes)
  pub on : IfSome next (λ n. is_child p (tree_node (tree_nodes document) n) ≡ true)
  pub tallied : (k : ℕ) → seen table p k ≡ tally (is_keyed document p k) (reach (length document.nodes) next)
  pub fresh : (q k : ℕ) → p < q → seen table q k ≡ 0
  pub counted : AreCounted document p counts
  pub here : (n : ℕ) → n < reach (length document.nodes) next → is_child p (tree_node (tree_nodes document) n) ≡ true
      → get_or counts n 0 ≡ ordinal (tree_nodes document) n

-- a right count is put in its place
set_right : (P : ℕ → ℕ → Type 0) (counts : List ℕ) (n count m : ℕ) → n < length counts → P n count → ((m ≡ n → ⊥) → P m (get_or counts m 0)) →
    P m (get_or (set counts n count) m 0)
set_right P counts n count m within right other = ⊎_elim
    (λ (e : m ≡ n). subst (λ k. P k (get_or (set counts n count) k 0)) (sym e) (subst (P n) (sym (get_or-set_same counts n count 0 within)) right))
    (λ (ne : m ≡ n → ⊥). subst (P m) (sym (get_or-set_other counts n m count 0 ne)) (other ne))
    (cases_eq m n)

counted_not : (kind : Kind) → is_counted kind ≡ true → not (is_attribute_kind kind) ≡ true
counted_not kinds.Document e = refl
counted_not kinds.Element e = refl
counted_not kinds.Attribute e = cc
counted_not kinds.Text e = refl

-- ---- nodes of a document

named_node : (count : ℕ) (nodes : List Placed) (n : ℕ) → AreNamed count nodes → n < length nodes → ForSome (node_at nodes n).name (λ name. name < count)
named_node count [] n h within = absurd (omega (arith, within))
named_node count (node ∷ nodes) zero h within = h.0
named_node count (node ∷ nodes) (suc n) h within = named_node count nodes n h.1 (omega (arith, within))

module _ (document : Document) (distinct : AreDistinct document.names) (named : AreNamed (length document.names) document.nodes)
    (walk : Walk (tree_nodes document)) where
  pub long : length (tree_nodes document) ≡ length document.nodes
  long = length-map document.nodes (node_of document.names)

  pub at_node : (n : ℕ) → n < length document.nodes → tree_node (tree_nodes document) n ≡ node_of document.names (node_at document.nodes n)
  at_node n within = get_or-map (node_of document.names) document.nodes n document_node _ within

  alike_elim : (above : List ℕ) (p : ℕ) (f : ℕ → Bool) → is_nearest p above ≡ true → elim (nearest above) as (λ _. Bool) [ None ↦ false | Some q ↦ f q ] ≡ f p
  alike_elim [] p f h = cc
  alike_elim (m ∷ above) p f h = ap f (eqb-true m p h)

  -- of a child of the parent the siblings like it are those of its key
  alike : (p n k : ℕ) → n < length document.nodes → k < length document.nodes → is_child p (tree_node (tree_nodes document) n) ≡ true
      → is_keyed document p (key (node_at document.nodes n).name) k ≡ is_alike (tree_node (tree_nodes document) n) (tree_node (tree_nodes document) k)
  alike p n k n_within k_within child =
      let a = tree_node (tree_nodes document) n in
      let b = tree_node (tree_nodes document) k in
      let parts = and_parts (is_nearest p a.above) (not (is_attribute a)) child in
      let names : same_names a.name b.name ≡ (key (node_at document.nodes k).name == key (node_at document.nodes n).name) =
      ap (λ (node : Node). same_names node.name b.name) (at_node n n_within)
      ∙ (ap (λ (node : Node). same_names (option_map (name_at document.names) (node_at document.nodes n).name) node.name) (at_node k k_within)
      ∙ same_key document.names distinct (node_at document.nodes n).name (node_at document.nodes k).name
      (named_node (length document.names) document.nodes n named n_within) (named_node (length document.names) document.nodes k named k_within)) in
      ap (λ x. is_child p b && x) (sym names) ∙ sym (alike_elim a.above p (λ q. is_child q b && same_names a.name b.name) parts.0)

  -- the ordinal of a child, from how many of its key stand before it
  pub ordinal_is : (p n count : ℕ) → n < length document.nodes → is_child p (tree_node (tree_nodes document) n) ≡ true
      → count ≡ tally (is_keyed document p (key (node_at document.nodes n).name)) n → count + 1 ≡ ordinal (tree_nodes document) n
  ordinal_is p n count within child is =
      add_back count 1
      ∙ ap (λ k. 1 + k) (is ∙ (tally_same _ _ n (λ k h. alike p n k within (omega (arith, h, within)) child)
      ∙ sym (filter_tally (is_alike (tree_node (tree_nodes document) n)) (tree_nodes document) n (omega (arith, within, long)))))

  next_child : (n p : ℕ) → is_child p (tree_node (tree_nodes document) n) ≡ true →
      next_sibling (tree_nodes document) n ≡ first_that (is_child p) (drop (n + 1) (tree_nodes document))
  next_child n p child =
      let all = tree_nodes document in
      let parts = and_parts (is_nearest p (tree_node all n).above) (not (is_attribute (tree_node all n))) child in
      ap (λ b. cond b None (elim (parent all n) as (λ _. Option ℕ) [ None ↦ None | Some q ↦ first_that (is_child q) (behind n all) ]))
      (not-true (is_attribute (tree_node all n)) parts.1)
      ∙ sibling_elim (tree_node all n).above p (λ q. first_that (is_child q) (behind n all)) parts.0
    where
      sibling_elim : (above : List ℕ) (p : ℕ) (f : ℕ → Option ℕ) → is_nearest p above ≡ true →
          elim (nearest above) as (λ _. Option ℕ) [ None ↦ None | Some q ↦ f q ] ≡ f p
      sibling_elim [] p f h = cc
      sibling_elim (m ∷ above) p f h = ap f (eqb-true m p h)

  no_child : (p k n : ℕ) → is_child p (tree_node (tree_nodes document) n) ≡ false → is_keyed document p k n ≡ false
  no_child p k n e = ap (λ b. b && (key (node_at document.nodes n).name == k)) e

  pub counting-begin : (p : ℕ) (table : List Seen) (counts : List ℕ) (next : Option ℕ) → next ≡ first_child (tree_nodes document) p
      → ((q k : ℕ) → p ≤ q → seen table q k ≡ 0) → AreCounted document p counts → IsCounting document p table counts next
  counting-begin p table counts next is fresh counted =
      let first = next_is p (length document.nodes) 0 (tree_nodes document) walk long (omega arith) next (sym is) in
      record {
        within = first.within;
        on = first.on;
        tallied = λ k. fresh p k (omega arith)
            ∙ sym (tally_skip (is_keyed document p k) 0 (reach (length document.nodes) next) (omega arith) (λ j a b. no_child p k j (first.none j a b)));
        fresh = λ q k h. fresh q k (omega arith);
        counted = counted;
        here = λ n h child. absurd (both_ways (is_child p (tree_node (tree_nodes document) n)) child (first.none n (omega arith) h));
      }

  pub counting-room : (p k n : ℕ) (table : List Seen) (counts : List ℕ) → length document.nodes < 2 ^ 32 → IsCounting document p table counts (Some n)
      → seen table p k + 1 < 2 ^ 32
  counting-room p k n table counts few is =
      let small = tally_few (is_keyed document p k) n in
      let equal = is.tallied k in
      let within : n < length document.nodes = is.within in
      omega (arith, small, equal, within)

  pub counting-step : (p n count : ℕ) (table table' : List Seen) (counts : List ℕ) (next : Option ℕ) → IsCounting document p table counts (Some n)
      → length counts ≡ length document.nodes
      → next ≡ next_sibling (tree_nodes document) n
      → count ≡ seen table p (key (node_at document.nodes n).name) + 1
      → ((k : ℕ) → seen table' p k ≡ cond (key (node_at document.nodes n).name == k) 1 0 + seen table p k)
      → ((q k : ℕ) → p < q → seen table q k ≡ 0 → seen table' q k ≡ 0)
      → IsCounting document p table' (set counts n count) next
  counting-step p n count table table' counts next is counts_long next_at count_is here_is elsewhere =
      let within : n < length document.nodes = is.within in
      let child : is_child p (tree_node (tree_nodes document) n) ≡ true = is.on in
      let behind_n = next_is p (length document.nodes) (n + 1) (tree_nodes document) walk long (omega (arith, within)) next
      (sym (next_at ∙ next_child n p child)) in
      let right : count ≡ ordinal (tree_nodes document) n =
      count_is ∙ ordinal_is p n (seen table p (key (node_at document.nodes n).name)) within child (is.tallied (key (node_at document.nodes n).name)) in
      let one_more = λ (k : ℕ). here_is k
      ∙ (ap (λ j. cond (key (node_at document.nodes n).name == k) 1 0 + j) (is.tallied k)
      ∙ (ap (λ b. cond (b && (key (node_at document.nodes n).name == k)) 1 0 + tally (is_keyed document p k) n) (sym child)
      ∙ (let e : suc n ≡ n + 1 = omega arith in ap (tally (is_keyed document p k)) e))) in
      record {
        within = behind_n.within;
        on = behind_n.on;
        tallied = λ k. one_more k
            ∙ sym (tally_skip (is_keyed document p k) (n + 1) (reach (length document.nodes) next) behind_n.behind_it
            (λ j a b. no_child p k j (behind_n.none j a b)));
        fresh = λ q k h. elsewhere q k h (is.fresh q k h);
        counted = λ q m below m_within m_child.
            set_right (λ j c. c ≡ ordinal (tree_nodes document) j) counts n count m (omega (arith, within, counts_long)) right
            (λ ne. is.counted q m below m_within m_child);
        here = λ m h m_child.
            set_right (λ j c. c ≡ ordinal (tree_nodes document) j) counts n count m (omega (arith, within, counts_long)) right
            (λ ne. ⊎_elim
            (λ (l : m < n). is.here m l m_child)
            (λ (g : n ≤ m). absurd (both_ways (is_child p (tree_node (tree_nodes document) m)) m_child (behind_n.none m (more n m g ne) h)))
            (cases_lt m n));
      }
    where
      more : (n m : ℕ) → n ≤ m → (m ≡ n → ⊥) → n + 1 ≤ m
      more n m g ne = ⊎_elim (λ (l : n < m). omega arith) (λ (le : m ≤ n). absurd (ne (omega arith))) (cases_lt n m)

  pub counting-end : (p : ℕ) (table : List Seen) (counts : List ℕ) → IsCounting document p table counts None → AreCounted document (p + 1) counts
  counting-end p table counts is = λ q n below within child. ⊎_elim
      (λ (l : q < p). is.counted q n l within child)
      (λ (g : p ≤ q). let e : p ≡ q = omega arith in is.here n within (subst (λ r. is_child r (tree_node (tree_nodes document) n) ≡ true) (sym e) child))
      (cases_lt q p)

  -- each element or text is the child of a node before it
  pub record HasParent (n : ℕ) : Type 0 where
    pub parent_is : ℕ
    pub before_it : parent_is < n
    pub child : is_child parent_is (tree_node (tree_nodes document) n) ≡ true

  nearest_of : (above : List ℕ) → In 0 above → (p : ℕ) × (is_nearest p above ≡ true) × In p above
  nearest_of [] i = absurd i
  nearest_of (p ∷ above) i = (p, eq-eqb p p refl, inl refl)

  has_parent : (tree_node (tree_nodes document) 0).kind ≡ kinds.Document → (n : ℕ) → n < length document.nodes
      → is_counted (tree_node (tree_nodes document) n).kind ≡ true → HasParent n
  has_parent first zero within is = let no : false ≡ true = ap is_counted (sym first) ∙ is in cc
  has_parent first (suc k) within is =
      let node = tree_node (tree_nodes document) (suc k) in
      let p = nearest_of node.above (walk.rooted k (omega (arith, within, long))) in
      record {
        parent_is = p.0;
        before_it = before (tree_nodes document) walk (suc k) p.0 (omega (arith, within, long)) p.2;
        child = ap (λ b. b && not (is_attribute node)) p.1 ∙ counted_not node.kind is;
      }

  pub ordinals_are : (tree_node (tree_nodes document) 0).kind ≡ kinds.Document → (counts : List ℕ) → length counts ≡ length document.nodes
      → AreCounted document (length document.nodes) counts → AreOrdinals document counts
  ordinals_are first counts counts_long counted = record {
    long = counts_long;
    are = λ n within is. let p = has_parent first n within is in counted p.parent_is n (omega (arith, within, p.before_it)) within p.child;
  }

  -- Only the document is inside no node.
  pub no_parent : (n : ℕ) → n < length document.nodes → parent (tree_nodes document) n ≡ None → n ≡ 0
  no_parent zero within is = refl
  no_parent (suc k) within is = absurd (not_none (tree_node (tree_nodes document) (suc k)).above (walk.rooted k (omega (arith, within, long))) is)
    where
      not_none : (above : List ℕ) → In 0 above → nearest above ≡ None → ⊥
      not_none [] i e = i
      not_none (m ∷ above) i e = cc
