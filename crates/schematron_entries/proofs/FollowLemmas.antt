-- The items of abstract rules, rule by rule.
use Rattle.std.proofs.Common.{◌≡◌, ℕ, ◌+◌, ◌<◌, ◌≤◌, true, false, cond, ⊎_elim, List, [], ◌∷◌, length, get_or, Some, refl, ap, sym, ◌∙◌, subst, arith}
use Rattle.std.specs.Prelude.{nat_eq, is_some}
use Rattle.std.specs.List.{All, position_from}
use Rattle.std.proofs.lemmas.Bool.{cases_lt, cases_Bool, eqb-true, false≢true, true≢false, and_parts}
use Rattle.std.proofs.lemmas.List.Elements.{All-head, All-tail, All-filter, All-weaker, filter_passes}
use Rattle.inv_base.specs.Tree.{Node}
use Rattle.node_arena.specs.Moves.{tree_node}
use Rattle.schematron_meaning.specs.declared.around.Around.{Around}
use Rattle.schematron_meaning.specs.declared.role.Role.{Role}
use Rattle.schematron_meaning.specs.declared.role.Role.TheVariants as r
use Rattle.schematron_meaning.specs.Entries.{Entry, entries, role_of, outermost}
use Rattle.schematron_meaning.specs.Lookup.{is_item, is_abstract_rule}
use Rattle.schematron_meaning.specs.Bodies.{abstract_rules, rule_at}
use Rattle.schematron_entries.specs.Order.{AreInOrder, ItemsStandBehind, RulesFollow, is_document, is_in_abstract_rule, up}
use Rattle.schematron_entries.proofs.NumberLemmas.{entries_rise}
use Rattle.schematron_entries.proofs.RoleLemmas.{rank, has_items, fits, role_fits, rank_above, rank_one, items_in, around_role, around_number}
use Rattle.schematron_entries.proofs.SeenLemmas.{seen_of, IsSeen, IsEntry, IsOf, nodes_seen, entries_seen}

abstract_rank : (role : Role) → is_abstract_rule role ≡ true → rank role ≡ 4
abstract_rank r.AbstractRule h = refl
abstract_rank _ h = absurd (false≢true h)

module _ (nodes : List Node) (o : AreInOrder nodes) where
  abbrev all : List Around
  all = seen_of [] nodes

  abbrev role_at : ℕ → Role
  role_at n = (get_or all n outermost).role

  seen_at : (n : ℕ) → n < length nodes → IsSeen all n (tree_node nodes n)
  seen_at n h = subst (λ m. IsSeen all m (tree_node nodes n)) (omega arith) (nodes_seen all [] nodes refl n h)

  role_is : (n : ℕ) (s : IsSeen all n (tree_node nodes n)) → role_at n ≡ role_of s.parent.role (tree_node nodes n) s.given
  role_is n s = ap (λ (a : Around). a.role) s.seen ∙ around_role s.parent (tree_node nodes n) (role_of s.parent.role (tree_node nodes n) s.given)

  -- ---- ranks

  -- what stands on the path of a rule stands in what is one step above
  rank_up : (n k : ℕ) → n < length nodes → rank (role_at n) ≡ k + 2 → (up nodes n < n) × (rank (role_at (up nodes n)) ≡ k + 1)
  rank_up n k h e =
      let s : IsSeen all n (tree_node nodes n) = seen_at n h in
      let role : Role = role_of s.parent.role (tree_node nodes n) s.given in
      let ranked : rank role ≡ k + 2 = sym (ap rank (role_is n s)) ∙ e in
      ⊎_elim
      (λ (w : (is_document (tree_node nodes n) ≡ true) × (role ≡ r.Outside)). absurd (omega (arith, ranked, ap rank w.1)))
      (λ (f : fits s.parent.role role ≡ true).
      let above : rank s.parent.role ≡ k + 1 = rank_above s.parent.role role k f ranked in
      ⊎_elim
      (λ (out : s.parent ≡ outermost). absurd (omega (arith, above, ap (λ (a : Around). rank a.role) out)))
      (λ (b : (up nodes n < n) × (s.parent ≡ get_or all (up nodes n) outermost)). (b.0, sym (ap (λ (a : Around). rank a.role) b.1) ∙ above))
      s.before)
      (role_fits s.parent.role (tree_node nodes n) s.given)

  -- the topmost is the first node
  rank_first : (n : ℕ) → n < length nodes → rank (role_at n) ≡ 1 → n ≤ 0
  rank_first n h e =
      let s : IsSeen all n (tree_node nodes n) = seen_at n h in
      let role : Role = role_of s.parent.role (tree_node nodes n) s.given in
      ⊎_elim
      (λ (w : (is_document (tree_node nodes n) ≡ true) × (role ≡ r.Outside)).
      ⊎_elim (λ (l : 0 < n). absurd (true≢false (sym w.0 ∙ o.one_document n l h))) (λ (g : n ≤ 0). g) (cases_lt 0 n))
      (λ (f : fits s.parent.role role ≡ true). absurd (rank_one s.parent.role role f (sym (ap rank (role_is n s)) ∙ e)))
      (role_fits s.parent.role (tree_node nodes n) s.given)

  number_at : (n : ℕ) → n < length nodes → has_items (role_at n) ≡ true → (get_or all n outermost).number ≡ n
  number_at n h i =
      let s : IsSeen all n (tree_node nodes n) = seen_at n h in
      ap (λ (a : Around). a.number) s.seen
      ∙ (around_number s.parent (tree_node nodes n) (role_of s.parent.role (tree_node nodes n) s.given) (sym (ap has_items (role_is n s)) ∙ i) ∙ o.numbered n h)

  -- What is between a node and the rule that it stands in is inside that rule, so it is no part of a rule's path.
  step : (n m k : ℕ) → n < length nodes → up nodes n < m → m < n → rank (role_at (up nodes n)) ≡ 4 → rank (role_at m) ≡ k + 2 → k < 3
      → (up nodes n < up nodes m) × (up nodes m < n) × (rank (role_at (up nodes m)) ≡ k + 1)
  step n m k h l g four e few =
      let above : (up nodes m < m) × (rank (role_at (up nodes m)) ≡ k + 1) = rank_up m k (omega (arith, h, g)) e in
      ⊎_elim
      (λ (in' : up nodes n < up nodes m). (in', omega (arith, above.0, g), above.1))
      (λ (out : up nodes m ≤ up nodes n).
      let same : up nodes m ≡ up nodes n = omega (arith, out, o.nested n m h l g) in
      absurd (omega (arith, four, few, above.1, ap (λ x. rank (role_at x)) same)))
      (cases_lt (up nodes n) (up nodes m))

  no_rule_between : (n m : ℕ) → n < length nodes → up nodes n < m → m < n → rank (role_at (up nodes n)) ≡ 4 → rank (role_at m) ≡ 4 → ⊥
  no_rule_between n m h l g four e =
      let a = step n m 2 h l g four e (omega arith) in
      let b = step n (up nodes m) 1 h a.0 a.1 four a.2 (omega arith) in
      let c = step n (up nodes (up nodes m)) 0 h b.0 b.1 four b.2 (omega arith) in
      omega (arith, c.0, rank_first (up nodes (up nodes (up nodes m))) (omega (arith, c.1, h)) c.2)

  -- ---- entries

  -- An entry is of a node; an item stands in one before its own.
  record IsRead (e : Entry) : Type 0 where
    within : e.number < length nodes
    role : role_at e.number ≡ e.role
    item : is_item e.role ≡ true → (up nodes e.number < e.number) × (e.parent ≡ up nodes e.number)

  read_at : (e : Entry) (k : ℕ) → k < length nodes → IsEntry all k (tree_node nodes k) e → IsRead e
  read_at e k h w =
      let s : IsSeen all k (tree_node nodes k) = w.at in
      let role : Role = role_of s.parent.role (tree_node nodes k) s.given in
      let number : e.number ≡ k = ap (λ (x : Entry). x.number) w.is ∙ o.numbered k h in
      let role_of_e : e.role ≡ role = ap (λ (x : Entry). x.role) w.is in
      let parent : e.parent ≡ s.parent.number = ap (λ (x : Entry). x.parent) w.is in
      record {
        within = omega (arith, number, h);
        role = ap role_at number ∙ (role_is k s ∙ sym role_of_e);
        item = λ i. subst (λ n. (up nodes n < n) × (e.parent ≡ up nodes n)) (sym number) (⊎_elim
            (λ (d : (is_document (tree_node nodes k) ≡ true) × (role ≡ r.Outside)). absurd (false≢true (sym (ap is_item (role_of_e ∙ d.1)) ∙ i)))
            (λ (f : fits s.parent.role role ≡ true).
            let items : has_items s.parent.role ≡ true = items_in s.parent.role role f (sym (ap is_item role_of_e) ∙ i) in
            ⊎_elim
            (λ (out : s.parent ≡ outermost). absurd (false≢true (sym (ap (λ (a : Around). has_items a.role) out) ∙ items)))
            (λ (b : (up nodes k < k) × (s.parent ≡ get_or all (up nodes k) outermost)). (
              b.0,
              parent ∙ (ap (λ (a : Around). a.number) b.1
                  ∙ number_at (up nodes k) (omega (arith, b.0, h)) (sym (ap (λ (a : Around). has_items a.role) b.1) ∙ items)),
            ))
            s.before)
            (role_fits s.parent.role (tree_node nodes k) s.given));
      }

  all_read : All IsRead (entries nodes)
  unfolding entries
  all_read = All-weaker (IsOf all 0 nodes) IsRead (λ e w. read_at e w.0 w.1 (subst (λ n. IsEntry all n (tree_node nodes w.0) e) (omega arith) w.2)) _
      (entries_seen all [] nodes refl)

  pub behind : ItemsStandBehind (entries nodes)
  behind = All-weaker IsRead (λ (e : Entry). is_item e.role ≡ true → e.parent < e.number) (λ e w i. omega (arith, (w.item i).0, (w.item i).1)) _ all_read

  -- the node of an abstract rule
  rule_found : (rules : List Entry) → All IsRead rules → All (λ (e : Entry). is_abstract_rule e.role ≡ true) rules → (n k : ℕ)
      → is_some (position_from (λ (rule : Entry). nat_eq rule.number n) k rules) ≡ true → rank (role_at n) ≡ 4
  rule_found [] read abstract n k h = absurd (false≢true h)
  rule_found (rule ∷ rules) read abstract n k h = ⊎_elim
      (λ (is : nat_eq rule.number n ≡ true).
      ap (λ m. rank (role_at m)) (sym (eqb-true rule.number n is)) ∙
      (ap rank (All-head IsRead rule rules read).role ∙
      abstract_rank rule.role (All-head (λ (e : Entry). is_abstract_rule e.role ≡ true) rule rules abstract)))
      (λ (not_so : nat_eq rule.number n ≡ false).
      rule_found rules (All-tail IsRead rule rules read) (All-tail (λ (e : Entry). is_abstract_rule e.role ≡ true) rule rules abstract) n (k + 1)
      (sym (ap (λ b. is_some (cond b (Some k) (position_from (λ (other : Entry). nat_eq other.number n) (k + 1) rules))) not_so) ∙ h))
      (cases_Bool (nat_eq rule.number n))

  rule_rank : (n : ℕ) → is_some (rule_at (abstract_rules (entries nodes)) n) ≡ true → rank (role_at n) ≡ 4
  rule_rank n h = rule_found (abstract_rules (entries nodes)) (All-filter (λ (e : Entry). is_abstract_rule e.role) IsRead (entries nodes) all_read)
      (filter_passes (λ (e : Entry). is_abstract_rule e.role) (entries nodes)) n 0 h

  follow : (a b : Entry) → IsRead a → IsRead b → a.number < b.number → is_in_abstract_rule (entries nodes) a ≡ true →
      is_in_abstract_rule (entries nodes) b ≡ true → a.parent ≤ b.parent
  follow a b x y l i j =
      let in_a = and_parts (is_item a.role) (is_some (rule_at (abstract_rules (entries nodes)) a.parent)) i in
      let in_b = and_parts (is_item b.role) (is_some (rule_at (abstract_rules (entries nodes)) b.parent)) j in
      let item_a : (up nodes a.number < a.number) × (a.parent ≡ up nodes a.number) = x.item in_a.0 in
      let item_b : (up nodes b.number < b.number) × (b.parent ≡ up nodes b.number) = y.item in_b.0 in
      ⊎_elim
      (λ (less : b.parent < a.parent). absurd (no_rule_between b.number a.parent y.within (omega (arith, less, item_b.1)) (omega (arith, item_a.0, item_a.1, l))
      (ap (λ n. rank (role_at n)) (sym item_b.1) ∙ rule_rank b.parent in_b.1) (rule_rank a.parent in_a.1)))
      (λ (most : a.parent ≤ b.parent). most)
      (cases_lt b.parent a.parent)

  pub rules_in_order : RulesFollow (entries nodes)
  rules_in_order = λ i j d l m. follow (get_or (entries nodes) i d) (get_or (entries nodes) j d) (all_read i d (omega (arith, l, m))) (all_read j d m)
      (entries_rise nodes o i j d l m)
