-- Entries and what they stand in, as they are read of the nodes.
use Rattle.std.proofs.Common.{◌≡◌, ℕ, zero, suc, ◌+◌, ◌<◌, ◌≤◌, ◌⊎◌, inl, inr, ⊎_elim, List, [], ◌∷◌, ◌++◌, length, get_or, refl, ap, sym, ◌∙◌, subst, arith}
use Rattle.std.specs.List.{All}
use Rattle.std.proofs.lemmas.Bool.{cases_lt}
use Rattle.std.proofs.lemmas.List.{get_or_append_left, get_or_push, get_or_past, length_push}
use Rattle.std.proofs.lemmas.List.Elements.{All-nil, All-weaker}
use Rattle.inv_base.specs.Tree.{Node}
use Rattle.node_arena.specs.Moves.{tree_node}
use Rattle.schematron_meaning.specs.declared.around.Around.{Around}
use Rattle.schematron_meaning.specs.declared.role.Role.{Role}
use Rattle.schematron_meaning.specs.Entries.{Entry, Given, entries_behind, entry_of, is_listed, role_of, given_behind, around_of, nearest_of, outermost}
use Rattle.schematron_entries.specs.Order.{first_or_zero}
use Rattle.schematron_entries.proofs.NumberLemmas.{listed_all}

-- what a node is to those in it, where it is known what those before it are
abbrev next_seen : List Around → Node → List Node → Around
next_seen seen node nodes = around_of (nearest_of seen node.above) node (role_of (nearest_of seen node.above).role node (given_behind node nodes))

-- all nodes as they are seen, those before these included
abbrev pub seen_of : List Around → List Node → List Around
seen_of seen [] = seen
seen_of seen (node ∷ nodes) = seen_of (seen ++ next_seen seen node nodes ∷ []) nodes

seen_front : (seen : List Around) (nodes : List Node) (k : ℕ) → k < length seen → get_or (seen_of seen nodes) k outermost ≡ get_or seen k outermost
seen_front seen [] k h = refl
seen_front seen (node ∷ nodes) k h =
    let a : Around = next_seen seen node nodes in
    seen_front (seen ++ a ∷ []) nodes k (omega (arith, h, length_push seen a)) ∙ get_or_append_left seen (a ∷ []) outermost k h

-- what the node of that number stands in: one before it, or nothing
abbrev pub IsBefore : List Around → ℕ → Node → Around → Type 0
IsBefore all n node parent = (parent ≡ outermost) ⊎ ((first_or_zero node.above < n) × (parent ≡ get_or all (first_or_zero node.above) outermost))

-- how the node of that number is seen
pub record IsSeen (all : List Around) (n : ℕ) (node : Node) : Type 0 where
  pub parent : Around
  pub given : List Given
  pub before : IsBefore all n node parent
  pub seen : get_or all n outermost ≡ around_of parent node (role_of parent.role node given)

-- The entry is of that node.
pub record IsEntry (all : List Around) (n : ℕ) (node : Node) (e : Entry) : Type 0 where
  pub at : IsSeen all n node
  pub is : e ≡ entry_of at.parent node (role_of at.parent.role node at.given) at.given

before : (all seen : List Around) → ((k : ℕ) → k < length seen → get_or all k outermost ≡ get_or seen k outermost) → (above : List ℕ)
    → (nearest_of seen above ≡ outermost) ⊎ ((first_or_zero above < length seen) × (nearest_of seen above ≡ get_or all (first_or_zero above) outermost))
before all seen same [] = inl refl
before all seen same (n ∷ above) = ⊎_elim
    (λ (l : n < length seen). inr (l, sym (same n l)))
    (λ (g : length seen ≤ n). inl (get_or_past seen n outermost g))
    (cases_lt n (length seen))

first_seen : (all seen : List Around) (node : Node) (nodes : List Node) → all ≡ seen_of seen (node ∷ nodes) → IsSeen all (length seen) node
first_seen all seen node nodes e =
    let a : Around = next_seen seen node nodes in
    record {
      parent = nearest_of seen node.above;
      given = given_behind node nodes;
      before = before all seen (λ k l. ap (λ (x : List Around). get_or x k outermost) e ∙ seen_front seen (node ∷ nodes) k l) node.above;
      seen = ap (λ (x : List Around). get_or x (length seen) outermost) e
          ∙ (seen_front (seen ++ a ∷ []) nodes (length seen) (omega (arith, length_push seen a)) ∙ get_or_push seen a outermost (length seen) refl);
    }

-- Each node is seen so.
pub nodes_seen : (all seen : List Around) (nodes : List Node) → all ≡ seen_of seen nodes → (k : ℕ) → k < length nodes →
    IsSeen all (length seen + k) (tree_node nodes k)
nodes_seen all seen [] e k h = absurd (omega (arith, h))
nodes_seen all seen (node ∷ nodes) e zero h = subst (λ n. IsSeen all n node) (omega arith) (first_seen all seen node nodes e)
nodes_seen all seen (node ∷ nodes) e (suc k) h =
    let a : Around = next_seen seen node nodes in
    subst (λ n. IsSeen all n (tree_node nodes k)) (omega (arith, length_push seen a)) (nodes_seen all (seen ++ a ∷ []) nodes e k (omega (arith, h)))

-- The entry is of one of these nodes, the first of which has this number.
abbrev pub IsOf : List Around → ℕ → List Node → Entry → Type 0
IsOf all from nodes e = (k : ℕ) × (k < length nodes) × IsEntry all (from + k) (tree_node nodes k) e

later : (all : List Around) (from next : ℕ) (node : Node) (nodes : List Node) → next ≡ from + 1 → (e : Entry) → IsOf all next nodes e →
    IsOf all from (node ∷ nodes) e
later all from next node nodes h e of = (suc of.0, omega (arith, of.1), subst (λ n. IsEntry all n (tree_node nodes of.0) e) (omega (arith, h)) of.2)

pub entries_seen : (all seen : List Around) (nodes : List Node) → all ≡ seen_of seen nodes → All (IsOf all (length seen) nodes) (entries_behind seen nodes)
unfolding first_seen
entries_seen all seen [] e = All-nil _
entries_seen all seen (node ∷ nodes) e =
    let a : Around = next_seen seen node nodes in
    let parent : Around = nearest_of seen node.above in
    let given : List Given = given_behind node nodes in
    let role : Role = role_of parent.role node given in
    listed_all (IsOf all (length seen) (node ∷ nodes)) (is_listed role) (entry_of parent node role given) (entries_behind (seen ++ a ∷ []) nodes)
    (λ _. (
      0,
      omega arith,
      subst (λ n. IsEntry all n node (entry_of parent node role given)) (omega arith)
          (record { at = first_seen all seen node nodes e; is = refl }),
    ))
    (All-weaker (IsOf all (length (seen ++ a ∷ [])) nodes) (IsOf all (length seen) (node ∷ nodes))
    (later all (length seen) (length (seen ++ a ∷ [])) node nodes (length_push seen a)) (entries_behind (seen ++ a ∷ []) nodes)
    (entries_seen all (seen ++ a ∷ []) nodes e))
