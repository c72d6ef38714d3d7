use Rattle.std.proofs.Common.{◌≡◌, ◌<◌, ℕ, ◌++◌, [], ◌∷◌, List, length, All, Option, Some, refl, ap, sym, subst, arith}
use Rattle.std.specs.Prelude.{if◌then◌else◌}
use Rattle.std.proofs.lemmas.List.Elements.{All-nil, All-push}
use Rattle.std.specs.Str.{chars}
use Rattle.std.proofs.Common.{Bool, true, false}
use Rattle.node_arena.specs.Document.{Document, AreNumbered}
use Rattle.node_arena.specs.Moves.{tree_nodes, tree_node, first_attribute, next_attribute}
use Rattle.bind_meaning.specs.Elements.{attributes_named}
use Rattle.bind_meaning.specs.Names.{has_plain_name}
use Rattle.bind_terms.proofs.NodeLists.{Next, ordered, long, attributes-begin, attributes-go_on}
use Rattle.bind_terms.proofs.attributes.attributes_named.Goals as goal

begins : (document : Document) (n : ℕ) (local found : List ℕ) (next : Option ℕ) → AreNumbered 0 document.nodes → found ≡ []
    → next ≡ first_attribute (tree_nodes document) n
    → Next (tree_nodes document) n (has_plain_name local) found (attributes_named (tree_nodes document) local n) next
    × All (λ m. m < length document.nodes) found
begins document n local found next h e step = (
  subst (λ x. Next (tree_nodes document) n (has_plain_name local) x (attributes_named (tree_nodes document) local n) next) (sym e)
      (attributes-begin (tree_nodes document) n (has_plain_name local) next (ordered document h) step),
  subst (All (λ m. m < length document.nodes)) (sym e) (All-nil (λ m. m < length document.nodes)),
)

append-nil : (xs : List ℕ) → xs ++ [] ≡ xs
append-nil [] = refl
append-nil (x ∷ xs) = ap (λ z. x ∷ z) (append-nil xs)

more-within : (count m : ℕ) (b : Bool) (found : List ℕ) → m < count → All (λ k. k < count) found → All (λ k. k < count) (found ++ (if b then m ∷ [] else []))
more-within count m true found below h = All-push (λ k. k < count) found m h below
more-within count m false found below h = subst (All (λ k. k < count)) (sym (append-nil found)) h

goes_on : (document : Document) (n : ℕ) (local found longer : List ℕ) (at : Option ℕ) (m : ℕ) (next : Option ℕ) → AreNumbered 0 document.nodes → at ≡ Some m
    → Next (tree_nodes document) n (has_plain_name local) found (attributes_named (tree_nodes document) local n) at × All (λ k. k < length document.nodes) found
    → longer ≡ found ++ (if has_plain_name local (tree_node (tree_nodes document) m) then m ∷ [] else []) → next ≡ next_attribute (tree_nodes document) m
    → Next (tree_nodes document) n (has_plain_name local) longer (attributes_named (tree_nodes document) local n) next
    × All (λ k. k < length document.nodes) longer
goes_on document n local found longer at m next h is (walk, within) more step =
    let stands = subst (Next (tree_nodes document) n (has_plain_name local) found (attributes_named (tree_nodes document) local n)) is walk in
    let below : m < length document.nodes = omega (arith, stands.1, long document) in (
      attributes-go_on (tree_nodes document) n (has_plain_name local) found longer (attributes_named (tree_nodes document) local n) m next _
          (ordered document h) stands refl more step,
      subst (All (λ k. k < length document.nodes)) (sym more) (more-within (length document.nodes) m _ found below within),
    )

pub attributes-init : goal.attributes-init
attributes-init g c = begins c.args.doc.now c.args.n
    (chars c.args.local.now) _ _ c.is_of_a_tree.ensures.numbers c.new-found.ensures.items c.first_attribute-at.ensures.node

pub attributes-preserved : goal.attributes-preserved
attributes-preserved g c =
    goes_on c.args.doc.now c.args.n (chars c.args.local.now) _ _ c.attributes.at c.in-Some.m _ c.is_of_a_tree.ensures.numbers c.in-Some.is
    c.attributes.invariant c.in_ok-keep_named.ensures
    c.next_attribute-at.ensures.node
