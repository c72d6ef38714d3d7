-- Nodes behind nodes.
use Rattle.std.proofs.Common.{◌≡◌, ℕ, suc, ◌+◌, ◌<◌, ◌≤◌, List, [], ◌∷◌, length, drop, Option, Some, None, refl, sym, ap, subst, ◌∙◌, arith, option_map}
use Rattle.std.specs.Prelude.{SomeIff}
use Rattle.std.specs.Option.{ForSome, IfSome}
use Rattle.std.proofs.Math.ListN.{drop_of_length-le, get_or-map}
use Rattle.std.proofs.Math.Seq.{drop-cons}
use Rattle.inv_base.specs.Tree.{Node}
use Rattle.node_arena.specs.Document.{Placed, Document, document_node, node_at}
use Rattle.node_arena.specs.Moves.{tree_nodes, tree_node, node_of, parent, HasNodesOf, is_inside, is_between, last_inside}
use Rattle.node_arena.specs.Moves as moves
use Rattle.node_arena.specs.Walks.{LeadsOn}
use Rattle.xml_events.specs.Events.{name_at}
use Rattle.rule_library.specs.Turns.{from}
use Rattle.rule_library.specs.Walk.{nearest, element_name, parent_name}

pub from_node : (nodes : List Placed) (n : ℕ) → n < length nodes → drop n nodes ≡ node_at nodes n ∷ drop (n + 1) nodes
from_node nodes n h = let e : n + 1 ≡ suc n = omega arith in drop-cons nodes n document_node h ∙ ap (λ k. node_at nodes n ∷ drop k nodes) (sym e)

pub next_rest : (found : Option ℕ) (n : ℕ) (nodes : List Placed) → SomeIff found (n + 1 < length nodes) (n + 1) → from found nodes ≡ drop (n + 1) nodes
next_rest None n nodes h = let past : length nodes ≤ n + 1 = omega arith in sym (drop_of_length-le nodes past)
next_rest (Some m) n nodes h = ap (λ k. drop k nodes) h.1

pub next_within : (found : Option ℕ) (n : ℕ) (nodes : List Placed) → SomeIff found (n + 1 < length nodes) (n + 1) → ForSome found (λ m. m < length nodes)
next_within None n nodes h = λ m e. cc
next_within (Some k) n nodes h = λ m e. let same : k ≡ m = cc in omega (arith, h.0, h.1, same)

-- A node of the tree is inside the nodes that it is inside as it is placed.
pub tree_node-above : (document : Document) (n : ℕ) → (tree_node (tree_nodes document) n).above ≡ (node_at document.nodes n).above
tree_node-above document n = ap (λ (node : Node). node.above) (get_or-map (node_of document.names) document.nodes n document_node)

pub level-around : (document : Document) (n p : ℕ) → LeadsOn (tree_nodes document) n → parent (tree_nodes document) n ≡ Some p
    → length (node_at document.nodes n).above ≡ suc (length (node_at document.nodes p).above)
level-around document n p leads is = ap length (sym (tree_node-above document n) ∙ (leads.around p is ∙ ap (λ above. p ∷ above) (tree_node-above document p)))

pub level-low : (document : Document) (n : ℕ) → LeadsOn (tree_nodes document) n → length (node_at document.nodes n).above ≤ n
level-low document n leads = subst (λ above. length above ≤ n) (tree_node-above document n) leads.level

none_around : (above : List ℕ) → moves.nearest above ≡ None → above ≡ []
none_around [] h = refl
none_around (m ∷ above) h = cc

pub level-outermost : (document : Document) (n : ℕ) → parent (tree_nodes document) n ≡ None → length (node_at document.nodes n).above ≡ 0
level-outermost document n is = ap length (sym (tree_node-above document n) ∙ none_around (tree_node (tree_nodes document) n).above is)

nearest_some : (above : List ℕ) (p : ℕ) → moves.nearest above ≡ Some p → nearest above ≡ p
nearest_some [] p h = cc
nearest_some (m ∷ above) p h = cc

nearest_none : (above : List ℕ) → moves.nearest above ≡ None → nearest above ≡ 0
nearest_none [] h = refl
nearest_none (m ∷ above) h = cc

pub parent-some : (document : Document) (n p : ℕ) (name : Option ℕ) → parent (tree_nodes document) n ≡ Some p → name ≡ (node_at document.nodes p).name
    → option_map (name_at document.names) name ≡ parent_name document (node_at document.nodes n)
parent-some document n p name is e =
    ap (option_map (name_at document.names)) e
    ∙ ap (element_name document) (sym (ap nearest (sym (tree_node-above document n)) ∙ nearest_some (tree_node (tree_nodes document) n).above p is))

pub parent-none : (document : Document) (n : ℕ) (name : Option ℕ) → parent (tree_nodes document) n ≡ None → name ≡ (node_at document.nodes 0).name
    → option_map (name_at document.names) name ≡ parent_name document (node_at document.nodes n)
parent-none document n name is e =
    ap (option_map (name_at document.names)) e
    ∙ ap (element_name document) (sym (ap nearest (sym (tree_node-above document n)) ∙ nearest_none (tree_node (tree_nodes document) n).above is))

pub for_some : {T : Type 0} (o : Option T) (P : T → Type 0) → IfSome o P → ForSome o P
for_some None P h = λ x e. cc
for_some (Some y) P h = λ x e. let same : y ≡ x = cc in subst P same h
