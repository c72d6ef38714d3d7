-- The steps of a location.
use Rattle.std.proofs.Common.{◌≡◌, ℕ, ◌<◌, List, [], ◌∷◌, ◌++◌, length, get_or, true, Option, option_map, ap, sym, ◌∙◌, append-nil}
use Rattle.inv_base.specs.declared.tree.Kind.{Kind}
use Rattle.inv_base.specs.declared.tree.Kind.TheVariants as kinds
use Rattle.inv_base.specs.Tree.{Node}
use Rattle.std.proofs.lemmas.List.{get_or-map}
use Rattle.xml_events.specs.Events.{name_at}
use Rattle.node_arena.specs.Document.{Document, node_at, document_node}
use Rattle.node_arena.specs.Moves.{node_of, tree_nodes, tree_node}
use Rattle.node_locations.specs.Locations.{AreOrdinals, is_counted, optional_name_test, bracketed, step_of, step, path, ordinal}

-- one step more
pub path_more : (nodes : List Node) (n p : ℕ) → (tree_node nodes n).above ≡ p ∷ (tree_node nodes p).above
    → path nodes (p ∷ (tree_node nodes p).above) ++ step nodes n ≡ path nodes (n ∷ (tree_node nodes n).above)
path_more nodes n p is = ap (λ above. path nodes above ++ step nodes n) (sym is)

-- the document's own path
pub path_begin : (nodes : List Node) (n : ℕ) (s : List ℕ) → n ≡ 0 → (tree_node nodes 0).above ≡ [] → (tree_node nodes 0).kind ≡ kinds.Document
    → s ≡ s ++ path nodes (n ∷ (tree_node nodes n).above)
path_begin nodes n s e begins kind =
    sym (append-nil s)
    ∙ ap (λ x. s ++ x) (sym (ap (λ m. path nodes (m ∷ (tree_node nodes m).above)) e
    ∙ (ap (λ above. path nodes above ++ step nodes 0) begins ∙ ap (λ k. step_of k (tree_node nodes 0).name (ordinal nodes 0)) kind)))

-- a node of the document, and of its tree
module _ (document : Document) (n : ℕ) (within : n < length document.nodes) where
  node_is : tree_node (tree_nodes document) n ≡ node_of document.names (node_at document.nodes n)
  node_is = get_or-map (node_of document.names) document.nodes n document_node _ within

  pub kind_is : (kind : Kind) → (node_at document.nodes n).kind ≡ kind → (tree_node (tree_nodes document) n).kind ≡ kind
  kind_is kind e = ap (λ (node : Node). node.kind) node_is ∙ e

  pub test_is : (name : Option ℕ) → name ≡ (node_at document.nodes n).name
      → optional_name_test (option_map (name_at document.names) name) ≡ optional_name_test (tree_node (tree_nodes document) n).name
  test_is name e = ap (λ x. optional_name_test (option_map (name_at document.names) x)) e ∙ ap (λ (node : Node). optional_name_test node.name) (sym node_is)

  pub ordinal_is : (ordinals : List ℕ) (k : ℕ) (kind : Kind) → AreOrdinals document ordinals → k ≡ get_or ordinals n 0 → (node_at document.nodes n).kind ≡ kind
      → is_counted kind ≡ true → bracketed k ≡ bracketed (ordinal (tree_nodes document) n)
  ordinal_is ordinals k kind are e is counted = ap bracketed (e ∙ are.are n within (ap is_counted (kind_is kind is) ∙ counted))
