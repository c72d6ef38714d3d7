-- Names that are looked up once.
use Rattle.std.proofs.Common.{◌≡◌, ℕ, ◌<◌, zero, suc, Bool, true, false, ◌&&◌, List, [], ◌∷◌, length, get_or, slice_get, Option, Some, None, option_map, Result}
use Rattle.std.proofs.Common.{Ok, Err, IfOk, refl, ap, sym, ◌∙◌}
use Rattle.inv_base.specs.Tree.{Node, Name}
use Rattle.xml_events.specs.Names.{find_name}
use Rattle.node_arena.specs.Document.{Document, document_node, node_at}
use Rattle.node_arena.specs.Moves.{has_name, tree_node, tree_nodes, node_of}
use Rattle.inv_base.specs.declared.tree.Kind.{Kind}
use Rattle.std.proofs.lemmas.List.{get_or-map}
use Rattle.xpath_grammar.specs.declared.step.Axis.{Axis}
use Rattle.xpath_meaning.specs.Axes.{is_principal}
use Rattle.xpath_plan.specs.declared.plan_node.StepTest.TheVariants as t
use Rattle.xpath_plan.specs.Plans.{test_seen}
use Rattle.xpath_walks.specs.Tests.{numbers_of, is_passed}

some_name : (x y : List ℕ) → ◌≡◌ {A = Option (List ℕ)} (Some x) (Some y) → x ≡ y
some_name x y e = cc

pub number-at : (names table : List Name) (k : ℕ) (uri local : List ℕ)
    → Some uri ≡ option_map (λ (name : Name). name.uri) (slice_get names k) → Some local ≡ option_map (λ (name : Name). name.local) (slice_get names k)
    → find_name (record { uri = uri; local = local }) table ≡ get_or (numbers_of table names) k None
number-at [] table k uri local u l = cc
number-at (name ∷ names) table zero uri local u l =
    ap (λ (x : List ℕ). find_name (record { uri = x; local = local }) table) (some_name uri name.uri u)
    ∙ ap (λ (x : List ℕ). find_name (record { uri = name.uri; local = x }) table) (some_name local name.local l)
number-at (name ∷ names) table (suc k) uri local u l = number-at names table k uri local u l

pub no_number : (names table : List Name) (k : ℕ) (f : Name → List ℕ) → None ≡ option_map f (slice_get names k) → None ≡ get_or (numbers_of table names) k None
no_number [] table k f e = refl
no_number (name ∷ names) table zero f e = cc
no_number (name ∷ names) table (suc k) f e = no_number names table k f e

pub named-passes : (names table : List Name) (k : ℕ) (axis : Axis) (node : Node) (b : Bool) (number : Option ℕ)
    → number ≡ get_or (numbers_of table names) k None
    → ((name : Name) → number ≡ find_name name table → b ≡ has_name name node)
    → (number ≡ None → b ≡ false)
    → is_principal axis node.kind ≡ true
    → b ≡ is_passed axis (test_seen names (t.Named k)) node
named-passes [] table k axis node b number e f n p = n e
named-passes (name ∷ names) table zero axis node b number e f n p = f name e ∙ ap (λ x. x && has_name name node) (sym p)
named-passes (name ∷ names) table (suc k) axis node b number e f n p = named-passes names table k axis node b number e f n p

pub named-not : (names : List Name) (k : ℕ) (axis : Axis) (node : Node)
    → is_principal axis node.kind ≡ false
    → false ≡ is_passed axis (test_seen names (t.Named k)) node
named-not [] k axis node p = refl
named-not (name ∷ names) zero axis node p = ap (λ x. x && has_name name node) (sym p)
named-not (name ∷ names) (suc k) axis node p = named-not names k axis node p

pub ok_then : {X E : Type 0} {P Q : X → Type 0} (r : Result X E) → IfOk r P → ((x : X) → P x → Q x) → IfOk r Q
ok_then (Ok x) p f = f x p
ok_then (Err e) p f = tt

pub at-node : (document : Document) (n : ℕ) → n < length document.nodes → tree_node (tree_nodes document) n ≡ node_of document.names (node_at document.nodes n)
at-node document n within = get_or-map (node_of document.names) document.nodes n document_node _ within

pub kind-at : (document : Document) (n : ℕ) (kind : Kind) → n < length document.nodes → kind ≡ (node_at document.nodes n).kind
    → kind ≡ (tree_node (tree_nodes document) n).kind
kind-at document n kind within is = is ∙ ap (λ (node : Node). node.kind) (sym (at-node document n within))

pub numbered-passes : (names table : List Name) (k : ℕ) (axis : Axis) (node : Node) (b p : Bool) (number : Option ℕ)
    → number ≡ get_or (numbers_of table names) k None
    → ((name : Name) → number ≡ find_name name table → b ≡ has_name name node)
    → (number ≡ None → b ≡ false)
    → is_principal axis node.kind ≡ p
    → (b && p) ≡ is_passed axis (test_seen names (t.Named k)) node
numbered-passes names table k axis node true true number e f n p = named-passes names table k axis node true number e f n p
numbered-passes names table k axis node false true number e f n p = named-passes names table k axis node false number e f n p
numbered-passes names table k axis node true false number e f n p = named-not names k axis node p
numbered-passes names table k axis node false false number e f n p = named-not names k axis node p
