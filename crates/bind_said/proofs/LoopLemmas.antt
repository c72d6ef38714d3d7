-- Loops through the nodes of a sort that mark.
use Rattle.std.proofs.Common.{◌≡◌, ℕ, ◌<◌, Bool, true, List, [], ◌∷◌, ◌++◌, length, Option, Some, None, refl, ap, sym, ◌∙◌, subst}
use Rattle.std.specs.List.{flat_map}
use Rattle.inv_base.specs.Tree.{Node}
use Rattle.node_arena.specs.Document.{Document}
use Rattle.node_arena.specs.Moves.{tree_nodes, tree_node}
use Rattle.bind_walk.specs.Chains.{numbers_of, numbers_from, IsAt, Leading}
use Rattle.bind_said.specs.Marks.{mark_all}
use Rattle.bind_said.proofs.MarkLemmas.{mark-more, marked-none}

-- It stands at a node of the sort; what was marked, and what is marked from there on, is what all are.
pub record Marking (is_so : Node → Bool) (d : Document) (f : ℕ → List ℕ) (old : List Bool) (at : Option ℕ) (new : List Bool) : Type 0 where
  pub here : IsAt is_so d at
  pub left : mark_all new (flat_map f (numbers_from is_so d at)) ≡ mark_all old (flat_map f (numbers_of is_so d))

module _ (is_so : Node → Bool) (d : Document) (f : ℕ → List ℕ) (old : List Bool) (first : Option ℕ) (next : ℕ → Option ℕ)
    (lead : Leading is_so d first next) where
  pub marking-begin : (at : Option ℕ) → at ≡ first → Marking is_so d f old at old
  marking-begin at e = record {
    here = subst (IsAt is_so d) (sym e) lead.starts;
    left = ap (λ o. mark_all old (flat_map f (numbers_from is_so d o))) e ∙ ap (λ ns. mark_all old (flat_map f ns)) lead.begins;
  }

  pub marking-step : (at : Option ℕ) (m : ℕ) (after : Option ℕ) (new newer : List Bool) → at ≡ Some m → Marking is_so d f old at new
      → newer ≡ mark_all new (f m) → after ≡ next m → Marking is_so d f old after newer
  marking-step at m after new newer is h e behind =
      let so : (m < length d.nodes) × (is_so (tree_node (tree_nodes d) m) ≡ true) = subst (IsAt is_so d) is h.here in
      record {
        here = subst (IsAt is_so d) (sym behind) (lead.stays m so.0 so.1);
        left = ap (λ o. mark_all newer (flat_map f (numbers_from is_so d o))) behind
            ∙ (ap (λ bs. mark_all bs (flat_map f (numbers_from is_so d (next m)))) e
            ∙ (mark-more new (f m) (flat_map f (numbers_from is_so d (next m)))
            ∙ (ap (λ ns. mark_all new (flat_map f ns)) (sym (lead.goes_on m so.0 so.1))
            ∙ (ap (λ o. mark_all new (flat_map f (numbers_from is_so d o))) (sym is) ∙ h.left))));
      }

pub marking-within : (is_so : Node → Bool) (d : Document) (f : ℕ → List ℕ) (old : List Bool) (at : Option ℕ) (m : ℕ) (new : List Bool) → at ≡ Some m
    → Marking is_so d f old at new → m < length d.nodes
marking-within is_so d f old at m new is h =
    let so : (m < length d.nodes) × (is_so (tree_node (tree_nodes d) m) ≡ true) = subst (IsAt is_so d) is h.here in so.0

pub marking-end : (is_so : Node → Bool) (d : Document) (f : ℕ → List ℕ) (old : List Bool) (at : Option ℕ) (new : List Bool) → at ≡ None
    → Marking is_so d f old at new → new ≡ mark_all old (flat_map f (numbers_of is_so d))
marking-end is_so d f old at new is h =
    marked-none new ∙ (ap (λ o. mark_all new (flat_map f (numbers_from is_so d o))) (sym is) ∙ h.left)
