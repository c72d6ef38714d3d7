-- Lists of which each two members stand in a relation, and picks put in the order of the document.
use Rattle.std.proofs.Common.{◌≡◌, ◌<◌, List, [], ◌∷◌, map, filter, ◌⊎◌, inl, inr, refl, sym, ap, ◌∙◌, subst, arith}
use Rattle.std.specs.Prelude.{◌==◌}
use Rattle.std.proofs.lemmas.Bool.Decides.{nat_tests}
use Rattle.inv_base.specs.Tree.{Node}
use Rattle.bind_meaning.specs.Picks.{Pick}
use Rattle.bind_meaning.specs.Terms.{in_order}
use Rattle.binding_laws.proofs.TreeLemmas.{Each}
use Rattle.binding_laws.proofs.ContextLemmas.{Rising, rising-filter, rising-flat_map, all-each}
use Rattle.binding_laws.proofs.ReachLemmas.{Among}
use Rattle.binding_laws.proofs.CountLemmas.{Below, each-among}
use Rattle.binding_laws.proofs.PlaceLemmas.{of-filter-any}
use Rattle.binding_laws.proofs.SeatingLemmas.{each-from, rising-from}

-- what holds of each two members
pub rising-all : {X : Type 0} (R : X → X → Type 0) (xs : List X) → ((a b : X) → Among a xs → Among b xs → R a b) → Rising R xs
rising-all R [] f = tt
rising-all R (x ∷ xs) f = (each-from (R x) xs (λ y a. f x y (inl refl) (inr a)), rising-all R xs (λ a b m n. f a b (inr m) (inr n)))

-- of two members one is before the other, unless they are one
pub pair-of : {X : Type 0} (R : X → X → Type 0) (xs : List X) → Rising R xs → (a b : X) → Among a xs → Among b xs → (a ≡ b) ⊎ (R a b ⊎ R b a)
pair-of R [] h a b x y = absurd x
pair-of R (z ∷ xs) h a b (inl s) (inl t) = inl (sym s ∙ t)
pair-of R (z ∷ xs) h a b (inl s) (inr m) = inr (inl (subst (λ w. R w b) s (each-among (R z) b xs h.0 m)))
pair-of R (z ∷ xs) h a b (inr m) (inl t) = inr (inr (subst (λ w. R w a) t (each-among (R z) a xs h.0 m)))
pair-of R (z ∷ xs) h a b (inr m) (inr n) = pair-of R xs h.1 a b m n

-- a relation of picks that goes both ways, over the picks in the order of the nodes
module _ (S : Pick → Pick → Type 0) (turn : (a b : Pick) → S a b → S b a) (nodes : List Node) (picks : List Pick) (h : Rising S picks) where
  abbrev IsFrom : Node → Pick → Type 0
  IsFrom node pick = (pick.node ≡ node.number) × Among pick picks

  abbrev at_node : Node → List Pick
  at_node node = filter (λ (pick : Pick). pick.node == node.number) picks

  of-node : (node : Node) (pick : Pick) → Among pick (at_node node) → IsFrom node pick
  of-node node pick a =
      let w = of-filter-any (λ (x : Pick). x.node == node.number) pick picks a in
      let k = w.1 in
      ((let z : pick.node ≡ node.number = grind (arith, nat_tests, k) in z), w.0)

  by-pair : (a b : Node) (x y : Pick) → a.number < b.number → x.node ≡ a.number → y.node ≡ b.number → (x ≡ y) ⊎ (S x y ⊎ S y x) → S x y
  by-pair a b x y l p q (inl s) = let same : x.node ≡ y.node = ap (λ (z : Pick). z.node) s in absurd (omega (arith, l, p, q, same))
  by-pair a b x y l p q (inr (inl r)) = r
  by-pair a b x y l p q (inr (inr r)) = turn y x r

  pub in-order-rising : Rising Below (map (λ (node : Node). node.number) nodes) → Rising S (in_order nodes picks)
  in-order-rising apart =
      rising-flat_map (λ (a : Node) (b : Node). a.number < b.number) S IsFrom at_node
      (λ a b x y l p q. by-pair a b x y l p.0 q.0 (pair-of S picks h x y p.1 q.1)) nodes
      (rising-from Below (λ (node : Node). node.number) nodes apart)
      (all-each (λ (node : Node). Rising S (at_node node) × Each (IsFrom node) (at_node node)) nodes
      (λ (node : Node). (rising-filter S (λ (pick : Pick). pick.node == node.number) picks h, each-from (IsFrom node) (at_node node) (of-node node))))
