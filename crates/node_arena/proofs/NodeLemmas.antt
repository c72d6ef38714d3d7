-- Lists of nodes.
use Rattle.std.proofs.Common.{◌≡◌, ℕ, zero, suc, ◌+◌, ◌<◌, List, [], ◌∷◌, ◌++◌, length, refl, ap, arith}
use Rattle.std.specs.Prelude.{Option, Some, None, IfSome}
use Rattle.std.specs.Option.{ForSome}
use Rattle.node_arena.specs.Document.{Placed, node_at, last_place, with_last_text, AreNamed}

pub with_last_text-push : (characters : List ℕ) (nodes : List Placed) (node : Placed)
    → with_last_text characters (nodes ++ node ∷ []) ≡ nodes ++ record node { text = node.text ++ characters } ∷ []
with_last_text-push characters [] node = refl
with_last_text-push characters (n ∷ []) node = refl
with_last_text-push characters (n ∷ (m ∷ nodes)) node = ap (λ x. n ∷ x) (with_last_text-push characters (m ∷ nodes) node)

-- The last node's place.
pub last_place-at : (nodes : List Placed) (k : ℕ) → k + 1 ≡ length nodes → last_place nodes ≡ (node_at nodes k).place
last_place-at [] k h = absurd (omega arith)
last_place-at (s ∷ []) zero h = refl
last_place-at (s ∷ []) (suc k) h = absurd (omega arith)
last_place-at (s ∷ (t ∷ nodes)) zero h = absurd (omega arith)
last_place-at (s ∷ (t ∷ nodes)) (suc k) h = last_place-at (t ∷ nodes) k (omega arith)

some_for : (o : Option ℕ) (P : ℕ → Type 0) → ForSome o P → IfSome o P
some_for None P h = tt
some_for (Some x) P h = h x refl

-- The names of nodes are in the table.
pub named_at : (nodes : List Placed) (count n : ℕ) → AreNamed count nodes → n < length nodes → IfSome (node_at nodes n).name (λ name. name < count)
named_at [] count n h within = absurd (omega arith)
named_at (node ∷ nodes) count zero h within = some_for node.name (λ name. name < count) h.0
named_at (node ∷ nodes) count (suc n) h within = named_at nodes count n h.1 (omega arith)
