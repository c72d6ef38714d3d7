-- A name that was found beside the name of a node, by their numbers.
use Rattle.std.proofs.Common.{◌≡◌, ℕ, Bool, false, Option, Some, None, refl, ap}
use Rattle.std.specs.Prelude.{◌==◌}
use Rattle.node_arena.specs.Document.{Document, node_at}
use Rattle.node_arena.specs.Moves.{has_found}
use Rattle.bind_walk.specs.Found.{is_same_number}

-- of a node whose name has the number
pub number-says : (d : Document) (found : Option ℕ) (name m : ℕ) → (node_at d.nodes m).name ≡ Some name
    → has_found found (node_at d.nodes m) ≡ is_same_number found name
number-says d None name m e = refl
number-says d (Some own) name m e = ap (λ n. elim n as (λ _. Bool) [ None ↦ false | Some k ↦ k == own ]) e

-- of a node without a name
pub none-found : (d : Document) (found : Option ℕ) (m : ℕ) → (node_at d.nodes m).name ≡ None → has_found found (node_at d.nodes m) ≡ false
none-found d None m e = refl
none-found d (Some own) m e = ap (λ n. elim n as (λ _. Bool) [ None ↦ false | Some k ↦ k == own ]) e
