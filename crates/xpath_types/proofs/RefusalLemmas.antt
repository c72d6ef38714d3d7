-- The first of refusals in parts of a list.
use Rattle.std.proofs.Common.{◌≡◌, ℕ, not, ◌||◌, List, [], ◌∷◌, ◌++◌, Option, refl, ap, ◌∙◌}
use Rattle.std.proofs.lemmas.List.{map-append}
use Rattle.xpath_types.specs.declared.fault.TypeKind.{TypeKind}
use Rattle.xpath_types.specs.declared.refusals.Refusal.{Refusal}
use Rattle.xpath_types.specs.Refusals.{earlier, first_of}
use Rattle.xpath_types.specs.Judging.{is_empty, standing_at}

pub first-append : (first : Option Refusal) (a b : List Refusal) → first_of first (a ++ b) ≡ first_of (first_of first a) b
first-append first [] b = refl
first-append first (refusal ∷ a) b = first-append (earlier first refusal) a b

pub first-standing : (first : Option Refusal) (token : ℕ) (a b : List TypeKind) →
    first_of first (standing_at token (a ++ b)) ≡ first_of (first_of first (standing_at token a)) (standing_at token b)
first-standing first token a b = ap (first_of first) (map-append _ a b) ∙ first-append first (standing_at token a) (standing_at token b)

pub not-empty-append : {X : Type 0} (a b : List X) → not (is_empty (a ++ b)) ≡ (not (is_empty a) || not (is_empty b))
not-empty-append [] b = refl
not-empty-append (x ∷ a) b = refl

-- kinds are refused exactly where refusals of them are
pub still-empty : (token : ℕ) (kinds : List TypeKind) → not (is_empty kinds) ≡ not (is_empty (standing_at token kinds))
still-empty token [] = refl
still-empty token (kind ∷ kinds) = refl
