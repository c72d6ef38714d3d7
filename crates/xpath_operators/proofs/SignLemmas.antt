-- A row of signs turns the sign of a number, or doesn't.
use Rattle.std.proofs.Common.{◌≡◌, zero, suc, ℤ, pos, negsuc, neg_ℤ, Bool, true, false, List, [], ◌∷◌, refl, sym, ap, ◌∙◌}
use Rattle.std.specs.Prelude.{not}
use Rattle.xpath_tokens.specs.declared.token.Operator.{Operator}
use Rattle.xpath_tokens.specs.declared.token.Operator.TheVariants as o
use Rattle.xpath_meaning.specs.Numbers.{with_signs}
use Rattle.xpath_operators.specs.Calculations.{turned}

neg-neg : (z : ℤ) → neg_ℤ (neg_ℤ z) ≡ z
neg-neg (pos zero) = refl
neg-neg (pos (suc n)) = refl
neg-neg (negsuc n) = refl

-- the number, with its sign turned or not
abbrev if_turned : Bool → ℤ → ℤ
if_turned true z = neg_ℤ z
if_turned false z = z

turned_more : (b : Bool) (z : ℤ) → if_turned (not b) z ≡ if_turned b (neg_ℤ z)
turned_more true z = sym (neg-neg z)
turned_more false z = refl

signs_turn : (signs : List Operator) (b : Bool) (z : ℤ) → if_turned (turned b signs) z ≡ if_turned b (with_signs signs z)
signs_turn [] b z = refl
signs_turn (o.Minus ∷ signs) b z = signs_turn signs (not b) z ∙ turned_more b (with_signs signs z)
signs_turn (_ ∷ signs) b z = signs_turn signs b z

pub signs_turned : (signs : List Operator) (z : ℤ) → true ≡ turned false signs → neg_ℤ z ≡ with_signs signs z
signs_turned signs z e = ap (λ b. if_turned b z) e ∙ signs_turn signs false z

pub signs_kept : (signs : List Operator) (z : ℤ) → false ≡ turned false signs → z ≡ with_signs signs z
signs_kept signs z e = ap (λ b. if_turned b z) e ∙ signs_turn signs false z
