-- How large the amounts of the generated invoice are, and their sum step by step.
use Rattle.std.proofs.Common.{◌≡◌, ℕ, zero, suc, ◌+◌, ◌*◌, ◌≤◌, [], ◌∷◌, ◌++◌, refl, sym, ap, ◌∙◌, arith, add-zero}
use Rattle.std.specs.Prelude.{sum_by}
use Rattle.std.specs.List.{range_with_len}
use Rattle.std.proofs.Math.Nat.{mul-le-mul_left, mul-le-mul_right}
use Rattle.std.proofs.lemmas.List.Sums.{sum_by-append}
use Rattle.trial_invoice.specs.Amounts.{quantity, price, net, sum_of_nets}

pub quantity-le : (i : ℕ) → quantity i ≤ 9
quantity-le i = omega arith

pub price-le : (i : ℕ) → price i ≤ 1000
price-le i = omega arith

product-le : (a b m n : ℕ) → a ≤ m → b ≤ n → a * b ≤ m * n
product-le a b m n h k = omega (arith, mul-le-mul_right b h, mul-le-mul_left m k)

pub net-le : (i : ℕ) → net i ≤ 9000
unfolding net
net-le i = product-le (quantity i) (price i) 9 1000 (quantity-le i) (price-le i)

-- one number more
pub range-more : (a n : ℕ) → range_with_len a (suc n) ≡ range_with_len a n ++ (a + n) ∷ []
range-more a zero = ap (λ m. m ∷ []) (sym (add-zero a))
range-more a (suc n) = ap (λ t. a ∷ t) (range-more (a + 1) n ∙ ap (λ m. range_with_len (a + 1) n ++ m ∷ []) (omega arith))

pub sum-more : (n : ℕ) → sum_of_nets (suc n) ≡ sum_of_nets n + net (suc n)
unfolding sum_of_nets
sum-more n = ap (sum_by net) (range-more 1 n) ∙ (sum_by-append net (range_with_len 1 n) ((1 + n) ∷ []) ∙
    (let number : net (1 + n) ≡ net (suc n) = ap net (omega arith) in omega arith))

pub sum-le : (n : ℕ) → sum_of_nets n ≤ 9000 * n
unfolding sum_of_nets
sum-le zero = omega arith
sum-le (suc n) = omega (arith, sum-more n, sum-le n, net-le (suc n))

pub sum-next : (n : ℕ) → sum_of_nets (n + 1) ≡ sum_of_nets n + net (n + 1)
sum-next n = let number : n + 1 ≡ suc n = omega arith in rw number (sum-more n)

pub sum-none : sum_of_nets 0 ≡ 0
unfolding sum_of_nets
sum-none = refl
