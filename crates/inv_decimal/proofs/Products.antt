-- Products and quotients by parts.
use Rattle.std.proofs.Common.{◌≡◌, refl, ◌-◌, ℕ, ◌+◌, ◌*◌, ◌/◌, ◌%◌, ◌^◌, ◌<◌, ◌≤◌, sym, ◌∙◌, ap, add-one, inl, inr, arith}
use Rattle.std.proofs.Math.Nat.{mod-eq-sub-div-mul, mul-add-div_right, pow-zero, pow-suc, pow-le-pow_right, one-le-pow}
use Rattle.std.proofs.lemmas.Bool.{cases_lt}
use Rattle.std.proofs.lemmas.Nat.{div-add-mod', div_below, mod_below, mul-le, div-mul-add, row_fits}

expanded : (i r j s u : ℕ) → (i * u + r) * (j * u + s) ≡ (i * j * u + i * s + r * j) * u + r * s
expanded i r j s u = omega arith

-- a product by the whole parts and the rests of its factors
pub product_by_parts : (a b u : ℕ) → 0 < u → a * b / u ≡ a / u * (b / u) * u + a / u * (b % u) + a % u * (b / u) + a % u * (b % u) / u
product_by_parts a b u p =
    let split : a * b ≡ (a / u * (b / u) * u + a / u * (b % u) + a % u * (b / u)) * u + a % u * (b % u) =
    ap (λ x. x * b) (sym (div-add-mod' a u)) ∙ ap (λ y. (a / u * u + a % u) * y) (sym (div-add-mod' b u)) ∙ expanded (a / u) (a % u) (b / u) (b % u) u in
    ap (λ x. x / u) split ∙ mul-add-div_right p _ _

-- the same, where the parts have names
pub product_of_parts : (a b u i r j s : ℕ) → 0 < u → i ≡ a / u → r ≡ a % u → j ≡ b / u → s ≡ b % u → a * b / u ≡ i * j * u + i * s + r * j + r * s / u
product_of_parts a b u i r j s p ei er ej es =
    let parts = product_by_parts a b u p in
    cc

-- where the product of the whole parts is large, the product is
pub product_is_large : (a b u i j : ℕ) → 0 < u → i ≡ a / u → j ≡ b / u → u ≤ i * j → u * u ≤ a * b / u
product_is_large a b u i j p ei ej h =
    let e = product_of_parts a b u i (a % u) j (b % u) p ei refl ej refl in
    let m : u * u ≤ i * j * u = mul-le u u (i * j) u h (omega arith) in
    omega arith

shifted : (q b r u : ℕ) → (q * b + r) * u ≡ (q * u) * b + r * u
shifted q b r u = omega arith

-- a quotient by its whole part and the rest
pub quotient_by_parts : (a b u : ℕ) → 0 < b → a * u / b ≡ a / b * u + a % b * u / b
quotient_by_parts a b u p =
    let split : a * u ≡ (a / b * u) * b + a % b * u =
    ap (λ x. x * u) (sym (div-add-mod' a b)) ∙ shifted (a / b) b (a % b) u in
    ap (λ x. x / b) split ∙ mul-add-div_right p _ _

pub fraction_below : (r b u : ℕ) → r < b → 0 < u → r * u / b < u
fraction_below r b u h p =
    div_below (r * u) b u (omega arith) (omega (arith, row_fits r u b u h (omega arith)))

-- one step of a long division
pub division_step : (q d r n s : ℕ) → 0 < d → q * d + r ≡ n → (q * s + r * s / d) * d + r * s % d ≡ n * s
division_step q d r n s p e =
    omega (arith, div-add-mod' (r * s) d, ap (λ x. x * s) e)

long_step : (q d l r s i : ℕ) → 0 < d → q * d + l ≡ r * s ^ i → (q * s + l * s / d) * d + l * s % d ≡ r * s ^ (i + 1)
long_step q d l r s i p e =
    let next : (q * s + l * s / d) * d + l * s % d ≡ r * s ^ i * s = division_step q d l (r * s ^ i) s p e in
    let power : s ^ (i + 1) ≡ s ^ i * s = rw add-one (pow-suc s i) in
    omega (arith, next, ap (λ x. r * x) power)

quotient_below : (q d l r p : ℕ) → q * d + l ≡ r * p → r < d → 0 < p → q < p
quotient_below q d l r p e h pos =
    elim (cases_lt q p) as (λ _. q < p) [
      | inl less ↦ less
      | inr more ↦ absurd (omega (arith, mul-le p d q d more (omega arith), row_fits r p d p h (omega arith)))
    ]

-- after i steps of a long division, of which there are t, the quotient and what is left of r
pub record LongDivision (q d l r s i : ℕ) : Type 0 where
  pub whole : q * d + l ≡ r * s ^ i
  pub rest : l < d

pub long_division_init : (d r s : ℕ) → r < d → LongDivision 0 d r r s 0
long_division_init d r s h = record {
  whole = omega (arith, ap (λ x. r * x) (pow-zero s));
  rest = h;
}

pub long_division_more : (q d l r s i : ℕ) → LongDivision q d l r s i → LongDivision (q * s + l * s / d) d (l * s % d) r s (i + 1)
long_division_more q d l r s i h = record {
  whole = long_step q d l r s i (omega arith) h.whole;
  rest = mod_below (l * s) d (omega arith);
}

-- the next quotient fits
pub long_division_fits : (q d l r s i t : ℕ) → LongDivision q d l r s i → r < d → 0 < s → i < t → s ^ t ≤ 10 ^ 18 → q * s + l * s / d < 10 ^ 18
long_division_fits q d l r s i t h low p more top =
    let next = long_division_more q d l r s i h in
    let grows : s ^ (i + 1) ≤ s ^ t = pow-le-pow_right p (omega arith) in
    let below : q * s + l * s / d < s ^ (i + 1) =
    quotient_below _ d _ r (s ^ (i + 1)) next.whole low (one-le-pow (i + 1) s p) in
    omega arith

pub long_division_end : (q d l r s t : ℕ) → LongDivision q d l r s t → q ≡ r * s ^ t / d
long_division_end q d l r s t h =
    sym (ap (λ x. x / d) (sym h.whole) ∙ div-mul-add q d l h.rest)

-- what is left times the step fits
pub left_fits : (l d s : ℕ) → l < d → l * s ≤ d * s
left_fits l d s h = mul-le l s d s (omega arith) (omega arith)

-- what a quotient leaves, by subtraction
pub rest_is : (a b : ℕ) → a - a / b * b ≡ a % b
rest_is a b = sym (mod-eq-sub-div-mul a b)
