-- The value of digits, as far as a loop over them has come.
use Rattle.std.proofs.Common.{◌≡◌, ℕ, suc, ◌+◌, ◌*◌, ◌<◌, ◌≤◌, Bool, true, false, cond, ltb, List, [], ◌∷◌, Some, None, replicate, ◌++◌, refl, sym, ap, ◌∙◌}
use Rattle.std.proofs.Common.{arith}
use Rattle.xpath_tokens.specs.Tokens.{digit_of, value_of, below_limit}

pub value-grows : (n : ℕ) (digits : List ℕ) → n ≤ value_of n digits
value-grows n [] = omega arith
value-grows n (c ∷ digits) = let h : n * 10 + digit_of c ≤ value_of (n * 10 + digit_of c) digits = value-grows (n * 10 + digit_of c) digits in
    grows n (digit_of c) _ h where
      grows : (n d v : ℕ) → n * 10 + d ≤ v → n ≤ v
      grows n d v h = omega arith

pub below-none : (n : ℕ) → 1000000000000000000 ≤ n → below_limit n ≡ None
below-none n h = let e : ltb n 1000000000000000000 ≡ false = search arith in ap (λ b. cond b (Some n) None) e

pub below-some : (n : ℕ) → n < 1000000000000000000 → below_limit n ≡ Some n
below-some n h = let e : ltb n 1000000000000000000 ≡ true = search arith in ap (λ b. cond b (Some n) None) e

-- a value that has passed the limit stays there
pub passed : (n whole : ℕ) (digits : List ℕ) → value_of n digits ≡ whole → 1000000000000000000 ≤ n → None ≡ below_limit whole
passed n whole digits e h = let g : n ≤ value_of n digits = value-grows n digits in sym (below-none whole (omega arith))

pub value-zeros : (n k count whole : ℕ) → count ≡ suc k → value_of n (replicate count 48) ≡ whole → value_of (n * 10) (replicate k 48) ≡ whole
value-zeros n k count whole e f = let g : n * 10 ≡ n * 10 + 0 = omega arith in ap (λ m. value_of m (replicate k 48)) g ∙
    ap (λ z. value_of n (replicate z 48)) (sym e) ∙ f

pub value_of-append : (n : ℕ) (a b : List ℕ) → value_of n (a ++ b) ≡ value_of (value_of n a) b
value_of-append n [] b = refl
value_of-append n (c ∷ a) b = value_of-append (n * 10 + digit_of c) a b

-- the number below the limit that is one
pub below-is : (n m : ℕ) → Some m ≡ below_limit n → (n < 1000000000000000000) × (m ≡ n)
below-is n m e = by_cases (ltb n 1000000000000000000) refl e where
  less : ltb n 1000000000000000000 ≡ true → n < 1000000000000000000
  less f = search arith

  by_cases : (b : Bool) → ltb n 1000000000000000000 ≡ b → Some m ≡ cond b (Some n) None → (n < 1000000000000000000) × (m ≡ n)
  by_cases true f g = (less f, cc)
  by_cases false f g = cc

pub below-past : (n : ℕ) → None ≡ below_limit n → 1000000000000000000 ≤ n
below-past n e = by_cases (ltb n 1000000000000000000) refl e where
  more : ltb n 1000000000000000000 ≡ false → 1000000000000000000 ≤ n
  more f = search arith

  by_cases : (b : Bool) → ltb n 1000000000000000000 ≡ b → None ≡ cond b (Some n) None → 1000000000000000000 ≤ n
  by_cases true f g = cc
  by_cases false f g = more f
