-- Lists of decimal digits.
use Rattle.std.proofs.Common.{◌≡◌, ℕ, zero, suc, ◌+◌, ◌-◌, ◌/◌, ◌%◌, ◌^◌, ◌<◌, ◌≤◌, ◌≢◌, List, [], ◌∷◌, ◌++◌, length, drop, set, reverse, refl, sym, ap, ◌∙◌}
use Rattle.std.proofs.Common.{arith}
use Rattle.std.proofs.Math.Nat.{div-div-eq-div-mul, div-one, pow-succ', pow-suc, pow-zero}
use Rattle.std.proofs.lemmas.List.{reverse-append, reverse-reverse, drop-set, drop_all}
use Rattle.std.proofs.lemmas.Bool.Decides.{nat_tests}
use Rattle.inv_decimal.specs.Digits.{last_digits, without_leading_zeros, without_trailing_zeros}

pub last_digits-zero : (n : ℕ) → last_digits 0 n ≡ []
unfolding last_digits
last_digits-zero n = refl

pub last_digits-suc : (k n : ℕ) → last_digits (suc k) n ≡ (48 + n / 10 ^ k % 10) ∷ last_digits k n
unfolding last_digits
last_digits-suc k n = refl

pub length-last_digits : (k n : ℕ) → length (last_digits k n) ≡ k
length-last_digits zero n = ap length (last_digits-zero n)
length-last_digits (suc k) n = ap length (last_digits-suc k n) ∙ ap suc (length-last_digits k n)

shifted : (k n : ℕ) → n / 10 ^ suc k ≡ n / 10 / 10 ^ k
shifted k n = ap (λ x. n / x) (pow-succ' 10 k) ∙ sym (div-div-eq-div-mul n 10 (10 ^ k))

-- the digits before the last one are those of a tenth
pub last_digits-push : (k n : ℕ) → last_digits (suc k) n ≡ last_digits k (n / 10) ++ (48 + n % 10) ∷ []
last_digits-push zero n =
    last_digits-suc 0 n ∙ ap (λ x. (48 + n / x % 10) ∷ last_digits 0 n) (pow-zero 10) ∙ ap (λ x. (48 + x % 10) ∷ last_digits 0 n) (div-one n) ∙
    ap (λ ds. (48 + n % 10) ∷ ds) (last_digits-zero n) ∙ ap (λ ds. ds ++ (48 + n % 10) ∷ []) (sym (last_digits-zero (n / 10)))
last_digits-push (suc k) n =
    last_digits-suc (suc k) n ∙ ap (λ x. (48 + x % 10) ∷ last_digits (suc k) n) (shifted k n) ∙
    ap (λ ds. (48 + n / 10 / 10 ^ k % 10) ∷ ds) (last_digits-push k n) ∙ ap (λ ds. ds ++ (48 + n % 10) ∷ []) (sym (last_digits-suc k (n / 10)))

-- the last digits of v from place i on are written, and r is what they leave of it
pub record HasDigits (out : List ℕ) (i n v r : ℕ) : Type 0 where
  pub written : drop i out ≡ last_digits (n - i) v
  pub rest : r ≡ v / 10 ^ (n - i)

pub digits_none : (out : List ℕ) (n v : ℕ) → length out ≡ n → HasDigits out n n v v
digits_none out n v e =
    let none : n - n ≡ 0 = omega arith in
    record {
      written = drop_all n out (omega arith) ∙ sym (last_digits-zero v) ∙ ap (λ k. last_digits k v) (sym none);
      rest = sym (ap (λ k. v / 10 ^ k) none ∙ ap (λ x. v / x) (pow-zero 10) ∙ div-one v);
    }

pub digits_more : (out : List ℕ) (i n v r : ℕ) → HasDigits out i n v r → 0 < i → i ≤ n → length out ≡ n →
    HasDigits (set out (i - 1) (48 + r % 10)) (i - 1) n v (r / 10)
digits_more out i n v r h p le len =
    let one_more : n - (i - 1) ≡ suc (n - i) = omega arith in
    let behind : i - 1 + 1 ≡ i = omega arith in
    record {
      written = drop-set out (i - 1) (48 + r % 10) (omega arith) ∙ ap (λ j. (48 + r % 10) ∷ drop j out) behind ∙ ap (λ ds. (48 + r % 10) ∷ ds) h.written ∙
          ap (λ x. (48 + x % 10) ∷ last_digits (n - i) v) h.rest ∙ sym (last_digits-suc (n - i) v) ∙ ap (λ k. last_digits k v) (sym one_more);
      rest = ap (λ x. x / 10) h.rest ∙ div-div-eq-div-mul v (10 ^ (n - i)) 10 ∙ ap (λ x. v / x) (sym (pow-suc 10 (n - i))) ∙
          ap (λ k. v / 10 ^ k) (sym one_more);
    }

pub digits_all : (out : List ℕ) (i n v r : ℕ) → HasDigits out i n v r → i ≤ 0 → out ≡ last_digits n v
digits_all out zero n v r h p = h.written ∙ ap (λ k. last_digits k v) (let e : n - 0 ≡ n = omega arith in e)
digits_all out (suc i) n v r h p = absurd (omega arith)

-- a zero at the end goes, and another digit keeps all before it
pub without_trailing_zeros-zero : (ds : List ℕ) → without_trailing_zeros (ds ++ 48 ∷ []) ≡ without_trailing_zeros ds
unfolding without_trailing_zeros
without_trailing_zeros-zero ds = ap (λ x. reverse (without_leading_zeros x)) (reverse-append ds (48 ∷ []))

kept : (ds : List ℕ) (c : ℕ) → c ≢ 48 → without_leading_zeros (c ∷ ds) ≡ c ∷ ds
kept ds c h = grind (arith, nat_tests)

pub without_trailing_zeros-other : (ds : List ℕ) (c : ℕ) → c ≢ 48 → without_trailing_zeros (ds ++ c ∷ []) ≡ ds ++ c ∷ []
unfolding without_trailing_zeros
without_trailing_zeros-other ds c h =
    ap (λ x. reverse (without_leading_zeros x)) (reverse-append ds (c ∷ [])) ∙ ap reverse (kept (reverse ds) c h) ∙ reverse-append (c ∷ []) (reverse ds) ∙
    ap (λ x. x ++ c ∷ []) (reverse-reverse ds)

-- without the zeros at their end, the digits of f are those of r
pub record SameDigits (f digits r : ℕ) : Type 0 where
  pub at_most : digits ≤ 18
  pub same : without_trailing_zeros (last_digits 18 f) ≡ without_trailing_zeros (last_digits digits r)

pub same_digits_more : (f digits r : ℕ) → SameDigits f digits r → 0 < digits → r % 10 ≡ 0 → SameDigits f (digits - 1) (r / 10)
same_digits_more f zero r h p e = absurd (omega arith)
same_digits_more f (suc k) r h p e =
    let less : suc k - 1 ≡ k = omega arith in
    record {
      at_most = omega (arith, h.at_most);
      same = h.same ∙ ap without_trailing_zeros (last_digits-push k r ∙ ap (λ d. last_digits k (r / 10) ++ (48 + d) ∷ []) e) ∙
          without_trailing_zeros-zero (last_digits k (r / 10)) ∙ ap (λ j. without_trailing_zeros (last_digits j (r / 10))) (sym less);
    }

pub same_digits_none : (f digits r : ℕ) → SameDigits f digits r → digits ≤ 0 → last_digits digits r ≡ without_trailing_zeros (last_digits 18 f)
unfolding last_digits without_trailing_zeros
same_digits_none f zero r h p = sym h.same
same_digits_none f (suc k) r h p = absurd (omega arith)

pub same_digits_end : (f digits r : ℕ) → SameDigits f digits r → (r % 10 ≡ 0 → ⊥) → last_digits digits r ≡ without_trailing_zeros (last_digits 18 f)
same_digits_end f zero r h other = same_digits_none f 0 r h (omega arith)
same_digits_end f (suc k) r h other =
    let apart : 48 + r % 10 ≢ 48 = λ e. other (omega arith) in
    last_digits-push k r ∙ sym (without_trailing_zeros-other (last_digits k (r / 10)) (48 + r % 10) apart) ∙
    ap without_trailing_zeros (sym (last_digits-push k r)) ∙ sym h.same
