-- The written forms of a day, piece by piece.
use Rattle.std.proofs.Common.{◌≡◌, ℕ, ◌≤◌, List, [], ◌∷◌, ◌++◌, length, drop, set, ap, ◌∙◌, arith, append_assoc, length-append, length-drop}
use Rattle.std.proofs.lemmas.List.{drop_all, append-nil}
use borrow.Rule.Slice.PartMut.{put_mid, mid_of, post_of}
use Rattle.inv_decimal.specs.Digits.{last_digits}
use Rattle.inv_decimal.specs.WrittenDay.{plain_day_text, dashed_day_text}
use Rattle.inv_decimal.proofs.DigitLists.{length-last_digits}
use Rattle.inv_decimal.proofs.Overwritten.{slice_behind, byte_behind, digits_at}

length_behind : (old front : List ℕ) (n : ℕ) → length front ≡ n → n ≤ length old → length (front ++ drop n old) ≡ length old
length_behind old front n e h =
    omega (arith, length-append front (drop n old), length-drop n old)

has_digits : (ys : List ℕ) (k v : ℕ) → ys ≡ last_digits k v → length ys ≡ k
has_digits ys k v e = ap length e ∙ length-last_digits k v

pub plain_written : (buf y m d : List ℕ) (year month day : ℕ) → length buf ≡ 8 → y ≡ last_digits (length (mid_of 0 4 buf)) year →
    m ≡ last_digits (length (mid_of 4 2 (y ++ post_of 0 4 buf))) month → d ≡ last_digits (length (mid_of 6 2 (put_mid 4 2 (y ++ post_of 0 4 buf) m))) day →
    put_mid 6 2 (put_mid 4 2 (y ++ post_of 0 4 buf) m) d ≡ plain_day_text (record { year = year; month = month; day = day })
unfolding plain_day_text
plain_written buf y m d year month day len ey em ed =
    let y4 = digits_at buf y 0 4 year (omega arith) ey in
    let ly : length y ≡ 4 = has_digits y 4 year y4 in
    let l0 : length (y ++ drop 4 buf) ≡ length buf = length_behind buf y 4 ly (omega arith) in
    let m2 = digits_at (y ++ drop 4 buf) m 4 2 month (omega arith) em in
    let lm : length m ≡ 2 = has_digits m 2 month m2 in
    let s1 : put_mid 4 2 (y ++ drop 4 buf) m ≡ (y ++ m) ++ drop 6 buf = slice_behind buf y m 4 2 ly lm in
    let f1 : length (y ++ m) ≡ 6 = omega (arith, length-append y m) in
    let l1 : length (put_mid 4 2 (y ++ drop 4 buf) m) ≡ length buf = ap length s1 ∙ length_behind buf (y ++ m) 6 f1 (omega arith) in
    let d2 = digits_at (put_mid 4 2 (y ++ drop 4 buf) m) d 6 2 day (omega arith) ed in
    let ld : length d ≡ 2 = has_digits d 2 day d2 in
    ap (λ x. put_mid 6 2 x d) s1 ∙ slice_behind buf (y ++ m) d 6 2 f1 ld ∙ ap (λ x. ((y ++ m) ++ d) ++ x) (drop_all 8 buf (omega arith)) ∙
    append-nil ((y ++ m) ++ d) ∙ append_assoc y m d ∙ ap (λ x. x ++ (m ++ d)) y4 ∙ ap (λ x. last_digits 4 year ++ (x ++ d)) m2 ∙
    ap (λ x. last_digits 4 year ++ (last_digits 2 month ++ x)) d2

regroup : (y m d : List ℕ) → (((y ++ 45 ∷ []) ++ m) ++ 45 ∷ []) ++ d ≡ y ++ (45 ∷ (m ++ (45 ∷ d)))
regroup y m d = simp append_assoc

pub dashed_written : (buf y m d : List ℕ) (year month day : ℕ) → length buf ≡ 10 → y ≡ last_digits (length (mid_of 0 4 buf)) year →
    m ≡ last_digits (length (mid_of 5 2 (set (y ++ post_of 0 4 buf) 4 45))) month →
    d ≡ last_digits (length (mid_of 8 2 (set (put_mid 5 2 (set (y ++ post_of 0 4 buf) 4 45) m) 7 45))) day →
    put_mid 8 2 (set (put_mid 5 2 (set (y ++ post_of 0 4 buf) 4 45) m) 7 45) d ≡ dashed_day_text (record { year = year; month = month; day = day })
unfolding dashed_day_text
dashed_written buf y m d year month day len ey em ed =
    let y4 = digits_at buf y 0 4 year (omega arith) ey in
    let ly : length y ≡ 4 = has_digits y 4 year y4 in
    let s0 : set (y ++ drop 4 buf) 4 45 ≡ (y ++ 45 ∷ []) ++ drop 5 buf = byte_behind buf y 4 45 ly (omega arith) in
    let f0 : length (y ++ 45 ∷ []) ≡ 5 = omega (arith, length-append y (45 ∷ [])) in
    let l0 : length (set (y ++ drop 4 buf) 4 45) ≡ length buf = ap length s0 ∙ length_behind buf (y ++ 45 ∷ []) 5 f0 (omega arith) in
    let m2 = digits_at (set (y ++ drop 4 buf) 4 45) m 5 2 month (omega arith) em in
    let lm : length m ≡ 2 = has_digits m 2 month m2 in
    let s1 : put_mid 5 2 (set (y ++ drop 4 buf) 4 45) m ≡ ((y ++ 45 ∷ []) ++ m) ++ drop 7 buf =
    ap (λ x. put_mid 5 2 x m) s0 ∙ slice_behind buf (y ++ 45 ∷ []) m 5 2 f0 lm in
    let f1 : length ((y ++ 45 ∷ []) ++ m) ≡ 7 = omega (arith, length-append (y ++ 45 ∷ []) m) in
    let s2 : set (put_mid 5 2 (set (y ++ drop 4 buf) 4 45) m) 7 45 ≡ (((y ++ 45 ∷ []) ++ m) ++ 45 ∷ []) ++ drop 8 buf =
    ap (λ x. set x 7 45) s1 ∙ byte_behind buf ((y ++ 45 ∷ []) ++ m) 7 45 f1 (omega arith) in
    let f2 : length (((y ++ 45 ∷ []) ++ m) ++ 45 ∷ []) ≡ 8 = omega (arith, length-append ((y ++ 45 ∷ []) ++ m) (45 ∷ [])) in
    let l2 : length (set (put_mid 5 2 (set (y ++ drop 4 buf) 4 45) m) 7 45) ≡ length buf = ap length s2 ∙
    length_behind buf (((y ++ 45 ∷ []) ++ m) ++ 45 ∷ []) 8 f2 (omega arith) in
    let d2 = digits_at (set (put_mid 5 2 (set (y ++ drop 4 buf) 4 45) m) 7 45) d 8 2 day (omega arith) ed in
    let ld : length d ≡ 2 = has_digits d 2 day d2 in
    ap (λ x. put_mid 8 2 x d) s2 ∙ slice_behind buf (((y ++ 45 ∷ []) ++ m) ++ 45 ∷ []) d 8 2 f2 ld ∙
    ap (λ x. ((((y ++ 45 ∷ []) ++ m) ++ 45 ∷ []) ++ d) ++ x) (drop_all 10 buf (omega arith)) ∙ append-nil ((((y ++ 45 ∷ []) ++ m) ++ 45 ∷ []) ++ d) ∙
    regroup y m d ∙ ap (λ x. x ++ (45 ∷ (m ++ (45 ∷ d)))) y4 ∙ ap (λ x. last_digits 4 year ++ (45 ∷ (x ++ (45 ∷ d)))) m2 ∙
    ap (λ x. last_digits 4 year ++ (45 ∷ (last_digits 2 month ++ (45 ∷ x)))) d2
