-- Pieces written one behind another.
use Rattle.std.proofs.Common.{◌≡◌, ℕ, suc, ◌+◌, ◌-◌, ◌<◌, ◌≤◌, List, [], ◌∷◌, ◌++◌, length, take, drop, set, get_or, sym, ap, ◌∙◌, arith, append_assoc}
use Rattle.std.proofs.Common.{length-append, length-drop, Bool, true, false}
use Rattle.std.proofs.lemmas.List.{take_at, drop_at, drop-drop, length-take-le, drop_more, set_at, take-append-drop}
use Rattle.std.specs.Fmt.{sign_text}
use borrow.Rule.Slice.PartMut.{put_mid, mid_of}
use Rattle.inv_decimal.specs.WrittenNumber.{behind_point}
use Rattle.inv_decimal.specs.Digits.{overwritten, last_digits}

pub overwritten-nil : (old : List ℕ) (at : ℕ) → overwritten old at [] ≡ old
overwritten-nil old at = ap (λ k. take at old ++ drop k old) (let e : at + 0 ≡ at = omega arith in e) ∙ take-append-drop at old

-- a piece written behind another
pub overwritten-overwritten : (old p q : List ℕ) (at : ℕ) → at + length p ≤ length old →
    overwritten (overwritten old at p) (at + length p) q ≡ overwritten old at (p ++ q)
overwritten-overwritten old p q at room =
    let front : length (take at old ++ p) ≡ at + length p =
    length-append (take at old) p ∙ ap (λ n. n + length p) (length-take-le at old (omega arith)) in
    let split : overwritten old at p ≡ (take at old ++ p) ++ drop (at + length p) old =
    sym (append_assoc (take at old) p (drop (at + length p) old)) in
    let before : take (at + length p) (overwritten old at p) ≡ take at old ++ p =
    ap (take (at + length p)) split ∙ take_at (take at old ++ p) (drop (at + length p) old) _ front in
    let behind : drop (at + length p) (overwritten old at p) ≡ drop (at + length p) old =
    ap (drop (at + length p)) split ∙ drop_at (take at old ++ p) (drop (at + length p) old) _ front in
    let rest : drop (at + length p + length q) (overwritten old at p) ≡ drop (at + length (p ++ q)) old =
    sym (drop-drop (length q) (at + length p) (overwritten old at p)) ∙ ap (drop (length q)) behind ∙ drop-drop (length q) (at + length p) old ∙
    ap (λ n. drop n old) (let e : at + length p + length q ≡ at + length (p ++ q) = omega (arith, length-append p q) in e) in
    ap (λ x. x ++ (q ++ drop (at + length p + length q) (overwritten old at p))) before ∙ ap (λ x. (take at old ++ p) ++ (q ++ x)) rest ∙
    append_assoc (take at old) p _ ∙ ap (λ x. take at old ++ x) (sym (append_assoc p q _))

-- what the part from a on holds, after a write to it
pub put_mid-overwritten : (old ys : List ℕ) (a k : ℕ) → length ys ≡ k → put_mid a k old ys ≡ overwritten old a ys
put_mid-overwritten old ys a k e =
    ap (λ x. take a old ++ (ys ++ x)) (drop-drop k a old ∙ ap (λ n. drop (a + n) old) (sym e))

pub length-mid_of : (old : List ℕ) (a k : ℕ) → a + k ≤ length old → length (mid_of a k old) ≡ k
length-mid_of old a k room = length-take-le k (drop a old) (omega (arith, length-drop a old))

pub length-sign_text : (b : Bool) → length (sign_text b) ≤ 1
length-sign_text true = omega arith
length-sign_text false = omega arith

pub length-behind_point : (ds : List ℕ) → length (behind_point ds) ≤ suc (length ds)
length-behind_point [] = omega arith
length-behind_point (d ∷ ds) = omega arith

-- a sign, a whole part and a fraction, each behind what was written before
pub three_pieces : (old sign whole fraction : List ℕ) → length sign + length whole ≤ length old →
    overwritten (overwritten (overwritten old 0 sign) (length sign) whole) (length sign + length whole) fraction ≡ sign ++ (whole ++ fraction) ++
    drop (length sign + length whole + length fraction) old
three_pieces old sign whole fraction room =
    ap (λ n. overwritten (overwritten (overwritten old 0 sign) n whole) (length sign + length whole) fraction)
    (let e : length sign ≡ 0 + length sign = omega arith in e) ∙
    ap (λ x. overwritten x (length sign + length whole) fraction) (overwritten-overwritten old sign whole 0 (omega arith)) ∙
    ap (λ n. overwritten (overwritten old 0 (sign ++ whole)) n fraction) (let e : length sign + length whole ≡ 0 + length (sign ++ whole) =
    omega (arith, length-append sign whole) in e) ∙ overwritten-overwritten old (sign ++ whole) fraction 0 (omega (arith, length-append sign whole)) ∙
    ap (λ x. x ++ drop (0 + length (sign ++ whole ++ fraction)) old) (append_assoc sign whole fraction) ∙
    ap (λ n. sign ++ (whole ++ fraction) ++ drop n old) (let e : 0 + length (sign ++ whole ++ fraction) ≡ length sign + length whole + length fraction =
    omega (arith, length-append (sign ++ whole) fraction, length-append sign whole) in e)

-- the same by a slice of the buffer and by one byte, where the pieces so far stand in front of what the buffer held
pub slice_behind : (old front ys : List ℕ) (at k : ℕ) → length front ≡ at → length ys ≡ k → put_mid at k (front ++ drop at old) ys ≡ (front ++ ys) ++
    drop (at + k) old
slice_behind old front ys at k e f =
    ap (λ x. x ++ (ys ++ drop k (drop at (front ++ drop at old)))) (take_at front (drop at old) at e) ∙
    ap (λ x. front ++ (ys ++ drop k x)) (drop_at front (drop at old) at e) ∙ ap (λ x. front ++ (ys ++ x)) (drop-drop k at old) ∙
    sym (append_assoc front ys (drop (at + k) old))

pub byte_behind : (old front : List ℕ) (at byte : ℕ) → length front ≡ at → at < length old → set (front ++ drop at old) at byte ≡ (front ++ byte ∷ []) ++
    drop (at + 1) old
byte_behind old front at byte e h =
    ap (λ x. set (front ++ x) at byte) (drop_more old at 0 h) ∙ set_at front (get_or old at 0) (drop (at + 1) old) byte at e ∙
    sym (append_assoc front (byte ∷ []) (drop (at + 1) old))

pub digits_at : (held ys : List ℕ) (at k v : ℕ) → at + k ≤ length held → ys ≡ last_digits (length (mid_of at k held)) v → ys ≡ last_digits k v
digits_at held ys at k v room e =
    e ∙ ap (λ n. last_digits n v) (length-mid_of held at k room)

-- a printed number, from what each step wrote
pub printed_is : (old signed mid buf sign whole fraction : List ℕ) (start count value total : ℕ) → length old ≡ 40 → length sign ≤ 1 → length whole ≤ 18 →
    signed ≡ overwritten old 0 sign → start ≡ length sign → count ≡ length whole → last_digits (length whole) value ≡ whole →
    mid ≡ last_digits (length (mid_of start (start + count - start) signed)) value →
    buf ≡ overwritten (put_mid start (start + count - start) signed mid) (start + count) fraction → total ≡ start + count + length fraction → buf ≡ sign ++
    (whole ++ fraction) ++ drop total old
printed_is old signed mid buf sign whole fraction start count value total room short low e0 es ec digits em eb et =
    let size : start + count - start ≡ length whole = omega arith in
    let long : length signed ≡ 40 = ap length e0 ∙ omega (arith, length-append sign (drop (0 + length sign) old), length-drop (0 + length sign) old) in
    let written : mid ≡ whole = digits_at signed mid start (start + count - start) value (omega arith) em ∙ ap (λ k. last_digits k value) size ∙ digits in
    let put : put_mid start (start + count - start) signed mid ≡ overwritten (overwritten old 0 sign) (length sign) whole =
    put_mid-overwritten signed mid start (start + count - start) (ap length written ∙ sym size) ∙ ap (λ x. overwritten x start mid) e0 ∙
    ap (λ n. overwritten (overwritten old 0 sign) n mid) es ∙ ap (overwritten (overwritten old 0 sign) (length sign)) written in
    eb ∙ ap (λ x. overwritten x (start + count) fraction) put ∙ ap (λ n. overwritten (overwritten (overwritten old 0 sign) (length sign) whole) n fraction)
    (let e : start + count ≡ length sign + length whole = omega arith in e) ∙ three_pieces old sign whole fraction (omega arith) ∙
    ap (λ n. sign ++ (whole ++ fraction) ++ drop n old) (let e : length sign + length whole + length fraction ≡ total = omega arith in e)
