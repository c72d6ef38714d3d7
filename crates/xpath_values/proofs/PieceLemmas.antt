-- Pieces of texts, by bytes and by characters.
use Rattle.std.proofs.Common.{◌≡◌, ℕ, ◌+◌, ◌-◌, ◌<◌, ◌≤◌, suc, List, [], ◌∷◌, ◌++◌, length, take, drop, Bool, true, false, ◌&&◌, Option, Some, None, refl, ap}
use Rattle.std.proofs.Common.{sym, ◌∙◌, arith, length-append, append_assoc}
use Rattle.std.specs.Prelude.{◌==◌, nat_le}
use Rattle.std.specs.Str.{chars, IsUtf8, bytes_eq}
use Rattle.std.specs.Str.Pattern.{FindsText, LacksTextAt, FindsTextPrefix, FindsTextSuffix}
use Rattle.std.proofs.lemmas.Str.{chars-append, encodes-chars, encodes-append, length-le-encodes, IsUtf8-take}
use Rattle.std.proofs.lemmas.Bool.Decides.{nat_tests}
use Rattle.std.proofs.lemmas.Bool.{false≢true}
use Rattle.std.proofs.lemmas.List.{take-append-drop}
use Rattle.std.proofs.lemmas.List.Prefix.{front_fits, front_rest}
use Rattle.std.proofs.lemmas.Slice.Eq.{bytes_eq-Decides}
use Rattle.std.proofs.lemmas.Grind.{common_steps}
use Rattle.xpath_meaning.specs.Texts.{begins, ends, first_place, one_on}
use Rattle.xpath_values.specs.Pieces.{IsAround}
use lib.Utf8.{encodes}

both : (a b : Bool) → (a && b) ≡ true → (a ≡ true) × (b ≡ true)
both true b e = (refl, e)
both false b e = cc

or_false : (b : Bool) → (b ≡ true → b ≡ false) → b ≡ false
or_false true h = h refl
or_false false h = refl

same_number : (c d : ℕ) → (c == d) ≡ true → c ≡ d
same_number c d e = grind (arith, nat_tests)

equal_self : (c : ℕ) → (c == c) ≡ true
equal_self c = grind (arith, nat_tests)

pub begins-append : (p r : List ℕ) → begins p (p ++ r) ≡ true
begins-append [] r = refl
begins-append (c ∷ p) r = ap (λ (b : Bool). b && begins p (p ++ r)) (equal_self c) ∙ begins-append p r

pub begins-true : (p t : List ℕ) → begins p t ≡ true → (r : List ℕ) × (t ≡ p ++ r)
begins-true [] t h = (t, refl)
begins-true (c ∷ p) [] h = absurd (false≢true h)
begins-true (c ∷ p) (d ∷ t) h =
    let k = both (c == d) (begins p t) h in
    let inner = begins-true p t k.1 in
    let same : c ≡ d = same_number c d k.0 in
    (inner.0, ap (λ x. d ∷ x) inner.1 ∙ ap (λ x. x ∷ (p ++ inner.0)) (sym same))

found_step : (p t : List ℕ) (c : ℕ) → begins p (c ∷ t) ≡ true → first_place p (c ∷ t) ≡ Some 0
found_step p t c h = ap (λ (b : Bool). elim b [ true ↦ Some 0 | false ↦ one_on (first_place p t) ]) h

passed_step : (p t : List ℕ) (c : ℕ) → begins p (c ∷ t) ≡ false → first_place p (c ∷ t) ≡ one_on (first_place p t)
passed_step p t c h = ap (λ (b : Bool). elim b [ true ↦ Some 0 | false ↦ one_on (first_place p t) ]) h

none_at_end : (p : List ℕ) → begins p [] ≡ false → first_place p [] ≡ None
none_at_end [] h = absurd (false≢true (sym h))
none_at_end (c ∷ p) h = refl

found_at_front : (p t : List ℕ) → begins p t ≡ true → first_place p t ≡ Some 0
found_at_front [] [] h = refl
found_at_front (c ∷ p) [] h = absurd (false≢true h)
found_at_front p (c ∷ t) h = found_step p t c h

first_place-none : (p t : List ℕ) → ((k : ℕ) → k ≤ length t → begins p (drop k t) ≡ false) → first_place p t ≡ None
first_place-none p [] h = none_at_end p (h 0 (omega arith))
first_place-none p (c ∷ t) h =
    passed_step p t c (h 0 (omega arith)) ∙ ap one_on (first_place-none p t (λ k l. h (suc k) (omega arith)))

first_place-at : (p xs ys : List ℕ) → begins p ys ≡ true → ((k : ℕ) → k < length xs → begins p (drop k (xs ++ ys)) ≡ false) →
    first_place p (xs ++ ys) ≡ Some (length xs)
first_place-at p [] ys e h = found_at_front p ys e
first_place-at p (c ∷ xs) ys e h =
    passed_step p (xs ++ ys) c (h 0 (omega arith)) ∙ ap one_on (first_place-at p xs ys e (λ k l. h (suc k) (omega arith)))

-- the bytes before the k-th character
abbrev bytes_before : ℕ → List ℕ → ℕ
bytes_before k s = length (encodes (take k (chars s)))

cut_at : (k : ℕ) (s : List ℕ) → IsUtf8 s → s ≡ encodes (take k (chars s)) ++ encodes (drop k (chars s))
cut_at k s u = sym (encodes-chars s u) ∙ (ap encodes (sym (take-append-drop k (chars s))) ∙ encodes-append (take k (chars s)) (drop k (chars s)))

-- where the bytes lack the piece, the characters don't begin with it
lacks_character : (n s : List ℕ) (k : ℕ) → IsUtf8 s → IsUtf8 n → LacksTextAt n s (bytes_before k s) → begins (chars n) (drop k (chars s)) ≡ false
lacks_character n s k us un h = or_false _ (λ yes.
    let r = begins-true (chars n) (drop k (chars s)) yes in
    let back : encodes (drop k (chars s)) ≡ n ++ encodes r.0 = ap encodes r.1 ∙
    (encodes-append (chars n) r.0 ∙ ap (λ x. x ++ encodes r.0) (encodes-chars n un)) in
    absurd (h (encodes r.0) (front_rest s (encodes (take k (chars s))) (encodes (drop k (chars s))) (cut_at k s us) ∙ back)))

pub place-none : (n s : List ℕ) → IsUtf8 s → IsUtf8 n → FindsText n s None → first_place (chars n) (chars s) ≡ None
place-none n s us un h = first_place-none (chars n) (chars s) (λ k l. lacks_character n s k us un (h (bytes_before k s) (front_fits s _ _ (cut_at k s us))))

take_front : (xs ys : List ℕ) → take (length xs) (xs ++ ys) ≡ xs
take_front xs ys = grind (arith, common_steps)

drop_front : (xs ys : List ℕ) → drop (length xs) (xs ++ ys) ≡ ys
drop_front xs ys = grind (arith, common_steps)

take_within : (xs ys : List ℕ) (k : ℕ) → k < length xs → take k (xs ++ ys) ≡ take k xs
take_within xs ys k h = grind (arith, common_steps)

earlier : (xs ys : List ℕ) (k : ℕ) → k < length xs → length (encodes (take k (xs ++ ys))) < length (encodes xs)
earlier xs ys k h =
    let same : encodes (take k (xs ++ ys)) ≡ encodes (take k xs) = ap encodes (take_within xs ys k h) in
    let whole : encodes xs ≡ encodes (take k xs) ++ encodes (drop k xs) = ap encodes (sym (take-append-drop k xs)) ∙ encodes-append (take k xs) (drop k xs) in
    let some : 0 < length (drop k xs) = grind (arith, common_steps) in
    omega (arith, ap length same, ap length whole, length-append (encodes (take k xs)) (encodes (drop k xs)), length-le-encodes (drop k xs))

placed : (p xs ys : List ℕ) (t : List ℕ) → t ≡ xs ++ (p ++ ys) → first_place p t ≡ Some (length xs) → IsAround p t xs ys
placed p xs ys t e h = record {
  place = h;
  before = ap (λ (o : Option ℕ). elim o [ None ↦ [] | Some n ↦ take n t ]) h ∙ (ap (take (length xs)) e ∙ take_front xs (p ++ ys));
  behind = ap (λ (o : Option ℕ). elim o [ None ↦ [] | Some n ↦ drop (n + length p) t ]) h
      ∙ (ap (drop (length xs + length p)) (e ∙ sym (append_assoc xs p ys)) ∙
      (ap (λ n. drop n ((xs ++ p) ++ ys)) (sym (length-append xs p)) ∙ drop_front (xs ++ p) ys));
}

pub place-some : (n s front back : List ℕ) (i j : ℕ) → IsUtf8 s → IsUtf8 n → IsUtf8 front → FindsText n s (Some (i, j)) → front ≡ take i s → back ≡ drop j s →
    i ≤ length s → IsAround (chars n) (chars s) (chars front) (chars back)
place-some n s front back i j us un uf h ef eb fits =
    let bytes : s ≡ front ++ (n ++ back) = sym (take-append-drop i s) ∙
    (ap (λ x. take i s ++ x) (h.1.split ∙ ap (λ x. n ++ x) (sym eb)) ∙ ap (λ x. x ++ (n ++ back)) (sym ef)) in
    let whole : chars s ≡ chars front ++ (chars n ++ chars back) = ap chars bytes ∙
    (chars-append front (n ++ back) uf ∙ ap (λ x. chars front ++ x) (chars-append n back un)) in
    let long : length front ≡ i = ap length ef ∙ (let e : length (take i s) ≡ i = grind (arith, common_steps) in e) in
    let none : (k : ℕ) → k < length (chars front) → begins (chars n) (drop k (chars front ++ (chars n ++ chars back))) ≡ false = λ k l.
    let at : bytes_before k s < i = omega (
      arith,
      ap (λ x. length (encodes (take k x))) whole,
      earlier (chars front) (chars n ++ chars back) k l,
      ap length (encodes-chars front uf),
    ) in
    ap (λ x. begins (chars n) (drop k x)) (sym whole) ∙ lacks_character n s k us un (h.0 (bytes_before k s) at) in
    placed (chars n) (chars front) (chars back) (chars s) whole
    (ap (first_place (chars n)) whole ∙ first_place-at (chars n) (chars front) (chars n ++ chars back) (begins-append (chars n) (chars back)) none)

pub begins-none : (n s : List ℕ) → IsUtf8 s → IsUtf8 n → FindsTextPrefix n s None → begins (chars n) (chars s) ≡ false
begins-none n s us un h = lacks_character n s 0 us un h

pub begins-some : (n s : List ℕ) (k : ℕ) → IsUtf8 s → IsUtf8 n → FindsTextPrefix n s (Some k) → begins (chars n) (chars s) ≡ true
begins-some n s k us un h =
    ap (begins (chars n)) (ap chars h.1 ∙ chars-append n (drop k s) un) ∙ begins-append (chars n) (chars (drop k s))

same_text : (xs : List ℕ) → bytes_eq xs xs ≡ true
same_text xs = (bytes_eq-Decides xs xs).1 refl

le_true : (a b : ℕ) → a ≤ b → nat_le a b ≡ true
le_true a b h = grind (arith, nat_tests)

ends-append : (a p : List ℕ) → ends p (a ++ p) ≡ true
ends-append a p =
    let le : nat_le (length p) (length (a ++ p)) ≡ true = le_true (length p) (length (a ++ p)) (omega (arith, length-append a p)) in
    let rest : drop (length (a ++ p) - length p) (a ++ p) ≡ p =
    ap (λ n. drop n (a ++ p)) (let e : length (a ++ p) - length p ≡ length a = omega (arith, length-append a p) in e) ∙ drop_front a p in
    ap (λ (b : Bool). b && bytes_eq p (drop (length (a ++ p) - length p) (a ++ p))) le ∙ (ap (bytes_eq p) rest ∙ same_text p)

ends-true : (p t : List ℕ) → ends p t ≡ true → t ≡ take (length t - length p) t ++ p
ends-true p t h =
    let k = both (nat_le (length p) (length t)) (bytes_eq p (drop (length t - length p) t)) h in
    let same : p ≡ drop (length t - length p) t = (bytes_eq-Decides p (drop (length t - length p) t)).0 k.1 in
    sym (take-append-drop (length t - length p) t) ∙ ap (λ x. take (length t - length p) t ++ x) (sym same)

pub ends-none : (n s : List ℕ) → IsUtf8 s → IsUtf8 n → FindsTextSuffix n s None → ends (chars n) (chars s) ≡ false
ends-none n s us un h = or_false _ (λ yes.
    let front : List ℕ = take (length (chars s) - length (chars n)) (chars s) in
    let bytes : s ≡ encodes front ++ n = sym (encodes-chars s us) ∙
    (ap encodes (ends-true (chars n) (chars s) yes) ∙ (encodes-append front (chars n) ∙ ap (λ x. encodes front ++ x) (encodes-chars n un))) in
    absurd (h (encodes front) bytes))

pub ends-some : (n s : List ℕ) (k : ℕ) → IsUtf8 s → IsUtf8 n → FindsTextSuffix n s (Some k) → ends (chars n) (chars s) ≡ true
ends-some n s k us un h =
    let ua : IsUtf8 (take (length s - length n) s) = IsUtf8-take s (length s - length n) us h.2 in
    let bytes : s ≡ take (length s - length n) s ++ n = h.1 ∙ ap (λ m. take (length s - m) s ++ n) h.0 in
    ap (ends (chars n)) (ap chars bytes ∙ chars-append (take (length s - length n) s) n ua) ∙ ends-append (chars (take (length s - length n) s)) (chars n)
