-- Trimming by bytes is trimming by characters.
use Rattle.std.proofs.Common.{◌≡◌, ℕ, ◌+◌, ◌-◌, ◌<◌, ◌≤◌, zero, suc, List, [], ◌∷◌, ◌++◌, length, get_or, take, drop, Some, None, Bool, true, false, ◌&&◌, refl}
use Rattle.std.proofs.Common.{ap, sym, ◌∙◌, arith, length-append, length-drop, subst, ◌⊎◌, inl, inr}
use Rattle.std.specs.Str.{chars, IsUtf8, IsAscii, IsCharBoundary}
use Rattle.std.specs.List.{list_all}
use Rattle.std.specs.Prelude.{◌==◌}
use Rattle.std.proofs.lemmas.Str.{chars-nil, chars-append, chars_from_encodes, encodes-chars, encodes-append, encode_ascii, IsUtf8-from_ascii}
use Rattle.std.proofs.lemmas.Str.{IsCharBoundary-start, IsCharBoundary-after_ascii, IsCharBoundary-before_ascii, IsCharBoundary-end}
use Rattle.std.proofs.lemmas.Str.Ascii.{encodes-IsAscii, IsAscii-nil, IsAscii-cons}
use Rattle.std.proofs.lemmas.Bool.Decides.{nat_tests}
use Rattle.std.proofs.lemmas.Bool.{false≢true, cases_lt}
use Rattle.std.proofs.lemmas.List.{take-append-drop, get_or_append_left, length-take-le}
use Rattle.std.proofs.lemmas.Grind.{common_steps}
use Rattle.inv_base.specs.Characters.{is_white_space}
use Rattle.inv_terms.specs.Values.{is_blank, without_leading, without_trailing, trimmed, identifier_in, identifier_of}
use lib.Utf8.{encodes}

both : (a b : Bool) → (a && b) ≡ true → (a ≡ true) × (b ≡ true)
both true b e = (refl, e)
both false b e = cc

-- ---- trimming by characters

leading-white : (a text : List ℕ) → is_blank a ≡ true → without_leading (a ++ text) ≡ without_leading text
leading-white [] text h = refl
leading-white (c ∷ a) text h = let k = both (is_white_space c) (is_blank a) h in rw k.0 (leading-white a text k.1)

leading-blank : (a : List ℕ) → is_blank a ≡ true → without_leading a ≡ []
leading-blank [] h = refl
leading-blank (c ∷ a) h = let k = both (is_white_space c) (is_blank a) h in rw k.0 (leading-blank a k.1)

trailing-blank : (b : List ℕ) → is_blank b ≡ true → without_trailing b ≡ []
trailing-blank [] h = refl
trailing-blank (c ∷ b) h = rw h refl

and-false : (a b : Bool) → b ≡ false → (a && b) ≡ false
and-false true b e = e
and-false false b e = refl

not_blank : (init b : List ℕ) (l : ℕ) → is_white_space l ≡ false → is_blank ((init ++ l ∷ []) ++ b) ≡ false
not_blank [] b l h = rw h refl
not_blank (c ∷ init) b l h = and-false (is_white_space c) _ (not_blank init b l h)

trailing-white : (init b : List ℕ) (l : ℕ) → is_white_space l ≡ false → is_blank b ≡ true → without_trailing ((init ++ l ∷ []) ++ b) ≡ init ++ l ∷ []
trailing-white [] b l h k = rw h (ap (λ x. l ∷ x) (trailing-blank b k))
trailing-white (c ∷ init) b l h k = rw (not_blank (c ∷ init) b l h) (ap (λ x. c ∷ x) (trailing-white init b l h k))

-- the text is empty, or neither its first nor its last character is white space
pub record HasEnds (core : List ℕ) : Type 0 where
  pub first : (c : ℕ) (rest : List ℕ) → core ≡ c ∷ rest → is_white_space c ≡ false
  pub last : (init : List ℕ) (l : ℕ) → core ≡ init ++ l ∷ [] → is_white_space l ≡ false

leading-kept : (core b : List ℕ) → HasEnds core → is_blank b ≡ true → (core ≡ []) ⊎ (without_leading (core ++ b) ≡ core ++ b)
leading-kept [] b h k = inl refl
leading-kept (c ∷ core) b h k = inr (rw (h.first c core refl) refl)

by_last : (core : List ℕ) → (core ≡ []) ⊎ ((init : List ℕ) × (l : ℕ) × (core ≡ init ++ l ∷ []))
by_last [] = inl refl
by_last (c ∷ cs) = elim (by_last cs) [ inl e ↦ inr ([], c, ap (λ x. c ∷ x) e) | inr w ↦ inr (c ∷ w.0, w.1, ap (λ x. c ∷ x) w.2) ]

trailing-kept : (core b : List ℕ) → HasEnds core → is_blank b ≡ true → without_trailing (core ++ b) ≡ core
trailing-kept core b h k = elim (by_last core) [
  | inl e ↦ rw e (trailing-blank b k)
  | inr w ↦ rw w.2 (trailing-white w.0 b w.1 (h.last w.0 w.1 w.2) k)
]

pub trimmed-between : (a core b : List ℕ) → is_blank a ≡ true → is_blank b ≡ true → HasEnds core → trimmed (a ++ (core ++ b)) ≡ core
trimmed-between a core b h k ends =
    ap without_trailing (leading-white a (core ++ b) h) ∙ elim (leading-kept core b ends k) [
      | inl e ↦ rw e (ap without_trailing (leading-blank b k))
      | inr w ↦ ap without_trailing w ∙ trailing-kept core b ends k
    ]

-- ---- trimming by bytes

white_take : (s : List ℕ) (m : ℕ) → ((i : ℕ) → i < m → is_white_space (get_or s i 0) ≡ true) → list_all is_white_space (take m s) ≡ true
white_take [] zero h = refl
white_take [] (suc m) h = refl
white_take (c ∷ s) zero h = refl
white_take (c ∷ s) (suc m) h = rw (h 0 (omega arith)) (white_take s m (λ i k. h (suc i) (omega arith)))

white_drop : (s : List ℕ) (n : ℕ) → ((i : ℕ) → n ≤ i → i < length s → is_white_space (get_or s i 0) ≡ true) → list_all is_white_space (drop n s) ≡ true
white_drop [] zero h = refl
white_drop [] (suc n) h = refl
white_drop (c ∷ s) zero h = rw (h 0 (omega arith) (omega arith)) (white_drop s 0 (λ i k l. h (suc i) (omega arith) (omega arith)))
white_drop (c ∷ s) (suc n) h = white_drop s n (λ i k l. h (suc i) (omega arith) (omega arith))

white_below : (c : ℕ) → is_white_space c ≡ true → c < 128
unfolding is_white_space
white_below c h = grind (arith, nat_tests)

white_is_ascii : (a : List ℕ) → list_all is_white_space a ≡ true → IsAscii a
white_is_ascii [] h = IsAscii-nil
white_is_ascii (c ∷ a) h = let k = both (is_white_space c) (list_all is_white_space a) h in IsAscii-cons c a (white_below c k.0) (white_is_ascii a k.1)

or_false : (b : Bool) → (b ≡ true → b ≡ false) → b ≡ false
or_false true h = h refl
or_false false h = refl

last_of : (xs : List ℕ) (l : ℕ) → get_or (xs ++ l ∷ []) (length (xs ++ l ∷ []) - 1) 0 ≡ l
last_of xs l = grind (arith, common_steps)

length_last : (xs : List ℕ) (l : ℕ) → 0 < length (xs ++ l ∷ [])
length_last xs l = omega (arith, length-append xs (l ∷ []))

-- the ends of the text by its bytes
ends-by_bytes : (r : List ℕ) → IsUtf8 r → (0 < length r → is_white_space (get_or r 0 0) ≡ false)
    → (0 < length r → is_white_space (get_or r (length r - 1) 0) ≡ false) → HasEnds (chars r)
ends-by_bytes r u first last = record {
  first = λ c rest e. or_false (is_white_space c) (λ white.
      let bytes : r ≡ c ∷ encodes rest = sym (encodes-chars r u) ∙ (ap encodes e ∙ ap (λ x. x ++ encodes rest) (encode_ascii c (white_below c white))) in
      let some : 0 < length r = rw bytes (omega arith) in
      let at : get_or r 0 0 ≡ c = rw bytes refl in
      absurd (false≢true (sym (first some) ∙ (ap is_white_space at ∙ white))));
  last = λ init l e. or_false (is_white_space l) (λ white.
      let bytes : r ≡ encodes init ++ l ∷ [] = sym (encodes-chars r u) ∙
      (ap encodes e ∙ (encodes-append init (l ∷ []) ∙ ap (λ x. encodes init ++ x) (ap (λ x. x ++ []) (encode_ascii l (white_below l white))))) in
      let some : 0 < length r = rw bytes (length_last (encodes init) l) in
      let at : get_or r (length r - 1) 0 ≡ l = rw bytes (last_of (encodes init) l) in
      absurd (false≢true (sym (last some) ∙ (ap is_white_space at ∙ white))));
}

ascii_chars : (a : List ℕ) → IsAscii a → chars a ≡ a
ascii_chars a h = sym (chars_from_encodes a a (IsUtf8-from_ascii a h) (encodes-IsAscii a h))

get_or-take_drop : (s : List ℕ) (m : ℕ) → get_or (drop m s) 0 0 ≡ get_or s m 0
get_or-take_drop s m = grind (arith, common_steps)

-- The text begins with m bytes of white space, and no more.
pub record HasFront (s : List ℕ) (m : ℕ) : Type 0 where
  pub long : m ≤ length s
  pub below : (i : ℕ) → i < m → is_white_space (get_or s i 0) ≡ true
  pub first : m < length s → is_white_space (get_or s m 0) ≡ false

-- Of the text k bytes stand before the white space at its end.
pub record HasBack (s : List ℕ) (k : ℕ) : Type 0 where
  pub within : k ≤ length s
  pub from : (i : ℕ) → k ≤ i → i < length s → is_white_space (get_or s i 0) ≡ true
  pub last : 0 < k → is_white_space (get_or s (k - 1) 0) ≡ false

pub trimmed-bytes : (s : List ℕ) (m k : ℕ) → IsUtf8 s → IsUtf8 (take k (drop m s)) → HasFront s m → HasBack (drop m s) k →
    chars (take k (drop m s)) ≡ trimmed (chars s)
trimmed-bytes s m k us ur f h =
    let t : List ℕ = drop m s in
    let r : List ℕ = take k t in
    let a : List ℕ = take m s in
    let b : List ℕ = drop k t in
    let length_r : length r ≡ k = length-take-le k t h.within in
    let white_a : list_all is_white_space a ≡ true = white_take s m f.below in
    let white_b : list_all is_white_space b ≡ true = white_drop t k h.from in
    let ascii_a : IsAscii a = white_is_ascii a white_a in
    let ascii_b : IsAscii b = white_is_ascii b white_b in
    let whole_t : t ≡ r ++ b = sym (take-append-drop k t) in
    let whole : s ≡ a ++ (r ++ b) = sym (take-append-drop m s) ∙ ap (λ x. a ++ x) whole_t in
    let cs : chars s ≡ a ++ (chars r ++ b) =
    ap chars whole ∙ (chars-append a (r ++ b) (IsUtf8-from_ascii a ascii_a)
    ∙ (ap (λ x. x ++ chars (r ++ b)) (ascii_chars a ascii_a)
    ∙ ap (λ x. a ++ x) (chars-append r b ur ∙ ap (λ x. chars r ++ x) (ascii_chars b ascii_b)))) in
    let first_is : 0 < length r → is_white_space (get_or r 0 0) ≡ false = λ some.
    let lt : m < length s = omega (arith, ap length whole_t, length-append r b, length-drop m s) in
    let at : get_or s m 0 ≡ get_or r 0 0 = sym (get_or-take_drop s m) ∙ (ap (λ x. get_or x 0 0) whole_t ∙ get_or_append_left r b 0 0 some) in
    ap is_white_space (sym at) ∙ f.first lt in
    let last_is : 0 < length r → is_white_space (get_or r (length r - 1) 0) ≡ false = λ some.
    let at : get_or t (length r - 1) 0 ≡ get_or r (length r - 1) 0 = ap (λ x. get_or x (length r - 1) 0) whole_t ∙
    get_or_append_left r b 0 (length r - 1) (omega (arith, some)) in
    ap is_white_space (sym at) ∙ (ap (λ n. is_white_space (get_or t (n - 1) 0)) length_r ∙ h.last (omega arith)) in
    sym (ap trimmed cs ∙ trimmed-between a (chars r) b white_a white_b (ends-by_bytes r ur first_is last_is))

-- ---- where a text may be cut

pub cut-leading : (s : List ℕ) (m : ℕ) → IsUtf8 s → m ≤ length s → ((i : ℕ) → i < m → is_white_space (get_or s i 0) ≡ true) → IsCharBoundary s m
cut-leading s zero u l h = IsCharBoundary-start s u
cut-leading s (suc m) u l h = let e : m + 1 ≡ suc m = omega arith in
    subst (IsCharBoundary s) e (IsCharBoundary-after_ascii s m u (omega arith) (white_below _ (h m (omega arith))))

pub cut-trailing : (s : List ℕ) (k : ℕ) → IsUtf8 s → k ≤ length s → ((i : ℕ) → k ≤ i → i < length s → is_white_space (get_or s i 0) ≡ true) → IsCharBoundary s k
cut-trailing s k u l h = elim (cases_lt k (length s)) [
  | inl lt ↦ IsCharBoundary-before_ascii s k lt (white_below _ (h k (omega arith) lt))
  | inr le ↦ subst (IsCharBoundary s) (let e : length s ≡ k = omega arith in e) (IsCharBoundary-end s)
]

-- ---- identifiers

pub identifier-empty : (text r : List ℕ) → IsUtf8 r → chars r ≡ trimmed text → (length r == 0) ≡ true → None ≡ identifier_of text
identifier-empty text [] u e h = ap identifier_in (sym chars-nil ∙ e)
identifier-empty text (c ∷ r) u e h = absurd (grind (arith, nat_tests))

nonempty : (cs : List ℕ) → (cs ≡ [] → ⊥) → Some cs ≡ identifier_in cs
nonempty [] h = absurd (h refl)
nonempty (c ∷ cs) h = refl

pub identifier-full : (text r : List ℕ) → IsUtf8 r → chars r ≡ trimmed text → (length r == 0) ≡ false → Some (chars r) ≡ identifier_of text
identifier-full text r u e h =
    nonempty (chars r) (λ none. let k : r ≡ [] = sym (encodes-chars r u) ∙ ap encodes none in false≢true (sym h ∙ ap (λ x. length x == 0) k))
    ∙ ap identifier_in e
