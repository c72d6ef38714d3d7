-- White space at the ends of a text, by bytes and by characters.
use Rattle.std.proofs.Common.{◌≡◌, ℕ, ◌-◌, ◌<◌, ◌≤◌, suc, List, [], ◌∷◌, ◌++◌, length, get_or, take, drop, reverse, Bool, true, false, ◌&&◌, refl, ap, sym, ◌∙◌}
use Rattle.std.proofs.Common.{arith, ◌⊎◌, inl, inr, subst, length-append, append_assoc}
use Rattle.std.specs.Str.{chars, IsUtf8, IsAscii, IsCharBoundary}
use Rattle.std.specs.List.{list_all}
use Rattle.std.proofs.lemmas.Str.{chars-nil, chars-append, encodes-chars, encodes-append, encode_ascii, chars_past_char, IsUtf8-past_char, chars-IsAscii}
use Rattle.std.proofs.lemmas.Str.{IsUtf8-take}
use Rattle.std.proofs.lemmas.Str.Ascii.{IsAscii-nil, IsAscii-cons}
use Rattle.std.proofs.lemmas.Bool.Decides.{nat_tests}
use Rattle.std.proofs.lemmas.List.{reverse-append, reverse-reverse, take-append-drop}
use Rattle.std.proofs.lemmas.Grind.{common_steps}
use Rattle.inv_base.specs.Characters.{is_white_space}
use Rattle.xpath_operators.specs.Spaces.{leading}
use Rattle.xpath_meaning.specs.Reading.{without_leading_space}
use lib.Utf8.{encodes, encode}

pub both : (a b : Bool) → (a && b) ≡ true → (a ≡ true) × (b ≡ true)
both true b e = (refl, e)
both false b e = cc

white_cases : (b : Bool) → (b ≡ true) ⊎ (b ≡ false)
white_cases true = inl refl
white_cases false = inr refl

or_false : (b : Bool) → (b ≡ true → b ≡ false) → b ≡ false
or_false true h = h refl
or_false false h = refl

white_below : (c : ℕ) → is_white_space c ≡ true → c < 128
unfolding is_white_space
white_below c h = grind (arith, nat_tests)

-- a text whose first byte is ASCII
pub ascii_first : (b : ℕ) (bs : List ℕ) → b < 128 → IsUtf8 (b ∷ bs) → IsUtf8 bs × (chars (b ∷ bs) ≡ b ∷ chars bs)
ascii_first b bs h u =
    let e : b ∷ bs ≡ encode b ++ bs = sym (ap (λ x. x ++ bs) (encode_ascii b h)) in
    (IsUtf8-past_char (b ∷ bs) bs b u e, chars_past_char (b ∷ bs) bs b u e)

white_step : (c : ℕ) (cs : List ℕ) → is_white_space c ≡ true → without_leading_space (c ∷ cs) ≡ without_leading_space cs
white_step c cs h = ap (λ (b : Bool). elim b [ true ↦ without_leading_space cs | false ↦ c ∷ cs ]) h

black_step : (c : ℕ) (cs : List ℕ) → is_white_space c ≡ false → without_leading_space (c ∷ cs) ≡ c ∷ cs
black_step c cs h = ap (λ (b : Bool). elim b [ true ↦ without_leading_space cs | false ↦ c ∷ cs ]) h

leading_white_step : (c : ℕ) (cs : List ℕ) → is_white_space c ≡ true → leading (c ∷ cs) ≡ suc (leading cs)
leading_white_step c cs h = ap (λ (b : Bool). elim b [ true ↦ suc (leading cs) | false ↦ 0 ]) h

leading_black_step : (c : ℕ) (cs : List ℕ) → is_white_space c ≡ false → leading (c ∷ cs) ≡ 0
leading_black_step c cs h = ap (λ (b : Bool). elim b [ true ↦ suc (leading cs) | false ↦ 0 ]) h

-- no character at the front is white space, where the first byte is none
first_black : (cs : List ℕ) (b : ℕ) (bs : List ℕ) → encodes cs ≡ b ∷ bs → is_white_space b ≡ false → without_leading_space cs ≡ cs
first_black [] b bs e h = refl
first_black (c ∷ cs) b bs e h =
    let black : is_white_space c ≡ false = or_false (is_white_space c) (λ white.
    let bytes : c ∷ encodes cs ≡ b ∷ bs = sym (ap (λ x. x ++ encodes cs) (encode_ascii c (white_below c white))) ∙ e in
    let same : c ≡ b = cc in
    ap is_white_space same ∙ h) in
    black_step c cs black

pub record IsCutAt (bs : List ℕ) (n : ℕ) : Type 0 where
  pub within : n ≤ length bs
  pub utf8 : IsUtf8 (drop n bs)
  pub cut : chars (drop n bs) ≡ without_leading_space (chars bs)

leading_cut : (bs : List ℕ) → IsUtf8 bs → IsCutAt bs (leading bs)
leading_cut [] u = record { within = omega arith; utf8 = u; cut = rw chars-nil refl }
leading_cut (b ∷ bs) u = elim (white_cases (is_white_space b)) [
  | inl white ↦
      let behind = ascii_first b bs (white_below b white) u in
      let inner = leading_cut bs behind.0 in
      subst (IsCutAt (b ∷ bs)) (sym (leading_white_step b bs white)) (record {
        within = omega (arith, inner.within);
        utf8 = inner.utf8;
        cut = inner.cut ∙ sym (ap without_leading_space behind.1 ∙ white_step b (chars bs) white);
      })
  | inr black ↦ subst (IsCutAt (b ∷ bs)) (sym (leading_black_step b bs black)) (record {
    within = omega arith;
    utf8 = u;
    cut = sym (first_black (chars (b ∷ bs)) b bs (encodes-chars (b ∷ bs) u) black);
  })
]

pub leading_boundary : (text bs : List ℕ) (n : ℕ) → bs ≡ text → n ≡ leading bs → IsUtf8 text → IsCutAt text n
leading_boundary text bs n same e u = subst (IsCutAt text) (sym (e ∙ ap leading same)) (leading_cut text u)

-- ---- the end

white_ascii : (a : List ℕ) → list_all is_white_space a ≡ true → IsAscii a
white_ascii [] h = IsAscii-nil
white_ascii (c ∷ a) h = let k = both (is_white_space c) (list_all is_white_space a) h in IsAscii-cons c a (white_below c k.0) (white_ascii a k.1)

reverse_cons : (c : ℕ) (cs : List ℕ) → reverse (c ∷ cs) ≡ reverse cs ++ c ∷ []
reverse_cons c cs = reverse-append (c ∷ []) cs

white_passed : (w y : List ℕ) → list_all is_white_space w ≡ true → without_leading_space (reverse w ++ y) ≡ without_leading_space y
white_passed [] y h = refl
white_passed (c ∷ w) y h =
    let k = both (is_white_space c) (list_all is_white_space w) h in
    let moved : reverse (c ∷ w) ++ y ≡ reverse w ++ (c ∷ y) = rw reverse_cons (simp append_assoc) in
    ap without_leading_space moved ∙ (white_passed w (c ∷ y) k.1 ∙ white_step c y k.0)

by_last : (core : List ℕ) → (core ≡ []) ⊎ ((init : List ℕ) × (l : ℕ) × (core ≡ init ++ l ∷ []))
by_last [] = inl refl
by_last (c ∷ cs) = elim (by_last cs) [ inl e ↦ inr ([], c, ap (λ x. c ∷ x) e) | inr w ↦ inr (c ∷ w.0, w.1, ap (λ x. c ∷ x) w.2) ]

last_of : (xs : List ℕ) (l : ℕ) → get_or (xs ++ l ∷ []) (length (xs ++ l ∷ []) - 1) 0 ≡ l
last_of xs l = grind (arith, common_steps)

length_last : (xs : List ℕ) (l : ℕ) → 0 < length (xs ++ l ∷ [])
length_last xs l = omega (arith, length-append xs (l ∷ []))

-- a text whose last byte is no white space ends so by its characters
last_black : (a : List ℕ) → IsUtf8 a → (0 < length a → is_white_space (get_or a (length a - 1) 0) ≡ false) →
    without_leading_space (reverse (chars a)) ≡ reverse (chars a)
last_black a u h = elim (by_last (chars a)) [
  | inl e ↦ rw e refl
  | inr w ↦
      let black : is_white_space w.1 ≡ false = or_false (is_white_space w.1) (λ white.
      let bytes : a ≡ encodes w.0 ++ w.1 ∷ [] = sym (encodes-chars a u) ∙
      (ap encodes w.2 ∙ (encodes-append w.0 (w.1 ∷ []) ∙ ap (λ x. encodes w.0 ++ x) (ap (λ x. x ++ []) (encode_ascii w.1 (white_below w.1 white))))) in
      let some : 0 < length a = rw bytes (length_last (encodes w.0) w.1) in
      let at : get_or a (length a - 1) 0 ≡ w.1 = rw bytes (last_of (encodes w.0) w.1) in
      ap is_white_space (sym at) ∙ h some) in
      let turned : reverse (chars a) ≡ w.1 ∷ reverse w.0 = ap reverse w.2 ∙ reverse-append w.0 (w.1 ∷ []) in
      ap without_leading_space turned ∙ (black_step w.1 (reverse w.0) black ∙ sym turned)
]

pub record IsFrontOf (bs : List ℕ) (n : ℕ) : Type 0 where
  pub within : n ≤ length bs
  pub white : list_all is_white_space (drop n bs) ≡ true
  pub stops : 0 < n → is_white_space (get_or bs (n - 1) 0) ≡ false

first_white : (a : List ℕ) → list_all is_white_space a ≡ true → 0 < length a → get_or a 0 0 < 128
first_white [] h k = omega arith
first_white (c ∷ a) h k = white_below c (both (is_white_space c) (list_all is_white_space a) h).0

front_boundary : (bs : List ℕ) (n : ℕ) → IsFrontOf bs n → n < length bs → get_or bs n 0 < 128
front_boundary bs n f k =
    let some : 0 < length (drop n bs) = grind (arith, common_steps) in
    let at : get_or (drop n bs) 0 0 ≡ get_or bs n 0 = grind (arith, common_steps) in
    omega (arith, first_white (drop n bs) f.white some)

pub front_along : (text bs : List ℕ) (n : ℕ) → bs ≡ text → IsFrontOf bs n → IsFrontOf text n
front_along text bs n same f = subst (λ (x : List ℕ). IsFrontOf x n) same f

pub front_is_boundary : (bs : List ℕ) (n : ℕ) → IsFrontOf bs n → IsCharBoundary bs n
front_is_boundary bs n f = (f.within, λ k high. absurd (omega (arith, front_boundary bs n f k)))

pub front_cut : (bs : List ℕ) (n : ℕ) → IsUtf8 bs → IsFrontOf bs n → chars (take n bs) ≡ reverse (without_leading_space (reverse (chars bs)))
front_cut bs n u f =
    let ua : IsUtf8 (take n bs) = IsUtf8-take bs n u (front_is_boundary bs n f) in
    let a : List ℕ = take n bs in
    let w : List ℕ = drop n bs in
    let ascii : IsAscii w = white_ascii w f.white in
    let whole : chars bs ≡ chars a ++ w =
    ap chars (sym (take-append-drop n bs)) ∙ (chars-append a w ua ∙ ap (λ x. chars a ++ x) (chars-IsAscii w ascii)) in
    let turned : reverse (chars bs) ≡ reverse w ++ reverse (chars a) = ap reverse whole ∙ reverse-append (chars a) w in
    let long : length a ≡ n = grind (arith, common_steps) in
    let last : 0 < length a → is_white_space (get_or a (length a - 1) 0) ≡ false = λ some.
    let at : get_or a (length a - 1) 0 ≡ get_or bs (n - 1) 0 = grind (arith, common_steps) in
    ap is_white_space at ∙ f.stops (omega (arith, some)) in
    sym (ap reverse (ap without_leading_space turned ∙ (white_passed w (reverse (chars a)) f.white ∙ last_black a ua last)) ∙ reverse-reverse (chars a))
