-- How many bytes stand before the first stop, seen a block at a time through the marks of the stops.
use Rattle.std.proofs.Common.{◌≡◌, ℕ, suc, ◌+◌, ◌%◌, ◌^◌, ◌<◌, ◌≤◌, eqb, cond, Bool, true, false, not, ◌||◌, ◌==◌, inl, inr, List, [], ◌∷◌, ◌++◌, map, length}
use Rattle.std.proofs.Common.{take, get_or, Fits, w8, refl, sym, ap, ap₂, ◌∙◌, subst, arith, true≢false}
use Rattle.std.proofs.lemmas.Bool.{agree_below, agree_below_at, cases_lt}
use Rattle.std.proofs.lemmas.List.{length-map}
use Rattle.std.proofs.lemmas.List.Sums.{position_or_len_is, prefix_len-le-length}
use Rattle.std.proofs.lemmas.Simd.{mask_l-mod, zip2-map, length-chunk, leading_from_mask_l, trailing_mask_l, run_in_chunk_le, run_in_chunk_fails}
use Rattle.std.proofs.lemmas.Simd.{run_in_chunk_stops}
use Rattle.std.specs.List.{position_or_len, flat_map}
use lib.Bits.{bit_or, bit_and}
use lib.Count.{count_trailing_zeros}
use lib.Lanes.{Each1, chunk, zip2, mask_l, top}
use Rattle.inv_base.specs.Text.{quoted_character, is_escaped}

-- what a lane becomes where it is the byte
abbrev pub hit : ℕ → ℕ → ℕ
hit a b = cond (eqb a b) 255 0

-- two vectors that were computed lane by lane
pub either : (f g : ℕ → ℕ) (v : List ℕ) {a b : List ℕ} → a ≡ map f v → b ≡ map g v → zip2 bit_or a b ≡ map (λ x. bit_or (f x) (g x)) v
either f g v p q = ap₂ (zip2 bit_or) p q ∙ zip2-map bit_or f g v

pub both_of : (f g : ℕ → ℕ) (v : List ℕ) {a b : List ℕ} → a ≡ map f v → b ≡ map g v → zip2 bit_and a b ≡ map (λ x. bit_and (f x) (g x)) v
both_of f g v p q = ap₂ (zip2 bit_and) p q ∙ zip2-map bit_and f g v

each_byte : (f : ℕ → ℕ) (p : ℕ → Bool) → agree_below (λ x. top 7 (f x)) p 256 ≡ true → (v : List ℕ) → Each1 (Fits w8) v → map (top 7) (map f v) ≡ map p v
each_byte f p all [] fits = refl
each_byte f p all (x ∷ xs) fits = ap₂ (λ a b. a ∷ b) (agree_below_at (λ y. top 7 (f y)) p 256 x all fits.0.fits) (each_byte f p all xs fits.1)

-- The marks are those of a test that agrees at each of the 256 bytes.
pub masked : (f : ℕ → ℕ) (p : ℕ → Bool) (v z : List ℕ) → length v ≡ 16 → Each1 (Fits w8) v → z ≡ map f v → agree_below (λ x. top 7 (f x)) p 256 ≡ true
    → mask_l (map (top 7) z) % 2 ^ 64 ≡ mask_l (map p v)
masked f p v z long fits e all =
    ap (λ l. mask_l l % 2 ^ 64) (ap (map (top 7)) e ∙ each_byte f p all v fits) ∙ mask_l-mod (map p v) 64 (omega (arith, length-map v p))

-- The bytes before a place are none.
abbrev pub NoneBefore : (ℕ → Bool) → List ℕ → ℕ → Type 0
NoneBefore p xs n = (k : ℕ) → k < n → p (get_or xs k 0) ≡ false

module _ (p : ℕ → Bool) (xs : List ℕ) where
  pub first-here : (i : ℕ) → i < length xs → NoneBefore p xs i → p (get_or xs i 0) ≡ true → i ≡ position_or_len p xs
  first-here i within none stops = sym (position_or_len_is p xs i 0 (omega arith) none (λ _. stops))

  pub first-nowhere : (i : ℕ) → i ≤ length xs → length xs ≤ i → NoneBefore p xs i → i ≡ position_or_len p xs
  first-nowhere i within all none = sym (position_or_len_is p xs i 0 within none (λ l. absurd (omega arith)))

  pub none-one-more : (i : ℕ) → NoneBefore p xs i → p (get_or xs i 0) ≡ false → NoneBefore p xs (i + 1)
  none-one-more i none here k l = elim (cases_lt k i) [
    | inl early ↦ none k early
    | inr late ↦ let same : i ≡ k = omega arith in ap (λ j. p (get_or xs j 0)) (sym same) ∙ here
  ]

  pub front-unmarked : (at n marks : ℕ) → at + n ≤ length xs → marks ≡ mask_l (map p (chunk at n xs)) → marks ≡ 0 → n ≡ position_or_len p (chunk at n xs)
  front-unmarked at n marks room e none = sym (leading_from_mask_l p (chunk at n xs) (sym e ∙ none) ∙ length-chunk at n xs room)

  pub front-marked : (at n marks : ℕ) → at + n ≤ length xs → n ≤ 64 → marks ≡ mask_l (map p (chunk at n xs)) → 0 < marks →
      count_trailing_zeros 64 marks ≡ position_or_len p (chunk at n xs)
  front-marked at n marks room few e some =
      ap (count_trailing_zeros 64) e ∙ trailing_mask_l p 64 (chunk at n xs) (omega (arith, length-chunk at n xs room)) (omega (arith, e))

  module _ (at n r : ℕ) (room : at + n ≤ length xs) (counted : r ≡ position_or_len p (chunk at n xs)) where
    pub front-within : r ≤ n
    front-within = run_in_chunk_le p xs at n r 0 room counted

    none-to : (count : ℕ) → at ≤ count → NoneBefore p xs count → NoneBefore p xs (at + r)
    none-to count before none k l = elim (cases_lt k count) [
      | inl early ↦ none k early
      | inr late ↦ run_in_chunk_fails p xs at n r 0 room counted k (omega arith) l
    ]

    -- a block without a stop
    pub none-behind : n ≤ r → NoneBefore p xs at → NoneBefore p xs (at + n)
    none-behind all none k l = none-to at (omega arith) none k (omega arith)

    -- the block with the first stop, or the last one
    pub first-in-block : (count : ℕ) → at ≤ count → NoneBefore p xs count → (at + r < length xs → r < n) → at + r ≡ position_or_len p xs
    first-in-block count before none short =
        sym (position_or_len_is p xs (at + r) 0 (omega (arith, front-within)) (none-to count before none)
        (λ l. run_in_chunk_stops p xs at n r 0 room counted (short l)))

  pub front-bound : (n : ℕ) → n ≡ position_or_len p xs → n ≤ length xs
  front-bound n e = omega (arith, e, prefix_len-le-length (λ x. not (p x)) xs)

-- What isn't escaped stands for itself.
not-escaped : (c : ℕ) (s t u v w : Bool) → (s || (t || (u || (v || w)))) ≡ false
    → cond s (0x5C ∷ 0x5C ∷ []) (cond t (0x5C ∷ 0x22 ∷ []) (cond u (0x5C ∷ 0x6E ∷ []) (cond v (0x5C ∷ 0x72 ∷ []) (cond w (0x5C ∷ 0x74 ∷ []) (c ∷ []))))) ≡ c ∷
    []
not-escaped c true t u v w h = absurd (true≢false h)
not-escaped c false true u v w h = absurd (true≢false h)
not-escaped c false false true v w h = absurd (true≢false h)
not-escaped c false false false true w h = absurd (true≢false h)
not-escaped c false false false false true h = absurd (true≢false h)
not-escaped c false false false false false h = refl

pub plain-front : (bytes : List ℕ) → flat_map quoted_character (take (position_or_len is_escaped bytes) bytes) ≡ take (position_or_len is_escaped bytes) bytes
plain-front [] = refl
plain-front (b ∷ bytes) = by (is_escaped b) refl (plain-front bytes)
  where
    by : (t : Bool) → is_escaped b ≡ t → flat_map quoted_character (take (position_or_len is_escaped bytes) bytes) ≡ take
        (position_or_len is_escaped bytes) bytes
        → flat_map quoted_character (take (cond (not t) (1 + position_or_len is_escaped bytes) 0) (b ∷ bytes)) ≡ take
        (cond (not t) (1 + position_or_len is_escaped bytes) 0) (b ∷ bytes)
    by true e rest = refl
    by false e rest =
        let one : 1 + position_or_len is_escaped bytes ≡ suc (position_or_len is_escaped bytes) = omega arith in
        let own : quoted_character b ≡ b ∷ [] = not-escaped b (b == 0x5C) (b == 0x22) (b == 0xA) (b == 0xD) (b == 0x9) e in
        let front = take (position_or_len is_escaped bytes) bytes in
        ap (λ n. flat_map quoted_character (take n (b ∷ bytes))) one
        ∙ (ap (λ x. x ++ flat_map quoted_character front) own ∙ (ap (λ x. b ∷ x) rest ∙ sym (ap (λ n. take n (b ∷ bytes)) one)))

escaped-twice : (c : ℕ) (s t u v w : Bool) → (s || (t || (u || (v || w)))) ≡ true
    → length (cond s (0x5C ∷ 0x5C ∷ []) (cond t (0x5C ∷ 0x22 ∷ [])
    (cond u (0x5C ∷ 0x6E ∷ []) (cond v (0x5C ∷ 0x72 ∷ []) (cond w (0x5C ∷ 0x74 ∷ []) (c ∷ [])))))) ≡ 2
escaped-twice c true t u v w h = refl
escaped-twice c false true u v w h = refl
escaped-twice c false false true v w h = refl
escaped-twice c false false false true w h = refl
escaped-twice c false false false false true h = refl
escaped-twice c false false false false false h = absurd (true≢false (sym h))

pub plain-progress : (bytes : List ℕ) (byte : ℕ) (after : List ℕ) → bytes ≡ byte ∷ after → quoted_character byte ≡ byte ∷ [] →
    0 < position_or_len is_escaped bytes
plain-progress bytes byte after is plain = subst (λ xs. 0 < position_or_len is_escaped xs) (sym is) (by (is_escaped byte) refl)
  where
    by : (t : Bool) → is_escaped byte ≡ t → 0 < cond (not t) (1 + position_or_len is_escaped after) 0
    by true e =
        let two : 1 ≡ 2 = ap length (sym plain) ∙ escaped-twice byte (byte == 0x5C) (byte == 0x22) (byte == 0xA) (byte == 0xD) (byte == 0x9) e in
        absurd (omega (arith, two))
    by false e = omega arith
