-- Where texts are cut.
use Rattle.std.proofs.Common.{◌≡◌, ℕ, zero, suc, ◌+◌, ◌-◌, ◌<◌, ◌≤◌, ◌==◌, nat_lt, Bool, true, false, not, ◌&&◌, ◌||◌, List, [], ◌∷◌, ◌++◌, length, take, drop}
use Rattle.std.proofs.Common.{get_or, refl, sym, ap, ◌∙◌, arith, Some, None, cond, subst, true≢false}
use Rattle.std.specs.Prelude.{encode_utf8}
use Rattle.std.specs.Str.{chars, IsUtf8, IsCharBoundary}
use Rattle.std.specs.List.{position, position_or_len, list_any, before_first, after_first}
use Rattle.std.proofs.lemmas.List.{drop_at, get_or-drop, length-drop, drop-drop}
use Rattle.std.proofs.lemmas.Str.{IsCharBoundary-start, IsCharBoundary-before_ascii, IsCharBoundary-after_ascii, IsCharBoundary-at_seam}
use Rattle.std.proofs.lemmas.Str.{IsCharBoundary-from_take, IsUtf8-drop, IsUtf8-past_char, chars_past_char}
use Rattle.std.proofs.lemmas.Bool.Decides.{nat_tests}
use Rattle.std.proofs.lemmas.Bool.{eqb-true}
use Rattle.inv_base.specs.Characters.{is_white_space}
use Rattle.xml_tokens.specs.Searches.{begins_with}
use Rattle.xml_tokens.specs.WrittenNames.{ends_name, is_colon}

-- The first character.
pub first-boundary : (text rest : List ℕ) (c n : ℕ) → IsUtf8 text → text ≡ encode_utf8 c ++ rest → n ≡ length (encode_utf8 c) → IsCharBoundary text n
first-boundary text rest c n u e h = subst (λ k. IsCharBoundary text k) (sym h)
    (IsCharBoundary-at_seam text (encode_utf8 c) rest e (IsUtf8-past_char text rest c u e))

pub first-is : (text rest back : List ℕ) (c n : ℕ) → IsUtf8 text → text ≡ encode_utf8 c ++ rest → n ≡ length (encode_utf8 c) → back ≡ drop n text →
    (text ≡ encode_utf8 c ++ back) × (chars text ≡ c ∷ chars back)
first-is text rest back c n u e h b =
    let same : back ≡ rest = b ∙ (ap (drop n) e ∙ drop_at (encode_utf8 c) rest n (sym h)) in
    (e ∙ ap (λ x. encode_utf8 c ++ x) (sym same), chars_past_char text rest c u e ∙ ap (λ x. c ∷ chars x) (sym same))

-- The first place that passes a test.
pub record IsPlace (p : ℕ → Bool) (bytes : List ℕ) (n : ℕ) : Type 0 where
  pub same : position_or_len p bytes ≡ n
  pub within : n < length bytes

place-some : (t : Bool) (k n l : ℕ) → nat_lt k l ≡ t → Some n ≡ cond t (Some k) None → (k ≡ n) × (n < l)
place-some true k n l h e =
    let same : k ≡ n = cc in
    let below : k < l = grind (arith, nat_tests) in
    (same, omega arith)
place-some false k n l h e = cc

pub place-of : (p : ℕ → Bool) (bytes : List ℕ) (n : ℕ) → Some n ≡ position p bytes → IsPlace p bytes n
place-of p bytes n e =
    let is = place-some (nat_lt (position_or_len p bytes) (length bytes)) (position_or_len p bytes) n (length bytes) refl e in
    record { same = is.0; within = is.1 }

place-none : (t : Bool) (k l : ℕ) → nat_lt k l ≡ t → None ≡ cond t (Some k) None → l ≤ k
place-none true k l h e = cc
place-none false k l h e = grind (arith, nat_tests)

pub no-place : (p : ℕ → Bool) (bytes : List ℕ) → None ≡ position p bytes → length bytes ≤ position_or_len p bytes
no-place p bytes e = place-none (nat_lt (position_or_len p bytes) (length bytes)) (position_or_len p bytes) (length bytes) refl e

pub holds-there : (p : ℕ → Bool) (bytes : List ℕ) → position_or_len p bytes < length bytes → p (get_or bytes (position_or_len p bytes) 0) ≡ true
holds-there p [] h = absurd (omega arith)
holds-there p (b ∷ bytes) h = by (p b) refl h (holds-there p bytes)
  where
    by : (t : Bool) → p b ≡ t → cond (not t) (1 + position_or_len p bytes) 0 < suc (length bytes) →
        (position_or_len p bytes < length bytes → p (get_or bytes (position_or_len p bytes) 0) ≡ true) →
        p (get_or (b ∷ bytes) (cond (not t) (1 + position_or_len p bytes) 0) 0) ≡ true
    by true e h rest = e
    by false e h rest =
        let one : 1 + position_or_len p bytes ≡ suc (position_or_len p bytes) = omega arith in
        ap (λ n. p (get_or (b ∷ bytes) n 0)) one ∙ rest (omega arith)

pub fails-before : (p : ℕ → Bool) (bytes : List ℕ) (k : ℕ) → k < position_or_len p bytes → p (get_or bytes k 0) ≡ false
fails-before p [] k h = absurd (omega arith)
fails-before p (b ∷ bytes) k h = by (p b) refl k h (fails-before p bytes)
  where
    by : (t : Bool) → p b ≡ t → (k : ℕ) → k < cond (not t) (1 + position_or_len p bytes) 0 →
        ((k : ℕ) → k < position_or_len p bytes → p (get_or bytes k 0) ≡ false) → p (get_or (b ∷ bytes) k 0) ≡ false
    by true e k h rest = absurd (omega arith)
    by false e zero h rest = e
    by false e (suc k) h rest = rest k (omega arith)

pub place-holds : (p : ℕ → Bool) (bytes : List ℕ) (n : ℕ) → IsPlace p bytes n → p (get_or bytes n 0) ≡ true
place-holds p bytes n place = ap (λ k. p (get_or bytes k 0)) (sym place.same) ∙ holds-there p bytes (omega (arith, place.same, place.within))

-- no place: the first is none
pub none-any : (p : ℕ → Bool) (bytes : List ℕ) → length bytes ≤ position_or_len p bytes → list_any p bytes ≡ false
none-any p [] h = refl
none-any p (b ∷ bytes) h = by (p b) h (none-any p bytes)
  where
    by : (t : Bool) → suc (length bytes) ≤ cond (not t) (1 + position_or_len p bytes) 0 → (length bytes ≤ position_or_len p bytes → list_any p bytes ≡ false) →
        (t || list_any p bytes) ≡ false
    by true h rest = absurd (omega arith)
    by false h rest = rest (omega arith)

pub some-any : (p : ℕ → Bool) (bytes : List ℕ) → position_or_len p bytes < length bytes → list_any p bytes ≡ true
some-any p [] h = absurd (omega arith)
some-any p (b ∷ bytes) h = by (p b) h (some-any p bytes)
  where
    by : (t : Bool) → cond (not t) (1 + position_or_len p bytes) 0 < suc (length bytes) → (position_or_len p bytes < length bytes → list_any p bytes ≡ true) →
        (t || list_any p bytes) ≡ true
    by true h rest = refl
    by false h rest = rest (omega arith)

-- Cuts beside a byte of ASCII.
pub boundary-before : (p : ℕ → Bool) (text : List ℕ) (n : ℕ) → ((b : ℕ) → p b ≡ true → b < 128) → Some n ≡ position p text → IsCharBoundary text n
boundary-before p text n ascii e =
    let place = place-of p text n e in
    IsCharBoundary-before_ascii text n place.within (ascii (get_or text n 0) (place-holds p text n place))

pub boundary-behind : (p : ℕ → Bool) (text : List ℕ) (n : ℕ) → IsUtf8 text → ((b : ℕ) → not (p b) ≡ false → b < 128) → Some n ≡ position (λ b. not (p b)) text →
    IsCharBoundary text n
boundary-behind p text n u ascii e = by n (place-of (λ b. not (p b)) text n e)
  where
    by : (n : ℕ) → IsPlace (λ b. not (p b)) text n → IsCharBoundary text n
    by zero place = IsCharBoundary-start text u
    by (suc k) place =
        let within : suc k < length text = place.within in
        let same : position_or_len (λ b. not (p b)) text ≡ suc k = place.same in
        let last : get_or text k 0 < 128 = ascii (get_or text k 0) (fails-before (λ b. not (p b)) text k (omega arith)) in
        let one : k + 1 ≡ suc k = omega arith in
        subst (λ m. IsCharBoundary text m) one (IsCharBoundary-after_ascii text k u (omega arith) last)

pub name-end-ascii : (b : ℕ) → ends_name b ≡ true → b < 128
unfolding is_white_space
name-end-ascii b e = grind (arith, nat_tests)

pub space-ascii : (b : ℕ) → not (is_white_space b) ≡ false → b < 128
unfolding is_white_space
space-ascii b e = grind (arith, nat_tests)

pub colon-ascii : (b : ℕ) → is_colon b ≡ true → b < 128
colon-ascii b e = grind (arith, nat_tests)

pub quote-ascii : (quote b : ℕ) → quote ≤ 127 → (b == quote) ≡ true → b < 128
quote-ascii quote b h e = grind (arith, nat_tests)

-- A cut behind one byte of ASCII.
pub boundary-one : (text : List ℕ) → IsUtf8 text → 0 < length text → get_or text 0 0 < 128 → IsCharBoundary text 1
boundary-one text u h e = IsCharBoundary-after_ascii text 0 u h e

-- A cut behind a word.
pub begins-front : (word bytes : List ℕ) → begins_with word bytes ≡ true → take (length word) bytes ≡ word
begins-front [] bytes e = refl
begins-front (c ∷ word) [] e = absurd (true≢false (sym e))
begins-front (c ∷ word) (b ∷ bytes) e = by (b == c) refl e (begins-front word bytes)
  where
    same : (b == c) ≡ true → b ≡ c
    same f = eqb-true b c f

    by : (t : Bool) → (b == c) ≡ t → (t && begins_with word bytes) ≡ true → (begins_with word bytes ≡ true → take (length word) bytes ≡ word) →
        (b ∷ take (length word) bytes) ≡ c ∷ word
    by true f e rest = ap (λ x. x ∷ take (length word) bytes) (same f) ∙ ap (λ x. c ∷ x) (rest e)
    by false f e rest = absurd (true≢false (sym e))

pub boundary-word : (word text : List ℕ) → IsUtf8 word → IsUtf8 text → length word ≤ length text → begins_with word text ≡ true →
    IsCharBoundary text (length word)
boundary-word word text w u h e = IsCharBoundary-from_take text (length word) u h (subst IsUtf8 (sym (begins-front word text e)) w)

-- A text cut at the first byte that passes a test of ASCII.
pub boundary-rest : (p : ℕ → Bool) (text : List ℕ) (n : ℕ) (back : List ℕ) → IsUtf8 text → ((b : ℕ) → p b ≡ true → b < 128) → Some n ≡ position p text →
    back ≡ drop n text → IsCharBoundary back 1
boundary-rest p text n back u ascii e b =
    let place = place-of p text n e in
    let first : get_or back 0 0 ≡ get_or text n 0 = ap (λ x. get_or x 0 0) b ∙
    (get_or-drop n text 0 0 ∙ (let k : n + 0 ≡ n = omega arith in ap (λ m. get_or text m 0) k)) in
    let below : get_or text n 0 < 128 = ascii (get_or text n 0) (place-holds p text n place) in
    let long : length back ≡ length text - n = ap length b ∙ length-drop n text in
    let within : n < length text = place.within in
    boundary-one back (subst IsUtf8 (sym b) (IsUtf8-drop text n u (boundary-before p text n ascii e))) (omega arith) (omega arith)

-- what is before it and behind it
pub record IsSplit (p : ℕ → Bool) (text front behind : List ℕ) : Type 0 where
  pub any : list_any p text ≡ true
  pub before : front ≡ before_first p text
  pub after : behind ≡ after_first p text

pub split-of : (p : ℕ → Bool) (text : List ℕ) (n : ℕ) (front back behind : List ℕ) → Some n ≡ position p text → front ≡ take n text → back ≡ drop n text →
    behind ≡ drop 1 back → IsSplit p text front behind
split-of p text n front back behind e f g h =
    let place = place-of p text n e in
    let same : position_or_len p text ≡ n = place.same in
    let within : n < length text = place.within in
    record {
      any = some-any p text (omega arith);
      before = f ∙ ap (λ k. take k text) (sym same);
      after = h ∙ (ap (drop 1) g ∙ (drop-drop 1 n text ∙ ap (λ k. drop (k + 1) text) (sym same)));
    }
