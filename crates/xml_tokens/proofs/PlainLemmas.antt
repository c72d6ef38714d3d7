-- Runs of plain characters.
use Rattle.std.proofs.Common.{◌≡◌, ℕ, ◌<◌, ◌≤◌, nat_lt, Bool, true, false, not, ◌||◌, ◌&&◌, List, [], ◌∷◌, ◌++◌, length, take, drop, refl, sym, ap, ◌∙◌, arith}
use Rattle.std.proofs.Common.{true≢false, cond, suc, ◌+◌, Some}
use Rattle.std.specs.Prelude.{encode_utf8, encode_utf8_all}
use Rattle.std.specs.Str.{chars, IsUtf8}
use Rattle.std.specs.List.{list_all, list_any, position, position_or_len}
use Rattle.std.proofs.lemmas.Str.{encode_ascii, encodes-chars}
use Rattle.std.proofs.lemmas.List.{take-append-drop, drop_at, append_assoc, length-take-le}
use Rattle.std.proofs.lemmas.Bool.Decides.{nat_tests}
use Rattle.inv_base.specs.Characters.{is_char}
use Rattle.xml_tokens.specs.Runs.{is_plain}
use Rattle.xml_tokens.specs.Told.{ends_run}
use Rattle.xml_tokens.proofs.CutLemmas.{place-of}

-- a front, and what is behind it
pub front-of : (bytes front : List ℕ) (n : ℕ) → n ≤ length bytes → front ≡ take n bytes → bytes ≡ front ++ drop (length front) bytes
front-of bytes front n h e =
    let long : length front ≡ n = ap length e ∙ length-take-le n bytes h in
    sym (ap (λ x. x ++ drop (length front) bytes) e ∙ (ap (λ k. take n bytes ++ drop k bytes) long ∙ take-append-drop n bytes))

-- a front of a front
pub front-front : (bytes outer inner : List ℕ) → bytes ≡ outer ++ drop (length outer) bytes → outer ≡ inner ++ drop (length inner) outer → bytes ≡ inner ++
    drop (length inner) bytes
front-front bytes outer inner e f =
    let whole : bytes ≡ inner ++ (drop (length inner) outer ++ drop (length outer) bytes) = e ∙
    (ap (λ x. x ++ drop (length outer) bytes) f ∙ append_assoc inner (drop (length inner) outer) (drop (length outer) bytes)) in
    whole ∙ ap (λ x. inner ++ x) (sym (ap (drop (length inner)) whole ∙
    drop_at inner (drop (length inner) outer ++ drop (length outer) bytes) (length inner) refl))

or-right : (t u : Bool) → (t || u) ≡ false → (t ≡ false) × (u ≡ false)
or-right false u e = (refl, e)
or-right true u e = absurd (true≢false e)

and-both : (t u : Bool) → (t && u) ≡ true → (t ≡ true) × (u ≡ true)
and-both true u e = (refl, e)
and-both false u e = absurd (true≢false (sym e))

pub any-front : (xs ys : List ℕ) → list_any ends_run (xs ++ ys) ≡ false → (list_any ends_run xs ≡ false) × (list_any ends_run ys ≡ false)
any-front [] ys e = (refl, e)
any-front (x ∷ xs) ys e =
    let parts = or-right (ends_run x) (list_any ends_run (xs ++ ys)) e in
    let rest = any-front xs ys parts.1 in
    (ap (λ t. t || list_any ends_run xs) parts.0 ∙ rest.0, rest.1)

pub before-none : (bytes : List ℕ) → list_any ends_run (take (position_or_len ends_run bytes) bytes) ≡ false
before-none [] = refl
before-none (b ∷ bytes) = by (ends_run b) refl (before-none bytes)
  where
    by : (t : Bool) → ends_run b ≡ t → list_any ends_run (take (position_or_len ends_run bytes) bytes) ≡ false →
        list_any ends_run (take (cond (not t) (1 + position_or_len ends_run bytes) 0) (b ∷ bytes)) ≡ false
    by true e rest = refl
    by false e rest =
        let one : 1 + position_or_len ends_run bytes ≡ suc (position_or_len ends_run bytes) = omega arith in
        ap (λ n. list_any ends_run (take n (b ∷ bytes))) one ∙ (ap (λ t. t || list_any ends_run (take (position_or_len ends_run bytes) bytes)) e ∙ rest)

pub before-place : (bytes : List ℕ) (n : ℕ) (front : List ℕ) → Some n ≡ position ends_run bytes → front ≡ take n bytes → list_any ends_run front ≡ false
before-place bytes n front e f =
    let place = place-of ends_run bytes n e in
    ap (list_any ends_run) (f ∙ ap (λ k. take k bytes) (sym place.same)) ∙ before-none bytes

-- Chars whose bytes end no run are plain.
plain-encoded : (cs : List ℕ) → list_all is_char cs ≡ true → list_any ends_run (encode_utf8_all cs) ≡ false → list_all is_plain cs ≡ true
plain-encoded [] h e = refl
plain-encoded (c ∷ cs) h e =
    let chars_are = and-both (is_char c) (list_all is_char cs) h in
    let parts = any-front (encode_utf8 c) (encode_utf8_all cs) e in
    ap (λ t. t && list_all is_plain cs) (ap (λ t. t && not (ends_run c)) chars_are.0 ∙ ap not (by (nat_lt c 128) refl parts.0)) ∙
    plain-encoded cs chars_are.1 parts.1
  where
    is_high : nat_lt c 128 ≡ false → 128 ≤ c
    is_high t = grind (arith, nat_tests)

    is_low : nat_lt c 128 ≡ true → c < 128
    is_low t = grind (arith, nat_tests)

    high_plain : 128 ≤ c → ends_run c ≡ false
    high_plain h = grind (arith, nat_tests)

    by : (t : Bool) → nat_lt c 128 ≡ t → list_any ends_run (encode_utf8 c) ≡ false → ends_run c ≡ false
    by true t e = (or-right (ends_run c) false (ap (list_any ends_run) (sym (encode_ascii c (is_low t))) ∙ e)).0
    by false t e = high_plain (is_high t)

pub plain-told : (text : List ℕ) → IsUtf8 text → list_all is_char (chars text) ≡ true → list_any ends_run text ≡ false → list_all is_plain (chars text) ≡ true
plain-told text u h e = plain-encoded (chars text) h (ap (list_any ends_run) (encodes-chars text u) ∙ e)

pub plain-front : (outer text : List ℕ) → IsUtf8 text → outer ≡ text ++ drop (length text) outer → list_any ends_run outer ≡ false →
    list_all is_char (chars text) ≡ true → list_all is_plain (chars text) ≡ true
plain-front outer text u f e h = plain-told text u h (any-front text (drop (length text) outer) (ap (list_any ends_run) (sym f) ∙ e)).0
