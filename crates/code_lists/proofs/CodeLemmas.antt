-- A set of codes, kept as texts, as the list of codes that contracts see.
use Rattle.std.proofs.Common.{◌≡◌, ℕ, Bool, true, false, List, [], ◌∷◌, ◌++◌, map, refl, sym, ap, ◌∙◌, String, string_bytes, chars, ◌||◌, if◌then◌else◌, ◌<◌}
use Rattle.std.proofs.Common.{nat_lt, arith}
use Rattle.std.specs.Global.{Global}
use Rattle.std.specs.Str.{bytes_eq, IsUtf8, encode_utf8_all}
use Rattle.std.specs.List.{list_any, list_all}
use Rattle.std.proofs.lemmas.Str.{encodes-chars, IsUtf8-string_bytes, chars-IsAscii}
use Rattle.std.proofs.lemmas.List.{map-append}
use Rattle.std.proofs.lemmas.Slice.Eq.{bytes_eq-Decides}
use Rattle.std.proofs.lemmas.Bool.Decides.{same_from_decides, Decides-like, nat_tests}
use Rattle.std.proofs.lemmas.Bool.{and_parts}
use Rattle.std.specs.Str.{IsAscii}
use Rattle.std.proofs.lemmas.Str.Ascii.{IsAscii-nil, IsAscii-cons}
use Rattle.code_lists.specs.Codes.{has_code, with_code}

-- the codes of the texts
abbrev pub texts_of : List (String Global) → List (List ℕ)
texts_of keys = map (λ text. chars (string_bytes text)) keys

-- texts are equal where their characters are
pub same_text : (a b : List ℕ) → IsUtf8 a → IsUtf8 b → bytes_eq (chars a) (chars b) ≡ bytes_eq a b
same_text a b u v = same_from_decides _ _ (bytes_eq-Decides (chars a) (chars b))
    (Decides-like _ (λ e. ap chars e) (λ e. sym (encodes-chars a u) ∙ (ap encode_utf8_all e ∙ encodes-chars b v)) (bytes_eq-Decides a b))

module _ (q : List ℕ) (u : IsUtf8 q) where
  pub has_text : (keys : List (String Global)) → has_code (texts_of keys) (chars q) ≡ list_any (λ k. bytes_eq q (string_bytes k)) keys
  has_text [] = refl
  has_text (k ∷ keys) = ap (λ b. b || has_code (texts_of keys) (chars q)) (same_text q (string_bytes k) u (IsUtf8-string_bytes k)) ∙
      ap (λ b. bytes_eq q (string_bytes k) || b) (has_text keys)

  -- what a look-up says
  pub found_text : (keys : List (String Global)) (codes : List (List ℕ)) (r : Bool) → texts_of keys ≡ codes →
      r ≡ list_any (λ k. bytes_eq q (string_bytes k)) keys → r ≡ has_code codes (chars q)
  found_text keys codes r view found = found ∙ (sym (has_text keys) ∙ ap (λ codes. has_code codes (chars q)) view)

  added_by : (b : Bool) (key : String Global) (keys : List (String Global)) → string_bytes key ≡ q
      → texts_of (if b then keys else keys ++ key ∷ []) ≡ (if b then texts_of keys else texts_of keys ++ chars q ∷ [])
  added_by true key keys same = refl
  added_by false key keys same = map-append (λ (k : String Global). chars (string_bytes k)) keys (key ∷ []) ∙ ap (λ x. texts_of keys ++ chars x ∷ []) same

  -- what an insertion leaves
  pub added_text : (key : String Global) (keys more : List (String Global)) (codes : List (List ℕ)) → texts_of keys ≡ codes → string_bytes key ≡ q
      → more ≡ (if list_any (λ k. bytes_eq (string_bytes key) (string_bytes k)) keys then keys else keys ++ key ∷ []) →
      texts_of more ≡ with_code codes (chars q)
  added_text key keys more codes view same after =
      let test : list_any (λ k. bytes_eq (string_bytes key) (string_bytes k)) keys ≡ has_code (texts_of keys) (chars q) =
      ap (λ x. list_any (λ k. bytes_eq x (string_bytes k)) keys) same ∙ sym (has_text keys) in
      ap texts_of (after ∙ ap (λ b. if b then keys else keys ++ key ∷ []) test)
      ∙ (added_by (has_code (texts_of keys) (chars q)) key keys same ∙ ap (λ codes. with_code codes (chars q)) view)

-- texts of ASCII are their own characters
abbrev pub is_ascii_text : List ℕ → Bool
is_ascii_text text = list_all (λ b. nat_lt b 128) text

ascii_from : (text : List ℕ) → is_ascii_text text ≡ true → IsAscii text
ascii_from [] h = IsAscii-nil
ascii_from (b ∷ bs) h =
    let (here, later) = and_parts (nat_lt b 128) (list_all (λ b. nat_lt b 128) bs) h in
    let low : b < 128 = grind (arith, nat_tests) in
    IsAscii-cons b bs low (ascii_from bs later)

pub chars_of_ascii : (texts : List (List ℕ)) → list_all is_ascii_text texts ≡ true → map chars texts ≡ texts
chars_of_ascii [] h = refl
chars_of_ascii (t ∷ texts) h =
    let (here, later) = and_parts (is_ascii_text t) (list_all is_ascii_text texts) h in
    ap (λ x. x ∷ map chars texts) (chars-IsAscii t (ascii_from t here)) ∙ ap (λ ts. t ∷ ts) (chars_of_ascii texts later)
