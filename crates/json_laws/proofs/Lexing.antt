-- How the reader's lexer goes over JSON text.
use Rattle.std.proofs.Common.{◌≡◌, ℕ, zero, suc, ◌^◌, ◌<◌, ◌≤◌, Bool, true, List, [], ◌∷◌, ◌++◌, inl, inr}
use Rattle.std.proofs.Common.{refl, ap, ap₂, sym, ◌∙◌, append_assoc, arith}
use Rattle.std.specs.Fmt.{decimal}
use Rattle.std.specs.List.{flat_map}
use Rattle.std.specs.Str.{bytes_eq}
use Rattle.std.proofs.lemmas.Bool.{agree_below, agree_below_at, cases_lt}
use Rattle.std.proofs.lemmas.Bool.Decides.{nat_tests}
use Rattle.std.proofs.lemmas.Fmt.{IsAscii-decimal}
use Rattle.std.proofs.lemmas.Slice.Eq.{bytes_eq-Decides}
use Rattle.std.proofs.lemmas.Str.{encodes-append, encodes-IsAscii}
use lib.Utf8.{encodes, encode}
use Rattle.inv_base.proofs.EscapeLemmas.{flat_map-encodes}
use Rattle.json.specs.Token.{string, number}
use Rattle.json.specs.Word.{ends_word}
use Rattle.json.specs.Lex.{token, string_token, lex, between}
use Rattle.json.specs.Print.{escape, escape_byte, quoted}
use Rattle.json.proofs.Printed.Strings.{content-escape, lex-escape}
use Rattle.json.proofs.Printed.Numbers.{lex-number}
use Rattle.json.proofs.Printed.Decimals.{IsNumber-decimal}
use Rattle.json_text.specs.Layout.{short_escape, character_text, string_text, indent, new_line}
use Rattle.json_text.proofs.StringLemmas.{character-plain, character-IsAsciiEscape}
use Rattle.json_text.proofs.LayoutLemmas.{encode-new_line}

-- a text before another, and then more
pub encode-behind : (a b r : List ℕ) → encodes (a ++ b) ++ r ≡ encodes a ++ (encodes b ++ r)
encode-behind a b r = ap (λ x. x ++ r) (encodes-append a b) ∙ append_assoc (encodes a) (encodes b) r

-- What stands for a character is what the library's writer writes for it.
is_same : ℕ → Bool
is_same c = bytes_eq (character_text c) (escape_byte c)

all_same : agree_below is_same (λ _. true) 128 ≡ true
unfolding is_same character_text short_escape escape_byte
all_same = refl

escape_byte-plain : (c : ℕ) → 128 ≤ c → escape_byte c ≡ c ∷ []
unfolding escape_byte
escape_byte-plain c h = grind (arith, nat_tests)

escape-same : (c : ℕ) → character_text c ≡ escape_byte c
unfolding is_same
escape-same c = elim (cases_lt c 128) [
  | inl below ↦ (bytes_eq-Decides (character_text c) (escape_byte c)).0 (agree_below_at is_same (λ _. true) 128 c all_same below)
  | inr above ↦ character-plain c above ∙ sym (escape_byte-plain c above)
]

escape-all : (bytes : List ℕ) → flat_map character_text bytes ≡ escape bytes
escape-all [] = refl
escape-all (b ∷ bytes) = ap₂ (λ x y. x ++ y) (escape-same b) (escape-all bytes)

string-bytes : (characters : List ℕ) → encodes (string_text characters) ≡ quoted (encodes characters)
unfolding encode
string-bytes characters =
    ap (λ x. 0x22 ∷ x)
    (encodes-append (flat_map character_text characters) (0x22 ∷ [])
    ∙ ap (λ x. x ++ 0x22 ∷ []) (sym (flat_map-encodes character_text character-IsAsciiEscape characters) ∙ escape-all (encodes characters)))

lex-quoted : (s r : List ℕ) → lex between (quoted s ++ r) ≡ token (string s) ∷ lex between r
unfolding lex
lex-quoted s r =
    ap (λ l. lex between (34 ∷ l)) (append_assoc (escape s) (34 ∷ []) r) ∙ ap₂ (λ o l. token (string_token o) ∷ l) (content-escape s r) (lex-escape s r)

pub lex-string : (characters r : List ℕ) → lex between (encodes (string_text characters) ++ r) ≡ token (string (encodes characters)) ∷ lex between r
lex-string characters r = ap (λ x. lex between (x ++ r)) (string-bytes characters) ∙ lex-quoted (encodes characters) r

pub lex-decimal : (n : ℕ) (r : List ℕ) → n < 2 ^ 64 → ends_word r ≡ true → lex between (encodes (decimal n) ++ r) ≡ token (number (decimal n)) ∷ lex between r
lex-decimal n r h ends =
    ap (λ x. lex between (x ++ r)) (encodes-IsAscii (decimal n) (IsAscii-decimal n h)) ∙ lex-number (decimal n) r (IsNumber-decimal n h) ends

lex-indent : (depth : ℕ) (r : List ℕ) → lex between (indent depth ++ r) ≡ lex between r
unfolding lex
lex-indent zero r = refl
lex-indent (suc depth) r = lex-indent depth r

pub lex-new_line : (depth : ℕ) (r : List ℕ) → lex between (encodes (new_line depth) ++ r) ≡ lex between r
unfolding lex
lex-new_line depth r = ap (λ x. lex between (x ++ r)) (encode-new_line depth) ∙ lex-indent depth r
