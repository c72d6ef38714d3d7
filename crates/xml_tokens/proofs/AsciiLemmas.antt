-- A test of single bytes that are ASCII is one of the characters.
use Rattle.std.proofs.Common.{◌≡◌, ℕ, ◌<◌, nat_lt, Bool, true, ◌&&◌, List, [], ◌∷◌, refl, sym, ap, ◌∙◌, arith}
use Rattle.std.specs.Str.{chars, IsAscii}
use Rattle.std.specs.List.{list_all}
use Rattle.std.proofs.lemmas.Str.{chars-IsAscii}
use Rattle.std.proofs.lemmas.Str.Ascii.{IsAscii-nil, IsAscii-cons}
use Rattle.std.proofs.lemmas.Bool.Decides.{nat_tests}
use Rattle.std.proofs.lemmas.Bool.{false≢true}
use Rattle.inv_base.proofs.TextLemmas.{both}
use Rattle.inv_base.specs.Characters.{is_name_char, is_name_start}
use Rattle.xml_tokens.specs.Ascii.{is_plain_name_char, is_plain_name_start, is_plain_ncname}
use Rattle.xml_tokens.specs.WrittenNames.{is_ncname}

low : (b : ℕ) → nat_lt b 128 ≡ true → b < 128
low b h = grind (arith, nat_tests)

module _ (test : ℕ → Bool) where
  abbrev is_plain : ℕ → Bool
  is_plain b = nat_lt b 128 && test b

  pub plain-ascii : (bytes : List ℕ) → list_all is_plain bytes ≡ true → IsAscii bytes
  plain-ascii [] h = IsAscii-nil
  plain-ascii (b ∷ bytes) h =
      let parts = both (is_plain b) (list_all is_plain bytes) h in
      IsAscii-cons b bytes (low b (both (nat_lt b 128) (test b) parts.0).0) (plain-ascii bytes parts.1)

  plain-test : (bytes : List ℕ) → list_all is_plain bytes ≡ true → list_all test bytes ≡ true
  plain-test [] h = refl
  plain-test (b ∷ bytes) h =
      let parts = both (is_plain b) (list_all is_plain bytes) h in
      ap (λ t. t && list_all test bytes) (both (nat_lt b 128) (test b) parts.0).1 ∙ plain-test bytes parts.1

  pub plain-all : (bytes text : List ℕ) (result : Bool) → bytes ≡ text → result ≡ list_all is_plain bytes → result ≡ true → result ≡ list_all test (chars text)
  plain-all bytes text result same e h =
      let all : list_all is_plain text ≡ true = ap (list_all is_plain) (sym same) ∙ (sym e ∙ h) in
      h ∙ sym (ap (list_all test) (chars-IsAscii text (plain-ascii text all)) ∙ plain-test text all)

-- an NCName of ASCII is one of characters
pub plain-ncname-of : (bytes : List ℕ) → is_plain_ncname bytes ≡ true → is_ncname (chars bytes) ≡ true
plain-ncname-of [] h = absurd (false≢true h)
plain-ncname-of (b ∷ bytes) h =
    let parts = both (is_plain_name_start b) (list_all is_plain_name_char bytes) h in
    let first = both (nat_lt b 128) (is_name_start b) parts.0 in
    ap is_ncname (chars-IsAscii (b ∷ bytes) (IsAscii-cons b bytes (low b first.0) (plain-ascii is_name_char bytes parts.1)))
    ∙ (ap (λ t. t && list_all is_name_char bytes) first.1 ∙ plain-test is_name_char bytes parts.1)

pub plain-ncname : (bytes text : List ℕ) (result : Bool) → bytes ≡ text → result ≡ is_plain_ncname bytes → result ≡ true → result ≡ is_ncname (chars text)
plain-ncname bytes text result same e h = h ∙ sym (plain-ncname-of text (ap is_plain_ncname (sym same) ∙ (sym e ∙ h)))
