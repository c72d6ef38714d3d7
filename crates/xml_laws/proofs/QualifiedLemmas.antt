-- Names as canonical text writes them, with a prefix or without.
use Rattle.std.proofs.Common.{◌≡◌, ℕ, ◌≤◌, Bool, true, false, not, ◌&&◌, ◌||◌, ◌==◌, List, [], ◌∷◌, ◌++◌, length, refl, sym, ap, ◌∙◌, arith, Some, None, chars}
use Rattle.std.proofs.Common.{encode_utf8_all, true≢false}
use Rattle.std.specs.List.{list_all, list_any, before_first, after_first}
use Rattle.std.specs.Str.{bytes_eq}
use Rattle.std.proofs.lemmas.List.Folds.{list_all-append}
use Rattle.std.proofs.lemmas.Bool.Decides.{nat_tests, same_from_decides, Decides-like}
use Rattle.std.proofs.lemmas.Slice.Eq.{bytes_eq-Decides}
use Rattle.std.proofs.lemmas.Str.{encodes-append, encodes_same}
use lib.Utf8.{encode, encodes}
use Rattle.inv_base.specs.Characters.{is_char, is_white_space, is_name_start, is_name_char}
use Rattle.inv_base.proofs.TextLemmas.{both}
use Rattle.xml_tokens.specs.WrittenNames.{is_colon, is_ncname, prefix_of, local_of, is_qname}
use Rattle.xml_state.specs.Namespaces.{xmlns, declared_prefix}
use Rattle.xml_write.specs.Canonical.{qualified, declaring_name}
use Rattle.inv_base.proofs.CharacterLemmas.{char-scalar}
use Rattle.xml_laws.proofs.EncodedLemmas.{all-implied, chars-back, passes-encodes, ncname-characters, ncname-chars}
use Rattle.xml_tokens.proofs.CharacterLemmas.{chosen, passed, begins}
use Rattle.xml_laws.proofs.SplitLemmas.{before-front, after-front, any-front, any-none}
use Rattle.xml_laws.proofs.RestLemmas.{not_none}
use Rattle.xml_laws.proofs.AttributeLemmas.{may_name, IsWrittenName}

-- Texts are equal where their bytes are.
pub eq-encoded : (a b : List ℕ) → bytes_eq (encode_utf8_all a) (encode_utf8_all b) ≡ bytes_eq a b
eq-encoded a b =
    same_from_decides _ _ (Decides-like (bytes_eq (encode_utf8_all a) (encode_utf8_all b)) (encodes_same a b) (λ e. ap encode_utf8_all e)
    (bytes_eq-Decides (encode_utf8_all a) (encode_utf8_all b))) (bytes_eq-Decides a b)

-- no prefix, or an NCName
abbrev pub is_prefix : List ℕ → Bool
is_prefix prefix = length prefix == 0 || is_ncname prefix

abbrev name_or_colon : ℕ → Bool
name_or_colon c = is_name_char c || c == 0x3A

name_or_colon-may : (c : ℕ) → name_or_colon c ≡ true → may_name c ≡ true
unfolding is_name_char is_name_start is_white_space
name_or_colon-may c h = grind (arith, nat_tests)

may-high : (c : ℕ) → 128 ≤ c → may_name c ≡ true
unfolding is_white_space
may-high c h = grind (arith, nat_tests)

name_or_colon-char : (c : ℕ) → name_or_colon c ≡ true → is_char c ≡ true
unfolding is_name_char is_name_start is_char
name_or_colon-char c h = grind (arith, nat_tests)

uncoloned : (c : ℕ) → is_name_char c ≡ true → not (is_colon c) ≡ true
unfolding is_name_char is_name_start
uncoloned c h = grind (arith, nat_tests)

uncoloned-high : (c : ℕ) → 128 ≤ c → not (is_colon c) ≡ true
uncoloned-high c h = grind (arith, nat_tests)

-- An NCName has no colon in its bytes.
no_colon : (name : List ℕ) → is_ncname name ≡ true → list_all (λ c. not (is_colon c)) (encode_utf8_all name) ≡ true
no_colon name h = passes-encodes (λ c. not (is_colon c)) uncoloned-high name
    (all-implied is_name_char (λ c. not (is_colon c)) uncoloned name (ncname-characters name h))

named : (name : List ℕ) → is_ncname name ≡ true → list_all name_or_colon name ≡ true
named name h = all-implied is_name_char name_or_colon (λ c q. ap (λ t. t || c == 0x3A) q) name (ncname-characters name h)

-- A name as it is written by its bytes, of a prefix and a local name.
pub record IsQualified (prefix local name : List ℕ) : Type 0 where
  pub written : IsWrittenName name
  pub prefix_is : prefix_of name ≡ encode_utf8_all prefix
  pub local_is : local_of name ≡ encode_utf8_all local

written-name : (characters : List ℕ) → list_all name_or_colon characters ≡ true → ¬ (characters ≡ []) → is_qname (encode_utf8_all characters) ≡ true →
    IsWrittenName (encode_utf8_all characters)
written-name [] h some q = absurd (some refl)
written-name (c ∷ characters) h some q =
    let p = both (name_or_colon c) (list_all name_or_colon characters) h in
    let b = begins c (encode_utf8_all characters) (char-scalar c (name_or_colon-char c p.0)) in
    record {
      characters = c ∷ characters;
      chars = all-implied name_or_colon is_char name_or_colon-char (c ∷ characters) h;
      encoded = refl;
      qname = q;
      plain = passes-encodes may_name may-high (c ∷ characters) (all-implied name_or_colon may_name name_or_colon-may (c ∷ characters) h);
      first = b.first;
      more = b.behind;
      is = b.is;
    }

not_empty : (name : List ℕ) → is_ncname name ≡ true → ¬ (name ≡ [])
not_empty name h e = true≢false (sym h ∙ ap is_ncname e)

unprefixed : (local : List ℕ) → is_ncname local ≡ true → IsQualified [] local (encode_utf8_all local)
unfolding is_qname
unprefixed local h =
    let none : list_any is_colon (encode_utf8_all local) ≡ false = any-none is_colon (encode_utf8_all local) (no_colon local h) in
    let back : chars (encode_utf8_all local) ≡ local = chars-back local (ncname-chars local h) in
    record {
      written = written-name local (named local h) (not_empty local h) (passed (list_any is_colon (encode_utf8_all local)) _ _ none ∙ (ap is_ncname back ∙ h));
      prefix_is = passed (list_any is_colon (encode_utf8_all local)) _ _ none;
      local_is = passed (list_any is_colon (encode_utf8_all local)) _ _ none;
    }

prefixed : (prefix local : List ℕ) → is_ncname prefix ≡ true → is_ncname local ≡ true → IsQualified prefix local (encode_utf8_all (prefix ++ (0x3A ∷ local)))
unfolding is_qname encode
prefixed prefix local g h =
    let bytes = encode_utf8_all (prefix ++ (0x3A ∷ local)) in
    let split : bytes ≡ encode_utf8_all prefix ++ (0x3A ∷ encode_utf8_all local) = encodes-append prefix (0x3A ∷ local) in
    let some : list_any is_colon bytes ≡ true = ap (list_any is_colon) split ∙ any-front is_colon (encode_utf8_all prefix) 0x3A (encode_utf8_all local) refl in
    let front : prefix_of bytes ≡ encode_utf8_all prefix =
    chosen (list_any is_colon bytes) _ _ some ∙
    (ap (before_first is_colon) split ∙ before-front is_colon (encode_utf8_all prefix) 0x3A (encode_utf8_all local) (no_colon prefix g) refl) in
    let last : local_of bytes ≡ encode_utf8_all local =
    chosen (list_any is_colon bytes) _ _ some ∙
    (ap (after_first is_colon) split ∙ after-front is_colon (encode_utf8_all prefix) 0x3A (encode_utf8_all local) (no_colon prefix g) refl) in
    let all : list_all name_or_colon (prefix ++ (0x3A ∷ local)) ≡ true =
    list_all-append name_or_colon prefix (0x3A ∷ local) ∙
    (ap (λ t. t && list_all name_or_colon (0x3A ∷ local)) (named prefix g) ∙ colon_then local (named local h)) in
    record {
      written = written-name (prefix ++ (0x3A ∷ local)) all (no_empty prefix local) (
          chosen (list_any is_colon bytes) _ _ some
          ∙ (ap (λ x. is_ncname (chars x) && is_ncname (chars (local_of bytes))) front
          ∙ (ap (λ x. is_ncname (chars (encode_utf8_all prefix)) && is_ncname (chars x)) last
          ∙ (ap (λ x. is_ncname x && is_ncname (chars (encode_utf8_all local))) (chars-back prefix (ncname-chars prefix g))
          ∙ (ap (λ t. t && is_ncname (chars (encode_utf8_all local))) g ∙ (ap is_ncname (chars-back local (ncname-chars local h)) ∙ h)))))
          );
      prefix_is = front;
      local_is = last;
    }
  where
    no_empty : (prefix local : List ℕ) → ¬ (prefix ++ (0x3A ∷ local) ≡ [])
    no_empty [] local e = cc
    no_empty (c ∷ prefix) local e = cc

    colon_then : (local : List ℕ) → list_all name_or_colon local ≡ true → list_all name_or_colon (0x3A ∷ local) ≡ true
    colon_then local e = ap (λ t. t && list_all name_or_colon local) (is_colon-too 0x3A refl) ∙ e
      where
        is_colon-too : (c : ℕ) → (c == 0x3A) ≡ true → name_or_colon c ≡ true
        is_colon-too c e = ap (λ t. is_name_char c || t) e ∙ or_true (is_name_char c)
          where
            or_true : (b : Bool) → (b || true) ≡ true
            or_true true = refl
            or_true false = refl

-- a prefix that isn't empty is an NCName
pub named-prefix : (c : ℕ) (prefix : List ℕ) → is_prefix (c ∷ prefix) ≡ true → is_ncname (c ∷ prefix) ≡ true
named-prefix c prefix g = by (length (c ∷ prefix) == 0) (not_none (length prefix)) g
  where
    by : (t : Bool) → t ≡ false → (t || is_ncname (c ∷ prefix)) ≡ true → is_ncname (c ∷ prefix) ≡ true
    by true e g = absurd (true≢false e)
    by false e g = g

pub qualified-written : (prefix local : List ℕ) → is_prefix prefix ≡ true → is_ncname local ≡ true →
    IsQualified prefix local (encode_utf8_all (qualified prefix local))
qualified-written [] local g h = unprefixed local h
qualified-written (c ∷ prefix) local g h = prefixed (c ∷ prefix) local (named-prefix c prefix g) h

-- the names of declarations
xmlns-name : is_ncname xmlns ≡ true
unfolding is_name_start is_name_char
xmlns-name = refl

pub xmlns-encoded : encode_utf8_all xmlns ≡ xmlns
unfolding encode
xmlns-encoded = refl

pub declaring-written : (prefix : List ℕ) → is_prefix prefix ≡ true → IsWrittenName (encode_utf8_all (declaring_name prefix))
declaring-written [] g = (unprefixed xmlns xmlns-name).written
declaring-written (c ∷ prefix) g = (prefixed xmlns (c ∷ prefix) xmlns-name (named-prefix c prefix g)).written

-- A declaration declares its prefix.
pub declaring-declares : (prefix : List ℕ) → is_prefix prefix ≡ true → declared_prefix (encode_utf8_all (declaring_name prefix)) ≡ Some (encode_utf8_all prefix)
unfolding encode
declaring-declares [] g = refl
declaring-declares (c ∷ prefix) g =
    let q = prefixed xmlns (c ∷ prefix) xmlns-name (named-prefix c prefix g) in
    chosen (bytes_eq (prefix_of (encode_utf8_all (declaring_name (c ∷ prefix)))) xmlns) (Some (local_of (encode_utf8_all (declaring_name (c ∷ prefix))))) None
    (ap (λ x. bytes_eq x xmlns) q.prefix_is) ∙ ap Some q.local_is
