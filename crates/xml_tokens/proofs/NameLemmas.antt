-- Names by their bytes and by their characters.
use Rattle.std.proofs.Common.{◌≡◌, ℕ, ◌<◌, ◌≤◌, nat_eq, nat_lt, Bool, true, false, ◌&&◌, List, [], ◌∷◌, ◌++◌, length, map, refl, sym, ap, ◌∙◌, arith}
use Rattle.std.proofs.Common.{if◌then◌else◌}
use Rattle.std.specs.Prelude.{codes, encode_utf8, encode_utf8_all}
use Rattle.std.specs.Str.{chars, IsUtf8, bytes_eq}
use Rattle.std.specs.Char.{to_ascii_lowercase}
use Rattle.std.specs.List.{before_first, after_first, position_or_len}
use Rattle.std.proofs.lemmas.Str.{chars-nil, encode_ascii, length-encode, len_utf8_bounds, char_from_byte, encodes-chars}
use Rattle.std.proofs.lemmas.Bool.Decides.{nat_tests}
use Rattle.xml_tokens.specs.WrittenNames.{is_colon, is_ncname, prefix_of, local_of, is_qname}
use Rattle.xml_tokens.proofs.CutLemmas.{IsSplit, none-any}
use Rattle.std.proofs.lemmas.List.{append-nil}

pub ncname-nothing : (name : List ℕ) → name ≡ [] → false ≡ is_ncname (chars name)
ncname-nothing name e = ap (λ cs. is_ncname cs) (sym (ap chars e ∙ chars-nil))

abbrev pub by_parts : Bool → List ℕ → List ℕ → List ℕ → Bool
by_parts t name prefix local = if t then is_ncname (chars prefix) && is_ncname (chars local) else is_ncname (chars name)

pub qname-parts : (name prefix local : List ℕ) → IsSplit is_colon name prefix local → is_qname name ≡ (is_ncname (chars prefix) && is_ncname (chars local))
unfolding is_qname
qname-parts name prefix local split =
    let parts : (prefix_of name ≡ prefix) × (local_of name ≡ local) = (
      ap (λ t. if t then before_first is_colon name else []) split.any ∙ sym split.before,
      ap (λ t. if t then after_first is_colon name else name) split.any ∙
          sym split.after,
    ) in
    ap (λ t. by_parts t name (prefix_of name) (local_of name)) split.any
    ∙ (ap (λ x. is_ncname (chars x) && is_ncname (chars (local_of name))) parts.0 ∙ ap (λ x. is_ncname (chars prefix) && is_ncname (chars x)) parts.1)

pub qname-whole : (name : List ℕ) → length name ≤ position_or_len is_colon name → is_qname name ≡ is_ncname (chars name)
unfolding is_qname
qname-whole name h = ap (λ t. by_parts t name (prefix_of name) (local_of name)) (none-any is_colon name h)

-- A word of ASCII is told by the bytes as by the characters.
abbrev KeepsHigh : (ℕ → ℕ) → Type 0
KeepsHigh f = (c : ℕ) → 128 ≤ c → 128 ≤ f c

abbrev AllLow : List ℕ → Type 0
AllLow [] = Unit {0}
AllLow (b ∷ word) = (b < 128) × AllLow word

differs : (a b : ℕ) (xs ys : List ℕ) → 128 ≤ a → b < 128 → bytes_eq (a ∷ xs) (b ∷ ys) ≡ false
differs a b xs ys h g =
    let e : nat_eq a b ≡ false = grind (arith, nat_tests) in
    ap (λ t. t && bytes_eq xs ys) e

high-first : (f : ℕ → ℕ) → KeepsHigh f → (c : ℕ) (xs rest : List ℕ) (b : ℕ) (word : List ℕ) → 128 ≤ c → b < 128 → encode_utf8 c ≡ xs →
    bytes_eq (map f (xs ++ rest)) (b ∷ word) ≡ false
high-first f keeps c [] rest b word h g e =
    let long : length (encode_utf8 c) ≡ 0 = ap length e in
    let bound = len_utf8_bounds c in
    absurd (omega (arith, long, length-encode c, bound.0))
high-first f keeps c (x ∷ xs) rest b word h g e =
    by (nat_lt x 128) refl
  where
    high : nat_lt x 128 ≡ false → 128 ≤ x
    high t = grind (arith, nat_tests)

    low : nat_lt x 128 ≡ true → x < 128
    low t = grind (arith, nat_tests)

    by : (t : Bool) → nat_lt x 128 ≡ t → bytes_eq (map f ((x ∷ xs) ++ rest)) (b ∷ word) ≡ false
    by false t = differs (f x) b (map f (xs ++ rest)) word (keeps x (high t)) g
    by true t =
        let same : c ≡ x = char_from_byte (x ∷ xs) [] c (sym (append-nil (encode_utf8 c) ∙ e)) (low t) (omega arith) in
        absurd (omega (arith, low t))

pub word-told : (f : ℕ → ℕ) → KeepsHigh f → (cs word : List ℕ) → AllLow word → bytes_eq (map f cs) word ≡ bytes_eq (map f (encode_utf8_all cs)) word
word-told f keeps [] word low = refl
word-told f keeps (c ∷ cs) [] low = by (encode_utf8 c) refl
  where
    by : (xs : List ℕ) → encode_utf8 c ≡ xs → bytes_eq (map f (c ∷ cs)) [] ≡ bytes_eq (map f (xs ++ encode_utf8_all cs)) []
    by [] e =
        let long : length (encode_utf8 c) ≡ 0 = ap length e in
        let bound = len_utf8_bounds c in
        absurd (omega (arith, long, length-encode c, bound.0))
    by (x ∷ xs) e = refl
word-told f keeps (c ∷ cs) (b ∷ word) low = by (nat_lt c 128) refl (word-told f keeps cs word low.1)
  where
    is_high : nat_lt c 128 ≡ false → 128 ≤ c
    is_high t = grind (arith, nat_tests)

    is_low : nat_lt c 128 ≡ true → c < 128
    is_low t = grind (arith, nat_tests)

    by : (t : Bool) → nat_lt c 128 ≡ t → bytes_eq (map f cs) word ≡ bytes_eq (map f (encode_utf8_all cs)) word →
        bytes_eq (map f (c ∷ cs)) (b ∷ word) ≡ bytes_eq (map f (encode_utf8 c ++ encode_utf8_all cs)) (b ∷ word)
    by true t rest = ap (λ x. nat_eq (f c) b && x) rest ∙ sym (ap (λ xs. bytes_eq (map f (xs ++ encode_utf8_all cs)) (b ∷ word)) (encode_ascii c (is_low t)))
    by false t rest = differs (f c) b (map f cs) word (keeps c (is_high t)) low.0 ∙
        sym (high-first f keeps c (encode_utf8 c) (encode_utf8_all cs) b word (is_high t) low.0 refl)

lower-high : KeepsHigh to_ascii_lowercase
lower-high c h = grind (arith, nat_tests)

xml-low : AllLow (codes "xml")
xml-low = (omega arith, (omega arith, (omega arith, tt)))

pub lower-told : (text : List ℕ) → IsUtf8 text → bytes_eq (map to_ascii_lowercase (chars text)) (codes "xml") ≡ bytes_eq (map to_ascii_lowercase text)
    (codes "xml")
lower-told text u = word-told to_ascii_lowercase lower-high (chars text) (codes "xml") xml-low ∙
    ap (λ x. bytes_eq (map to_ascii_lowercase x) (codes "xml")) (encodes-chars text u)

same-high : KeepsHigh (λ c. c)
same-high c h = h

map-same : (xs : List ℕ) → map (λ c. c) xs ≡ xs
map-same [] = refl
map-same (x ∷ xs) = ap (λ ys. x ∷ ys) (map-same xs)

pub xml-told : (text : List ℕ) → IsUtf8 text → bytes_eq (chars text) (codes "xml") ≡ bytes_eq text (codes "xml")
xml-told text u = ap (λ x. bytes_eq x (codes "xml")) (sym (map-same (chars text)))
    ∙ (word-told (λ c. c) same-high (chars text) (codes "xml") xml-low ∙
    ap (λ x. bytes_eq x (codes "xml")) (map-same (encode_utf8_all (chars text)) ∙ encodes-chars text u))
