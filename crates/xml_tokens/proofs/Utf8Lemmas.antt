-- Where bytes stand in UTF-8, byte by byte.
use Rattle.std.proofs.Common.{◌≡◌, ℕ, zero, suc, ◌+◌, ◌-◌, ◌*◌, ◌/◌, ◌%◌, ◌<◌, ◌≤◌, ◌==◌, nat_lt, Bool, true, false, not, ◌&&◌, ◌||◌, ◌⊎◌, inl, inr, List, []}
use Rattle.std.proofs.Common.{◌∷◌, ◌++◌, length, refl, sym, ap, ◌∙◌, subst, arith, if◌then◌else◌, Option, Some, None, true≢false, append_assoc, append-nil}
use Rattle.std.proofs.Common.{length-append, take_at, drop_at}
use Rattle.std.specs.Str.{chars, is_utf8, IsUtf8}
use Rattle.std.specs.List.{list_all}
use Rattle.std.proofs.lemmas.Str.{chars-nil, chars-append, chars-encodes, IsUtf8-nil, IsUtf8-append, IsUtf8-encode, IsUtf8-drop, IsUtf8-from_is_utf8}
use Rattle.std.proofs.lemmas.Str.{is_utf8-from_IsUtf8, IsCharBoundary-from_take, encode_ascii}
use Rattle.std.proofs.lemmas.Bool.{cases_eq}
use Rattle.std.proofs.lemmas.Bool.Decides.{nat_tests}
use lib.Utf8.{scalar, scalars, encode, encodes, low_scalar}
use Rattle.inv_base.specs.Characters.{is_within, is_char}
use Rattle.inv_base.proofs.TextLemmas.{both}
use Rattle.xml_tokens.specs.Encoding.{character_at, behind_lead, continued}
use Rattle.xml_tokens.specs.declared.encoding.Begun.{Begun}
use Rattle.xml_tokens.specs.declared.encoding.Begun.TheVariants.{Character, Broken, Unfinished}
use Rattle.xml_tokens.specs.declared.spelling.Spelling.{Spelling}
use Rattle.xml_tokens.specs.declared.spelling.Spelling.TheVariants as spelling
use Rattle.xml_tokens.specs.Spelling.{behind_first, behind_inner, value_behind, spelling_behind, ended, is_wrong}
use Rattle.xml_tokens.proofs.CharacterLemmas.{begins, encode-two, encode-three, encode-four}

-- What reads as a character is its bytes.
pub record IsCharacter (b : ℕ) (bytes : List ℕ) (c n : ℕ) : Type 0 where
  pub rest : List ℕ
  pub scalar : scalar c ≡ true
  pub is : (b ∷ bytes) ≡ encode c ++ rest
  pub long : length (encode c) ≡ n

two-bytes : (b x c : ℕ) (r : List ℕ) → 0xC2 ≤ b → b ≤ 0xDF → 0x80 ≤ x → x ≤ 0xBF → (b - 0xC0) * 64 + (x - 0x80) ≡ c → IsCharacter b (x ∷ r) c 2
two-bytes b x c r l h m k e =
    let first : 192 + c / 64 ≡ b = omega arith in
    let second : 128 + c % 64 ≡ x = omega arith in
    let same : encode c ≡ b ∷ (x ∷ []) = encode-two c (omega arith) (omega arith) ∙ (λ i. first i ∷ (second i ∷ [])) in
    record { rest = r; scalar = low_scalar c (omega arith); is = sym (ap (λ s. s ++ r) same); long = ap length same }

three-bytes : (b x y c : ℕ) (r : List ℕ) → 0xE0 ≤ b → b ≤ 0xEF → 0x80 ≤ x → x ≤ 0xBF → (b ≡ 0xE0 → 0xA0 ≤ x) → (b ≡ 0xED → x ≤ 0x9F) → 0x80 ≤ y → y ≤ 0xBF
    → ((b - 0xE0) * 64 + (x - 0x80)) * 64 + (y - 0x80) ≡ c → IsCharacter b (x ∷ (y ∷ r)) c 3
three-bytes b x y c r l h m k least most m' k' e =
    let first : 224 + c / 4096 ≡ b = omega arith in
    let second : 128 + (c / 64) % 64 ≡ x = omega arith in
    let third : 128 + c % 64 ≡ y = omega arith in
    let low : 2048 ≤ c = elim (cases_eq b 0xE0) [ inl s ↦ (let k : 0xA0 ≤ x = least s in omega arith) | inr s ↦ omega arith ] in
    let high : c < 65536 = omega arith in
    let apart : (c < 55296) ⊎ (57344 ≤ c) = elim (cases_eq b 0xED) [
      | inl s ↦ inl (let k : x ≤ 0x9F = most s in omega arith)
      | inr s ↦ elim (cases_eq b 0xEE) [ inl t ↦ inr (omega arith) | inr t ↦ elim (cases_eq b 0xEF) [ inl v ↦ inr (omega arith) | inr v ↦ inl (omega arith) ] ]
    ] in
    let same : encode c ≡ b ∷ (x ∷ (y ∷ [])) = encode-three c low high ∙ (λ i. first i ∷ (second i ∷ (third i ∷ []))) in
    record { rest = r; scalar = grind (arith, nat_tests); is = sym (ap (λ s. s ++ r) same); long = ap length same }

four-bytes : (b x y z c : ℕ) (r : List ℕ) → 0xF0 ≤ b → b ≤ 0xF4 → 0x80 ≤ x → x ≤ 0xBF → (b ≡ 0xF0 → 0x90 ≤ x) → (b ≡ 0xF4 → x ≤ 0x8F) → 0x80 ≤ y → y ≤ 0xBF →
    0x80 ≤ z → z ≤ 0xBF
    → (((b - 0xF0) * 64 + (x - 0x80)) * 64 + (y - 0x80)) * 64 + (z - 0x80) ≡ c → IsCharacter b (x ∷ (y ∷ (z ∷ r))) c 4
four-bytes b x y z c r l h m k least most m' k' m'' k'' e =
    let first : 240 + c / 262144 ≡ b = omega arith in
    let second : 128 + (c / 4096) % 64 ≡ x = omega arith in
    let third : 128 + (c / 64) % 64 ≡ y = omega arith in
    let fourth : 128 + c % 64 ≡ z = omega arith in
    let low : 65536 ≤ c = elim (cases_eq b 0xF0) [ inl s ↦ (let k : 0x90 ≤ x = least s in omega arith) | inr s ↦ omega arith ] in
    let high : c < 1114112 = elim (cases_eq b 0xF4) [ inl s ↦ (let k : x ≤ 0x8F = most s in omega arith) | inr s ↦ omega arith ] in
    let same : encode c ≡ b ∷ (x ∷ (y ∷ (z ∷ []))) = encode-four c low ∙ (λ i. first i ∷ (second i ∷ (third i ∷ (fourth i ∷ [])))) in
    record { rest = r; scalar = grind (arith, nat_tests); is = sym (ap (λ s. s ++ r) same); long = ap length same }

-- one byte more of a character
record Goes (more low high value m : ℕ) (bytes : List ℕ) (c n : ℕ) : Type 0 where
  next : ℕ
  behind : List ℕ
  is : bytes ≡ next ∷ behind
  least : low ≤ next
  most : next ≤ high
  rest : continued more 0x80 0xBF (value * 64 + (next - 0x80)) (m + 1) behind ≡ Character c n

goes : (more low high value m : ℕ) (bytes : List ℕ) (c n : ℕ) → continued (suc more) low high value m bytes ≡ Character c n →
    Goes more low high value m bytes c n
goes more low high value m [] c n e = absurd (cc e)
goes more low high value m (x ∷ r) c n e = by (is_within low high x) refl e
  where
    by : (t : Bool) → is_within low high x ≡ t → (if t then continued more 0x80 0xBF (value * 64 + (x - 0x80)) (m + 1) r else Broken (m + 1)) ≡ Character c n →
        Goes more low high value m (x ∷ r) c n
    by true w f = record { next = x; behind = r; is = refl; least = grind (arith, nat_tests); most = grind (arith, nat_tests); rest = f }
    by false w f = absurd (cc f)

done : (low high value m : ℕ) (bytes : List ℕ) (c n : ℕ) → continued 0 low high value m bytes ≡ Character c n → (value ≡ c) × (m ≡ n)
done low high value m bytes c n e = (cc, cc)

if-of : {A P : Type 0} (t : Bool) (x y z : A) → (if t then x else y) ≡ z → (t ≡ true → x ≡ z → P) → (t ≡ false → y ≡ z → P) → P
if-of true x y z e f g = f refl e
if-of false x y z e f g = g refl e

behind-two : (b : ℕ) (bytes : List ℕ) (c n : ℕ) → is_within 0xC2 0xDF b ≡ true → continued 1 0x80 0xBF (b - 0xC0) 1 bytes ≡ Character c n →
    IsCharacter b bytes c n
behind-two b bytes c n w e =
    let one = goes 0 0x80 0xBF (b - 0xC0) 1 bytes c n e in
    let end = done 0x80 0xBF ((b - 0xC0) * 64 + (one.next - 0x80)) 2 one.behind c n one.rest in
    let low : 0xC2 ≤ b = grind (arith, nat_tests) in
    let high : b ≤ 0xDF = grind (arith, nat_tests) in
    subst (λ x. IsCharacter b x c n) (sym one.is) (subst (λ k. IsCharacter b (one.next ∷ one.behind) c k) end.1
    (two-bytes b one.next c one.behind low high one.least one.most end.0))

behind-three : (b low high value : ℕ) (bytes : List ℕ) (c n : ℕ) → 0xE0 ≤ b → b ≤ 0xEF → 0x80 ≤ low → high ≤ 0xBF → (b ≡ 0xE0 → 0xA0 ≤ low) →
    (b ≡ 0xED → high ≤ 0x9F) → value ≡ b - 0xE0
    → continued 2 low high value 1 bytes ≡ Character c n → IsCharacter b bytes c n
behind-three b low high value bytes c n l h least most left right is e =
    let one = goes 1 low high value 1 bytes c n e in
    let two = goes 0 0x80 0xBF (value * 64 + (one.next - 0x80)) 2 one.behind c n one.rest in
    let end = done 0x80 0xBF ((value * 64 + (one.next - 0x80)) * 64 + (two.next - 0x80)) 3 two.behind c n two.rest in
    let first_least : low ≤ one.next = one.least in
    let first_most : one.next ≤ high = one.most in
    let sum : ((b - 0xE0) * 64 + (one.next - 0x80)) * 64 + (two.next - 0x80) ≡ c = ap (λ v. (v * 64 + (one.next - 0x80)) * 64 + (two.next - 0x80)) (sym is) ∙
    end.0 in
    let whole : bytes ≡ one.next ∷ (two.next ∷ two.behind) = one.is ∙ ap (λ x. one.next ∷ x) two.is in
    subst (λ x. IsCharacter b x c n) (sym whole) (subst (λ k. IsCharacter b (one.next ∷ (two.next ∷ two.behind)) c k) end.1
    (three-bytes b one.next two.next c two.behind l h (omega arith) (omega arith) (λ k. omega (arith, left k))
    (λ k. omega (arith, right k)) two.least two.most sum))

behind-four : (b low high value : ℕ) (bytes : List ℕ) (c n : ℕ) → 0xF0 ≤ b → b ≤ 0xF4 → 0x80 ≤ low → high ≤ 0xBF → (b ≡ 0xF0 → 0x90 ≤ low) →
    (b ≡ 0xF4 → high ≤ 0x8F) → value ≡ b - 0xF0
    → continued 3 low high value 1 bytes ≡ Character c n → IsCharacter b bytes c n
behind-four b low high value bytes c n l h least most left right is e =
    let one = goes 2 low high value 1 bytes c n e in
    let two = goes 1 0x80 0xBF (value * 64 + (one.next - 0x80)) 2 one.behind c n one.rest in
    let three = goes 0 0x80 0xBF ((value * 64 + (one.next - 0x80)) * 64 + (two.next - 0x80)) 3 two.behind c n two.rest in
    let end = done 0x80 0xBF (((value * 64 + (one.next - 0x80)) * 64 + (two.next - 0x80)) * 64 + (three.next - 0x80)) 4 three.behind c n three.rest in
    let first_least : low ≤ one.next = one.least in
    let first_most : one.next ≤ high = one.most in
    let sum : (((b - 0xF0) * 64 + (one.next - 0x80)) * 64 + (two.next - 0x80)) * 64 + (three.next - 0x80) ≡ c =
    ap (λ v. ((v * 64 + (one.next - 0x80)) * 64 + (two.next - 0x80)) * 64 + (three.next - 0x80)) (sym is) ∙ end.0 in
    let whole : bytes ≡ one.next ∷ (two.next ∷ (three.next ∷ three.behind)) = one.is ∙ ap (λ x. one.next ∷ x) (two.is ∙ ap (λ x. two.next ∷ x) three.is) in
    subst (λ x. IsCharacter b x c n) (sym whole) (subst (λ k. IsCharacter b (one.next ∷ (two.next ∷ (three.next ∷ three.behind))) c k) end.1
    (four-bytes b one.next two.next three.next c three.behind l h (omega arith) (omega arith) (λ k. omega (arith, left k))
    (λ k. omega (arith, right k)) two.least two.most three.least three.most sum))

is-at : (b k : ℕ) → (b == k) ≡ true → b ≡ k
is-at b k t = grind (arith, nat_tests)

is-not : (b k : ℕ) → (b == k) ≡ false → ¬ (b ≡ k)
is-not b k t = grind (arith, nat_tests)

from-low : (low high b : ℕ) → is_within low high b ≡ true → low ≤ b
from-low low high b t = grind (arith, nat_tests)

to-high : (low high b : ℕ) → is_within low high b ≡ true → b ≤ high
to-high low high b t = grind (arith, nat_tests)

lead-is : (b : ℕ) (bytes : List ℕ) (c n : ℕ) → behind_lead b bytes ≡ Character c n → IsCharacter b bytes c n
lead-is b bytes c n e =
    if-of (is_within 0xC2 0xDF b) _ _ (Character c n) e (λ t f. behind-two b bytes c n t f)
    (λ t0 e0. if-of (b == 0xE0) _ _ (Character c n) e0
    (λ t f. let at = is-at b 0xE0 t in behind-three b 0xA0 0xBF 0 bytes c n (omega arith) (omega arith) (omega arith) (omega arith) (λ k. omega arith)
    (λ k. omega arith) (omega arith) f)
    (λ t1 e1. if-of (b == 0xED) _ _ (Character c n) e1
    (λ t f. let at = is-at b 0xED t in behind-three b 0x80 0x9F 0xD bytes c n (omega arith) (omega arith) (omega arith) (omega arith) (λ k. omega arith)
    (λ k. omega arith) (omega arith) f)
    (λ t2 e2. if-of (is_within 0xE1 0xEF b) _ _ (Character c n) e2
    (λ t f.
    let low = from-low 0xE1 0xEF b t in
    let high = to-high 0xE1 0xEF b t in
    let other = is-not b 0xED t2 in
    behind-three b 0x80 0xBF (b - 0xE0) bytes c n (omega arith) high (omega arith) (omega arith) (λ k. omega arith) (λ k. absurd (other k)) refl f)
    (λ t3 e3. if-of (b == 0xF0) _ _ (Character c n) e3
    (λ t f. let at = is-at b 0xF0 t in behind-four b 0x90 0xBF 0 bytes c n (omega arith) (omega arith) (omega arith) (omega arith) (λ k. omega arith)
    (λ k. omega arith) (omega arith) f)
    (λ t4 e4. if-of (is_within 0xF1 0xF3 b) _ _ (Character c n) e4
    (λ t f.
    let low = from-low 0xF1 0xF3 b t in
    let high = to-high 0xF1 0xF3 b t in
    behind-four b 0x80 0xBF (b - 0xF0) bytes c n (omega arith) (omega arith) (omega arith) (omega arith) (λ k. omega arith) (λ k. omega arith) refl f)
    (λ t5 e5. if-of (b == 0xF4) _ _ (Character c n) e5
    (λ t f. let at = is-at b 0xF4 t in behind-four b 0x80 0x8F 4 bytes c n (omega arith) (omega arith) (omega arith) (omega arith) (λ k. omega arith)
    (λ k. omega arith) (omega arith) f)
    (λ t6 e6. absurd (cc e6))))))))

pub character-is : (b : ℕ) (bytes : List ℕ) (c n : ℕ) → character_at b bytes ≡ Character c n → IsCharacter b bytes c n
unfolding character_at
character-is b bytes c n e = by (nat_lt b 0x80) refl e
  where
    by : (t : Bool) → nat_lt b 0x80 ≡ t → (elim t [ true ↦ Character b 1 | false ↦ behind_lead b bytes ]) ≡ Character c n → IsCharacter b bytes c n
    by true t f =
        let low : b < 128 = grind (arith, nat_tests) in
        let same : b ≡ c = cc f in
        let one : 1 ≡ n = cc f in
        let is : encode c ≡ b ∷ [] = ap encode (sym same) ∙ encode_ascii b low in
        record { rest = bytes; scalar = ap scalar (sym same) ∙ low_scalar b (omega arith); is = sym (ap (λ s. s ++ bytes) is); long = ap length is ∙ one }
    by false t f = lead-is b bytes c n f

-- What is UTF-8 begins with a character.
starts : (b : ℕ) (bytes : List ℕ) → IsUtf8 (b ∷ bytes) → (c : ℕ) × (n : ℕ) × (character_at b bytes ≡ Character c n)
starts b bytes u = by u.0 u.1.0 u.1.1
  where
    by : (cs : List ℕ) → scalars cs ≡ true → encodes cs ≡ b ∷ bytes → (c : ℕ) × (n : ℕ) × (character_at b bytes ≡ Character c n)
    by [] s k = absurd (cc k)
    by (c ∷ cs) s k =
        let g = begins c (encodes cs) (both (scalar c) (scalars cs) s).0 in
        let same : (g.first ∷ g.behind) ≡ b ∷ bytes = sym g.is ∙ k in
        let first : g.first ≡ b = cc in
        let rest : g.behind ≡ bytes = cc in
        (c, length (encode c), sym (λ i. character_at (first i) (rest i)) ∙ g.reads)

behind-front : (front rest : List ℕ) → IsUtf8 front → IsUtf8 (front ++ rest) → IsUtf8 rest
behind-front front rest u whole =
    let cut = IsCharBoundary-from_take (front ++ rest) (length front) whole (omega (arith, length-append front rest))
    (subst IsUtf8 (sym (take_at front rest (length front) refl)) u) in
    subst IsUtf8 (drop_at front rest (length front) refl) (IsUtf8-drop (front ++ rest) (length front) whole cut)

pub false-by : (t : Bool) → ¬ (t ≡ true) → t ≡ false
false-by true h = absurd (h refl)
false-by false h = refl

no-utf8 : (front : List ℕ) (b : ℕ) (bytes : List ℕ) → IsUtf8 front → ((c n : ℕ) → ¬ (character_at b bytes ≡ Character c n)) →
    is_utf8 (front ++ (b ∷ bytes)) ≡ false
no-utf8 front b bytes u none = false-by (is_utf8 (front ++ (b ∷ bytes)))
    (λ is. let begun = starts b bytes (behind-front front (b ∷ bytes) u (IsUtf8-from_is_utf8 (front ++ (b ∷ bytes)) is)) in none begun.0 begun.1 begun.2)

-- Where bytes stand, and the characters that they spell so far.
pub record StandsBetween (a cs : List ℕ) : Type 0 where
  pub utf8 : IsUtf8 a
  pub told : cs ≡ chars a

pub record StandsInside (a : List ℕ) (more low high value : ℕ) (cs : List ℕ) : Type 0 where
  pub front : List ℕ
  pub first : ℕ
  pub inner : List ℕ
  pub is : a ≡ front ++ (first ∷ inner)
  pub before : StandsBetween front cs
  pub some : 1 ≤ more
  pub few : more ≤ 3
  pub least : 0x80 ≤ low
  pub most : high ≤ 0xBF
  pub fits : value < 0x8000
  pub two : more ≡ 2 → value < 512
  pub three : more ≡ 3 → value < 8
  pub reads : (bytes : List ℕ) → character_at first (inner ++ bytes) ≡ continued more low high value (1 + length inner) bytes

abbrev pub Stands : List ℕ → Spelling → List ℕ → Type 0
Stands a spelling.Between cs = StandsBetween a cs
Stands a (spelling.Inside more low high value) cs = StandsInside a more low high value cs
Stands a spelling.Broken cs = (bytes : List ℕ) → is_utf8 (a ++ bytes) ≡ false

pub stands-begun : StandsBetween [] []
stands-begun = record { utf8 = IsUtf8-nil; told = sym chars-nil }

-- the characters with the one that a byte ends, if any, at their front
abbrev pub with_ended : Option ℕ → List ℕ → List ℕ
with_ended None cs = cs
with_ended (Some c) cs = c ∷ cs

one-character : (c : ℕ) → scalar c ≡ true → chars (encode c) ≡ c ∷ []
one-character c s = ap chars (sym (append-nil (encode c))) ∙ chars-encodes (c ∷ []) (ap (λ t. t && true) s)

-- Behind one more character.
adds-character : (a w cs : List ℕ) (c : ℕ) → scalar c ≡ true → w ≡ a ++ encode c → StandsBetween a cs → StandsBetween w (cs ++ (c ∷ []))
adds-character a w cs c s is stands = record {
  utf8 = subst IsUtf8 (sym is) (IsUtf8-append a (encode c) stands.utf8 (IsUtf8-encode c s));
  told = ap (λ x. x ++ (c ∷ [])) stands.told ∙ sym (ap chars is ∙ (chars-append a (encode c) stands.utf8 ∙ ap (λ x. chars a ++ x) (one-character c s)));
}

-- The first byte of a character.
record Opens (d more low high value : ℕ) (f : List ℕ → Begun ℕ) : Type 0 where
  past : 0x80 ≤ d
  some : 1 ≤ more
  few : more ≤ 3
  least : 0x80 ≤ low
  most : high ≤ 0xBF
  fits : value < 0x8000
  two : more ≡ 2 → value < 512
  three : more ≡ 3 → value < 8
  reads : (bytes : List ℕ) → f bytes ≡ continued more low high value 1 bytes

abbrev Opened : Spelling → ℕ → (List ℕ → Begun ℕ) → Type 0
Opened spelling.Between d f = d < 0x80
Opened (spelling.Inside more low high value) d f = Opens d more low high value f
Opened spelling.Broken d f = (bytes : List ℕ) → f bytes ≡ Broken 1

opened-if : (t : Bool) (x y : Spelling) (d : ℕ) (f g : List ℕ → Begun ℕ) → (t ≡ true → Opened x d f) → (t ≡ false → Opened y d g) →
    Opened (if t then x else y) d (λ bytes. if t then f bytes else g bytes)
opened-if true x y d f g p q = p refl
opened-if false x y d f g p q = q refl

abbrev lead_spelling : ℕ → Spelling
lead_spelling b =
    if is_within 0xC2 0xDF b then spelling.Inside 1 0x80 0xBF (b - 0xC0)
    else (if b == 0xE0 then spelling.Inside 2 0xA0 0xBF 0
    else (if b == 0xED then spelling.Inside 2 0x80 0x9F 0xD
    else (if is_within 0xE1 0xEF b then spelling.Inside 2 0x80 0xBF (b - 0xE0)
    else (if b == 0xF0 then spelling.Inside 3 0x90 0xBF 0
    else (if is_within 0xF1 0xF3 b then spelling.Inside 3 0x80 0xBF (b - 0xF0)
    else (if b == 0xF4 then spelling.Inside 3 0x80 0x8F 4
    else spelling.Broken))))))

opens : (d more low high value : ℕ) → 0x80 ≤ d → 1 ≤ more → more ≤ 3 → 0x80 ≤ low → high ≤ 0xBF → value < 0x8000 → (more ≡ 2 → value < 512) →
    (more ≡ 3 → value < 8)
    → Opens d more low high value (λ bytes. continued more low high value 1 bytes)
opens d more low high value p s f l m v w x = record { past = p; some = s; few = f; least = l; most = m; fits = v; two = w; three = x; reads = λ bytes. refl }

lead-opened : (d : ℕ) → 0x80 ≤ d → Opened (lead_spelling d) d (λ bytes. behind_lead d bytes)
lead-opened d p =
    opened-if (is_within 0xC2 0xDF d) _ _ d _ _
    (λ t. let high = to-high 0xC2 0xDF d t in opens d 1 0x80 0xBF (d - 0xC0) p (omega arith) (omega arith) (omega arith) (omega arith) (omega arith)
    (λ k. omega arith) (λ k. omega arith))
    (λ t0. opened-if (d == 0xE0) _ _ d _ _
    (λ t. opens d 2 0xA0 0xBF 0 p (omega arith) (omega arith) (omega arith) (omega arith) (omega arith) (λ k. omega arith) (λ k. omega arith))
    (λ t1. opened-if (d == 0xED) _ _ d _ _
    (λ t. opens d 2 0x80 0x9F 0xD p (omega arith) (omega arith) (omega arith) (omega arith) (omega arith) (λ k. omega arith) (λ k. omega arith))
    (λ t2. opened-if (is_within 0xE1 0xEF d) _ _ d _ _
    (λ t. let high = to-high 0xE1 0xEF d t in opens d 2 0x80 0xBF (d - 0xE0) p (omega arith) (omega arith) (omega arith) (omega arith) (omega arith)
    (λ k. omega arith) (λ k. omega arith))
    (λ t3. opened-if (d == 0xF0) _ _ d _ _
    (λ t. opens d 3 0x90 0xBF 0 p (omega arith) (omega arith) (omega arith) (omega arith) (omega arith) (λ k. omega arith) (λ k. omega arith))
    (λ t4. opened-if (is_within 0xF1 0xF3 d) _ _ d _ _
    (λ t. let high = to-high 0xF1 0xF3 d t in opens d 3 0x80 0xBF (d - 0xF0) p (omega arith) (omega arith) (omega arith) (omega arith) (omega arith)
    (λ k. omega arith) (λ k. omega arith))
    (λ t5. opened-if (d == 0xF4) _ _ d _ _
    (λ t. opens d 3 0x80 0x8F 4 p (omega arith) (omega arith) (omega arith) (omega arith) (omega arith) (λ k. omega arith) (λ k. omega arith))
    (λ t6 bytes. refl)))))))

module _ (a cs : List ℕ) (d : ℕ) (stands : StandsBetween a cs) where
  by-opened : (u : Spelling) → 0x80 ≤ d → Opened u d (character_at d) → Stands (a ++ (d ∷ [])) u cs
  by-opened spelling.Between p low = absurd (omega arith)
  by-opened (spelling.Inside more low high value) p o = record {
    front = a;
    first = d;
    inner = [];
    is = refl;
    before = stands;
    some = o.some;
    few = o.few;
    least = o.least;
    most = o.most;
    fits = o.fits;
    two = o.two;
    three = o.three;
    reads = o.reads;
  }
  by-opened spelling.Broken p o = λ bytes. ap is_utf8 (append_assoc a (d ∷ []) bytes) ∙
      no-utf8 a d bytes stands.utf8 (λ c n e. let no : ◌≡◌ {A = Begun ℕ} (Broken 1) (Character c n) = sym (o bytes) ∙ e in cc)

  stands-first : Stands (a ++ (d ∷ [])) (behind_first d) (cs ++ with_ended (if nat_lt d 0x80 then Some d else None) [])
  unfolding character_at
  stands-first = by (nat_lt d 0x80) refl
    where
      by : (t : Bool) → nat_lt d 0x80 ≡ t → Stands (a ++ (d ∷ [])) (if t then spelling.Between else lead_spelling d)
          (cs ++ with_ended (if t then Some d else None) [])
      by true t =
          let low : d < 128 = grind (arith, nat_tests) in
          adds-character a (a ++ (d ∷ [])) cs d (low_scalar d (omega arith)) (ap (λ x. a ++ x) (sym (encode_ascii d low))) stands
      by false t =
          let past : 0x80 ≤ d = grind (arith, nat_tests) in
          let reads : (bytes : List ℕ) → character_at d bytes ≡ behind_lead d bytes =
          λ bytes. ap (λ s. elim s [ true ↦ Character d 1 | false ↦ behind_lead d bytes ]) t in
          let P : (List ℕ → Begun ℕ) → Type 0 = λ f. Opened (lead_spelling d) d f in
          let opened : Opened (lead_spelling d) d (character_at d) = subst P (sym (λ i bytes. reads bytes i)) (lead-opened d past) in
          subst (λ x. Stands (a ++ (d ∷ [])) (lead_spelling d) x) (sym (append-nil cs)) (by-opened (lead_spelling d) past opened)

-- A byte more inside a character.
continued-broken : (more low high value n d : ℕ) (bytes : List ℕ) → 1 ≤ more → is_within low high d ≡ false →
    continued more low high value n (d ∷ bytes) ≡ Broken (n + 1)
continued-broken zero low high value n d bytes some w = absurd (omega arith)
continued-broken (suc more) low high value n d bytes some w =
    ap (λ t. if t then continued more 0x80 0xBF (value * 64 + (d - 0x80)) (n + 1) bytes else Broken (n + 1)) w

continued-on : (more low high value n d : ℕ) (bytes : List ℕ) → 1 ≤ more → is_within low high d ≡ true →
    continued more low high value n (d ∷ bytes) ≡ continued (more - 1) 0x80 0xBF (value * 64 + (d - 0x80)) (n + 1) bytes
continued-on zero low high value n d bytes some w = absurd (omega arith)
continued-on (suc more) low high value n d bytes some w =
    let same : more ≡ suc more - 1 = omega arith in
    ap (λ t. if t then continued more 0x80 0xBF (value * 64 + (d - 0x80)) (n + 1) bytes else Broken (n + 1)) w ∙
    ap (λ m. continued m 0x80 0xBF (value * 64 + (d - 0x80)) (n + 1) bytes) same

no-bytes : (xs ys : List ℕ) (n : ℕ) → length (xs ++ ys) ≡ n → length xs ≡ n → ys ≡ []
no-bytes xs [] n e f = refl
no-bytes xs (y ∷ ys) n e f = absurd (omega (arith, length-append xs (y ∷ ys)))

module _ (a : List ℕ) (more low high value : ℕ) (cs : List ℕ) (d : ℕ) (s : StandsInside a more low high value cs) where
  farther : (bytes : List ℕ) → (a ++ (d ∷ [])) ++ bytes ≡ s.front ++ (s.first ∷ (s.inner ++ (d ∷ bytes)))
  farther bytes = append_assoc a (d ∷ []) bytes ∙ (ap (λ x. x ++ (d ∷ bytes)) s.is ∙ append_assoc s.front (s.first ∷ s.inner) (d ∷ bytes))

  stands-broken : is_within low high d ≡ false → (bytes : List ℕ) → is_utf8 ((a ++ (d ∷ [])) ++ bytes) ≡ false
  stands-broken w bytes = ap is_utf8 (farther bytes) ∙ no-utf8 s.front s.first (s.inner ++ (d ∷ bytes)) s.before.utf8
      (λ c n e. let no : ◌≡◌ {A = Begun ℕ} (Broken ((1 + length s.inner) + 1)) (Character c n) =
      sym (s.reads (d ∷ bytes) ∙ continued-broken more low high value (1 + length s.inner) d bytes s.some w) ∙ e in cc)

  value-is : is_within low high d ≡ true → value_behind value d ≡ value * 64 + (d - 0x80)
  value-is w =
      let least = from-low low high d w in
      let most = to-high low high d w in
      let bounds : (0x80 ≤ low) × (high ≤ 0xBF) × (value < 0x8000) = (s.least, s.most, s.fits) in
      omega arith

  stands-last : is_within low high d ≡ true → nat_lt more 2 ≡ true → StandsBetween (a ++ (d ∷ [])) (cs ++ (value_behind value d ∷ []))
  stands-last w t =
      let some : 1 ≤ more = s.some in
      let one : more - 1 ≡ 0 = grind (arith, nat_tests) in
      let c = value_behind value d in
      let reads : character_at s.first (s.inner ++ (d ∷ [])) ≡ Character c ((1 + length s.inner) + 1) =
      s.reads (d ∷ []) ∙ (continued-on more low high value (1 + length s.inner) d [] some w ∙
      (ap (λ m. continued m 0x80 0xBF (value * 64 + (d - 0x80)) ((1 + length s.inner) + 1) []) one ∙
      ap (λ v. Character v ((1 + length s.inner) + 1)) (sym (value-is w)))) in
      let is = character-is s.first (s.inner ++ (d ∷ [])) c ((1 + length s.inner) + 1) reads in
      let long : length (encode c ++ is.rest) ≡ (1 + length s.inner) + 1 = sym (ap length is.is) ∙ (let l = length-append s.inner (d ∷ []) in omega arith) in
      let none : is.rest ≡ [] = no-bytes (encode c) is.rest ((1 + length s.inner) + 1) long is.long in
      let whole : a ++ (d ∷ []) ≡ s.front ++ encode c =
      ap (λ x. x ++ (d ∷ [])) s.is ∙ (append_assoc s.front (s.first ∷ s.inner) (d ∷ []) ∙
      ap (λ x. s.front ++ x) (is.is ∙ (ap (λ x. encode c ++ x) none ∙ append-nil (encode c)))) in
      adds-character s.front (a ++ (d ∷ [])) cs c is.scalar whole s.before

  stands-on : is_within low high d ≡ true → nat_lt more 2 ≡ false → StandsInside (a ++ (d ∷ [])) (more - 1) 0x80 0xBF (value_behind value d) cs
  stands-on w t =
      let some : 2 ≤ more = grind (arith, nat_tests) in
      let few : more ≤ 3 = s.few in
      let least = from-low low high d w in
      let most = to-high low high d w in
      let bounds : (0x80 ≤ low) × (high ≤ 0xBF) × (value < 0x8000) = (s.least, s.most, s.fits) in
      let two : more ≡ 2 → value < 512 = s.two in
      let three : more ≡ 3 → value < 8 = s.three in
      let is = value-is w in
      let fits : value < 512 = elim (cases_eq more 2) [ inl k ↦ two k | inr k ↦ (let v : value < 8 = three (omega arith) in omega arith) ] in
      let long : (1 + length s.inner) + 1 ≡ 1 + length (s.inner ++ (d ∷ [])) = let l = length-append s.inner (d ∷ []) in omega arith in
      record {
        front = s.front;
        first = s.first;
        inner = s.inner ++ (d ∷ []);
        is = ap (λ x. x ++ (d ∷ [])) s.is ∙ append_assoc s.front (s.first ∷ s.inner) (d ∷ []);
        before = s.before;
        some = omega arith;
        few = omega arith;
        least = omega arith;
        most = omega arith;
        fits = omega arith;
        two = λ k. let v : value < 8 = three (omega arith) in omega arith;
        three = λ k. absurd (omega arith);
        reads = λ bytes.
            ap (character_at s.first) (append_assoc s.inner (d ∷ []) bytes)
            ∙ (s.reads (d ∷ bytes)
            ∙ (continued-on more low high value (1 + length s.inner) d bytes s.some w
            ∙ (ap (λ v. continued (more - 1) 0x80 0xBF v ((1 + length s.inner) + 1) bytes) (sym is) ∙
            ap (λ n. continued (more - 1) 0x80 0xBF (value_behind value d) n bytes) long)));
      }

  stands-inner : Stands (a ++ (d ∷ [])) (behind_inner more low high value d) (cs ++ with_ended (if nat_lt more 2 then Some (value_behind value d) else None) [])
  stands-inner = by (is_within low high d) (nat_lt more 2) refl refl
    where
      by : (w t : Bool) → is_within low high d ≡ w → nat_lt more 2 ≡ t
          → Stands (a ++ (d ∷ [])) (if w then (if t then spelling.Between else spelling.Inside (more - 1) 0x80 0xBF (value_behind value d)) else
          spelling.Broken) (cs ++ with_ended (if t then Some (value_behind value d) else None) [])
      by false t e f = stands-broken e
      by true true e f = stands-last e f
      by true false e f = subst (λ x. StandsInside (a ++ (d ∷ [])) (more - 1) 0x80 0xBF (value_behind value d) x) (sym (append-nil cs)) (stands-on e f)

-- A byte more.
pub stands-behind : (a : List ℕ) (u : Spelling) (cs : List ℕ) (d : ℕ) → Stands a u cs →
    Stands (a ++ (d ∷ [])) (spelling_behind u d) (cs ++ with_ended (ended u d) [])
stands-behind a spelling.Between cs d s = stands-first a cs d s
stands-behind a (spelling.Inside more low high value) cs d s = stands-inner a more low high value cs d s
stands-behind a spelling.Broken cs d s = λ bytes. ap is_utf8 (append_assoc a (d ∷ []) bytes) ∙ s (d ∷ bytes)

-- where bytes stand behind many more, the characters that they end, and whether one is no Char
abbrev pub spelling_all : Spelling → List ℕ → Spelling
spelling_all u [] = u
spelling_all u (b ∷ bytes) = spelling_all (spelling_behind u b) bytes

abbrev pub characters : Spelling → List ℕ → List ℕ
characters u [] = []
characters u (b ∷ bytes) = with_ended (ended u b) (characters (spelling_behind u b) bytes)

abbrev pub wrong_all : Spelling → Bool → List ℕ → Bool
wrong_all u wrong [] = wrong
wrong_all u wrong (b ∷ bytes) = wrong_all (spelling_behind u b) (wrong || is_wrong (ended u b)) bytes

pub wrong-told : (u : Spelling) (wrong : Bool) (bytes : List ℕ) → wrong_all u wrong bytes ≡ (wrong || not (list_all is_char (characters u bytes)))
wrong-told u wrong [] = or-nothing wrong
  where
    or-nothing : (t : Bool) → t ≡ (t || false)
    or-nothing true = refl
    or-nothing false = refl
wrong-told u wrong (b ∷ bytes) = wrong-told (spelling_behind u b) (wrong || is_wrong (ended u b)) bytes ∙
    by wrong (ended u b) (characters (spelling_behind u b) bytes)
  where
    both-wrong : (t p q : Bool) → ((t || not p) || not q) ≡ (t || not (p && q))
    both-wrong true p q = refl
    both-wrong false true q = refl
    both-wrong false false q = refl

    no-more : (t q : Bool) → ((t || false) || q) ≡ (t || q)
    no-more true q = refl
    no-more false q = refl

    by : (t : Bool) (o : Option ℕ) (cs : List ℕ) → ((t || is_wrong o) || not (list_all is_char cs)) ≡ (t || not (list_all is_char (with_ended o cs)))
    by t None cs = no-more t (not (list_all is_char cs))
    by t (Some c) cs = both-wrong t (is_char c) (list_all is_char cs)

pub stands-all : (a : List ℕ) (u : Spelling) (cs bytes : List ℕ) → Stands a u cs → Stands (a ++ bytes) (spelling_all u bytes) (cs ++ characters u bytes)
stands-all a u cs [] s = subst (λ x. Stands x u (cs ++ [])) (sym (append-nil a)) (subst (λ x. Stands a u x) (sym (append-nil cs)) s)
stands-all a u cs (b ∷ bytes) s =
    let end = spelling_all (spelling_behind u b) bytes in
    let rest = characters (spelling_behind u b) bytes in
    let same : (cs ++ with_ended (ended u b) []) ++ rest ≡ cs ++ with_ended (ended u b) rest = append_assoc cs (with_ended (ended u b) []) rest ∙
    ap (λ x. cs ++ x) (more (ended u b) rest) in
    subst (λ x. Stands x end (cs ++ with_ended (ended u b) rest)) (append_assoc a (b ∷ []) bytes)
    (subst (λ x. Stands ((a ++ (b ∷ [])) ++ bytes) end x) same
    (stands-all (a ++ (b ∷ [])) (spelling_behind u b) (cs ++ with_ended (ended u b) []) bytes (stands-behind a u cs b s)))
  where
    more : (o : Option ℕ) (rest : List ℕ) → with_ended o [] ++ rest ≡ with_ended o rest
    more None rest = refl
    more (Some c) rest = refl

-- Inside a character nothing is whole.
unfinished : (more low high value n : ℕ) → 1 ≤ more → continued more low high value n [] ≡ Unfinished
unfinished zero low high value n some = absurd (omega arith)
unfinished (suc more) low high value n some = refl

pub inside-none : (a : List ℕ) (more low high value : ℕ) (cs : List ℕ) → StandsInside a more low high value cs → ¬ (IsUtf8 a)
inside-none a more low high value cs s whole =
    let begun = starts s.first s.inner (behind-front s.front (s.first ∷ s.inner) s.before.utf8 (subst IsUtf8 s.is whole)) in
    let reads : character_at s.first s.inner ≡ Unfinished =
    ap (character_at s.first) (sym (append-nil s.inner)) ∙ (s.reads [] ∙ unfinished more low high value (1 + length s.inner) s.some) in
    let no : ◌≡◌ {A = Begun ℕ} Unfinished (Character begun.0 begun.1) = sym reads ∙ begun.2 in
    cc

pub broken-none : (a : List ℕ) → ((bytes : List ℕ) → is_utf8 (a ++ bytes) ≡ false) → ¬ (IsUtf8 a)
broken-none a s whole = true≢false (sym (is_utf8-from_IsUtf8 a whole) ∙ (ap is_utf8 (sym (append-nil a)) ∙ s []))

-- Where the bytes are UTF-8, the characters are theirs.
pub whole-told : (a : List ℕ) (u : Spelling) (cs : List ℕ) → Stands a u cs → IsUtf8 a → cs ≡ chars a
whole-told a spelling.Between cs s whole = s.told
whole-told a (spelling.Inside more low high value) cs s whole = absurd (inside-none a more low high value cs s whole)
whole-told a spelling.Broken cs s whole = absurd (broken-none a s whole)

pub characters-told : (bytes : List ℕ) → IsUtf8 bytes → characters spelling.Between bytes ≡ chars bytes
characters-told bytes whole = whole-told bytes (spelling_all spelling.Between bytes) (characters spelling.Between bytes)
    (stands-all [] spelling.Between [] bytes stands-begun) whole
