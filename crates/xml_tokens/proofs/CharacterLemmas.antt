-- What begins with the bytes of a character is the character.
use Rattle.std.proofs.Common.{◌≡◌, ℕ, suc, ◌+◌, ◌*◌, ◌-◌, ◌/◌, ◌%◌, ◌<◌, ◌≤◌, Bool, true, false, ◌==◌, nat_lt, List, [], ◌∷◌, ◌++◌, length, inl, inr, refl, sym}
use Rattle.std.proofs.Common.{ap, ◌∙◌, arith, if◌then◌else◌}
use Rattle.std.proofs.lemmas.Bool.{cases_lt, cases_eq}
use Rattle.std.proofs.lemmas.Bool.Decides.{nat_tests}
use Rattle.std.proofs.lemmas.Str.{encode_ascii}
use lib.Utf8.{scalar, encode}
use Rattle.inv_base.specs.Characters.{is_within}
use Rattle.xml_tokens.specs.Encoding.{character_at, behind_lead, continued}
use Rattle.xml_tokens.specs.declared.encoding.Begun.TheVariants.{Character, Broken}

pub chosen : {A : Type 0} (t : Bool) (x y : A) → t ≡ true → (if t then x else y) ≡ x
chosen t x y h = ap (λ t. if t then x else y) h

pub passed : {A : Type 0} (t : Bool) (x y : A) → t ≡ false → (if t then x else y) ≡ y
passed t x y h = ap (λ t. if t then x else y) h

within : (low high b : ℕ) → low ≤ b → b ≤ high → is_within low high b ≡ true
within low high b l h = grind (arith, nat_tests)

below : (low high b : ℕ) → b < low → is_within low high b ≡ false
below low high b l = grind (arith, nat_tests)

above : (low high b : ℕ) → high < b → is_within low high b ≡ false
above low high b l = grind (arith, nat_tests)

pub other : (a b : ℕ) → ¬ (a ≡ b) → (a == b) ≡ false
other a b h = grind (arith, nat_tests)

pub same : (a b : ℕ) → a ≡ b → (a == b) ≡ true
same a b h = grind (arith, nat_tests)

step : (more low high c n b : ℕ) (bytes : List ℕ) → low ≤ b → b ≤ high →
    continued (suc more) low high c n (b ∷ bytes) ≡ continued more 0x80 0xBF (c * 64 + (b - 0x80)) (n + 1) bytes
step more low high c n b bytes l h = chosen (is_within low high b) (continued more 0x80 0xBF (c * 64 + (b - 0x80)) (n + 1) bytes) (Broken (n + 1))
    (within low high b l h)

same-character : (a b m n : ℕ) → a ≡ b → m ≡ n → Character a m ≡ Character b n
same-character a b m n p q = ap (λ x. Character x m) p ∙ ap (λ y. Character b y) q

-- two, three and four bytes from a first one
one-more : (low high v x c : ℕ) (r : List ℕ) → low ≤ x → x ≤ high → v * 64 + (x - 0x80) ≡ c → continued 1 low high v 1 (x ∷ r) ≡ Character c 2
one-more low high v x c r l h e = step 0 low high v 1 x r l h ∙ same-character _ c _ 2 e refl

two-more : (low high v x y c : ℕ) (r : List ℕ) → low ≤ x → x ≤ high → 0x80 ≤ y → y ≤ 0xBF → (v * 64 + (x - 0x80)) * 64 + (y - 0x80) ≡ c
    → continued 2 low high v 1 (x ∷ (y ∷ r)) ≡ Character c 3
two-more low high v x y c r l h m k e =
    step 1 low high v 1 x (y ∷ r) l h ∙ (step 0 0x80 0xBF (v * 64 + (x - 0x80)) 2 y r m k ∙ same-character _ c _ 3 e refl)

three-more : (low high v x y z c : ℕ) (r : List ℕ) → low ≤ x → x ≤ high → 0x80 ≤ y → y ≤ 0xBF → 0x80 ≤ z → z ≤ 0xBF
    → ((v * 64 + (x - 0x80)) * 64 + (y - 0x80)) * 64 + (z - 0x80) ≡ c → continued 3 low high v 1 (x ∷ (y ∷ (z ∷ r))) ≡ Character c 4
three-more low high v x y z c r l h m k m' k' e =
    step 2 low high v 1 x (y ∷ (z ∷ r)) l h
    ∙ (step 1 0x80 0xBF (v * 64 + (x - 0x80)) 2 y (z ∷ r) m k
    ∙ (step 0 0x80 0xBF ((v * 64 + (x - 0x80)) * 64 + (y - 0x80)) 3 z r m' k' ∙ same-character _ c _ 4 e refl))

-- the first byte and those behind it
pub record Begins (c : ℕ) (r : List ℕ) : Type 0 where
  pub first : ℕ
  pub behind : List ℕ
  pub is : encode c ++ r ≡ first ∷ behind
  pub reads : character_at first behind ≡ Character c (length (encode c))
  -- a byte below 128 is the character
  pub ascii : first < 128 → first ≡ c
  pub high : 128 ≤ c → 128 ≤ first

lead : (b : ℕ) (bytes : List ℕ) → 128 ≤ b → character_at b bytes ≡ behind_lead b bytes
unfolding character_at
lead b bytes h = chosen-false (nat_lt b 0x80) (grind (arith, nat_tests))
  where
    chosen-false : (t : Bool) → t ≡ false → (elim t [ true ↦ Character b 1 | false ↦ behind_lead b bytes ]) ≡ behind_lead b bytes
    chosen-false t e = ap (λ t. elim t [ true ↦ Character b 1 | false ↦ behind_lead b bytes ]) e

-- the encoding by the size of the character
pub encode-two : (c : ℕ) → 128 ≤ c → c < 2048 → encode c ≡ (192 + c / 64) ∷ ((128 + c % 64) ∷ [])
unfolding encode
encode-two c l h = passed (nat_lt c 128) _ _ (grind (arith, nat_tests)) ∙ chosen (nat_lt c 2048) _ _ (grind (arith, nat_tests))

pub encode-three : (c : ℕ) → 2048 ≤ c → c < 65536 → encode c ≡ (224 + c / 4096) ∷ ((128 + (c / 64) % 64) ∷ ((128 + c % 64) ∷ []))
unfolding encode
encode-three c l h =
    passed (nat_lt c 128) _ _ (grind (arith, nat_tests)) ∙
    (passed (nat_lt c 2048) _ _ (grind (arith, nat_tests)) ∙ chosen (nat_lt c 65536) _ _ (grind (arith, nat_tests)))

pub encode-four : (c : ℕ) → 65536 ≤ c → encode c ≡ (240 + c / 262144) ∷ ((128 + (c / 4096) % 64) ∷ ((128 + (c / 64) % 64) ∷ ((128 + c % 64) ∷ [])))
unfolding encode
encode-four c l =
    passed (nat_lt c 128) _ _ (grind (arith, nat_tests)) ∙
    (passed (nat_lt c 2048) _ _ (grind (arith, nat_tests)) ∙ passed (nat_lt c 65536) _ _ (grind (arith, nat_tests)))

-- the branches by the first byte
branch-two : (b : ℕ) (bytes : List ℕ) → 0xC2 ≤ b → b ≤ 0xDF → behind_lead b bytes ≡ continued 1 0x80 0xBF (b - 0xC0) 1 bytes
branch-two b bytes l h = chosen (is_within 0xC2 0xDF b) _ _ (within 0xC2 0xDF b l h)

branch-e0 : (b : ℕ) (bytes : List ℕ) → b ≡ 0xE0 → behind_lead b bytes ≡ continued 2 0xA0 0xBF 0 1 bytes
branch-e0 b bytes e = passed (is_within 0xC2 0xDF b) _ _ (above 0xC2 0xDF b (omega arith)) ∙ chosen (b == 0xE0) _ _ (same b 0xE0 e)

branch-ed : (b : ℕ) (bytes : List ℕ) → b ≡ 0xED → behind_lead b bytes ≡ continued 2 0x80 0x9F 0xD 1 bytes
branch-ed b bytes e =
    passed (is_within 0xC2 0xDF b) _ _ (above 0xC2 0xDF b (omega arith))
    ∙ (passed (b == 0xE0) _ _ (other b 0xE0 (λ f. omega arith)) ∙ chosen (b == 0xED) _ _ (same b 0xED e))

branch-three : (b : ℕ) (bytes : List ℕ) → 0xE1 ≤ b → b ≤ 0xEF → ¬ (b ≡ 0xED) → behind_lead b bytes ≡ continued 2 0x80 0xBF (b - 0xE0) 1 bytes
branch-three b bytes l h n =
    passed (is_within 0xC2 0xDF b) _ _ (above 0xC2 0xDF b (omega arith))
    ∙ (passed (b == 0xE0) _ _ (other b 0xE0 (λ f. omega arith))
    ∙ (passed (b == 0xED) _ _ (other b 0xED n) ∙ chosen (is_within 0xE1 0xEF b) _ _ (within 0xE1 0xEF b l h)))

branch-past : (b : ℕ) (bytes : List ℕ) → 0xF0 ≤ b → behind_lead b bytes
    ≡ (if b == 0xF0 then continued 3 0x90 0xBF 0 1 bytes else
    (if is_within 0xF1 0xF3 b then continued 3 0x80 0xBF (b - 0xF0) 1 bytes else (if b == 0xF4 then continued 3 0x80 0x8F 4 1 bytes else Broken 1)))
branch-past b bytes l =
    passed (is_within 0xC2 0xDF b) _ _ (above 0xC2 0xDF b (omega arith))
    ∙ (passed (b == 0xE0) _ _ (other b 0xE0 (λ f. omega arith))
    ∙ (passed (b == 0xED) _ _ (other b 0xED (λ f. omega arith)) ∙ passed (is_within 0xE1 0xEF b) _ _ (above 0xE1 0xEF b (omega arith))))

branch-f0 : (b : ℕ) (bytes : List ℕ) → b ≡ 0xF0 → behind_lead b bytes ≡ continued 3 0x90 0xBF 0 1 bytes
branch-f0 b bytes e = branch-past b bytes (omega arith) ∙ chosen (b == 0xF0) _ _ (same b 0xF0 e)

branch-four : (b : ℕ) (bytes : List ℕ) → 0xF1 ≤ b → b ≤ 0xF3 → behind_lead b bytes ≡ continued 3 0x80 0xBF (b - 0xF0) 1 bytes
branch-four b bytes l h =
    branch-past b bytes (omega arith) ∙ (passed (b == 0xF0) _ _ (other b 0xF0 (λ f. omega arith)) ∙ chosen (is_within 0xF1 0xF3 b) _ _ (within 0xF1 0xF3 b l h))

branch-f4 : (b : ℕ) (bytes : List ℕ) → b ≡ 0xF4 → behind_lead b bytes ≡ continued 3 0x80 0x8F 4 1 bytes
branch-f4 b bytes e =
    branch-past b bytes (omega arith)
    ∙ (passed (b == 0xF0) _ _ (other b 0xF0 (λ f. omega arith))
    ∙ (passed (is_within 0xF1 0xF3 b) _ _ (above 0xF1 0xF3 b (omega arith)) ∙ chosen (b == 0xF4) _ _ (same b 0xF4 e)))

module _ (c : ℕ) (r : List ℕ) where
  begins-one : c < 128 → Begins c r
  unfolding character_at
  begins-one h = record {
    first = c;
    behind = r;
    is = ap (λ x. x ++ r) (encode_ascii c h);
    reads = at (nat_lt c 0x80) (grind (arith, nat_tests)) ∙ ap (λ x. Character c (length x)) (sym (encode_ascii c h));
    ascii = λ l. refl;
    high = λ l. absurd (omega arith);
  }
    where
      at : (t : Bool) → t ≡ true → (elim t [ true ↦ Character c 1 | false ↦ behind_lead c r ]) ≡ Character c 1
      at t e = ap (λ t. elim t [ true ↦ Character c 1 | false ↦ behind_lead c r ]) e

  begins-two : 128 ≤ c → c < 2048 → Begins c r
  begins-two l h = record {
    first = 192 + c / 64;
    behind = (128 + c % 64) ∷ r;
    is = ap (λ x. x ++ r) (encode-two c l h);
    reads = lead (192 + c / 64) ((128 + c % 64) ∷ r) (omega arith)
        ∙ (branch-two (192 + c / 64) ((128 + c % 64) ∷ r) (omega arith) (omega arith)
        ∙ (one-more 0x80 0xBF (192 + c / 64 - 0xC0) (128 + c % 64) c r (omega arith) (omega arith) (omega arith)
        ∙ ap (λ x. Character c (length x)) (sym (encode-two c l h))));
    ascii = λ b. absurd (omega arith);
    high = λ b. omega arith;
  }

  tail-three : List ℕ
  tail-three = (128 + (c / 64) % 64) ∷ ((128 + c % 64) ∷ r)

  behind-three : 2048 ≤ c → c < 65536 → scalar c ≡ true → behind_lead (224 + c / 4096) tail-three ≡ Character c 3
  unfolding tail-three
  behind-three l h s = elim (cases_lt c 4096) [
    | inl small ↦ branch-e0 (224 + c / 4096) tail-three (omega arith) ∙ two-more 0xA0 0xBF 0 (128 + (c / 64) % 64) (128 + c % 64) c r (omega arith)
        (omega arith) (omega arith) (omega arith) (omega arith)
    | inr big ↦ elim (cases_eq (224 + c / 4096) 0xED) [
      | inl d ↦
          let low : c < 55296 = grind (arith, nat_tests) in
          branch-ed (224 + c / 4096) tail-three d ∙ two-more 0x80 0x9F 0xD (128 + (c / 64) % 64) (128 + c % 64) c r (omega arith) (omega arith) (omega arith)
          (omega arith) (omega arith)
      | inr n ↦ branch-three (224 + c / 4096) tail-three (omega arith) (omega arith) n
          ∙ two-more 0x80 0xBF (224 + c / 4096 - 0xE0) (128 + (c / 64) % 64) (128 + c % 64) c r (omega arith) (omega arith) (omega arith) (omega arith)
          (omega arith)
    ]
  ]

  begins-three : 2048 ≤ c → c < 65536 → scalar c ≡ true → Begins c r
  unfolding tail-three
  begins-three l h s = record {
    first = 224 + c / 4096;
    behind = tail-three;
    is = ap (λ x. x ++ r) (encode-three c l h);
    reads = lead (224 + c / 4096) tail-three (omega arith) ∙ (behind-three l h s ∙ ap (λ x. Character c (length x)) (sym (encode-three c l h)));
    ascii = λ b. absurd (omega arith);
    high = λ b. omega arith;
  }

  tail-four : List ℕ
  tail-four = (128 + (c / 4096) % 64) ∷ ((128 + (c / 64) % 64) ∷ ((128 + c % 64) ∷ r))

  behind-four : 65536 ≤ c → c < 1114112 → behind_lead (240 + c / 262144) tail-four ≡ Character c 4
  unfolding tail-four
  behind-four l h = elim (cases_lt c 262144) [
    | inl small ↦ branch-f0 (240 + c / 262144) tail-four (omega arith)
        ∙ three-more 0x90 0xBF 0 (128 + (c / 4096) % 64) (128 + (c / 64) % 64) (128 + c % 64) c r (omega arith) (omega arith) (omega arith) (omega arith)
        (omega arith) (omega arith) (omega arith)
    | inr big ↦ elim (cases_lt c 1048576) [
      | inl m ↦ branch-four (240 + c / 262144) tail-four (omega arith) (omega arith)
          ∙ three-more 0x80 0xBF (240 + c / 262144 - 0xF0) (128 + (c / 4096) % 64) (128 + (c / 64) % 64) (128 + c % 64) c r (omega arith) (omega arith)
          (omega arith) (omega arith) (omega arith) (omega arith) (omega arith)
      | inr n ↦ branch-f4 (240 + c / 262144) tail-four (omega arith)
          ∙ three-more 0x80 0x8F 4 (128 + (c / 4096) % 64) (128 + (c / 64) % 64) (128 + c % 64) c r (omega arith) (omega arith) (omega arith) (omega arith)
          (omega arith) (omega arith) (omega arith)
    ]
  ]

  begins-four : 65536 ≤ c → c < 1114112 → Begins c r
  unfolding tail-four
  begins-four l h = record {
    first = 240 + c / 262144;
    behind = tail-four;
    is = ap (λ x. x ++ r) (encode-four c l);
    reads = lead (240 + c / 262144) tail-four (omega arith) ∙ (behind-four l h ∙ ap (λ x. Character c (length x)) (sym (encode-four c l)));
    ascii = λ b. absurd (omega arith);
    high = λ b. omega arith;
  }

  -- A scalar value begins with its bytes.
  pub begins : scalar c ≡ true → Begins c r
  begins s = elim (cases_lt c 128) [
    | inl one ↦ begins-one one
    | inr a ↦ elim (cases_lt c 2048) [
      | inl two ↦ begins-two a two
      | inr b ↦ elim (cases_lt c 65536) [
        | inl three ↦ begins-three b three s
        | inr d ↦ begins-four d (let top : c < 1114112 = grind (arith, nat_tests) in top)
      ]
    ]
  ]
