-- The bytes of a reference, one by one.
use Rattle.std.proofs.Common.{◌≡◌, ℕ, zero, suc, ◌+◌, ◌-◌, ◌*◌, ◌<◌, ◌≤◌, Bool, true, false, List, [], ◌∷◌, ◌++◌, length, take, drop, get_or, refl, sym, ap}
use Rattle.std.proofs.Common.{◌∙◌, arith, Some, None, option_and_then, if◌then◌else◌, ◌⊎◌, inl, inr}
use Rattle.std.specs.Char.{is_digit, digit_value}
use Rattle.std.proofs.lemmas.List.{take_more, append_assoc, drop_more, append-nil}
use Rattle.std.proofs.lemmas.Bool.Decides.{nat_tests}
use Rattle.inv_base.specs.Characters.{is_char}
use Rattle.xml_tokens.specs.References.{is_reference_byte, reference_body, digits_behind, number_of_digits, if_char}

-- What is known behind so many bytes of a reference.
pub record Body (bytes : List ℕ) (room i : ℕ) : Type 0 where
  pub whole : reference_body bytes room ≡ take i bytes ++ reference_body (drop i bytes) (room - i)
  pub most : i ≤ room

pub body-begin : (bytes : List ℕ) (room : ℕ) → Body bytes room 0
body-begin bytes room =
    let e : room ≡ room - 0 = omega arith in
    record { whole = ap (reference_body bytes) e; most = omega arith }

body-one : (b : ℕ) (rest : List ℕ) (room : ℕ) → is_reference_byte b ≡ true → reference_body (b ∷ rest) (suc room) ≡ b ∷ reference_body rest room
body-one b rest room e = ap (λ t. elim t [ true ↦ b ∷ reference_body rest room | false ↦ [] ]) e

body-none : (b : ℕ) (rest : List ℕ) (room : ℕ) → is_reference_byte b ≡ false → reference_body (b ∷ rest) room ≡ []
body-none b rest zero e = refl
body-none b rest (suc room) e = ap (λ t. elim t [ true ↦ b ∷ reference_body rest room | false ↦ [] ]) e

body-room : (bytes : List ℕ) → reference_body bytes 0 ≡ []
body-room [] = refl
body-room (b ∷ bytes) = refl

pub body-step : (bytes : List ℕ) (room i : ℕ) → i < length bytes → i < room → is_reference_byte (get_or bytes i 0) ≡ true → Body bytes room i →
    Body bytes room (i + 1)
body-step bytes room i h l e known =
    let left : room - i ≡ suc (room - (i + 1)) = omega arith in
    record {
      whole = known.whole ∙ (ap (λ n. take i bytes ++ reference_body (drop i bytes) n) left
          ∙ (ap (λ x. take i bytes ++ reference_body x (suc (room - (i + 1)))) (drop_more bytes i 0 h)
          ∙ (ap (λ x. take i bytes ++ x) (body-one (get_or bytes i 0) (drop (i + 1) bytes) (room - (i + 1)) e)
          ∙ (sym (append_assoc (take i bytes) (get_or bytes i 0 ∷ []) (reference_body (drop (i + 1) bytes) (room - (i + 1))))
          ∙ ap (λ x. x ++ reference_body (drop (i + 1) bytes) (room - (i + 1))) (sym (take_more bytes i 0 h))))));
      most = omega arith;
    }

body-last : (bytes : List ℕ) (room i : ℕ) → reference_body (drop i bytes) (room - i) ≡ [] → Body bytes room i → take i bytes ≡ reference_body bytes room
body-last bytes room i e known = sym (known.whole ∙ (ap (λ x. take i bytes ++ x) e ∙ append-nil (take i bytes)))

pub body-full : (bytes : List ℕ) (room i : ℕ) → i ≡ room → Body bytes room i → take i bytes ≡ reference_body bytes room
body-full bytes room i e known =
    let none : room - i ≡ 0 = omega arith in
    body-last bytes room i (ap (reference_body (drop i bytes)) none ∙ body-room (drop i bytes)) known

pub body-stop : (bytes : List ℕ) (room i : ℕ) → i < length bytes → is_reference_byte (get_or bytes i 0) ≡ false → Body bytes room i →
    take i bytes ≡ reference_body bytes room
body-stop bytes room i h e known = body-last bytes room i (ap (λ x. reference_body x (room - i)) (drop_more bytes i 0 h) ∙
    body-none (get_or bytes i 0) (drop (i + 1) bytes) (room - i) e) known

pub body-end : (bytes : List ℕ) (room i : ℕ) → drop i bytes ≡ [] → Body bytes room i → take i bytes ≡ reference_body bytes room
body-end bytes room i e known = body-last bytes room i (ap (λ x. reference_body x (room - i)) e) known

-- What is known behind so many digits.
pub record Spelling (radix : ℕ) (digits : List ℕ) (i number : ℕ) : Type 0 where
  pub whole : digits_behind radix 0 digits ≡ digits_behind radix number (drop i digits)
  pub most : number ≤ 1114111

pub spelling-begin : (radix : ℕ) (digits : List ℕ) → Spelling radix digits 0 0
spelling-begin radix digits = record { whole = refl; most = omega arith }

digit-right : (radix n c : ℕ) (rest : List ℕ) → digit_value c < radix → digits_behind radix n (c ∷ rest) ≡ digits_behind radix (n * radix + digit_value c) rest
digit-right radix n c rest h =
    let e : is_digit c radix ≡ true = grind (arith, nat_tests) in
    ap (λ t. if t then digits_behind radix (n * radix + digit_value c) rest else None) e

digit-wrong : (radix n c : ℕ) (rest : List ℕ) → (digit_value c < radix → ⊥) → digits_behind radix n (c ∷ rest) ≡ None
digit-wrong radix n c rest h =
    let l : radix ≤ digit_value c = omega arith in
    let e : is_digit c radix ≡ false = grind (arith, nat_tests) in
    ap (λ t. if t then digits_behind radix (n * radix + digit_value c) rest else None) e

if_char-great : (c : ℕ) → 1114111 < c → if_char c ≡ None
unfolding is_char
if_char-great c h =
    let e : is_char c ≡ false = grind (arith, nat_tests) in
    ap (λ t. if t then Some c else None) e

too-great : (radix n : ℕ) (digits : List ℕ) → 1 ≤ radix → 1114111 < n → option_and_then if_char (digits_behind radix n digits) ≡ None
too-great radix n [] h g = if_char-great n g
too-great radix n (c ∷ digits) h g = by (is_digit c radix) (too-great radix (n * radix + digit_value c) digits h (omega (arith, more)))
  where
    more : n ≤ n * radix
    more = grind arith

    by : (t : Bool) → option_and_then if_char (digits_behind radix (n * radix + digit_value c) digits) ≡ None →
        option_and_then if_char (if t then digits_behind radix (n * radix + digit_value c) digits else None) ≡ None
    by true e = e
    by false e = refl

pub radix-small : (radix n : ℕ) → (radix ≡ 10) ⊎ (radix ≡ 16) → n ≤ 1114111 → (n * radix ≤ 17825776) × (1 ≤ radix) × (radix ≤ 16)
radix-small radix n h g = elim h [
  | inl e ↦ (let k : n * radix ≡ n * 10 = ap (λ r. n * r) e in omega arith, omega arith, omega arith)
  | inr e ↦ (let k : n * radix ≡ n * 16 = ap (λ r. n * r) e in omega arith, omega arith, omega arith)
]

at-first : (radix : ℕ) (digits : List ℕ) → 0 < length digits → number_of_digits radix digits ≡ digits_behind radix 0 digits
at-first radix [] h = absurd (omega arith)
at-first radix (c ∷ digits) h = refl

pub spelling-step : (radix : ℕ) (digits : List ℕ) (i number d next : ℕ) → i < length digits → digit_value (get_or digits i 0) < radix →
    d ≡ digit_value (get_or digits i 0) → next ≡ number * radix + d → next ≤ 1114111 → Spelling radix digits i number → Spelling radix digits (i + 1) next
spelling-step radix digits i number d next h l e f g known = record {
  whole = known.whole ∙ (ap (digits_behind radix number) (drop_more digits i 0 h)
      ∙ (digit-right radix number (get_or digits i 0) (drop (i + 1) digits) l
      ∙ ap (λ n. digits_behind radix n (drop (i + 1) digits)) (sym (f ∙ ap (λ x. number * radix + x) e))));
  most = g;
}

pub spelling-great : (radix : ℕ) (digits : List ℕ) (i number d : ℕ) → 1 ≤ radix → i < length digits → digit_value (get_or digits i 0) < radix →
    d ≡ digit_value (get_or digits i 0) → 1114111 < number * radix + d → Spelling radix digits i number
    → None ≡ option_and_then if_char (number_of_digits radix digits)
spelling-great radix digits i number d r h l e g known =
    let same : number * radix + d ≡ number * radix + digit_value (get_or digits i 0) = ap (λ x. number * radix + x) e in
    sym (ap (option_and_then if_char) (at-first radix digits (omega arith) ∙ (known.whole ∙ (ap (digits_behind radix number) (drop_more digits i 0 h)
    ∙ digit-right radix number (get_or digits i 0) (drop (i + 1) digits) l)))
    ∙ too-great radix (number * radix + digit_value (get_or digits i 0)) (drop (i + 1) digits) r (omega arith))

pub spelling-wrong : (radix : ℕ) (digits : List ℕ) (i number : ℕ) → i < length digits → (digit_value (get_or digits i 0) < radix → ⊥) →
    Spelling radix digits i number → None ≡ option_and_then if_char (number_of_digits radix digits)
spelling-wrong radix digits i number h l known =
    sym (ap (option_and_then if_char) (at-first radix digits (omega arith) ∙ (known.whole ∙ (ap (digits_behind radix number) (drop_more digits i 0 h)
    ∙ digit-wrong radix number (get_or digits i 0) (drop (i + 1) digits) l))))

pub spelling-end : (radix : ℕ) (digits : List ℕ) (i number : ℕ) → 0 < length digits → drop i digits ≡ [] → Spelling radix digits i number →
    if_char number ≡ option_and_then if_char (number_of_digits radix digits)
spelling-end radix digits i number h e known = sym (ap (option_and_then if_char) (at-first radix digits h ∙ (known.whole ∙ ap (digits_behind radix number) e)))
