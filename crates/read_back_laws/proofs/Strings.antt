-- How strings are read, and what text they spell.
use Rattle.std.proofs.Common.{◌≡◌, ◌⊎◌, ℕ, ◌+◌, ◌-◌, ◌/◌, ◌%◌, ◌<◌, ◌≤◌, Bool, true, false, not, cond, nat_lt, nat_le, ◌==◌, ◌&&◌, ◌||◌, List, [], ◌∷◌, ◌++◌}
use Rattle.std.proofs.Common.{length, Option, Some, None, Ok, inl, inr, refl, ap, sym, ◌∙◌, subst, arith, append_assoc, append-nil, lit<}
use Rattle.std.specs.List.{flat_map}
use Rattle.std.proofs.lemmas.Bool.{agree_below, agree_below_at, and_parts, or_parts, or_cases, cases_lt, cases_Bool, cases_eq, ltb-true, le-ltb, lt-ltb}
use Rattle.std.proofs.lemmas.Bool.{lt-leb, eqb-true, ne_eqb, not-true}
use Rattle.std.proofs.lemmas.Str.{encode_ascii, encodes-append}
use lib.Utf8.{scalar, scalars, scalar_cases, low_scalar, encode, encodes, next}
use Rattle.json_text.specs.Layout.{short_escape, hex_digit, long_escape, character_text, string_text}
use Rattle.json_text.specs.Escapes.{is_escaped}
use Rattle.json_text.proofs.StringLemmas.{character-itself, character-short, character-long, character-IsAsciiEscape}
use Rattle.json_reading.specs.declared.item.Item.{Item}
use Rattle.json_reading.specs.declared.item.ItemKind.TheVariants as kinds
use Rattle.json_reading.specs.declared.item.Span.{Span}
use Rattle.json_reading.specs.declared.mode.Inside.TheVariants as inside
use Rattle.json_reading.specs.declared.mode.Mode.{Mode}
use Rattle.json_reading.specs.declared.mode.Mode.TheVariants as mode
use Rattle.json_reading.specs.declared.mode.Role.{Role}
use Rattle.json_reading.specs.declared.mode.Role.TheVariants as role
use Rattle.json_reading.specs.declared.mode.Tail.{Tail}
use Rattle.json_reading.specs.declared.mode.TextMode.{TextMode}
use Rattle.json_reading.specs.declared.reader.Open.{Open}
use Rattle.json_reading.specs.Bytes.{is_hex, is_short}
use Rattle.json_reading.specs.Strings.{going, tail_of, wide_by, in_plain, in_escape, in_hex, in_tail, text_turn}
use Rattle.json_reading.specs.Turns.{turn}
use Rattle.json_reading.specs.Reading.{State, number_ended, act, step, run}
use Rattle.json_reading.specs.Texts.{short, unit, text_of, text_behind, nothing_pending, saying, character, first_unit, behind}
use Rattle.json_reading.specs.declared.texts.Digits.{Digits}
use Rattle.json_reading.specs.declared.texts.Digits.TheVariants as digits
use Rattle.json_reading.specs.declared.texts.Pending.{Pending}
use Rattle.json_reading.specs.declared.texts.Said.TheVariants.{Goes, Byte, Character}
use Rattle.json_reading.proofs.TextLemmas.{behind-nil, behind-append, continued, text_step}
use Rattle.read_back_laws.specs.Items.{width, has_escape, item, string_span}
use Rattle.read_back_laws.proofs.Bytes.{encode-behind, width-append, encode-string, width-string}
use Rattle.read_back_laws.proofs.States.{state, text_mode, one, moved}

-- ---- escapes: what stands behind the backslash is one that is read, and says the character

fine_by : Option ℕ → ℕ → Bool
fine_by (Some letter) c = is_short letter && (not (letter == 0x75) && short letter == c)
fine_by None c =
    not (is_escaped c) || (is_hex (hex_digit (c / 16)) && (is_hex (hex_digit (c % 16)) && unit 0x30 0x30 (hex_digit (c / 16)) (hex_digit (c % 16)) == c))

is_fine : ℕ → Bool
is_fine c = fine_by (short_escape c) c

all_fine : agree_below is_fine (λ _. true) 128 ≡ true
unfolding is_fine fine_by short_escape
all_fine = refl

-- only ASCII is escaped
escaped-ascii : (c : ℕ) → is_escaped c ≡ true → c < 128
escaped-ascii c e =
    elim (or_cases (nat_lt c 0x20) (c == 0x22 || c == 0x5C) e) [
      | inl below ↦ let h : c < 0x20 = ltb-true c 0x20 below in omega arith
      | inr quotes ↦ elim (or_cases (c == 0x22) (c == 0x5C) quotes) [
        | inl same ↦ let h : c ≡ 0x22 = eqb-true c 0x22 same in omega arith
        | inr same ↦ let h : c ≡ 0x5C = eqb-true c 0x5C same in omega arith
      ]
    ]

-- what an escape is
record IsShort (c letter : ℕ) : Type 0 where
  text : encodes (character_text c) ≡ 0x5C ∷ letter ∷ []
  read : is_short letter ≡ true
  apart : (letter == 0x75) ≡ false
  says : short letter ≡ c

record IsLong (c : ℕ) : Type 0 where
  text : encodes (character_text c) ≡ long_escape c
  first : is_hex (hex_digit (c / 16)) ≡ true
  second : is_hex (hex_digit (c % 16)) ≡ true
  says : unit 0x30 0x30 (hex_digit (c / 16)) (hex_digit (c % 16)) ≡ c

is_short_of : (c letter : ℕ) → is_escaped c ≡ true → short_escape c ≡ Some letter → IsShort c letter
unfolding is_fine fine_by
is_short_of c letter e s =
    let below : c < 128 = escaped-ascii c e in
    let fine : fine_by (short_escape c) c ≡ true = agree_below_at is_fine (λ _. true) 128 c all_fine below in
    let here : (is_short letter && (not (letter == 0x75) && short letter == c)) ≡ true = subst (λ o. fine_by o c ≡ true) s fine in
    let parts = and_parts (is_short letter) (not (letter == 0x75) && short letter == c) here in
    let last = and_parts (not (letter == 0x75)) (short letter == c) parts.1 in
    record {
      text = character-IsAsciiEscape.ascii c below ∙ character-short c letter s;
      read = parts.0;
      apart = not-true (letter == 0x75) last.0;
      says = eqb-true (short letter) c last.1;
    }

is_long_of : (c : ℕ) → is_escaped c ≡ true → short_escape c ≡ None → IsLong c
unfolding is_fine fine_by
is_long_of c e s =
    let below : c < 128 = escaped-ascii c e in
    let fine : fine_by (short_escape c) c ≡ true = agree_below_at is_fine (λ _. true) 128 c all_fine below in
    let hexes = is_hex (hex_digit (c / 16)) && (is_hex (hex_digit (c % 16)) && unit 0x30 0x30 (hex_digit (c / 16)) (hex_digit (c % 16)) == c) in
    let there : (not (is_escaped c) || hexes) ≡ true = subst (λ o. fine_by o c ≡ true) s fine in
    let here : hexes ≡ true = subst (λ b. (not b || hexes) ≡ true) e there in
    let parts = and_parts (is_hex (hex_digit (c / 16))) (is_hex (hex_digit (c % 16)) && unit 0x30 0x30 (hex_digit (c / 16)) (hex_digit (c % 16)) == c) here in
    let last = and_parts (is_hex (hex_digit (c % 16))) (unit 0x30 0x30 (hex_digit (c / 16)) (hex_digit (c % 16)) == c) parts.1 in
    record {
      text = character-IsAsciiEscape.ascii c below ∙ character-long c e s;
      first = parts.0;
      second = last.0;
      says = eqb-true (unit 0x30 0x30 (hex_digit (c / 16)) (hex_digit (c % 16))) c last.1;
    }

-- A character of a string is itself, or has a short escape, or a long one.
data Kind (c : ℕ) : Type 0 where
  itself : is_escaped c ≡ false → Kind c
  shortly : (letter : ℕ) → is_escaped c ≡ true → IsShort c letter → Kind c
  at_length : is_escaped c ≡ true → IsLong c → Kind c

kind_by : (c : ℕ) (o : Option ℕ) → is_escaped c ≡ true → short_escape c ≡ o → Kind c
kind_by c (Some letter) e s = shortly letter e (is_short_of c letter e s)
kind_by c None e s = at_length e (is_long_of c e s)

kind : (c : ℕ) → Kind c
kind c = elim (cases_Bool (is_escaped c)) [
  | inl e ↦ kind_by c (short_escape c) e refl
  | inr e ↦ itself e
]

-- ---- reading a string: each character leaves that one more comes next

module _ (deepest : ℕ) (start : ℕ) (r : Role) (name : Option Span) (around : List Open) (items : List Item) where
  -- in the string, where a character comes next
  abbrev pub inner : Bool → State
  inner escaped = state (text_mode start escaped r inside.Plain) name around items

  abbrev amid : Bool → Tail → State
  amid escaped tail = state (text_mode start escaped r (inside.Tail tail)) name around items

  -- how bytes lead to the next character
  abbrev pub Passes : List ℕ → Bool → Bool → Type 0
  Passes bytes before after = (at : ℕ) (more : List ℕ) → run deepest at (bytes ++ more) (inner before) ≡ run deepest (at + length bytes) more (inner after)

  plain_step : (at b : ℕ) (escaped : Bool) → is_escaped b ≡ false → b < 128 → step deepest at b (inner escaped) ≡ Ok (inner escaped)
  unfolding step number_ended turn text_turn in_plain act
  plain_step at b escaped e h =
      let low : (nat_lt b 0x20 ≡ false) × ((b == 0x22 || b == 0x5C) ≡ false) = or_parts (nat_lt b 0x20) (b == 0x22 || b == 0x5C) e in
      let quote : ((b == 0x22) ≡ false) × ((b == 0x5C) ≡ false) = or_parts (b == 0x22) (b == 0x5C) low.1 in
      let ascii : nat_lt 0x7F b ≡ false = le-ltb 0x7F b (omega arith) in
      rw (quote.0, quote.1, low.0, ascii) refl

  plain_passes : (b : ℕ) (escaped : Bool) → is_escaped b ≡ false → b < 128 → Passes (b ∷ []) escaped escaped
  plain_passes b escaped e h at more = one deepest at b more (inner escaped) (inner escaped) (plain_step at b escaped e h)

  backslash_step : (at : ℕ) (escaped : Bool)
      → step deepest at 0x5C (inner escaped) ≡ Ok (state (text_mode start true r inside.Escape) name around items)
  unfolding step number_ended turn text_turn in_plain act
  backslash_step at escaped = refl

  letter_step : (at letter : ℕ) → is_short letter ≡ true
      → step deepest at letter (state (text_mode start true r inside.Escape) name around items) ≡ Ok (inner true)
  unfolding step number_ended turn text_turn in_escape act
  letter_step at letter h = rw h refl

  pub short_passes : (letter : ℕ) (escaped : Bool) → is_short letter ≡ true → Passes (0x5C ∷ letter ∷ []) escaped true
  short_passes letter escaped h at more =
      one deepest at 0x5C (letter ∷ more) _ _ (backslash_step at escaped)
      ∙ (one deepest (at + 1) letter more _ _ (letter_step (at + 1) letter h) ∙ moved deepest _ _ more _ (omega arith))

  abbrev hex : ℕ → State
  hex left = state (text_mode start true r (inside.Hex left)) name around items

  u_step : (at : ℕ) → step deepest at 0x75 (state (text_mode start true r inside.Escape) name around items) ≡ Ok (hex 4)
  unfolding step number_ended turn text_turn in_escape act
  u_step at = refl

  digit_step : (at b : ℕ) → is_hex b ≡ true → (step deepest at b (hex 4) ≡ Ok (hex 3)) × ((step deepest at b (hex 3) ≡ Ok (hex 2))
      × ((step deepest at b (hex 2) ≡ Ok (hex 1)) × (step deepest at b (hex 1) ≡ Ok (inner true))))
  unfolding step number_ended turn text_turn in_hex act
  digit_step at b h = (rw h refl, (rw h refl, (rw h refl, rw h refl)))

  pub long_passes : (a b c d : ℕ) (escaped : Bool) → is_hex a ≡ true → is_hex b ≡ true → is_hex c ≡ true → is_hex d ≡ true
      → Passes (0x5C ∷ 0x75 ∷ a ∷ b ∷ c ∷ d ∷ []) escaped true
  long_passes a b c d escaped h k l m at more =
      one deepest at 0x5C (0x75 ∷ a ∷ b ∷ c ∷ d ∷ more) _ _ (backslash_step at escaped)
      ∙ (one deepest (at + 1) 0x75 (a ∷ b ∷ c ∷ d ∷ more) _ _ (u_step (at + 1))
      ∙ (one deepest (at + 1 + 1) a (b ∷ c ∷ d ∷ more) _ _ (digit_step (at + 1 + 1) a h).0
      ∙ (one deepest (at + 1 + 1 + 1) b (c ∷ d ∷ more) _ _ (digit_step (at + 1 + 1 + 1) b k).1.0
      ∙ (one deepest (at + 1 + 1 + 1 + 1) c (d ∷ more) _ _ (digit_step (at + 1 + 1 + 1 + 1) c l).1.1.0
      ∙ (one deepest (at + 1 + 1 + 1 + 1 + 1) d more _ _ (digit_step (at + 1 + 1 + 1 + 1 + 1) d m).1.1.1
      ∙ moved deepest _ _ more _ (omega arith))))))

-- ---- UTF-8: a character that isn't ASCII

-- what may come behind its first byte
record Leads (b left low high : ℕ) : Type 0 where
  wide : 0x7F < b
  tail : (at : ℕ) → tail_of at b ≡ Some (record { at = at; left = left; low = low; high = high })

two_leads : (b : ℕ) → 0xC2 ≤ b → b < 0xE0 → Leads b 1 0x80 0xBF
two_leads b h k =
    let f0 : nat_lt b 0xF0 ≡ true = lt-ltb b 0xF0 (omega arith) in
    let c2 : nat_lt b 0xC2 ≡ false = le-ltb b 0xC2 h in
    let e0 : nat_lt b 0xE0 ≡ true = lt-ltb b 0xE0 k in
    record { wide = omega arith; tail = λ at. rw (f0, c2, e0) refl }

three_lead_first : Leads 0xE0 2 0xA0 0xBF
three_lead_first = record { wide = lit< tt; tail = λ at. refl }

three_lead_before_surrogates : Leads 0xED 2 0x80 0x9F
three_lead_before_surrogates = record { wide = lit< tt; tail = λ at. refl }

three_leads : (b : ℕ) → 0xE0 < b → b < 0xF0 → (b ≡ 0xED → ⊥) → Leads b 2 0x80 0xBF
three_leads b h k n =
    let f0 : nat_lt b 0xF0 ≡ true = lt-ltb b 0xF0 k in
    let c2 : nat_lt b 0xC2 ≡ false = le-ltb b 0xC2 (omega arith) in
    let e0 : nat_lt b 0xE0 ≡ false = le-ltb b 0xE0 (omega arith) in
    let no : (b == 0xE0) ≡ false = ne_eqb b 0xE0 (λ e. omega arith) in
    let ed : (b == 0xED) ≡ false = ne_eqb b 0xED n in
    record { wide = omega arith; tail = λ at. rw (f0, c2, e0, no, ed) refl }

four_lead_first : Leads 0xF0 3 0x90 0xBF
four_lead_first = record { wide = lit< tt; tail = λ at. refl }

four_lead_last : Leads 0xF4 3 0x80 0x8F
four_lead_last = record { wide = lit< tt; tail = λ at. refl }

four_leads : (b : ℕ) → 0xF0 < b → b < 0xF4 → Leads b 3 0x80 0xBF
four_leads b h k =
    let f0 : nat_lt b 0xF0 ≡ false = le-ltb b 0xF0 (omega arith) in
    let no : (b == 0xF0) ≡ false = ne_eqb b 0xF0 (λ e. omega arith) in
    let f4 : nat_lt b 0xF4 ≡ true = lt-ltb b 0xF4 k in
    record { wide = omega arith; tail = λ at. rw (f0, no, f4) refl }

-- a byte within bounds, and one of the later bytes of a character
abbrev IsFrom : ℕ → ℕ → ℕ → Type 0
IsFrom low high b = (low ≤ b) × (b ≤ high)

abbrev IsLater : ℕ → Type 0
IsLater b = IsFrom 0x80 0xBF b

-- the bytes of a character, by their number
data Wide (bytes : List ℕ) : Type 0 where
  two : (a b : ℕ) → bytes ≡ a ∷ b ∷ [] → Leads a 1 0x80 0xBF → IsLater b → Wide bytes
  three : (a b c low high : ℕ) → bytes ≡ a ∷ b ∷ c ∷ [] → Leads a 2 low high → IsFrom low high b → 0x80 ≤ b → IsLater c → Wide bytes
  four : (a b c d low high : ℕ) → bytes ≡ a ∷ b ∷ c ∷ d ∷ [] → Leads a 3 low high → IsFrom low high b → 0x80 ≤ b → IsLater c → IsLater d → Wide bytes

pub encode-two : (c : ℕ) → 128 ≤ c → c < 2048 → encode c ≡ (192 + c / 64) ∷ next c ∷ []
unfolding encode
encode-two c h k = let a : nat_lt c 128 ≡ false = le-ltb c 128 h in let b : nat_lt c 2048 ≡ true = lt-ltb c 2048 k in rw (a, b) refl

pub encode-three : (c : ℕ) → 2048 ≤ c → c < 65536 → encode c ≡ (224 + c / 4096) ∷ next (c / 64) ∷ next c ∷ []
unfolding encode
encode-three c h k =
    let a : nat_lt c 128 ≡ false = le-ltb c 128 (omega arith) in
    let b : nat_lt c 2048 ≡ false = le-ltb c 2048 h in
    let d : nat_lt c 65536 ≡ true = lt-ltb c 65536 k in
    rw (a, b, d) refl

pub encode-four : (c : ℕ) → 65536 ≤ c → encode c ≡ (240 + c / 262144) ∷ next (c / 4096) ∷ next (c / 64) ∷ next c ∷ []
unfolding encode
encode-four c h =
    let a : nat_lt c 128 ≡ false = le-ltb c 128 (omega arith) in
    let b : nat_lt c 2048 ≡ false = le-ltb c 2048 (omega arith) in
    let d : nat_lt c 65536 ≡ false = le-ltb c 65536 h in
    rw (a, b, d) refl

later : (x : ℕ) → IsLater (next x)
later x = (omega arith, omega arith)

wide-three : (c : ℕ) → 2048 ≤ c → c < 65536 → (c < 55296) ⊎ ((57344 ≤ c) × (c < 1114112)) → Wide (encode c)
wide-three c h k s =
    elim (cases_eq (c / 4096) 0) [
      | inl first ↦ three (224 + c / 4096) (next (c / 64)) (next c) 0xA0 0xBF (encode-three c h k)
          (subst (λ b. Leads b 2 0xA0 0xBF) (omega arith) three_lead_first) (omega arith, omega arith) (omega arith) (later c)
      | inr not_first ↦ elim (cases_eq (c / 4096) 13) [
        | inl last ↦ three (224 + c / 4096) (next (c / 64)) (next c) 0x80 0x9F (encode-three c h k)
            (subst (λ b. Leads b 2 0x80 0x9F) (omega arith) three_lead_before_surrogates) (omega arith, below_surrogates c last s) (omega arith) (later c)
        | inr not_last ↦ three (224 + c / 4096) (next (c / 64)) (next c) 0x80 0xBF (encode-three c h k)
            (three_leads (224 + c / 4096) (above_first c not_first) (omega arith) (λ e. not_last (omega arith))) (later (c / 64)) (omega arith) (later c)
      ]
    ]
  where
    below_surrogates : (x : ℕ) → x / 4096 ≡ 13 → (x < 55296) ⊎ ((57344 ≤ x) × (x < 1114112)) → next (x / 64) ≤ 0x9F
    below_surrogates x e (inl low) = omega arith
    below_surrogates x e (inr high) = omega arith

    above_first : (x : ℕ) → (x / 4096 ≡ 0 → ⊥) → 0xE0 < 224 + x / 4096
    above_first x n = omega arith

wide-four : (c : ℕ) → 65536 ≤ c → c < 1114112 → Wide (encode c)
wide-four c h k =
    elim (cases_eq (c / 262144) 0) [
      | inl first ↦ four (240 + c / 262144) (next (c / 4096)) (next (c / 64)) (next c) 0x90 0xBF (encode-four c h)
          (subst (λ b. Leads b 3 0x90 0xBF) (omega arith) four_lead_first) (omega arith, omega arith) (omega arith) (later (c / 64)) (later c)
      | inr not_first ↦ elim (cases_eq (c / 262144) 4) [
        | inl last ↦ four (240 + c / 262144) (next (c / 4096)) (next (c / 64)) (next c) 0x80 0x8F (encode-four c h)
            (subst (λ b. Leads b 3 0x80 0x8F) (omega arith) four_lead_last) (omega arith, omega arith) (omega arith) (later (c / 64)) (later c)
        | inr not_last ↦ four (240 + c / 262144) (next (c / 4096)) (next (c / 64)) (next c) 0x80 0xBF (encode-four c h)
            (four_leads (240 + c / 262144) (omega arith) (omega arith)) (later (c / 4096)) (omega arith) (later (c / 64)) (later c)
      ]
    ]

wide_by_size : (c : ℕ) → 128 ≤ c → (c < 55296) ⊎ ((57344 ≤ c) × (c < 1114112)) → Wide (encode c)
wide_by_size c h s = elim (cases_lt c 2048) [
  | inl small ↦ two (192 + c / 64) (next c) (encode-two c h small) (two_leads (192 + c / 64) (omega arith) (omega arith)) (later c)
  | inr wider ↦ elim (cases_lt c 65536) [
    | inl middle ↦ wide-three c wider middle s
    | inr large ↦ wide-four c large (below c large s)
  ]
]
  where
    below : (x : ℕ) → 65536 ≤ x → (x < 55296) ⊎ ((57344 ≤ x) × (x < 1114112)) → x < 1114112
    below x l (inl low) = omega arith
    below x l (inr high) = high.1

wide_of : (c : ℕ) → 128 ≤ c → scalar c ≡ true → Wide (encode c)
wide_of c h s = wide_by_size c h (scalar_cases c s)

module _ (deepest : ℕ) (start : ℕ) (r : Role) (name : Option Span) (around : List Open) (items : List Item) (escaped : Bool) where
  within : ℕ → ℕ → ℕ → ℕ → State
  within at left low high = amid deepest start r name around items escaped (record { at = at; left = left; low = low; high = high })

  next_one : State
  next_one = inner deepest start r name around items escaped

  lead_turn : (at b left low high : ℕ) (t : TextMode) → Leads b left low high
      → in_plain at b t ≡ going t (inside.Tail (record { at = at; left = left; low = low; high = high }))
  unfolding in_plain
  lead_turn at b left low high t leads =
      let quote : (b == 0x22) ≡ false = ne_eqb b 0x22 (λ e. omega (arith, leads.wide)) in
      let backslash : (b == 0x5C) ≡ false = ne_eqb b 0x5C (λ e. omega (arith, leads.wide)) in
      let control : nat_lt b 0x20 ≡ false = le-ltb b 0x20 (omega (arith, leads.wide)) in
      let wide : nat_lt 0x7F b ≡ true = lt-ltb 0x7F b leads.wide in
      rw (quote, backslash, control, wide) (ap (wide_by at t) (leads.tail at))

  lead_step : (at b left low high : ℕ) → Leads b left low high → step deepest at b next_one ≡ Ok (within at left low high)
  unfolding step number_ended turn text_turn act within next_one
  lead_step at b left low high leads =
      ap (λ t. act deepest at t next_one)
      (lead_turn at b left low high (record { start = start; escaped = escaped; role = r; inside = inside.Plain }) leads)

  tail_turn : (b low high : ℕ) (t : TextMode) (tail : Tail) → tail.low ≡ low → tail.high ≡ high → IsFrom low high b
      → in_tail b t tail ≡ cond (nat_le tail.left 1) (going t inside.Plain)
      (going t (inside.Tail (record { at = tail.at; left = tail.left - 1; low = 0x80; high = 0xBF })))
  unfolding in_tail
  tail_turn b low high t tail e f h =
      let under : nat_lt b tail.low ≡ false = le-ltb b tail.low (omega arith) in
      let over : nat_lt tail.high b ≡ false = le-ltb tail.high b (omega arith) in
      rw (under, over) refl

  last_step : (at begin b low high : ℕ) → IsFrom low high b → step deepest at b (within begin 1 low high) ≡ Ok next_one
  unfolding step number_ended turn text_turn act within next_one
  last_step at begin b low high h =
      ap (λ t. act deepest at t (within begin 1 low high))
      (tail_turn b low high (record {
        start = start;
        escaped = escaped;
        role = r;
        inside = inside.Tail
            (record { at = begin; left = 1; low = low; high = high });
      })
      (record { at = begin; left = 1; low = low; high = high }) refl refl h)

  middle_step : (at begin b low high : ℕ) → IsFrom low high b → step deepest at b (within begin 2 low high) ≡ Ok (within begin 1 0x80 0xBF)
  unfolding step number_ended turn text_turn act within
  middle_step at begin b low high h =
      ap (λ t. act deepest at t (within begin 2 low high))
      (tail_turn b low high (record {
        start = start;
        escaped = escaped;
        role = r;
        inside = inside.Tail
            (record { at = begin; left = 2; low = low; high = high });
      })
      (record { at = begin; left = 2; low = low; high = high }) refl refl h)

  early_step : (at begin b low high : ℕ) → IsFrom low high b → step deepest at b (within begin 3 low high) ≡ Ok (within begin 2 0x80 0xBF)
  unfolding step number_ended turn text_turn act within
  early_step at begin b low high h =
      ap (λ t. act deepest at t (within begin 3 low high))
      (tail_turn b low high (record {
        start = start;
        escaped = escaped;
        role = r;
        inside = inside.Tail
            (record { at = begin; left = 3; low = low; high = high });
      })
      (record { at = begin; left = 3; low = low; high = high }) refl refl h)

  wide_passes : (bytes : List ℕ) → Wide bytes → Passes deepest start r name around items bytes escaped escaped
  unfolding next_one
  wide_passes bytes (two a b e leads last) at more =
      ap (λ x. run deepest at (x ++ more) next_one) e
      ∙ (one deepest at a (b ∷ more) _ _ (lead_step at a 1 0x80 0xBF leads)
      ∙ (one deepest (at + 1) b more _ _ (last_step (at + 1) at b 0x80 0xBF last)
      ∙ moved deepest _ _ more _ (omega (arith, ap length e))))
  wide_passes bytes (three a b c low high e leads second _ last) at more =
      ap (λ x. run deepest at (x ++ more) next_one) e
      ∙ (one deepest at a (b ∷ c ∷ more) _ _ (lead_step at a 2 low high leads)
      ∙ (one deepest (at + 1) b (c ∷ more) _ _ (middle_step (at + 1) at b low high second)
      ∙ (one deepest (at + 1 + 1) c more _ _ (last_step (at + 1 + 1) at c 0x80 0xBF last)
      ∙ moved deepest _ _ more _ (omega (arith, ap length e)))))
  wide_passes bytes (four a b c d low high e leads second _ third last) at more =
      ap (λ x. run deepest at (x ++ more) next_one) e
      ∙ (one deepest at a (b ∷ c ∷ d ∷ more) _ _ (lead_step at a 3 low high leads)
      ∙ (one deepest (at + 1) b (c ∷ d ∷ more) _ _ (early_step (at + 1) at b low high second)
      ∙ (one deepest (at + 1 + 1) c (d ∷ more) _ _ (middle_step (at + 1 + 1) at c 0x80 0xBF third)
      ∙ (one deepest (at + 1 + 1 + 1) d more _ _ (last_step (at + 1 + 1 + 1) at d 0x80 0xBF last)
      ∙ moved deepest _ _ more _ (omega (arith, ap length e))))))

-- ---- what the bytes say

-- whatever follows them
abbrev Spells : List ℕ → List ℕ → Type 0
Spells bytes text = (more : List ℕ) → text_behind nothing_pending (bytes ++ more) ≡ behind text (text_behind nothing_pending more)

plain_said : (b : ℕ) → (b == 0x5C) ≡ false → saying nothing_pending b ≡ Byte b
unfolding saying
plain_said b h = rw h refl

plain_byte : (b : ℕ) → (b == 0x5C) ≡ false → Spells (b ∷ []) (b ∷ [])
plain_byte b h more = text_step nothing_pending b more ∙ ap (continued more) (plain_said b h)

spells-append : (a b x y : List ℕ) → Spells a x → Spells b y → Spells (a ++ b) (x ++ y)
spells-append a b x y f g more =
    ap (text_behind nothing_pending) (append_assoc a b more)
    ∙ (f (b ++ more) ∙ (ap (behind x) (g more) ∙ behind-append x y (text_behind nothing_pending more)))

later_byte : (b : ℕ) → 0x80 ≤ b → Spells (b ∷ []) (b ∷ [])
later_byte b h = plain_byte b (ne_eqb b 0x5C (λ e. omega arith))

wide_spells : (bytes : List ℕ) → Wide bytes → Spells bytes bytes
wide_spells bytes (two a b e leads last) =
    subst (λ x. Spells x x) (sym e)
    (spells-append (a ∷ []) (b ∷ []) (a ∷ []) (b ∷ []) (later_byte a leads.wide) (later_byte b last.0))
wide_spells bytes (three a b c low high e leads _ second last) =
    subst (λ x. Spells x x) (sym e)
    (spells-append (a ∷ []) (b ∷ c ∷ []) (a ∷ []) (b ∷ c ∷ []) (later_byte a leads.wide)
    (spells-append (b ∷ []) (c ∷ []) (b ∷ []) (c ∷ []) (later_byte b second) (later_byte c last.0)))
wide_spells bytes (four a b c d low high e leads _ second third last) =
    subst (λ x. Spells x x) (sym e)
    (spells-append (a ∷ []) (b ∷ c ∷ d ∷ []) (a ∷ []) (b ∷ c ∷ d ∷ []) (later_byte a leads.wide)
    (spells-append (b ∷ []) (c ∷ d ∷ []) (b ∷ []) (c ∷ d ∷ []) (later_byte b second)
    (spells-append (c ∷ []) (d ∷ []) (c ∷ []) (d ∷ []) (later_byte c third.0) (later_byte d last.0))))

-- an escape, byte by byte
abbrev pending : Digits → Pending
pending d = record { high = None; digits = d }

backslash_said : saying nothing_pending 0x5C ≡ Goes (pending digits.Backslash)
unfolding saying
backslash_said = refl

letter_said : (letter c : ℕ) → (letter == 0x75) ≡ false → short letter ≡ c → saying (pending digits.Backslash) letter ≡ Byte c
unfolding saying
letter_said letter c apart e = rw apart (ap Byte e)

short_spells : (c letter : ℕ) → (letter == 0x75) ≡ false → short letter ≡ c → Spells (0x5C ∷ letter ∷ []) (c ∷ [])
short_spells c letter apart e more =
    text_step nothing_pending 0x5C (letter ∷ more)
    ∙ (ap (continued (letter ∷ more)) backslash_said
    ∙ (text_step (pending digits.Backslash) letter more ∙ ap (continued more) (letter_said letter c apart e)))

u_said : saying (pending digits.Backslash) 0x75 ≡ Goes (pending digits.None)
unfolding saying
u_said = refl

digit_said : (a b : ℕ) → (saying (pending digits.None) 0x30 ≡ Goes (pending (digits.One 0x30)))
    × ((saying (pending (digits.One 0x30)) 0x30 ≡ Goes (pending (digits.Two 0x30 0x30)))
    × (saying (pending (digits.Two 0x30 0x30)) a ≡ Goes (pending (digits.Three 0x30 0x30 a))))
unfolding saying
digit_said a b = (refl, (refl, refl))

character_said : (u c : ℕ) → u ≡ c → c < 128 → first_unit u ≡ Character c
unfolding character
character_said u c e h =
    let low : nat_le 0xD800 u ≡ false = lt-leb 0xD800 u (omega arith) in
    let is : scalar u ≡ true = low_scalar u (omega arith) in
    rw (low, is) (ap Character e)

last_said : (a b c : ℕ) → unit 0x30 0x30 a b ≡ c → c < 128 → saying (pending (digits.Three 0x30 0x30 a)) b ≡ Character c
unfolding saying
last_said a b c e h = character_said (unit 0x30 0x30 a b) c e h

long_spells : (a b c : ℕ) → unit 0x30 0x30 a b ≡ c → c < 128 → Spells (0x5C ∷ 0x75 ∷ 0x30 ∷ 0x30 ∷ a ∷ b ∷ []) (encode c)
long_spells a b c e h more =
    text_step nothing_pending 0x5C (0x75 ∷ 0x30 ∷ 0x30 ∷ a ∷ b ∷ more)
    ∙ (ap (continued (0x75 ∷ 0x30 ∷ 0x30 ∷ a ∷ b ∷ more)) backslash_said
    ∙ (text_step (pending digits.Backslash) 0x75 (0x30 ∷ 0x30 ∷ a ∷ b ∷ more)
    ∙ (ap (continued (0x30 ∷ 0x30 ∷ a ∷ b ∷ more)) u_said
    ∙ (text_step (pending digits.None) 0x30 (0x30 ∷ a ∷ b ∷ more)
    ∙ (ap (continued (0x30 ∷ a ∷ b ∷ more)) (digit_said a b).0
    ∙ (text_step (pending (digits.One 0x30)) 0x30 (a ∷ b ∷ more)
    ∙ (ap (continued (a ∷ b ∷ more)) (digit_said a b).1.0
    ∙ (text_step (pending (digits.Two 0x30 0x30)) a (b ∷ more)
    ∙ (ap (continued (b ∷ more)) (digit_said a b).1.1
    ∙ (text_step (pending (digits.Three 0x30 0x30 a)) b more ∙ ap (continued more) (last_said a b c e h)))))))))))

-- ---- a character, and all of them

pub or-false : (b : Bool) → (b || false) ≡ b
or-false true = refl
or-false false = refl

pub or-true : (b : Bool) → (b || true) ≡ true
or-true true = refl
or-true false = refl

pub or-assoc : (a b c : Bool) → ((a || b) || c) ≡ (a || (b || c))
or-assoc true b c = refl
or-assoc false b c = refl

-- a character that isn't escaped stands as its bytes
itself_text : (c : ℕ) → is_escaped c ≡ false → encodes (character_text c) ≡ encode c
itself_text c e = ap encodes (character-itself c e) ∙ append-nil (encode c)

module _ (deepest : ℕ) (start : ℕ) (r : Role) (name : Option Span) (around : List Open) (items : List Item) where
  abbrev pub Leaves : List ℕ → Bool → Bool → Type 0
  Leaves bytes before after = Passes deepest start r name around items bytes before after

  pub itself_passes : (c : ℕ) (escaped : Bool) → is_escaped c ≡ false → scalar c ≡ true → Leaves (encode c) escaped escaped
  itself_passes c escaped e s = elim (cases_lt c 128) [
    | inl below ↦ subst (λ x. Leaves x escaped escaped) (sym (encode_ascii c below))
        (plain_passes deepest start r name around items c escaped e below)
    | inr above ↦ wide_passes deepest start r name around items escaped (encode c) (wide_of c above s)
  ]

  kind_passes : (c : ℕ) (escaped : Bool) → scalar c ≡ true → Kind c → Leaves (encodes (character_text c)) escaped (escaped || is_escaped c)
  kind_passes c escaped s (itself e) =
      subst (λ x. Leaves x escaped (escaped || is_escaped c)) (sym (itself_text c e))
      (subst (λ b. Leaves (encode c) escaped b) (sym (ap (λ b. escaped || b) e ∙ or-false escaped)) (itself_passes c escaped e s))
  kind_passes c escaped s (shortly letter e is) =
      subst (λ x. Leaves x escaped (escaped || is_escaped c)) (sym is.text)
      (subst (λ b. Leaves (0x5C ∷ letter ∷ []) escaped b) (sym (ap (λ b. escaped || b) e ∙ or-true escaped))
      (short_passes deepest start r name around items letter escaped is.read))
  kind_passes c escaped s (at_length e is) =
      subst (λ x. Leaves x escaped (escaped || is_escaped c)) (sym is.text)
      (subst (λ b. Leaves (long_escape c) escaped b) (sym (ap (λ b. escaped || b) e ∙ or-true escaped))
      (long_passes deepest start r name around items 0x30 0x30 (hex_digit (c / 16)) (hex_digit (c % 16)) escaped refl refl is.first is.second))

  characters_pass : (characters : List ℕ) (escaped : Bool) → scalars characters ≡ true
      → Leaves (encodes (flat_map character_text characters)) escaped (escaped || has_escape characters)
  characters_pass [] escaped s at more =
      moved deepest at (at + 0) more _ (omega arith) ∙ ap (λ b. run deepest (at + 0) more (inner deepest start r name around items b)) (sym (or-false escaped))
  characters_pass (c ∷ characters) escaped s at more =
      let parts = and_parts (scalar c) (scalars characters) s in
      let first = character_text c in
      let others = flat_map character_text characters in
      ap (λ x. run deepest at x (inner deepest start r name around items escaped)) (encode-behind first others more)
      ∙ (kind_passes c escaped parts.0 (kind c) at (encodes others ++ more)
      ∙ (characters_pass characters (escaped || is_escaped c) parts.1 (at + width first) more
      ∙ (moved deepest _ _ more _ (omega (arith, width-append first others))
      ∙ ap (λ b. run deepest (at + width (first ++ others)) more (inner deepest start r name around items b))
      (or-assoc escaped (is_escaped c) (has_escape characters)))))

-- what a character says, and all of them
itself_spells : (c : ℕ) → is_escaped c ≡ false → scalar c ≡ true → Spells (encode c) (encode c)
itself_spells c e s = elim (cases_lt c 128) [
  | inl below ↦ subst (λ x. Spells x x) (sym (encode_ascii c below)) (plain_byte c (no_backslash c e))
  | inr above ↦ wide_spells (encode c) (wide_of c above s)
]
  where
    no_backslash : (x : ℕ) → is_escaped x ≡ false → (x == 0x5C) ≡ false
    no_backslash x h = (or_parts (x == 0x22) (x == 0x5C) (or_parts (nat_lt x 0x20) (x == 0x22 || x == 0x5C) h).1).1

kind_spells : (c : ℕ) → scalar c ≡ true → Kind c → Spells (encodes (character_text c)) (encode c)
kind_spells c s (itself e) = subst (λ x. Spells x (encode c)) (sym (itself_text c e)) (itself_spells c e s)
kind_spells c s (shortly letter e is) =
    subst (λ x. Spells x (encode c)) (sym is.text)
    (subst (λ x. Spells (0x5C ∷ letter ∷ []) x) (sym (encode_ascii c (escaped-ascii c e))) (short_spells c letter is.apart is.says))
kind_spells c s (at_length e is) =
    subst (λ x. Spells x (encode c)) (sym is.text)
    (long_spells (hex_digit (c / 16)) (hex_digit (c % 16)) c is.says (escaped-ascii c e))

characters_spell : (characters : List ℕ) → scalars characters ≡ true → Spells (encodes (flat_map character_text characters)) (encodes characters)
characters_spell [] s more = sym (behind-nil (text_behind nothing_pending more))
characters_spell (c ∷ characters) s more =
    let parts = and_parts (scalar c) (scalars characters) s in
    (subst (λ x. Spells x (encode c ++ encodes characters)) (sym (encodes-append (character_text c) (flat_map character_text characters)))
    (spells-append (encodes (character_text c)) (encodes (flat_map character_text characters)) (encode c) (encodes characters)
    (kind_spells c parts.0 (kind c)) (characters_spell characters parts.1))) more

-- Between the quotes stands the text.
pub string_says : (characters : List ℕ) → scalars characters ≡ true
    → text_of (encodes (flat_map character_text characters)) ≡ Some (encodes characters)
string_says characters s =
    ap text_of (sym (append-nil (encodes (flat_map character_text characters))))
    ∙ (characters_spell characters s [] ∙ ap Some (append-nil (encodes characters)))

-- ---- whole strings

module _ (deepest : ℕ) (m : Mode) (name : Option Span) (around : List Open) (items : List Item) (text : List ℕ) (escaped : Bool) (at : ℕ) where
  -- behind the first quote up to behind the last
  in_quotes : (r : Role) (more : List ℕ) (next : ℕ → State) → Passes deepest at r name around items text false escaped
      → step deepest at 0x22 (state m name around items) ≡ Ok (inner deepest at r name around items false)
      → ((n : ℕ) → step deepest n 0x22 (inner deepest at r name around items escaped) ≡ Ok (next (n + 1)))
      → run deepest at (0x22 ∷ (text ++ 0x22 ∷ more)) (state m name around items)
      ≡ run deepest (at + 1 + length text + 1) more (next (at + 1 + length text + 1))
  in_quotes r more next passes begins ends =
      let last = at + 1 + length text in
      one deepest at 0x22 (text ++ 0x22 ∷ more) _ _ begins ∙ (passes (at + 1) (0x22 ∷ more) ∙ one deepest last 0x22 more _ (next (last + 1)) (ends last))

  value_ends : (n : ℕ) → step deepest n 0x22 (inner deepest at role.Value name around items escaped)
      ≡ Ok (state mode.Behind None around (items ++ item kinds.Text name (record { at = at; end = n + 1; escaped = escaped }) 0 ∷ []))
  unfolding step number_ended turn text_turn in_plain act
  value_ends n = refl

  name_ends : (n : ℕ) → step deepest n 0x22 (inner deepest at role.Name name around items escaped)
      ≡ Ok (state mode.Colon (Some (record { at = at; end = n + 1; escaped = escaped })) around items)
  unfolding step number_ended turn text_turn in_plain act
  name_ends n = refl

  -- quotes with what is read between them as characters, where a value comes
  pub quoted_value_read : (more : List ℕ) → Passes deepest at role.Value name around items text false escaped
      → step deepest at 0x22 (state m name around items) ≡ Ok (state (text_mode at false role.Value inside.Plain) name around items)
      → run deepest at (0x22 ∷ (text ++ 0x22 ∷ more)) (state m name around items)
      ≡ run deepest (at + 1 + length text + 1) more
      (state mode.Behind None around (items ++ item kinds.Text name (record { at = at; end = at + 1 + length text + 1; escaped = escaped }) 0 ∷ []))
  quoted_value_read more passes begins =
      in_quotes role.Value more
      (λ n. state mode.Behind None around (items ++ item kinds.Text name (record { at = at; end = n; escaped = escaped }) 0 ∷ [])) passes begins value_ends

  -- where a name comes
  pub quoted_name_read : (more : List ℕ) → Passes deepest at role.Name name around items text false escaped
      → step deepest at 0x22 (state m name around items) ≡ Ok (state (text_mode at false role.Name inside.Plain) name around items)
      → run deepest at (0x22 ∷ (text ++ 0x22 ∷ more)) (state m name around items)
      ≡ run deepest (at + 1 + length text + 1) more (state mode.Colon (Some
      (record { at = at; end = at + 1 + length text + 1; escaped = escaped })) around items)
  quoted_name_read more passes begins =
      in_quotes role.Name more (λ n. state mode.Colon (Some (record { at = at; end = n; escaped = escaped })) around items) passes begins name_ends

module _ (deepest : ℕ) (m : Mode) (name : Option Span) (around : List Open) (items : List Item) (characters : List ℕ) (at : ℕ) where
  end_of_string : at + 1 + width (flat_map character_text characters) + 1 ≡ at + width (string_text characters)
  end_of_string = omega (arith, width-string characters)

  -- a string that is a value
  pub string_read : (more : List ℕ) → scalars characters ≡ true
      → step deepest at 0x22 (state m name around items) ≡ Ok (state (text_mode at false role.Value inside.Plain) name around items)
      → run deepest at (encodes (string_text characters) ++ more) (state m name around items)
      ≡ run deepest (at + width (string_text characters)) more
      (state mode.Behind None around (items ++ item kinds.Text name (string_span at characters) 0 ∷ []))
  string_read more s begins =
      ap (λ x. run deepest at x (state m name around items)) (encode-string characters more)
      ∙ (quoted_value_read deepest m name around items (encodes (flat_map character_text characters)) (has_escape characters) at more
      (characters_pass deepest at role.Value name around items characters false s) begins
      ∙ ap (λ n. run deepest n more
      (state mode.Behind None around (items ++ item kinds.Text name (record { at = at; end = n; escaped = has_escape characters }) 0 ∷ []))) end_of_string)

  -- a string that is a name
  pub name_read : (more : List ℕ) → scalars characters ≡ true
      → step deepest at 0x22 (state m name around items) ≡ Ok (state (text_mode at false role.Name inside.Plain) name around items)
      → run deepest at (encodes (string_text characters) ++ more) (state m name around items)
      ≡ run deepest (at + width (string_text characters)) more (state mode.Colon (Some (string_span at characters)) around items)
  name_read more s begins =
      ap (λ x. run deepest at x (state m name around items)) (encode-string characters more)
      ∙ (quoted_name_read deepest m name around items (encodes (flat_map character_text characters)) (has_escape characters) at more
      (characters_pass deepest at role.Name name around items characters false s) begins
      ∙ ap (λ n. run deepest n more (state mode.Colon (Some (record { at = at; end = n; escaped = has_escape characters })) around items)) end_of_string)
