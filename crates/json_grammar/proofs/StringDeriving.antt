-- What is read of a string is in the grammar: what may still come of it.
use Rattle.std.proofs.Common.{◌≡◌, ℕ, ◌+◌, ◌-◌, ◌*◌, ◌/◌, ◌%◌, suc, ◌<◌, ◌≤◌, max, Bool, true, false, not, cond, nat_lt, nat_le, ◌==◌, ◌&&◌, ◌||◌, List}
use Rattle.std.proofs.Common.{[], ◌∷◌, ◌++◌}
use Rattle.std.proofs.Common.{length, Option, Some, None, inl, inr, refl, ap, sym, ◌∙◌, arith, append_assoc, true≢false, flat_map}
use Rattle.std.specs.List.{list_all}
use Rattle.std.proofs.lemmas.Bool.{and_parts, and_from, or_from, ltb-true, ltb-false, leb-true, leb-false, eqb-true, ne_eqb, le-leb, le-ltb, lt-ltb}
use Rattle.std.proofs.lemmas.Bool.{eq-eqb, cases_lt}
use Rattle.std.proofs.lemmas.Str.{encode_ascii}
use lib.Utf8.{scalar, low_scalar, encode}
use Rattle.json_reading.specs.declared.mode.Inside.{Inside}
use Rattle.json_reading.specs.declared.mode.Inside.TheVariants as inside
use Rattle.json_reading.specs.declared.mode.Tail.{Tail}
use Rattle.json_reading.specs.Bytes.{is_hex, is_short}
use Rattle.json_reading.specs.Strings.{tail, short_tail, long_tail, tail_of}
use Rattle.json_grammar.specs.Strings.{Piece, unescaped, short, long, piece_text, needs_escape, is_unescaped, is_piece, are_pieces}
use Rattle.read_back_laws.proofs.Strings.{encode-two, encode-three, encode-four}

-- ---- characters that aren't ASCII, from their bytes

-- the bytes are a character's, which needs no escape
record IsWide (bytes : List ℕ) : Type 0 where
  code : ℕ
  made : is_unescaped code ≡ true
  spelled : bytes ≡ encode code

-- a later byte of a character, and one within bounds
abbrev IsFrom : ℕ → ℕ → ℕ → Type 0
IsFrom low high b = (low ≤ b) × (b ≤ high)

needs_none : (c : ℕ) → 128 ≤ c → needs_escape c ≡ false
needs_none c h = or_from (nat_lt c 0x20) (c == 0x22 || c == 0x5C) (le-ltb c 0x20 (omega arith))
    (or_from (c == 0x22) (c == 0x5C) (ne_eqb c 0x22 (λ e. omega arith)) (ne_eqb c 0x5C (λ e. omega arith)))

high_scalar : (c : ℕ) → 57344 ≤ c → c < 1114112 → scalar c ≡ true
high_scalar c h k =
    let surrogates : nat_lt c 55296 ≡ false = le-ltb c 55296 (omega arith) in
    let above : nat_le 57344 c ≡ true = le-leb 57344 c h in
    let below : nat_lt c 1114112 ≡ true = lt-ltb c 1114112 k in
    rw (surrogates, above, below) refl

wide : (bytes : List ℕ) (c : ℕ) → 128 ≤ c → scalar c ≡ true → bytes ≡ encode c → IsWide bytes
wide bytes c h s e = record { code = c; made = and_from (scalar c) (not (needs_escape c)) s (ap not (needs_none c h)); spelled = e }

two_bytes : (a b : ℕ) → 0xC2 ≤ a → a < 0xE0 → IsFrom 0x80 0xBF b → IsWide (a ∷ b ∷ [])
two_bytes a b h k f =
    let c = (a - 192) * 64 + (b - 128) in
    let low : 128 ≤ c = omega arith in
    let high : c < 2048 = omega arith in
    let lead : a ≡ 192 + c / 64 = omega arith in
    let last : b ≡ 128 + c % 64 = omega arith in
    wide (a ∷ b ∷ []) c low (low_scalar c (omega arith)) ((λ i. lead i ∷ last i ∷ []) ∙ sym (encode-two c low high))

abbrev code_of_three : ℕ → ℕ → ℕ → ℕ
code_of_three a b d = ((a - 224) * 64 + (b - 128)) * 64 + (d - 128)

three_bytes : (a b d : ℕ) → 0xE0 ≤ a → a < 0xF0 → IsFrom 0x80 0xBF b → IsFrom 0x80 0xBF d → 2048 ≤ code_of_three a b d
    → scalar (code_of_three a b d) ≡ true → IsWide (a ∷ b ∷ d ∷ [])
three_bytes a b d h k f g low s =
    let c = code_of_three a b d in
    let high : c < 65536 = omega arith in
    let lead : a ≡ 224 + c / 4096 = omega arith in
    let second : b ≡ 128 + (c / 64) % 64 = omega arith in
    let last : d ≡ 128 + c % 64 = omega arith in
    wide (a ∷ b ∷ d ∷ []) c (omega arith) s ((λ i. lead i ∷ second i ∷ last i ∷ []) ∙ sym (encode-three c low high))

abbrev code_of_four : ℕ → ℕ → ℕ → ℕ → ℕ
code_of_four a b d e = (((a - 240) * 64 + (b - 128)) * 64 + (d - 128)) * 64 + (e - 128)

four_bytes : (a b d e : ℕ) → 0xF0 ≤ a → IsFrom 0x80 0xBF b → IsFrom 0x80 0xBF d → IsFrom 0x80 0xBF e → 65536 ≤ code_of_four a b d e
    → code_of_four a b d e < 1114112 → IsWide (a ∷ b ∷ d ∷ e ∷ [])
four_bytes a b d e h f g k low high =
    let c = code_of_four a b d e in
    let lead : a ≡ 240 + c / 262144 = omega arith in
    let second : b ≡ 128 + (c / 4096) % 64 = omega arith in
    let third : d ≡ 128 + (c / 64) % 64 = omega arith in
    let last : e ≡ 128 + c % 64 = omega arith in
    wide (a ∷ b ∷ d ∷ e ∷ []) c (omega arith) (high_scalar c (omega arith) high)
    ((λ i. lead i ∷ second i ∷ third i ∷ last i ∷ []) ∙ sym (encode-four c low))

-- ---- what may still come of a string

-- where a character comes next: pieces, the last quote, and what stands behind it
pub record IsPlainRest (K : List ℕ → Type 0) (bytes : List ℕ) : Type 0 where
  pub pieces : List Piece
  pub more : List ℕ
  pub made : are_pieces pieces ≡ true
  pub behind : K more
  pub spelled : bytes ≡ flat_map piece_text pieces ++ 0x22 ∷ more

-- behind a backslash
pub record IsEscapeRest (K : List ℕ → Type 0) (bytes : List ℕ) : Type 0 where
  pub piece : Piece
  pub more : List ℕ
  pub made : is_piece piece ≡ true
  pub behind : IsPlainRest K more
  pub spelled : 0x5C ∷ bytes ≡ piece_text piece ++ more

-- where so many digits come next
pub record IsHexRest (left : ℕ) (K : List ℕ → Type 0) (bytes : List ℕ) : Type 0 where
  pub digits : List ℕ
  pub more : List ℕ
  pub made : list_all is_hex digits ≡ true
  pub count : length digits ≡ max 1 left
  pub behind : IsPlainRest K more
  pub spelled : bytes ≡ digits ++ more

abbrev is_later : ℕ → Bool
is_later b = nat_le 0x80 b && nat_le b 0xBF

-- in a character
pub record IsTailRest (t : Tail) (K : List ℕ → Type 0) (bytes : List ℕ) : Type 0 where
  pub next : ℕ
  pub later : List ℕ
  pub more : List ℕ
  pub low : t.low ≤ next
  pub high : next ≤ t.high
  pub made : list_all is_later later ≡ true
  pub count : suc (length later) ≡ max 1 t.left
  pub behind : IsPlainRest K more
  pub spelled : bytes ≡ next ∷ (later ++ more)

abbrev pub IsInsideRest : Inside → (List ℕ → Type 0) → List ℕ → Type 0
IsInsideRest inside.Plain K bytes = IsPlainRest K bytes
IsInsideRest inside.Escape K bytes = IsEscapeRest K bytes
IsInsideRest (inside.Hex left) K bytes = IsHexRest left K bytes
IsInsideRest (inside.Tail t) K bytes = IsTailRest t K bytes

module _ (K : List ℕ → Type 0) where
  piece_before : (p : Piece) (bytes more : List ℕ) → is_piece p ≡ true → IsPlainRest K more → bytes ≡ piece_text p ++ more → IsPlainRest K bytes
  piece_before p bytes more h r e = record {
    pieces = p ∷ r.pieces;
    more = r.more;
    made = and_from (is_piece p) (are_pieces r.pieces) h r.made;
    behind = r.behind;
    spelled = e ∙ (ap (λ x. piece_text p ++ x) r.spelled ∙ sym (append_assoc (piece_text p) (flat_map piece_text r.pieces) (0x22 ∷ r.more)));
  }

  pub quote_rest : (bytes : List ℕ) → K bytes → IsPlainRest K (0x22 ∷ bytes)
  quote_rest bytes k = record { pieces = []; more = bytes; made = refl; behind = k; spelled = refl }

  pub backslash_rest : (bytes : List ℕ) → IsEscapeRest K bytes → IsPlainRest K (0x5C ∷ bytes)
  backslash_rest bytes r = piece_before r.piece (0x5C ∷ bytes) r.more r.made r.behind r.spelled

  pub ascii_rest : (b : ℕ) (bytes : List ℕ) → b < 128 → needs_escape b ≡ false → IsPlainRest K bytes → IsPlainRest K (b ∷ bytes)
  ascii_rest b bytes h e r =
      piece_before (unescaped b) (b ∷ bytes) bytes (and_from (scalar b) (not (needs_escape b)) (low_scalar b (omega arith)) (ap not e)) r
      (ap (λ x. x ++ bytes) (sym (encode_ascii b h)))

  pub short_rest : (b : ℕ) (bytes : List ℕ) → is_short b ≡ true → IsPlainRest K bytes → IsEscapeRest K (b ∷ bytes)
  short_rest b bytes h r = record { piece = short b; more = bytes; made = h; behind = r; spelled = refl }

  four_digits : (digits more bytes : List ℕ) → list_all is_hex digits ≡ true → length digits ≡ max 1 4 → IsPlainRest K more → bytes ≡ digits ++ more
      → IsEscapeRest K (0x75 ∷ bytes)
  four_digits [] more bytes h n r e = absurd (omega arith)
  four_digits (a ∷ []) more bytes h n r e = absurd (omega arith)
  four_digits (a ∷ b ∷ []) more bytes h n r e = absurd (omega arith)
  four_digits (a ∷ b ∷ c ∷ []) more bytes h n r e = absurd (omega arith)
  four_digits (a ∷ b ∷ c ∷ d ∷ []) more bytes h n r e =
      let first = and_parts (is_hex a) _ h in
      let second = and_parts (is_hex b) _ first.1 in
      let third = and_parts (is_hex c) _ second.1 in
      let fourth = and_parts (is_hex d) _ third.1 in
      record {
        piece = long a b c d;
        more = more;
        made = and_from (is_hex a) (is_hex b && (is_hex c && is_hex d)) first.0
            (and_from (is_hex b) (is_hex c && is_hex d) second.0 (and_from (is_hex c) (is_hex d) third.0 fourth.0));
        behind = r;
        spelled = ap (λ x. 0x5C ∷ 0x75 ∷ x) e;
      }
  four_digits (a ∷ b ∷ c ∷ d ∷ f ∷ digits) more bytes h n r e = absurd (omega arith)

  pub digits_rest : (bytes : List ℕ) → IsHexRest 4 K bytes → IsEscapeRest K (0x75 ∷ bytes)
  digits_rest bytes r = four_digits r.digits r.more bytes r.made r.count r.behind r.spelled

  pub last_hex_rest : (left b : ℕ) (bytes : List ℕ) → is_hex b ≡ true → nat_le left 1 ≡ true → IsPlainRest K bytes → IsHexRest left K (b ∷ bytes)
  last_hex_rest left b bytes h e r =
      let few : left ≤ 1 = leb-true left 1 e in
      record { digits = b ∷ []; more = bytes; made = and_from (is_hex b) true h refl; count = omega arith; behind = r; spelled = refl }

  pub more_hex_rest : (left b : ℕ) (bytes : List ℕ) → is_hex b ≡ true → nat_le left 1 ≡ false → IsHexRest (left - 1) K bytes → IsHexRest left K (b ∷ bytes)
  more_hex_rest left b bytes h e r =
      let many : 1 < left = leb-false left 1 e in
      let counted : length r.digits ≡ max 1 (left - 1) = r.count in
      record {
        digits = b ∷ r.digits;
        more = r.more;
        made = and_from (is_hex b) (list_all is_hex r.digits) h r.made;
        count = omega arith;
        behind = r.behind;
        spelled = ap (λ x. b ∷ x) r.spelled;
      }

  pub last_tail_rest : (t : Tail) (b : ℕ) (bytes : List ℕ) → t.low ≤ b → b ≤ t.high → nat_le t.left 1 ≡ true → IsPlainRest K bytes → IsTailRest t K (b ∷ bytes)
  last_tail_rest t b bytes h k e r =
      let few : t.left ≤ 1 = leb-true t.left 1 e in
      record { next = b; later = []; more = bytes; low = h; high = k; made = refl; count = omega arith; behind = r; spelled = refl }

  pub more_tail_rest : (t : Tail) (b : ℕ) (bytes : List ℕ) → t.low ≤ b → b ≤ t.high → nat_le t.left 1 ≡ false
      → IsTailRest (record { at = t.at; left = t.left - 1; low = 0x80; high = 0xBF }) K bytes → IsTailRest t K (b ∷ bytes)
  more_tail_rest t b bytes h k e r =
      let many : 1 < t.left = leb-false t.left 1 e in
      let counted : suc (length r.later) ≡ max 1 (t.left - 1) = r.count in
      record {
        next = b;
        later = r.next ∷ r.later;
        more = r.more;
        low = h;
        high = k;
        made = and_from (is_later r.next) (list_all is_later r.later) (and_from _ _ (le-leb 0x80 r.next r.low) (le-leb r.next 0xBF r.high)) r.made;
        count = omega arith;
        behind = r.behind;
        spelled = ap (λ x. b ∷ x) r.spelled;
      }

  -- ---- the first byte of a character that isn't ASCII

  later_is : (b : ℕ) → is_later b ≡ true → IsFrom 0x80 0xBF b
  later_is b h = let parts = and_parts (nat_le 0x80 b) (nat_le b 0xBF) h in (leb-true 0x80 b parts.0, leb-true b 0xBF parts.1)

  wide_before : (a b : ℕ) (later more bytes : List ℕ) → IsWide (a ∷ b ∷ later) → IsPlainRest K more → bytes ≡ b ∷ (later ++ more) → IsPlainRest K (a ∷ bytes)
  wide_before a b later more bytes w r e =
      piece_before (unescaped w.code) (a ∷ bytes) more w.made r (ap (λ x. a ∷ x) e ∙ ap (λ x. x ++ more) w.spelled)

  two_rest : (a b : ℕ) (later more bytes : List ℕ) → 0xC2 ≤ a → a < 0xE0 → 0x80 ≤ b → b ≤ 0xBF → suc (length later) ≡ max 1 1
      → IsPlainRest K more → bytes ≡ b ∷ (later ++ more) → IsPlainRest K (a ∷ bytes)
  two_rest a b [] more bytes h k l m n r e = wide_before a b [] more bytes (two_bytes a b h k (l, m)) r e
  two_rest a b (x ∷ later) more bytes h k l m n r e = absurd (omega arith)

  three_rest : (a b : ℕ) (later more bytes : List ℕ) → 0xE0 ≤ a → a < 0xF0 → IsFrom 0x80 0xBF b
      → ((d : ℕ) → IsFrom 0x80 0xBF d → (2048 ≤ code_of_three a b d) × (scalar (code_of_three a b d) ≡ true))
      → suc (length later) ≡ max 1 2 → list_all is_later later ≡ true → IsPlainRest K more → bytes ≡ b ∷ (later ++ more) → IsPlainRest K (a ∷ bytes)
  three_rest a b [] more bytes h k f g n l r e = absurd (omega arith)
  three_rest a b (d ∷ []) more bytes h k f g n l r e =
      let from = later_is d (and_parts (is_later d) true l).0 in
      let code = g d from in
      wide_before a b (d ∷ []) more bytes (three_bytes a b d h k f from code.0 code.1) r e
  three_rest a b (d ∷ x ∷ later) more bytes h k f g n l r e = absurd (omega arith)

  four_rest : (a b : ℕ) (later more bytes : List ℕ) → 0xF0 ≤ a → IsFrom 0x80 0xBF b
      → ((d x : ℕ) → IsFrom 0x80 0xBF d → IsFrom 0x80 0xBF x → (65536 ≤ code_of_four a b d x) × (code_of_four a b d x < 1114112))
      → suc (length later) ≡ max 1 3 → list_all is_later later ≡ true → IsPlainRest K more → bytes ≡ b ∷ (later ++ more) → IsPlainRest K (a ∷ bytes)
  four_rest a b [] more bytes h f g n l r e = absurd (omega arith)
  four_rest a b (d ∷ []) more bytes h f g n l r e = absurd (omega arith)
  four_rest a b (d ∷ x ∷ []) more bytes h f g n l r e =
      let parts = and_parts (is_later d) (is_later x && true) l in
      let third = later_is d parts.0 in
      let last = later_is x (and_parts (is_later x) true parts.1).0 in
      let code = g d x third last in
      wide_before a b (d ∷ x ∷ []) more bytes (four_bytes a b d x h f third last code.0 code.1) r e
  four_rest a b (d ∷ x ∷ y ∷ later) more bytes h f g n l r e = absurd (omega arith)

  abbrev pub IsTailRestOf : Option Tail → List ℕ → Type 0
  IsTailRestOf (Some t) bytes = IsTailRest t K bytes
  IsTailRestOf None bytes = ⊥

  choose : (bytes : List ℕ) (P : Type 0) (t : Bool) (x y : Option Tail) → (t ≡ true → IsTailRestOf x bytes → P) → (t ≡ false → IsTailRestOf y bytes → P)
      → IsTailRestOf (cond t x y) bytes → P
  choose bytes P true x y f g h = f refl h
  choose bytes P false x y f g h = g refl h

  abbrev bounded : ℕ → ℕ → ℕ → ℕ → Tail
  bounded at left low high = record { at = at; left = left; low = low; high = high }

  after_c2 : (a at : ℕ) (bytes : List ℕ) → 0xC2 ≤ a → a < 0xE0 → IsTailRest (bounded at 1 0x80 0xBF) K bytes → IsPlainRest K (a ∷ bytes)
  after_c2 a at bytes h k r = two_rest a r.next r.later r.more bytes h k r.low r.high r.count r.behind r.spelled

  after_e0 : (a at : ℕ) (bytes : List ℕ) → a ≡ 0xE0 → IsTailRest (bounded at 2 0xA0 0xBF) K bytes → IsPlainRest K (a ∷ bytes)
  after_e0 a at bytes e r =
      let low : 0xA0 ≤ r.next = r.low in
      let high : r.next ≤ 0xBF = r.high in
      three_rest a r.next r.later r.more bytes (omega arith) (omega arith) (omega arith, high)
      (λ d f. (omega arith, low_scalar (code_of_three a r.next d) (omega arith))) r.count r.made r.behind r.spelled

  after_ed : (a at : ℕ) (bytes : List ℕ) → a ≡ 0xED → IsTailRest (bounded at 2 0x80 0x9F) K bytes → IsPlainRest K (a ∷ bytes)
  after_ed a at bytes e r =
      let low : 0x80 ≤ r.next = r.low in
      let high : r.next ≤ 0x9F = r.high in
      three_rest a r.next r.later r.more bytes (omega arith) (omega arith) (low, omega arith)
      (λ d f. (omega arith, low_scalar (code_of_three a r.next d) (omega arith))) r.count r.made r.behind r.spelled

  scalar_of_three : (a b d : ℕ) → 0xE0 < a → a < 0xF0 → (a ≡ 0xED → ⊥) → IsFrom 0x80 0xBF b → IsFrom 0x80 0xBF d → scalar (code_of_three a b d) ≡ true
  scalar_of_three a b d h k n f g = elim (cases_lt a 0xED) [
    | inl below ↦ low_scalar (code_of_three a b d) (omega arith)
    | inr above ↦ high_scalar (code_of_three a b d) (past a b d h k n f g above) (omega arith)
  ]
    where
      past : (x y z : ℕ) → 0xE0 < x → x < 0xF0 → (x ≡ 0xED → ⊥) → IsFrom 0x80 0xBF y → IsFrom 0x80 0xBF z → 0xED ≤ x → 57344 ≤ code_of_three x y z
      past x y z l m o p q r = omega arith

  after_e1 : (a at : ℕ) (bytes : List ℕ) → 0xE0 < a → a < 0xF0 → (a ≡ 0xED → ⊥) → IsTailRest (bounded at 2 0x80 0xBF) K bytes → IsPlainRest K (a ∷ bytes)
  after_e1 a at bytes h k n r =
      let low : 0x80 ≤ r.next = r.low in
      let high : r.next ≤ 0xBF = r.high in
      three_rest a r.next r.later r.more bytes (omega arith) k (low, high)
      (λ d f. (omega arith, scalar_of_three a r.next d h k n (low, high) f)) r.count r.made r.behind r.spelled

  after_f0 : (a at : ℕ) (bytes : List ℕ) → a ≡ 0xF0 → IsTailRest (bounded at 3 0x90 0xBF) K bytes → IsPlainRest K (a ∷ bytes)
  after_f0 a at bytes e r =
      let low : 0x90 ≤ r.next = r.low in
      let high : r.next ≤ 0xBF = r.high in
      four_rest a r.next r.later r.more bytes (omega arith) (omega arith, high) (λ d x f g. (omega arith, omega arith)) r.count r.made r.behind r.spelled

  after_f1 : (a at : ℕ) (bytes : List ℕ) → 0xF0 < a → a < 0xF4 → IsTailRest (bounded at 3 0x80 0xBF) K bytes → IsPlainRest K (a ∷ bytes)
  after_f1 a at bytes h k r =
      let low : 0x80 ≤ r.next = r.low in
      let high : r.next ≤ 0xBF = r.high in
      four_rest a r.next r.later r.more bytes (omega arith) (low, high) (λ d x f g. (omega arith, omega arith)) r.count r.made r.behind r.spelled

  after_f4 : (a at : ℕ) (bytes : List ℕ) → a ≡ 0xF4 → IsTailRest (bounded at 3 0x80 0x8F) K bytes → IsPlainRest K (a ∷ bytes)
  after_f4 a at bytes e r =
      let low : 0x80 ≤ r.next = r.low in
      let high : r.next ≤ 0x8F = r.high in
      four_rest a r.next r.later r.more bytes (omega arith) (low, omega arith) (λ d x f g. (omega arith, omega arith)) r.count r.made r.behind r.spelled

  apart : (a k : ℕ) → (a == k) ≡ false → a ≡ k → ⊥
  apart a k e h = true≢false (sym (eq-eqb a k h) ∙ e)

  short_tail_rest : (a at : ℕ) (bytes : List ℕ) → a < 0xF0 → IsTailRestOf (short_tail at a) bytes → IsPlainRest K (a ∷ bytes)
  short_tail_rest a at bytes under =
      choose bytes (IsPlainRest K (a ∷ bytes)) (nat_lt a 0xC2) None _ (λ e h. absurd h)
      (λ e. choose bytes (IsPlainRest K (a ∷ bytes)) (nat_lt a 0xE0) (tail at 1 0x80 0xBF) _
      (λ f. after_c2 a at bytes (ltb-false a 0xC2 e) (ltb-true a 0xE0 f))
      (λ f. choose bytes (IsPlainRest K (a ∷ bytes)) (a == 0xE0) (tail at 2 0xA0 0xBF) _
      (λ g. after_e0 a at bytes (eqb-true a 0xE0 g))
      (λ g. choose bytes (IsPlainRest K (a ∷ bytes)) (a == 0xED) (tail at 2 0x80 0x9F) (tail at 2 0x80 0xBF)
      (λ h. after_ed a at bytes (eqb-true a 0xED h))
      (λ h. let from : 0xE0 ≤ a = ltb-false a 0xE0 f in let not_first = apart a 0xE0 g in
      after_e1 a at bytes (above a 0xE0 from not_first) under (apart a 0xED h)))))
    where
      above : (x k : ℕ) → k ≤ x → (x ≡ k → ⊥) → k < x
      above x k h n = omega arith

  long_tail_rest : (a at : ℕ) (bytes : List ℕ) → 0xF0 ≤ a → IsTailRestOf (long_tail at a) bytes → IsPlainRest K (a ∷ bytes)
  long_tail_rest a at bytes from =
      choose bytes (IsPlainRest K (a ∷ bytes)) (a == 0xF0) (tail at 3 0x90 0xBF) _
      (λ e. after_f0 a at bytes (eqb-true a 0xF0 e))
      (λ e. choose bytes (IsPlainRest K (a ∷ bytes)) (nat_lt a 0xF4) (tail at 3 0x80 0xBF) _
      (λ f. after_f1 a at bytes (above a 0xF0 from (apart a 0xF0 e)) (ltb-true a 0xF4 f))
      (λ f. choose bytes (IsPlainRest K (a ∷ bytes)) (a == 0xF4) (tail at 3 0x80 0x8F) None
      (λ g. after_f4 a at bytes (eqb-true a 0xF4 g)) (λ g h. absurd h)))
    where
      above : (x k : ℕ) → k ≤ x → (x ≡ k → ⊥) → k < x
      above x k h n = omega arith

  -- the first byte of a character that isn't ASCII, and what it leads to
  pub wide_rest : (a at : ℕ) (bytes : List ℕ) → IsTailRestOf (tail_of at a) bytes → IsPlainRest K (a ∷ bytes)
  wide_rest a at bytes =
      choose bytes (IsPlainRest K (a ∷ bytes)) (nat_lt a 0xF0) (short_tail at a) (long_tail at a)
      (λ e. short_tail_rest a at bytes (ltb-true a 0xF0 e)) (λ e. long_tail_rest a at bytes (ltb-false a 0xF0 e))
