-- What values say, by their bytes and by their characters.
use Rattle.std.proofs.Common.{◌≡◌, ℕ, zero, suc, pred, ◌+◌, ◌-◌, ◌<◌, ◌≤◌, ◌==◌, nat_lt, Bool, true, false, ◌||◌, ◌&&◌, List, [], ◌∷◌, ◌++◌, length, take, drop}
use Rattle.std.proofs.Common.{refl, sym, ap, ◌∙◌, arith, Option, Some, None, option_map, subst, true≢false}
use Rattle.std.specs.Prelude.{encode_utf8, encode_utf8_all}
use Rattle.std.specs.Str.{chars, IsUtf8, IsCharBoundary}
use Rattle.std.specs.List.{list_any}
use Rattle.std.proofs.lemmas.Str.{chars-nil, encode_ascii, length-encode, len_utf8_bounds, char_from_byte, encodes-chars, IsUtf8-past_char, chars_past_char}
use Rattle.std.proofs.lemmas.Str.{IsCharBoundary-at_seam, IsCharBoundary-from_take, IsUtf8-drop, chars-append}
use Rattle.std.proofs.lemmas.List.{append-nil, append_assoc, take_at, drop_at, length-append}
use Rattle.std.proofs.lemmas.Bool.Decides.{nat_tests}
use Rattle.inv_base.specs.Characters.{is_white_space}
use Rattle.xml_tokens.specs.declared.values.ValuePart.{ValuePart}
use Rattle.xml_tokens.specs.declared.encoding.Begun.{Begun}
use Rattle.xml_tokens.specs.declared.encoding.Begun.TheVariants as begun
use Rattle.xml_tokens.specs.Searches.{begins_with}
use Rattle.xml_tokens.specs.References.{is_reference_byte, reference_body, refers, referred, reference_at, greatest_reference}
use Rattle.xml_tokens.specs.Tags as tags
use Rattle.xml_tokens.specs.Told.{LowFront, AllLow, says_more}

reference-low : (b : ℕ) → is_reference_byte b ≡ true → b < 128
reference-low b e = grind (arith, nat_tests)

reference-high : (b : ℕ) → 128 ≤ b → is_reference_byte b ≡ false
reference-high b h = grind (arith, nat_tests)

end-high : (b : ℕ) → 128 ≤ b → (b == 0x3B) ≡ false
end-high b h = grind (arith, nat_tests)

-- a character that isn't ASCII has a first byte that isn't
pub record High (xs : List ℕ) : Type 0 where
  pub first : ℕ
  pub others : List ℕ
  pub is : xs ≡ first ∷ others
  pub high : 128 ≤ first

pub high-first : (c : ℕ) → 128 ≤ c → High (encode_utf8 c)
high-first c h = by (encode_utf8 c) refl
  where
    long : length (encode_utf8 c) ≡ 0 → ⊥
    long e = let bound = len_utf8_bounds c in omega (arith, length-encode c, bound.0)

    is_high : (x : ℕ) → nat_lt x 128 ≡ false → 128 ≤ x
    is_high x t = grind (arith, nat_tests)

    is_low : (x : ℕ) → nat_lt x 128 ≡ true → x < 128
    is_low x t = grind (arith, nat_tests)

    by : (xs : List ℕ) → encode_utf8 c ≡ xs → High xs
    by [] e = absurd (long (ap length e))
    by (x ∷ xs) e = by_first (nat_lt x 128) refl
      where
        by_first : (t : Bool) → nat_lt x 128 ≡ t → High (x ∷ xs)
        by_first false t = record { first = x; others = xs; is = refl; high = is_high x t }
        by_first true t =
            let same : c ≡ x = char_from_byte (x ∷ xs) [] c (sym (append-nil (encode_utf8 c) ∙ e)) (is_low x t) (omega arith) in
            absurd (omega (arith, is_low x t))

body-one : (b : ℕ) (rest : List ℕ) (room : ℕ) → is_reference_byte b ≡ true → reference_body (b ∷ rest) (suc room) ≡ b ∷ reference_body rest room
body-one b rest room e = ap (λ t. elim t [ true ↦ b ∷ reference_body rest room | false ↦ [] ]) e

body-none : (b : ℕ) (rest : List ℕ) (room : ℕ) → is_reference_byte b ≡ false → reference_body (b ∷ rest) room ≡ []
body-none b rest zero e = refl
body-none b rest (suc room) e = ap (λ t. elim t [ true ↦ b ∷ reference_body rest room | false ↦ [] ]) e

-- what is behind the body begins with `;` in both or in neither
pub data HeadSame : List ℕ → List ℕ → Type 0 where
  both_end : HeadSame [] []
  both_go : (x y : ℕ) (xs ys : List ℕ) → (x == 0x3B) ≡ (y == 0x3B) → HeadSame (x ∷ xs) (y ∷ ys)

heads : (cs : List ℕ) → HeadSame cs (encode_utf8_all cs)
heads [] = both_end
heads (c ∷ cs) = by (nat_lt c 128) refl
  where
    is_high : nat_lt c 128 ≡ false → 128 ≤ c
    is_high t = grind (arith, nat_tests)

    is_low : nat_lt c 128 ≡ true → c < 128
    is_low t = grind (arith, nat_tests)

    by : (t : Bool) → nat_lt c 128 ≡ t → HeadSame (c ∷ cs) (encode_utf8 c ++ encode_utf8_all cs)
    by true t = subst (λ xs. HeadSame (c ∷ cs) (xs ++ encode_utf8_all cs)) (sym (encode_ascii c (is_low t))) (both_go c c cs (encode_utf8_all cs) refl)
    by false t =
        let high = high-first c (is_high t) in
        subst (λ xs. HeadSame (c ∷ cs) (xs ++ encode_utf8_all cs)) (sym high.is)
        (both_go c high.first cs (high.others ++ encode_utf8_all cs) (end-high c (is_high t) ∙ sym (end-high high.first high.high)))

-- the body, and the heads of what is behind it
pub record BodySame (cs : List ℕ) (room : ℕ) : Type 0 where
  pub body : reference_body (encode_utf8_all cs) room ≡ reference_body cs room
  pub heads : HeadSame (drop (length (reference_body cs room)) cs) (drop (length (reference_body cs room)) (encode_utf8_all cs))

body-stops : (cs : List ℕ) (room : ℕ) → reference_body (encode_utf8_all cs) room ≡ [] → reference_body cs room ≡ [] → BodySame cs room
body-stops cs room e f = record {
  body = e ∙ sym f;
  heads = subst (λ body. HeadSame (drop (length body) cs) (drop (length body) (encode_utf8_all cs))) (sym f) (heads cs);
}

body-room : (bytes : List ℕ) → reference_body bytes 0 ≡ []
body-room [] = refl
body-room (b ∷ bytes) = refl

pub body-same : (cs : List ℕ) (room : ℕ) → BodySame cs room
body-same [] room = record { body = refl; heads = both_end }
body-same (c ∷ cs) zero = body-stops (c ∷ cs) 0 (body-room (encode_utf8_all (c ∷ cs))) refl
body-same (c ∷ cs) (suc room) = by (is_reference_byte c) (nat_lt c 128) refl refl (body-same cs room)
  where
    is_high : nat_lt c 128 ≡ false → 128 ≤ c
    is_high t = grind (arith, nat_tests)

    is_low : nat_lt c 128 ≡ true → c < 128
    is_low t = grind (arith, nat_tests)

    one : c < 128 → encode_utf8_all (c ∷ cs) ≡ c ∷ encode_utf8_all cs
    one h = ap (λ xs. xs ++ encode_utf8_all cs) (encode_ascii c h)

    by : (t u : Bool) → is_reference_byte c ≡ t → nat_lt c 128 ≡ u → BodySame cs room → BodySame (c ∷ cs) (suc room)
    by true u e f rest =
        let is : encode_utf8_all (c ∷ cs) ≡ c ∷ encode_utf8_all cs = one (reference-low c e) in
        let mine : reference_body (c ∷ cs) (suc room) ≡ c ∷ reference_body cs room = body-one c cs room e in
        record {
          body = ap (λ x. reference_body x (suc room)) is ∙ (body-one c (encode_utf8_all cs) room e ∙ (ap (λ x. c ∷ x) rest.body ∙ sym mine));
          heads = subst (λ body. HeadSame (drop (length body) (c ∷ cs)) (drop (length body) (encode_utf8_all (c ∷ cs)))) (sym mine)
              (subst (λ x. HeadSame (drop (length (reference_body cs room)) cs) (drop (suc (length (reference_body cs room))) x)) (sym is) rest.heads);
        }
    by false true e f rest =
        body-stops (c ∷ cs) (suc room) (ap (λ x. reference_body x (suc room)) (one (is_low f)) ∙ body-none c (encode_utf8_all cs) (suc room) e)
        (body-none c cs (suc room) e)
    by false false e f rest =
        let high = high-first c (is_high f) in
        body-stops (c ∷ cs) (suc room) (ap (λ xs. reference_body (xs ++ encode_utf8_all cs) (suc room)) high.is ∙
        body-none high.first (high.others ++ encode_utf8_all cs) (suc room) (reference-high high.first high.high)) (body-none c cs (suc room) e)

abbrev of_end : List ℕ → Bool → Begun ℕ
of_end body t = elim t [ true ↦ refers (length body + 2) (referred body) | false ↦ begun.Broken (length body + 2) ]

-- the reference of a body and what stands behind it
abbrev pub of_body : List ℕ → List ℕ → Begun ℕ
of_body body rest = elim rest [
  | [] ↦ begun.Unfinished
  | (b ∷ more) ↦ elim (b == 0x3B) [
    | true ↦ refers (length body + 2) (referred body)
    | false ↦ begun.Broken (length body + 2)
  ]
]

of-heads : (body xs ys : List ℕ) → HeadSame xs ys → of_body body xs ≡ of_body body ys
of-heads body xs ys both_end = refl
of-heads body xs ys (both_go x y xs' ys' e) = ap (λ t. of_end body t) e

reference-encoded : (cs : List ℕ) → reference_at cs ≡ reference_at (encode_utf8_all cs)
unfolding reference_at
reference-encoded cs =
    let same = body-same cs greatest_reference in
    of-heads (reference_body cs greatest_reference) _ _ same.heads
    ∙ ap (λ body. of_body body (drop (length body) (encode_utf8_all cs))) (sym same.body)

pub reference-told : (text : List ℕ) → IsUtf8 text → reference_at (chars text) ≡ reference_at text
reference-told text u = reference-encoded (chars text) ∙ ap (λ x. reference_at x) (encodes-chars text u)

-- The bytes of a reference are ASCII.
body-low : (bytes : List ℕ) (room : ℕ) → AllLow (reference_body bytes room)
body-low [] room = tt
body-low (b ∷ bytes) zero = tt
body-low (b ∷ bytes) (suc room) = by (is_reference_byte b) refl (body-low bytes room)
  where
    by : (t : Bool) → is_reference_byte b ≡ t → AllLow (reference_body bytes room) → AllLow (elim t [ true ↦ b ∷ reference_body bytes room | false ↦ [] ])
    by true e rest = (reference-low b e, rest)
    by false e rest = tt

body-front : (bytes : List ℕ) (room : ℕ) → bytes ≡ reference_body bytes room ++ drop (length (reference_body bytes room)) bytes
body-front [] room = refl
body-front (b ∷ bytes) zero = refl
body-front (b ∷ bytes) (suc room) = by (is_reference_byte b) (body-front bytes room)
  where
    choose : Bool → List ℕ
    choose t = elim t [ true ↦ b ∷ reference_body bytes room | false ↦ [] ]

    by : (t : Bool) → bytes ≡ reference_body bytes room ++ drop (length (reference_body bytes room)) bytes → (b ∷ bytes) ≡ choose t ++
        drop (length (choose t)) (b ∷ bytes)
    by true e = ap (λ x. b ∷ x) e
    by false e = refl

low-more : (body : List ℕ) (b : ℕ) → AllLow body → b < 128 → AllLow (body ++ b ∷ [])
low-more [] b low h = (h, tt)
low-more (d ∷ body) b low h = (low.0, low-more body b low.1 h)

pub pred-is : (n : ℕ) → pred n ≡ n - 1
pred-is zero = refl
pred-is (suc n) = omega arith

refers-some : (k n c : ℕ) (x : Option ℕ) → refers k x ≡ begun.Character c n → k ≡ n
refers-some k n c None e = cc
refers-some k n c (Some d) e = cc

pub reference-front : (bytes : List ℕ) (c n : ℕ) → reference_at bytes ≡ begun.Character c n → LowFront bytes (pred n) × (1 ≤ n)
unfolding reference_at
reference-front bytes c n e = by (drop (length body) bytes) refl e
  where
    body : List ℕ
    body = reference_body bytes greatest_reference

    by : (rest : List ℕ) → drop (length (reference_body bytes greatest_reference)) bytes ≡ rest →
        of_body (reference_body bytes greatest_reference) rest ≡ begun.Character c n → LowFront bytes (pred n) × (1 ≤ n)
    by [] h e = cc
    by (b ∷ more) h e = by_end (b == 0x3B) refl e
      where
        end : (b == 0x3B) ≡ true → b < 128
        end t = grind (arith, nat_tests)

        by_end : (t : Bool) → (b == 0x3B) ≡ t → of_end (reference_body bytes greatest_reference) t ≡ begun.Character c n → LowFront bytes (pred n) × (1 ≤ n)
        by_end false t e = cc
        by_end true t e =
            let count : length (reference_body bytes greatest_reference) + 2 ≡ n = refers-some _ n c (referred (reference_body bytes greatest_reference)) e in
            let one : pred n ≡ n - 1 = pred-is n in (
              record {
                front = reference_body bytes greatest_reference ++ b ∷ [];
                rest = more;
                whole = body-front bytes greatest_reference ∙
                    (ap (λ x. reference_body bytes greatest_reference ++ x) h ∙ sym (append_assoc (reference_body bytes greatest_reference) (b ∷ []) more));
                long = omega (arith, length-append (reference_body bytes greatest_reference) (b ∷ []));
                low = low-more (reference_body bytes greatest_reference) b (body-low bytes greatest_reference) (end t);
              },
              omega arith,
            )

-- Behind bytes of ASCII at the front.
pub low-front : (front rest : List ℕ) → AllLow front → IsUtf8 (front ++ rest) → (chars (front ++ rest) ≡ front ++ chars rest) × IsUtf8 rest
low-front [] rest low u = (refl, u)
low-front (b ∷ front) rest low u =
    let first : (b ∷ (front ++ rest)) ≡ encode_utf8 b ++ (front ++ rest) = ap (λ x. x ++ (front ++ rest)) (sym (encode_ascii b low.0)) in
    let behind = low-front front rest low.1 (IsUtf8-past_char (b ∷ (front ++ rest)) (front ++ rest) b u first) in
    (chars_past_char (b ∷ (front ++ rest)) (front ++ rest) b u first ∙ ap (λ x. b ∷ x) behind.0, behind.1)

pub front-boundary : (text : List ℕ) (n : ℕ) → IsUtf8 text → LowFront text n → IsCharBoundary text n
front-boundary text n u f = subst (λ k. IsCharBoundary text k) f.long
    (IsCharBoundary-at_seam text f.front f.rest f.whole (low-front f.front f.rest f.low (subst IsUtf8 f.whole u)).1)

pub front-rest : (text back : List ℕ) (n : ℕ) → back ≡ drop n text → (f : LowFront text n) → back ≡ f.rest
front-rest text back n e f = e ∙ (ap (drop n) f.whole ∙ drop_at f.front f.rest n f.long)

value-skip : (front rest : List ℕ) (n : ℕ) → length front ≡ n → tags.value_of n (front ++ rest) ≡ tags.value_of 0 rest
unfolding tags.value_of
value-skip [] rest zero e = refl
value-skip [] rest (suc n) e = cc
value-skip (c ∷ front) rest zero e = cc
value-skip (c ∷ front) rest (suc n) e = value-skip front rest n (omega arith)

-- What the text of its own says so far, and the rest.
pub record Saying (value : List ℕ) (own : List ℕ) (rest : List ℕ) : Type 0 where
  pub whole : tags.value_of 0 (chars value) ≡ option_map (λ said. chars own ++ said) (tags.value_of 0 (chars rest))
  pub utf8 : IsUtf8 rest

nothing-said : (x : Option (List ℕ)) → option_map (λ said. chars [] ++ said) x ≡ x
nothing-said None = refl
nothing-said (Some said) = ap (λ x. Some (x ++ said)) chars-nil

pub saying-begin : (value own : List ℕ) → IsUtf8 value → own ≡ [] → Saying value own value
saying-begin value own u e = record {
  whole = sym (ap (λ x. option_map (λ said. chars x ++ said) (tags.value_of 0 (chars value))) e ∙ nothing-said (tags.value_of 0 (chars value)));
  utf8 = u;
}

-- the characters of a text with one more behind it
chars-more : (own : List ℕ) (c : ℕ) → IsUtf8 own → IsUtf8 (own ++ encode_utf8 c) → chars (own ++ encode_utf8 c) ≡ chars own ++ c ∷ []
chars-more own c u w =
    let front : take (length own) (own ++ encode_utf8 c) ≡ own = take_at own (encode_utf8 c) (length own) refl in
    let long : length own ≤ length (own ++ encode_utf8 c) = omega (arith, length-append own (encode_utf8 c)) in
    let seam : IsCharBoundary (own ++ encode_utf8 c) (length own) =
    IsCharBoundary-from_take (own ++ encode_utf8 c) (length own) w long (subst IsUtf8 (sym front) u) in
    let last : IsUtf8 (encode_utf8 c) = subst IsUtf8 (drop_at own (encode_utf8 c) (length own) refl) (IsUtf8-drop (own ++ encode_utf8 c) (length own) w seam) in
    chars-append own (encode_utf8 c) u ∙ ap (λ x. chars own ++ x) (chars_past_char (encode_utf8 c) [] c last (sym (append-nil (encode_utf8 c))) ∙
    ap (λ x. c ∷ x) chars-nil)

said-more : (own : List ℕ) (c : ℕ) (x : Option (List ℕ)) → option_map (λ said. own ++ said) (option_map (λ said. c ∷ said) x) ≡ option_map
    (λ said. (own ++ c ∷ []) ++ said) x
said-more own c None = refl
said-more own c (Some said) = ap Some (sym (append_assoc own (c ∷ []) said))

abbrev with_part : Option ValuePart → List ℕ → Option (List ℕ)
with_part x cs = elim x [ None ↦ None | (Some part) ↦ option_map (λ value. part.character ∷ value) (tags.value_of part.more cs) ]

value-step : (c : ℕ) (cs : List ℕ) (part : ValuePart) → tags.value_part c cs ≡ Some part →
    tags.value_of 0 (c ∷ cs) ≡ option_map (λ said. part.character ∷ said) (tags.value_of part.more cs)
unfolding tags.value_of
value-step c cs part e = by (tags.value_part c cs) e
  where
    by : (x : Option ValuePart) → x ≡ Some part → with_part x cs ≡ option_map (λ said. part.character ∷ said) (tags.value_of part.more cs)
    by None e = cc
    by (Some p) e = let same : p ≡ part = cc in ap (λ q. option_map (λ said. q.character ∷ said) (tags.value_of q.more cs)) same

value-stop : (c : ℕ) (cs : List ℕ) → tags.value_part c cs ≡ None → tags.value_of 0 (c ∷ cs) ≡ None
unfolding tags.value_of
value-stop c cs e = ap (λ x. with_part x cs) e

pub saying-step : (value own new rest behind back : List ℕ) (c : ℕ) (part : ValuePart) → chars rest ≡ c ∷ chars behind → rest ≡ encode_utf8 c ++ behind →
    tags.value_part c (chars behind) ≡ Some part → LowFront behind part.more → back ≡ drop part.more behind
    → IsUtf8 own → new ≡ own ++ encode_utf8 part.character → IsUtf8 new → Saying value own rest → Saying value new back
saying-step value own new rest behind back c part e f g low b u n w known =
    let v : IsUtf8 behind = IsUtf8-past_char rest behind c known.utf8 f in
    let split = low-front low.front low.rest low.low (subst IsUtf8 low.whole v) in
    let same : back ≡ low.rest = front-rest behind back part.more b low in
    let skipped : tags.value_of part.more (chars behind) ≡ tags.value_of 0 (chars back) =
    ap (λ x. tags.value_of part.more (chars x)) low.whole ∙
    (ap (tags.value_of part.more) split.0 ∙ (value-skip low.front (chars low.rest) part.more low.long ∙ ap (λ x. tags.value_of 0 (chars x)) (sym same))) in
    let told : chars new ≡ chars own ++ part.character ∷ [] = ap chars n ∙ chars-more own part.character u (subst IsUtf8 n w) in
    record {
      whole = known.whole ∙ (ap (λ x. option_map (λ said. chars own ++ said) (tags.value_of 0 x)) e
          ∙ (ap (option_map (λ said. chars own ++ said)) (value-step c (chars behind) part g ∙ ap (option_map (λ said. part.character ∷ said)) skipped)
          ∙ (said-more (chars own) part.character (tags.value_of 0 (chars back)) ∙
          ap (λ x. option_map (λ said. x ++ said) (tags.value_of 0 (chars back))) (sym told))));
      utf8 = subst IsUtf8 (sym same) split.1;
    }

pub saying-stop : (value own rest behind : List ℕ) (c : ℕ) → chars rest ≡ c ∷ chars behind → None ≡ tags.value_part c (chars behind) → Saying value own rest →
    None ≡ tags.value_of 0 (chars value)
saying-stop value own rest behind c e f known =
    sym (known.whole ∙ (ap (λ x. option_map (λ said. chars own ++ said) (tags.value_of 0 x)) e ∙
    ap (option_map (λ said. chars own ++ said)) (value-stop c (chars behind) (sym f))))

pub saying-end : (value own rest : List ℕ) → rest ≡ [] → Saying value own rest → Some (chars own) ≡ tags.value_of 0 (chars value)
unfolding tags.value_of
saying-end value own rest e known =
    sym (known.whole ∙ (ap (λ x. option_map (λ said. chars own ++ said) (tags.value_of 0 x)) (ap chars e ∙ chars-nil) ∙ ap Some (append-nil (chars own))))

-- A value in which no byte says more than it shows.
plain-part : (c : ℕ) (cs : List ℕ) → says_more c ≡ false → tags.value_part c cs ≡ Some (record { character = c; more = 0 })
unfolding is_white_space
plain-part c cs e = grind (arith, nat_tests)

newline-high : (x : ℕ) (xs : List ℕ) → 128 ≤ x → begins_with (0xA ∷ []) (x ∷ xs) ≡ false
newline-high x xs h =
    let e : (x == 0xA) ≡ false = grind (arith, nat_tests) in
    ap (λ t. t && true) e

newline-encoded : (cs : List ℕ) → begins_with (0xA ∷ []) cs ≡ begins_with (0xA ∷ []) (encode_utf8_all cs)
newline-encoded [] = refl
newline-encoded (c ∷ cs) = by (nat_lt c 128) refl
  where
    is_high : nat_lt c 128 ≡ false → 128 ≤ c
    is_high t = grind (arith, nat_tests)

    is_low : nat_lt c 128 ≡ true → c < 128
    is_low t = grind (arith, nat_tests)

    by : (t : Bool) → nat_lt c 128 ≡ t → begins_with (0xA ∷ []) (c ∷ cs) ≡ begins_with (0xA ∷ []) (encode_utf8 c ++ encode_utf8_all cs)
    by true t = sym (ap (λ xs. begins_with (0xA ∷ []) (xs ++ encode_utf8_all cs)) (encode_ascii c (is_low t)))
    by false t =
        let high = high-first c (is_high t) in
        newline-high c cs (is_high t) ∙ sym (ap (λ xs. begins_with (0xA ∷ []) (xs ++ encode_utf8_all cs)) high.is ∙
        newline-high high.first (high.others ++ encode_utf8_all cs) high.high)

pub newline-told : (text : List ℕ) → IsUtf8 text → begins_with (0xA ∷ []) (chars text) ≡ begins_with (0xA ∷ []) text
newline-told text u = newline-encoded (chars text) ∙ ap (begins_with (0xA ∷ [])) (encodes-chars text u)

pub newline-front : (c : ℕ) (text : List ℕ) → IsUtf8 text → (c == 0xD && begins_with (0xA ∷ []) (chars text)) ≡ true → LowFront text 1
newline-front c text u e = by text (ap (λ t. t) (sym (newline-told text u)) ∙ second (c == 0xD) _ e)
  where
    second : (t u : Bool) → (t && u) ≡ true → u ≡ true
    second true u e = e
    second false u e = absurd (true≢false (sym e))

    is : (b : ℕ) → (b == 0xA && true) ≡ true → b < 128
    is b e = grind (arith, nat_tests)

    by : (text : List ℕ) → begins_with (0xA ∷ []) text ≡ true → LowFront text 1
    by [] e = absurd (true≢false (sym e))
    by (b ∷ rest) e = record { front = b ∷ []; rest = rest; whole = refl; long = refl; low = (is b e, tt) }

pub nothing-front : (text : List ℕ) → LowFront text 0
nothing-front text = record { front = []; rest = text; whole = refl; long = refl; low = tt }

pub part-reference : (c : ℕ) (behind : List ℕ) (x : Option ValuePart) → c ≡ 38 → IsUtf8 behind → x ≡ tags.referred_part (reference_at behind) →
    x ≡ tags.value_part c (chars behind)
part-reference c behind x e u f = f ∙ (ap tags.referred_part (sym (reference-told behind u)) ∙ sym (ap (λ d. tags.value_part d (chars behind)) e))

abbrev pub part_of : ℕ → ℕ → ValuePart
part_of c n = record { character = c; more = n }

-- a text without such a byte has no such character
plain-encoded : (cs : List ℕ) → list_any says_more (encode_utf8_all cs) ≡ false → tags.value_of 0 cs ≡ Some cs
unfolding tags.value_of
plain-encoded [] h = refl
plain-encoded (c ∷ cs) h = by (nat_lt c 128) refl h (plain-encoded cs)
  where
    is_high : nat_lt c 128 ≡ false → 128 ≤ c
    is_high t = grind (arith, nat_tests)

    is_low : nat_lt c 128 ≡ true → c < 128
    is_low t = grind (arith, nat_tests)

    high_plain : 128 ≤ c → says_more c ≡ false
    high_plain h = grind (arith, nat_tests)

    or_right : (t u : Bool) → (t || u) ≡ false → (t ≡ false) × (u ≡ false)
    or_right false u e = (refl, e)
    or_right true u e = absurd (true≢false e)

    behind : (xs ys : List ℕ) → list_any says_more (xs ++ ys) ≡ false → list_any says_more ys ≡ false
    behind [] ys e = e
    behind (x ∷ xs) ys e = behind xs ys (or_right (says_more x) _ e).1

    made : says_more c ≡ false → tags.value_of 0 cs ≡ Some cs → tags.value_of 0 (c ∷ cs) ≡ Some (c ∷ cs)
    made e rest = value-step c cs (part_of c 0) (plain-part c cs e) ∙ ap (option_map (λ said. c ∷ said)) rest

    by : (t : Bool) → nat_lt c 128 ≡ t → list_any says_more (encode_utf8 c ++ encode_utf8_all cs) ≡ false →
        (list_any says_more (encode_utf8_all cs) ≡ false → tags.value_of 0 cs ≡ Some cs) → tags.value_of 0 (c ∷ cs) ≡ Some (c ∷ cs)
    by true t e rest =
        let parts = or_right (says_more c) (list_any says_more (encode_utf8_all cs))
        (ap (λ xs. list_any says_more (xs ++ encode_utf8_all cs)) (sym (encode_ascii c (is_low t))) ∙ e) in
        made parts.0 (rest parts.1)
    by false t e rest = made (high_plain (is_high t)) (rest (behind (encode_utf8 c) (encode_utf8_all cs) e))

pub plain-told : (text : List ℕ) → IsUtf8 text → list_any says_more text ≡ false → Some (chars text) ≡ tags.value_of 0 (chars text)
plain-told text u e = sym (plain-encoded (chars text) (ap (list_any says_more) (encodes-chars text u) ∙ e))
