-- What tokens are spelled as is read as those tokens.
use Rattle.std.proofs.Common.{◌≡◌, ℕ, ◌+◌, ◌*◌, ◌-◌, ◌≤◌, ◌<◌, Bool, true, false, not, ◌||◌, List, [], ◌∷◌, ◌++◌, length, Option, Some, None, inl, inr, refl}
use Rattle.std.proofs.Common.{sym, ap, subst, ◌∙◌, append_assoc, append-nil, arith, add-zero}
use Rattle.std.specs.Prelude.{if◌then◌else◌, ◌==◌}
use Rattle.std.specs.List.{list_all}
use Rattle.std.proofs.lemmas.Bool.{cases_Bool, and_parts, or_parts, not-true, eqb-true, ne_eqb, lt-ltb, le-leb, and_from}
use Rattle.xsd_pattern.specs.declared.token.Member.{Member}
use Rattle.xsd_pattern.specs.declared.token.Member.TheVariants.{Range}
use Rattle.xsd_pattern.specs.declared.token.Member.TheVariants as mem
use Rattle.xsd_pattern.specs.declared.token.Class.{Class}
use Rattle.xsd_pattern.specs.declared.token.Repeat.TheVariants.{Question, Star, Plus, Counted}
use Rattle.xsd_pattern.specs.declared.token.Token.{Token}
use Rattle.xsd_pattern.specs.declared.token.Token.TheVariants.{Item, Quantifier, Opens, Closes, Bar, Begins, Ends}
use Rattle.xsd_pattern.specs.declared.mode.Mode.{Mode}
use Rattle.xsd_pattern.specs.declared.mode.Mode.TheVariants.{Between, Escaped, Bracket, Inside, Got, Dash, Escape, DashEscape, Least, Most}
use Rattle.inv_base.specs.Characters.{is_char}
use Rattle.xsd_pattern.specs.Classes.{is_special, is_special_inside, is_plain, is_plain_inside, is_digit, single, class_of, any_but_line_feed, escaped_one}
use Rattle.xsd_pattern.specs.Classes.{escaped_several}
use Rattle.xsd_pattern.specs.Spelling.{SpelledOne, SpelledMember, SpelledMembers, SpelledToken, SpelledTokens, IsNumber, value_from, caret}
use Rattle.xsd_pattern.specs.Spelling as p
use Rattle.xsd_pattern.specs.Lexing.{
  Behind,
  with_token,
  tokens_from,
  tokens_of,
  goes,
  ends_with,
  an_item,
  escape_ended,
  range_ended,
  ranged,
  class_ended,
  at_member,
  at_item,
  digit_behind,
  with_digit,
  least_on,
  most_on,
  most_ended,
}
use Rattle.xsd_pattern.specs.Lexing as x
use Rattle.xsd_pattern.proofs.Characters.{goes_on, goes-cons}

abbrev Tokens : Type 0
Tokens = Option (List (Token Class))

-- behind a character
step : (mode : Mode) (members : List Member) (c : ℕ) (text : List ℕ) (o : Option Behind) → x.at mode members c ≡ o
    → tokens_from mode members (c ∷ text) ≡ goes_on o text
step mode members c text o e = goes-cons mode members c text ∙ ap (λ b. goes_on b text) e

-- ---- characters that stand for themselves

plain-at : (c : ℕ) → is_plain c ≡ true → x.at Between [] c ≡ ends_with [] (Item (class_of (single c)))
plain-at c e =
    let n : is_special c ≡ false = not-true (is_special c) (and_parts (is_char c) (not (is_special c)) e).1 in
    let a1 = or_parts (c == 0x2E) (c == 0x5C || (c == 0x3F || (c == 0x2A || (c == 0x2B || (c == 0x7B || (c == 0x7D || (c == 0x28 || (c == 0x29 ||
    (c == 0x5B || (c == 0x5D || (c == 0x7C || (c == 0x5E || (c == 0x24))))))))))))) n in
    let a2 = or_parts (c == 0x5C) (c == 0x3F || (c == 0x2A || (c == 0x2B || (c == 0x7B || (c == 0x7D || (c == 0x28 || (c == 0x29 || (c == 0x5B ||
    (c == 0x5D || (c == 0x7C || (c == 0x5E || (c == 0x24)))))))))))) a1.1 in
    let a3 = or_parts (c == 0x3F) (c == 0x2A || (c == 0x2B || (c == 0x7B || (c == 0x7D || (c == 0x28 || (c == 0x29 || (c == 0x5B || (c == 0x5D ||
    (c == 0x7C || (c == 0x5E || (c == 0x24))))))))))) a2.1 in
    let a4 = or_parts (c == 0x2A) (c == 0x2B || (c == 0x7B || (c == 0x7D || (c == 0x28 || (c == 0x29 || (c == 0x5B || (c == 0x5D || (c == 0x7C ||
    (c == 0x5E || (c == 0x24)))))))))) a3.1 in
    let a5 = or_parts (c == 0x2B) (c == 0x7B || (c == 0x7D || (c == 0x28 || (c == 0x29 || (c == 0x5B || (c == 0x5D || (c == 0x7C || (c == 0x5E ||
    (c == 0x24))))))))) a4.1 in
    let a6 = or_parts (c == 0x7B) (c == 0x7D || (c == 0x28 || (c == 0x29 || (c == 0x5B || (c == 0x5D || (c == 0x7C || (c == 0x5E || (c == 0x24)))))))) a5.1 in
    let a7 = or_parts (c == 0x7D) (c == 0x28 || (c == 0x29 || (c == 0x5B || (c == 0x5D || (c == 0x7C || (c == 0x5E || (c == 0x24))))))) a6.1 in
    let a8 = or_parts (c == 0x28) (c == 0x29 || (c == 0x5B || (c == 0x5D || (c == 0x7C || (c == 0x5E || (c == 0x24)))))) a7.1 in
    let a9 = or_parts (c == 0x29) (c == 0x5B || (c == 0x5D || (c == 0x7C || (c == 0x5E || (c == 0x24))))) a8.1 in
    let a10 = or_parts (c == 0x5B) (c == 0x5D || (c == 0x7C || (c == 0x5E || (c == 0x24)))) a9.1 in
    let a11 = or_parts (c == 0x5D) (c == 0x7C || (c == 0x5E || (c == 0x24))) a10.1 in
    let a12 = or_parts (c == 0x7C) (c == 0x5E || (c == 0x24)) a11.1 in
    let a13 = or_parts (c == 0x5E) (c == 0x24) a12.1 in
    let s : x.sign c ≡ None = λ i. if a3.0 i then Some (Quantifier Question) else (if a4.0 i then Some (Quantifier Star) else (if a5.0 i then Some
    (Quantifier Plus)
    else (if a8.0 i then Some Opens else (if a9.0 i then Some Closes else (if a12.0 i then Some Bar else (if a13.0 i then Some Begins else
    (if a13.1 i then Some Ends else None))))))) in
    let f : x.entered c ≡ None = λ i. if a2.0 i then Some Escaped else (if a6.0 i then Some (Least 0 0) else (if a10.0 i then Some Bracket else None)) in
    ap (x.at_sign [] c) s ∙ (ap (x.at_entry [] c) f ∙ (λ i. if a1.0 i then ends_with [] (Item any_but_line_feed) else (if e i then ends_with [] (Item
    (class_of (single c))) else None)))

five_false : (a b c d e : Bool) → a || (b || (c || (d || e))) ≡ false → (a ≡ false) × (b ≡ false) × (c ≡ false) × (d ≡ false) × (e ≡ false)
five_false a b c d e h =
    let h1 = or_parts a (b || (c || (d || e))) h in let h2 = or_parts b (c || (d || e)) h1.1 in let h3 = or_parts c
    (d || e) h2.1 in let h4 = or_parts d e h3.1 in
    (h1.0, h2.0, h3.0, h4.0, h4.1)

-- it is none of [ ] \ - ^
inside-tests : (c : ℕ) → is_plain_inside c ≡ true → ((c == 0x5B) ≡ false) × ((c == 0x5D) ≡ false) × ((c == 0x5C) ≡ false) × ((c == 0x2D) ≡ false)
    × ((c == 0x5E) ≡ false)
inside-tests c e = five_false (c == 0x5B) (c == 0x5D) (c == 0x5C) (c == 0x2D) (c == 0x5E) (not-true (is_special_inside c) (and_parts (is_char c) (not
    (is_special_inside c)) e).1)

inside-at : (negated : Bool) (members : List Member) (c : ℕ) → is_plain_inside c ≡ true → at_member negated members c ≡ goes (Got negated c) members
inside-at negated members c e = let t = inside-tests c e in
    λ i. if t.1 i then class_ended negated members else (if t.2 i then goes (Escape negated) members else (if e i then goes (Got negated c) members else None))

inside-dash : (c : ℕ) → is_plain_inside c ≡ true → (c == 0x2D) ≡ false
inside-dash c e = (inside-tests c e).3

inside-caret : (c : ℕ) → is_plain_inside c ≡ true → (c == 0x5E) ≡ false
inside-caret c e = (inside-tests c e).4

inside-slash : (c : ℕ) → is_plain_inside c ≡ true → (c == 0x5C) ≡ false
inside-slash c e = (inside-tests c e).2

-- a letter that stands for several characters stands for no single one
none-one : (letter : ℕ) (member : Member) → escaped_several letter ≡ Some member → escaped_one letter ≡ None
none-one letter member e = elim (cases_Bool (letter == 0x64)) [
  | inl d ↦ subst (λ l. escaped_one l ≡ None) (sym (eqb-true letter 0x64 d)) refl
  | inr d ↦ elim (cases_Bool (letter == 0x44)) [
    | inl f ↦ subst (λ l. escaped_one l ≡ None) (sym (eqb-true letter 0x44 f)) refl
    | inr f ↦ elim (cases_Bool (letter == 0x73)) [
      | inl g ↦ subst (λ l. escaped_one l ≡ None) (sym (eqb-true letter 0x73 g)) refl
      | inr g ↦ elim (cases_Bool (letter == 0x53)) [
        | inl h ↦ subst (λ l. escaped_one l ≡ None) (sym (eqb-true letter 0x53 h)) refl
        | inr h ↦ absurd (none_is member (sym (nothing letter d f g h) ∙ e))
      ]
    ]
  ]
]
  where
    none_is : (member : Member) → None ≡ Some member → ⊥
    none_is member e = cc

    nothing : (letter : ℕ) → (letter == 0x64) ≡ false → (letter == 0x44) ≡ false → (letter == 0x73) ≡ false → (letter == 0x53) ≡ false
        → escaped_several letter ≡ None
    nothing letter d f g h = λ i. if d i then Some mem.Digit else (if f i then Some mem.NotDigit else (if g i then Some mem.Space else
        (if h i then Some mem.NotSpace else None)))

-- ---- brackets

one-run : (text : List ℕ) (a : ℕ) → SpelledOne text a → (negated : Bool) (members : List Member) (rest : List ℕ)
    → tokens_from (Inside negated) members (text ++ rest) ≡ tokens_from (Got negated a) members rest
one-run text a (p.plain c e) negated members rest = step (Inside negated) members c rest _ (inside-at negated members c e)
one-run text a (p.behind letter c e) negated members rest = step (Escape negated) members letter rest _ (ap (λ o. escape_ended negated members o
    (escaped_several letter)) e)

dash-run : (text : List ℕ) (high : ℕ) → SpelledOne text high → (negated : Bool) (members : List Member) (low : ℕ) (rest : List ℕ) → low ≤ high
    → tokens_from (Dash negated low) members (text ++ rest) ≡ tokens_from (Inside negated) (members ++ Range low high ∷ []) rest
dash-run text high (p.plain c e) negated members low rest l = step (Dash negated low) members c rest _
    (λ i. if inside-slash c e i then goes (DashEscape negated low) members else (if e i then (if le-leb low c l i then goes (Inside negated) (members
    ++ Range low c ∷ []) else None) else None))
dash-run text high (p.behind letter c e) negated members low rest l = step (DashEscape negated low) members letter rest _
    (ap (range_ended negated members low) e ∙ (λ i. if le-leb low c l i then goes (Inside negated) (members ++ Range low c ∷ []) else None))

-- what follows begins with no dash
abbrev NoDash : List ℕ → Type 0
NoDash [] = ⊥
NoDash (c ∷ text) = (c == 0x2D) ≡ false

got-inside : (negated : Bool) (members : List Member) (a : ℕ) (rest : List ℕ) → NoDash rest
    → tokens_from (Got negated a) members rest ≡ tokens_from (Inside negated) (members ++ single a ∷ []) rest
got-inside negated members a [] h = absurd h
got-inside negated members a (c ∷ rest) h =
    step (Got negated a) members c rest _ (λ i. if h i then goes (Dash negated a) members else at_member negated (members ++ single a ∷ []) c)
    ∙ sym (goes-cons (Inside negated) (members ++ single a ∷ []) c rest)

member-run : (text : List ℕ) (member : Member) → SpelledMember text member → (negated : Bool) (members : List Member) (rest : List ℕ) → NoDash rest
    → tokens_from (Inside negated) members (text ++ rest) ≡ tokens_from (Inside negated) (members ++ member ∷ []) rest
member-run text member (p.alone t c h) negated members rest n = one-run t c h negated members rest ∙ got-inside negated members c rest n
member-run text member (p.range first last low high h k l) negated members rest n =
    ap (tokens_from (Inside negated) members) (append_assoc first (0x2D ∷ last) rest)
    ∙ (one-run first low h negated members (0x2D ∷ (last ++ rest)) ∙ dash-run last high k negated members low rest l)
member-run text member (p.several letter m e) negated members rest n = step (Escape negated) members letter rest _
    (λ i. escape_ended negated members (none-one letter m e i) (e i))

no_dash-one : (text : List ℕ) (a : ℕ) → SpelledOne text a → (rest : List ℕ) → NoDash (text ++ rest)
no_dash-one text a (p.plain c e) rest = inside-dash c e
no_dash-one text a (p.behind letter c e) rest = refl

no_dash-member : (text : List ℕ) (member : Member) → SpelledMember text member → (rest : List ℕ) → NoDash (text ++ rest)
no_dash-member text member (p.alone t c h) rest = no_dash-one t c h rest
no_dash-member text member (p.range first last low high h k l) rest = subst NoDash (sym (append_assoc first (0x2D ∷ last) rest)) (no_dash-one first low h
    (0x2D ∷ (last ++ rest)))
no_dash-member text member (p.several letter m e) rest = refl

no_dash-members : (members : List Member) (text : List ℕ) → SpelledMembers members text → (rest : List ℕ) → NoDash rest → NoDash (text ++ rest)
no_dash-members [] text e rest n = subst (λ t. NoDash (t ++ rest)) (sym e) n
no_dash-members (member ∷ members) text (front, back, e, h, k) rest n =
    subst NoDash (sym (ap (λ t. t ++ rest) e ∙ append_assoc front back rest)) (no_dash-member front member h (back ++ rest))

members-run : (more : List Member) (text : List ℕ) → SpelledMembers more text → (negated : Bool) (members : List Member) (rest : List ℕ) → NoDash rest
    → tokens_from (Inside negated) members (text ++ rest) ≡ tokens_from (Inside negated) (members ++ more) rest
members-run [] text e negated members rest n = λ i. tokens_from (Inside negated) (sym (append-nil members) i) (e i ++ rest)
members-run (member ∷ more) text (front, back, e, h, k) negated members rest n =
    ap (tokens_from (Inside negated) members) (ap (λ t. t ++ rest) e ∙ append_assoc front back rest)
    ∙ (member-run front member h negated members (back ++ rest) (no_dash-members more back k rest n)
    ∙ (members-run more back k negated (members ++ member ∷ []) rest n
    ∙ ap (λ m. tokens_from (Inside negated) m rest) (append_assoc members (member ∷ []) more)))

-- behind `[` without `^`
bracket-one : (text : List ℕ) (a : ℕ) → SpelledOne text a → (rest : List ℕ) → tokens_from Bracket [] (text ++ rest) ≡ tokens_from (Inside false) [] (text
    ++ rest)
bracket-one text a (p.plain c e) rest = step Bracket [] c rest _ (λ i. if inside-caret c e i then goes (Inside true) [] else at_member false [] c)
    ∙ sym (goes-cons (Inside false) [] c rest)
bracket-one text a (p.behind letter c e) rest = refl

bracket-member : (text : List ℕ) (member : Member) → SpelledMember text member → (rest : List ℕ) → tokens_from Bracket [] (text
    ++ rest) ≡ tokens_from (Inside false) [] (text ++ rest)
bracket-member text member (p.alone t c h) rest = bracket-one t c h rest
bracket-member text member (p.range first last low high h k l) rest = ap (tokens_from Bracket []) (append_assoc first (0x2D ∷ last) rest)
    ∙ (bracket-one first low h (0x2D ∷ (last ++ rest)) ∙ ap (tokens_from (Inside false) []) (sym (append_assoc first (0x2D ∷ last) rest)))
bracket-member text member (p.several letter m e) rest = refl

bracket-members : (member : Member) (members : List Member) (text : List ℕ) → SpelledMembers (member ∷ members) text → (rest : List ℕ)
    → tokens_from Bracket [] (text ++ rest) ≡ tokens_from (Inside false) [] (text ++ rest)
bracket-members member members text (front, back, e, h, k) rest =
    let d = ap (λ t. t ++ rest) e ∙ append_assoc front back rest in
    ap (tokens_from Bracket []) d ∙ (bracket-member front member h (back ++ rest) ∙ ap (tokens_from (Inside false) []) (sym d))

class-run : (negated : Bool) (member : Member) (members : List Member) (rest : List ℕ)
    → tokens_from (Inside negated) (member ∷ members) (0x5D ∷ rest) ≡ with_token (Some (Item (record { negated = negated; members = member ∷ members })))
    (tokens_from Between [] rest)
class-run negated member members rest = step (Inside negated) (member ∷ members) 0x5D rest _
    (λ i. if ne_eqb (length (member ∷ members)) 0 (λ e. absurd (omega arith)) i then None else ends_with [] (Item
    (record { negated = negated; members = member ∷ members })))

bracket-run : (negated : Bool) (text : List ℕ) (member : Member) (members : List Member) (rest : List ℕ) → SpelledMembers (member ∷ members) text
    → tokens_from Bracket [] (caret negated ++ (text ++ 0x5D ∷ rest)) ≡ with_token (Some (Item (record { negated = negated; members = member ∷ members })))
    (tokens_from Between [] rest)
bracket-run true text member members rest h = members-run (member ∷ members) text h true [] (0x5D ∷ rest) refl ∙ class-run true member members rest
bracket-run false text member members rest h = bracket-members member members text h (0x5D ∷ rest)
    ∙ (members-run (member ∷ members) text h false [] (0x5D ∷ rest) refl ∙ class-run false member members rest)

-- ---- braces

value_grows : (n : ℕ) (digits : List ℕ) → n ≤ value_from n digits
value_grows n [] = omega arith
value_grows n (d ∷ digits) = omega (arith, value_grows (10 * n + (d - 0x30)) digits)

digit-taken : (k n d : ℕ) → k < 4 → with_digit n d ≤ 1000 → digit_behind k n d ≡ Some (with_digit n d)
digit-taken k n d l s = λ i. if and_from _ _ (lt-ltb k 4 l) (le-leb (with_digit n d) 1000 s) i then Some (with_digit n d) else None

least-run : (digits : List ℕ) (k n : ℕ) (rest : List ℕ) → list_all is_digit digits ≡ true → k + length digits ≤ 4 → value_from n digits ≤ 1000
    → tokens_from (Least k n) [] (digits ++ rest) ≡ tokens_from (Least (k + length digits) (value_from n digits)) [] rest
least-run [] k n rest h l s = ap (λ j. tokens_from (Least j n) [] rest) (sym (add-zero k))
least-run (d ∷ digits) k n rest h l s =
    let (e, f) = and_parts _ _ h in
    step (Least k n) [] d (digits ++ rest) (goes (Least (k + 1) (with_digit n d)) [])
    ((λ i. if e i then least_on [] k (digit-taken k n d (omega arith) (omega (arith, value_grows (with_digit n d) digits)) i) else (if k == 0 then None
    else (if d == 0x7D then ends_with [] (Quantifier (Counted n (Some 0))) else (if d == 0x2C then goes (Most n 0 0) [] else None)))))
    ∙ (least-run digits (k + 1) (with_digit n d) rest f (omega arith) s
    ∙ ap (λ j. tokens_from (Least j (value_from (with_digit n d) digits)) [] rest) (omega arith))

most-run : (low : ℕ) (digits : List ℕ) (k n : ℕ) (rest : List ℕ) → list_all is_digit digits ≡ true → k + length digits ≤ 4 → value_from n digits ≤ 1000
    → tokens_from (Most low k n) [] (digits ++ rest) ≡ tokens_from (Most low (k + length digits) (value_from n digits)) [] rest
most-run low [] k n rest h l s = ap (λ j. tokens_from (Most low j n) [] rest) (sym (add-zero k))
most-run low (d ∷ digits) k n rest h l s =
    let (e, f) = and_parts _ _ h in
    step (Most low k n) [] d (digits ++ rest) (goes (Most low (k + 1) (with_digit n d)) [])
    ((λ i. if e i then most_on [] low k (digit-taken k n d (omega arith) (omega (
      arith,
      value_grows (with_digit n d) digits,
    )) i) else (if d == 0x7D then most_ended [] low k n else None)))
    ∙ (most-run low digits (k + 1) (with_digit n d) rest f (omega arith) s
    ∙ ap (λ j. tokens_from (Most low j (value_from (with_digit n d) digits)) [] rest) (omega arith))

number-run : (digits : List ℕ) (n : ℕ) (rest : List ℕ) → IsNumber digits n → tokens_from (Least 0 0) [] (digits
    ++ rest) ≡ tokens_from (Least (length digits) n) [] rest
number-run digits n rest h = least-run digits 0 0 rest h.are_digits (omega (arith, h.few)) (omega (arith, h.value, h.small))
    ∙ (λ i. tokens_from (Least (zero-left (length digits) i) (sym h.value i)) [] rest)
  where
    zero-left : (k : ℕ) → 0 + k ≡ k
    zero-left k = omega arith

others-run : (low : ℕ) (digits : List ℕ) (n : ℕ) (rest : List ℕ) → IsNumber digits n → tokens_from (Most low 0 0) [] (digits
    ++ rest) ≡ tokens_from (Most low (length digits) n) [] rest
others-run low digits n rest h = most-run low digits 0 0 rest h.are_digits (omega (arith, h.few)) (omega (arith, h.value, h.small))
    ∙ (λ i. tokens_from (Most low (zero-left (length digits) i) (sym h.value i)) [] rest)
  where
    zero-left : (k : ℕ) → 0 + k ≡ k
    zero-left k = omega arith

not_zero : (k : ℕ) → 1 ≤ k → (k == 0) ≡ false
not_zero k l = ne_eqb k 0 (λ e. absurd (omega arith))

-- ---- tokens

lexed : (text : List ℕ) (token : Token Class) → SpelledToken text token → (rest : List ℕ) → tokens_from Between [] (text
    ++ rest) ≡ with_token (Some token) (tokens_from Between [] rest)
lexed text token p.dot rest = refl
lexed text token (p.plain c e) rest = step Between [] c rest _ (plain-at c e)
lexed text token (p.behind letter m e) rest = step Escaped [] letter rest _ (ap (an_item []) e)
lexed text token (p.bracket negated t m ms h) rest =
    ap (tokens_from Bracket []) (append_assoc (caret negated) (t ++ 0x5D ∷ []) rest ∙ ap (λ u. caret negated ++ u) (append_assoc t (0x5D ∷ []) rest))
    ∙ bracket-run negated t m ms rest h
lexed text token p.question rest = refl
lexed text token p.star rest = refl
lexed text token p.plus rest = refl
lexed text token (p.exactly digits n h) rest =
    ap (tokens_from (Least 0 0) []) (append_assoc digits (0x7D ∷ []) rest) ∙ (number-run digits n (0x7D ∷ rest) h
    ∙ step (Least (length digits) n) [] 0x7D rest _ (λ i. if not_zero (length digits) h.some i then None else ends_with [] (Quantifier (Counted n (Some 0)))))
lexed text token (p.at_least digits n h) rest =
    ap (tokens_from (Least 0 0) []) (append_assoc digits (0x2C ∷ 0x7D ∷ []) rest) ∙ (number-run digits n (0x2C ∷ 0x7D ∷ rest) h
    ∙ step (Least (length digits) n) [] 0x2C (0x7D ∷ rest) _ (λ i. if not_zero (length digits) h.some i then None else goes (Most n 0 0) []))
lexed text token (p.between digits others n m h k l) rest =
    ap (tokens_from (Least 0 0) []) (append_assoc digits (0x2C ∷ (others ++ 0x7D ∷ [])) rest) ∙ (number-run digits n (0x2C ∷ ((others ++ 0x7D ∷ []) ++ rest)) h
    ∙ (step (Least (length digits) n) [] 0x2C ((others ++ 0x7D ∷ []) ++ rest) _ (λ i. if not_zero (length digits) h.some i then None else goes (Most n 0 0) [])
    ∙ (ap (tokens_from (Most n 0 0) []) (append_assoc others (0x7D ∷ []) rest) ∙ (others-run n others m (0x7D ∷ rest) k
    ∙ step (Most n (length others) m) [] 0x7D rest _ (λ i. if not_zero (length others) k.some i then ends_with [] (Quantifier (Counted n None))
    else (if le-leb n m l i then ends_with [] (Quantifier (Counted n (Some (m - n)))) else None))))))
lexed text token p.opens rest = refl
lexed text token p.closes rest = refl
lexed text token p.bar rest = refl
lexed text token p.begins rest = refl
lexed text token p.ends rest = refl

pub tokens-lexed : (tokens : List (Token Class)) (text : List ℕ) → SpelledTokens tokens text → tokens_of text ≡ Some tokens
tokens-lexed [] text e = ap tokens_of e
tokens-lexed (token ∷ tokens) text (front, back, e, h, k) = ap tokens_of e ∙ (lexed front token h back
    ∙ ap (with_token (Some token)) (tokens-lexed tokens back k))
