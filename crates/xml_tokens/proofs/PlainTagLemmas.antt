-- Tags that are a name of ASCII and nothing else.
use Rattle.std.proofs.Common.{◌≡◌, ℕ, zero, suc, ◌+◌, ◌-◌, ◌<◌, ◌≤◌, ◌==◌, nat_lt, Bool, true, false, not, ◌&&◌, ◌||◌, List, [], ◌∷◌, ◌++◌, length, take, drop}
use Rattle.std.proofs.Common.{get_or, refl, sym, ap, ◌∙◌, arith, subst, Option, Some, None, Ok, cond, true≢false, if◌then◌else◌}
use Rattle.std.specs.Option.{IfSome}
use Rattle.std.specs.Str.{chars, IsAscii, is_utf8}
use Rattle.std.specs.List.{list_all, position, position_or_len, range_with_len}
use Rattle.std.proofs.lemmas.Bool.{not-true, eqb-true}
use Rattle.std.proofs.lemmas.Bool.Decides.{nat_tests}
use Rattle.std.proofs.lemmas.List.{append-nil, append_assoc, drop_at, length-append, length-drop, take_all}
use Rattle.std.proofs.lemmas.List.Folds.{list_all-append, list_all_at}
use Rattle.std.proofs.lemmas.List.FromFn.{length-range_with_len, get_or-range_with_len}
use Rattle.std.proofs.lemmas.Str.{IsUtf8-from_ascii, is_utf8-from_IsUtf8}
use Rattle.std.proofs.Math.Seq.{take-append_seam, drop-append_seam}
use Rattle.inv_base.specs.Characters.{is_char, is_white_space, is_name_char, is_name_start, is_within}
use Rattle.inv_base.proofs.TextLemmas.{both}
use Rattle.xml_tokens.specs.declared.kind.XmlKind.TheVariants.{NotUtf8, BadChar, BadMarkup}
use Rattle.xml_tokens.specs.Ascii.{is_calm, is_plain_name_char, is_plain_name_start, is_plain_ncname, IsPlainName, plain_local, plain_prefixed}
use Rattle.xml_tokens.specs.Beginnings.{Beginning, bad, good, of_length, extent, comment_or_section_at, extent_through, may_declare, markup_at, tag_at, beginning}
use Rattle.xml_tokens.specs.Markup.{Token, a_start_tag, an_end_tag, if_right, instruction}
use Rattle.xml_tokens.specs.Searches.{is_quote, begins_with, behind, one_farther, tag_end}
use Rattle.xml_tokens.specs.Told.{BeginsTag, begins_tag}
use Rattle.xml_tokens.specs.declared.beginning.Position.{Position}
use Rattle.xml_tokens.specs.Tags.{tag, start_tag, end_tag, tag_inside, attribute_at, Inside}
use Rattle.xml_tokens.specs.WrittenNames.{is_colon, is_ncname, is_qname, ends_name, name_at_front}
use Rattle.xml_tokens.proofs.AsciiLemmas.{plain-ascii, plain-ncname-of}
use Rattle.xml_tokens.proofs.CalmLemmas.{calm-told}
use Rattle.xml_tokens.proofs.CutLemmas.{place-of, some-any}
use Rattle.xml_tokens.proofs.ExtentLemmas.{tagged}
use Rattle.xml_tokens.proofs.NameLemmas.{qname-parts, qname-whole}
use Rattle.xml_tokens.proofs.TagEndLemmas.{tag-step, tag-here}
use Rattle.xml_tokens.proofs.TokenLemmas.{begin-markup}
use Rattle.xml_tokens.proofs.TagLemmas as tag_lemmas

-- ---- single bytes

-- It neither ends a tag nor begins a quote, and is calm.
abbrev keeps : ℕ → Bool
keeps b = is_calm b && (not (b == 0x3E) && not (is_quote b))

abbrev passes : ℕ → Bool
passes b = nat_lt b 128 && keeps b

-- It doesn't end a name.
abbrev stays : ℕ → Bool
stays b = not (ends_name b)

abbrev is_mild : ℕ → Bool
is_mild b = passes b && (stays b && not (is_colon b))

abbrev is_mild_name_char : ℕ → Bool
is_mild_name_char b = not (is_plain_name_char b) || is_mild b

-- by the 128 bytes
all-mild : list_all is_mild_name_char (range_with_len 0 128) ≡ true
unfolding is_name_char is_name_start is_white_space
all-mild = refl

mild-at : (b : ℕ) → b < 128 → is_mild_name_char b ≡ true
mild-at b h = by (is_mild_name_char b) refl
  where
    inside : b < length (range_with_len 0 128)
    inside = omega (arith, h, length-range_with_len 0 128)

    by : (t : Bool) → is_mild_name_char b ≡ t → t ≡ true
    by true e = refl
    by false e =
        let same : 0 + b ≡ b = omega arith in
        absurd (true≢false (sym all-mild ∙ list_all_at is_mild_name_char (range_with_len 0 128) b 0 inside
        (ap is_mild_name_char (get_or-range_with_len 0 128 b 0 h ∙ same) ∙ e)))

low : (b : ℕ) → nat_lt b 128 ≡ true → b < 128
low b h = grind (arith, nat_tests)

mild : (b : ℕ) → is_plain_name_char b ≡ true → is_mild b ≡ true
mild b h = sym (ap (λ t. not t || is_mild b) h) ∙ mild-at b (low b (both (nat_lt b 128) (is_name_char b) h).0)

starts : (b : ℕ) → is_plain_name_start b ≡ true → is_plain_name_char b ≡ true
unfolding is_name_char
starts b h =
    let parts = both (nat_lt b 128) (is_name_start b) h in
    ap (λ t. t && is_name_char b) parts.0
    ∙ ap (λ t. t || (b == 0x2D || (b == 0x2E || (is_within 0x30 0x39 b || (b == 0xB7 || (is_within 0x300 0x36F b || is_within 0x203F 0x2040 b)))))) parts.1

-- ---- lists of bytes

all-of : (p q : ℕ → Bool) → ((b : ℕ) → p b ≡ true → q b ≡ true) → (xs : List ℕ) → list_all p xs ≡ true → list_all q xs ≡ true
all-of p q leads [] h = refl
all-of p q leads (x ∷ xs) h =
    let parts = both (p x) (list_all p xs) h in
    ap (λ t. t && list_all q xs) (leads x parts.0) ∙ all-of p q leads xs parts.1

-- the front before the first that fails
front-all : (p : ℕ → Bool) (bytes : List ℕ) → list_all p (take (position_or_len (λ b. not (p b)) bytes) bytes) ≡ true
front-all p [] = refl
front-all p (b ∷ bytes) = by (p b) refl (front-all p bytes)
  where
    by : (t : Bool) → p b ≡ t → list_all p (take (position_or_len (λ x. not (p x)) bytes) bytes) ≡ true
        → list_all p (take (cond (not (not t)) (1 + position_or_len (λ x. not (p x)) bytes) 0) (b ∷ bytes)) ≡ true
    by false e rest = refl
    by true e rest =
        let one : 1 + position_or_len (λ x. not (p x)) bytes ≡ suc (position_or_len (λ x. not (p x)) bytes) = omega arith in
        ap (λ n. list_all p (take n (b ∷ bytes))) one ∙ (ap (λ t. t && list_all p (take (position_or_len (λ x. not (p x)) bytes) bytes)) e ∙ rest)

-- the first place behind bytes that none passes
place-behind : (p : ℕ → Bool) (xs rest : List ℕ) → list_all (λ b. not (p b)) xs ≡ true → position_or_len p rest ≡ 0 → position_or_len p (xs ++ rest) ≡ length xs
place-behind p [] rest h e = e
place-behind p (x ∷ xs) rest h e =
    let parts = both (not (p x)) (list_all (λ b. not (p b)) xs) h in
    let one : 1 + length xs ≡ suc (length xs) = omega arith in
    ap (λ t. cond t (1 + position_or_len p (xs ++ rest)) 0) parts.0 ∙ (ap (λ n. 1 + n) (place-behind p xs rest parts.1 e) ∙ one)

-- ---- names

-- what is behind the first byte, as a pattern of a slice has it
pub rest-of : (bytes : List ℕ) → take (length bytes - 1) (drop 1 bytes) ≡ drop 1 bytes
rest-of bytes = take_all (length bytes - 1) (drop 1 bytes) (omega (arith, length-drop 1 bytes))

pub ncname-at : (bytes : List ℕ) (end : ℕ) → 1 ≤ length bytes → is_plain_name_start (get_or bytes 0 0) ≡ true →
    Some end ≡ position (λ b. not (is_plain_name_char b)) (drop 1 bytes) → is_plain_ncname (take (1 + end) bytes) ≡ true
ncname-at [] end h s e = absurd (omega arith)
ncname-at (b ∷ bytes) end h s e =
    let one : 1 + end ≡ suc end = omega arith in
    let place = place-of (λ x. not (is_plain_name_char x)) bytes end e in
    ap (λ n. is_plain_ncname (take n (b ∷ bytes))) one
    ∙ (ap (λ t. t && list_all is_plain_name_char (take end bytes)) s
    ∙ (ap (λ n. list_all is_plain_name_char (take n bytes)) (sym place.same) ∙ front-all is_plain_name_char bytes))

take-two : (bytes : List ℕ) (n m : ℕ) → n ≤ length bytes → take (n + (1 + m)) bytes ≡ take n bytes ++ take (1 + m) (drop n bytes)
take-two bytes zero m h = let e : 0 + (1 + m) ≡ 1 + m = omega arith in ap (λ k. take k bytes) e
take-two [] (suc n) m h = absurd (omega arith)
take-two (b ∷ bytes) (suc n) m h = let e : suc n + (1 + m) ≡ suc (n + (1 + m)) = omega arith in ap (λ k. take k (b ∷ bytes)) e ∙
    ap (λ xs. b ∷ xs) (take-two bytes n m (omega arith))

take-one : (xs : List ℕ) (m : ℕ) → 1 ≤ length xs → get_or xs 0 0 ≡ 0x3A → take (1 + m) xs ≡ 0x3A ∷ take m (drop 1 xs)
take-one [] m h e = absurd (omega arith)
take-one (x ∷ xs) m h e = let one : 1 + m ≡ suc m = omega arith in ap (λ k. take k (x ∷ xs)) one ∙ ap (λ c. c ∷ take m xs) e

pub qname-at : (bytes rest : List ℕ) (n m : ℕ) → n ≤ length bytes → rest ≡ drop n bytes → 1 ≤ length rest → get_or rest 0 0 ≡ 0x3A
    → is_plain_ncname (take n bytes) ≡ true → is_plain_ncname (take m (take (length rest - 1) (drop 1 rest))) ≡ true → IsPlainName (take (n + (1 + m)) bytes)
qname-at bytes rest n m h e l c p q =
    subst IsPlainName (sym (take-two bytes n m h ∙ ap (λ xs. take n bytes ++ xs) (ap (take (1 + m)) (sym e) ∙ take-one rest m l c)))
    (plain_prefixed (take n bytes) (take m (drop 1 rest)) p (ap (λ xs. is_plain_ncname (take m xs)) (sym (rest-of rest)) ∙ q))

-- the bytes of an NCName
ncname-mild : (name : List ℕ) → is_plain_ncname name ≡ true → list_all is_mild name ≡ true
ncname-mild [] h = absurd (true≢false (sym h))
ncname-mild (b ∷ bytes) h =
    let parts = both (is_plain_name_start b) (list_all is_plain_name_char bytes) h in
    ap (λ t. t && list_all is_mild bytes) (mild b (starts b parts.0)) ∙ all-of is_plain_name_char is_mild mild bytes parts.1

ncname-passes : (name : List ℕ) → is_plain_ncname name ≡ true → list_all passes name ≡ true
ncname-passes name h = all-of is_mild passes (λ b e. (both (passes b) _ e).0) name (ncname-mild name h)

ncname-stays : (name : List ℕ) → is_plain_ncname name ≡ true → list_all stays name ≡ true
ncname-stays name h = all-of is_mild stays (λ b e. (both (stays b) _ (both (passes b) _ e).1).0) name (ncname-mild name h)

ncname-no-colon : (name : List ℕ) → is_plain_ncname name ≡ true → list_all (λ b. not (is_colon b)) name ≡ true
ncname-no-colon name h = all-of is_mild (λ b. not (is_colon b)) (λ b e. (both (stays b) _ (both (passes b) _ e).1).1) name (ncname-mild name h)

joined : (p : ℕ → Bool) (xs ys : List ℕ) → list_all p xs ≡ true → list_all p ys ≡ true → list_all p (xs ++ ys) ≡ true
joined p xs ys e f = list_all-append p xs ys ∙ (ap (λ t. t && list_all p ys) e ∙ f)

colon-stays : stays 0x3A ≡ true
unfolding is_white_space
colon-stays = refl

name-passes : (name : List ℕ) → IsPlainName name → list_all passes name ≡ true
name-passes name (plain_local same h) = ncname-passes name h
name-passes name (plain_prefixed prefix local h g) = joined passes prefix (0x3A ∷ local) (ncname-passes prefix h) (ncname-passes local g)

name-stays : (name : List ℕ) → IsPlainName name → list_all stays name ≡ true
name-stays name (plain_local same h) = ncname-stays name h
name-stays name (plain_prefixed prefix local h g) = joined stays prefix (0x3A ∷ local) (ncname-stays prefix h) (ap (λ t. t && list_all stays local) colon-stays
    ∙ ncname-stays local g)

name-right : (name : List ℕ) → IsPlainName name → is_qname name ≡ true
name-right name (plain_local same h) =
    let none : position_or_len is_colon name ≡ length name = ap (position_or_len is_colon) (sym (append-nil name)) ∙
    place-behind is_colon name [] (ncname-no-colon name h) refl in
    qname-whole name (omega (arith, none)) ∙ plain-ncname-of name h
name-right name (plain_prefixed prefix local h g) =
    let whole = prefix ++ (0x3A ∷ local) in
    let place : position_or_len is_colon whole ≡ length prefix = place-behind is_colon prefix (0x3A ∷ local) (ncname-no-colon prefix h) refl in
    let long : length whole ≡ length prefix + suc (length local) = length-append prefix (0x3A ∷ local) in
    let behind_colon : drop (length prefix + 1) whole ≡ local =
    ap (drop (length prefix + 1)) (sym (append_assoc prefix (0x3A ∷ []) local)) ∙
    drop_at (prefix ++ (0x3A ∷ [])) local (length prefix + 1) (length-append prefix (0x3A ∷ [])) in
    qname-parts whole prefix local (record {
      any = some-any is_colon whole (omega (arith, place, long));
      before = sym (ap (λ n. take n whole) place ∙ take-append_seam prefix (0x3A ∷ local));
      after = sym (ap (λ n. drop (n + 1) whole) place ∙ behind_colon);
    })
    ∙ (ap (λ t. t && is_ncname (chars local)) (plain-ncname-of prefix h) ∙ plain-ncname-of local g)

-- ---- the end of a tag, and what stands inside

end-of : (xs rest : List ℕ) (room : ℕ) → list_all passes xs ≡ true → length xs < room → tag_end (xs ++ (0x3E ∷ rest)) None room ≡ behind (length xs)
end-of xs rest zero p l = absurd (omega arith)
end-of [] rest (suc room) p l = tag-here 0x3E rest None room refl
end-of (x ∷ xs) rest (suc room) p l =
    let parts = both (passes x) (list_all passes xs) p in
    let kept = both (not (x == 0x3E)) (not (is_quote x)) (both (is_calm x) _ (both (nat_lt x 128) _ parts.0).1).1 in
    let one : 1 + length xs ≡ suc (length xs) = omega arith in
    tag-step x (xs ++ (0x3E ∷ rest)) None room (not-true (x == 0x3E) kept.0)
    ∙ (ap (λ t. one_farther (tag_end (xs ++ (0x3E ∷ rest)) (if t then Some x else None) room)) (not-true (is_quote x) kept.1)
    ∙ (ap one_farther (end-of xs rest room parts.1 (omega arith)) ∙ ap behind one))

ascii-of : (xs : List ℕ) → list_all passes xs ≡ true → IsAscii xs
ascii-of xs h = plain-ascii keeps xs h

calm-of : (xs : List ℕ) → list_all passes xs ≡ true → list_all is_calm xs ≡ true
calm-of xs h = all-of passes is_calm (λ b e. (both (is_calm b) _ (both (nat_lt b 128) _ e).1).0) xs h

chars-of : (xs : List ℕ) → list_all passes xs ≡ true → list_all is_char (chars xs) ≡ true
chars-of xs h = sym (calm-told xs xs true refl (IsUtf8-from_ascii xs (ascii-of xs h)) (sym (calm-of xs h)) refl)

extent-of : (n : ℕ) (xs : List ℕ) (token : Token) → list_all passes xs ≡ true → tag xs ≡ Ok token → extent n xs tag ≡ good token n
unfolding extent
extent-of n xs token h e =
    let utf8 : is_utf8 xs ≡ true = is_utf8-from_IsUtf8 xs (IsUtf8-from_ascii xs (ascii-of xs h)) in
    ap (λ t. elim t [ false ↦ bad NotUtf8 n | true ↦ elim (list_all is_char (chars xs)) [ false ↦ bad BadChar n | true ↦ of_length n (tag xs) ] ]) utf8
    ∙ (ap (λ t. elim t [ false ↦ bad BadChar n | true ↦ of_length n (tag xs) ]) (chars-of xs h) ∙ ap (of_length n) e)

tag-by : (xs rest : List ℕ) (token : Token) → list_all passes xs ≡ true → length xs < 262143 → tag xs ≡ Ok token →
    tag_at (xs ++ (0x3E ∷ rest)) ≡ good token (length xs + 2)
tag-by xs rest token h l e =
    ap (λ x. tagged x (xs ++ (0x3E ∷ rest))) (end-of xs rest 262143 h l)
    ∙ (ap (λ inside. extent (length xs + 2) inside tag) (take-append_seam xs (0x3E ∷ rest)) ∙ extent-of (length xs + 2) xs token h e)

-- ---- tags

front-is : (name rest : List ℕ) → list_all stays name ≡ true → position_or_len ends_name rest ≡ 0 → name_at_front (name ++ rest) ≡ name
front-is name rest h e = ap (λ n. take n (name ++ rest)) (place-behind ends_name name rest h e) ∙ take-append_seam name rest

starts-with : (name rest : List ℕ) (x : Option Inside) → IsPlainName name → position_or_len ends_name rest ≡ 0 → tag_inside 0 rest ≡ x →
    start_tag (name ++ rest) ≡ tag_lemmas.started true name x
unfolding start_tag
starts-with name rest x plain e f =
    let front = front-is name rest (name-stays name plain) e in
    ap (λ n. tag_lemmas.started (is_qname n) n (tag_inside 0 (drop (length n) (name ++ rest)))) front
    ∙ (ap (λ t. tag_lemmas.started t name (tag_inside 0 (drop (length name) (name ++ rest)))) (name-right name plain)
    ∙ (ap (λ r. tag_lemmas.started true name (tag_inside 0 r)) (drop-append_seam name rest) ∙ ap (tag_lemmas.started true name) f))

no-slash : (b : ℕ) → stays b ≡ true → (b == 0x2F) ≡ false
no-slash b h = by (is_white_space b) (b == 0x3D) (b == 0x2F) h
  where
    by : (t u v : Bool) → not (t || (u || v)) ≡ true → v ≡ false
    by true u v e = absurd (true≢false (sym e))
    by false true v e = absurd (true≢false (sym e))
    by false false v e = not-true v e

is-start : (name rest : List ℕ) → IsPlainName name → tag (name ++ rest) ≡ start_tag (name ++ rest)
is-start [] rest plain = absurd (true≢false (sym (name-right [] plain) ∙ tag_lemmas.no-name))
is-start (b ∷ name) rest plain =
    ap (λ t. elim t [ true ↦ end_tag (name ++ rest) | false ↦ start_tag (b ∷ (name ++ rest)) ])
    (no-slash b (both (stays b) (list_all stays name) (name-stays (b ∷ name) plain)).0)

slash-stops : position_or_len ends_name (0x2F ∷ []) ≡ 0
unfolding is_white_space
slash-stops = refl

nothing-inside : tag_inside 0 [] ≡ Some (record { attributes = []; is_empty = false })
unfolding tag_inside
nothing-inside = refl

slash-inside : tag_inside 0 (0x2F ∷ []) ≡ Some (record { attributes = []; is_empty = true })
unfolding tag_inside attribute_at is_white_space
slash-inside = refl

tag-bare : (name : List ℕ) → IsPlainName name → tag name ≡ Ok (a_start_tag (record { name = name; attributes = []; is_empty = false }))
tag-bare name plain = ap tag (sym (append-nil name)) ∙ (is-start name [] plain ∙ starts-with name [] _ plain refl nothing-inside)

tag-empty : (name : List ℕ) → IsPlainName name → tag (name ++ (0x2F ∷ [])) ≡ Ok (a_start_tag (record { name = name; attributes = []; is_empty = true }))
tag-empty name plain = is-start name (0x2F ∷ []) plain ∙ starts-with name (0x2F ∷ []) _ plain slash-stops slash-inside

tag-end : (name : List ℕ) → IsPlainName name → tag (0x2F ∷ name) ≡ Ok (an_end_tag name)
unfolding end_tag
tag-end name plain =
    let front : name_at_front name ≡ name = ap name_at_front (sym (append-nil name)) ∙ front-is name [] (name-stays name plain) refl in
    let none : drop (length name) name ≡ [] = ap (drop (length name)) (sym (append-nil name)) ∙ drop-append_seam name [] in
    ap (λ n. if_right (is_qname n && list_all is_white_space (drop (length n) name)) (an_end_tag n) BadMarkup) front
    ∙ (ap (λ t. if_right (t && list_all is_white_space (drop (length name) name)) (an_end_tag name) BadMarkup) (name-right name plain)
    ∙ ap (λ r. if_right (list_all is_white_space r) (an_end_tag name) BadMarkup) none)

-- ---- what begins behind `<`

begins-one : (bytes : List ℕ) → begins_with (0x3E ∷ []) bytes ≡ true → bytes ≡ 0x3E ∷ drop 1 bytes
begins-one [] h = absurd (true≢false (sym h))
begins-one (b ∷ bytes) h = ap (λ c. c ∷ bytes) (eqb-true b 0x3E (both (b == 0x3E) true h).0)

begins-two : (bytes : List ℕ) → begins_with (0x2F ∷ (0x3E ∷ [])) bytes ≡ true → bytes ≡ 0x2F ∷ (0x3E ∷ drop 2 bytes)
begins-two [] h = absurd (true≢false (sym h))
begins-two (b ∷ []) h = absurd (true≢false (sym (both (b == 0x2F) false h).1))
begins-two (b ∷ (c ∷ bytes)) h =
    let parts = both (b == 0x2F) ((c == 0x3E) && true) h in
    ap (λ x. x ∷ (c ∷ bytes)) (eqb-true b 0x2F parts.0) ∙ ap (λ x. 0x2F ∷ (x ∷ bytes)) (eqb-true c 0x3E (both (c == 0x3E) true parts.1).0)

pub start-shown : (bytes name rest : List ℕ) → bytes ≡ name ++ rest → IsPlainName name → length name < 1000 → begins_with (0x3E ∷ []) rest ≡ true
    → tag_at bytes ≡ good (a_start_tag (record { name = name; attributes = []; is_empty = false })) (length name + 2)
start-shown bytes name rest e plain l h =
    ap tag_at (e ∙ ap (λ r. name ++ r) (begins-one rest h)) ∙ tag-by name (drop 1 rest) _ (name-passes name plain) (omega arith) (tag-bare name plain)

pub empty-shown : (bytes name rest : List ℕ) → bytes ≡ name ++ rest → IsPlainName name → length name < 1000 → begins_with (0x2F ∷ (0x3E ∷ [])) rest ≡ true
    → tag_at bytes ≡ good (a_start_tag (record { name = name; attributes = []; is_empty = true })) (length name + 3)
empty-shown bytes name rest e plain l h =
    let inside = name ++ (0x2F ∷ []) in
    let long : length inside ≡ length name + 1 = length-append name (0x2F ∷ []) in
    let sum : length inside + 2 ≡ length name + 3 = omega (arith, long) in
    let token = a_start_tag (record { name = name; attributes = []; is_empty = true }) in
    ap tag_at (e ∙ (ap (λ r. name ++ r) (begins-two rest h) ∙ sym (append_assoc name (0x2F ∷ []) (0x3E ∷ drop 2 rest))))
    ∙ (tag-by inside (drop 2 rest) token (joined passes name (0x2F ∷ []) (name-passes name plain) refl) (omega (arith, long)) (tag-empty name plain) ∙
    ap (good token) sum)

pub end-shown : (bytes name rest : List ℕ) → bytes ≡ name ++ rest → IsPlainName name → length name < 1000 → begins_with (0x3E ∷ []) rest ≡ true
    → tag_at (0x2F ∷ bytes) ≡ good (an_end_tag name) (length name + 3)
end-shown bytes name rest e plain l h =
    let sum : suc (length name) + 2 ≡ length name + 3 = omega arith in
    ap (λ r. tag_at (0x2F ∷ r)) (e ∙ ap (λ r. name ++ r) (begins-one rest h))
    ∙ (tag-by (0x2F ∷ name) (drop 1 rest) (an_end_tag name) (name-passes name plain) (omega arith) (tag-end name plain) ∙ ap (good (an_end_tag name)) sum)

other-byte : (b k : ℕ) → is_plain_name_start b ≡ true → is_plain_name_start k ≡ false → (b == k) ≡ false
other-byte b k h fails = by (b == k) refl
  where
    by : (t : Bool) → (b == k) ≡ t → t ≡ false
    by false e = refl
    by true e = absurd (true≢false (sym h ∙ (ap is_plain_name_start (eqb-true b k e) ∙ fails)))

no-start-mark : is_plain_name_start 0x21 ≡ false
unfolding is_name_start
no-start-mark = refl

no-start-question : is_plain_name_start 0x3F ≡ false
unfolding is_name_start
no-start-question = refl

ncname-begins : (name rest : List ℕ) → is_plain_ncname name ≡ true → BeginsTag (name ++ rest)
ncname-begins [] rest h = absurd (true≢false (sym h))
ncname-begins (b ∷ name) rest h =
    let start = (both (is_plain_name_start b) (list_all is_plain_name_char name) h).0 in
    begins_tag b (name ++ rest) (other-byte b 0x21 start no-start-mark) (other-byte b 0x3F start no-start-question)

-- A name is neither the front of a comment or section nor that of an instruction.
pub name-begins : (bytes name rest : List ℕ) → bytes ≡ name ++ rest → IsPlainName name → BeginsTag bytes
name-begins bytes name rest e (plain_local same h) = subst BeginsTag (sym e) (ncname-begins name rest h)
name-begins bytes name rest e (plain_prefixed prefix local h g) =
    subst BeginsTag (sym (e ∙ append_assoc prefix (0x3A ∷ local) rest)) (ncname-begins prefix ((0x3A ∷ local) ++ rest) h)

abbrev behind-open : Position → List ℕ → Bool → Bool → Beginning
behind-open p bytes t u = elim t [
  | true ↦ comment_or_section_at (drop 1 bytes)
  | false ↦ elim u [ true ↦ extent_through (0x3F ∷ (0x3E ∷ [])) 2 (drop 1 bytes) (instruction (may_declare p)) | false ↦ tag_at bytes ]
]

markup-tag : (p : Position) (bytes : List ℕ) → BeginsTag bytes → markup_at p bytes ≡ tag_at bytes
markup-tag p [] tag = elim tag [ ]
markup-tag p (b ∷ bytes) (begins_tag c same e f) = ap (λ t. behind-open p (b ∷ bytes) t (b == 0x3F)) e ∙ ap (behind-open p (b ∷ bytes) false) f

-- What begins with `<` and a tag behind it is that tag.
pub begins-as-tag : (p : Position) (ended : Bool) (bytes rest : List ℕ) (b : ℕ) → bytes ≡ b ∷ rest → b ≡ 0x3C → BeginsTag rest →
    beginning p ended bytes ≡ tag_at rest
begins-as-tag p ended bytes rest b e f tag = sym (begin-markup p ended bytes rest b e f) ∙ markup-tag p rest tag

pub if-some : {X : Type 0} (found : Option X) (P Q R : X → Type 0) → ((x : X) → P x → Q x → R x) → IfSome found P → IfSome found Q → IfSome found R
if-some None P Q R f p q = tt
if-some (Some x) P Q R f p q = f x p q

pub if-any : {X : Type 0} (found : Option X) (P : X → Type 0) → ((x : X) → P x) → IfSome found P
if-any None P f = tt
if-any (Some x) P f = f x
