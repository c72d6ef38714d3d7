-- What begins at a front of the bytes stays where the bytes go on, and what is nothing yet ends no earlier than they
-- do.
use Rattle.std.proofs.Common.{◌≡◌, ℕ, suc, pred, max, ◌+◌, ◌≤◌, ◌==◌, Bool, true, false, ◌||◌, ◌&&◌, not, List, [], ◌∷◌, ◌++◌, length, take, drop, refl, sym}
use Rattle.std.proofs.Common.{ap, ◌∙◌, arith, Option, Some, None, Result, Ok, Err, if◌then◌else◌, subst, true≢false, chars}
use Rattle.std.specs.List.{list_all}
use Rattle.std.specs.Str.{is_utf8}
use Rattle.std.specs.Prelude.{codes}
use Rattle.std.proofs.lemmas.List.{take-append-le}
use Rattle.std.proofs.Math.Nat.{le-max_left, le-max_right}
use Rattle.std.proofs.lemmas.Bool.Decides.{nat_tests}
use Rattle.inv_base.specs.Characters.{is_char}
use Rattle.xml_tokens.specs.declared.encoding.Begun.{Begun}
use Rattle.xml_tokens.specs.declared.encoding.Begun.TheVariants as begun
use Rattle.xml_tokens.specs.declared.kind.XmlKind.{XmlKind}
use Rattle.xml_tokens.specs.declared.kind.XmlKind.TheVariants.{TagTooLong, NotUtf8, BadChar, Doctype, BadMarkup}
use Rattle.xml_tokens.specs.Searches.{begins_with, ends_inside, shared_front, place_of, TagEnd, behind, none_within, none_yet, tag_end}
use Rattle.xml_tokens.specs.Encoding as encoding
use Rattle.xml_tokens.specs.References.{reference_at}
use Rattle.xml_tokens.specs.Markup.{Token, a_mark, a_character, comment, section, instruction}
use Rattle.xml_tokens.specs.Tags.{tag}
use Rattle.xml_tokens.specs.Beginnings.{Beginning, good, bad, later, may_declare, of_length, extent, extent_through, tag_at, comment_or_section_at, markup_at}
use Rattle.xml_tokens.specs.Beginnings.{reference_token, bracket_at, line_end_at, character_token, begins_with_mark, beginning, greatest_tag, sure_length}
use Rattle.xml_tokens.specs.declared.beginning.Position.{Position}
use Rattle.xml_tokens.specs.declared.beginning.Position.TheVariants.{AtStart, BehindMark, Farther}
use Rattle.xml_tokens.proofs.ScannerLemmas as scan
use Rattle.xml_tokens.proofs.ReferenceLemmas.{reference-stays}

abbrev pub From : ℕ → Beginning → Type 0
From k (good token n) = k ≤ n
From k (bad kind n) = k ≤ n
From k later = Unit {0}

pub data Stays : ℕ → Beginning → Beginning → Type 0 where
  same : (k : ℕ) (x : Beginning) → Stays k x x
  goes_on : (k : ℕ) (m : Beginning) → From k m → Stays k later m

abbrev pub Within : ℕ → Beginning → Type 0
Within k (good token n) = (1 ≤ n) × (n ≤ k)
Within k (bad kind n) = Unit {0}
Within k later = Unit {0}

from-weaker : (k l : ℕ) → k ≤ l → (x : Beginning) → From l x → From k x
from-weaker k l h (good token n) f = let g : l ≤ n = f in omega arith
from-weaker k l h (bad kind n) f = let g : l ≤ n = f in omega arith
from-weaker k l h later f = tt

stays-weaker : (k l : ℕ) → k ≤ l → (x y : Beginning) → Stays l x y → Stays k x y
stays-weaker k l h x y (same l' z) = same k x
stays-weaker k l h x y (goes_on l' m f) = goes_on k y (from-weaker k l h y f)

of-length-from : (k n : ℕ) → k ≤ n → (r : Result Token XmlKind) → From k (of_length n r)
of-length-from k n h (Ok token) = h
of-length-from k n h (Err kind) = h

pub extent-from : (k n : ℕ) (inside : List ℕ) (grammar : List ℕ → Result Token XmlKind) → k ≤ n → From k (extent n inside grammar)
unfolding extent
extent-from k n inside grammar h = by (is_utf8 inside) (list_all is_char (chars inside))
  where
    by : (t u : Bool) → From k (elim t [ false ↦ bad NotUtf8 n | true ↦ elim u [ false ↦ bad BadChar n | true ↦ of_length n (grammar inside) ] ])
    by false u = h
    by true false = h
    by true true = of-length-from k n h (grammar inside)

module _ (c : ℕ) (string : List ℕ) (opening : ℕ) (grammar : List ℕ → Result Token XmlKind) where
  through : Option ℕ → List ℕ → Beginning
  through x bytes = elim x [ None ↦ later | (Some n) ↦ extent (opening + (n + length (c ∷ string))) (take n bytes) grammar ]

  pub through-from : (k : ℕ) (bytes : List ℕ) → k ≤ opening + length (c ∷ string) → From k (extent_through (c ∷ string) opening bytes grammar)
  through-from k bytes h = by (place_of (c ∷ string) bytes)
    where
      by : (x : Option ℕ) → From k (elim x [ None ↦ later | (Some n) ↦ extent (opening + (n + length (c ∷ string))) (take n bytes) grammar ])
      by None = tt
      by (Some n) = extent-from k (opening + (n + length (c ∷ string))) (take n bytes) grammar (omega arith)

  pub through-stays : (a b : List ℕ) → Stays (opening + length a) (extent_through (c ∷ string) opening a grammar)
      (extent_through (c ∷ string) opening (a ++ b) grammar)
  through-stays a b = by (place_of (c ∷ string) a) (place_of (c ∷ string) (a ++ b)) (scan.place-stays c string a b)
    where
      by : (x y : Option ℕ) → scan.PlaceStays (c ∷ string) (length a) x y
          → Stays (opening + length a) (elim x [ None ↦ later | (Some n) ↦ extent (opening + (n + length (c ∷ string))) (take n a) grammar ])
          (elim y [ None ↦ later | (Some n) ↦ extent (opening + (n + length (c ∷ string))) (take n (a ++ b)) grammar ])
      by x y (scan.found n h) =
          let front : take n (a ++ b) ≡ take n a = take-append-le n a b (omega arith) in
          subst (λ inside. Stays (opening + length a) (extent (opening + (n + length (c ∷ string))) (take n a) grammar)
          (extent (opening + (n + length (c ∷ string))) inside grammar)) (sym front)
          (same (opening + length a) (extent (opening + (n + length (c ∷ string))) (take n a) grammar))
      by x y scan.nowhere = same (opening + length a) later
      by x y (scan.found_later n h) = goes_on (opening + length a) _
          (extent-from (opening + length a) (opening + (n + length (c ∷ string))) (take n (a ++ b)) grammar (omega arith))

pub tag-stays : (a b : List ℕ) → Stays (1 + length a) (tag_at a) (tag_at (a ++ b))
tag-stays a b = by (tag_end a None (pred greatest_tag)) (tag_end (a ++ b) None (pred greatest_tag)) (scan.end-stays a b None (pred greatest_tag))
  where
    by : (x y : TagEnd) → scan.EndStays (length a) (pred greatest_tag) x y
        → Stays (1 + length a) (elim x [ none_within ↦ bad TagTooLong greatest_tag | none_yet ↦ later | (behind n) ↦ extent (n + 2) (take n a) tag ])
        (elim y [ none_within ↦ bad TagTooLong greatest_tag | none_yet ↦ later | (behind n) ↦ extent (n + 2) (take n (a ++ b)) tag ])
    by x y (scan.end_found k room n h) =
        let front : take n (a ++ b) ≡ take n a = take-append-le n a b (omega arith) in
        subst (λ inside. Stays (1 + length a) (extent (n + 2) (take n a) tag) (extent (n + 2) inside tag)) (sym front)
        (same (1 + length a) (extent (n + 2) (take n a) tag))
    by x y (scan.end_too_far k room) = same (1 + length a) (bad TagTooLong greatest_tag)
    by x y (scan.end_goes_on k room (behind n) f) = let g : length a ≤ n = f in
        goes_on (1 + length a) (extent (n + 2) (take n (a ++ b)) tag) (extent-from (1 + length a) (n + 2) (take n (a ++ b)) tag (omega arith))
    by x y (scan.end_goes_on k room none_within f) = let g : length a ≤ 262143 = f in goes_on (1 + length a) (bad TagTooLong greatest_tag) (omega arith)
    by x y (scan.end_goes_on k room none_yet f) = same (1 + length a) later

bracket-from : (t u : Bool) → From 1 (elim t [ true ↦ bad BadMarkup 3 | false ↦ elim u [ true ↦ later | false ↦ good (a_character 0x5D) 1 ] ])
bracket-from true u = omega arith
bracket-from false true = tt
bracket-from false false = omega arith

pub bracket-stays : (e : Bool) (a b : List ℕ) → Stays 1 (bracket_at false a) (bracket_at e (a ++ b))
bracket-stays e a b = by (begins_with (codes "]>") a) (begins_with (codes "]>") (a ++ b)) (ends_inside (codes "]>") a) (ends_inside (codes "]>") (a ++ b))
    (scan.begins-append (codes "]>") a b) (λ h g. let r = scan.begins-never (codes "]>") a b h g in (r.0, r.1))
  where
    last : (e : Bool) → Stays 1 (good (a_character 0x5D) 1) (elim (not e && false) [ true ↦ later | false ↦ good (a_character 0x5D) 1 ])
    last true = same 1 (good (a_character 0x5D) 1)
    last false = same 1 (good (a_character 0x5D) 1)

    by : (t t' u u' : Bool) → (t ≡ true → t' ≡ true) → (t ≡ false → u ≡ false → (t' ≡ false) × (u' ≡ false))
        → Stays 1 (elim t [ true ↦ bad BadMarkup 3 | false ↦ elim u [ true ↦ later | false ↦ good (a_character 0x5D) 1 ] ])
        (elim t' [ true ↦ bad BadMarkup 3 | false ↦ elim (not e && u') [ true ↦ later | false ↦ good (a_character 0x5D) 1 ] ])
    by true true u u' h g = same 1 (bad BadMarkup 3)
    by true false u u' h g = absurd (true≢false (sym (h refl)))
    by false t' true u' h g = goes_on 1 _ (bracket-from t' (not e && u'))
    by false false false false h g = last e
    by false true false u' h g = absurd (true≢false (g refl refl).0)
    by false false false true h g = absurd (true≢false (g refl refl).1)

pub line-end-stays : (e : Bool) (a b : List ℕ) → Stays (1 + length a) (line_end_at false a) (line_end_at e (a ++ b))
line-end-stays e [] b = goes_on 1 (line_end_at e b) (by e b)
  where
    by : (e : Bool) (b : List ℕ) → From 1 (line_end_at e b)
    by true [] = omega arith
    by false [] = tt
    by e (c ∷ b) = by_feed (c == 0xA)
      where
        by_feed : (t : Bool) → From 1 (elim t [ true ↦ good (a_character 0xA) 2 | false ↦ good (a_character 0xA) 1 ])
        by_feed true = omega arith
        by_feed false = omega arith
line-end-stays e (c ∷ a) b = same (1 + length (c ∷ a)) (line_end_at false (c ∷ a))

pub reference-token-stays : (a b : List ℕ) → Stays (1 + length a) (reference_token (reference_at a)) (reference_token (reference_at (a ++ b)))
reference-token-stays a b = by (reference_at a) (reference_at (a ++ b)) (reference-stays a b)
  where
    by : (x y : Begun ℕ) → scan.BegunStays (1 + length a) x y → Stays (1 + length a) (reference_token x) (reference_token y)
    by x y (scan.same k z) = same (1 + length a) (reference_token x)
    by x y (scan.goes_on k (begun.Character c n) f) = goes_on (1 + length a) (reference_token y) f
    by x y (scan.goes_on k (begun.Broken n) f) = goes_on (1 + length a) (reference_token y) f
    by x y (scan.goes_on k begun.Unfinished f) = same (1 + length a) later

pub character-token-stays : (c : ℕ) (a b : List ℕ) → Stays (1 + length a) (character_token (encoding.character_at c a))
    (character_token (encoding.character_at c (a ++ b)))
character-token-stays c a b = by (encoding.character_at c a) (encoding.character_at c (a ++ b)) (scan.character-stays c a b)
  where
    of : (c n k : ℕ) → k ≤ n → From k (character_token (begun.Character c n))
    of c n k h = by_char (is_char c)
      where
        by_char : (t : Bool) → From k (elim t [ true ↦ good (a_character c) n | false ↦ bad BadChar n ])
        by_char true = h
        by_char false = h

    by : (x y : Begun ℕ) → scan.BegunStays (1 + length a) x y → Stays (1 + length a) (character_token x) (character_token y)
    by x y (scan.same k z) = same (1 + length a) (character_token x)
    by x y (scan.goes_on k (begun.Character c n) f) = goes_on (1 + length a) (character_token y) (of c n (1 + length a) f)
    by x y (scan.goes_on k (begun.Broken n) f) = goes_on (1 + length a) (character_token y) f
    by x y (scan.goes_on k begun.Unfinished f) = same (1 + length a) later

-- What begins with `<!`.
drop-append : (string a b : List ℕ) → begins_with string a ≡ true → drop (length string) (a ++ b) ≡ drop (length string) a ++ b
drop-append [] a b h = refl
drop-append (c ∷ string) [] b h = absurd (true≢false (sym h))
drop-append (c ∷ string) (d ∷ a) b h = by (d == c) h (drop-append string a b)
  where
    by : (t : Bool) → (t && begins_with string a) ≡ true → (begins_with string a ≡ true → drop (length string) (a ++ b) ≡ drop (length string) a ++ b) →
        drop (length string) (a ++ b) ≡ drop (length string) a ++ b
    by true h rest = rest h
    by false h rest = absurd (true≢false (sym h))

pub drop-length : (string a : List ℕ) → begins_with string a ≡ true → length (drop (length string) a) + length string ≡ length a
drop-length [] a h = omega arith
drop-length (c ∷ string) [] h = absurd (true≢false (sym h))
drop-length (c ∷ string) (d ∷ a) h = by (d == c) h (drop-length string a)
  where
    by : (t : Bool) → (t && begins_with string a) ≡ true → (begins_with string a ≡ true → length (drop (length string) a) + length string ≡ length a) →
        length (drop (length string) a) + suc (length string) ≡ suc (length a)
    by true h rest = let r : length (drop (length string) a) + length string ≡ length a = rest h in omega arith
    by false h rest = absurd (true≢false (sym h))

abbrev pub front_1 : List ℕ
front_1 = codes "--"

abbrev pub front_2 : List ℕ
front_2 = codes "[CDATA["

abbrev pub front_3 : List ℕ
front_3 = codes "DOCTYPE"

-- the choice by the three fronts
abbrev pub choice : Bool → Bool → Bool → Bool → ℕ → List ℕ → Beginning
choice t1 t2 t3 inside n bytes = elim t1 [
  | true ↦ extent_through (codes "-->") 4 (drop 2 bytes) comment
  | false ↦ elim t2 [
    | true ↦ extent_through (codes "]]>") 9 (drop 7 bytes) section
    | false ↦ elim t3 [ true ↦ bad Doctype 9 | false ↦ elim inside [ true ↦ later | false ↦ bad BadMarkup (3 + n) ] ]
  ]
]

abbrev pub shared : List ℕ → ℕ
shared bytes = max (shared_front front_1 bytes) (max (shared_front front_2 bytes) (shared_front front_3 bytes))

abbrev pub inside_one : List ℕ → Bool
inside_one bytes = ends_inside front_1 bytes || (ends_inside front_2 bytes || ends_inside front_3 bytes)

-- one of the three is true
one_of : (x y z : Bool) {P : Type 0} → (x ≡ true → P) → (y ≡ true → P) → (z ≡ true → P) → (x || (y || z)) ≡ true → P
one_of true y z f g h e = f refl
one_of false true z f g h e = g refl
one_of false false true f g h e = h refl
one_of false false false f g h e = absurd (true≢false (sym e))

-- none is
none_of : (x y z : Bool) → (x || (y || z)) ≡ false → (x ≡ false) × (y ≡ false) × (z ≡ false)
none_of false false false e = (refl, refl, refl)
none_of true y z e = absurd (true≢false e)
none_of false true z e = absurd (true≢false e)
none_of false false true e = absurd (true≢false e)

shared-long : (a b : List ℕ) → inside_one a ≡ true → length a ≤ shared (a ++ b)
shared-long a b h =
    let m1 : shared_front front_1 (a ++ b) ≤ shared (a ++ b) = le-max_left _ _ in
    let m : max (shared_front front_2 (a ++ b)) (shared_front front_3 (a ++ b)) ≤ shared (a ++ b) = le-max_right _ _ in
    let m2 : shared_front front_2 (a ++ b) ≤ max (shared_front front_2 (a ++ b)) (shared_front front_3 (a ++ b)) = le-max_left _ _ in
    let m3 : shared_front front_3 (a ++ b) ≤ max (shared_front front_2 (a ++ b)) (shared_front front_3 (a ++ b)) = le-max_right _ _ in
    one_of (ends_inside front_1 a) (ends_inside front_2 a) (ends_inside front_3 a)
    (λ e. let r : length a ≤ shared_front front_1 (a ++ b) = scan.shared-inside front_1 a b e in omega arith)
    (λ e. let r : length a ≤ shared_front front_2 (a ++ b) = scan.shared-inside front_2 a b e in omega arith)
    (λ e. let r : length a ≤ shared_front front_3 (a ++ b) = scan.shared-inside front_3 a b e in omega arith) h

-- nothing yet: whatever it becomes ends behind the bytes
choice-from : (a : List ℕ) (t1 t2 t3 inside : Bool) (n : ℕ) (bytes : List ℕ) → (t1 ≡ true → suc (length a) ≤ 2) → (t2 ≡ true → suc (length a) ≤ 7) →
    (t3 ≡ true → suc (length a) ≤ 7) → length a ≤ n → From (2 + length a) (choice t1 t2 t3 inside n bytes)
choice-from a true t2 t3 inside n bytes f g h l = let r : suc (length a) ≤ 2 = f refl in
    through-from 0x2D (codes "->") 4 comment (2 + length a) (drop 2 bytes) (omega arith)
choice-from a false true t3 inside n bytes f g h l = let r : suc (length a) ≤ 7 = g refl in
    through-from 0x5D (codes "]>") 9 section (2 + length a) (drop 7 bytes) (omega arith)
choice-from a false false true inside n bytes f g h l = let r : suc (length a) ≤ 7 = h refl in omega arith
choice-from a false false false true n bytes f g h l = tt
choice-from a false false false false n bytes f g h l = omega arith

-- a string that long bytes don't begin with stays so
never_of : (string a b : List ℕ) → length string ≤ length a → begins_with string a ≡ false → begins_with string (a ++ b) ≡ false
never_of string a b long h = by (begins_with string (a ++ b)) refl
  where
    by : (t : Bool) → begins_with string (a ++ b) ≡ t → t ≡ false
    by false e = refl
    by true e = let r : suc (length a) ≤ length string = scan.begins-longer string a b h e in absurd (omega arith)

pub opened-stays : (a b : List ℕ) → Stays (2 + length a) (comment_or_section_at a) (comment_or_section_at (a ++ b))
opened-stays a b = by (begins_with front_1 a) (begins_with front_2 a) (begins_with front_3 a) (inside_one a) refl refl refl refl
  where
    by : (t1 t2 t3 inside : Bool) → begins_with front_1 a ≡ t1 → begins_with front_2 a ≡ t2 → begins_with front_3 a ≡ t3 → inside_one a ≡ inside
        → Stays (2 + length a) (choice t1 t2 t3 inside (shared a) a) (comment_or_section_at (a ++ b))
    by true t2 t3 inside h1 h2 h3 hi =
        let is : begins_with front_1 (a ++ b) ≡ true = scan.begins-append front_1 a b h1 in
        let k : length (drop 2 a) + 2 ≡ length a = drop-length front_1 a h1 in
        let right : comment_or_section_at (a ++ b) ≡ extent_through (codes "-->") 4 (drop 2 a ++ b) comment
        = ap (λ t. choice t (begins_with front_2 (a ++ b)) (begins_with front_3 (a ++ b)) (inside_one (a ++ b)) (shared (a ++ b)) (a ++ b)) is
        ∙ ap (λ bytes. extent_through (codes "-->") 4 bytes comment) (drop-append front_1 a b h1) in
        subst (λ y. Stays (2 + length a) (extent_through (codes "-->") 4 (drop 2 a) comment) y) (sym right)
        (stays-weaker (2 + length a) (4 + length (drop 2 a)) (omega arith) _ _ (through-stays 0x2D (codes "->") 4 comment (drop 2 a) b))
    by false true t3 inside h1 h2 h3 hi =
        let long : 7 ≤ length a = scan.begins-length front_2 a h2 in
        let not_first : begins_with front_1 (a ++ b) ≡ false = never_of front_1 a b (omega arith) h1 in
        let is : begins_with front_2 (a ++ b) ≡ true = scan.begins-append front_2 a b h2 in
        let k : length (drop 7 a) + 7 ≡ length a = drop-length front_2 a h2 in
        let right : comment_or_section_at (a ++ b) ≡ extent_through (codes "]]>") 9 (drop 7 a ++ b) section
        = ap (λ t. choice t (begins_with front_2 (a ++ b)) (begins_with front_3 (a ++ b)) (inside_one (a ++ b)) (shared (a ++ b)) (a ++ b)) not_first
        ∙ (ap (λ t. choice false t (begins_with front_3 (a ++ b)) (inside_one (a ++ b)) (shared (a ++ b)) (a ++ b)) is
        ∙ ap (λ bytes. extent_through (codes "]]>") 9 bytes section) (drop-append front_2 a b h2)) in
        subst (λ y. Stays (2 + length a) (extent_through (codes "]]>") 9 (drop 7 a) section) y) (sym right)
        (stays-weaker (2 + length a) (9 + length (drop 7 a)) (omega arith) _ _ (through-stays 0x5D (codes "]>") 9 section (drop 7 a) b))
    by false false true inside h1 h2 h3 hi =
        let long : 7 ≤ length a = scan.begins-length front_3 a h3 in
        let not_first : begins_with front_1 (a ++ b) ≡ false = never_of front_1 a b (omega arith) h1 in
        let not_second : begins_with front_2 (a ++ b) ≡ false = never_of front_2 a b (omega arith) h2 in
        let is : begins_with front_3 (a ++ b) ≡ true = scan.begins-append front_3 a b h3 in
        let right : comment_or_section_at (a ++ b) ≡ bad Doctype 9
        = ap (λ t. choice t (begins_with front_2 (a ++ b)) (begins_with front_3 (a ++ b)) (inside_one (a ++ b)) (shared (a ++ b)) (a ++ b)) not_first
        ∙ (ap (λ t. choice false t (begins_with front_3 (a ++ b)) (inside_one (a ++ b)) (shared (a ++ b)) (a ++ b)) not_second
        ∙ ap (λ t. choice false false t (inside_one (a ++ b)) (shared (a ++ b)) (a ++ b)) is) in
        subst (λ y. Stays (2 + length a) (bad Doctype 9) y) (sym right) (same (2 + length a) (bad Doctype 9))
    by false false false true h1 h2 h3 hi =
        goes_on (2 + length a) (comment_or_section_at (a ++ b))
        (choice-from a (begins_with front_1 (a ++ b)) (begins_with front_2 (a ++ b)) (begins_with front_3 (a ++ b)) (inside_one (a ++ b)) (shared (a ++ b))
        (a ++ b)
        (scan.begins-longer front_1 a b h1) (scan.begins-longer front_2 a b h2) (scan.begins-longer front_3 a b h3) (shared-long a b hi))
    by false false false false h1 h2 h3 hi =
        let none = none_of (ends_inside front_1 a) (ends_inside front_2 a) (ends_inside front_3 a) hi in
        let n1 = scan.begins-never front_1 a b h1 none.0 in
        let n2 = scan.begins-never front_2 a b h2 none.1 in
        let n3 = scan.begins-never front_3 a b h3 none.2 in
        let right : comment_or_section_at (a ++ b) ≡ bad BadMarkup (3 + shared a)
        = ap (λ t. choice t (begins_with front_2 (a ++ b)) (begins_with front_3 (a ++ b)) (inside_one (a ++ b)) (shared (a ++ b)) (a ++ b)) n1.0
        ∙ (ap (λ t. choice false t (begins_with front_3 (a ++ b)) (inside_one (a ++ b)) (shared (a ++ b)) (a ++ b)) n2.0
        ∙ (ap (λ t. choice false false t (inside_one (a ++ b)) (shared (a ++ b)) (a ++ b)) n3.0
        ∙ (ap (λ t. choice false false false (t || (ends_inside front_2 (a ++ b) || ends_inside front_3 (a ++ b))) (shared (a ++ b)) (a ++ b)) n1.1
        ∙ (ap (λ t. choice false false false (t || ends_inside front_3 (a ++ b)) (shared (a ++ b)) (a ++ b)) n2.1
        ∙ (ap (λ t. choice false false false t (shared (a ++ b)) (a ++ b)) n3.1
        ∙ (ap (λ n. bad BadMarkup (3 + max n (max (shared_front front_2 (a ++ b)) (shared_front front_3 (a ++ b))))) n1.2
        ∙ (ap (λ n. bad BadMarkup (3 + max (shared_front front_1 a) (max n (shared_front front_3 (a ++ b))))) n2.2
        ∙ ap (λ n. bad BadMarkup (3 + max (shared_front front_1 a) (max (shared_front front_2 a) n))) n3.2))))))) in
        subst (λ y. Stays (2 + length a) (bad BadMarkup (3 + shared a)) y) (sym right) (same (2 + length a) (bad BadMarkup (3 + shared a)))

tag-from : (bytes : List ℕ) → From 1 (tag_at bytes)
tag-from bytes = by (tag_end bytes None (pred greatest_tag))
  where
    by : (x : TagEnd) → From 1 (elim x [ none_within ↦ bad TagTooLong greatest_tag | none_yet ↦ later | (behind n) ↦ extent (n + 2) (take n bytes) tag ])
    by none_within = omega arith
    by none_yet = tt
    by (behind n) = extent-from 1 (n + 2) (take n bytes) tag (omega arith)

opened-from : (bytes : List ℕ) → From 1 (comment_or_section_at bytes)
opened-from bytes = from-weaker 1 2 (omega arith) (comment_or_section_at bytes)
    (choice-from [] (begins_with front_1 bytes) (begins_with front_2 bytes) (begins_with front_3 bytes) (inside_one bytes) (shared bytes) bytes
    (λ _. omega arith) (λ _. omega arith) (λ _. omega arith) (omega arith))

markup-from : (p : Position) (bytes : List ℕ) → From 1 (markup_at p bytes)
markup-from p [] = tt
markup-from p (d ∷ bytes) = by (d == 0x21) (d == 0x3F)
  where
    by : (t u : Bool) → From 1 (elim t [
      | true ↦ comment_or_section_at bytes
      | false ↦ elim u [ true ↦ extent_through (codes "?>") 2 bytes (instruction (may_declare p)) | false ↦ tag_at (d ∷ bytes) ]
    ])
    by true u = opened-from bytes
    by false true = through-from 0x3F (codes ">") 2 (instruction (may_declare p)) 1 bytes (omega arith)
    by false false = tag-from (d ∷ bytes)

pub markup-stays : (p : Position) (a b : List ℕ) → Stays (1 + length a) (markup_at p a) (markup_at p (a ++ b))
markup-stays p [] b = goes_on 1 (markup_at p b) (markup-from p b)
markup-stays p (d ∷ a) b = by (d == 0x21) (d == 0x3F)
  where
    by : (t u : Bool) → Stays (1 + length (d ∷ a))
        (elim t [
          | true ↦ comment_or_section_at a
          | false ↦ elim u [
            | true ↦ extent_through (codes "?>") 2 a (instruction (may_declare p))
            | false ↦ tag_at (d ∷ a)
          ]
        ])
        (elim t [
          | true ↦ comment_or_section_at (a ++ b)
          | false ↦ elim u [
            | true ↦ extent_through (codes "?>") 2 (a ++ b) (instruction (may_declare p))
            | false ↦ tag_at (d ∷ (a ++ b))
          ]
        ])
    by true u = stays-weaker (1 + length (d ∷ a)) (2 + length a) (omega arith) _ _ (opened-stays a b)
    by false true = stays-weaker (1 + length (d ∷ a)) (2 + length a) (omega arith) _ _ (through-stays 0x3F (codes ">") 2 (instruction (may_declare p)) a b)
    by false false = tag-stays (d ∷ a) b

-- the mark, or a character
abbrev pub mark_or : Bool → ℕ → List ℕ → Beginning
mark_or t c bytes = elim t [ true ↦ good a_mark 3 | false ↦ character_token (encoding.character_at c bytes) ]

abbrev pub the_mark : List ℕ
the_mark = 0xEF ∷ 0xBB ∷ 0xBF ∷ []

-- a front of the mark is no character yet
mark-unfinished : (c : ℕ) (a b : List ℕ) → suc (length (c ∷ a)) ≤ 3 → begins_with the_mark (c ∷ (a ++ b)) ≡ true → encoding.character_at c a ≡ begun.Unfinished
unfolding encoding.character_at
mark-unfinished c [] b l h = ap (λ x. encoding.character_at x []) (same_number c 0xEF (both (c == 0xEF) _ h).0)
  where
    both : (x y : Bool) → (x && y) ≡ true → (x ≡ true) × (y ≡ true)
    both true y e = (refl, e)
    both false y e = absurd (true≢false (sym e))

    same_number : (n m : ℕ) → (n == m) ≡ true → n ≡ m
    same_number n m e = grind (arith, nat_tests)
mark-unfinished c (d ∷ []) b l h =
    let first = both (c == 0xEF) _ h in
    let second = both (d == 0xBB) _ first.1 in
    ap (λ x. encoding.character_at x (d ∷ [])) (same_number c 0xEF first.0) ∙ ap (λ y. encoding.character_at 0xEF (y ∷ [])) (same_number d 0xBB second.0)
  where
    both : (x y : Bool) → (x && y) ≡ true → (x ≡ true) × (y ≡ true)
    both true y e = (refl, e)
    both false y e = absurd (true≢false (sym e))

    same_number : (n m : ℕ) → (n == m) ≡ true → n ≡ m
    same_number n m e = grind (arith, nat_tests)
mark-unfinished c (d ∷ (d' ∷ a)) b l h = absurd (omega arith)

mark-stays : (p : Position) (c : ℕ) (a b : List ℕ) → Stays (1 + length a) (mark_or (begins_with_mark p (c ∷ a)) c a)
    (mark_or (begins_with_mark p (c ∷ (a ++ b))) c (a ++ b))
mark-stays BehindMark c a b = character-token-stays c a b
mark-stays Farther c a b = character-token-stays c a b
mark-stays AtStart c a b = by (begins_with the_mark (c ∷ a)) (begins_with the_mark (c ∷ (a ++ b))) refl refl
  where
    by : (t u : Bool) → begins_with the_mark (c ∷ a) ≡ t → begins_with the_mark (c ∷ (a ++ b)) ≡ u → Stays (1 + length a) (mark_or t c a) (mark_or u c (a ++ b))
    by true true g h = same (1 + length a) (good a_mark 3)
    by true false g h = absurd (true≢false (sym (scan.begins-append the_mark (c ∷ a) b g) ∙ h))
    by false false g h = character-token-stays c a b
    by false true g h =
        let short : suc (length (c ∷ a)) ≤ 3 = scan.begins-longer the_mark (c ∷ a) b g h in
        subst (λ x. Stays (1 + length a) (character_token x) (good a_mark 3)) (sym (mark-unfinished c a b short h))
        (goes_on (1 + length a) (good a_mark 3) (omega arith))

pub beginning-stays : (p : Position) (e : Bool) (c : ℕ) (a b : List ℕ) → Stays (sure_length c a) (beginning p false (c ∷ a)) (beginning p e (c ∷ (a ++ b)))
unfolding beginning
beginning-stays p e c a b = by (c == 0x3C) (c == 0x26) (c == 0x5D) (c == 0xD)
  where
    sure : Bool → ℕ
    sure t = if t then 1 else 1 + length a

    less : (t : Bool) → (if t then 1 else 1 + length a) ≤ 1 + length a
    less true = omega arith
    less false = omega arith

    by : (t1 t2 t3 t4 : Bool) → Stays (if t3 then 1 else 1 + length a)
        (elim t1 [
          | true ↦ markup_at p a
          | false ↦ elim t2 [
            | true ↦ reference_token (reference_at a)
            | false ↦ elim t3 [ true ↦ bracket_at false a | false ↦ elim t4 [ true ↦ line_end_at false a | false ↦ mark_or (begins_with_mark p (c ∷ a)) c a ] ]
          ]
        ])
        (elim t1 [
          | true ↦ markup_at p (a ++ b)
          | false ↦ elim t2 [
            | true ↦ reference_token (reference_at (a ++ b))
            | false ↦ elim t3 [
              | true ↦ bracket_at e (a ++ b)
              | false ↦ elim t4 [ true ↦ line_end_at e (a ++ b) | false ↦ mark_or (begins_with_mark p (c ∷ (a ++ b))) c (a ++ b) ]
            ]
          ]
        ])
    by true t2 t3 t4 = stays-weaker _ (1 + length a) (less t3) _ _ (markup-stays p a b)
    by false true t3 t4 = stays-weaker _ (1 + length a) (less t3) _ _ (reference-token-stays a b)
    by false false true t4 = bracket-stays e a b
    by false false false true = line-end-stays e a b
    by false false false false = mark-stays p c a b
