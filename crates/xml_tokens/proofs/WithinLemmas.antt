-- A token that begins at a front of the bytes takes at least one of them, and no more than there are.
use Rattle.std.proofs.Common.{◌≡◌, ℕ, zero, suc, pred, ◌+◌, ◌-◌, ◌*◌, ◌≤◌, ◌==◌, nat_lt, Bool, true, false, List, [], ◌∷◌, ◌++◌, length, take, drop, refl, ap}
use Rattle.std.proofs.Common.{arith, Option, Some, None, Result, Ok, Err, if◌then◌else◌, chars}
use Rattle.std.specs.List.{list_all}
use Rattle.std.specs.Str.{is_utf8}
use Rattle.std.specs.Prelude.{codes}
use Rattle.inv_base.specs.Characters.{is_char, is_within}
use Rattle.xml_tokens.specs.declared.encoding.Begun.{Begun}
use Rattle.xml_tokens.specs.declared.encoding.Begun.TheVariants as begun
use Rattle.xml_tokens.specs.declared.kind.XmlKind.{XmlKind}
use Rattle.xml_tokens.specs.declared.kind.XmlKind.TheVariants.{TagTooLong, NotUtf8, BadChar, BadMarkup}
use Rattle.xml_tokens.specs.Searches.{begins_with, ends_inside, place_of, TagEnd, behind, none_within, none_yet, tag_end}
use Rattle.xml_tokens.specs.Encoding as encoding
use Rattle.xml_tokens.specs.References.{reference_body, refers, referred, reference_at, greatest_reference}
use Rattle.xml_tokens.specs.Markup.{Token, a_character, comment, section, instruction}
use Rattle.xml_tokens.specs.Tags.{tag}
use Rattle.xml_tokens.specs.Beginnings.{Beginning, good, bad, later, may_declare, of_length, extent, extent_through, tag_at, comment_or_section_at, markup_at}
use Rattle.xml_tokens.specs.Beginnings.{reference_token, bracket_at, line_end_at, character_token, begins_with_mark, beginning, greatest_tag}
use Rattle.xml_tokens.specs.declared.beginning.Position.{Position}
use Rattle.xml_tokens.specs.declared.beginning.Position.TheVariants.{AtStart, BehindMark, Farther}
use Rattle.xml_tokens.proofs.ScannerLemmas as scan
use Rattle.xml_tokens.proofs.BeginningLemmas.{Within, choice, front_1, front_2, front_3, inside_one, shared, drop-length, mark_or, the_mark}

within-more : (k l : ℕ) → k ≤ l → (x : Beginning) → Within k x → Within l x
within-more k l h (good token n) w = let g : n ≤ k = w.1 in (w.0, omega arith)
within-more k l h (bad kind n) w = tt
within-more k l h later w = tt

of-length-within : (k n : ℕ) → 1 ≤ n → n ≤ k → (r : Result Token XmlKind) → Within k (of_length n r)
of-length-within k n h g (Ok token) = (h, g)
of-length-within k n h g (Err kind) = tt

extent-within : (k n : ℕ) (inside : List ℕ) (grammar : List ℕ → Result Token XmlKind) → 1 ≤ n → n ≤ k → Within k (extent n inside grammar)
unfolding extent
extent-within k n inside grammar h g = by (is_utf8 inside) (list_all is_char (chars inside))
  where
    by : (t u : Bool) → Within k (elim t [ false ↦ bad NotUtf8 n | true ↦ elim u [ false ↦ bad BadChar n | true ↦ of_length n (grammar inside) ] ])
    by false u = tt
    by true false = tt
    by true true = of-length-within k n h g (grammar inside)

through-within : (c : ℕ) (string : List ℕ) (opening : ℕ) (grammar : List ℕ → Result Token XmlKind) (bytes : List ℕ) →
    Within (opening + length bytes) (extent_through (c ∷ string) opening bytes grammar)
through-within c string opening grammar bytes = by (place_of (c ∷ string) bytes) (place_of (c ∷ string) (bytes ++ [])) (scan.place-stays c string bytes [])
  where
    by : (x y : Option ℕ) → scan.PlaceStays (c ∷ string) (length bytes) x y →
        Within (opening + length bytes) (elim x [ None ↦ later | (Some n) ↦ extent (opening + (n + length (c ∷ string))) (take n bytes) grammar ])
    by x y (scan.found n h) = extent-within (opening + length bytes) (opening + (n + length (c ∷ string))) (take n bytes) grammar (omega arith) (omega arith)
    by x y scan.nowhere = tt
    by x y (scan.found_later n h) = tt

tag-within : (bytes : List ℕ) → Within (1 + length bytes) (tag_at bytes)
tag-within bytes = by (tag_end bytes None (pred greatest_tag)) (tag_end (bytes ++ []) None (pred greatest_tag))
    (scan.end-stays bytes [] None (pred greatest_tag))
  where
    by : (x y : TagEnd) → scan.EndStays (length bytes) (pred greatest_tag) x y →
        Within (1 + length bytes) (elim x [ none_within ↦ bad TagTooLong greatest_tag | none_yet ↦ later | (behind n) ↦ extent (n + 2) (take n bytes) tag ])
    by x y (scan.end_found k room n h) = extent-within (1 + length bytes) (n + 2) (take n bytes) tag (omega arith) (omega arith)
    by x y (scan.end_too_far k room) = tt
    by x y (scan.end_goes_on k room m f) = tt

opened-within : (a : List ℕ) → Within (2 + length a) (comment_or_section_at a)
opened-within a = by (begins_with front_1 a) (begins_with front_2 a) (begins_with front_3 a) (inside_one a) refl refl
  where
    by : (t1 t2 t3 inside : Bool) → begins_with front_1 a ≡ t1 → begins_with front_2 a ≡ t2 → Within (2 + length a) (choice t1 t2 t3 inside (shared a) a)
    by true t2 t3 inside h g = let k : length (drop 2 a) + 2 ≡ length a = drop-length front_1 a h in
        within-more (4 + length (drop 2 a)) (2 + length a) (omega arith) _ (through-within 0x2D (codes "->") 4 comment (drop 2 a))
    by false true t3 inside h g = let k : length (drop 7 a) + 7 ≡ length a = drop-length front_2 a g in
        within-more (9 + length (drop 7 a)) (2 + length a) (omega arith) _ (through-within 0x5D (codes "]>") 9 section (drop 7 a))
    by false false true inside h g = tt
    by false false false true h g = tt
    by false false false false h g = tt

markup-within : (p : Position) (a : List ℕ) → Within (1 + length a) (markup_at p a)
markup-within p [] = tt
markup-within p (d ∷ a) = by (d == 0x21) (d == 0x3F)
  where
    by : (t u : Bool) → Within (1 + length (d ∷ a))
        (elim t [
          | true ↦ comment_or_section_at a
          | false ↦ elim u [
            | true ↦ extent_through (codes "?>") 2 a (instruction (may_declare p))
            | false ↦ tag_at (d ∷ a)
          ]
        ])
    by true u = within-more (2 + length a) (1 + length (d ∷ a)) (omega arith) _ (opened-within a)
    by false true = within-more (2 + length a) (1 + length (d ∷ a)) (omega arith) _ (through-within 0x3F (codes ">") 2 (instruction (may_declare p)) a)
    by false false = tag-within (d ∷ a)

abbrev BegunWithin : ℕ → Begun ℕ → Type 0
BegunWithin k (begun.Character c n) = (1 ≤ n) × (n ≤ k)
BegunWithin k (begun.Broken n) = Unit {0}
BegunWithin k begun.Unfinished = Unit {0}

continued-within : (more low high c n : ℕ) (a : List ℕ) (k : ℕ) → 1 ≤ n → n + length a ≤ k → BegunWithin k (encoding.continued more low high c n a)
continued-within zero low high c n a k h g = (h, omega arith)
continued-within (suc more) low high c n [] k h g = tt
continued-within (suc more) low high c n (d ∷ a) k h g =
    by (is_within low high d) (continued-within more 0x80 0xBF (c * 64 + (d - 0x80)) (n + 1) a k (omega arith) (omega arith))
  where
    by : (t : Bool) → BegunWithin k (encoding.continued more 0x80 0xBF (c * 64 + (d - 0x80)) (n + 1) a) →
        BegunWithin k (if t then encoding.continued more 0x80 0xBF (c * 64 + (d - 0x80)) (n + 1) a else begun.Broken (n + 1))
    by true w = w
    by false w = tt

within_if : (k : ℕ) (t : Bool) (x y : Begun ℕ) → BegunWithin k x → BegunWithin k y → BegunWithin k (if t then x else y)
within_if k true x y h g = h
within_if k false x y h g = g

character-within : (c : ℕ) (a : List ℕ) → BegunWithin (1 + length a) (encoding.character_at c a)
unfolding encoding.character_at
character-within c a = by (nat_lt c 0x80)
  where
    part : (more low high v : ℕ) → BegunWithin (1 + length a) (encoding.continued more low high v 1 a)
    part more low high v = continued-within more low high v 1 a (1 + length a) (omega arith) (omega arith)

    by : (t : Bool) → BegunWithin (1 + length a) (elim t [ true ↦ begun.Character c 1 | false ↦ encoding.behind_lead c a ])
    by true = (omega arith, omega arith)
    by false =
        within_if _ (is_within 0xC2 0xDF c) _ _ (part 1 0x80 0xBF (c - 0xC0))
        (within_if _ (c == 0xE0) _ _ (part 2 0xA0 0xBF 0)
        (within_if _ (c == 0xED) _ _ (part 2 0x80 0x9F 0xD)
        (within_if _ (is_within 0xE1 0xEF c) _ _ (part 2 0x80 0xBF (c - 0xE0))
        (within_if _ (c == 0xF0) _ _ (part 3 0x90 0xBF 0)
        (within_if _ (is_within 0xF1 0xF3 c) _ _ (part 3 0x80 0xBF (c - 0xF0))
        (within_if _ (c == 0xF4) _ _ (part 3 0x80 0x8F 4) tt))))))

drop-left : (n : ℕ) (a : List ℕ) (d : ℕ) (r : List ℕ) → drop n a ≡ d ∷ r → suc n ≤ length a
drop-left zero [] d r h = let e : 0 ≡ suc (length r) = ap length h in absurd (omega arith)
drop-left zero (c ∷ a) d r h = omega arith
drop-left (suc n) [] d r h = let e : 0 ≡ suc (length r) = ap length h in absurd (omega arith)
drop-left (suc n) (c ∷ a) d r h = let e : suc n ≤ length a = drop-left n a d r h in omega arith

reference-within : (a : List ℕ) → BegunWithin (1 + length a) (reference_at a)
unfolding reference_at
reference-within a = by (drop (length (reference_body a greatest_reference)) a) refl
  where
    n : ℕ
    n = length (reference_body a greatest_reference)

    by : (rest : List ℕ) → drop (length (reference_body a greatest_reference)) a ≡ rest
        → BegunWithin (1 + length a) (elim rest [
          | [] ↦ begun.Unfinished
          | (b ∷ more) ↦ elim (b == 0x3B) [
            | true ↦ refers (length (reference_body a greatest_reference) + 2) (referred (reference_body a greatest_reference))
            | false ↦ begun.Broken (length (reference_body a greatest_reference) + 2)
          ]
        ])
    by [] h = tt
    by (b ∷ more) h = by_end (b == 0x3B) (referred (reference_body a greatest_reference)) (drop-left (length (reference_body a greatest_reference)) a b more h)
      where
        by_end : (t : Bool) (x : Option ℕ) → suc (length (reference_body a greatest_reference)) ≤ length a
            → BegunWithin (1 + length a) (elim t [
              | true ↦ refers (length (reference_body a greatest_reference) + 2) x
              | false ↦ begun.Broken (length (reference_body a greatest_reference) + 2)
            ])
        by_end true None l = tt
        by_end true (Some c) l = (omega arith, omega arith)
        by_end false x l = tt

reference-token-within : (k : ℕ) (x : Begun ℕ) → BegunWithin k x → Within k (reference_token x)
reference-token-within k (begun.Character c n) w = w
reference-token-within k (begun.Broken n) w = tt
reference-token-within k begun.Unfinished w = tt

character-token-within : (k : ℕ) (x : Begun ℕ) → BegunWithin k x → Within k (character_token x)
character-token-within k (begun.Character c n) w = by (is_char c)
  where
    by : (t : Bool) → Within k (elim t [ true ↦ good (a_character c) n | false ↦ bad BadChar n ])
    by true = w
    by false = tt
character-token-within k (begun.Broken n) w = tt
character-token-within k begun.Unfinished w = tt

bracket-within : (a : List ℕ) → Within (1 + length a) (bracket_at false a)
bracket-within a = by (begins_with (codes "]>") a) (ends_inside (codes "]>") a)
  where
    by : (t u : Bool) → Within (1 + length a) (elim t [ true ↦ bad BadMarkup 3 | false ↦ elim u [ true ↦ later | false ↦ good (a_character 0x5D) 1 ] ])
    by true u = tt
    by false true = tt
    by false false = (omega arith, omega arith)

line-end-within : (a : List ℕ) → Within (1 + length a) (line_end_at false a)
line-end-within [] = tt
line-end-within (c ∷ a) = by (c == 0xA)
  where
    by : (t : Bool) → Within (1 + length (c ∷ a)) (elim t [ true ↦ good (a_character 0xA) 2 | false ↦ good (a_character 0xA) 1 ])
    by true = (omega arith, omega arith)
    by false = (omega arith, omega arith)

mark-within : (p : Position) (c : ℕ) (a : List ℕ) → Within (1 + length a) (mark_or (begins_with_mark p (c ∷ a)) c a)
mark-within BehindMark c a = character-token-within _ _ (character-within c a)
mark-within Farther c a = character-token-within _ _ (character-within c a)
mark-within AtStart c a = by (begins_with the_mark (c ∷ a)) refl
  where
    by : (t : Bool) → begins_with the_mark (c ∷ a) ≡ t → Within (1 + length a) (mark_or t c a)
    by true h = let l : 3 ≤ length (c ∷ a) = scan.begins-length the_mark (c ∷ a) h in (omega arith, omega arith)
    by false h = character-token-within _ _ (character-within c a)

pub beginning-within : (p : Position) (c : ℕ) (a : List ℕ) → Within (suc (length a)) (beginning p false (c ∷ a))
unfolding beginning
beginning-within p c a = within-more (1 + length a) (suc (length a)) (omega arith) _ (by (c == 0x3C) (c == 0x26) (c == 0x5D) (c == 0xD))
  where
    by : (t1 t2 t3 t4 : Bool) → Within (1 + length a)
        (elim t1 [
          | true ↦ markup_at p a
          | false ↦ elim t2 [
            | true ↦ reference_token (reference_at a)
            | false ↦ elim t3 [ true ↦ bracket_at false a | false ↦ elim t4 [ true ↦ line_end_at false a | false ↦ mark_or (begins_with_mark p (c ∷ a)) c a ] ]
          ]
        ])
    by true t2 t3 t4 = markup-within p a
    by false true t3 t4 = reference-token-within _ _ (reference-within a)
    by false false true t4 = bracket-within a
    by false false false true = line-end-within a
    by false false false false = mark-within p c a
