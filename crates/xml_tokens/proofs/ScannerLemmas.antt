-- What is found at a front of the bytes stays where the bytes go on, and what isn't found yet ends no earlier than they
-- do.
use Rattle.std.proofs.Common.{◌≡◌, ℕ, zero, suc, ◌+◌, ◌-◌, ◌*◌, ◌<◌, ◌≤◌, ◌==◌, Bool, true, false, ◌&&◌, nat_lt, List, [], ◌∷◌, ◌++◌, length, refl, sym, ap}
use Rattle.std.proofs.Common.{◌∙◌, arith, Option, Some, None, option_map, if◌then◌else◌, subst, true≢false}
use Rattle.inv_base.specs.Characters.{is_within}
use Rattle.xml_tokens.specs.declared.encoding.Begun.{Begun}
use Rattle.xml_tokens.specs.Searches.{begins_with, ends_inside, shared_front, place_of, TagEnd, behind, none_within, none_yet, one_farther, quote_behind}
use Rattle.xml_tokens.specs.Searches.{ends_tag, tag_end}
use Rattle.xml_tokens.specs.Encoding.{continued, behind_lead, character_at}
use Rattle.xml_tokens.specs.declared.encoding.Begun.TheVariants.{Character, Broken, Unfinished}

abbrev pub BegunFrom : ℕ → Begun ℕ → Type 0
BegunFrom k (Character c n) = k ≤ n
BegunFrom k (Broken n) = k ≤ n
BegunFrom k Unfinished = Unit {0}

pub data BegunStays : ℕ → Begun ℕ → Begun ℕ → Type 0 where
  same : (k : ℕ) (x : Begun ℕ) → BegunStays k x x
  goes_on : (k : ℕ) (m : Begun ℕ) → BegunFrom k m → BegunStays k Unfinished m

begun_weaker : (k l : ℕ) → k ≤ l → (x : Begun ℕ) → BegunFrom l x → BegunFrom k x
begun_weaker k l h (Character c n) f = let g : l ≤ n = f in omega arith
begun_weaker k l h (Broken n) f = let g : l ≤ n = f in omega arith
begun_weaker k l h Unfinished f = tt

begun_if : (k : ℕ) (t : Bool) (x x' y y' : Begun ℕ) → BegunStays k x x' → BegunStays k y y' → BegunStays k (if t then x else y) (if t then x' else y')
begun_if k true x x' y y' h g = h
begun_if k false x x' y y' h g = g

continued-from : (more low high c n : ℕ) (bytes : List ℕ) → BegunFrom n (continued more low high c n bytes)
continued-from zero low high c n bytes = omega arith
continued-from (suc more) low high c n [] = tt
continued-from (suc more) low high c n (b ∷ bytes) = by (is_within low high b) (continued-from more 0x80 0xBF (c * 64 + (b - 0x80)) (n + 1) bytes)
  where
    by : (t : Bool) → BegunFrom (n + 1) (continued more 0x80 0xBF (c * 64 + (b - 0x80)) (n + 1) bytes) →
        BegunFrom n (if t then continued more 0x80 0xBF (c * 64 + (b - 0x80)) (n + 1) bytes else Broken (n + 1))
    by true f = begun_weaker n (n + 1) (omega arith) (continued more 0x80 0xBF (c * 64 + (b - 0x80)) (n + 1) bytes) f
    by false f = omega arith

continued-stays : (more low high c n : ℕ) (a b : List ℕ) → BegunStays (n + length a) (continued more low high c n a) (continued more low high c n (a ++ b))
continued-stays zero low high c n a b = same (n + length a) (Character c n)
continued-stays (suc more) low high c n [] b =
    goes_on (n + 0) (continued (suc more) low high c n b)
    (begun_weaker (n + 0) n (omega arith) (continued (suc more) low high c n b) (continued-from (suc more) low high c n b))
continued-stays (suc more) low high c n (d ∷ a) b =
    let e : n + 1 + length a ≡ n + length (d ∷ a) = omega arith in
    begun_if (n + length (d ∷ a)) (is_within low high d) (continued more 0x80 0xBF (c * 64 + (d - 0x80)) (n + 1) a)
    (continued more 0x80 0xBF (c * 64 + (d - 0x80)) (n + 1) (a ++ b)) (Broken (n + 1)) (Broken (n + 1))
    (subst (λ k. BegunStays k (continued more 0x80 0xBF (c * 64 + (d - 0x80)) (n + 1) a) (continued more 0x80 0xBF (c * 64 + (d - 0x80)) (n + 1) (a ++ b))) e
    (continued-stays more 0x80 0xBF (c * 64 + (d - 0x80)) (n + 1) a b))
    (same (n + length (d ∷ a)) (Broken (n + 1)))

pub lead-stays : (c : ℕ) (a b : List ℕ) → BegunStays (1 + length a) (behind_lead c a) (behind_lead c (a ++ b))
lead-stays c a b =
    begun_if _ (is_within 0xC2 0xDF c) _ _ _ _ (continued-stays 1 0x80 0xBF (c - 0xC0) 1 a b)
    (begun_if _ (c == 0xE0) _ _ _ _ (continued-stays 2 0xA0 0xBF 0 1 a b)
    (begun_if _ (c == 0xED) _ _ _ _ (continued-stays 2 0x80 0x9F 0xD 1 a b)
    (begun_if _ (is_within 0xE1 0xEF c) _ _ _ _ (continued-stays 2 0x80 0xBF (c - 0xE0) 1 a b)
    (begun_if _ (c == 0xF0) _ _ _ _ (continued-stays 3 0x90 0xBF 0 1 a b)
    (begun_if _ (is_within 0xF1 0xF3 c) _ _ _ _ (continued-stays 3 0x80 0xBF (c - 0xF0) 1 a b)
    (begun_if _ (c == 0xF4) _ _ _ _ (continued-stays 3 0x80 0x8F 4 1 a b)
    (same (1 + length a) (Broken 1))))))))

pub character-stays : (c : ℕ) (a b : List ℕ) → BegunStays (1 + length a) (character_at c a) (character_at c (a ++ b))
unfolding character_at
character-stays c a b = by (nat_lt c 0x80)
  where
    by : (t : Bool) → BegunStays (1 + length a) (elim t [ true ↦ Character c 1 | false ↦ behind_lead c a ])
        (elim t [ true ↦ Character c 1 | false ↦ behind_lead c (a ++ b) ])
    by true = same (1 + length a) (Character c 1)
    by false = lead-stays c a b

-- The end of a tag.
abbrev pub EndFrom : ℕ → ℕ → TagEnd → Type 0
EndFrom k room (behind n) = k ≤ n
EndFrom k room none_within = k ≤ room
EndFrom k room none_yet = Unit {0}

pub data EndStays : ℕ → ℕ → TagEnd → TagEnd → Type 0 where
  end_found : (k room n : ℕ) → suc n ≤ k → EndStays k room (behind n) (behind n)
  end_too_far : (k room : ℕ) → EndStays k room none_within none_within
  end_goes_on : (k room : ℕ) (m : TagEnd) → EndFrom k room m → EndStays k room none_yet m

farther-from : (k room : ℕ) (x : TagEnd) → EndFrom k room x → EndFrom (suc k) (suc room) (one_farther x)
farther-from k room (behind n) f = let g : k ≤ n = f in omega arith
farther-from k room none_within f = let g : k ≤ room = f in omega arith
farther-from k room none_yet f = tt

farther-stays : (k room : ℕ) (x y : TagEnd) → EndStays k room x y → EndStays (suc k) (suc room) (one_farther x) (one_farther y)
farther-stays k room x y (end_found k' room' n h) = end_found (suc k) (suc room) (1 + n) (omega arith)
farther-stays k room x y (end_too_far k' room') = end_too_far (suc k) (suc room)
farther-stays k room x y (end_goes_on k' room' m f) = end_goes_on (suc k) (suc room) (one_farther y) (farther-from k room y f)

end-from : (room : ℕ) (x : TagEnd) → EndFrom 0 room x
end-from room (behind n) = omega arith
end-from room none_within = omega arith
end-from room none_yet = tt

pub end-stays : (a b : List ℕ) (quote : Option ℕ) (room : ℕ) → EndStays (length a) room (tag_end a quote room) (tag_end (a ++ b) quote room)
end-stays [] [] quote zero = end_too_far 0 0
end-stays [] (d ∷ b) quote zero = end_too_far 0 0
end-stays [] b quote (suc room) = end_goes_on 0 (suc room) (tag_end b quote (suc room)) (end-from (suc room) (tag_end b quote (suc room)))
end-stays (c ∷ a) b quote zero = end_too_far (length (c ∷ a)) 0
end-stays (c ∷ a) b quote (suc room) = by (ends_tag quote c) (end-stays a b (quote_behind quote c) room)
  where
    by : (t : Bool) → EndStays (length a) room (tag_end a (quote_behind quote c) room) (tag_end (a ++ b) (quote_behind quote c) room)
        → EndStays (suc (length a)) (suc room) (elim t [ true ↦ behind 0 | false ↦ one_farther (tag_end a (quote_behind quote c) room) ])
        (elim t [ true ↦ behind 0 | false ↦ one_farther (tag_end (a ++ b) (quote_behind quote c) room) ])
    by true h = end_found (suc (length a)) (suc room) 0 (omega arith)
    by false h = farther-stays (length a) room (tag_end a (quote_behind quote c) room) (tag_end (a ++ b) (quote_behind quote c) room) h

-- The first place of a string.
pub begins-append : (string a b : List ℕ) → begins_with string a ≡ true → begins_with string (a ++ b) ≡ true
begins-append [] a b h = refl
begins-append (c ∷ string) [] b h = absurd (true≢false (sym h))
begins-append (c ∷ string) (d ∷ a) b h = by (d == c) h (begins-append string a b)
  where
    by : (t : Bool) → (t && begins_with string a) ≡ true → (begins_with string a ≡ true → begins_with string (a ++ b) ≡ true) →
        (t && begins_with string (a ++ b)) ≡ true
    by true h rest = rest h
    by false h rest = absurd (true≢false (sym h))

pub begins-length : (string a : List ℕ) → begins_with string a ≡ true → length string ≤ length a
begins-length [] a h = omega arith
begins-length (c ∷ string) [] h = absurd (true≢false (sym h))
begins-length (c ∷ string) (d ∷ a) h = by (d == c) h (begins-length string a)
  where
    by : (t : Bool) → (t && begins_with string a) ≡ true → (begins_with string a ≡ true → length string ≤ length a) → suc (length string) ≤ suc (length a)
    by true h rest = let r : length string ≤ length a = rest h in omega arith
    by false h rest = absurd (true≢false (sym h))

-- where the string begins only in what is longer, it ends there
pub begins-longer : (string a b : List ℕ) → begins_with string a ≡ false → begins_with string (a ++ b) ≡ true → suc (length a) ≤ length string
begins-longer [] a b h g = absurd (true≢false h)
begins-longer (c ∷ string) [] b h g = omega arith
begins-longer (c ∷ string) (d ∷ a) b h g = by (d == c) h g (begins-longer string a b)
  where
    by : (t : Bool) → (t && begins_with string a) ≡ false → (t && begins_with string (a ++ b)) ≡ true →
        (begins_with string a ≡ false → begins_with string (a ++ b) ≡ true → suc (length a) ≤ length string) → suc (suc (length a)) ≤ suc (length string)
    by true h g rest = let r : suc (length a) ≤ length string = rest h g in omega arith
    by false h g rest = absurd (true≢false (sym g))

-- a place that is found stays, and one that isn't found yet is so far on that the string ends behind the bytes
pub data PlaceStays (string : List ℕ) (k : ℕ) : Option ℕ → Option ℕ → Type 0 where
  found : (n : ℕ) → n + length string ≤ k → PlaceStays string k (Some n) (Some n)
  nowhere : PlaceStays string k None None
  found_later : (n : ℕ) → suc k ≤ n + length string → PlaceStays string k None (Some n)

one-on : (string : List ℕ) (k : ℕ) (x y : Option ℕ) → PlaceStays string k x y →
    PlaceStays string (suc k) (option_map (λ n. 1 + n) x) (option_map (λ n. 1 + n) y)
one-on string k x y (found n h) = found (1 + n) (omega arith)
one-on string k x y nowhere = nowhere
one-on string k x y (found_later n h) = found_later (1 + n) (omega arith)

begins-short : (string a : List ℕ) → length a < length string → begins_with string a ≡ false
begins-short [] a h = absurd (omega arith)
begins-short (c ∷ string) [] h = refl
begins-short (c ∷ string) (d ∷ a) h = by (d == c) (begins-short string a (omega arith))
  where
    by : (t : Bool) → begins_with string a ≡ false → (t && begins_with string a) ≡ false
    by true e = e
    by false e = refl

place-short : (string a : List ℕ) → length a < length string → place_of string a ≡ None
place-short string [] h = refl
place-short string (d ∷ a) h =
    ap (λ t. elim t [ true ↦ Some 0 | false ↦ option_map (λ n. 1 + n) (place_of string a) ]) (begins-short string (d ∷ a) h)
    ∙ ap (option_map (λ n. 1 + n)) (place-short string a (omega arith))

begin-place : (c : ℕ) (string b : List ℕ) → PlaceStays (c ∷ string) 0 None (place_of (c ∷ string) b)
begin-place c string b = by (place_of (c ∷ string) b)
  where
    by : (x : Option ℕ) → PlaceStays (c ∷ string) 0 None x
    by None = nowhere
    by (Some n) = found_later n (omega arith)

pub place-stays : (c : ℕ) (string a b : List ℕ) → PlaceStays (c ∷ string) (length a) (place_of (c ∷ string) a) (place_of (c ∷ string) (a ++ b))
place-stays c string [] b = begin-place c string b
place-stays c string (d ∷ a) b =
    by (begins_with (c ∷ string) (d ∷ a)) (begins_with (c ∷ string) (d ∷ (a ++ b))) (begins-append (c ∷ string) (d ∷ a) b)
    (begins-longer (c ∷ string) (d ∷ a) b) (begins-length (c ∷ string) (d ∷ a))
    (one-on (c ∷ string) (length a) _ _ (place-stays c string a b)) (place-short (c ∷ string) a)
  where
    by : (t u : Bool) → (t ≡ true → u ≡ true) → (t ≡ false → u ≡ true → suc (suc (length a)) ≤ suc (length string)) →
        (t ≡ true → suc (length string) ≤ suc (length a))
        → PlaceStays (c ∷ string) (suc (length a)) (option_map (λ n. 1 + n) (place_of (c ∷ string) a))
        (option_map (λ n. 1 + n) (place_of (c ∷ string) (a ++ b)))
        → (length a < suc (length string) → place_of (c ∷ string) a ≡ None)
        → PlaceStays (c ∷ string) (suc (length a)) (elim t [ true ↦ Some 0 | false ↦ option_map (λ n. 1 + n) (place_of (c ∷ string) a) ])
        (elim u [ true ↦ Some 0 | false ↦ option_map (λ n. 1 + n) (place_of (c ∷ string) (a ++ b)) ])
    by true true h g l rest short = let m : suc (length string) ≤ suc (length a) = l refl in found 0 (omega arith)
    by true false h g l rest short = absurd (true≢false (sym (h refl)))
    by false false h g l rest short = rest
    by false true h g l rest short =
        let long : suc (suc (length a)) ≤ suc (length string) = g refl refl in
        let none : place_of (c ∷ string) a ≡ None = short (omega arith) in
        subst (λ x. PlaceStays (c ∷ string) (suc (length a)) (option_map (λ n. 1 + n) x) (Some 0)) (sym none) (found_later 0 (omega arith))

-- Where a string neither begins nor is begun, it stays so.
pub begins-never : (string a b : List ℕ) → begins_with string a ≡ false → ends_inside string a ≡ false
    → (begins_with string (a ++ b) ≡ false) × (ends_inside string (a ++ b) ≡ false) × (shared_front string (a ++ b) ≡ shared_front string a)
begins-never [] a b h g = absurd (true≢false h)
begins-never (c ∷ string) [] b h g = absurd (true≢false g)
begins-never (c ∷ string) (d ∷ a) b h g = by (d == c) h g (begins-never string a b)
  where
    by : (t : Bool) → (t && begins_with string a) ≡ false → (t && ends_inside string a) ≡ false
        → (begins_with string a ≡ false → ends_inside string a ≡ false → (begins_with string (a ++ b) ≡ false) × (ends_inside string (a ++ b) ≡ false) ×
        (shared_front string (a ++ b) ≡ shared_front string a))
        → ((t && begins_with string (a ++ b)) ≡ false) × ((t && ends_inside string (a ++ b)) ≡ false) ×
        ((if t then 1 + shared_front string (a ++ b) else 0) ≡ (if t then 1 + shared_front string a else 0))
    by true h g rest = let r = rest h g in (r.0, r.1, ap (λ n. 1 + n) r.2)
    by false h g rest = (refl, refl, refl)

-- Where it is begun, all of the bytes are its front.
pub shared-inside : (string a b : List ℕ) → ends_inside string a ≡ true → length a ≤ shared_front string (a ++ b)
shared-inside [] a b h = absurd (true≢false (sym h))
shared-inside (c ∷ string) [] b h = omega arith
shared-inside (c ∷ string) (d ∷ a) b h = by (d == c) h (shared-inside string a b)
  where
    by : (t : Bool) → (t && ends_inside string a) ≡ true → (ends_inside string a ≡ true → length a ≤ shared_front string (a ++ b)) →
        suc (length a) ≤ (if t then 1 + shared_front string (a ++ b) else 0)
    by true h rest = let r : length a ≤ shared_front string (a ++ b) = rest h in omega arith
    by false h rest = absurd (true≢false (sym h))
