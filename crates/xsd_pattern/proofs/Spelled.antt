-- Tokens that are read are spelled so.
use Rattle.std.proofs.Common.{◌≡◌, ℕ, ◌+◌, ◌-◌, ◌≤◌, Bool, true, false, ◌&&◌, List, [], ◌∷◌, ◌++◌, length, Option, Some, None, refl, sym, ap, subst, ◌∙◌}
use Rattle.std.proofs.Common.{append_assoc, append-nil, length-append, arith}
use Rattle.std.specs.Prelude.{if◌then◌else◌, ◌==◌, nat_le, nat_lt}
use Rattle.std.specs.List.{list_all}
use Rattle.std.proofs.lemmas.Bool.{and_parts, eqb-true, eqb-false, leb-true, ltb-true, and_from}
use Rattle.xsd_pattern.specs.declared.token.Member.{Member}
use Rattle.xsd_pattern.specs.declared.token.Member.TheVariants.{Range}
use Rattle.xsd_pattern.specs.declared.token.Class.{Class}
use Rattle.xsd_pattern.specs.declared.token.Repeat.TheVariants.{Question, Star, Plus, Counted}
use Rattle.xsd_pattern.specs.declared.token.Token.{Token}
use Rattle.xsd_pattern.specs.declared.token.Token.TheVariants.{Item, Quantifier, Opens, Closes, Bar, Begins, Ends}
use Rattle.xsd_pattern.specs.declared.mode.Mode.{Mode}
use Rattle.xsd_pattern.specs.declared.mode.Mode.TheVariants.{Between, Escaped, Bracket, Inside, Got, Dash, Escape, DashEscape, Least, Most}
use Rattle.xsd_pattern.specs.Classes.{is_plain, is_plain_inside, is_digit, single, class_of, any_but_line_feed, escaped, escaped_one, escaped_several}
use Rattle.xsd_pattern.specs.Spelling.{SpelledOne, SpelledMember, SpelledMembers, SpelledToken, SpelledTokens, IsNumber, value_from, caret}
use Rattle.xsd_pattern.specs.Spelling as p
use Rattle.xsd_pattern.specs.Lexing.{Behind, with_token, tokens_from, tokens_of, goes, ends_with, is_between, with_digit, digit_behind}
use Rattle.xsd_pattern.specs.Lexing as x
use Rattle.xsd_pattern.proofs.Characters.{goes_on, goes-cons}

-- ---- what was read of a token that hasn't ended

pub record SoFar (digits : List ℕ) (k n : ℕ) : Type 0 where
  pub are_digits : list_all is_digit digits ≡ true
  pub count : k ≡ length digits
  pub few : k ≤ 4
  pub value : n ≡ value_from 0 digits
  pub small : n ≤ 1000

abbrev InBrackets : Bool → List Member → List ℕ → List ℕ → Type 0
InBrackets negated members behind front = (text : List ℕ) × SpelledMembers members text × (front ≡ 0x5B ∷ (caret negated ++ (text ++ behind)))

abbrev Before : Mode → List Member → List ℕ → Type 0
Before Between members front = (members ≡ []) × (front ≡ [])
Before Escaped members front = (members ≡ []) × (front ≡ 0x5C ∷ [])
Before Bracket members front = (members ≡ []) × (front ≡ 0x5B ∷ [])
Before (Inside negated) members front = InBrackets negated members [] front
Before (Got negated a) members front = (one : List ℕ) × SpelledOne one a × InBrackets negated members one front
Before (Dash negated a) members front = (one : List ℕ) × SpelledOne one a × InBrackets negated members (one ++ 0x2D ∷ []) front
Before (Escape negated) members front = InBrackets negated members (0x5C ∷ []) front
Before (DashEscape negated a) members front = (one : List ℕ) × SpelledOne one a × InBrackets negated members (one ++ 0x2D ∷ 0x5C ∷ []) front
Before (Least k n) members front = (members ≡ []) × ((digits : List ℕ) × SoFar digits k n × (front ≡ 0x7B ∷ digits))
Before (Most low k n) members front = (members ≡ []) × ((digits others : List ℕ) × IsNumber digits low × SoFar others k n × (front ≡ 0x7B ∷ (digits
    ++ 0x2C ∷ others)))

abbrev Told : Mode → List Member → Option (Token Class) → List ℕ → Type 0
Told mode members None front = Before mode members front
Told mode members (Some token) front = (mode ≡ Between) × (members ≡ []) × SpelledToken front token

abbrev Sound : List ℕ → Option Behind → Type 0
Sound front None = Unit {0}
Sound front (Some b) = Told b.mode b.members b.ended front

-- ---- cases of tests

if_both : {X : Type 0} (P : X → Type 0) (b : Bool) (u v : X) → (b ≡ true → P u) → (b ≡ false → P v) → P (if b then u else v)
if_both P true u v f g = f refl
if_both P false u v f g = g refl

same : (P : ℕ → Type 0) (c d : ℕ) → P d → (c == d) ≡ true → P c
same P c d h e = subst P (sym (eqb-true c d e)) h

-- ---- members

members-more : (members : List Member) (text : List ℕ) → SpelledMembers members text → (member : Member) (more : List ℕ) → SpelledMember more member
    → SpelledMembers (members ++ member ∷ []) (text ++ more)
members-more [] text e member more h = (more, [], ap (λ t. t ++ more) e ∙ sym (append-nil more), h, refl)
members-more (m ∷ members) text (front, back, e, h, k) member more g =
    (front, back ++ more, ap (λ t. t ++ more) e ∙ append_assoc front back more, h, members-more members back k member more g)

-- so much more behind what is in brackets
in_brackets-more : (negated : Bool) (text behind : List ℕ) (c : ℕ) (front : List ℕ) → front ≡ 0x5B ∷ (caret negated ++ (text ++ behind))
    → front ++ c ∷ [] ≡ 0x5B ∷ (caret negated ++ (text ++ (behind ++ c ∷ [])))
in_brackets-more negated text behind c front e = ap (λ t. t ++ c ∷ []) e
    ∙ ap (λ t. 0x5B ∷ t) (append_assoc (caret negated) (text ++ behind) (c ∷ []) ∙ ap (λ t. caret negated ++ t) (append_assoc text behind (c ∷ [])))

-- a member ends: it is one of the text before
member-ended : (negated : Bool) (members : List Member) (text behind : List ℕ) (member : Member) (front : List ℕ) → SpelledMembers members text
    → SpelledMember behind member
    → front ≡ 0x5B ∷ (caret negated ++ (text ++ behind)) → InBrackets negated (members ++ member ∷ []) [] front
member-ended negated members text behind member front h k e =
    (text ++ behind, members-more members text h member behind k, e ∙ ap (λ t. 0x5B ∷ (caret negated ++ t)) (sym (append-nil (text ++ behind))))

class-ended : (negated : Bool) (members : List Member) (text : List ℕ) (front : List ℕ) → SpelledMembers members text → front ≡ 0x5B ∷ (caret negated
    ++ (text ++ 0x5D ∷ []))
    → Sound front (x.class_ended negated members)
class-ended negated [] text front h e = tt
class-ended negated (member ∷ members) text front h e = if_both (Sound front) (length (member ∷ members) == 0) None _
    (λ d. tt)
    (λ d. (
      refl,
      refl,
      subst (λ t. SpelledToken t (Item (record { negated = negated; members = member ∷ members }))) (sym e)
          (p.bracket negated text member members h),
    ))

-- a member begins
at_member-sound : (negated : Bool) (members : List Member) (c : ℕ) (front : List ℕ) → InBrackets negated members [] front → Sound (front
    ++ c ∷ []) (x.at_member negated members c)
at_member-sound negated members c front (text, h, e) =
    let more : front ++ c ∷ [] ≡ 0x5B ∷ (caret negated ++ (text ++ c ∷ [])) = in_brackets-more negated text [] c front e in
    if_both (Sound (front ++ c ∷ [])) (c == 0x5D) _ _
    (λ d. class-ended negated members text (front ++ c ∷ []) h (subst (λ u. front ++ c ∷ [] ≡ 0x5B ∷ (caret negated ++ (text
    ++ u ∷ []))) (eqb-true c 0x5D d) more))
    (λ n. if_both (Sound (front ++ c ∷ [])) (c == 0x5C) _ _
    (λ d. (text, h, subst (λ u. front ++ c ∷ [] ≡ 0x5B ∷ (caret negated ++ (text ++ u ∷ []))) (eqb-true c 0x5C d) more))
    (λ m. if_both (Sound (front ++ c ∷ [])) (is_plain_inside c) _ _ (λ d. (c ∷ [], p.plain c d, (text, h, more))) (λ d. tt)))

ranged-sound : (negated : Bool) (members : List Member) (low high : ℕ) (text one last : List ℕ) (front : List ℕ) → SpelledMembers members text
    → SpelledOne one low → SpelledOne last high
    → front ≡ 0x5B ∷ (caret negated ++ (text ++ (one ++ 0x2D ∷ last))) → Sound front (x.ranged negated members low high)
ranged-sound negated members low high text one last front h o l e = if_both (Sound front) (nat_le low high) _ _
    (λ d. member-ended negated members text (one ++ 0x2D ∷ last) (Range low high) front h (p.range one last low high o l (leb-true low high d)) e)
    (λ d. tt)

got-sound : (negated : Bool) (members : List Member) (a c : ℕ) (front : List ℕ) → Before (Got negated a) members front → Sound (front
    ++ c ∷ []) (x.at (Got negated a) members c)
got-sound negated members a c front (one, o, (text, h, e)) = if_both (Sound (front ++ c ∷ [])) (c == 0x2D) _ _
    (λ d. (
      one,
      o,
      (
        text,
        h,
        subst (λ u. front ++ c ∷ [] ≡ 0x5B ∷ (caret negated ++ (text ++ (one
            ++ u ∷ [])))) (eqb-true c 0x2D d) (in_brackets-more negated text one c front e),
      ),
    ))
    (λ d. at_member-sound negated (members ++ single a ∷ []) c front (member-ended negated members text one (single a) front h (p.alone one a o) e))

dash-sound : (negated : Bool) (members : List Member) (a c : ℕ) (front : List ℕ) → Before (Dash negated a) members front → Sound (front
    ++ c ∷ []) (x.at (Dash negated a) members c)
dash-sound negated members a c front (one, o, (text, h, e)) =
    let more : front ++ c ∷ [] ≡ 0x5B ∷ (caret negated ++ (text ++ (one ++ 0x2D ∷ c ∷ [])))
    = in_brackets-more negated text (one ++ 0x2D ∷ []) c front e ∙ ap (λ t. 0x5B ∷ (caret negated ++ (text ++ t))) (append_assoc one (0x2D ∷ []) (c ∷ [])) in
    if_both (Sound (front ++ c ∷ [])) (c == 0x5C) _ _
    (λ d. (one, o, (text, h, subst (λ u. front ++ c ∷ [] ≡ 0x5B ∷ (caret negated ++ (text ++ (one ++ 0x2D ∷ u ∷ [])))) (eqb-true c 0x5C d) more)))
    (λ n. if_both (Sound (front ++ c ∷ [])) (is_plain_inside c) _ _ (λ d. ranged-sound negated members a c text one (c ∷ []) (front
    ++ c ∷ []) h o (p.plain c d) more) (λ d. tt))

escape-sound : (negated : Bool) (members : List Member) (c : ℕ) (front : List ℕ) → Before (Escape negated) members front → Sound (front
    ++ c ∷ []) (x.at (Escape negated) members c)
escape-sound negated members c front (text, h, e) =
    go (escaped_one c) (escaped_several c) (λ d q. p.behind c d q) (λ m q. p.several c m q)
  where
    more : front ++ c ∷ [] ≡ 0x5B ∷ (caret negated ++ (text ++ 0x5C ∷ c ∷ []))
    more = in_brackets-more negated text (0x5C ∷ []) c front e

    go : (u : Option ℕ) (v : Option Member) → ((d : ℕ) → u ≡ Some d → SpelledOne (0x5C ∷ c ∷ []) d) → ((m : Member) → v ≡ Some m
        → SpelledMember (0x5C ∷ c ∷ []) m)
        → Sound (front ++ c ∷ []) (x.escape_ended negated members u v)
    go (Some d) v f g = (0x5C ∷ c ∷ [], f d refl, (text, h, more))
    go None (Some m) f g = member-ended negated members text (0x5C ∷ c ∷ []) m (front ++ c ∷ []) h (g m refl) more
    go None None f g = tt

dash_escape-sound : (negated : Bool) (members : List Member) (a c : ℕ) (front : List ℕ) → Before (DashEscape negated a) members front → Sound (front
    ++ c ∷ []) (x.at (DashEscape negated a) members c)
dash_escape-sound negated members a c front (one, o, (text, h, e)) = go (escaped_one c) (λ d q. p.behind c d q)
  where
    more : front ++ c ∷ [] ≡ 0x5B ∷ (caret negated ++ (text ++ (one ++ 0x2D ∷ 0x5C ∷ c ∷ [])))
    more = in_brackets-more negated text (one ++ 0x2D ∷ 0x5C ∷ []) c front e ∙ ap (λ t. 0x5B ∷ (caret negated ++ (text
        ++ t))) (append_assoc one (0x2D ∷ 0x5C ∷ []) (c ∷ []))

    go : (u : Option ℕ) → ((d : ℕ) → u ≡ Some d → SpelledOne (0x5C ∷ c ∷ []) d) → Sound (front ++ c ∷ []) (x.range_ended negated members a u)
    go None f = tt
    go (Some d) f = ranged-sound negated members a d text one (0x5C ∷ c ∷ []) (front ++ c ∷ []) h o (f d refl) more

bracket-sound : (members : List Member) (c : ℕ) (front : List ℕ) → Before Bracket members front → Sound (front ++ c ∷ []) (x.at Bracket members c)
bracket-sound members c front (m, e) = if_both (Sound (front ++ c ∷ [])) (c == 0x5E) _ _
    (λ d. ([], none_spelled, ap (λ t. t ++ c ∷ []) e ∙ ap (λ u. 0x5B ∷ u ∷ []) (eqb-true c 0x5E d)))
    (λ d. at_member-sound false members c front ([], none_spelled, e))
  where
    none_spelled : SpelledMembers members []
    none_spelled = subst (λ ms. SpelledMembers ms []) (sym m) refl

-- ---- braces

all_more : (digits : List ℕ) (c : ℕ) → list_all is_digit digits ≡ true → is_digit c ≡ true → list_all is_digit (digits ++ c ∷ []) ≡ true
all_more [] c h e = and_from _ _ e refl
all_more (d ∷ digits) c h e = let (f, g) = and_parts _ _ h in and_from _ _ f (all_more digits c g e)

value-more : (n : ℕ) (digits : List ℕ) (c : ℕ) → value_from n (digits ++ c ∷ []) ≡ with_digit (value_from n digits) c
value-more n [] c = refl
value-more n (d ∷ digits) c = value-more (with_digit n d) digits c

so_far-more : (digits : List ℕ) (k n c : ℕ) → SoFar digits k n → is_digit c ≡ true → (nat_lt k 4 && nat_le (with_digit n c) 1000) ≡ true → SoFar (digits
    ++ c ∷ []) (k + 1) (with_digit n c)
so_far-more digits k n c h e t = let ls = and_parts (nat_lt k 4) (nat_le (with_digit n c) 1000) t in record {
  are_digits = all_more digits c h.are_digits e;
  count = omega (arith, length-append digits (c ∷ []), h.count);
  few = omega (arith, ltb-true k 4 ls.0);
  value = ap (λ v. with_digit v c) h.value ∙ sym (value-more 0 digits c);
  small = leb-true (with_digit n c) 1000 ls.1;
}

to_number : (digits : List ℕ) (k n : ℕ) → SoFar digits k n → (k == 0) ≡ false → IsNumber digits n
to_number digits k n h e = record {
  are_digits = h.are_digits;
  some = omega (arith, h.count, eqb-false k 0 e);
  few = omega (arith, h.count, h.few);
  value = h.value;
  small = h.small;
}

least-sound : (members : List Member) (k n c : ℕ) (front : List ℕ) → Before (Least k n) members front → Sound (front ++ c ∷ []) (x.at (Least k n) members c)
least-sound members k n c front (m, (digits, h, e)) = if_both (Sound (front ++ c ∷ [])) (is_digit c) _ _
    (λ d. if_both (λ o. Sound (front ++ c ∷ []) (x.least_on members k o)) (nat_lt k 4 && nat_le (with_digit n c) 1000) (Some (with_digit n c)) None
    (λ t. (m, (digits ++ c ∷ [], so_far-more digits k n c h d t, ap (λ t. t ++ c ∷ []) e)))
    (λ t. tt))
    (λ d. if_both (Sound (front ++ c ∷ [])) (k == 0) _ _ (λ t. tt)
    (λ t. if_both (Sound (front ++ c ∷ [])) (c == 0x7D) _ _
    (λ u. (refl, m, subst (λ t. SpelledToken t (Quantifier (Counted n (Some 0)))) (sym (ends c 0x7D u)) (p.exactly digits n (to_number digits k n h t))))
    (λ u. if_both (Sound (front ++ c ∷ [])) (c == 0x2C) _ _
    (λ v. (
      m,
      (
        digits,
        [],
        to_number digits k n h t,
        record { are_digits = refl; count = refl; few = omega arith; value = refl; small = omega arith },
        ends c 0x2C v,
      ),
    ))
    (λ v. tt))))
  where
    ends : (c d : ℕ) → (c == d) ≡ true → front ++ c ∷ [] ≡ 0x7B ∷ (digits ++ d ∷ [])
    ends c d u = ap (λ t. t ++ c ∷ []) e ∙ ap (λ v. 0x7B ∷ (digits ++ v ∷ [])) (eqb-true c d u)

zero_only : (digits : List ℕ) (k n : ℕ) → SoFar digits k n → (k == 0) ≡ true → digits ≡ []
zero_only [] k n h e = refl
zero_only (d ∷ digits) k n h e = absurd (omega (arith, h.count, eqb-true k 0 e))

most-sound : (members : List Member) (low k n c : ℕ) (front : List ℕ) → Before (Most low k n) members front → Sound (front
    ++ c ∷ []) (x.at (Most low k n) members c)
most-sound members low k n c front (m, (digits, others, g, h, e)) = if_both (Sound (front ++ c ∷ [])) (is_digit c) _ _
    (λ d. if_both (λ o. Sound (front ++ c ∷ []) (x.most_on members low k o)) (nat_lt k 4 && nat_le (with_digit n c) 1000) (Some (with_digit n c)) None
    (λ t. (m, (digits, others ++ c ∷ [], g, so_far-more others k n c h d t, more)))
    (λ t. tt))
    (λ d. if_both (Sound (front ++ c ∷ [])) (c == 0x7D) _ _
    (λ u. if_both (Sound (front ++ c ∷ [])) (k == 0) _ _
    (λ t. (
      refl,
      m,
      subst (λ v. SpelledToken v (Quantifier (Counted low None)))
          (sym (more ∙ (λ i. 0x7B ∷ (digits ++ 0x2C ∷ (zero_only others k n h t i ++ eqb-true c 0x7D u i ∷ []))))) (p.at_least digits low g),
    ))
    (λ t. if_both (Sound (front ++ c ∷ [])) (nat_le low n) _ _
    (λ l. (
      refl,
      m,
      subst (λ v. SpelledToken v (Quantifier (Counted low (Some (n - low)))))
          (sym (more ∙ (λ i. 0x7B ∷ (digits ++ 0x2C ∷ (others ++ eqb-true c 0x7D u i ∷ []))))) (p.between digits others low n g (to_number others k n h t)
          (leb-true low n l)),
    ))
    (λ l. tt)))
    (λ u. tt))
  where
    more : front ++ c ∷ [] ≡ 0x7B ∷ (digits ++ 0x2C ∷ (others ++ c ∷ []))
    more = ap (λ t. t ++ c ∷ []) e ∙ ap (λ t. 0x7B ∷ t) (append_assoc digits (0x2C ∷ others) (c ∷ []))

-- ---- between tokens

abbrev IsSign : ℕ → List Member → Option (Token Class) → Type 0
IsSign c members None = Unit {0}
IsSign c members (Some token) = SpelledToken (c ∷ []) token

sign-sound : (c : ℕ) (members : List Member) → IsSign c members (x.sign c)
sign-sound c members =
    if_both (IsSign c members) (c == 0x3F) _ _ (same (λ d. SpelledToken (d ∷ []) (Quantifier Question)) c 0x3F p.question)
    (λ n1. if_both (IsSign c members) (c == 0x2A) _ _ (same (λ d. SpelledToken (d ∷ []) (Quantifier Star)) c 0x2A p.star)
    (λ n2. if_both (IsSign c members) (c == 0x2B) _ _ (same (λ d. SpelledToken (d ∷ []) (Quantifier Plus)) c 0x2B p.plus)
    (λ n3. if_both (IsSign c members) (c == 0x28) _ _ (same (λ d. SpelledToken (d ∷ []) Opens) c 0x28 p.opens)
    (λ n4. if_both (IsSign c members) (c == 0x29) _ _ (same (λ d. SpelledToken (d ∷ []) Closes) c 0x29 p.closes)
    (λ n5. if_both (IsSign c members) (c == 0x7C) _ _ (same (λ d. SpelledToken (d ∷ []) Bar) c 0x7C p.bar)
    (λ n6. if_both (IsSign c members) (c == 0x5E) _ _ (same (λ d. SpelledToken (d ∷ []) Begins) c 0x5E p.begins)
    (λ n7. if_both (IsSign c members) (c == 0x24) _ _ (same (λ d. SpelledToken (d ∷ []) Ends) c 0x24 p.ends)
    (λ n8. tt))))))))

abbrev Enters : ℕ → Option Mode → Type 0
Enters c None = Unit {0}
Enters c (Some mode) = Before mode [] (c ∷ [])

entered-sound : (c : ℕ) → Enters c (x.entered c)
entered-sound c =
    if_both (Enters c) (c == 0x5C) _ _ (λ d. (refl, ap (λ u. u ∷ []) (eqb-true c 0x5C d)))
    (λ n1. if_both (Enters c) (c == 0x7B) _ _
    (λ d. (
      refl,
      (
        [],
        record { are_digits = refl; count = refl; few = omega arith; value = refl; small = omega arith },
        ap (λ u. u ∷ []) (eqb-true c 0x7B d),
      ),
    ))
    (λ n2. if_both (Enters c) (c == 0x5B) _ _ (λ d. (refl, ap (λ u. u ∷ []) (eqb-true c 0x5B d))) (λ n3. tt)))

item-sound : (c : ℕ) → Sound (c ∷ []) (x.at_item [] c)
item-sound c = if_both (Sound (c ∷ [])) (c == 0x2E) _ _
    (λ d. (refl, refl, same (λ u. SpelledToken (u ∷ []) (Item any_but_line_feed)) c 0x2E p.dot d))
    (λ n. if_both (Sound (c ∷ [])) (is_plain c) _ _ (λ d. (refl, refl, p.plain c d)) (λ d. tt))

between-sound : (c : ℕ) → Sound (c ∷ []) (x.at_between [] c)
between-sound c = go (x.sign c) (x.entered c) (sign-sound c []) (entered-sound c)
  where
    enter : (m : Option Mode) → Enters c m → Sound (c ∷ []) (x.at_entry [] c m)
    enter None h = item-sound c
    enter (Some mode) h = h

    go : (o : Option (Token Class)) (m : Option Mode) → IsSign c [] o → Enters c m
        → Sound (c ∷ []) (elim o [ None ↦ x.at_entry [] c m | Some token ↦ ends_with [] token ])
    go None m h k = enter m k
    go (Some token) m h k = (refl, refl, h)

escaped-sound : (c : ℕ) → Sound (0x5C ∷ c ∷ []) (x.an_item [] (escaped c))
escaped-sound c = go (escaped c) (λ m e. p.behind c m e)
  where
    go : (o : Option Member) → ((m : Member) → o ≡ Some m → SpelledToken (0x5C ∷ c ∷ []) (Item (class_of m))) → Sound (0x5C ∷ c ∷ []) (x.an_item [] o)
    go None f = tt
    go (Some m) f = (refl, refl, f m refl)

-- ---- a character

step-sound : (mode : Mode) (members : List Member) (c : ℕ) (front : List ℕ) → Before mode members front → Sound (front ++ c ∷ []) (x.at mode members c)
step-sound Between members c front (m, e) = subst (λ f. Sound (f
    ++ c ∷ []) (x.at_between members c)) (sym e) (subst (λ n. Sound (c ∷ []) (x.at_between n c)) (sym m) (between-sound c))
step-sound Escaped members c front (m, e) = subst (λ f. Sound (f
    ++ c ∷ []) (x.an_item members (escaped c))) (sym e) (subst (λ n. Sound (0x5C ∷ c ∷ []) (x.an_item n (escaped c))) (sym m) (escaped-sound c))
step-sound Bracket members c front h = bracket-sound members c front h
step-sound (Inside negated) members c front h = at_member-sound negated members c front h
step-sound (Got negated a) members c front h = got-sound negated members a c front h
step-sound (Dash negated a) members c front h = dash-sound negated members a c front h
step-sound (Escape negated) members c front h = escape-sound negated members c front h
step-sound (DashEscape negated a) members c front h = dash_escape-sound negated members a c front h
step-sound (Least k n) members c front h = least-sound members k n c front h
step-sound (Most low k n) members c front h = most-sound members low k n c front h

-- ---- a text

ended-between : (mode : Mode) (members : List Member) (front : List ℕ) (tokens : List (Token Class)) → Before mode members front
    → tokens_from mode members [] ≡ Some tokens → SpelledTokens tokens (front ++ [])
ended-between Between members front [] h e = ap (λ f. f ++ []) h.1
ended-between Between members front (token ∷ tokens) h e = cc
ended-between Escaped members front tokens h e = cc
ended-between Bracket members front tokens h e = cc
ended-between (Inside negated) members front tokens h e = cc
ended-between (Got negated a) members front tokens h e = cc
ended-between (Dash negated a) members front tokens h e = cc
ended-between (Escape negated) members front tokens h e = cc
ended-between (DashEscape negated a) members front tokens h e = cc
ended-between (Least k n) members front tokens h e = cc
ended-between (Most low k n) members front tokens h e = cc

-- the rest of what is read, where a token ended or goes on
abbrev Rest : Option (Token Class) → Option (List (Token Class)) → List (Token Class) → Type 0
Rest None o tokens = o ≡ Some tokens
Rest (Some token) o tokens = (others : List (Token Class)) × (tokens ≡ token ∷ others) × (o ≡ Some others)

rest_of : (ended : Option (Token Class)) (o : Option (List (Token Class))) (tokens : List (Token Class)) → with_token ended o ≡ Some tokens
    → Rest ended o tokens
rest_of None o tokens e = e
rest_of (Some token) None tokens e = cc
rest_of (Some token) (Some others) tokens e = (others, cc, refl)

-- the rest of the text is spelled, from any place in a token on
abbrev Next : List ℕ → Type 0
Next text = (mode : Mode) (members : List Member) (front : List ℕ) (tokens : List (Token Class)) → Before mode members front
    → tokens_from mode members text ≡ Some tokens → SpelledTokens tokens (front ++ text)

told-sound : (text : List ℕ) → Next text → (mode : Mode) (members : List Member) (ended : Option (Token Class)) (front : List ℕ) (tokens : List
    (Token Class)) → Told mode members ended front
    → Rest ended (tokens_from mode members text) tokens → SpelledTokens tokens (front ++ text)
told-sound text next mode members None front tokens h e = next mode members front tokens h e
told-sound text next mode members (Some token) front tokens (b, m, h) (others, e, k) =
    subst (λ ts. SpelledTokens ts (front ++ text)) (sym e) (
      front,
      text,
      refl,
      h,
      next mode members [] others (subst (λ d. Before d members []) (sym b) (
        m,
        refl,
      )) k,
    )

behind-sound : (text : List ℕ) → Next text → (o : Option Behind) (front : List ℕ) (tokens : List (Token Class)) → Sound front o
    → goes_on o text ≡ Some tokens → SpelledTokens tokens (front ++ text)
behind-sound text next None front tokens h e = cc
behind-sound text next (Some b) front tokens h e = told-sound text next b.mode b.members b.ended front tokens h (rest_of b.ended
    (tokens_from b.mode b.members text) tokens e)

from-sound : (text : List ℕ) → Next text
from-sound [] mode members front tokens h e = ended-between mode members front tokens h e
from-sound (c ∷ text) mode members front tokens h e =
    subst (SpelledTokens tokens) (append_assoc front (c ∷ []) text)
    (behind-sound text (from-sound text) (x.at mode members c) (front
    ++ c ∷ []) tokens (step-sound mode members c front h) (sym (goes-cons mode members c text) ∙ e))

pub tokens-spelled : (text : List ℕ) (tokens : List (Token Class)) → tokens_of text ≡ Some tokens → SpelledTokens tokens text
tokens-spelled text tokens e = from-sound text Between [] [] tokens (refl, refl) e
