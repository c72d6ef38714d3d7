-- How the tokens of a pattern are spelled. The profile is this project's own, after the patterns of XML Schema 1.0 part 2, appendix F.
use Rattle.std.specs.Prelude.{◌≡◌, ℕ, ◌+◌, ◌*◌, ◌-◌, ◌≤◌, Bool, true, false, List, [], ◌∷◌, ◌++◌, length, Some, None}
use Rattle.std.specs.List.{list_all}
use Rattle.xsd_pattern.specs.declared.token.Member.{Member}
use Rattle.xsd_pattern.specs.declared.token.Member.TheVariants.{Range}
use Rattle.xsd_pattern.specs.declared.token.Class.{Class}
use Rattle.xsd_pattern.specs.declared.token.Repeat.TheVariants.{Question, Star, Plus, Counted}
use Rattle.xsd_pattern.specs.declared.token.Token.{Token}
use Rattle.xsd_pattern.specs.declared.token.Token.TheVariants.{Item, Quantifier, Opens, Closes, Bar, Begins, Ends}
use Rattle.xsd_pattern.specs.Cuts.{Cut}
use Rattle.xsd_pattern.specs.Classes.{is_digit, is_plain, is_plain_inside, escaped_one, escaped_several, escaped, single, class_of, any_but_line_feed}
use Rattle.xsd_pattern.specs.Grammar.{Top, written}

-- a character in brackets: itself, or behind a backslash
pub data SpelledOne : List ℕ → ℕ → Type 0 where
  plain : (c : ℕ) → is_plain_inside c ≡ true → SpelledOne (c ∷ []) c
  behind : (letter c : ℕ) → escaped_one letter ≡ Some c → SpelledOne (0x5C ∷ letter ∷ []) c

-- a member of a class: a character, two with a dash between them and the ends in order, or one of \d \D \s \S
pub data SpelledMember : List ℕ → Member → Type 0 where
  alone : (text : List ℕ) (c : ℕ) → SpelledOne text c → SpelledMember text (single c)
  range : (first last : List ℕ) (low high : ℕ) → SpelledOne first low → SpelledOne last high → low ≤ high → SpelledMember (first
      ++ 0x2D ∷ last) (Range low high)
  several : (letter : ℕ) (member : Member) → escaped_several letter ≡ Some member → SpelledMember (0x5C ∷ letter ∷ []) member

abbrev pub SpelledMembers : List Member → List ℕ → Type 0
SpelledMembers [] text = text ≡ []
SpelledMembers (member ∷ members) text = Cut (λ front. SpelledMember front member) (SpelledMembers members) text

-- the value of digits behind a number
abbrev pub value_from : ℕ → List ℕ → ℕ
value_from n [] = n
value_from n (digit ∷ digits) = value_from (10 * n + (digit - 0x30)) digits

-- 1 to 4 digits, of a value of at most 1,000
pub record IsNumber (digits : List ℕ) (n : ℕ) : Type 0 where
  pub are_digits : list_all is_digit digits ≡ true
  pub some : 1 ≤ length digits
  pub few : length digits ≤ 4
  pub value : n ≡ value_from 0 digits
  pub small : n ≤ 1000

-- `^` where the class is the other characters
abbrev pub caret : Bool → List ℕ
caret true = 0x5E ∷ []
caret false = []

pub data SpelledToken : List ℕ → Token Class → Type 0 where
  dot : SpelledToken (0x2E ∷ []) (Item any_but_line_feed)
  plain : (c : ℕ) → is_plain c ≡ true → SpelledToken (c ∷ []) (Item (class_of (single c)))
  behind : (letter : ℕ) (member : Member) → escaped letter ≡ Some member → SpelledToken (0x5C ∷ letter ∷ []) (Item (class_of member))
  bracket : (negated : Bool) (text : List ℕ) (member : Member) (members : List Member) → SpelledMembers (member ∷ members) text
      → SpelledToken (0x5B ∷ (caret negated ++ (text ++ 0x5D ∷ []))) (Item (record { negated = negated; members = member ∷ members }))
  question : SpelledToken (0x3F ∷ []) (Quantifier Question)
  star : SpelledToken (0x2A ∷ []) (Quantifier Star)
  plus : SpelledToken (0x2B ∷ []) (Quantifier Plus)
  exactly : (digits : List ℕ) (n : ℕ) → IsNumber digits n → SpelledToken (0x7B ∷ (digits ++ 0x7D ∷ [])) (Quantifier (Counted n (Some 0)))
  at_least : (digits : List ℕ) (n : ℕ) → IsNumber digits n → SpelledToken (0x7B ∷ (digits ++ 0x2C ∷ 0x7D ∷ [])) (Quantifier (Counted n None))
  between : (digits others : List ℕ) (n m : ℕ) → IsNumber digits n → IsNumber others m → n ≤ m
      → SpelledToken (0x7B ∷ (digits ++ 0x2C ∷ (others ++ 0x7D ∷ []))) (Quantifier (Counted n (Some (m - n))))
  opens : SpelledToken (0x28 ∷ []) Opens
  closes : SpelledToken (0x29 ∷ []) Closes
  bar : SpelledToken (0x7C ∷ []) Bar
  begins : SpelledToken (0x5E ∷ []) Begins
  ends : SpelledToken (0x24 ∷ []) Ends

-- the text is cut into a spelling of each token
abbrev pub SpelledTokens : List (Token Class) → List ℕ → Type 0
SpelledTokens [] text = text ≡ []
SpelledTokens (token ∷ tokens) text = Cut (λ front. SpelledToken front token) (SpelledTokens tokens) text

-- the text spells the pattern
abbrev pub Spells : List ℕ → Top Class → Type 0
Spells text pattern = SpelledTokens (written pattern) text
