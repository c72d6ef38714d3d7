-- What contracts say of the parts of tokens in the code.
use Rattle.std.specs.Prelude.{◌≡◌, ℕ, ◌<◌, max, Bool, true, false, ◌||◌, ◌==◌, List, [], ◌∷◌, ◌++◌, map, length, drop, chars, codes, Option, Some, None}
use Rattle.std.specs.Prelude.{option_map, option_and_then, Result, Ok, Err, if◌then◌else◌, String, string_bytes, encode_utf8}
use Rattle.std.specs.Borrow.{Bor}
use Rattle.std.specs.Global.{Global}
use Rattle.std.specs.List.{list_all, list_any, before_first, after_first}
use Rattle.std.specs.Str.{is_utf8}
use Rattle.inv_base.specs.Characters.{is_char}
use Rattle.xml_tokens.specs.declared.kind.XmlKind.{XmlKind}
use Rattle.xml_tokens.specs.declared.kind.XmlKind.TheVariants.{NotUtf8, BadChar}
use Rattle.xml_tokens.specs.Searches as searches
use Rattle.xml_tokens.specs.Searching.{quote_after}
use Rattle.xml_tokens.specs.Literals as literals
use Rattle.xml_tokens.specs.Markup as markup
use Rattle.xml_tokens.specs.Tags as tags
use Rattle.xml_tokens.specs.Beginnings as beginnings
use Rattle.xml_tokens.specs.Seen.{seen_token, seen_attribute, Shows}
use Rattle.xml_tokens.specs.declared.token.Token.{Token}
use Rattle.xml_tokens.specs.declared.token.Token.TheVariants.{Aside}
use Rattle.xml_tokens.specs.declared.beginning.Beginning.{Beginning}
use Rattle.xml_tokens.specs.declared.beginning.Beginning.TheVariants.{Good, Bad}
use Rattle.xml_tokens.specs.declared.scanning.TagEnd.{TagEnd}
use Rattle.xml_tokens.specs.declared.scanning.TagEnd.TheVariants.{Behind, NoneWithin, NoneYet}
use Rattle.xml_tokens.specs.declared.literals.Literal.{Literal}
use Rattle.xml_tokens.specs.declared.tags.Found.{Found}
use Rattle.xml_tokens.specs.declared.tags.Attributes.{Attributes}

-- an extent of so many bytes by what was read of its inside
abbrev pub beginning_of : ℕ → Result Token XmlKind → Beginning
beginning_of n (Ok token) = Good token n
beginning_of n (Err kind) = Bad kind n

-- The two say the same of an inside.
pub data Tells : Result Token XmlKind → Result markup.Token XmlKind → Type 0 where
  tells_token : (token : Token) → Tells (Ok token) (Ok (seen_token token))
  tells_kind : (kind : XmlKind) → Tells (Err kind) (Err kind)

-- an aside, or the kind
abbrev pub aside_if : Bool → XmlKind → Result Token XmlKind
aside_if right kind = if right then Ok Aside else Err kind

-- all characters of the text are Chars
abbrev pub are_chars : List ℕ → Bool
are_chars text = list_all is_char (chars text)

-- What stands inside an extent is this text, of Chars.
pub record IsRight (inside text : List ℕ) : Type 0 where
  pub same : text ≡ inside
  pub utf8 : is_utf8 inside ≡ true
  pub characters : list_all is_char (chars inside) ≡ true

-- It is no text of Chars, and the kind says why.
pub data IsWrong (inside : List ℕ) : XmlKind → Type 0 where
  no_utf8 : is_utf8 inside ≡ false → IsWrong inside NotUtf8
  no_chars : is_utf8 inside ≡ true → list_all is_char (chars inside) ≡ false → IsWrong inside BadChar

-- where a tag ends, of which so many bytes may be searched
pub data Ends (bytes : List ℕ) (room : ℕ) : TagEnd → Type 0 where
  ends_behind : (n : ℕ) → searches.tag_end bytes None room ≡ searches.behind n → n < length bytes → Ends bytes room (Behind n)
  ends_not_within : searches.tag_end bytes None room ≡ searches.none_within → Ends bytes room NoneWithin
  ends_not_yet : (quote : Option ℕ) → searches.tag_end bytes None room ≡ searches.none_yet → quote ≡ quote_after None bytes → Ends bytes room (NoneYet quote)

-- the tag of so many bytes, by what stands inside
pub data ShowsTag : Beginning → ℕ → List ℕ → Type 0 where
  shows_tag : (found : Beginning) (n : ℕ) (inside : List ℕ) → Shows found (beginnings.extent n inside tags.tag) → ShowsTag found n inside

-- The bytes behind a `<` begin a tag.
pub data BeginsTag : List ℕ → Type 0 where
  begins_tag : (b : ℕ) (bytes : List ℕ) → (b == 0x21) ≡ false → (b == 0x3F) ≡ false → BeginsTag (b ∷ bytes)

abbrev pub shared_with_any : List ℕ → ℕ
shared_with_any bytes = max (searches.shared_front (codes "--") bytes)
    (max (searches.shared_front (codes "[CDATA[") bytes) (searches.shared_front (codes "DOCTYPE") bytes))

abbrev pub ends_inside_any : List ℕ → Bool
ends_inside_any bytes = searches.ends_inside (codes "--") bytes ||
    (searches.ends_inside (codes "[CDATA[") bytes || searches.ends_inside (codes "DOCTYPE") bytes)

-- the first character of a text, and what is behind it
abbrev pub IsFirst : List ℕ → Option (ℕ × Bor (List ℕ)) → Type 0
IsFirst text None = text ≡ []
IsFirst text (Some found) = (text ≡ encode_utf8 found.0 ++ found.1.now) × (chars text ≡ found.0 ∷ chars found.1.now)

abbrev pub seen_text : Bor (List ℕ) → List ℕ
seen_text text = text.now

abbrev pub seen_literal : Literal → literals.Literal
seen_literal literal = record { value = literal.value.now; rest = literal.rest.now }

-- the literal that ends at the next such quote
abbrev pub ended_literal : ℕ → List ℕ → Option literals.Literal
ended_literal quote bytes =
    if list_any (λ b. b == quote) bytes
    then Some (record { value = before_first (λ b. b == quote) bytes; rest = after_first (λ b. b == quote) bytes })
    else None

-- the literal behind white space, the word and `=`
abbrev pub declared : List ℕ → List ℕ → Option literals.Literal
declared word bytes =
    if literals.begins_with_space bytes
    then option_and_then literals.literal_at (searches.behind_string word (literals.behind_white_space bytes))
    else None

-- the target of an instruction, and what is behind it
pub record IsTarget (inside front rest : List ℕ) : Type 0 where
  pub whole : inside ≡ front ++ rest
  pub target : chars front ≡ markup.target_of (chars inside)
  pub behind : chars rest ≡ drop (length (markup.target_of (chars inside))) (chars inside)

-- `&`, TAB, LF and CR in a value say something else than they show
abbrev pub says_more : ℕ → Bool
says_more b = b == 0x26 || (b == 0x9 || (b == 0xA || b == 0xD))

-- all of these are ASCII
abbrev pub AllLow : List ℕ → Type 0
AllLow [] = Unit {0}
AllLow (b ∷ bytes) = (b < 128) × AllLow bytes

-- So many bytes at the front are ASCII.
pub record LowFront (bytes : List ℕ) (n : ℕ) : Type 0 where
  pub front : List ℕ
  pub rest : List ℕ
  pub whole : bytes ≡ front ++ rest
  pub long : length front ≡ n
  pub low : AllLow front

abbrev pub says_own : String Global → List ℕ
says_own text = chars (string_bytes text)

abbrev pub seen_found : Found → tags.Found
seen_found found = record { name = found.name.now; value = found.value.now; rest = found.rest.now }

abbrev pub without_attributes : Bool → tags.Inside
without_attributes is_empty = record { attributes = []; is_empty = is_empty }

-- the attributes as they stand, before what stands inside
abbrev pub with_all : List tags.Found → tags.Inside → tags.Inside
with_all found inside = record { attributes = found ++ inside.attributes; is_empty = inside.is_empty }

-- The attributes at the front of the text are these, and what is behind them begins none.
pub record AreAttributes (text : List ℕ) (attributes : Attributes) : Type 0 where
  pub stand : List tags.Found
  pub whole : tags.tag_inside 0 text ≡ option_map (with_all stand) (tags.tag_inside 0 attributes.rest.now)
  pub values : tags.with_values stand ≡ (if attributes.are_right then Some (map seen_attribute attributes.found.items) else None)
  pub last : tags.attribute_at attributes.rest.now ≡ None

-- `<`, `&`, `]` and CR end a run
abbrev pub ends_run : ℕ → Bool
ends_run b = b == 0x3C || (b == 0x26 || (b == 0x5D || b == 0xD))
