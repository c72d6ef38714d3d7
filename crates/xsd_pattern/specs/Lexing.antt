-- The tokens of a text, by a fold over its characters: no token's text begins another's, so nothing is looked ahead.
use Rattle.std.specs.Prelude.{ℕ, ◌+◌, ◌*◌, ◌-◌, Bool, true, false, ◌&&◌, List, [], ◌∷◌, ◌++◌, Option, Some, None, nat_le, nat_lt, ◌==◌, if◌then◌else◌, length}
use Rattle.std.specs.Prelude.{◌≡◌}
use Rattle.xsd_pattern.specs.declared.token.Member.{Member}
use Rattle.xsd_pattern.specs.declared.token.Member.TheVariants.{Range}
use Rattle.xsd_pattern.specs.declared.token.Class.{Class}
use Rattle.xsd_pattern.specs.declared.token.Repeat.TheVariants.{Question, Star, Plus, Counted}
use Rattle.xsd_pattern.specs.declared.token.Token.{Token}
use Rattle.xsd_pattern.specs.declared.token.Token.TheVariants.{Item, Quantifier, Opens, Closes, Bar, Begins, Ends}
use Rattle.xsd_pattern.specs.declared.mode.Mode.{Mode}
use Rattle.xsd_pattern.specs.declared.mode.Mode.TheVariants.{Between, Escaped, Bracket, Inside, Got, Dash, Escape, DashEscape, Least, Most}
use Rattle.xsd_pattern.specs.Classes.{is_digit, is_plain, is_plain_inside, escaped_one, escaped_several, escaped, single, class_of, any_but_line_feed}

-- behind a character: the mode, the members of the class that is open, and the token that ended
pub record Behind : Type 0 where
  pub mode : Mode
  pub members : List Member
  pub ended : Option (Token Class)

abbrev pub goes : Mode → List Member → Option Behind
goes mode members = Some (record { mode = mode; members = members; ended = None })

abbrev pub ends_with : List Member → Token Class → Option Behind
ends_with members token = Some (record { mode = Between; members = members; ended = Some token })

-- the token that is a character of its own
abbrev pub sign : ℕ → Option (Token Class)
sign c =
    if c == 0x3F then Some (Quantifier Question)
    else (if c == 0x2A then Some (Quantifier Star)
    else (if c == 0x2B then Some (Quantifier Plus)
    else (if c == 0x28 then Some Opens
    else (if c == 0x29 then Some Closes
    else (if c == 0x7C then Some Bar
    else (if c == 0x5E then Some Begins
    else (if c == 0x24 then Some Ends else None)))))))

-- where a token goes on that begins with the character
abbrev pub entered : ℕ → Option Mode
entered c = if c == 0x5C then Some Escaped else (if c == 0x7B then Some (Least 0 0) else (if c == 0x5B then Some Bracket else None))

abbrev pub at_item : List Member → ℕ → Option Behind
at_item members c =
    if c == 0x2E then ends_with members (Item any_but_line_feed)
    else (if is_plain c then ends_with members (Item (class_of (single c))) else None)

abbrev pub at_entry : List Member → ℕ → Option Mode → Option Behind
at_entry members c None = at_item members c
at_entry members c (Some mode) = goes mode members

abbrev pub at_sign : List Member → ℕ → Option (Token Class) → Option Behind
at_sign members c None = at_entry members c (entered c)
at_sign members c (Some token) = ends_with members token

abbrev pub at_between : List Member → ℕ → Option Behind
at_between members c = at_sign members c (sign c)

abbrev pub an_item : List Member → Option Member → Option Behind
an_item members None = None
an_item members (Some member) = ends_with members (Item (class_of member))

abbrev pub class_ended : Bool → List Member → Option Behind
class_ended negated members = if length members == 0 then None else ends_with [] (Item (record { negated = negated; members = members }))

-- a member begins
abbrev pub at_member : Bool → List Member → ℕ → Option Behind
at_member negated members c =
    if c == 0x5D then class_ended negated members
    else (if c == 0x5C then goes (Escape negated) members
    else (if is_plain_inside c then goes (Got negated c) members else None))

abbrev pub ranged : Bool → List Member → ℕ → ℕ → Option Behind
ranged negated members low high = if nat_le low high then goes (Inside negated) (members ++ Range low high ∷ []) else None

abbrev pub escape_ended : Bool → List Member → Option ℕ → Option Member → Option Behind
escape_ended negated members (Some c) several = goes (Got negated c) members
escape_ended negated members None (Some member) = goes (Inside negated) (members ++ member ∷ [])
escape_ended negated members None None = None

abbrev pub range_ended : Bool → List Member → ℕ → Option ℕ → Option Behind
range_ended negated members low None = None
range_ended negated members low (Some high) = ranged negated members low high

abbrev pub with_digit : ℕ → ℕ → ℕ
with_digit n c = 10 * n + (c - 0x30)

-- the value behind one more digit; none behind a fourth digit, and none above 1,000
abbrev pub digit_behind : ℕ → ℕ → ℕ → Option ℕ
digit_behind k n c = if nat_lt k 4 && nat_le (with_digit n c) 1000 then Some (with_digit n c) else None

abbrev pub least_on : List Member → ℕ → Option ℕ → Option Behind
least_on members k None = None
least_on members k (Some n) = goes (Least (k + 1) n) members

-- behind k digits of the value n
abbrev pub at_least : List Member → ℕ → ℕ → ℕ → Option Behind
at_least members k n c =
    if is_digit c then least_on members k (digit_behind k n c)
    else (if k == 0 then None
    else (if c == 0x7D then ends_with members (Quantifier (Counted n (Some 0)))
    else (if c == 0x2C then goes (Most n 0 0) members else None)))

abbrev pub most_on : List Member → ℕ → ℕ → Option ℕ → Option Behind
most_on members n k None = None
most_on members n k (Some m) = goes (Most n (k + 1) m) members

abbrev pub most_ended : List Member → ℕ → ℕ → ℕ → Option Behind
most_ended members n k m =
    if k == 0 then ends_with members (Quantifier (Counted n None))
    else (if nat_le n m then ends_with members (Quantifier (Counted n (Some (m - n)))) else None)

abbrev pub at_most : List Member → ℕ → ℕ → ℕ → ℕ → Option Behind
at_most members n k m c =
    if is_digit c then most_on members n k (digit_behind k m c)
    else (if c == 0x7D then most_ended members n k m else None)

abbrev pub at : Mode → List Member → ℕ → Option Behind
at Between members c = at_between members c
at Escaped members c = an_item members (escaped c)
at Bracket members c = if c == 0x5E then goes (Inside true) members else at_member false members c
at (Inside negated) members c = at_member negated members c
at (Got negated a) members c = if c == 0x2D then goes (Dash negated a) members else at_member negated (members ++ single a ∷ []) c
at (Dash negated a) members c = if c == 0x5C then goes (DashEscape negated a) members else (if is_plain_inside c then ranged negated members a c else None)
at (Escape negated) members c = escape_ended negated members (escaped_one c) (escaped_several c)
at (DashEscape negated a) members c = range_ended negated members a (escaped_one c)
at (Least k n) members c = at_least members k n c
at (Most n k m) members c = at_most members n k m c

abbrev pub is_between : Mode → Bool
is_between Between = true
is_between _ = false

abbrev pub with_token : Option (Token Class) → Option (List (Token Class)) → Option (List (Token Class))
with_token None tokens = tokens
with_token (Some token) None = None
with_token (Some token) (Some tokens) = Some (token ∷ tokens)

abbrev pub tokens_from : Mode → List Member → List ℕ → Option (List (Token Class))
tokens_from mode members [] = if is_between mode then Some [] else None
tokens_from mode members (c ∷ text) = elim (at mode members c) [ None ↦ None | Some b ↦ with_token b.ended (tokens_from b.mode b.members text) ]

-- the tokens of a text, none where it has a part that is none
abbrev pub tokens_of : List ℕ → Option (List (Token Class))
tokens_of text = tokens_from Between [] text

-- ---- the code's steps

abbrev pub with_ended : List (Token Class) → Option (Token Class) → List (Token Class)
with_ended tokens None = tokens
with_ended tokens (Some token) = tokens ++ token ∷ []

-- the next mode, the members and the tokens are those behind the character
abbrev pub Gives : Option Behind → Option Mode → List Member → List (Token Class) → List (Token Class) → Type 0
Gives None next members before tokens = next ≡ None
Gives (Some b) next members before tokens = (next ≡ Some b.mode) × (members ≡ b.members) × (tokens ≡ with_ended before b.ended)

-- tokens before those that follow
abbrev pub put_before : List (Token Class) → Option (List (Token Class)) → Option (List (Token Class))
put_before before None = None
put_before before (Some tokens) = Some (before ++ tokens)
