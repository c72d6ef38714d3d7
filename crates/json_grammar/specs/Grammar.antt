-- JSON texts by their grammar (RFC 8259, sections 2 to 5): what they are made of, as trees, and how these are spelled. White space stands
-- in front of what follows it.
use Rattle.std.specs.Prelude.{ℕ, suc, max, Bool, true, false, ◌&&◌, List, [], ◌∷◌, ◌++◌, Option, Some, None, codes, if◌then◌else◌}
use Rattle.std.specs.List.{list_all}
use Rattle.json_reading.specs.Bytes.{is_space}
use Rattle.json_grammar.specs.Strings.{Piece, quoted, are_pieces}
use Rattle.json_grammar.specs.Numbers.{Number, number_text, is_number}

-- the three words that are values
pub data Word : Type 0 where
  true_word : Word
  false_word : Word
  null_word : Word

abbrev pub word_text : Word → List ℕ
word_text true_word = codes "true"
word_text false_word = codes "false"
word_text null_word = codes "null"

-- a member's name, and the white space before and behind its colon
pub record Name : Type 0 where
  pub pieces : List Piece
  pub before : List ℕ
  pub behind : List ℕ

-- A value; and what stands inside an array or object: white space in front of its end, or a member or item and what stands behind it.
-- That has white space in front of its comma, if it is not the first, and in front of itself, and a name if it is a member.
mutual
  pub data Value : Type 0 where
    word : Word → Value
    number : Number → Value
    string : List Piece → Value
    array : Elements → Value
    object : Elements → Value

  pub data Elements : Type 0 where
    no_more : List ℕ → Elements
    element : List ℕ → List ℕ → Option Name → Value → Elements → Elements

-- the comma between two
abbrev pub comma_text : Bool → List ℕ → List ℕ
comma_text first space = if first then [] else space ++ 0x2C ∷ []

abbrev pub name_text : Option Name → List ℕ
name_text (Some n) = quoted n.pieces ++ (n.before ++ 0x3A ∷ n.behind)
name_text None = []

abbrev mutual
  pub value_text : Value → List ℕ
  value_text (word w) = word_text w
  value_text (number n) = number_text n
  value_text (string pieces) = quoted pieces
  value_text (array es) = 0x5B ∷ (elements_text true es ++ 0x5D ∷ [])
  value_text (object es) = 0x7B ∷ (elements_text true es ++ 0x7D ∷ [])

  -- the first of them stands right behind the opening bracket, or not
  pub elements_text : Bool → Elements → List ℕ
  elements_text first (no_more space) = space
  elements_text first (element comma space name value rest) =
      comma_text first comma ++ (space ++ (name_text name ++ (value_text value ++ elements_text false rest)))

-- a whole text: whether a byte order mark stands in front of it, white space, a value, white space
pub record Text : Type 0 where
  pub mark : Bool
  pub before : List ℕ
  pub value : Value
  pub behind : List ℕ

abbrev pub mark_text : Bool → List ℕ
mark_text mark = if mark then 0xEF ∷ 0xBB ∷ 0xBF ∷ [] else []

abbrev pub text_bytes : Text → List ℕ
text_bytes t = mark_text t.mark ++ (t.before ++ (value_text t.value ++ t.behind))

-- ---- each part is as the grammar has it

abbrev pub are_spaces : List ℕ → Bool
are_spaces space = list_all is_space space

-- exactly members of objects have names
abbrev pub is_name : Bool → Option Name → Bool
is_name true (Some n) = are_pieces n.pieces && (are_spaces n.before && are_spaces n.behind)
is_name true None = false
is_name false (Some n) = false
is_name false None = true

abbrev mutual
  pub is_value : Value → Bool
  is_value (word w) = true
  is_value (number n) = is_number n
  is_value (string pieces) = are_pieces pieces
  is_value (array es) = are_elements false es
  is_value (object es) = are_elements true es

  pub are_elements : Bool → Elements → Bool
  are_elements members (no_more space) = are_spaces space
  are_elements members (element comma space name value rest) =
      are_spaces comma && (are_spaces space && (is_name members name && (is_value value && are_elements members rest)))

abbrev pub is_text : Text → Bool
is_text t = are_spaces t.before && (is_value t.value && are_spaces t.behind)

-- how many arrays and objects are inside one another at most
abbrev mutual
  pub depth : Value → ℕ
  depth (word w) = 0
  depth (number n) = 0
  depth (string pieces) = 0
  depth (array es) = suc (elements_depth es)
  depth (object es) = suc (elements_depth es)

  pub elements_depth : Elements → ℕ
  elements_depth (no_more space) = 0
  elements_depth (element comma space name value rest) = max (depth value) (elements_depth rest)
