-- What an element of a rule file asks for (ISO/IEC 19757-3, 5.4: `include`, and `extends` with href). Only its own name,
-- its parent's and its attributes count. That an href is the name of a file as it stands, and what a good one is, is this
-- project's own.
use Rattle.std.specs.Prelude.{ℕ, Bool, true, false, ◌&&◌, ◌||◌, List, [], ◌∷◌, length, Option, Some, None, nat_le, ◌==◌, bytes_eq, codes, encode_utf8_all}
use Rattle.std.specs.Prelude.{if◌then◌else◌}
use Rattle.inv_base.specs.Tree.{Name}
use Rattle.inv_base.specs.declared.tree.Kind.TheVariants as kinds
use Rattle.xml_events.specs.Events.{name_at}
use Rattle.node_arena.specs.Document.{Placed}

abbrev pub schematron : List ℕ
schematron = codes "http://purl.oclc.org/dsdl/schematron"

-- a Schematron element's name
abbrev pub is_schematron : List ℕ → Name → Bool
is_schematron local name = bytes_eq name.uri schematron && bytes_eq name.local local

-- an attribute that an element has
pub record Given : Type 0 where
  pub name : Name
  pub value : List ℕ

-- the attributes right behind an element among the nodes behind it
abbrev pub given_at : List Name → List Placed → List Given
given_at names [] = []
given_at names (node ∷ nodes) = elim node.kind [
  | kinds.Document ↦ []
  | kinds.Element ↦ []
  | kinds.Attribute ↦ elim node.name [ None ↦ [] | Some n ↦ record { name = name_at names n; value = node.text } ∷ given_at names nodes ]
  | kinds.Text ↦ []
]

-- an attribute of that local name, in no namespace
abbrev pub is_plain : List ℕ → Given → Bool
is_plain local given = bytes_eq given.name.uri [] && bytes_eq given.name.local local

abbrev pub value_of : List ℕ → List Given → Option (List ℕ)
value_of local [] = None
value_of local (given ∷ others) = if is_plain local given then Some given.value else value_of local others

-- It stays; its href is bad; the root of a file in its place, or what is in that root.
pub data Asked : Type 0 where
  stays : Asked
  bad : Asked
  root_of : List ℕ → Asked
  inside_of : List ℕ → Asked

abbrev pub has_no_hash : List ℕ → Bool
has_no_hash [] = true
has_no_hash (byte ∷ bytes) = if byte == 0x23 then false else has_no_hash bytes

-- the name of a file: 1 to 200 bytes, none of them `#`
abbrev pub is_good : List ℕ → Bool
is_good bytes = nat_le 1 (length bytes) && (nat_le (length bytes) 200 && has_no_hash bytes)

abbrev pub root_by : List ℕ → Asked
root_by bytes = if is_good bytes then root_of bytes else bad

abbrev pub inside_by : List ℕ → Asked
inside_by bytes = if is_good bytes then inside_of bytes else bad

abbrev pub included : Option (List ℕ) → Asked
included None = bad
included (Some href) = root_by (encode_utf8_all href)

abbrev pub extended : Option (List ℕ) → Option (List ℕ) → Asked
extended rule None = stays
extended None (Some href) = inside_by (encode_utf8_all href)
extended (Some rule) (Some href) = bad

-- the parents whose includes are replaced
abbrev pub takes_roots : Option Name → Bool
takes_roots None = false
takes_roots (Some name) = is_schematron (codes "schema") name
    || (is_schematron (codes "phase") name || (is_schematron (codes "pattern") name || is_schematron (codes "rule") name))

-- the parents in which an extends with href is replaced
abbrev pub takes_insides : Option Name → Bool
takes_insides None = false
takes_insides (Some name) = is_schematron (codes "schema") name
    || (is_schematron (codes "pattern") name || is_schematron (codes "rule") name)

abbrev pub asked : Option Name → Name → List Given → Asked
asked parent name given =
    if is_schematron (codes "include") name && takes_roots parent then included (value_of (codes "href") given)
    else (if is_schematron (codes "extends") name && takes_insides parent
    then extended (value_of (codes "rule") given) (value_of (codes "href") given) else stays)
