-- What private functions answer of abstract rules.
use Rattle.std.specs.Prelude.{◌≡◌, ℕ, Bool, cond, List, [], map, drop, chars, encode_utf8_all, Option, Some, None}
use Rattle.std.specs.Str.{bytes_eq}
use Rattle.indexmap.specs.IndexMap.{IndexMap, get_by}
use Rattle.schematron_graph.specs.declared.part.Part.{Part}
use Rattle.schematron_meaning.specs.declared.attribute.Attribute.TheVariants as a
use Rattle.schematron_meaning.specs.Entries.{Entry}
use Rattle.schematron_meaning.specs.Lookup.{attribute, is_value, is_item}
use Rattle.schematron_meaning.specs.Bodies.{abstract_rules, rule_named, part_by, body_at}

-- Names

-- what is kept of a text
abbrev pub named_in : {K S : Type 0} → (K → List ℕ) → IndexMap K ℕ S → List ℕ → Option ℕ
named_in text names id = get_by (λ key. bytes_eq id (text key)) names

-- Of each text the place of the first rule that has it as its name is known.
abbrev pub AreNames : (List ℕ → Option ℕ) → List Entry → Type 0
AreNames names rules = (id : List ℕ) → encode_utf8_all (chars id) ≡ id → names id ≡ rule_named rules (Some (chars id))

-- All abstract rules of the entries are known.
pub record AreRules (nodes : List ℕ) (names : List ℕ → Option ℕ) (es : List Entry) : Type 0 where
  pub nodes_are : nodes ≡ map (λ (rule : Entry). rule.number) (abstract_rules es)
  pub names_are : AreNames names (abstract_rules es)

abbrev pub id_of : Entry → Option (List ℕ)
id_of e = attribute a.Id e

-- what was found, else the place if it is the one
abbrev pub found_or : Option ℕ → Bool → ℕ → Option ℕ
found_or (Some found) is_here place = Some found
found_or None is_here place = cond is_here (Some place) None

-- The names are as before, and one more that stands at the place.
abbrev pub AddsName : (List ℕ → Option ℕ) → (List ℕ → Option ℕ) → Option (List ℕ) → ℕ → Type 0
AddsName old new name place = (id : List ℕ) → encode_utf8_all (chars id) ≡ id → new id ≡ found_or (old id) (is_value (chars id) name) place

-- Bodies

abbrev pub parents : List Entry → List ℕ
parents es = map (λ (e : Entry). e.parent) es

-- what an entry puts in the rule that it stands in
abbrev pub parts_at : List Entry → Entry → List Part
parts_at rules e = cond (is_item e.role) (part_by e.role rules e) []

abbrev pub body_of_all : List Entry → ℕ → List Part
body_of_all es n = body_at es (abstract_rules es) n

abbrev pub bodies_at : List Entry → List ℕ → List (List Part)
bodies_at es nodes = map (body_of_all es) nodes

-- the entries from a place on
abbrev pub from_place : List Entry → Option ℕ → List Entry
from_place es None = []
from_place es (Some at) = drop at es
