-- What stands where rules and patterns are used: the things of a rule with those that it extends, and patterns with the
-- lets and rules of the ones that they use (ISO/IEC 19757-3, sections 5.4.10 and 5.4.12).
use Rattle.std.specs.Prelude.{ℕ, List, [], ◌∷◌, map, flat_map, fold, Option, Some, None}
use Rattle.schematron_graph.specs.declared.part.Part.{Part}
use Rattle.schematron_graph.specs.declared.part.Thing.{Thing}
use Rattle.schematron_graph.specs.Rules.{things_put}
use Rattle.schematron_meaning.specs.declared.attribute.Attribute.TheVariants as a
use Rattle.schematron_meaning.specs.declared.role.Role.{Role}
use Rattle.schematron_meaning.specs.declared.role.Role.TheVariants as r
use Rattle.schematron_texts.specs.Replacing.{Parameter, with_parameter}
use Rattle.schematron_meaning.specs.Entries.{Entry}
use Rattle.schematron_meaning.specs.Lookup.{attribute, identified, is_abstract_pattern, is_item, is_parameter, inside, at_node}
use Rattle.schematron_meaning.specs.Bodies.{abstract_rules, bodies, put_by}

-- what a file has: its entries, its abstract rules, and their bodies
pub record File : Type 0 where
  pub entries : List Entry
  pub rules : List Entry
  pub bodies : List (List Part)

abbrev pub file_of : List Entry → File
file_of es = record { entries = es; rules = abstract_rules es; bodies = bodies es }

-- A let or an assertion in a rule, with the element at which its faults stand where that isn't itself: the one by which
-- it was put there. Of several it is the outermost.
pub record Inclusion : Type 0 where
  pub stand : Option ℕ
  pub entry : Entry

abbrev pub or_itself : Option ℕ → ℕ → ℕ
or_itself None n = n
or_itself (Some stand) n = stand

abbrev pub put_at_stand : Option ℕ → Entry → Inclusion
put_at_stand stand e = record { stand = stand; entry = e }

-- what stands at the place of an `extends`
abbrev pub put_at : File → Option ℕ → Option ℕ → List Inclusion
put_at file stand None = []
put_at file stand (Some rule) = flat_map (λ (thing : Thing). map (put_at_stand stand) (at_node file.entries thing.number)) (things_put file.bodies rule)

-- the outer of two stands
abbrev pub outer_of : Option ℕ → ℕ → Option ℕ
outer_of stand n = Some (or_itself stand n)

abbrev pub puts_by : Role → File → Option ℕ → Entry → List Inclusion
puts_by r.Extends file stand e = put_at file (outer_of stand e.number) (put_by file.rules e)
puts_by _ file stand e = put_at_stand stand e ∷ []

-- the lets and assertions of a rule, where all stand at one element if one is given
abbrev pub inclusions : File → Option ℕ → ℕ → List Inclusion
inclusions file stand n = flat_map (λ (e : Entry). puts_by e.role file stand e) (inside is_item file.entries n)

-- A pattern that is judged, with the element whose lets and rules it has: its own, or those of the one that it uses.
-- Faults of the latter stand at the pattern that uses it.
pub record Instance : Type 0 where
  pub pattern : Entry
  pub body : ℕ
  pub stand : Option ℕ
  pub params : List Parameter

abbrev pub with_given : List Parameter → Option (List ℕ) → Option (List ℕ) → List Parameter
with_given params (Some name) (Some value) = with_parameter params name value
with_given params _ _ = params

-- the parameters that a pattern gives: the first of a name counts
abbrev pub parameters : List Entry → ℕ → List Parameter
parameters es n = fold (λ params (e : Entry). with_given params (attribute a.Name e) (attribute a.Value e)) [] (inside is_parameter es n)

abbrev pub used_by : List Entry → Entry → Option Entry → List Instance
used_by es e None = []
used_by es e (Some body) = record { pattern = e; body = body.number; stand = Some e.number; params = parameters es e.number } ∷ []

-- the abstract pattern that a pattern uses
abbrev pub pattern_used : List Entry → Entry → Option Entry
pattern_used es e = identified is_abstract_pattern (attribute a.IsA e) es

abbrev pub instance_by : Role → List Entry → Entry → List Instance
instance_by r.Pattern es e = record { pattern = e; body = e.number; stand = None; params = [] } ∷ []
instance_by r.Use es e = used_by es e (pattern_used es e)
instance_by _ es e = []

-- a pattern that is judged, as one; no other element, and none whose abstract pattern isn't there
abbrev pub instance_of : List Entry → Entry → List Instance
instance_of es e = instance_by e.role es e

abbrev pub instances : List Entry → List Instance
instances es = flat_map (instance_of es) es
