-- Rules as bodies over numbers: a let or an assertion by its node, a rule that is extended by its place among the
-- abstract rules (ISO/IEC 19757-3, section 5.4.12, `extends`).
use Rattle.std.specs.Prelude.{ℕ, Bool, false, nat_eq, List, [], ◌∷◌, map, flat_map, Option, Some, None}
use Rattle.std.specs.List.{list_any, position_from}
use Rattle.schematron_graph.specs.declared.part.Part.{Part}
use Rattle.schematron_graph.specs.declared.part.Part.TheVariants.{Own, Puts}
use Rattle.schematron_graph.specs.Rules.{is_back}
use Rattle.schematron_meaning.specs.declared.attribute.Attribute.TheVariants as a
use Rattle.schematron_meaning.specs.declared.role.Role.{Role}
use Rattle.schematron_meaning.specs.declared.role.Role.TheVariants as r
use Rattle.schematron_meaning.specs.Entries.{Entry}
use Rattle.schematron_meaning.specs.Lookup.{attribute, says, is_assertion, is_abstract_rule, is_item, of_role, inside}

-- the abstract rules of the file, of whatever pattern; their numbers are their places here
abbrev pub abstract_rules : List Entry → List Entry
abstract_rules es = of_role is_abstract_rule es

-- the number of the first rule of that name
abbrev pub rule_named : List Entry → Option (List ℕ) → Option ℕ
rule_named rules None = None
rule_named rules (Some id) = position_from (says a.Id id) 0 rules

-- the number of the rule that an `extends` puts
abbrev pub put_by : List Entry → Entry → Option ℕ
put_by rules e = rule_named rules (attribute a.Rule e)

abbrev pub putting : Option ℕ → List Part
putting None = []
putting (Some rule) = Puts rule ∷ []

abbrev pub part_by : Role → List Entry → Entry → List Part
part_by r.Extends rules e = putting (put_by rules e)
part_by role rules e = Own (record { number = e.number; counts = is_assertion role }) ∷ []

abbrev pub body_at : List Entry → List Entry → ℕ → List Part
body_at es rules n = flat_map (λ (e : Entry). part_by e.role rules e) (inside is_item es n)

abbrev pub bodies_among : List Entry → List Entry → List (List Part)
bodies_among es rules = map (λ (rule : Entry). body_at es rules rule.number) rules

-- the bodies of the abstract rules
unfoldable pub bodies : List Entry → List (List Part)
bodies es = bodies_among es (abstract_rules es)

-- the number of the abstract rule at a node
abbrev pub rule_at : List Entry → ℕ → Option ℕ
rule_at rules n = position_from (λ (rule : Entry). nat_eq rule.number n) 0 rules

abbrev pub is_cycle_in : Option ℕ → List (List Part) → List Part → Bool
is_cycle_in None bodies parts = false
is_cycle_in (Some rule) bodies parts = list_any (is_back bodies rule) parts

-- Through this `extends` its own rule is reached again: only an abstract one can be.
abbrev pub is_cycle : List Entry → List (List Part) → Entry → Bool
is_cycle rules bodies e = is_cycle_in (rule_at rules e.parent) bodies (putting (put_by rules e))
