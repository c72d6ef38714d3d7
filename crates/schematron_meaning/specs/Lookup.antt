-- What is asked of the entries of a rule file.
use Rattle.std.specs.Prelude.{ℕ, Bool, true, false, ◌&&◌, nat_eq, List, filter, find, Option, Some, None, option_to_list}
use Rattle.std.specs.Str.{bytes_eq}
use Rattle.schematron_meaning.specs.declared.attribute.Attribute.{Attribute}
use Rattle.schematron_meaning.specs.declared.attribute.Attribute.TheVariants as a
use Rattle.schematron_meaning.specs.declared.role.Role.{Role}
use Rattle.schematron_meaning.specs.declared.role.Role.TheVariants as r
use Rattle.schematron_meaning.specs.Words.{attribute_word}
use Rattle.schematron_meaning.specs.Entries.{Entry, value_of}

abbrev pub attribute : Attribute → Entry → Option (List ℕ)
attribute name e = value_of (attribute_word name) e.given

-- The attribute is there with this value.
abbrev pub is_value : List ℕ → Option (List ℕ) → Bool
is_value value None = false
is_value value (Some other) = bytes_eq value other

abbrev pub says : Attribute → List ℕ → Entry → Bool
says name value e = is_value value (attribute name e)

-- what the root element is numbered
abbrev pub the_schema : ℕ
the_schema = 1

-- Roles

abbrev pub is_let : Role → Bool
is_let r.Let = true
is_let _ = false

abbrev pub is_parameter : Role → Bool
is_parameter r.Parameter = true
is_parameter _ = false

abbrev pub is_phase : Role → Bool
is_phase r.Phase = true
is_phase _ = false

abbrev pub is_active : Role → Bool
is_active r.Active = true
is_active _ = false

abbrev pub is_namespace : Role → Bool
is_namespace r.Namespace = true
is_namespace _ = false

-- a pattern that is judged, by itself or with what it uses
abbrev pub is_judged : Role → Bool
is_judged r.Pattern = true
is_judged r.Use = true
is_judged _ = false

abbrev pub is_abstract_pattern : Role → Bool
is_abstract_pattern r.AbstractPattern = true
is_abstract_pattern _ = false

abbrev pub is_pattern : Role → Bool
is_pattern r.Pattern = true
is_pattern r.Use = true
is_pattern r.AbstractPattern = true
is_pattern _ = false

abbrev pub is_own_pattern : Role → Bool
is_own_pattern r.Pattern = true
is_own_pattern _ = false

abbrev pub is_own_rule : Role → Bool
is_own_rule r.Rule = true
is_own_rule _ = false

abbrev pub is_abstract_rule : Role → Bool
is_abstract_rule r.AbstractRule = true
is_abstract_rule _ = false

abbrev pub is_rule : Role → Bool
is_rule r.Rule = true
is_rule r.AbstractRule = true
is_rule _ = false

abbrev pub is_assertion : Role → Bool
is_assertion r.Assert = true
is_assertion r.Report = true
is_assertion _ = false

-- a part of a message
abbrev pub is_part : Role → Bool
is_part r.ValueOf = true
is_part r.NodeName = true
is_part r.Characters = true
is_part _ = false

-- what stands in a rule: lets, assertions, and the rules that it extends
abbrev pub is_item : Role → Bool
is_item r.Let = true
is_item r.Assert = true
is_item r.Report = true
is_item r.Extends = true
is_item _ = false

-- Entries

-- those of a sort
abbrev pub of_role : (Role → Bool) → List Entry → List Entry
of_role is_so es = filter (λ (e : Entry). is_so e.role) es

-- those of a sort that stand in an element
abbrev pub inside : (Role → Bool) → List Entry → ℕ → List Entry
inside is_so es n = filter (λ (e : Entry). is_so e.role && nat_eq e.parent n) es

-- the one at a node, if there is one
abbrev pub at_node : List Entry → ℕ → List Entry
at_node es n = option_to_list (find (λ (e : Entry). nat_eq e.number n) es)

-- the first of a sort that has this attribute
abbrev pub named : (Role → Bool) → Attribute → List ℕ → List Entry → Option Entry
named is_so name value es = find (λ (e : Entry). is_so e.role && says name value e) es

-- the first of a sort that has the identifier that an element names, if it names one
abbrev pub identified : (Role → Bool) → Option (List ℕ) → List Entry → Option Entry
identified is_so None es = None
identified is_so (Some id) es = named is_so a.Id id es
