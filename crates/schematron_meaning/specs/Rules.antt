-- The rules of a file that has no fault (ISO/IEC 19757-3): patterns with the rules that they have and use, whose
-- expressions have their names resolved.
use Rattle.std.specs.Prelude.{ℕ, suc, Bool, true, false, List, [], ◌∷◌, map, Option, Some, None, option_map, Result, Ok, Err}
use Rattle.std.specs.List.{list_any}
use Rattle.inv_base.specs.Tree.{Node}
use Rattle.xpath_tokens.specs.declared.token.SyntaxFault.{SyntaxFault}
use Rattle.xpath_grammar.specs.Grammar.{Tree}
use Rattle.xpath_types.specs.Scopes.{Declared}
use Rattle.xpath_meaning.specs.Expressions as e
use Rattle.xpath_meaning.specs.Expressions.{Exp}
use Rattle.xpath_meaning.specs.Resolving.{resolved}
use Rattle.schematron_meaning.specs.declared.attribute.Attribute.{Attribute}
use Rattle.schematron_meaning.specs.declared.attribute.Attribute.TheVariants as a
use Rattle.schematron_meaning.specs.declared.assertion.AssertionKind.{AssertionKind}
use Rattle.schematron_meaning.specs.declared.assertion.AssertionKind.TheVariants as q
use Rattle.schematron_findings.specs.declared.level.Level.{Level}
use Rattle.schematron_findings.specs.Levels.{level_of}
use Rattle.schematron_meaning.specs.declared.role.Role.{Role}
use Rattle.schematron_meaning.specs.declared.role.Role.TheVariants as r
use Rattle.schematron_meaning.specs.Entries.{Entry, entries}
use Rattle.schematron_meaning.specs.Lookup.{attribute, says, the_schema, is_let, is_phase, is_active, is_own_rule, is_assertion, is_part, of_role, inside}
use Rattle.schematron_texts.specs.Replacing.{Parameter, replaced}
use Rattle.schematron_meaning.specs.Expansion.{File, file_of, Inclusion, inclusions, Instance, instances}
use Rattle.schematron_meaning.specs.Written.{prefixes, name_of, with_let, with_lets, schema_scope, outer_scope, pattern_scope, lets_among}
use Rattle.schematron_meaning.specs.declared.fault.Fault.{Fault}
use Rattle.schematron_meaning.specs.declared.fault.ExpressionFault.{ExpressionFault}
use Rattle.schematron_meaning.specs.Faults.{spelled, expression_fault, first_fault}

pub record Let : Type 0 where
  pub name : List ℕ
  pub value : Exp

-- a context or a test: its text as it is reported, and the expression
pub record Shown : Type 0 where
  pub text : List ℕ
  pub expression : Exp

-- a part of a message: a text, the values of an expression, or the name of the node
pub data Part : Type 0 where
  words : List ℕ → Part
  values : Exp → Part
  the_name : Part

pub record Assertion : Type 0 where
  pub kind : AssertionKind
  pub test : Shown
  pub id : Option (List ℕ)
  pub flag : Option (List ℕ)
  pub role : Option (List ℕ)
  pub level : Level
  pub message : List Part

pub record Rule : Type 0 where
  pub context : Shown
  pub lets : List Let
  pub assertions : List Assertion

pub record Pattern : Type 0 where
  pub id : Option (List ℕ)
  pub lets : List Let
  pub rules : List Rule

-- a phase with the numbers of its patterns, which are their places in the file
pub record Phase : Type 0 where
  pub id : Option (List ℕ)
  pub lets : List Let
  pub patterns : List ℕ

pub record Rules : Type 0 where
  pub default_phase : Option (List ℕ)
  pub lets : List Let
  pub phases : List Phase
  pub patterns : List Pattern

-- Expressions

abbrev pub expression_spelled : Declared → Result Tree SyntaxFault → Exp
expression_spelled scope (Err fault) = e.nothing
expression_spelled scope (Ok tree) = resolved scope [] tree

abbrev pub unless_refused : Option ExpressionFault → Exp → Exp
unless_refused None x = x
unless_refused (Some fault) x = e.nothing

-- the expression of a text in a scope; a text that is refused there says nothing
abbrev pub expression_in : Declared → Bool → List ℕ → Exp
expression_in scope is_pattern text = unless_refused (expression_fault is_pattern text scope) (expression_spelled scope (spelled is_pattern text))

-- the replaced value of an attribute; one that isn't there is empty
abbrev pub text_at : Attribute → List Parameter → Entry → Option (List ℕ)
text_at name params e = option_map (replaced params) (attribute name e)

abbrev pub or_empty : Option (List ℕ) → List ℕ
or_empty None = []
or_empty (Some text) = text

abbrev pub shown_text : Declared → Bool → List ℕ → Shown
shown_text scope is_pattern text = record { text = text; expression = expression_in scope is_pattern text }

abbrev pub shown : Attribute → Bool → List Parameter → Declared → Entry → Shown
shown name is_pattern params scope e = shown_text scope is_pattern (or_empty (text_at name params e))

abbrev pub let_of : List Parameter → Declared → Entry → Let
let_of params before e = record { name = or_empty (name_of params e); value = expression_in before false (or_empty (text_at a.Value params e)) }

-- lets, each in the scope of those before it
abbrev pub lets_behind : List Parameter → Declared → List Entry → List Let
lets_behind params before [] = []
lets_behind params before (e ∷ lets) = let_of params before e ∷ lets_behind params (with_let params before e) lets

-- Assertions

abbrev pub kind_of : Role → AssertionKind
kind_of r.Report = q.Report
kind_of _ = q.Assert

abbrev pub part_by : Role → List Parameter → Declared → Entry → Part
part_by r.ValueOf params scope e = values (shown a.Select false params scope e).expression
part_by r.NodeName params scope e = the_name
part_by _ params scope e = words e.text

-- texts aren't replaced
abbrev pub message_of : List Entry → List Parameter → Declared → Entry → List Part
message_of es params scope e = map (λ (part : Entry). part_by part.role params scope part) (inside is_part es e.number)

abbrev pub assertion_of : List Entry → List Parameter → Declared → Entry → Assertion
assertion_of es params scope e =
    let flag : Option (List ℕ) = text_at a.Flag params e in
    let role : Option (List ℕ) = text_at a.Role params e in
    record {
      kind = kind_of e.role;
      test = shown a.Test false params scope e;
      id = text_at a.Id params e;
      flag = flag;
      role = role;
      level = level_of flag role;
      message = message_of es params scope e;
    }

-- the assertions among what a rule has
abbrev pub assertions_among : List Inclusion → List Entry
assertions_among found = of_role is_assertion (map (λ (inclusion : Inclusion). inclusion.entry) found)

-- Rules and patterns

abbrev pub rule_of : File → Instance → Declared → Entry → Rule
rule_of file instance outer rule =
    let found : List Inclusion = inclusions file instance.stand rule.number in
    let lets : List Entry = lets_among found in
    record {
      context = shown a.Context true instance.params outer rule;
      lets = lets_behind instance.params outer lets;
      assertions = map (assertion_of file.entries instance.params (with_lets instance.params outer lets)) (assertions_among found);
    }

abbrev pub pattern_of : File → Declared → Instance → Pattern
pattern_of file outer instance = record {
  id = attribute a.Id instance.pattern;
  lets = lets_behind instance.params outer (inside is_let file.entries instance.body);
  rules = map (rule_of file instance (pattern_scope file.entries outer instance)) (inside is_own_rule file.entries instance.body);
}

-- Phases

-- the element names the pattern
abbrev pub names_pattern : Option (List ℕ) → Entry → Bool
names_pattern None e = false
names_pattern (Some id) e = says a.Pattern id e

-- the numbers of the patterns that are named, each once, in the order of the file
abbrev pub numbers_named : List Entry → ℕ → List Instance → List ℕ
numbers_named actives n [] = []
numbers_named actives n (instance ∷ others) = elim (list_any (names_pattern (attribute a.Id instance.pattern)) actives) [
  | true ↦ n ∷ numbers_named actives (suc n) others
  | false ↦ numbers_named actives (suc n) others
]

abbrev pub phase_of : List Entry → Entry → Phase
phase_of es e = record {
  id = attribute a.Id e;
  lets = lets_behind [] (schema_scope es) (inside is_let es e.number);
  patterns = numbers_named (inside is_active es e.number) 0 (instances es);
}

abbrev pub default_phase_of : List Entry → Option (List ℕ)
default_phase_of [] = None
default_phase_of (e ∷ es) = attribute a.DefaultPhase e

abbrev pub compiled : File → Rules
compiled file = record {
  default_phase = default_phase_of file.entries;
  lets = lets_behind [] (prefixes file.entries) (inside is_let file.entries the_schema);
  phases = map (phase_of file.entries) (of_role is_phase file.entries);
  patterns = map (pattern_of file (outer_scope file.entries)) (instances file.entries);
}

abbrev pub rules_unless : Option Fault → File → Result Rules Fault
rules_unless None file = Ok (compiled file)
rules_unless (Some fault) file = Err fault

-- the rules of the file with these nodes, or its first fault
unfoldable pub rules_of : List Node → Result Rules Fault
rules_of nodes = rules_unless (first_fault nodes) (file_of (entries nodes))
