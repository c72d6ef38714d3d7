-- The expressions of a rule file as they are judged: each wherever it is put, with the parameters' values in it, in the
-- scope in which it stands there (ISO/IEC 19757-3, sections 5.4.6 and 5.4.8).
use Rattle.std.specs.Prelude.{ℕ, Bool, true, false, ◌||◌, List, [], ◌∷◌, ◌++◌, map, fold, flat_map, Option, Some, None}
use Rattle.xpath_types.specs.Scopes.{Declared, with_prefix, with_variable}
use Rattle.schematron_meaning.specs.declared.attribute.Attribute.{Attribute}
use Rattle.schematron_meaning.specs.declared.attribute.Attribute.TheVariants as a
use Rattle.schematron_meaning.specs.declared.role.Role.{Role}
use Rattle.schematron_meaning.specs.Entries.{Entry}
use Rattle.schematron_meaning.specs.Lookup.{attribute, the_schema, is_let, is_phase, is_namespace, is_own_rule, is_part, of_role, inside}
use Rattle.schematron_texts.specs.Replacing.{Parameter, replaced}
use Rattle.schematron_meaning.specs.Expansion.{File, Inclusion, or_itself, inclusions, Instance, instances}

-- An expression: the element at which its faults stand, the one that holds it, the attribute, whether it is to be a
-- pattern, its text, and what is declared around it.
pub record Written : Type 0 where
  pub stand : ℕ
  pub holder : ℕ
  pub attribute : Attribute
  pub is_pattern : Bool
  pub text : List ℕ
  pub scope : Declared

-- Scopes

abbrev pub declare_prefix : Option (List ℕ) → Option (List ℕ) → Declared → Declared
declare_prefix (Some prefix) (Some uri) scope = with_prefix scope prefix uri
declare_prefix _ _ scope = scope

abbrev pub prefix_of_entry : Entry → Declared → Declared
prefix_of_entry e scope = declare_prefix (attribute a.Prefix e) (attribute a.Uri e) scope

-- Each `ns` counts in the whole file, and of one prefix the first.
abbrev pub prefixes : List Entry → Declared
prefixes es = fold (λ scope (e : Entry). prefix_of_entry e scope) (record { prefixes = []; variables = [] }) (of_role is_namespace es)

-- the name that a let declares
abbrev pub name_of : List Parameter → Entry → Option (List ℕ)
name_of params e = elim (attribute a.Name e) [ None ↦ None | Some name ↦ Some (replaced params name) ]

abbrev pub declare : Declared → Option (List ℕ) → Declared
declare scope None = scope
declare scope (Some name) = with_variable scope name

abbrev pub with_let : List Parameter → Declared → Entry → Declared
with_let params scope e = declare scope (name_of params e)

-- the scope with these lets, the first first
abbrev pub with_lets : List Parameter → Declared → List Entry → Declared
with_lets params scope lets = fold (with_let params) scope lets

-- what the whole file declares: prefixes and the schema's lets
abbrev pub schema_scope : List Entry → Declared
schema_scope es = with_lets [] (prefixes es) (inside is_let es the_schema)

-- the lets of all phases
abbrev pub phase_lets : List Entry → List Entry
phase_lets es = flat_map (λ (phase : Entry). inside is_let es phase.number) (of_role is_phase es)

-- what is declared in all patterns: a name that some phase has stands in each
abbrev pub outer_scope : List Entry → Declared
outer_scope es = with_lets [] (schema_scope es) (phase_lets es)

-- Expressions

abbrev pub written_text : Attribute → Bool → Option ℕ → List Parameter → Declared → Entry → Option (List ℕ) → List Written
written_text _ is_pattern stand params scope e None = []
written_text name is_pattern stand params scope e (Some text) =
    record { stand = or_itself stand e.number; holder = e.number; attribute = name; is_pattern = is_pattern; text = replaced params text; scope = scope } ∷ []

-- the expression of an attribute, if it is there
abbrev pub written : Attribute → Bool → Option ℕ → List Parameter → Declared → Entry → List Written
written name is_pattern stand params scope e = written_text name is_pattern stand params scope e (attribute name e)

-- a let of schema, phase or pattern, and of a rule
abbrev pub written_let : Option ℕ → List Parameter → Declared → Entry → List Written
written_let stand params scope e = written a.Value false stand params scope e

-- the lets, each behind those before it
abbrev pub written_lets : Declared → List Entry → List Written
written_lets before [] = []
written_lets before (e ∷ lets) = written_let None [] before e ++ written_lets (with_let [] before e) lets

-- a test, and what its message asks for
abbrev pub written_assertion : List Entry → List Parameter → Declared → Inclusion → List Written
written_assertion es params all inclusion = written a.Test false inclusion.stand params all inclusion.entry
    ++ flat_map (λ (part : Entry). written a.Select false inclusion.stand params all part) (inside is_part es inclusion.entry.number)

-- Lets and assertions of a rule: a let sees those before it, an assertion all.
abbrev pub written_puts : List Entry → List Parameter → Declared → Declared → List Inclusion → List Written
written_puts es params all before [] = []
written_puts es params all before (inclusion ∷ others) = elim (is_let inclusion.entry.role) [
  | true ↦ written_let inclusion.stand params before inclusion.entry ++ written_puts es params all (with_let params before inclusion.entry) others
  | false ↦ written_assertion es params all inclusion ++ written_puts es params all before others
]

-- the lets among them
abbrev pub lets_among : List Inclusion → List Entry
lets_among found = of_role is_let (map (λ (inclusion : Inclusion). inclusion.entry) found)

-- A rule in a pattern: its own lets aren't there yet where its context is looked for.
abbrev pub written_rule : File → Instance → Declared → Entry → List Written
written_rule file instance outer rule =
    let found : List Inclusion = inclusions file instance.stand rule.number in
    written a.Context true instance.stand instance.params outer rule
    ++ written_puts file.entries instance.params (with_lets instance.params outer (lets_among found)) outer found

abbrev pub is_let_or_rule : Role → Bool
is_let_or_rule role = is_let role || is_own_rule role

-- Lets and rules of a pattern: a let sees those before it, a rule all.
abbrev pub written_items : File → Instance → Declared → Declared → List Entry → List Written
written_items file instance all before [] = []
written_items file instance all before (e ∷ others) = elim (is_let e.role) [
  | true ↦ written_let instance.stand instance.params before e ++ written_items file instance all (with_let instance.params before e) others
  | false ↦ written_rule file instance all e ++ written_items file instance all before others
]

-- what is declared in all rules of a pattern
abbrev pub pattern_scope : List Entry → Declared → Instance → Declared
pattern_scope es outer instance = with_lets instance.params outer (inside is_let es instance.body)

abbrev pub written_pattern : File → Declared → Instance → List Written
written_pattern file outer instance =
    written_items file instance (pattern_scope file.entries outer instance) outer (inside is_let_or_rule file.entries instance.body)

-- a phase sees all lets of the schema
abbrev pub written_phases : List Entry → List Written
written_phases es = flat_map (λ (phase : Entry). written_lets (schema_scope es) (inside is_let es phase.number)) (of_role is_phase es)

-- all expressions of the file, in the order in which they are put
unfoldable pub all_written : File → List Written
all_written file = written_lets (prefixes file.entries) (inside is_let file.entries the_schema)
    ++ (written_phases file.entries ++ flat_map (written_pattern file (outer_scope file.entries)) (instances file.entries))
