-- The faults that an element shows by itself and by the names of others, in the order of their kinds.
use Rattle.std.specs.Prelude.{ℕ, Bool, true, false, ◌&&◌, ◌||◌, not, nat_eq, List, [], ◌∷◌, ◌++◌, flat_map, Option, Some, None, is_none, codes}
use Rattle.std.specs.List.{list_any}
use Rattle.std.specs.Str.{bytes_eq}
use Rattle.schematron_meaning.specs.declared.attribute.Attribute.{Attribute}
use Rattle.schematron_meaning.specs.declared.attribute.Attribute.TheVariants as a
use Rattle.schematron_meaning.specs.declared.fault.Fault.{Fault}
use Rattle.schematron_meaning.specs.declared.fault.RuleKind.{RuleKind}
use Rattle.schematron_meaning.specs.declared.fault.RuleKind.TheVariants as q
use Rattle.schematron_meaning.specs.declared.key.Space.{Space}
use Rattle.schematron_meaning.specs.declared.key.Space.TheVariants as s
use Rattle.schematron_meaning.specs.declared.role.Role.{Role}
use Rattle.schematron_meaning.specs.declared.role.Role.TheVariants as r
use Rattle.schematron_meaning.specs.Entries.{Entry}
use Rattle.schematron_meaning.specs.Lookup.{attribute, identified, is_judged}
use Rattle.schematron_meaning.specs.Bodies.{abstract_rules, put_by}
use Rattle.schematron_meaning.specs.Expansion.{pattern_used}

abbrev pub fault : RuleKind → Option Attribute → Entry → Fault
fault kind attribute e = record { kind = kind; node = e.number; attribute = attribute }

abbrev pub when : Bool → Fault → List Fault
when true fault = fault ∷ []
when false fault = []

-- The root

abbrev pub is_other_root : Role → Bool
is_other_root r.OtherRoot = true
is_other_root _ = false

abbrev pub is_known_binding : Option (List ℕ) → Bool
is_known_binding None = false
is_known_binding (Some binding) = bytes_eq binding (codes "xslt2") || bytes_eq binding (codes "xpath2")

abbrev pub is_schema : Role → Bool
is_schema r.Schema = true
is_schema _ = false

abbrev pub not_schematron : Entry → List Fault
not_schematron e = when (is_other_root e.role) (fault q.NotSchematron None e)

abbrev pub bad_binding : Entry → List Fault
bad_binding e = when (is_schema e.role && not (is_known_binding (attribute a.QueryBinding e))) (fault q.BadBinding (Some a.QueryBinding) e)

-- Elements and attributes

abbrev pub is_misplaced : Role → Bool
is_misplaced r.Misplaced = true
is_misplaced _ = false

abbrev pub bad_element : Entry → List Fault
bad_element e = when (is_misplaced e.role) (fault q.BadElement None e)

-- the attributes that have to be there
abbrev pub needed : Role → List Attribute
needed r.Namespace = a.Prefix ∷ a.Uri ∷ []
needed r.Let = a.Name ∷ a.Value ∷ []
needed r.Parameter = a.Name ∷ a.Value ∷ []
needed r.Phase = a.Id ∷ []
needed r.Active = a.Pattern ∷ []
needed r.AbstractPattern = a.Id ∷ []
needed r.Rule = a.Context ∷ []
needed r.AbstractRule = a.Id ∷ []
needed r.Extends = a.Rule ∷ []
needed r.Assert = a.Test ∷ []
needed r.Report = a.Test ∷ []
needed r.ValueOf = a.Select ∷ []
needed _ = []

abbrev pub missing_attribute : Entry → List Fault
missing_attribute e = flat_map (λ name. when (is_none (attribute name e)) (fault q.MissingAttribute (Some name) e)) (needed e.role)

-- Names that have to differ

-- what an element has a name among, if it has one
abbrev pub space_of : Role → Option Space
space_of r.Pattern = Some s.Patterns
space_of r.Use = Some s.Patterns
space_of r.AbstractPattern = Some s.Patterns
space_of r.Rule = Some s.Rules
space_of r.AbstractRule = Some s.Rules
space_of r.Phase = Some s.Phases
space_of r.Let = Some s.Variables
space_of r.Parameter = Some s.Variables
space_of _ = None

-- the attribute that is the name
abbrev pub naming : Space → Attribute
naming s.Variables = a.Name
naming _ = a.Id

-- Variables differ only from those beside them.
abbrev pub reach_of : Space → ℕ → ℕ
reach_of s.Variables parent = parent
reach_of _ parent = 0

-- a name, with what it has to differ among
pub record Key : Type 0 where
  pub space : Space
  pub reach : ℕ
  pub name : List ℕ

abbrev pub key_by : Space → ℕ → Option (List ℕ) → Option Key
key_by space parent None = None
key_by space parent (Some name) = Some (record { space = space; reach = reach_of space parent; name = name })

abbrev pub key_in : Option Space → Entry → Option Key
key_in None e = None
key_in (Some space) e = key_by space e.parent (attribute (naming space) e)

abbrev pub key_of : Entry → Option Key
key_of e = key_in (space_of e.role) e

abbrev pub is_same_space : Space → Space → Bool
is_same_space s.Patterns s.Patterns = true
is_same_space s.Rules s.Rules = true
is_same_space s.Phases s.Phases = true
is_same_space s.Variables s.Variables = true
is_same_space _ _ = false

abbrev pub is_same_key : Key → Key → Bool
is_same_key k m = is_same_space k.space m.space && (nat_eq k.reach m.reach && bytes_eq k.name m.name)

abbrev pub has_key : Key → Option Key → Bool
has_key k None = false
has_key k (Some other) = is_same_key k other

abbrev pub duplicate_by : List Entry → Entry → Option Key → List Fault
duplicate_by before e None = []
duplicate_by before e (Some k) = when (list_any (λ (other : Entry). has_key k (key_of other)) before) (fault q.DuplicateId (Some (naming k.space)) e)

-- One of the entries before it has its name.
abbrev pub duplicate_id : List Entry → Entry → List Fault
duplicate_id before e = duplicate_by before e (key_of e)

-- Names that have to be there

abbrev pub no_such_pattern_by : Role → List Entry → Entry → List Fault
no_such_pattern_by r.Use es e = when (is_none (pattern_used es e)) (fault q.NoSuchPattern (Some a.IsA) e)
no_such_pattern_by r.Active es e = when (is_none (identified is_judged (attribute a.Pattern e) es)) (fault q.NoSuchPattern (Some a.Pattern) e)
no_such_pattern_by _ es e = []

abbrev pub no_such_pattern : List Entry → Entry → List Fault
no_such_pattern es e = no_such_pattern_by e.role es e

abbrev pub is_extends : Role → Bool
is_extends r.Extends = true
is_extends _ = false

abbrev pub no_such_rule : List Entry → Entry → List Fault
no_such_rule rules e = when (is_extends e.role && is_none (put_by rules e)) (fault q.NoSuchRule (Some a.Rule) e)

-- All of these

-- what is declared wrongly at an element, where the entries before it are known
abbrev pub declared_at : List Entry → List Entry → List Entry → Entry → List Fault
declared_at es rules before e = not_schematron e ++ (bad_binding e ++ (bad_element e ++ (missing_attribute e ++ (duplicate_id before e
    ++ (no_such_pattern es e ++ no_such_rule rules e)))))

abbrev pub declared_behind : List Entry → List Entry → List Entry → List Entry → List Fault
declared_behind es rules before [] = []
declared_behind es rules before (e ∷ others) = declared_at es rules before e ++ declared_behind es rules (before ++ e ∷ []) others

abbrev pub first_in : List Fault → Option Fault
first_in [] = None
first_in (fault ∷ faults) = Some fault

-- the first of them in the file
unfoldable pub first_declared : List Entry → Option Fault
first_declared es = first_in (declared_behind es (abstract_rules es) [] es)
