-- Names of elements as they are kept in a set.
use Rattle.std.specs.Prelude.{◌≡◌, ℕ, Bool, true, false, ◌&&◌, not, nat_eq, List, [], ◌∷◌, ◌++◌, chars, encode_utf8_all, if◌then◌else◌, Option, Some, None}
use Rattle.std.specs.Prelude.{option_map}
use Rattle.std.specs.List.{list_any, AllByRecursion}
use Rattle.std.specs.Str.{bytes_eq}
use Rattle.schematron_meaning.specs.declared.attribute.Attribute.TheVariants as a
use Rattle.schematron_meaning.specs.declared.fault.Fault.{Fault}
use Rattle.schematron_meaning.specs.declared.fault.RuleKind.TheVariants as q
use Rattle.schematron_meaning.specs.declared.key.Space.{Space}
use Rattle.schematron_meaning.specs.declared.key.Space.TheVariants as s
use Rattle.schematron_meaning.specs.declared.role.Role.{Role}
use Rattle.schematron_meaning.specs.declared.role.Role.TheVariants as r
use Rattle.schematron_meaning.specs.Entries as spec
use Rattle.schematron_meaning.specs.Lookup.{attribute}
use Rattle.schematron_meaning.specs.Showing as show
use Rattle.schematron_entries.specs.declared.keys.Sort.{Sort}
use Rattle.schematron_entries.specs.declared.keys.Sort.TheVariants as t
use Rattle.schematron_entries.specs.declared.keys.Key.{Key}

pub record SeenKey : Type 0 where
  pub sort : Sort
  pub reach : ℕ
  pub name : List ℕ

abbrev pub seen_key : Key → SeenKey
seen_key key = record { sort = key.sort; reach = key.reach; name = chars key.name.now }

abbrev pub is_same_sort : Sort → Sort → Bool
is_same_sort t.Patterns t.Patterns = true
is_same_sort t.Rules t.Rules = true
is_same_sort t.Phases t.Phases = true
is_same_sort t.Variables t.Variables = true
is_same_sort t.Judged t.Judged = true
is_same_sort t.AbstractPatterns t.AbstractPatterns = true
is_same_sort t.AbstractRules t.AbstractRules = true
is_same_sort _ _ = false

abbrev pub is_same : SeenKey → SeenKey → Bool
is_same k m = is_same_sort k.sort m.sort && (nat_eq k.reach m.reach && bytes_eq k.name m.name)

-- one key more, unless it is there
abbrev pub with_key : List SeenKey → SeenKey → List SeenKey
with_key keys k = if list_any (is_same k) keys then keys else keys ++ k ∷ []

-- Each name is the bytes of its characters.
abbrev pub AreTexts : List Key → Type 0
AreTexts keys = AllByRecursion (λ (key : Key). encode_utf8_all (chars key.name.now) ≡ key.name.now) keys

-- The keys of entries

-- the key may be there, and is this one
abbrev pub has : SeenKey → Option SeenKey → Bool
has k None = false
has k (Some m) = is_same k m

-- one key more, if there is one
abbrev pub with_option : List SeenKey → Option SeenKey → List SeenKey
with_option keys None = keys
with_option keys (Some k) = with_key keys k

-- The keys are those of the entries.
abbrev pub AreKeysOf : (spec.Entry → Option SeenKey) → List SeenKey → List spec.Entry → Type 0
AreKeysOf key keys es = (k : SeenKey) → list_any (is_same k) keys ≡ list_any (λ (e : spec.Entry). has k (key e)) es

abbrev pub sort_of : Space → Sort
sort_of s.Patterns = t.Patterns
sort_of s.Rules = t.Rules
sort_of s.Phases = t.Phases
sort_of s.Variables = t.Variables

abbrev pub kept : show.Key → SeenKey
kept k = record { sort = sort_of k.space; reach = k.reach; name = k.name }

-- the name that an element must not share
abbrev pub name_key : spec.Entry → Option SeenKey
name_key e = option_map kept (show.key_of e)

-- what others may name an element as
abbrev pub named_sort : Role → Option Sort
named_sort r.Pattern = Some t.Judged
named_sort r.Use = Some t.Judged
named_sort r.AbstractPattern = Some t.AbstractPatterns
named_sort r.AbstractRule = Some t.AbstractRules
named_sort _ = None

abbrev pub id_key_by : Option Sort → Option (List ℕ) → Option SeenKey
id_key_by (Some sort) (Some id) = Some (record { sort = sort; reach = 0; name = id })
id_key_by _ _ = None

-- the name by which others may name an element
abbrev pub id_key : spec.Entry → Option SeenKey
id_key e = id_key_by (named_sort e.role) (attribute a.Id e)

abbrev pub id_of : Sort → List ℕ → SeenKey
id_of sort name = record { sort = sort; reach = 0; name = name }

abbrev pub is_there : List SeenKey → Sort → Option (List ℕ) → Bool
is_there ids sort None = false
is_there ids sort (Some name) = list_any (is_same (id_of sort name)) ids

-- what isn't there, by the names that are
abbrev pub unnamed_by : Role → List SeenKey → spec.Entry → List Fault
unnamed_by r.Use ids e = show.when (not (is_there ids t.AbstractPatterns (attribute a.IsA e))) (show.fault q.NoSuchPattern (Some a.IsA) e)
unnamed_by r.Active ids e = show.when (not (is_there ids t.Judged (attribute a.Pattern e))) (show.fault q.NoSuchPattern (Some a.Pattern) e)
unnamed_by r.Extends ids e = show.when (not (is_there ids t.AbstractRules (attribute a.Rule e))) (show.fault q.NoSuchRule (Some a.Rule) e)
unnamed_by _ ids e = []

-- The key is new, or there is none.
abbrev pub is_new : List SeenKey → Option SeenKey → Bool
is_new keys None = true
is_new keys (Some k) = not (list_any (is_same k) keys)

abbrev pub fault_unless : Bool → Fault → Option Fault
fault_unless true fault = None
fault_unless false fault = Some fault

abbrev pub duplicate_in : List SeenKey → Option Space → spec.Entry → Option Fault
duplicate_in keys None e = None
duplicate_in keys (Some space) e =
    fault_unless (is_new keys (option_map kept (show.key_by space e.parent (attribute (show.naming space) e))))
    (show.fault q.DuplicateId (Some (show.naming space)) e)

-- the fault of an element whose name is among these
abbrev pub duplicate_among : List SeenKey → spec.Entry → Option Fault
duplicate_among keys e = duplicate_in keys (show.space_of e.role) e
