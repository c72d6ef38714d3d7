-- An ordered map as contracts see it, and how what it keeps is seen so.
use Rattle.std.specs.Prelude.{◌≡◌, List, [], ◌∷◌, map, All, Option, Some, None, cond, refl}
use Rattle.std.specs.Coded.{Coded, code_by, coded×, coded_list}
use Rattle.std.specs.declared.cmp.Ordering.{Ordering}
use Rattle.std.specs.Ordering.{is_eq}
use Rattle.std.specs.List.{AllByRecursion}
use Rattle.std.specs.List.Sorted.{IsStrictlySortedBy}
use Rattle.std.specs.Map.{keys_of, lookup}
use Rattle.std.specs.BTreeMap.{insert_entry, is_at}

-- an ordered map: its entries, in the order of their keys
pub record Ordered (K X : Type 0) : Type 0 where
  pub entries : List (K × X)

abbrev pub ordered_code : {K X : Type 0} → Coded K → Coded X → Coded (Ordered K X)
ordered_code {K} {X} key value = code_by (List (K × X)) (coded_list (coded× key value)) (λ m. m.entries) (λ es. record { entries = es }) (λ _. refl)

module _ {K X : Type 0} where
  -- each value behind its key
  abbrev pub with_keys : (X → K) → List X → List (K × X)
  with_keys key_of values = map (λ x. (key_of x, x)) values

  -- the value at a key
  abbrev pub value_at : (K → K → Ordering) → K → List (K × X) → Option X
  value_at cmp key entries = lookup (is_at (cmp key)) entries

  -- entries with a new one, or as they are where the key has a value
  abbrev pub entries_behind : (K → K → Ordering) → List (K × X) → K → X → List (K × X)
  entries_behind cmp entries new value = elim (value_at cmp new entries) [ None ↦ insert_entry cmp entries new value | Some other ↦ entries ]

  -- the value at a key behind that
  abbrev pub value_behind : (K → K → Ordering) → K → List (K × X) → K → X → Option X
  value_behind cmp key entries new value = elim (value_at cmp new entries) [
    | None ↦ cond (is_eq (cmp new key)) (Some value) (value_at cmp key entries)
    | Some other ↦ value_at cmp key entries
  ]

  -- entries with others put in, one after the other
  abbrev pub put_all : (K → K → Ordering) → List (K × X) → List (K × X) → List (K × X)
  put_all cmp entries [] = entries
  put_all cmp entries (other ∷ others) = put_all cmp (insert_entry cmp entries other.0 other.1) others

  -- Each key is that of its value.
  abbrev pub HaveTheirKeys : (X → K) → List (K × X) → Type 0
  HaveTheirKeys key_of entries = All (λ e. e.0 ≡ key_of e.1) entries

  -- what a list of values and the entries beside it hold together
  abbrev pub entries_of : (K → K → Ordering) → (X → K) → List X → List (K × X) → List (K × X)
  entries_of cmp key_of sorted others = put_all cmp (with_keys key_of sorted) others

  -- Both are in the order of their keys, and no key is in both.
  pub record AreApart (cmp : K → K → Ordering) (key_of : X → K) (sorted : List X) (others : List (K × X)) : Type 0 where
    pub sorted_ascend : IsStrictlySortedBy cmp (keys_of (with_keys key_of sorted))
    pub others_ascend : IsStrictlySortedBy cmp (keys_of others)
    pub others_keys : AllByRecursion (λ e. e.0 ≡ key_of e.1) others
    pub apart : AllByRecursion (λ e. value_at cmp e.0 (with_keys key_of sorted) ≡ None) others
