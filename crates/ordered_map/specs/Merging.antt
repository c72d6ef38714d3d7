-- What steps over a list of values and the entries beside it leave.
use Rattle.std.specs.Prelude.{◌≡◌, Bool, true, false, List, [], ◌∷◌, Option, Some, None, is_some}
use Rattle.std.specs.declared.cmp.Ordering.{Ordering}
use Rattle.std.specs.Ordering.{is_lt}
use Rattle.std.specs.Map.{values_of}
use Rattle.std.specs.BTreeMap.{insert_entry}
use Rattle.ordered_map.specs.Entries.{value_at, entries_of, AreApart}

module _ {K X : Type 0} (cmp : K → K → Ordering) (key_of : X → K) where
  -- The new ones hold the old entries with one more.
  pub record ArePutIn (old : List X) (old_others : List (K × X)) (value : X) (new : List X) (new_others : List (K × X)) : Type 0 where
    pub entries : entries_of cmp key_of new new_others ≡ insert_entry cmp (entries_of cmp key_of old old_others) (key_of value) value
    pub are_apart : AreApart cmp key_of new new_others

  -- The same where the key of the value is new; or it isn't, the old ones stay, and the value is given back.
  abbrev pub ArePut : List X → List (K × X) → X → Option X → List X → List (K × X) → Type 0
  ArePut old old_others value None new new_others = (value_at cmp (key_of value) (entries_of cmp key_of old old_others) ≡ None)
      × ArePutIn old old_others value new new_others
  ArePut old old_others value (Some back) new new_others = (is_some (value_at cmp (key_of value) (entries_of cmp key_of old old_others)) ≡ true)
      × (back ≡ value) × (new ≡ old) × (new_others ≡ old_others)

  -- The least value was taken.
  pub record IsTaken (old : List X) (old_others : List (K × X)) (value : X) (new : List X) (new_others : List (K × X)) : Type 0 where
    pub values : values_of (entries_of cmp key_of old old_others) ≡ value ∷ values_of (entries_of cmp key_of new new_others)
    pub are_apart : AreApart cmp key_of new new_others

  -- The same, or there is none to be taken.
  abbrev pub IsTakenIfAny : List X → List (K × X) → Option X → List X → List (K × X) → Type 0
  IsTakenIfAny old old_others None new new_others = values_of (entries_of cmp key_of old old_others) ≡ []
  IsTakenIfAny old old_others (Some value) new new_others = IsTaken old old_others value new new_others

  -- whether the least value is the first of the others
  abbrev pub is_other_next : List X → List (K × X) → Bool
  is_other_next [] others = true
  is_other_next (x ∷ xs) [] = false
  is_other_next (x ∷ xs) (other ∷ others) = is_lt (cmp other.0 (key_of x))
