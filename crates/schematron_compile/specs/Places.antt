-- Patterns by their identifiers.
use Rattle.std.specs.Prelude.{◌≡◌, ℕ, suc, ◌≤◌, Bool, cond, List, [], ◌∷◌, ◌++◌, map, flat_map, chars, encode_utf8_all, Option, Some, None, Vec}
use Rattle.std.specs.Borrow.{Bor}
use Rattle.std.specs.BTreeMap.{BTreeMap, get_by}
use Rattle.std.specs.Cmp.Lexicographic.{slice_cmp}
use Rattle.std.specs.Option.{option_map_or}
use Rattle.std.specs.Ordering.{nat_cmp}
use Rattle.schematron_meaning.specs.declared.attribute.Attribute.TheVariants as a
use Rattle.schematron_meaning.specs.Entries.{Entry}
use Rattle.schematron_meaning.specs.Lookup.{attribute, is_value}
use Rattle.schematron_meaning.specs.Expansion.{Instance}

-- the identifiers of patterns
abbrev pub ids_of : List Instance → List (Option (List ℕ))
ids_of instances = map (λ (x : Instance). attribute a.Id x.pattern) instances

-- the places of those that have an identifier, where the first place is given
abbrev pub places_with : List ℕ → ℕ → List (Option (List ℕ)) → List ℕ
places_with name n [] = []
places_with name n (id ∷ ids) = cond (is_value name id) (n ∷ places_with name (suc n) ids) (places_with name (suc n) ids)

-- the same of an identifier that may be missing
abbrev pub places_named : Option (List ℕ) → ℕ → List (Option (List ℕ)) → List ℕ
places_named None n ids = []
places_named (Some name) n ids = places_with name n ids

-- what the elements of a phase name, one element after another
abbrev pub places_active : List Entry → ℕ → List (Option (List ℕ)) → List ℕ
places_active actives n ids = flat_map (λ (e : Entry). places_named (attribute a.Pattern e) n ids) actives

-- what a map has at a text, where nothing is an empty list
abbrev pub places_in : {Z : Type 0} → BTreeMap (Bor (List ℕ)) (Vec ℕ Z) → List ℕ → List ℕ
places_in m q = option_map_or (λ found. found.items) (get_by (λ key. slice_cmp nat_cmp q key.now) m) []

-- Of each text the places of the patterns that have it as their identifier are known.
abbrev pub ArePlaces : (List ℕ → List ℕ) → List (Option (List ℕ)) → Type 0
ArePlaces places ids = (q : List ℕ) → encode_utf8_all (chars q) ≡ q → places q ≡ places_with (chars q) 0 ids

-- The places are as before, and one more for this identifier, if it is there.
abbrev pub AddsPlace : (List ℕ → List ℕ) → (List ℕ → List ℕ) → Option (List ℕ) → ℕ → Type 0
AddsPlace old new id place = (q : List ℕ) → encode_utf8_all (chars q) ≡ q → new q ≡ old q ++ cond (is_value (chars q) id) (place ∷ []) []

-- Each number is greater than the one before it, and none is less than the first one given.
abbrev pub Rises : ℕ → List ℕ → Type 0
Rises n [] = Unit {0}
Rises n (m ∷ ms) = (n ≤ m) × Rises (suc m) ms
