-- The first key in byte order, of keys that ascend.
use Rattle.std.proofs.Common.{◌≡◌, ℕ, Bool, true, false, List, [], ◌∷◌, map, Option, Some, None, Ordering, Less, refl, sym, ap, ◌∙◌, if◌then◌else◌, nat_cmp}
use Rattle.std.proofs.Common.{String, string_bytes, find, filter}
use Rattle.std.specs.Global.{Global}
use Rattle.std.specs.List.{AllByRecursion}
use Rattle.std.specs.List.Sorted.{IsStrictlySortedBy}
use Rattle.std.specs.Map.{keys_of as entry_keys}
use Rattle.std.specs.String.{string_cmp}
use Rattle.std.specs.Ordering.{is_lt, ordering_reverse}
use Rattle.std.specs.Cmp.Lexicographic.{slice_cmp}
use Rattle.std.proofs.lemmas.Cmp.{nat_list_cmp_total}
use Rattle.std.proofs.lemmas.Option.{same_Some}
use Rattle.toml.specs.View.{members_view}
use Rattle.toml.proofs.Views.{Entry}
use Rattle.code_lists.specs.Keys.{keys_of, first_key, is_other, other_key}

-- the order of keys
abbrev pub key_cmp : List ℕ → List ℕ → Ordering
key_cmp a b = slice_cmp nat_cmp a b

-- the earlier of a key and another one, if there is one
abbrev pick : List ℕ → Option (List ℕ) → List ℕ
pick key other = elim other [ None ↦ key | Some other ↦ if is_lt (key_cmp other key) then other else key ]

-- a key isn't before one that it comes after
pub after-not : (a b : List ℕ) → key_cmp a b ≡ Less → is_lt (key_cmp b a) ≡ false
after-not a b h = ap is_lt (nat_list_cmp_total.antisymm b a ∙ ap ordering_reverse h)

-- what all keys are behind, the first of them is behind
first-behind : (key : List ℕ) (keys : List (List ℕ)) → AllByRecursion (λ other. key_cmp key other ≡ Less) keys → (first : List ℕ) → first_key keys ≡ Some first
    → key_cmp key first ≡ Less
first-behind key [] h first e = cc
first-behind key (k ∷ keys) h first e = by (first_key keys) refl (first-behind key keys h.1)
  where
    test : (other : List ℕ) (b : Bool) → key_cmp key other ≡ Less → (if b then other else k) ≡ first → key_cmp key first ≡ Less
    test other true p s = ap (key_cmp key) (sym s) ∙ p
    test other false p s = ap (key_cmp key) (sym s) ∙ h.0

    by : (o : Option (List ℕ)) → first_key keys ≡ o → ((other : List ℕ) → first_key keys ≡ Some other → key_cmp key other ≡ Less) → key_cmp key first ≡ Less
    by None f behind = ap (key_cmp key) (sym (same_Some _ _ (ap (λ o. Some (pick k o)) (sym f) ∙ e))) ∙ h.0
    by (Some other) f behind = test other (is_lt (key_cmp other k)) (behind other f) (same_Some _ _ (ap (λ o. Some (pick k o)) (sym f) ∙ e))

-- a key before all others is the first
first-before : (key : List ℕ) (keys : List (List ℕ)) → AllByRecursion (λ other. key_cmp key other ≡ Less) keys → first_key (key ∷ keys) ≡ Some key
first-before key keys h = by (first_key keys) refl
  where
    by : (o : Option (List ℕ)) → first_key keys ≡ o → first_key (key ∷ keys) ≡ Some key
    by None f = ap (λ o. Some (pick key o)) f
    by (Some other) f = ap (λ o. Some (pick key o)) f ∙ ap (λ b. Some (if b then other else key)) (after-not key other (first-behind key keys h other f))

abbrev texts : List (String Global) → List (List ℕ)
texts keys = map string_bytes keys

others-after : (p : List ℕ → Bool) (k : String Global) (ks : List (String Global)) → AllByRecursion (λ y. string_cmp k y ≡ Less) ks
    → AllByRecursion (λ other. key_cmp (string_bytes k) other ≡ Less) (filter p (texts ks))
others-after p k [] h = tt
others-after p k (y ∷ ks) h = by (p (string_bytes y)) refl (others-after p k ks h.1)
  where
    by : (b : Bool) → p (string_bytes y) ≡ b → AllByRecursion (λ other. key_cmp (string_bytes k) other ≡ Less) (filter p (texts ks))
        → AllByRecursion (λ other. key_cmp (string_bytes k) other ≡ Less) (filter p (texts (y ∷ ks)))
    by true e rest = rw e (h.0, rest)
    by false e rest = rw e rest

-- of ascending keys the first in byte order is the first one
first-found : (p : List ℕ → Bool) (ks : List (String Global)) → IsStrictlySortedBy string_cmp ks → first_key (filter p (texts ks)) ≡ find p (texts ks)
unfolding IsStrictlySortedBy
first-found p [] s = refl
first-found p (y ∷ ks) s = by (p (string_bytes y)) refl (first-found p ks s.1)
  where
    by : (b : Bool) → p (string_bytes y) ≡ b → first_key (filter p (texts ks)) ≡ find p (texts ks) →
        first_key (filter p (texts (y ∷ ks))) ≡ find p (texts (y ∷ ks))
    by true e rest = rw e (first-before (string_bytes y) (filter p (texts ks)) (others-after p y ks s.0))
    by false e rest = rw e rest

-- the keys of a table, as a map holds them
pub keys-view : (es : List Entry) → keys_of (members_view es) ≡ texts (entry_keys es)
keys-view [] = refl
keys-view (e ∷ es) = ap (λ ks. string_bytes e.0 ∷ ks) (keys-view es)

pub other-is : (words : List (List ℕ)) (es : List Entry) → IsStrictlySortedBy string_cmp (entry_keys es) →
    other_key words (members_view es) ≡ find (is_other words) (texts (entry_keys es))
other-is words es s = ap (λ ks. first_key (filter (is_other words) ks)) (keys-view es) ∙ first-found (is_other words) (entry_keys es) s

-- what stands before all other keys that are none of the words
pub other-before : (words : List (List ℕ)) (es : List Entry) → IsStrictlySortedBy string_cmp (entry_keys es) → (key : Option (List ℕ)) →
    key ≡ other_key words (members_view es)
    → find (is_other words) (keys_of (members_view es)) ≡ key
other-before words es s key e = ap (find (is_other words)) (keys-view es) ∙ (sym (other-is words es s) ∙ sym e)

-- the first of the other keys, as a walk over the keys finds it
module _ (words : List (List ℕ)) (es : List Entry) (sorted : IsStrictlySortedBy string_cmp (entry_keys es)) (ks : List (String Global))
    (same : find (is_other words) (texts ks) ≡ find (is_other words) (texts (entry_keys es))) where
  pub key-found : (key : String Global) (rest : List (String Global)) (asked text : List ℕ) → ks ≡ key ∷ rest → asked ≡ string_bytes key →
      is_other words asked ≡ true
      → text ≡ string_bytes key → Some text ≡ other_key words (members_view es)
  key-found key rest asked text step name other it =
      let passes : is_other words (string_bytes key) ≡ true = ap (is_other words) (sym name) ∙ other in
      let here : find (is_other words) (texts (key ∷ rest)) ≡ Some (string_bytes key) = rw passes refl in
      ap Some it ∙ (sym here ∙ (ap (λ ks. find (is_other words) (texts ks)) (sym step) ∙ (same ∙ sym (other-is words es sorted))))

  pub key-missed : ks ≡ [] → None ≡ other_key words (members_view es)
  key-missed end = sym (other-is words es sorted ∙ (sym same ∙ ap (λ ks. find (is_other words) (texts ks)) end))

  pub key-passed : (key : String Global) (rest : List (String Global)) (asked : List ℕ) → ks ≡ key ∷ rest → asked ≡ string_bytes key →
      is_other words asked ≡ false
      → find (is_other words) (texts rest) ≡ find (is_other words) (texts (entry_keys es))
  key-passed key rest asked step name other =
      let passed : is_other words (string_bytes key) ≡ false = ap (is_other words) (sym name) ∙ other in
      let here : find (is_other words) (texts (key ∷ rest)) ≡ find (is_other words) (texts rest) = rw passed refl in
      sym here ∙ (ap (λ ks. find (is_other words) (texts ks)) (sym step) ∙ same)
