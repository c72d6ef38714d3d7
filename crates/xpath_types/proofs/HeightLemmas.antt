-- The names of variables on a stack, and how high they stand.
use Rattle.std.proofs.Common.{◌≡◌, ℕ, suc, ◌+◌, ◌-◌, ◌≤◌, ◌<◌, Bool, true, false, List, [], ◌∷◌, ◌++◌, Option, Some, None, length, map, drop, refl, sym, ap}
use Rattle.std.proofs.Common.{◌∙◌, arith, String, string_bytes, if◌then◌else◌, true≢false, Result, Ok, Err, OnOk, OnErr, IfSome}
use Rattle.std.specs.Global.{Global}
use Rattle.std.specs.Map.{lookup}
use Rattle.std.specs.Str.{chars, bytes_eq, IsUtf8}
use Rattle.std.proofs.lemmas.List.{map-append}
use Rattle.std.proofs.lemmas.Str.{IsUtf8-string_bytes}
use Rattle.std.proofs.lemmas.Slice.Eq.{bytes_eq-Decides}
use Rattle.indexmap.specs.IndexMap.{insert_entry}
use Rattle.xpath_tokens.proofs.TextLemmas.{same_text}
use Rattle.xpath_types.specs.declared.heights.Bound.{Bound}
use Rattle.xpath_types.specs.Heights.{name_of, stacked, height_in, hidden_by, read_of, AreFound}

pub stacked-push : (outer : List (List ℕ)) (stack : List Bound) (bound : Bound) → stacked outer (stack ++ bound ∷ []) ≡ name_of bound ∷ stacked outer stack
stacked-push outer [] bound = refl
stacked-push outer (other ∷ stack) bound = stacked-push (name_of other ∷ outer) stack bound

length-stacked : (outer : List (List ℕ)) (stack : List Bound) → length (stacked outer stack) ≡ length outer + length stack
length-stacked outer [] = omega arith
length-stacked outer (bound ∷ stack) = omega (arith, length-stacked (name_of bound ∷ outer) stack)

pub as-high : (stack : List Bound) → length (stacked [] stack) ≡ length stack
as-high stack = omega (arith, length-stacked [] stack)

abbrev height_or : Bool → ℕ → Option ℕ → Option ℕ
height_or test height others = elim test as (λ _. Option ℕ) [ true ↦ Some height | false ↦ others ]

hidden_by-push : (outer : List (List ℕ)) (stack : List Bound) (bound : Bound)
    → hidden_by outer (stack ++ bound ∷ []) ≡ hidden_by outer stack ++ height_in (name_of bound) (stacked outer stack) ∷ []
hidden_by-push outer [] bound = refl
hidden_by-push outer (other ∷ stack) bound = ap (λ hidden. height_in (name_of other) outer ∷ hidden) (hidden_by-push (name_of other ∷ outer) stack bound)

abbrev pub Entries : Type 0
Entries = List (String Global × Option ℕ)

abbrev pub same_key : String Global → String Global → Bool
same_key a b = bytes_eq (string_bytes a) (string_bytes b)

abbrev pub looked_up : List ℕ → Entries → Option (Option ℕ)
looked_up name entries = lookup (λ key. bytes_eq name (string_bytes key)) entries

abbrev pub value_or : Bool → Option ℕ → Option (Option ℕ) → Option (Option ℕ)
value_or test value others = if test then Some value else others

same_bytes : (a b : List ℕ) → bytes_eq a b ≡ true → a ≡ b
same_bytes a b e = (bytes_eq-Decides a b).0 e

bytes_eq-refl : (a : List ℕ) → bytes_eq a a ≡ true
bytes_eq-refl a = (bytes_eq-Decides a a).1 refl

both_ends : {X : Type 0} (xs ys : List X) (a b : X) → xs ++ a ∷ [] ≡ ys ++ b ∷ [] → (xs ≡ ys) × (a ≡ b)
both_ends [] [] a b e = (refl, cc)
both_ends [] (y ∷ []) a b e = absurd (cc)
both_ends [] (y ∷ z ∷ ys) a b e = absurd (cc)
both_ends (x ∷ []) [] a b e = absurd (cc)
both_ends (x ∷ z ∷ xs) [] a b e = absurd (cc)
both_ends (x ∷ xs) (y ∷ ys) a b e = let rest : xs ++ a ∷ [] ≡ ys ++ b ∷ [] = cc in
    let first : x ≡ y = cc in
    let known = both_ends xs ys a b rest in
    ((λ j. first j ∷ known.0 j), known.1)

looked_up-insert : (name : List ℕ) (entries : Entries) (key : String Global) (value : Option ℕ)
    → looked_up name (insert_entry same_key entries key value) ≡ value_or (bytes_eq name (string_bytes key)) value (looked_up name entries)
looked_up-insert name [] key value = refl
looked_up-insert name (entry ∷ entries) key value = by (same_key key entry.0) refl (looked_up-insert name entries key value) where
  by : (b : Bool) → same_key key entry.0 ≡ b → looked_up name (insert_entry same_key entries key value) ≡ value_or (bytes_eq name (string_bytes key)) value
      (looked_up name entries)
      → looked_up name (if b then (entry.0, value) ∷ entries else entry ∷ insert_entry same_key entries key value)
      ≡ value_or (bytes_eq name (string_bytes key)) value (value_or (bytes_eq name (string_bytes entry.0)) entry.1 (looked_up name entries))
  by true e rest = twice (bytes_eq name (string_bytes key)) (ap (bytes_eq name) (sym (same_bytes (string_bytes key) (string_bytes entry.0) e))) where
    twice : (t : Bool) → bytes_eq name (string_bytes entry.0) ≡ t → value_or (bytes_eq name (string_bytes entry.0)) value (looked_up name entries)
        ≡ value_or t value (value_or (bytes_eq name (string_bytes entry.0)) entry.1 (looked_up name entries))
    twice true f = ap (λ t. value_or t value (looked_up name entries)) f
    twice false f = ap (λ t. value_or t value (looked_up name entries)) f ∙ sym (ap (λ t. value_or t entry.1 (looked_up name entries)) f)
  by false e rest = ap (value_or (bytes_eq name (string_bytes entry.0)) entry.1) rest ∙
      apart (bytes_eq name (string_bytes entry.0)) (bytes_eq name (string_bytes key)) refl refl where
        apart : (s t : Bool) → bytes_eq name (string_bytes entry.0) ≡ s → bytes_eq name (string_bytes key) ≡ t
            → value_or s entry.1 (value_or t value (looked_up name entries)) ≡ value_or t value (value_or s entry.1 (looked_up name entries))
        apart true true f g = absurd (true≢false (sym (ap (λ x. bytes_eq x (string_bytes entry.0)) (sym (same_bytes name (string_bytes key) g)) ∙ f) ∙ e))
        apart true false f g = refl
        apart false true f g = refl
        apart false false f g = refl

module _ (entries : Entries) (stack : List Bound) (bound : Bound) where
  -- what the name reads, where the bound is the height_in
  reads-push : (name : List ℕ) → IsUtf8 name → height_in (chars name) (stacked [] (stack ++ bound ∷ []))
      ≡ height_or (bytes_eq name (string_bytes bound.name)) (length (stacked [] stack)) (height_in (chars name) (stacked [] stack))
  reads-push name u = ap (height_in (chars name)) (stacked-push [] stack bound)
      ∙ ap (λ b. height_or b (length (stacked [] stack)) (height_in (chars name) (stacked [] stack)))
      (same_text name (string_bytes bound.name) u (IsUtf8-string_bytes bound.name))

  pub found-push : (more : Entries) (key : String Global) → AreFound entries stack → string_bytes key ≡ string_bytes bound.name →
      bound.hidden ≡ height_in (name_of bound) (stacked [] stack)
      → more ≡ insert_entry same_key entries key (Some (length (stacked [] stack))) → AreFound more (stack ++ bound ∷ [])
  found-push more key known same hides is = record {
    found = λ name u. ap (λ entries. read_of (looked_up name entries)) is
        ∙ (ap read_of (looked_up-insert name entries key (Some (length (stacked [] stack))) ∙
        ap (λ k. value_or (bytes_eq name k) (Some (length (stacked [] stack))) (looked_up name entries)) same)
        ∙ (reads (bytes_eq name (string_bytes bound.name)) name (known.found name u) ∙ sym (reads-push name u)));
    hidden = map-append (λ (v : Bound). v.hidden) stack (bound ∷ []) ∙ (ap (λ hidden. hidden ++ bound.hidden ∷ []) known.hidden
        ∙ (ap (λ h. hidden_by [] stack ++ h ∷ []) hides ∙ sym (hidden_by-push [] stack bound)));
  } where
    reads : (b : Bool) (name : List ℕ) → read_of (looked_up name entries) ≡ height_in (chars name) (stacked [] stack)
        → read_of (value_or b (Some (length (stacked [] stack))) (looked_up name entries))
        ≡ height_or b (length (stacked [] stack)) (height_in (chars name) (stacked [] stack))
    reads true name e = refl
    reads false name e = e

  module _ (known : AreFound entries (stack ++ bound ∷ [])) where
    ends : (map (λ (v : Bound). v.hidden) stack ≡ hidden_by [] stack) × (bound.hidden ≡ height_in (name_of bound) (stacked [] stack))
    ends = both_ends _ _ _ _ (sym (map-append (λ (v : Bound). v.hidden) stack (bound ∷ [])) ∙ (known.hidden ∙ hidden_by-push [] stack bound))

    -- the name of a bound has an entry
    pub has-entry : looked_up (string_bytes bound.name) entries ≡ None → ⊥
    has-entry none = let u = IsUtf8-string_bytes bound.name in
        let reads = sym (ap read_of none) ∙ (known.found (string_bytes bound.name) u ∙ (reads-push (string_bytes bound.name) u
        ∙ ap (λ b. height_or b (length (stacked [] stack)) (height_in (name_of bound) (stacked [] stack))) (bytes_eq-refl (string_bytes bound.name)))) in
        cc

    pub found-pop : (fewer : Entries) → fewer ≡ insert_entry same_key entries bound.name bound.hidden → AreFound fewer stack
    found-pop fewer is = record {
      found = λ name u. ap (λ entries. read_of (looked_up name entries)) is
          ∙ (ap read_of (looked_up-insert name entries bound.name bound.hidden) ∙
          reads (bytes_eq name (string_bytes bound.name)) name refl (known.found name u ∙ reads-push name u));
      hidden = ends.0;
    } where
      reads : (b : Bool) (name : List ℕ) → bytes_eq name (string_bytes bound.name) ≡ b
          → read_of (looked_up name entries) ≡ height_or (bytes_eq name (string_bytes bound.name)) (length (stacked [] stack))
          (height_in (chars name) (stacked [] stack))
          → read_of (value_or b bound.hidden (looked_up name entries)) ≡ height_in (chars name) (stacked [] stack)
      reads true name e h = ends.1 ∙ ap (λ n. height_in (chars n) (stacked [] stack)) (sym (same_bytes name (string_bytes bound.name) e))
      reads false name e h = h ∙ ap (λ b. height_or b (length (stacked [] stack)) (height_in (chars name) (stacked [] stack))) e

-- what the only good end says, where the other can't be
pub surely : {T E : Type 0} (r : Result T E) (P Q : Type 0) → OnOk r P → OnErr r Q → (Q → ⊥) → P
surely (Ok x) P Q p q none = p
surely (Err e) P Q p q none = absurd (none q)

-- one let go, of those above a height
pub one-less : {X : Type 0} (height : ℕ) (xs ys : List X) → ys ≡ drop 1 xs → height < length xs → drop (length ys - height) ys ≡ drop (length xs - height) xs
one-less height [] ys e h = absurd (omega (arith, h))
one-less height (x ∷ xs) ys e h = ap (λ (zs : List _). drop (length zs - height) zs) e ∙ sym (ap (λ n. drop n (x ∷ xs)) one) where
  one : length (x ∷ xs) - height ≡ suc (length xs - height)
  one = omega (arith, h)

pub height-below : (name : List ℕ) (names : List (List ℕ)) (height : ℕ) → Some height ≡ height_in name names → height < length names
height-below name [] height e = absurd (cc)
height-below name (inner ∷ outer) height e = by (bytes_eq name inner) (height-below name outer height) e where
  by : (b : Bool) → (Some height ≡ height_in name outer → height < length outer) → Some height ≡ height_or b (length outer) (height_in name outer) →
      height < length (inner ∷ outer)
  by true rest e = let same : height ≡ length outer = cc in omega (arith, same)
  by false rest e = omega (arith, rest e)

-- the height that is told is within the names
pub told-below : (name : List ℕ) (names : List (List ℕ)) (told : Option ℕ) → told ≡ height_in name names → IfSome told (λ height. height < length names)
told-below name names None e = tt
told-below name names (Some height) e = height-below name names height e

-- one more, above a height
pub one-more : {X : Type 0} (height : ℕ) (x : X) (xs : List X) → height ≤ length xs → drop (length (x ∷ xs) - height) (x ∷ xs) ≡ drop (length xs - height) xs
one-more height x xs h = let one : length (x ∷ xs) - height ≡ suc (length xs - height) = omega arith in ap (λ n. drop n (x ∷ xs)) one
