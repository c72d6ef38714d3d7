-- Variables with their kinds, on a stack.
use Rattle.std.proofs.Common.{◌≡◌, ℕ, zero, suc, ◌+◌, ◌-◌, ◌≤◌, ◌<◌, Bool, true, false, List, [], ◌∷◌, ◌++◌, Option, Some, None, length, map, drop, take, refl}
use Rattle.std.proofs.Common.{sym, ap, subst, ◌∙◌, arith, if◌then◌else◌, ◌||◌, slice_get, unwrap_or}
use Rattle.std.specs.Str.{bytes_eq}
use Rattle.std.specs.List.{list_any}
use Rattle.std.proofs.lemmas.List.{get_or_append_left, get_or-take, length-drop, length-take}
use Rattle.std.proofs.lemmas.Option.{unwrap_or-slice_get}
use Rattle.std.proofs.Math.Seq.{get_or-append_seam}
use Rattle.xpath_grammar.specs.declared.expr.Label.{Label}
use Rattle.xpath_grammar.specs.declared.expr.Label.TheVariants as k
use Rattle.xpath_types.proofs.HeightLemmas.{one-more}
use Rattle.xpath_types.specs.declared.kinds.Kinds.{Kinds}
use Rattle.xpath_types.specs.declared.variables.Reading.{Reading}
use Rattle.xpath_types.specs.Kinds.{all_kinds, no_kinds}
use Rattle.xpath_types.specs.Scopes.{written_name}
use Rattle.xpath_types.specs.Heights.{height_in}
use Rattle.xpath_types.specs.Judging.{variable_kinds, variables_behind}
use Rattle.xpath_types.specs.Variables.{with_kinds, innermost}

-- Names and kinds

abbrev pub kinds_at : List Kinds → ℕ → Kinds
kinds_at kinds n = unwrap_or (slice_get kinds n) no_kinds

pub length-with_kinds : (kinds : List Kinds) (names : List (List ℕ)) → length (with_kinds kinds names) ≡ length names
length-with_kinds kinds [] = refl
length-with_kinds kinds (name ∷ names) = ap suc (length-with_kinds kinds names)

abbrev pub reading_of : List Kinds → Option ℕ → Option Reading
reading_of kinds None = None
reading_of kinds (Some height) = Some (record { height = height + 1; kinds = kinds_at kinds height })

abbrev pub read_or : Bool → Reading → Option Reading → Option Reading
read_or test reading others = elim test as (λ _. Option Reading) [ true ↦ Some reading | false ↦ others ]

-- the name is read of the one that it leads to
pub reading-is : (kinds : List Kinds) (name : List ℕ) (names : List (List ℕ)) →
    innermost name (with_kinds kinds names) ≡ reading_of kinds (height_in name names)
reading-is kinds name [] = refl
reading-is kinds name (inner ∷ outer) = by (bytes_eq name inner) (reading-is kinds name outer) where
  high : 1 + length (with_kinds kinds outer) ≡ length outer + 1
  high = omega (arith, length-with_kinds kinds outer)

  by : (b : Bool) → innermost name (with_kinds kinds outer) ≡ reading_of kinds (height_in name outer)
      → read_or b (record { height = 1 + length (with_kinds kinds outer); kinds = kinds_at kinds (length outer) }) (innermost name (with_kinds kinds outer))
      ≡ reading_of kinds (elim b as (λ _. Option ℕ) [ true ↦ Some (length outer) | false ↦ height_in name outer ])
  by true rest = ap (λ n. Some (record { height = n; kinds = kinds_at kinds (length outer) })) high
  by false rest = rest

kinds_at-push : (kinds : List Kinds) (more : Kinds) (n : ℕ) → n < length kinds → kinds_at (kinds ++ more ∷ []) n ≡ kinds_at kinds n
kinds_at-push kinds more n h = unwrap_or-slice_get (kinds ++ more ∷ []) n no_kinds ∙
    (get_or_append_left kinds (more ∷ []) no_kinds n h ∙ sym (unwrap_or-slice_get kinds n no_kinds))

kinds-push : (kinds : List Kinds) (more : Kinds) (names : List (List ℕ)) → length names ≤ length kinds →
    with_kinds (kinds ++ more ∷ []) names ≡ with_kinds kinds names
kinds-push kinds more [] h = refl
kinds-push kinds more (name ∷ names) h = let low : length names < length kinds = omega (arith, h) in let rest : length names ≤ length kinds =
    omega (arith, h) in
    λ j. (name, kinds_at-push kinds more (length names) low j) ∷ kinds-push kinds more names rest j

-- one variable more
pub with_kinds-push : (kinds : List Kinds) (more : Kinds) (name : List ℕ) (names : List (List ℕ)) → length kinds ≡ length names →
    with_kinds (kinds ++ more ∷ []) (name ∷ names) ≡ (name, more) ∷ with_kinds kinds names
with_kinds-push kinds more name names e = let rest : length names ≤ length kinds = omega (arith, e) in
    let own : kinds_at (kinds ++ more ∷ []) (length names) ≡ more = ap (kinds_at (kinds ++ more ∷ [])) (sym e) ∙
    (unwrap_or-slice_get (kinds ++ more ∷ []) (length kinds) no_kinds ∙ get_or-append_seam kinds more [] no_kinds) in
    λ j. (name, own j) ∷ kinds-push kinds more names rest j

with_kinds-drop : (kinds : List Kinds) (n : ℕ) (names : List (List ℕ)) → with_kinds kinds (drop n names) ≡ drop n (with_kinds kinds names)
with_kinds-drop kinds zero names = refl
with_kinds-drop kinds (suc n) [] = refl
with_kinds-drop kinds (suc n) (name ∷ names) = with_kinds-drop kinds n names

kinds_at-take : (kinds : List Kinds) (height n : ℕ) → n < height → kinds_at (take height kinds) n ≡ kinds_at kinds n
kinds_at-take kinds height n h = unwrap_or-slice_get (take height kinds) n no_kinds ∙
    (get_or-take height kinds n no_kinds h ∙ sym (unwrap_or-slice_get kinds n no_kinds))

with_kinds-take : (kinds : List Kinds) (height : ℕ) (names : List (List ℕ)) → length names ≤ height →
    with_kinds (take height kinds) names ≡ with_kinds kinds names
with_kinds-take kinds height [] h = refl
with_kinds-take kinds height (name ∷ names) h = let low : length names < height = omega (arith, h) in let rest : length names ≤ height = omega (arith, h) in
    λ j. (name, kinds_at-take kinds height (length names) low j) ∷ with_kinds-take kinds height names rest j

-- down to a height
module _ (kinds : List Kinds) (names : List (List ℕ)) (height : ℕ) (e : length kinds ≡ length names) where
  pub with_kinds-cut : with_kinds (take height kinds) (drop (length names - height) names) ≡ drop (length (with_kinds kinds names) - height)
      (with_kinds kinds names)
  with_kinds-cut = let low : length (drop (length names - height) names) ≤ height = omega (arith, length-drop (length names - height) names) in
      with_kinds-take kinds height (drop (length names - height) names) low ∙ (with_kinds-drop kinds (length names - height) names
      ∙ ap (λ n. drop (n - height) (with_kinds kinds names)) (sym (length-with_kinds kinds names)))

  pub still-as_long : length (take height kinds) ≡ length (drop (length names - height) names)
  still-as_long = omega (arith, e, length-take height kinds, length-drop (length names - height) names)

-- Down to a height, along a walk

pub none-dropped : (height : ℕ) (bound : List (List ℕ × Kinds)) → height ≡ length bound → drop (length bound - height) bound ≡ bound
none-dropped height bound e = let none : length bound - height ≡ 0 = omega arith in ap (λ n. drop n bound) none

module _ (height : ℕ) (bound : List (List ℕ × Kinds)) where
  behind-high : (label : Label) (kinds : Kinds) → height ≤ length bound → height ≤ length (variables_behind label kinds bound)
  behind-high k.First kinds h = h
  behind-high (k.Link operator) kinds h = h
  behind-high k.Comma kinds h = h
  behind-high (k.Binding lead name) kinds h = omega (arith, h)
  behind-high k.Condition kinds h = h
  behind-high k.Then kinds h = h
  behind-high (k.Signed operators) kinds h = h
  behind-high k.Predicate kinds h = h
  behind-high k.Again kinds h = h
  behind-high k.Opened kinds h = h
  behind-high (k.Calling name) kinds h = h

  behind-dropped : (label : Label) (kinds : Kinds) → height ≤ length bound →
      drop (length (variables_behind label kinds bound) - height) (variables_behind label kinds bound) ≡ drop (length bound - height) bound
  behind-dropped k.First kinds h = refl
  behind-dropped (k.Link operator) kinds h = refl
  behind-dropped k.Comma kinds h = refl
  behind-dropped (k.Binding lead name) kinds h = one-more height (written_name name, kinds) bound h
  behind-dropped k.Condition kinds h = refl
  behind-dropped k.Then kinds h = refl
  behind-dropped (k.Signed operators) kinds h = refl
  behind-dropped k.Predicate kinds h = refl
  behind-dropped k.Again kinds h = refl
  behind-dropped k.Opened kinds h = refl
  behind-dropped (k.Calling name) kinds h = refl

  module _ (label : Label) (kinds : Kinds) (bound' : List (List ℕ × Kinds)) (is : bound' ≡ variables_behind label kinds bound)
      (high : height ≤ length bound) where
    pub still-high : height ≤ length bound'
    still-high = subst (λ (b : List (List ℕ × Kinds)). height ≤ length b) (sym is) (behind-high label kinds high)

    pub still : {outer : List (List ℕ × Kinds)} → drop (length bound - height) bound ≡ outer → drop (length bound' - height) bound' ≡ outer
    still e = ap (λ (b : List (List ℕ × Kinds)). drop (length b - height) b) is ∙ (behind-dropped label kinds high ∙ e)

-- an outer variable is read where none is bound
abbrev declared_kinds : List (List ℕ) → List (List ℕ × Kinds)
declared_kinds names = map (λ name. (name, all_kinds)) names

abbrev kinds_or : Bool → Kinds → Option Kinds → Option Kinds
kinds_or test kinds others = elim test as (λ _. Option Kinds) [ true ↦ Some kinds | false ↦ others ]

abbrev read_kinds : Option Reading → Option Kinds
read_kinds None = None
read_kinds (Some reading) = Some reading.kinds

pub kinds-read : (name : List ℕ) (bound : List (List ℕ × Kinds)) (outer : List (List ℕ × Kinds)) (reading : Reading) → innermost name bound ≡ Some reading →
    variable_kinds name (bound ++ outer) ≡ Some reading.kinds
kinds-read name [] outer reading e = cc
kinds-read name (variable ∷ bound) outer reading e = by (bytes_eq name variable.0) (kinds-read name bound outer reading) e where
  by : (b : Bool) → (innermost name bound ≡ Some reading → variable_kinds name (bound ++ outer) ≡ Some reading.kinds)
      → read_or b (record { height = 1 + length bound; kinds = variable.1 }) (innermost name bound) ≡ Some reading →
      kinds_or b variable.1 (variable_kinds name (bound ++ outer)) ≡ Some reading.kinds
  by true rest e = ap read_kinds e
  by false rest e = rest e

pub kinds-outside : (name : List ℕ) (bound : List (List ℕ × Kinds)) (outer : List (List ℕ × Kinds)) → innermost name bound ≡ None →
    variable_kinds name (bound ++ outer) ≡ variable_kinds name outer
kinds-outside name [] outer e = refl
kinds-outside name (variable ∷ bound) outer e = by (bytes_eq name variable.0) (kinds-outside name bound outer) e where
  by : (b : Bool) → (innermost name bound ≡ None → variable_kinds name (bound ++ outer) ≡ variable_kinds name outer)
      → read_or b (record { height = 1 + length bound; kinds = variable.1 }) (innermost name bound) ≡ None →
      kinds_or b variable.1 (variable_kinds name (bound ++ outer)) ≡ variable_kinds name outer
  by true rest e = cc
  by false rest e = rest e

pub kinds-declared : (name : List ℕ) (names : List (List ℕ)) →
    variable_kinds name (declared_kinds names) ≡ (if list_any (bytes_eq name) names then Some all_kinds else None)
kinds-declared name [] = refl
kinds-declared name (other ∷ names) = by (bytes_eq name other) (kinds-declared name names) where
  by : (b : Bool) → variable_kinds name (declared_kinds names) ≡ (if list_any (bytes_eq name) names then Some all_kinds else None)
      → kinds_or b all_kinds (variable_kinds name (declared_kinds names)) ≡ (if b || list_any (bytes_eq name) names then Some all_kinds else None)
  by true rest = refl
  by false rest = rest
