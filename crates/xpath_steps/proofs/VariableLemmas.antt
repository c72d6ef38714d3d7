-- Variables by name, and bound ones by height.
use Rattle.std.proofs.Common.{◌≡◌, ℕ, suc, zero, ◌+◌, ◌-◌, ◌<◌, ◌≤◌, Bool, true, false, List, [], ◌∷◌, ◌++◌, length, get_or, take, drop, reverse, Option, Some}
use Rattle.std.proofs.Common.{None, Ok, refl, ap, sym, subst, ◌∙◌, arith}
use Rattle.std.specs.Prelude.{◌==◌, slice_range}
use Rattle.std.specs.Str.{bytes_eq}
use Rattle.std.proofs.lemmas.List.{reverse-append, reverse-reverse, length-reverse}
use Rattle.std.proofs.lemmas.Bool.{eqb-true}
use Rattle.std.proofs.lemmas.Bool.Decides.{nat_tests}
use Rattle.xpath_items.specs.declared.item.Item.{Item}
use Rattle.xpath_meaning.specs.Meaning.{bound_at, last_of, outer_value, value_or}
use Rattle.xpath_meaning.specs.Values.{Value, value}
use Rattle.xpath_operators.specs.Nodes.{AreWithin}
use Rattle.xpath_steps.proofs.WithinLemmas.{item_within}
use Rattle.xpath_steps.specs.Variables.{ValueWithin, ValuesWithin, variable_of, variables_of}
use Rattle.xpath_steps.specs.declared.variables.Variable.{Variable}

-- ---- variables that are declared outside

pub last_found : (name : List ℕ) (variables : List (List ℕ × Value)) (k : ℕ) (v : Value) → last_of name (drop k variables) ≡ Some v →
    last_of name variables ≡ Some v
last_found name [] zero v e = e
last_found name [] (suc k) v e = e
last_found name (x ∷ variables) zero v e = e
last_found name (x ∷ variables) (suc k) v e =
    ap (λ (o : Option Value). elim o [ Some value ↦ Some value | None ↦ elim (bytes_eq name x.0) [ true ↦ Some x.1 | false ↦ None ] ])
    (last_found name variables k v e)

-- What is found is within.
abbrev FoundWithin : ℕ → Option Value → Type 0
FoundWithin count None = Unit {0}
FoundWithin count (Some v) = ValueWithin count v

abbrev later : List ℕ → (List ℕ × Value) → Option Value → Option Value
later name x (Some v) = Some v
later name x None = elim (bytes_eq name x.0) [ true ↦ Some x.1 | false ↦ None ]

one_within : (count : ℕ) (name : List ℕ) (x : List ℕ × Value) (o : Option Value) → ValueWithin count x.1 → FoundWithin count o →
    FoundWithin count (later name x o)
one_within count name x (Some v) h w = w
one_within count name x None h w = here (bytes_eq name x.0)
  where
    here : (b : Bool) → FoundWithin count (elim b [ true ↦ Some x.1 | false ↦ None ])
    here true = h
    here false = tt

last_within : (count : ℕ) (name : List ℕ) (variables : List (List ℕ × Value)) → ValuesWithin count variables → FoundWithin count (last_of name variables)
last_within count name [] h = tt
last_within count name (x ∷ variables) h = one_within count name x (last_of name variables) h.0 (last_within count name variables h.1)

or_within : (count : ℕ) (o : Option Value) → FoundWithin count o → ValueWithin count (value_or (Ok []) o)
or_within count None w = tt
or_within count (Some v) w = w

pub outer_within : (count : ℕ) (name : List ℕ) (variables : List (List ℕ × Value)) → ValuesWithin count variables →
    ValueWithin count (outer_value name variables)
outer_within count name variables h = or_within count (last_of name variables) (last_within count name variables h)

-- ---- bound variables

bound_over : (h : ℕ) (l : List Item) → length l ≤ h → bound_at h l ≡ []
bound_over h [] le = refl
bound_over h (x ∷ l) le =
    ap (λ (b : Bool). elim b [ true ↦ x ∷ [] | false ↦ bound_at h l ]) (unlike h (length l) (omega (arith, le)))
    ∙ bound_over h l (omega (arith, le))
  where
    unlike : (a b : ℕ) → b < a → (a == b) ≡ false
    unlike a b l = grind (arith, nat_tests)

get_front : (xs : List Item) (y : Item) (h : ℕ) (d : Item) → h < length xs → get_or (xs ++ y ∷ []) h d ≡ get_or xs h d
get_front [] y h d l = absurd (omega (arith, l))
get_front (x ∷ xs) y zero d l = refl
get_front (x ∷ xs) y (suc h) d l = get_front xs y h d (omega (arith, l))

get_last : (xs : List Item) (y : Item) (h : ℕ) (d : Item) → h ≡ length xs → get_or (xs ++ y ∷ []) h d ≡ y
get_last [] y zero d e = refl
get_last [] y (suc h) d e = absurd (omega (arith, e))
get_last (x ∷ xs) y zero d e = absurd (omega (arith, e))
get_last (x ∷ xs) y (suc h) d e = get_last xs y h d (omega (arith, e))

one_more : (h : ℕ) (x : Item) (l : List Item) (d : Item) → (b : Bool) → (h == length l) ≡ b → (h < length l → bound_at h l ≡ get_or (reverse l) h d ∷ []) →
    h < suc (length l)
    → elim b [ true ↦ x ∷ [] | false ↦ bound_at h l ] ≡ get_or (reverse l ++ x ∷ []) h d ∷ []
one_more h x l d true e rest le = ap (λ y. y ∷ []) (sym (get_last (reverse l) x h d (eqb-true h (length l) e ∙ sym (length-reverse l))))
one_more h x l d false e rest le =
    let below : h < length l = grind (arith, nat_tests, e, le) in
    rest below ∙ ap (λ y. y ∷ []) (sym (get_front (reverse l) x h d (subst (λ n. h < n) (sym (length-reverse l)) below)))

bound_in : (h : ℕ) (l : List Item) (d : Item) → h < length l → bound_at h l ≡ get_or (reverse l) h d ∷ []
bound_in h [] d le = absurd (omega (arith, le))
bound_in h (x ∷ l) d le =
    one_more h x l d (h == length l) refl (bound_in h l d) le ∙ ap (λ z. get_or z h d ∷ []) (sym (reverse-append (x ∷ []) l))

pub bound_is : (h : ℕ) (items : List Item) (x : Item) → h < length items → x ≡ get_or items h x → bound_at h (reverse items) ≡ x ∷ []
bound_is h items x l e =
    bound_in h (reverse items) x (subst (λ n. h < n) (sym (length-reverse items)) l)
    ∙ ap (λ y. y ∷ []) (ap (λ z. get_or z h x) (reverse-reverse items) ∙ sym e)

pub bound_none : (h : ℕ) (items : List Item) → length items ≤ h → bound_at h (reverse items) ≡ []
bound_none h items l = bound_over h (reverse items) (subst (λ n. n ≤ h) (sym (length-reverse items)) l)

one_at : (items : List Item) (h : ℕ) → h < length items → (x : Item) × ((x ≡ get_or items h x) × (take 1 (drop h items) ≡ x ∷ []))
one_at [] h l = absurd (omega (arith, l))
one_at (x ∷ items) zero l = (x, (refl, refl))
one_at (x ∷ items) (suc h) l = one_at items h (omega (arith, l))

module _ (h : ℕ) (items : List Item) (l : h < length items) where
  here : slice_range items h (h + 1) ≡ (one_at items h l).0 ∷ []
  here = ap (λ n. take n (drop h items)) (let e : (h + 1) - h ≡ 1 = omega arith in e) ∙ (one_at items h l).1.1

  pub bound_range : slice_range items h (h + 1) ≡ bound_at h (reverse items)
  bound_range = here ∙ sym (bound_is h items (one_at items h l).0 l (one_at items h l).1.0)

  pub range_within : (count : ℕ) → AreWithin count items → AreWithin count (slice_range items h (h + 1))
  range_within count w = subst (AreWithin count) (sym here) (item_within count items h (one_at items h l).0 w l (one_at items h l).1.0, tt)

pub map_take : (n : ℕ) (variables : List Variable) → variables_of (take n variables) ≡ take n (variables_of variables)
map_take zero variables = refl
map_take (suc n) [] = refl
map_take (suc n) (x ∷ variables) = ap (λ xs. variable_of x ∷ xs) (map_take n variables)

last_here : (name : List ℕ) (x : List ℕ × Value) (behind : List (List ℕ × Value)) → last_of name behind ≡ None → bytes_eq name x.0 ≡ true →
    last_of name (x ∷ behind) ≡ Some x.1
last_here name x behind none same = ap (later name x) none ∙ ap (λ (b : Bool). elim b [ true ↦ Some x.1 | false ↦ None ]) same

map_drop : (n : ℕ) (variables : List Variable) → variables_of (drop n variables) ≡ drop n (variables_of variables)
map_drop zero variables = refl
map_drop (suc n) [] = refl
map_drop (suc n) (x ∷ variables) = map_drop n variables

rest_at : (variables : List Variable) (k : ℕ) (x : Variable) → k < length variables → x ≡ get_or variables k x → drop k variables ≡ x ∷ drop (suc k) variables
rest_at [] k x l e = absurd (omega (arith, l))
rest_at (y ∷ variables) zero x l e = ap (λ z. z ∷ variables) (sym e)
rest_at (y ∷ variables) (suc k) x l e = rest_at variables k x (omega (arith, l)) e

-- The variable at the place is the last of the name, where none behind it is.
pub found_last : (name : List ℕ) (variables : List Variable) (left k : ℕ) (x : Variable) → left ≤ length variables → left ≡ suc k → x ≡ get_or variables k x
    → last_of name (variables_of (drop left variables)) ≡ None → bytes_eq name x.name ≡ true → value x.outcome ≡ outer_value name (variables_of variables)
found_last name variables left k x within is e none same =
    let here : last_of name (drop k (variables_of variables)) ≡ Some (value x.outcome) =
    ap (last_of name) (sym (map_drop k variables) ∙ ap variables_of (rest_at variables k x (omega (arith, within, is)) e))
    ∙ last_here name (variable_of x) (variables_of (drop (suc k) variables)) (ap (λ n. last_of name (variables_of (drop n variables))) (sym is) ∙ none) same in
    sym (ap (value_or (Ok [])) (last_found name (variables_of variables) k (value x.outcome) here))
