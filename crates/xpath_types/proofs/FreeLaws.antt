-- A variable is free in a part where it stands no higher than the variables around the part.
use Rattle.std.proofs.Common.{◌≡◌, ℕ, suc, ◌+◌, ◌≤◌, ◌<◌, min, nat_le, Bool, true, false, ◌||◌, not, List, [], ◌∷◌, ◌++◌, Option, Some, None, length, map, refl}
use Rattle.std.proofs.Common.{sym, ap, ◌∙◌, arith, length-append}
use Rattle.std.specs.Str.{bytes_eq}
use Rattle.std.specs.List.{list_any}
use Rattle.std.proofs.lemmas.Bool.Decides.{nat_tests}
use Rattle.xpath_grammar.specs.Grammar as g
use Rattle.xpath_grammar.specs.Grammar.{Tree, Parts}
use Rattle.xpath_grammar.specs.declared.expr.Leaf.{Leaf}
use Rattle.xpath_grammar.specs.declared.expr.Leaf.TheVariants as l
use Rattle.xpath_grammar.specs.declared.expr.Label.{Label}
use Rattle.xpath_grammar.specs.declared.expr.Label.TheVariants as k
use Rattle.xpath_types.specs.declared.kinds.Kinds.{Kinds}
use Rattle.xpath_types.specs.declared.variables.Reading.{Reading}
use Rattle.xpath_types.specs.Scopes.{written_name}
use Rattle.xpath_types.specs.Judging.{variables_behind}
use Rattle.xpath_types.specs.Parts.{bound_behind, has_free, parts_have_free}
use Rattle.xpath_types.specs.Variables.{innermost}
use Rattle.xpath_types.specs.Walking.{height_of, lower, reads_within, leaf_lowest}

-- how high the innermost variable of the name stands, 0 where there is none
abbrev height_or : Bool → ℕ → ℕ → ℕ
height_or test height others = elim test as (λ _. ℕ) [ true ↦ height | false ↦ others ]

abbrev pub height_in : List ℕ → List (List ℕ) → ℕ
height_in name [] = 0
height_in name (other ∷ names) = height_or (bytes_eq name other) (1 + length names) (height_in name names)

abbrev pub lowest_of_leaf : List (List ℕ) → Leaf → Option ℕ
lowest_of_leaf names (l.Variable name) = Some (height_in (written_name name) names)
lowest_of_leaf names x = None

unfoldable mutual
  -- how high the lowest variable stands that is read
  pub lowest : List (List ℕ) → Tree → Option ℕ
  lowest names (g.leaf x) = lowest_of_leaf names x
  lowest names (g.node form parts) = lowest_in_parts names parts

  pub lowest_in_parts : List (List ℕ) → Parts → Option ℕ
  lowest_in_parts names g.none = None
  lowest_in_parts names (g.more label x parts) = lower (lowest names x) (lowest_in_parts (bound_behind label names) parts)

abbrev pub names_of : List (List ℕ × Kinds) → List (List ℕ)
names_of bound = map (λ variable. variable.0) bound

pub length-names : (bound : List (List ℕ × Kinds)) → length (names_of bound) ≡ length bound
length-names [] = refl
length-names (variable ∷ bound) = ap suc (length-names bound)

height-found : (name : List ℕ) (bound : List (List ℕ × Kinds)) → height_of (innermost name bound) ≡ height_in name (names_of bound)
height-found name [] = refl
height-found name (variable ∷ bound) = by (bytes_eq name variable.0) (height-found name bound) where
  by : (b : Bool) → height_of (innermost name bound) ≡ height_in name (names_of bound)
      → height_of (elim b as (λ _. Option Reading) [
        | true ↦ Some (record { height = 1 + length bound; kinds = variable.1 })
        | false ↦ innermost name bound
      ]) ≡ height_or b (1 + length (names_of bound)) (height_in name (names_of bound))
  by true rest = ap (λ n. 1 + n) (sym (length-names bound))
  by false rest = rest

pub leaf-lowest : (bound : List (List ℕ × Kinds)) (x : Leaf) → leaf_lowest bound x ≡ lowest_of_leaf (names_of bound) x
leaf-lowest bound (l.Literal s) = refl
leaf-lowest bound (l.Number x) = refl
leaf-lowest bound (l.Variable name) = ap Some (height-found (written_name name) bound)
leaf-lowest bound l.Context = refl
leaf-lowest bound l.Parent = refl
leaf-lowest bound l.Empty = refl
leaf-lowest bound l.Root = refl
leaf-lowest bound (l.Called name) = refl
leaf-lowest bound (l.Step form test) = refl

pub names-behind : (label : Label) (kinds : Kinds) (bound : List (List ℕ × Kinds)) →
    names_of (variables_behind label kinds bound) ≡ bound_behind label (names_of bound)
names-behind k.First kinds bound = refl
names-behind (k.Link operator) kinds bound = refl
names-behind k.Comma kinds bound = refl
names-behind (k.Binding lead name) kinds bound = refl
names-behind k.Condition kinds bound = refl
names-behind k.Then kinds bound = refl
names-behind (k.Signed operators) kinds bound = refl
names-behind k.Predicate kinds bound = refl
names-behind k.Again kinds bound = refl
names-behind k.Opened kinds bound = refl
names-behind (k.Calling name) kinds bound = refl

behind-append : (label : Label) (inner outer : List (List ℕ)) → bound_behind label (inner ++ outer) ≡ bound_behind label inner ++ outer
behind-append k.First inner outer = refl
behind-append (k.Link operator) inner outer = refl
behind-append k.Comma inner outer = refl
behind-append (k.Binding lead name) inner outer = refl
behind-append k.Condition inner outer = refl
behind-append k.Then inner outer = refl
behind-append (k.Signed operators) inner outer = refl
behind-append k.Predicate inner outer = refl
behind-append k.Again inner outer = refl
behind-append k.Opened inner outer = refl
behind-append (k.Calling name) inner outer = refl

low : (name : List ℕ) (names : List (List ℕ)) → height_in name names ≤ length names
low name [] = omega arith
low name (other ∷ names) = by (bytes_eq name other) (low name names) where
  by : (b : Bool) → height_in name names ≤ length names → height_or b (1 + length names) (height_in name names) ≤ suc (length names)
  by true h = omega arith
  by false h = omega arith

le-true : (m n : ℕ) → m ≤ n → true ≡ nat_le m n
le-true m n h = grind (arith, nat_tests)

le-false : (m n : ℕ) → n < m → false ≡ nat_le m n
le-false m n h = grind (arith, nat_tests)

free-name : (name : List ℕ) (inner outer : List (List ℕ)) → not (list_any (bytes_eq name) inner) ≡ nat_le (height_in name (inner ++ outer)) (length outer)
free-name name [] outer = le-true (height_in name outer) (length outer) (low name outer)
free-name name (other ∷ inner) outer = by (bytes_eq name other) (free-name name inner outer) where
  by : (b : Bool) → not (list_any (bytes_eq name) inner) ≡ nat_le (height_in name (inner ++ outer)) (length outer)
      → not (b || list_any (bytes_eq name) inner) ≡ nat_le (height_or b (1 + length (inner ++ outer)) (height_in name (inner ++ outer))) (length outer)
  by true rest = le-false (1 + length (inner ++ outer)) (length outer) (omega (arith, length-append inner outer))
  by false rest = rest

min-within : (h x y : ℕ) → nat_le (min x y) h ≡ (nat_le x h || nat_le y h)
min-within h x y = grind (arith, nat_tests)

or-none : (b : Bool) → b ≡ (b || false)
or-none true = refl
or-none false = refl

reads-lower : (h : ℕ) (a b : Option ℕ) → reads_within h (lower a b) ≡ (reads_within h a || reads_within h b)
reads-lower h None b = refl
reads-lower h (Some x) None = or-none (nat_le x h)
reads-lower h (Some x) (Some y) = min-within h x y

mutual
  unfolding has_free lowest

  free-low : (x : Tree) (inner outer : List (List ℕ)) → has_free inner x ≡ reads_within (length outer) (lowest (inner ++ outer) x)
  free-low (g.leaf (l.Literal s)) inner outer = refl
  free-low (g.leaf (l.Number x)) inner outer = refl
  free-low (g.leaf (l.Variable name)) inner outer = free-name (written_name name) inner outer
  free-low (g.leaf l.Context) inner outer = refl
  free-low (g.leaf l.Parent) inner outer = refl
  free-low (g.leaf l.Empty) inner outer = refl
  free-low (g.leaf l.Root) inner outer = refl
  free-low (g.leaf (l.Called name)) inner outer = refl
  free-low (g.leaf (l.Step form test)) inner outer = refl
  free-low (g.node form parts) inner outer = free-low-parts parts inner outer

  free-low-parts : (parts : Parts) (inner outer : List (List ℕ)) →
      parts_have_free inner parts ≡ reads_within (length outer) (lowest_in_parts (inner ++ outer) parts)
  free-low-parts g.none inner outer = refl
  free-low-parts (g.more label x parts) inner outer =
      (λ j. free-low x inner outer j || (free-low-parts parts (bound_behind label inner) outer ∙
      ap (λ names. reads_within (length outer) (lowest_in_parts names parts)) (sym (behind-append label inner outer))) j)
      ∙ sym (reads-lower (length outer) (lowest (inner ++ outer) x) (lowest_in_parts (bound_behind label (inner ++ outer)) parts))

pub free-within : (bound : List (List ℕ × Kinds)) (x : Tree) → has_free [] x ≡ reads_within (length bound) (lowest (names_of bound) x)
free-within bound x = free-low x [] (names_of bound) ∙ ap (λ n. reads_within n (lowest (names_of bound) x)) (length-names bound)

min-assoc : (x y z : ℕ) → min (min x y) z ≡ min x (min y z)
min-assoc x y z = omega arith

pub lower-assoc : (a b c : Option ℕ) → lower (lower a b) c ≡ lower a (lower b c)
lower-assoc None b c = refl
lower-assoc (Some x) None c = refl
lower-assoc (Some x) (Some y) None = refl
lower-assoc (Some x) (Some y) (Some z) = ap Some (min-assoc x y z)

pub lower-none : (a : Option ℕ) → lower a None ≡ a
lower-none None = refl
lower-none (Some x) = refl
