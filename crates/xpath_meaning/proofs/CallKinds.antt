-- Of which kinds the values of functions, casts and operators are.
use Rattle.std.proofs.Common.{◌≡◌, ℕ, zero, suc, Bool, true, false, ◌&&◌, ◌||◌, not, ◌+ℤ◌, List, [], ◌∷◌, length, Option, Some, None, Result, Ok, Err, refl}
use Rattle.std.proofs.Common.{cond, ℤ, pos}
use Rattle.std.specs.Prelude.{nat_lt}
use Rattle.std.specs.List.{list_all}
use Rattle.std.specs.declared.cmp.Ordering.{Ordering}
use Rattle.std.specs.Ordering.{is_lt, is_gt}
use Rattle.std.proofs.lemmas.Bool.{and_parts, false≢true}
use Rattle.inv_base.specs.Tree.{Node, Name}
use Rattle.inv_decimal.specs.Number.{unit}
use Rattle.inv_decimal.specs.CivilDay.{CivilDay}
use Rattle.xpath_tokens.specs.declared.token.Operator.{Operator}
use Rattle.xpath_grammar.specs.declared.operators.Op.{Op}
use Rattle.xpath_grammar.specs.declared.operators.CastWord.{CastWord}
use Rattle.xpath_grammar.specs.declared.operators.CastWord.TheVariants as c
use Rattle.xpath_grammar.specs.declared.functions.Function.{Function}
use Rattle.xpath_grammar.specs.declared.functions.Function.TheVariants as f
use Rattle.xpath_types.specs.declared.kinds.Kinds.{Kinds}
use Rattle.xpath_types.specs.Kinds as k
use Rattle.xpath_types.specs.Functions.{value_kinds}
use Rattle.xpath_items.specs.declared.item.Item.{Item}
use Rattle.xpath_items.specs.declared.item.Item.TheVariants as i
use Rattle.xpath_items.specs.declared.outcome.DynError.{DynError}
use Rattle.xpath_items.specs.declared.outcome.Focus.{Focus}
use Rattle.inv_decimal.specs.Arithmetic as q
use Rattle.xpath_items.specs.declared.outcome.DynError.TheVariants as d
use Rattle.xpath_meaning.specs.Values.{Value, then_, one}
use Rattle.xpath_meaning.specs.Items as items
use Rattle.xpath_meaning.specs.Reading as r
use Rattle.xpath_meaning.specs.Numbers as n
use Rattle.xpath_meaning.specs.Comparing as o
use Rattle.xpath_meaning.specs.Collections as s
use Rattle.xpath_meaning.specs.Functions as call
use Rattle.xpath_meaning.specs.Steps.{set_of, is_in_set, is_node}
use Rattle.xpath_meaning.specs.Meaning.{of_values, is_set_operator, is_range_operator}
use Rattle.xpath_meaning.specs.ItemKinds.{IsOf, AreOf, IsValueOf, operated_kinds, cast_kinds}
use Rattle.xpath_meaning.proofs.KindFacts as g

-- Single items

pub of_boolean : (result : Result Bool DynError) → IsValueOf k.booleans (o.boolean result)
of_boolean (Ok b) = g.given (refl, tt)
of_boolean (Err error) = g.given tt

pub of_number : (result : Result ℤ DynError) → IsValueOf k.numbers (n.number result)
of_number (Ok z) = g.given (refl, tt)
of_number (Err error) = g.given tt

pub of_counted : (count : ℕ) → IsValueOf k.numbers (n.counted count)
of_counted count = g.of_either (nat_lt count unit) (g.given (refl, tt)) (g.given tt)

pub of_one : {a : Kinds} {f : Item → Value} → ((x : Item) → IsValueOf a (f x)) → (xs : List Item) → IsValueOf a (n.at_one f xs)
of_one h [] = g.given tt
of_one h (x ∷ []) = h x
of_one h (x ∷ (y ∷ xs)) = g.given tt

pub of_two : {a : Kinds} {f : Item → Item → Value} → ((x y : Item) → IsValueOf a (f x y)) → (xs ys : List Item) → IsValueOf a (n.at_two f xs ys)
of_two h [] ys = g.given tt
of_two h (x ∷ xs) [] = g.given tt
of_two h (x ∷ []) (y ∷ []) = h x y
of_two h (x ∷ []) (y ∷ (z ∷ ys)) = g.given tt
of_two h (x ∷ (w ∷ xs)) (y ∷ ys) = g.given tt

-- Operators

pub of_arithmetic : (operator : Operator) (xs ys : List Item) → IsValueOf k.numbers (n.arithmetic operator xs ys)
of_arithmetic operator xs ys = of_two (λ x y. g.of_then (n.number_of x) (λ a. g.of_then (n.number_of y) (λ b. of_number (n.computed operator a b)))) xs ys

pub of_signed : (signs : List Operator) (xs : List Item) → IsValueOf k.numbers (n.signed signs xs)
of_signed signs xs = of_one (λ x. g.of_then (n.number_of x) (λ z. g.given (refl, tt))) xs

pub are-in_a_row : (count : ℕ) (from : ℤ) → AreOf k.numbers (n.in_a_row count from)
are-in_a_row zero from = tt
are-in_a_row (suc count) from = (refl, are-in_a_row count (from +ℤ pos unit))

pub of_range : (from to : ℤ) → IsValueOf k.numbers (n.range from to)
of_range from to = g.of_either (nat_lt n.most_in_range (n.how_many from to)) (g.given tt) (g.given (are-in_a_row (n.how_many from to) from))

pub of_range_of : (xs ys : List Item) → IsValueOf k.numbers (n.range_of xs ys)
of_range_of xs ys = of_two (λ x y. g.of_then (n.whole_number_of x) (λ from. g.of_then (n.whole_number_of y) (λ to. of_range from to))) xs ys

pub of_compared : (op : Op) (xs ys : List Item) → IsValueOf k.booleans (o.compared op xs ys)
of_compared op xs ys = go (o.is_general op)
  where
    go : (b : Bool) → IsValueOf k.booleans (o.compared_as b op xs ys)
    go true = of_boolean (o.some_pair op xs ys)
    go false = of_two (λ x y. of_boolean (o.compare op x y)) xs ys

pub of_set : (ns : List Node) (operator : Operator) (xs ys : List Item) → IsValueOf k.nodes (set_of ns operator xs ys)
of_set ns operator xs ys = g.of_either (list_all is_node xs && list_all is_node ys) (g.given (g.are_chosen k.nodes (is_in_set operator xs ys) (λ m h. refl) ns))
    (g.given tt)

pub of_operated : (ns : List Node) (op : Option Op) (operator : Operator) (xs ys : List Item) →
    IsValueOf (operated_kinds op operator) (of_values ns op operator xs ys)
of_operated ns (Some op) operator xs ys = of_compared op (items.atomised ns xs) (items.atomised ns ys)
of_operated ns None operator xs ys = go (is_set_operator operator)
  where
    go : (b : Bool) → IsValueOf (elim b as (λ _. Kinds) [ true ↦ k.nodes | false ↦ k.numbers ]) (elim b as (λ _. Value) [
      | true ↦ set_of ns operator xs ys
      | false ↦ elim (is_range_operator operator) [
        | true ↦ n.range_of (items.atomised ns xs) (items.atomised ns ys)
        | false ↦ n.arithmetic operator (items.atomised ns xs) (items.atomised ns ys)
      ]
    ])
    go true = of_set ns operator xs ys
    go false = g.of_either (is_range_operator operator) (of_range_of (items.atomised ns xs) (items.atomised ns ys))
        (of_arithmetic operator (items.atomised ns xs) (items.atomised ns ys))

-- Casts

abbrev IsResultOf : Kinds → Result Item DynError → Type 0
IsResultOf a (Ok x) = IsOf a x
IsResultOf a (Err error) = Unit {0}

of_number_item : (read : Result ℤ DynError) → IsResultOf k.numbers (r.number_item read)
of_number_item (Ok z) = refl
of_number_item (Err error) = tt

of_boolean_item : (read : Result Bool DynError) → IsResultOf k.booleans (r.boolean_item read)
of_boolean_item (Ok b) = refl
of_boolean_item (Err error) = tt

of_day_item : (read : Result CivilDay DynError) → IsResultOf k.dates (r.day_item read)
of_day_item (Ok day) = refl
of_day_item (Err error) = tt

of_decimal : (x : Item) → IsResultOf k.numbers (r.as_decimal x)
of_decimal (i.String t) = of_number_item (r.read_number t)
of_decimal (i.Untyped t) = of_number_item (r.read_number t)
of_decimal (i.Number z) = refl
of_decimal (i.Boolean b) = refl
of_decimal _ = tt

of_integer : (x : Item) → IsResultOf k.numbers (r.as_integer x)
of_integer (i.String t) = of_number_item (r.read_whole_number t)
of_integer (i.Untyped t) = of_number_item (r.read_whole_number t)
of_integer (i.Number z) = refl
of_integer (i.Boolean b) = refl
of_integer _ = tt

of_date : (x : Item) → IsResultOf k.dates (r.as_date x)
of_date (i.String t) = of_day_item (r.read_day t)
of_date (i.Untyped t) = of_day_item (r.read_day t)
of_date (i.Date day) = refl
of_date _ = tt

of_truth : (x : Item) → IsResultOf k.booleans (r.as_boolean x)
of_truth (i.String t) = of_boolean_item (r.read_boolean t)
of_truth (i.Untyped t) = of_boolean_item (r.read_boolean t)
of_truth (i.Number z) = refl
of_truth (i.Boolean b) = refl
of_truth _ = tt

pub of_converted : (ns : List Node) (type : Function) (a : Kinds) (x : Item) → IsResultOf (value_kinds type a) (r.converted ns type x)
of_converted ns f.XsString a x = refl
of_converted ns f.XsDecimal a x = of_decimal x
of_converted ns f.XsInteger a x = of_integer x
of_converted ns f.XsDate a x = of_date x
of_converted ns f.XsBoolean a x = of_truth x
of_converted ns _ a x = tt

pub of_type_called : (ns : List Node) (type : Function) (a : Kinds) (xs : List Item) → IsValueOf (value_kinds type a) (r.type_called ns type xs)
of_type_called ns type a [] = g.given tt
of_type_called ns type a (x ∷ []) = go (r.converted ns type x) (of_converted ns type a x)
  where
    go : (result : Result Item DynError) → IsResultOf (value_kinds type a) result → IsValueOf (value_kinds type a) (then_ result one)
    go (Ok y) h = g.given (h, tt)
    go (Err error) h = g.given tt
of_type_called ns type a (x ∷ (y ∷ xs)) = g.given tt

pub of_cast_to : (ns : List Node) (type : Function) (optional : Bool) (xs : List Item) → IsValueOf (value_kinds type k.no_kinds) (r.cast_to ns type optional xs)
of_cast_to ns type true [] = g.given tt
of_cast_to ns type false [] = g.given tt
of_cast_to ns type true (x ∷ xs) = of_type_called ns type k.no_kinds (x ∷ xs)
of_cast_to ns type false (x ∷ xs) = of_type_called ns type k.no_kinds (x ∷ xs)

pub of_cast : (ns : List Node) (word : CastWord) (type : Function) (optional : Bool) (xs : List Item) →
    IsValueOf (cast_kinds word type) (r.cast_by ns word type optional xs)
of_cast ns c.Cast type optional xs = of_cast_to ns type optional xs
of_cast ns c.Castable type optional xs = g.given (refl, tt)

-- Atomised items, and those that are read

pub are-atomised : (a : Kinds) (ns : List Node) (xs : List Item) → AreOf a xs → AreOf (k.atomised a) (items.atomised ns xs)
are-atomised a ns [] h = tt
are-atomised a ns (i.Node m ∷ xs) h = (g.or_left a.node a.untyped h.0, are-atomised a ns xs h.1)
are-atomised a ns (i.Boolean t ∷ xs) h = (h.0, are-atomised a ns xs h.1)
are-atomised a ns (i.Number z ∷ xs) h = (h.0, are-atomised a ns xs h.1)
are-atomised a ns (i.String t ∷ xs) h = (h.0, are-atomised a ns xs h.1)
are-atomised a ns (i.Untyped t ∷ xs) h = (g.or_right a.node a.untyped h.0, are-atomised a ns xs h.1)
are-atomised a ns (i.Date day ∷ xs) h = (h.0, are-atomised a ns xs h.1)

pub are-distinct : (a : Kinds) (xs : List Item) → AreOf a xs → AreOf a (s.distinct xs)
are-distinct a [] h = tt
are-distinct a (x ∷ xs) h = (h.0, g.are-filter a (λ y. not (s.are_equal x y)) (s.distinct xs) (are-distinct a xs h.1))

-- kinds of atomised items, where untyped ones are read as numbers
abbrev read_kinds : Kinds → Kinds
read_kinds a = record a { node = false; untyped = false; number = a.node || (a.untyped || a.number) }

either_is : (p q m : Bool) → (p || q) ≡ true → (p || (q || m)) ≡ true
either_is true q m e = refl
either_is false q m e = g.or_left q m e

are_read : (a : Kinds) (x : Item) → IsOf (k.atomised a) x → IsResultOf (read_kinds a) (s.untyped_read x)
are_read a (i.Node m) h = absurd (false≢true h)
are_read a (i.Boolean t) h = h
are_read a (i.Number z) h = g.or_right a.node (a.untyped || a.number) (g.or_right a.untyped a.number h)
are_read a (i.String t) h = h
are_read a (i.Untyped t) h = go (r.read_number t)
  where
    go : (read : Result ℤ DynError) → IsResultOf (read_kinds a) (r.number_item read)
    go (Ok z) = either_is a.node a.untyped a.number h
    go (Err error) = tt
are_read a (i.Date day) h = h

abbrev AreTaken : Kinds → Result (List Item) DynError → Type 0
AreTaken a (Ok xs) = AreOf a xs
AreTaken a (Err error) = Unit {0}

are_all_read : (a : Kinds) (xs : List Item) → AreOf (k.atomised a) xs → AreTaken (read_kinds a) (s.all_taken s.untyped_read xs)
are_all_read a [] h = tt
are_all_read a (x ∷ xs) h = go (s.untyped_read x) (are_read a x h.0) (s.all_taken s.untyped_read xs) (are_all_read a xs h.1)
  where
    go : (y : Result Item DynError) → IsResultOf (read_kinds a) y → (ys : Result (List Item) DynError) → AreTaken (read_kinds a) ys
        → AreTaken (read_kinds a) (then_ y (λ y. then_ ys (λ ys. Ok (y ∷ ys))))
    go (Ok y) p (Ok ys) q = (p, q)
    go (Ok y) p (Err error) q = tt
    go (Err error) p ys q = tt

pub of_sum : (xs : List Item) → IsValueOf k.numbers (s.sum xs)
of_sum xs = g.of_then (s.all_taken s.untyped_read xs) (λ read. g.of_then (s.all_taken s.summand read) (λ numbers. of_number (s.summed (pos 0) numbers)))

-- an item that is alike to another is a number, a string or a date
alike-extreme : (a : Kinds) (x y : Item) → s.are_alike x y ≡ true → IsOf (read_kinds a) y → IsOf (k.extreme a) y
alike-extreme a (i.Number z) (i.Number w) e h = h
alike-extreme a (i.String t) (i.String u) e h = h
alike-extreme a (i.Date d) (i.Date w) e h = h
alike-extreme a _ _ e h = absurd (false≢true e)

are_alike-extreme : (a : Kinds) (x : Item) (ys : List Item) → list_all (s.are_alike x) ys ≡ true → AreOf (read_kinds a) ys → AreOf (k.extreme a) ys
are_alike-extreme a x [] e h = tt
are_alike-extreme a x (y ∷ ys) e h = let both : (s.are_alike x y ≡ true) × (list_all (s.are_alike x) ys ≡ true) =
    and_parts (s.are_alike x y) (list_all (s.are_alike x) ys) e in
    (alike-extreme a x y both.0 h.0, are_alike-extreme a x ys both.1 h.1)

is-foremost : (a : Kinds) (before : Ordering → Bool) (x : Item) (xs : List Item) → IsOf a x → AreOf a xs → IsOf a (s.foremost before x xs)
is-foremost a before x [] h q = h
is-foremost a before x (y ∷ ys) h q = is-foremost a before (cond (s.stand before y x) y x) ys (go (s.stand before y x)) q.1
  where
    go : (b : Bool) → IsOf a (cond b y x)
    go true = q.0
    go false = h

of_extreme_of : (a : Kinds) (before : Ordering → Bool) (xs : List Item) → AreOf (read_kinds a) xs → IsValueOf (k.extreme a) (s.extreme_of before xs)
of_extreme_of a before [] h = g.given tt
of_extreme_of a before (x ∷ xs) h = go (list_all (s.are_alike x) (x ∷ xs)) refl
  where
    go : (b : Bool) → list_all (s.are_alike x) (x ∷ xs) ≡ b →
        IsValueOf (k.extreme a) (elim b as (λ _. Value) [ true ↦ one (s.foremost before x xs) | false ↦ Err d.FORG0006 ])
    go true e = let p : AreOf (k.extreme a) (x ∷ xs) = are_alike-extreme a x (x ∷ xs) e h in g.given (is-foremost (k.extreme a) before x xs p.0 p.1, tt)
    go false e = g.given tt

pub of_extreme : (a : Kinds) (before : Ordering → Bool) (xs : List Item) → AreOf (k.atomised a) xs → IsValueOf (k.extreme a) (s.extreme before xs)
of_extreme a before xs h = go (s.all_taken s.untyped_read xs) (are_all_read a xs h)
  where
    go : (read : Result (List Item) DynError) → AreTaken (read_kinds a) read → IsValueOf (k.extreme a) (then_ read (s.extreme_of before))
    go (Ok ys) p = of_extreme_of a before ys p
    go (Err error) p = g.given tt

-- Calls

of_string : (ns : List Node) (xs : List Item) → IsValueOf k.strings (call.string ns xs)
of_string ns [] = g.given (refl, tt)
of_string ns (x ∷ []) = g.given (refl, tt)
of_string ns (x ∷ (y ∷ xs)) = g.given tt

of_name_part : (ns : List Node) (part : Option Name → List ℕ) (xs : List Item) → IsValueOf k.strings (call.name_part ns part xs)
of_name_part ns part [] = g.given (refl, tt)
of_name_part ns part (i.Node m ∷ []) = g.given (refl, tt)
of_name_part ns part _ = g.given tt

of_text : {a : Kinds} (ns : List Node) {h : List ℕ → Value} → ((t : List ℕ) → IsValueOf a (h t)) → (xs : List Item) → IsValueOf a (call.of_text ns h xs)
of_text ns p xs = g.of_then (call.text_argument ns xs) p

of_texts : {a : Kinds} (ns : List Node) {h : List ℕ → List ℕ → Value} → ((t u : List ℕ) → IsValueOf a (h t u)) → (xs ys : List Item) →
    IsValueOf a (call.of_texts ns h xs ys)
of_texts ns p xs ys = g.of_then (call.text_argument ns xs) (λ t. g.of_then (call.text_argument ns ys) (λ u. p t u))

of_number_of : {a : Kinds} (ns : List Node) {h : ℤ → Value} → ((z : ℤ) → IsValueOf a (h z)) → (xs : List Item) → IsValueOf a (call.of_number ns h xs)
of_number_of ns p xs = of_one (λ x. g.of_then (n.number_of x) p) (items.atomised ns xs)

of_alone : (ns : List Node) (function : Function) (a : Kinds) (focus : Focus) → IsValueOf (value_kinds function a) (call.called_alone ns function focus)
of_alone ns f.True a focus = g.given (refl, tt)
of_alone ns f.False a focus = g.given (refl, tt)
of_alone ns f.Position a focus = of_counted focus.position
of_alone ns f.Last a focus = of_counted focus.last
of_alone ns f.String a focus = of_string ns (focus.item ∷ [])
of_alone ns f.StringLength a focus = of_counted (length (items.text_of ns focus.item))
of_alone ns f.NormalizeSpace a focus = g.given (refl, tt)
of_alone ns f.LocalName a focus = of_name_part ns call.local_part (focus.item ∷ [])
of_alone ns f.NamespaceUri a focus = of_name_part ns call.uri_part (focus.item ∷ [])
of_alone ns _ a focus = g.given tt

of_called_with_one : (ns : List Node) (function : Function) (a : Kinds) (x : List Item) → AreOf a x →
    IsValueOf (value_kinds function a) (call.called_with_one ns function x)
of_called_with_one ns f.Not a x h = of_boolean (then_ (items.truth x) (λ b. Ok (not b)))
of_called_with_one ns f.Boolean a x h = of_boolean (items.truth x)
of_called_with_one ns f.Exists a x h = g.given (refl, tt)
of_called_with_one ns f.Empty a x h = g.given (refl, tt)
of_called_with_one ns f.Count a x h = of_counted (length x)
of_called_with_one ns f.Reverse a x h = g.given (g.are-reverse a x h)
of_called_with_one ns f.Data a x h = g.given (are-atomised a ns x h)
of_called_with_one ns f.String a x h = of_string ns x
of_called_with_one ns f.StringLength a x h = of_text ns (λ t. of_counted (length t)) x
of_called_with_one ns f.NormalizeSpace a x h = of_text ns (λ t. g.given (refl, tt)) x
of_called_with_one ns f.UpperCase a x h = of_text ns (λ t. g.given (refl, tt)) x
of_called_with_one ns f.LowerCase a x h = of_text ns (λ t. g.given (refl, tt)) x
of_called_with_one ns f.Abs a x h = of_number_of ns (λ z. g.given (refl, tt)) x
of_called_with_one ns f.Floor a x h = of_number_of ns (λ z. of_number (n.in_range (q.rounded_down z))) x
of_called_with_one ns f.Ceiling a x h = of_number_of ns (λ z. of_number (n.in_range (q.rounded_up z))) x
of_called_with_one ns f.Round a x h = of_number_of ns (λ z. of_number (n.in_range (q.rounded z))) x
of_called_with_one ns f.Sum a x h = of_sum (items.atomised ns x)
of_called_with_one ns f.Min a x h = of_extreme a is_lt (items.atomised ns x) (are-atomised a ns x h)
of_called_with_one ns f.Max a x h = of_extreme a is_gt (items.atomised ns x) (are-atomised a ns x h)
of_called_with_one ns f.DistinctValues a x h = g.given (are-distinct (k.atomised a) (items.atomised ns x) (are-atomised a ns x h))
of_called_with_one ns f.LocalName a x h = of_name_part ns call.local_part x
of_called_with_one ns f.NamespaceUri a x h = of_name_part ns call.uri_part x
of_called_with_one ns f.XsString a x h = of_type_called ns f.XsString a (items.atomised ns x)
of_called_with_one ns f.XsDecimal a x h = of_type_called ns f.XsDecimal a (items.atomised ns x)
of_called_with_one ns f.XsInteger a x h = of_type_called ns f.XsInteger a (items.atomised ns x)
of_called_with_one ns f.XsDate a x h = of_type_called ns f.XsDate a (items.atomised ns x)
of_called_with_one ns f.XsBoolean a x h = of_type_called ns f.XsBoolean a (items.atomised ns x)
of_called_with_one ns _ a x h = g.given tt

of_called_with_two : (ns : List Node) (function : Function) (a : Kinds) (x y : List Item) →
    IsValueOf (value_kinds function a) (call.called_with_two ns function x y)
of_called_with_two ns f.StringJoin a x y = g.of_then (s.all_taken call.string_in (items.atomised ns x))
    (λ texts. g.of_then (call.text_argument ns y) (λ t. g.given (refl, tt)))
of_called_with_two ns f.Substring a x y = g.of_then (call.text_argument ns x) (λ t. g.of_then (call.number_argument ns y) (λ z. g.given (refl, tt)))
of_called_with_two ns f.Contains a x y = of_texts ns (λ t u. g.given (refl, tt)) x y
of_called_with_two ns f.StartsWith a x y = of_texts ns (λ t u. g.given (refl, tt)) x y
of_called_with_two ns f.EndsWith a x y = of_texts ns (λ t u. g.given (refl, tt)) x y
of_called_with_two ns f.Matches a x y = of_texts ns (λ t u. g.given (refl, tt)) x y
of_called_with_two ns f.SubstringBefore a x y = of_texts ns (λ t u. g.given (refl, tt)) x y
of_called_with_two ns f.SubstringAfter a x y = of_texts ns (λ t u. g.given (refl, tt)) x y
of_called_with_two ns _ a x y = g.given tt

of_called_with_three : (ns : List Node) (function : Function) (a : Kinds) (x y z : List Item) →
    IsValueOf (value_kinds function a) (call.called_with_three ns function x y z)
of_called_with_three ns f.Substring a x y z =
    g.of_then (call.text_argument ns x) (λ t. g.of_then (call.number_argument ns y) (λ u. g.of_then (call.number_argument ns z) (λ w. g.given (refl, tt))))
of_called_with_three ns f.Translate a x y z =
    g.of_then (call.text_argument ns x) (λ t. g.of_then (call.text_argument ns y) (λ u. g.of_then (call.text_argument ns z) (λ w. g.given (refl, tt))))
of_called_with_three ns _ a x y z = g.given tt

-- the items of the first argument are of the kinds
abbrev pub IsFirst : Kinds → List (List Item) → Type 0
IsFirst a [] = Unit {0}
IsFirst a (x ∷ arguments) = AreOf a x

of_called_with : (ns : List Node) (function : Function) (a : Kinds) (focus : Focus) (arguments : List (List Item)) → IsFirst a arguments
    → IsValueOf (value_kinds function a) (call.called_with ns function focus arguments)
of_called_with ns function a focus [] h = of_alone ns function a focus
of_called_with ns function a focus (x ∷ []) h = of_called_with_one ns function a x h
of_called_with ns function a focus (x ∷ (y ∷ [])) h = of_called_with_two ns function a x y
of_called_with ns function a focus (x ∷ (y ∷ (z ∷ []))) h = of_called_with_three ns function a x y z
of_called_with ns function a focus (x ∷ (y ∷ (z ∷ (u ∷ arguments)))) h = g.given tt

pub of_call : (ns : List Node) (function : Function) (a : Kinds) (focus : Focus) (arguments : List (List Item)) → IsFirst a arguments
    → IsValueOf (value_kinds function a) (call.call ns function focus arguments)
of_call ns f.Concat a focus arguments h = g.of_then (call.concatenated ns arguments) (λ t. g.given (refl, tt))
of_call ns function a focus arguments h = of_called_with ns function a focus arguments h
