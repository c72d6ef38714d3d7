-- The nodes in the value of a call are those in its arguments.
use Rattle.std.proofs.Common.{◌≡◌, ℕ, Bool, true, false, not, List, [], ◌∷◌, length, filter, reverse, Option, Result, Ok, Err, refl, cond, ℤ, pos}
use Rattle.std.specs.Prelude.{nat_lt}
use Rattle.std.specs.List.{list_all}
use Rattle.std.specs.declared.cmp.Ordering.{Ordering}
use Rattle.std.specs.Ordering.{is_lt, is_gt}
use Rattle.inv_base.specs.Tree.{Node, Name}
use Rattle.inv_decimal.specs.Number.{unit}
use Rattle.inv_decimal.specs.CivilDay.{CivilDay}
use Rattle.inv_decimal.specs.Arithmetic as q
use Rattle.xpath_grammar.specs.declared.functions.Function.{Function}
use Rattle.xpath_grammar.specs.declared.functions.Function.TheVariants as f
use Rattle.xpath_items.specs.declared.item.Item.{Item}
use Rattle.xpath_items.specs.declared.item.Item.TheVariants as i
use Rattle.xpath_items.specs.declared.outcome.DynError.{DynError}
use Rattle.xpath_items.specs.declared.outcome.DynError.TheVariants as d
use Rattle.xpath_items.specs.declared.outcome.Focus.{Focus}
use Rattle.xpath_meaning.specs.Values.{Value, then_, one}
use Rattle.xpath_meaning.specs.Items as items
use Rattle.xpath_meaning.specs.Reading as r
use Rattle.xpath_meaning.specs.Numbers as n
use Rattle.xpath_meaning.specs.Comparing as o
use Rattle.xpath_meaning.specs.Collections as s
use Rattle.xpath_meaning.specs.Functions as call
use Rattle.xpath_operators.specs.Nodes.{IsWithin, AreWithin, AllWithin}
use Rattle.xpath_steps.specs.Variables.{ValueWithin}
use Rattle.std.proofs.lemmas.List.{reverse-append}
use Rattle.xpath_parts.proofs.WithinLemmas.{within-append, within-along}

within-filter : (count : ℕ) (test : Item → Bool) (xs : List Item) → AreWithin count xs → AreWithin count (filter test xs)
within-filter count test [] h = tt
within-filter count test (x ∷ xs) h = go (test x) (within-filter count test xs h.1)
  where
    go : (b : Bool) → AreWithin count (filter test xs) → AreWithin count (cond b (x ∷ filter test xs) (filter test xs))
    go true g = (h.0, g)
    go false g = g

pub within-reverse : (count : ℕ) (xs : List Item) → AreWithin count xs → AreWithin count (reverse xs)
within-reverse count [] h = tt
within-reverse count (x ∷ xs) h = within-along count _ _ (reverse-append (x ∷ []) xs)
    (within-append count (reverse xs) (x ∷ []) (within-reverse count xs h.1) (h.0, tt))

-- The nodes of the value are among so many.
pub record IsInside (count : ℕ) (value : Value) : Type 0 where
  pub items : ValueWithin count value

given : {count : ℕ} {v : Value} → ValueWithin count v → IsInside count v
given h = record { items = h }

of_then : {X : Type 0} {count : ℕ} (r : Result X DynError) {f : X → Value} → ((x : X) → IsInside count (f x)) → IsInside count (then_ r f)
of_then (Ok x) h = h x
of_then (Err error) h = given tt

of_either : {count : ℕ} (b : Bool) {v w : Value} → IsInside count v → IsInside count w → IsInside count (elim b [ true ↦ v | false ↦ w ])
of_either true p q = p
of_either false p q = q

module _ (count : ℕ) where
  of_boolean : (result : Result Bool DynError) → IsInside count (o.boolean result)
  of_boolean (Ok b) = given (tt, tt)
  of_boolean (Err error) = given tt

  of_number : (result : Result ℤ DynError) → IsInside count (n.number result)
  of_number (Ok z) = given (tt, tt)
  of_number (Err error) = given tt

  of_counted : (size : ℕ) → IsInside count (n.counted size)
  of_counted size = of_either (nat_lt size unit) (given (tt, tt)) (given tt)

  of_one : {f : Item → Value} → ((x : Item) → IsInside count (f x)) → (xs : List Item) → IsInside count (n.at_one f xs)
  of_one h [] = given tt
  of_one h (x ∷ []) = h x
  of_one h (x ∷ (y ∷ xs)) = given tt

  abbrev IsResultIn : Result Item DynError → Type 0
  IsResultIn (Ok x) = IsWithin count x
  IsResultIn (Err error) = Unit {0}

  of_number_item : (read : Result ℤ DynError) → IsResultIn (r.number_item read)
  of_number_item (Ok z) = tt
  of_number_item (Err error) = tt

  of_boolean_item : (read : Result Bool DynError) → IsResultIn (r.boolean_item read)
  of_boolean_item (Ok b) = tt
  of_boolean_item (Err error) = tt

  of_day_item : (read : Result CivilDay DynError) → IsResultIn (r.day_item read)
  of_day_item (Ok day) = tt
  of_day_item (Err error) = tt

  of_decimal : (x : Item) → IsResultIn (r.as_decimal x)
  of_decimal (i.String t) = of_number_item (r.read_number t)
  of_decimal (i.Untyped t) = of_number_item (r.read_number t)
  of_decimal (i.Number z) = tt
  of_decimal (i.Boolean b) = tt
  of_decimal _ = tt

  of_integer : (x : Item) → IsResultIn (r.as_integer x)
  of_integer (i.String t) = of_number_item (r.read_whole_number t)
  of_integer (i.Untyped t) = of_number_item (r.read_whole_number t)
  of_integer (i.Number z) = tt
  of_integer (i.Boolean b) = tt
  of_integer _ = tt

  of_date : (x : Item) → IsResultIn (r.as_date x)
  of_date (i.String t) = of_day_item (r.read_day t)
  of_date (i.Untyped t) = of_day_item (r.read_day t)
  of_date (i.Date day) = tt
  of_date _ = tt

  of_truth : (x : Item) → IsResultIn (r.as_boolean x)
  of_truth (i.String t) = of_boolean_item (r.read_boolean t)
  of_truth (i.Untyped t) = of_boolean_item (r.read_boolean t)
  of_truth (i.Number z) = tt
  of_truth (i.Boolean b) = tt
  of_truth _ = tt

  of_converted : (ns : List Node) (type : Function) (x : Item) → IsResultIn (r.converted ns type x)
  of_converted ns f.XsString x = tt
  of_converted ns f.XsDecimal x = of_decimal x
  of_converted ns f.XsInteger x = of_integer x
  of_converted ns f.XsDate x = of_date x
  of_converted ns f.XsBoolean x = of_truth x
  of_converted ns _ x = tt

  of_type_called : (ns : List Node) (type : Function) (xs : List Item) → IsInside count (r.type_called ns type xs)
  of_type_called ns type [] = given tt
  of_type_called ns type (x ∷ []) = go (r.converted ns type x) (of_converted ns type x)
    where
      go : (result : Result Item DynError) → IsResultIn result → IsInside count (then_ result one)
      go (Ok y) h = given (h, tt)
      go (Err error) h = given tt
  of_type_called ns type (x ∷ (y ∷ xs)) = given tt

  are-atomised : (ns : List Node) (xs : List Item) → AreWithin count xs → AreWithin count (items.atomised ns xs)
  are-atomised ns [] h = tt
  are-atomised ns (i.Node m ∷ xs) h = (tt, are-atomised ns xs h.1)
  are-atomised ns (i.Boolean t ∷ xs) h = (h.0, are-atomised ns xs h.1)
  are-atomised ns (i.Number z ∷ xs) h = (h.0, are-atomised ns xs h.1)
  are-atomised ns (i.String t ∷ xs) h = (h.0, are-atomised ns xs h.1)
  are-atomised ns (i.Untyped t ∷ xs) h = (tt, are-atomised ns xs h.1)
  are-atomised ns (i.Date day ∷ xs) h = (h.0, are-atomised ns xs h.1)

  are-distinct : (xs : List Item) → AreWithin count xs → AreWithin count (s.distinct xs)
  are-distinct [] h = tt
  are-distinct (x ∷ xs) h = (h.0, within-filter count (λ y. not (s.are_equal x y)) (s.distinct xs) (are-distinct xs h.1))

  are_read : (x : Item) → IsWithin count x → IsResultIn (s.untyped_read x)
  are_read (i.Node m) h = h
  are_read (i.Boolean t) h = tt
  are_read (i.Number z) h = tt
  are_read (i.String t) h = tt
  are_read (i.Untyped t) h = of_number_item (r.read_number t)
  are_read (i.Date day) h = tt

  abbrev AreTakenIn : Result (List Item) DynError → Type 0
  AreTakenIn (Ok xs) = AreWithin count xs
  AreTakenIn (Err error) = Unit {0}

  are_all_read : (xs : List Item) → AreWithin count xs → AreTakenIn (s.all_taken s.untyped_read xs)
  are_all_read [] h = tt
  are_all_read (x ∷ xs) h = go (s.untyped_read x) (are_read x h.0) (s.all_taken s.untyped_read xs) (are_all_read xs h.1)
    where
      go : (y : Result Item DynError) → IsResultIn y → (ys : Result (List Item) DynError) → AreTakenIn ys
          → AreTakenIn (then_ y (λ y. then_ ys (λ ys. Ok (y ∷ ys))))
      go (Ok y) p (Ok ys) q = (p, q)
      go (Ok y) p (Err error) q = tt
      go (Err error) p ys q = tt

  of_sum : (xs : List Item) → IsInside count (s.sum xs)
  of_sum xs = of_then (s.all_taken s.untyped_read xs) (λ read. of_then (s.all_taken s.summand read) (λ numbers. of_number (s.summed (pos 0) numbers)))

  is-foremost : (before : Ordering → Bool) (x : Item) (xs : List Item) → IsWithin count x → AreWithin count xs → IsWithin count (s.foremost before x xs)
  is-foremost before x [] h q = h
  is-foremost before x (y ∷ ys) h q = is-foremost before (cond (s.stand before y x) y x) ys (go (s.stand before y x)) q.1
    where
      go : (b : Bool) → IsWithin count (cond b y x)
      go true = q.0
      go false = h

  of_extreme_of : (before : Ordering → Bool) (xs : List Item) → AreWithin count xs → IsInside count (s.extreme_of before xs)
  of_extreme_of before [] h = given tt
  of_extreme_of before (x ∷ xs) h = go (list_all (s.are_alike x) (x ∷ xs)) refl
    where
      go : (b : Bool) → list_all (s.are_alike x) (x ∷ xs) ≡ b →
          IsInside count (elim b as (λ _. Value) [ true ↦ one (s.foremost before x xs) | false ↦ Err d.FORG0006 ])
      go true e = given (is-foremost before x xs h.0 h.1, tt)
      go false e = given tt

  of_extreme : (before : Ordering → Bool) (xs : List Item) → AreWithin count xs → IsInside count (s.extreme before xs)
  of_extreme before xs h = go (s.all_taken s.untyped_read xs) (are_all_read xs h)
    where
      go : (read : Result (List Item) DynError) → AreTakenIn read → IsInside count (then_ read (s.extreme_of before))
      go (Ok ys) p = of_extreme_of before ys p
      go (Err error) p = given tt

  -- Calls

  of_string : (ns : List Node) (xs : List Item) → IsInside count (call.string ns xs)
  of_string ns [] = given (tt, tt)
  of_string ns (x ∷ []) = given (tt, tt)
  of_string ns (x ∷ (y ∷ xs)) = given tt

  of_name_part : (ns : List Node) (part : Option Name → List ℕ) (xs : List Item) → IsInside count (call.name_part ns part xs)
  of_name_part ns part [] = given (tt, tt)
  of_name_part ns part (i.Node m ∷ []) = given (tt, tt)
  of_name_part ns part _ = given tt

  of_text : (ns : List Node) {h : List ℕ → Value} → ((t : List ℕ) → IsInside count (h t)) → (xs : List Item) → IsInside count (call.of_text ns h xs)
  of_text ns p xs = of_then (call.text_argument ns xs) p

  of_texts : (ns : List Node) {h : List ℕ → List ℕ → Value} → ((t u : List ℕ) → IsInside count (h t u)) → (xs ys : List Item) →
      IsInside count (call.of_texts ns h xs ys)
  of_texts ns p xs ys = of_then (call.text_argument ns xs) (λ t. of_then (call.text_argument ns ys) (λ u. p t u))

  of_number_of : (ns : List Node) {h : ℤ → Value} → ((z : ℤ) → IsInside count (h z)) → (xs : List Item) → IsInside count (call.of_number ns h xs)
  of_number_of ns p xs = of_one (λ x. of_then (n.number_of x) p) (items.atomised ns xs)

  of_alone : (ns : List Node) (function : Function) (focus : Focus) → IsInside count (call.called_alone ns function focus)
  of_alone ns f.True focus = given (tt, tt)
  of_alone ns f.False focus = given (tt, tt)
  of_alone ns f.Position focus = of_counted focus.position
  of_alone ns f.Last focus = of_counted focus.last
  of_alone ns f.String focus = of_string ns (focus.item ∷ [])
  of_alone ns f.StringLength focus = of_counted (length (items.text_of ns focus.item))
  of_alone ns f.NormalizeSpace focus = given (tt, tt)
  of_alone ns f.LocalName focus = of_name_part ns call.local_part (focus.item ∷ [])
  of_alone ns f.NamespaceUri focus = of_name_part ns call.uri_part (focus.item ∷ [])
  of_alone ns _ focus = given tt

  of_called_with_one : (ns : List Node) (function : Function) (x : List Item) → AreWithin count x → IsInside count (call.called_with_one ns function x)
  of_called_with_one ns f.Not x h = of_boolean (then_ (items.truth x) (λ b. Ok (not b)))
  of_called_with_one ns f.Boolean x h = of_boolean (items.truth x)
  of_called_with_one ns f.Exists x h = given (tt, tt)
  of_called_with_one ns f.Empty x h = given (tt, tt)
  of_called_with_one ns f.Count x h = of_counted (length x)
  of_called_with_one ns f.Reverse x h = given (within-reverse count x h)
  of_called_with_one ns f.Data x h = given (are-atomised ns x h)
  of_called_with_one ns f.String x h = of_string ns x
  of_called_with_one ns f.StringLength x h = of_text ns (λ t. of_counted (length t)) x
  of_called_with_one ns f.NormalizeSpace x h = of_text ns (λ t. given (tt, tt)) x
  of_called_with_one ns f.UpperCase x h = of_text ns (λ t. given (tt, tt)) x
  of_called_with_one ns f.LowerCase x h = of_text ns (λ t. given (tt, tt)) x
  of_called_with_one ns f.Abs x h = of_number_of ns (λ z. given (tt, tt)) x
  of_called_with_one ns f.Floor x h = of_number_of ns (λ z. of_number (n.in_range (q.rounded_down z))) x
  of_called_with_one ns f.Ceiling x h = of_number_of ns (λ z. of_number (n.in_range (q.rounded_up z))) x
  of_called_with_one ns f.Round x h = of_number_of ns (λ z. of_number (n.in_range (q.rounded z))) x
  of_called_with_one ns f.Sum x h = of_sum (items.atomised ns x)
  of_called_with_one ns f.Min x h = of_extreme is_lt (items.atomised ns x) (are-atomised ns x h)
  of_called_with_one ns f.Max x h = of_extreme is_gt (items.atomised ns x) (are-atomised ns x h)
  of_called_with_one ns f.DistinctValues x h = given (are-distinct (items.atomised ns x) (are-atomised ns x h))
  of_called_with_one ns f.LocalName x h = of_name_part ns call.local_part x
  of_called_with_one ns f.NamespaceUri x h = of_name_part ns call.uri_part x
  of_called_with_one ns f.XsString x h = of_type_called ns f.XsString (items.atomised ns x)
  of_called_with_one ns f.XsDecimal x h = of_type_called ns f.XsDecimal (items.atomised ns x)
  of_called_with_one ns f.XsInteger x h = of_type_called ns f.XsInteger (items.atomised ns x)
  of_called_with_one ns f.XsDate x h = of_type_called ns f.XsDate (items.atomised ns x)
  of_called_with_one ns f.XsBoolean x h = of_type_called ns f.XsBoolean (items.atomised ns x)
  of_called_with_one ns _ x h = given tt

  of_called_with_two : (ns : List Node) (function : Function) (x y : List Item) → IsInside count (call.called_with_two ns function x y)
  of_called_with_two ns f.StringJoin x y = of_then (s.all_taken call.string_in (items.atomised ns x))
      (λ texts. of_then (call.text_argument ns y) (λ t. given (tt, tt)))
  of_called_with_two ns f.Substring x y = of_then (call.text_argument ns x) (λ t. of_then (call.number_argument ns y) (λ z. given (tt, tt)))
  of_called_with_two ns f.Contains x y = of_texts ns (λ t u. given (tt, tt)) x y
  of_called_with_two ns f.StartsWith x y = of_texts ns (λ t u. given (tt, tt)) x y
  of_called_with_two ns f.EndsWith x y = of_texts ns (λ t u. given (tt, tt)) x y
  of_called_with_two ns f.Matches x y = of_texts ns (λ t u. given (tt, tt)) x y
  of_called_with_two ns f.SubstringBefore x y = of_texts ns (λ t u. given (tt, tt)) x y
  of_called_with_two ns f.SubstringAfter x y = of_texts ns (λ t u. given (tt, tt)) x y
  of_called_with_two ns _ x y = given tt

  of_called_with_three : (ns : List Node) (function : Function) (x y z : List Item) → IsInside count (call.called_with_three ns function x y z)
  of_called_with_three ns f.Substring x y z =
      of_then (call.text_argument ns x) (λ t. of_then (call.number_argument ns y) (λ u. of_then (call.number_argument ns z) (λ w. given (tt, tt))))
  of_called_with_three ns f.Translate x y z =
      of_then (call.text_argument ns x) (λ t. of_then (call.text_argument ns y) (λ u. of_then (call.text_argument ns z) (λ w. given (tt, tt))))
  of_called_with_three ns _ x y z = given tt

  -- the items of the first argument are of the kinds
  abbrev IsFirst : List (List Item) → Type 0
  IsFirst [] = Unit {0}
  IsFirst (x ∷ arguments) = AreWithin count x

  of_called_with : (ns : List Node) (function : Function) (focus : Focus) (arguments : List (List Item)) → IsFirst arguments
      → IsInside count (call.called_with ns function focus arguments)
  of_called_with ns function focus [] h = of_alone ns function focus
  of_called_with ns function focus (x ∷ []) h = of_called_with_one ns function x h
  of_called_with ns function focus (x ∷ (y ∷ [])) h = of_called_with_two ns function x y
  of_called_with ns function focus (x ∷ (y ∷ (z ∷ []))) h = of_called_with_three ns function x y z
  of_called_with ns function focus (x ∷ (y ∷ (z ∷ (u ∷ arguments)))) h = given tt

  pub of_call : (ns : List Node) (function : Function) (focus : Focus) (arguments : List (List Item)) → IsFirst arguments
      → IsInside count (call.call ns function focus arguments)
  of_call ns f.Concat focus arguments h = of_then (call.concatenated ns arguments) (λ t. given (tt, tt))
  of_call ns function focus arguments h = of_called_with ns function focus arguments h

  first_within : (arguments : List (List Item)) → AllWithin count arguments → IsFirst arguments
  first_within [] h = tt
  first_within (x ∷ arguments) h = h.0

  pub call-within : (nodes : List Node) (function : Function) (focus : Focus) (arguments : List (List Item)) → AllWithin count arguments
      → ValueWithin count (call.call nodes function focus arguments)
  call-within nodes function focus arguments h = (of_call nodes function focus arguments (first_within arguments h)).items

  pub found-within : (nodes : List Node) (h : List ℕ → Bool) (items : List Item) → ValueWithin count (call.of_text nodes (λ s. call.yes_or_no (h s)) items)
  found-within nodes h items = (of_text nodes (λ s. given (tt, tt)) items).items
