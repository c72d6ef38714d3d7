-- A comparison as the order of its items.
use Rattle.std.proofs.Common.{◌≡◌, Bool, true, false, Result, Ok, Err, refl, ap, sym, ◌∙◌}
use Rattle.std.specs.declared.cmp.Ordering.{Ordering}
use Rattle.xpath_grammar.specs.declared.operators.Op.{Op}
use Rattle.xpath_items.specs.declared.item.Item.{Item}
use Rattle.xpath_items.specs.declared.item.Item.TheVariants as i
use Rattle.xpath_items.specs.declared.outcome.DynError.{DynError}
use Rattle.xpath_items.specs.declared.outcome.DynError.TheVariants as e
use Rattle.xpath_meaning.specs.Values.{then_}
use Rattle.xpath_meaning.specs.Comparing.{compare, made_alike, is_general, ordering, holds}
use Rattle.xpath_operators.specs.Orders.{order_by, general_order}

pub then_assoc : {X Y Z : Type 0} (r : Result X DynError) (f : X → Result Y DynError) (g : Y → Result Z DynError) →
    then_ r (λ x. then_ (f x) g) ≡ then_ (then_ r f) g
then_assoc (Ok x) f g = refl
then_assoc (Err x) f g = refl

by_order : (b : Bool) (op : Op) (x y : Item) → then_ (made_alike b x y) (λ pair. then_ (ordering pair.0 pair.1) (λ order. Ok (holds op order))) ≡ then_
    (order_by b x y) (λ order. Ok (holds op order))
by_order true op x y = then_assoc (made_alike true x y) (λ pair. ordering pair.0 pair.1) (λ order. Ok (holds op order))
by_order false op x y = refl

pub compare_is : (op : Op) (x y : Item) (r : Result Ordering DynError) → r ≡ order_by (is_general op) x y →
    then_ r (λ order. Ok (holds op order)) ≡ compare op x y
unfolding compare
compare_is op x y r e = ap (λ s. then_ s (λ order. Ok (holds op order))) e ∙ sym (by_order (is_general op) op x y)

-- a node is compared with nothing
pub node_order : (n : _) (y : Item) → Err e.XPTY0004 ≡ general_order (i.Node n) y
node_order n (i.Node m) = refl
node_order n (i.Boolean b) = refl
node_order n (i.Number z) = refl
node_order n (i.String s) = refl
node_order n (i.Untyped s) = refl
node_order n (i.Date d) = refl
