-- One turn of `for`, `some` or `every`, in the stack of turns.
use Rattle.std.proofs.Common.{◌≡◌, ℕ, suc, zero, ◌+◌, ◌<◌, ◌≤◌, Bool, true, false, List, [], ◌∷◌, ◌++◌, length, take, drop, reverse, get_or, Some, None, Ok}
use Rattle.std.proofs.Common.{Err, refl, sym, ap, ◌∙◌, subst, arith}
use Rattle.std.proofs.lemmas.List.{drop_more, at_drop_all, take-take, take-append-le, length-take, length-reverse}
use Rattle.inv_base.specs.Tree.{Node, Name}
use Rattle.node_arena.specs.Moves.{tree_nodes}
use Rattle.xpath_grammar.specs.declared.operators.Binder.{Binder}
use Rattle.xpath_items.specs.declared.fault.Fault.{Fault}
use Rattle.xpath_items.specs.declared.fault.Fault.TheVariants as f
use Rattle.xpath_items.specs.Faults.{Gives}
use Rattle.xpath_items.specs.declared.item.Item.{Item}
use Rattle.xpath_items.specs.declared.outcome.DynError.{DynError}
use Rattle.xpath_items.specs.declared.outcome.Focus.{Focus}
use Rattle.xpath_meaning.specs.Values.{Value, then_}
use Rattle.xpath_meaning.specs.Resolving.{Operand, bound_all}
use Rattle.xpath_meaning.specs.Meaning.{Context, inside, mean, bound_by}
use Rattle.xpath_plan.specs.declared.plan_node.Separator.{Separator}
use Rattle.xpath_plan.specs.declared.plan_node.PlanNode.{PlanNode}
use Rattle.xpath_plan.specs.Plans.{label_of, seen}
use Rattle.xpath_parts.specs.declared.dynamic.DynamicContext.{DynamicContext}
use Rattle.xpath_parts.specs.Contexts.{context, operands_of, value_in}
use Rattle.xpath_parts.specs.Links.{bound_value}
use Rattle.xpath_parts.specs.Turns.{Takes, Advances, join, no_turns, decided, after, advanced}
use Rattle.xpath_run.proofs.Costs.{total, total_of, cost, costs, turns_onto, to_come, level}
use Rattle.xpath_run.proofs.TurnLaws.{bound-onto, bound-joined, join-err, after-nothing, part-err, same-to_come, same-costs, to_come-none, to_come-next}
use Rattle.xpath_run.proofs.TurnLaws.{costs-next, no-some, rest_in}
use Rattle.xpath_parts.proofs.WithinLemmas.{reverse-push}

pub length-push : {X : Type 0} (ys : List X) (y : X) → length (ys ++ y ∷ []) ≡ suc (length ys)
length-push [] y = refl
length-push (z ∷ ys) y = ap suc (length-push ys y)

drop-operands : (names : List Name) (k : ℕ) (parts : List (Separator × PlanNode)) → drop k (operands_of names parts) ≡ operands_of names (drop k parts)
drop-operands names zero parts = refl
drop-operands names (suc k) [] = refl
drop-operands names (suc k) (part ∷ parts) = drop-operands names k parts

pub take-whole : {X : Type 0} (n : ℕ) (xs : List X) → length xs ≤ n → take n xs ≡ xs
take-whole zero [] h = refl
take-whole zero (x ∷ xs) h = absurd (omega (arith, h))
take-whole (suc n) [] h = refl
take-whole (suc n) (x ∷ xs) h = ap (λ ys. x ∷ ys) (take-whole n xs (omega (arith, h)))

-- The next item was taken, and bound; the part is the one to be evaluated then.
pub record IsTurn (height : ℕ) (parts : List (Separator × PlanNode)) (bound bound' : List Item) (turns turns' : List (List Item)) (part : Separator
    × PlanNode) : Type 0 where
  pub item : Item
  pub k : ℕ
  pub next : advanced (reverse turns) ≡ Some (item, reverse turns')
  pub long : length turns' ≡ suc k
  pub room : height + k ≤ length bound
  pub bound_is : bound' ≡ take (height + k) bound ++ item ∷ []
  pub part_is : drop k parts ≡ part ∷ drop (k + 1) parts

pub is-turn : (height : ℕ) (parts : List (Separator × PlanNode)) (bound bound' now : List Item) (turns turns' : List (List Item)) (part : Separator
    × PlanNode) (b : Bool) (n : ℕ)
    → Advances height turns bound (Ok b) turns' now → b ≡ true
    → bound' ≡ now → n + 1 ≡ length turns' → drop n parts ≡ part ∷ drop (n + 1) parts → IsTurn height parts bound bound' turns turns' part
is-turn height parts bound bound' now turns turns' part b n advances holds same count at =
    let known : Advances height turns bound (Ok true) turns' now = subst (λ b. Advances height turns bound (Ok b) turns' now) holds advances in
    let n_is : n ≡ known.1 = omega (arith, count, known.3) in
    record {
      item = known.0;
      k = known.1;
      next = known.2;
      long = known.3;
      room = known.4;
      bound_is = same ∙ known.5;
      part_is = subst (λ n. drop n parts ≡ part ∷ drop (n + 1) parts) n_is at;
    }

pub advanced-length : (levels rest : List (List Item)) (item : Item) → advanced levels ≡ Some (item, rest) → length rest ≤ length levels
advanced-length [] rest item is = absurd (no-some (sym is))
advanced-length ([] ∷ around) rest item is = omega (arith, advanced-length around rest item is)
advanced-length ((x ∷ xs) ∷ around) rest item is = omega (arith, ap length (ap rest_in is))

pub fewer-advanced : (height : ℕ) (bound now : List Item) (turns turns' : List (List Item)) (b : Bool) → Advances height turns bound (Ok b) turns' now →
    b ≡ true → (length turns' ≤ length turns) × (0 < length turns')
fewer-advanced height bound now turns turns' b advances holds =
    let known : Advances height turns bound (Ok true) turns' now = subst (λ b. Advances height turns bound (Ok b) turns' now) holds advances in
    (omega (arith, advanced-length (reverse turns) (reverse turns') known.0 known.2, length-reverse turns, length-reverse turns'), omega (arith, known.3))

pub none-advanced : (height : ℕ) (bound now : List Item) (turns turns' : List (List Item)) (b : Bool) → Advances height turns bound (Ok b) turns' now →
    b ≡ false → advanced (reverse turns) ≡ None
none-advanced height bound now turns turns' b advances holds = subst (λ b. Advances height turns bound (Ok b) turns' now) holds advances

module _ (binder : Binder) (dynamic : DynamicContext) (focus : Focus) (height : ℕ) (parts : List (Separator × PlanNode)) where
  abbrev nodes : List Node
  nodes = tree_nodes dynamic.doc.now

  abbrev names : List Name
  names = dynamic.names.now

  abbrev inner : List Operand
  inner = operands_of names parts

  -- before the first turn
  pub begins : (bound : List Item) (items : List Item) → height ≡ length bound
      → after binder [] (to_come binder nodes inner (level dynamic focus bound height) (items ∷ [])) ≡ bound_value binder nodes inner items
      (context dynamic focus bound)
  begins bound items high =
      let same : take (height + 0) bound ≡ bound = take-whole (height + 0) bound (omega (arith, high)) in
      after-nothing binder (to_come binder nodes inner (level dynamic focus bound height) (items ∷ []))
      ∙ ((λ j. turns_onto binder (λ item. mean nodes (bound_all binder inner) (inside (context dynamic focus (same j)) item)) items (no_turns binder))
      ∙ sym (bound-onto (λ item. mean nodes (bound_all binder inner) (inside (context dynamic focus bound) item)) binder items))

  -- behind the last turn
  pub ends : (bound : List Item) (turns : List (List Item)) (out : List Item) → advanced (reverse turns) ≡ None
      → after binder out (to_come binder nodes inner (level dynamic focus bound height) (reverse turns)) ≡ after binder out (no_turns binder)
  ends bound turns out none = ap (after binder out) (to_come-none binder nodes inner (level dynamic focus bound height) (reverse turns) none)

  module _ (bound bound' : List Item) (turns turns' : List (List Item)) (part : Separator × PlanNode) (s : IsTurn height parts bound bound' turns turns' part)
    where
      abbrev item : Item
      item = s.item

      abbrev k : ℕ
      k = s.k

      next : advanced (reverse turns) ≡ Some (item, reverse turns')
      next = s.next

      long : length turns' ≡ suc k
      long = s.long

      room : height + k ≤ length bound
      room = s.room

      bound_is : bound' ≡ take (height + k) bound ++ item ∷ []
      bound_is = s.bound_is

      part_is : drop k parts ≡ part ∷ drop (k + 1) parts
      part_is = s.part_is

      abbrev before : ℕ → Context
      before = level dynamic focus bound height

      abbrev now : ℕ → Context
      now = level dynamic focus bound' height

      abbrev rest : List (List Item)
      rest = reverse turns'

      abbrev here : Context
      here = inside (before k) item

      -- what the part is evaluated in
      context-here : context dynamic focus bound' ≡ here
      context-here = ap (context dynamic focus) bound_is ∙
          (λ j. record { focus = focus; bound = reverse-push (take (height + k) bound) item j; outer = dynamic.env.now })

      front : length (take (height + k) bound) ≡ height + k
      front = omega (arith, length-take (height + k) bound, room)

      same-below : (j : ℕ) → j < length rest → now j ≡ before j
      same-below j h =
          let below : height + j ≤ height + k = omega (arith, h, length-reverse turns', long) in
          ap (context dynamic focus) (ap (take (height + j)) bound_is ∙
          (take-append-le (height + j) (take (height + k) bound) (item ∷ []) (omega (arith, below, front)) ∙ take-take (height + j) (height + k) bound below))

      same-rest : to_come binder nodes inner now rest ≡ to_come binder nodes inner before rest
      same-rest = same-to_come binder nodes inner now before rest same-below

      same-cost : costs nodes inner now rest ≡ costs nodes inner before rest
      same-cost = same-costs binder nodes inner now before rest same-below

      rest-long : length rest ≡ suc k
      rest-long = length-reverse turns' ∙ long

      opened : to_come binder nodes inner before (reverse turns) ≡ join binder (mean nodes (bound_all binder (drop k inner)) here)
          (to_come binder nodes inner before rest)
      opened = to_come-next binder nodes inner before item rest k rest-long (reverse turns) next

      inner-here : drop k inner ≡ (label_of part.0, seen names part.1) ∷ operands_of names (drop (k + 1) parts)
      inner-here = drop-operands names k parts ∙ ap (operands_of names) part_is

      abbrev found_here : Value
      found_here = value_in dynamic (seen names part.1) focus bound'

      found-is : found_here ≡ mean nodes (seen names part.1) here
      found-is = ap (mean nodes (seen names part.1)) context-here

      pub turn-err : (out : List Item) (error : DynError) → found_here ≡ Err error →
          after binder out (to_come binder nodes inner before (reverse turns)) ≡ Err error
      turn-err out error is =
          ap (after binder out) opened
          ∙ (ap (λ v. after binder out (join binder v (to_come binder nodes inner before rest)))
          (ap (λ parts. mean nodes (bound_all binder parts) here) inner-here ∙
          part-err nodes binder (label_of part.0, seen names part.1) (operands_of names (drop (k + 1) parts)) here error (sym found-is ∙ is))
          ∙ join-err binder out error (to_come binder nodes inner before rest))

      module _ (found : List Item) (is : found_here ≡ Ok found) where
        -- the part that the variables are for
        module _ (last : length parts ≤ length turns') (out : List Item) where
          none-behind : drop (k + 1) parts ≡ []
          none-behind = at_drop_all (λ (xs : List (Separator × PlanNode)). xs) parts (k + 1) (omega (arith, last, long))

          last-value : mean nodes (bound_all binder (drop k inner)) here ≡ Ok found
          last-value = ap (λ parts. mean nodes (bound_all binder parts) here)
              (inner-here ∙ ap (λ behind. (label_of part.0, seen names part.1) ∷ operands_of names behind) none-behind) ∙ (sym found-is ∙ is)

          last-opened : after binder out (to_come binder nodes inner before (reverse turns)) ≡ after binder out
              (join binder (Ok found) (to_come binder nodes inner before rest))
          last-opened = ap (after binder out) opened ∙ ap (λ v. after binder out (join binder v (to_come binder nodes inner before rest))) last-value

          pub taken-more : (out' : List Item) → Takes binder out found (Ok false) out'
              → after binder out' (to_come binder nodes inner now rest) ≡ after binder out (to_come binder nodes inner before (reverse turns))
          taken-more out' takes = ap (after binder out') same-rest ∙ sym (last-opened ∙ takes (to_come binder nodes inner before rest))

          pub taken-decided : (out' : List Item) → Takes binder out found (Ok true) out' →
              after binder out (to_come binder nodes inner before (reverse turns)) ≡ decided binder
          taken-decided out' takes = last-opened ∙ takes (to_come binder nodes inner before rest)

          pub taken-err : (out' : List Item) (error : DynError) → Takes binder out found (Err (f.Error error)) out' →
              after binder out (to_come binder nodes inner before (reverse turns)) ≡ Err error
          taken-err out' error takes = last-opened ∙ takes (to_come binder nodes inner before rest)

        pub fewer : costs nodes inner now rest < costs nodes inner before (reverse turns)
        fewer = omega (arith, same-cost, costs-next binder nodes inner before item rest k rest-long (reverse turns) next)

        -- the items of one variable more
        module _ (some_more : length turns' < length parts) (turns'' : List (List Item)) (pushed : turns'' ≡ turns' ++ found ∷ []) where
          more : k + 1 < length parts
          more = omega (arith, some_more, long)

          abbrev part_behind : Separator × PlanNode
          part_behind = get_or parts (k + 1) part

          behind-is : drop (k + 1) parts ≡ part_behind ∷ drop (k + 1 + 1) parts
          behind-is = drop_more parts (k + 1) part more

          abbrev behind : List Operand
          behind = operands_of names (part_behind ∷ drop (k + 1 + 1) parts)

          stack-is : reverse turns'' ≡ found ∷ rest
          stack-is = ap reverse pushed ∙ reverse-push turns' found

          level-is : drop (length rest) inner ≡ behind
          level-is = ap (λ n. drop n inner) (rest-long ∙ omega arith) ∙ (drop-operands names (k + 1) parts ∙ ap (operands_of names) behind-is)

          now-is : now (length rest) ≡ here
          now-is = ap (λ n. now n) rest-long ∙ (ap (context dynamic focus) (take-whole (height + suc k) bound' (omega (arith, long-bound))) ∙ context-here)
            where
              long-bound : length bound' ≤ height + suc k
              long-bound = omega (arith, ap length bound_is ∙ length-push (take (height + k) bound) item, front)

          more-opened : mean nodes (bound_all binder (drop k inner)) here ≡ bound_by binder (λ it. mean nodes (bound_all binder behind) (inside here it)) found
          more-opened = ap (λ parts. mean nodes (bound_all binder parts) here)
              (inner-here ∙ ap (λ behind. (label_of part.0, seen names part.1) ∷ operands_of names behind) behind-is)
              ∙ ap (λ v. then_ v (bound_by binder (λ it. mean nodes (bound_all binder behind) (inside here it)))) (sym found-is ∙ is)

          onto-is : to_come binder nodes inner now (found ∷ rest) ≡ turns_onto binder (λ it. mean nodes (bound_all binder behind) (inside here it)) found
              (to_come binder nodes inner before rest)
          onto-is = λ j. turns_onto binder (λ it. mean nodes (bound_all binder (level-is j)) (inside (now-is j) it)) found (same-rest j)

          pub pushed-more : (out : List Item) → after binder out (to_come binder nodes inner now (reverse turns'')) ≡ after binder out
              (to_come binder nodes inner before (reverse turns))
          pushed-more out = ap (λ levels. after binder out (to_come binder nodes inner now levels)) stack-is
              ∙ ap (after binder out) (onto-is ∙
              (sym (bound-joined (λ it. mean nodes (bound_all binder behind) (inside here it)) binder found (to_come binder nodes inner before rest))
              ∙ (ap (λ v. join binder v (to_come binder nodes inner before rest)) (sym more-opened) ∙ sym opened)))

          cost-here : cost nodes (drop k inner) here ≡ total (λ it. cost nodes behind (inside here it)) found
          cost-here = ap (λ parts. cost nodes parts here) (inner-here ∙ ap (λ behind. (label_of part.0, seen names part.1) ∷ operands_of names behind) behind-is)
              ∙ ap (total_of (λ it. cost nodes behind (inside here it))) (sym found-is ∙ is)

          cost-now : costs nodes inner now (reverse turns'') ≡ total (λ it. cost nodes behind (inside here it)) found + costs nodes inner before rest
          cost-now = ap (costs nodes inner now) stack-is ∙ (λ j. total (λ it. cost nodes (level-is j) (inside (now-is j) it)) found + same-cost j)

          pub fewer-pushed : costs nodes inner now (reverse turns'') < costs nodes inner before (reverse turns)
          fewer-pushed = omega (arith, cost-now, cost-here, costs-next binder nodes inner before item rest k rest-long (reverse turns) next)

      -- what is left of the bound items around, and how many there are
      pub around-kept : take height bound' ≡ take height bound
      around-kept = ap (take height) bound_is ∙ (take-append-le height (take (height + k) bound) (item ∷ []) (omega (arith, front)) ∙
          take-take height (height + k) bound (omega arith))

      pub high-now : length bound' ≡ height + length turns'
      high-now = omega (arith, long, ap length bound_is ∙ length-push (take (height + k) bound) item, front)

      -- a fault of the part
      pub turn-fault : (out : List Item) (whole : Value) (fault : Fault) → after binder out (to_come binder nodes inner before (reverse turns)) ≡ whole →
          Gives {X = List Item} (Err fault) found_here → Gives {X = List Item} (Err fault) whole
      turn-fault out whole f.Memory goes is = tt
      turn-fault out whole (f.Error error) goes is = sym goes ∙ turn-err out error is

      pub taken-fault : (found : List Item) (is : found_here ≡ Ok found) (last : length parts ≤ length turns') (out out' : List Item) (whole : Value)
          (fault : Fault) → after binder out (to_come binder nodes inner before (reverse turns)) ≡ whole
          → Takes binder out found (Err fault) out' → Gives {X = List Item} (Err fault) whole
      taken-fault found is last out out' whole f.Memory goes takes = tt
      taken-fault found is last out out' whole (f.Error error) goes takes = sym goes ∙ taken-err found is last out out' error takes
