-- The stack of turns comes to what the bindings mean.
use Rattle.std.proofs.Common.{◌≡◌, ℕ, suc, ◌+◌, ◌<◌, Bool, true, false, List, [], ◌∷◌, length, drop, Option, Some, None, Result, Ok, Err, refl, sym, ap, ◌∙◌}
use Rattle.std.proofs.Common.{arith, append_assoc}
use Rattle.inv_base.specs.Tree.{Node}
use Rattle.xpath_grammar.specs.declared.operators.Binder.{Binder}
use Rattle.xpath_grammar.specs.declared.operators.Binder.TheVariants as b
use Rattle.xpath_items.specs.declared.item.Item.{Item}
use Rattle.xpath_items.specs.declared.outcome.DynError.{DynError}
use Rattle.xpath_meaning.specs.Values.{Value, then_, joined, each}
use Rattle.xpath_meaning.specs.Comparing.{any_of, all_of, boolean}
use Rattle.xpath_meaning.specs.Resolving.{Operand, bound_all}
use Rattle.xpath_meaning.specs.Meaning.{Context, inside, mean, truth_of, bound_by}
use Rattle.xpath_parts.specs.Turns.{join, no_turns, after, advanced}
use Rattle.xpath_run.proofs.Costs.{total, cost, costs, turns_onto, to_come}

-- Joining

joined-nothing : (v : Value) → joined (Ok []) v ≡ v
joined-nothing (Ok items) = refl
joined-nothing (Err error) = refl

joined-again : (u v w : Value) → joined (joined u v) w ≡ joined u (joined v w)
joined-again (Err error) v w = refl
joined-again (Ok xs) (Err error) w = refl
joined-again (Ok xs) (Ok ys) (Err error) = refl
joined-again (Ok xs) (Ok ys) (Ok zs) = ap Ok (append_assoc xs ys zs)

-- the turns of one binder
module _ (f : Item → Value) where
  each-onto : (items : List Item) → each f items ≡ turns_onto b.For f items (Ok [])
  each-onto [] = refl
  each-onto (item ∷ items) = ap (joined (f item)) (each-onto items)

  abbrev if_some : Result Bool DynError → Value → Value
  if_some r behind = then_ r (λ holds. elim holds [ true ↦ boolean (Ok true) | false ↦ behind ])

  abbrev if_every : Result Bool DynError → Value → Value
  if_every r behind = then_ r (λ holds. elim holds [ true ↦ behind | false ↦ boolean (Ok false) ])

  some-so : (r others : Result Bool DynError) → boolean (then_ r (λ found. elim found [ true ↦ Ok true | false ↦ others ])) ≡ if_some r (boolean others)
  some-so (Err error) others = refl
  some-so (Ok true) others = refl
  some-so (Ok false) others = refl

  every-so : (r others : Result Bool DynError) → boolean (then_ r (λ found. elim found [ true ↦ others | false ↦ Ok false ])) ≡ if_every r (boolean others)
  every-so (Err error) others = refl
  every-so (Ok true) others = refl
  every-so (Ok false) others = refl

  some-onto : (items : List Item) → boolean (any_of (λ item. truth_of (f item)) items) ≡ turns_onto b.Some f items (boolean (Ok false))
  some-onto [] = refl
  some-onto (item ∷ items) = some-so (truth_of (f item)) (any_of (λ item. truth_of (f item)) items) ∙ ap (if_some (truth_of (f item))) (some-onto items)

  every-onto : (items : List Item) → boolean (all_of (λ item. truth_of (f item)) items) ≡ turns_onto b.Every f items (boolean (Ok true))
  every-onto [] = refl
  every-onto (item ∷ items) = every-so (truth_of (f item)) (all_of (λ item. truth_of (f item)) items) ∙ ap (if_every (truth_of (f item))) (every-onto items)

  pub bound-onto : (binder : Binder) (items : List Item) → bound_by binder f items ≡ turns_onto binder f items (no_turns binder)
  bound-onto b.For items = each-onto items
  bound-onto b.Some items = some-onto items
  bound-onto b.Every items = every-onto items

  some-again : (r : Result Bool DynError) (v w : Value) → if_some (truth_of (if_some r v)) w ≡ if_some r (if_some (truth_of v) w)
  some-again (Err error) v w = refl
  some-again (Ok true) v w = refl
  some-again (Ok false) v w = refl

  every-again : (r : Result Bool DynError) (v w : Value) → if_every (truth_of (if_every r v)) w ≡ if_every r (if_every (truth_of v) w)
  every-again (Err error) v w = refl
  every-again (Ok true) v w = refl
  every-again (Ok false) v w = refl

  -- turns inside a turn are turns before those behind it
  onto-joined : (binder : Binder) (items : List Item) (behind : Value) →
      join binder (turns_onto binder f items (no_turns binder)) behind ≡ turns_onto binder f items behind
  onto-joined b.For [] behind = joined-nothing behind
  onto-joined b.For (item ∷ items) behind = joined-again (f item) (turns_onto b.For f items (Ok [])) behind ∙
      ap (joined (f item)) (onto-joined b.For items behind)
  onto-joined b.Some [] behind = refl
  onto-joined b.Some (item ∷ items) behind = some-again (truth_of (f item)) (turns_onto b.Some f items (boolean (Ok false))) behind ∙
      ap (if_some (truth_of (f item))) (onto-joined b.Some items behind)
  onto-joined b.Every [] behind = refl
  onto-joined b.Every (item ∷ items) behind = every-again (truth_of (f item)) (turns_onto b.Every f items (boolean (Ok true))) behind ∙
      ap (if_every (truth_of (f item))) (onto-joined b.Every items behind)

  pub bound-joined : (binder : Binder) (items : List Item) (behind : Value) → join binder (bound_by binder f items) behind ≡ turns_onto binder f items behind
  bound-joined binder items behind = ap (λ v. join binder v behind) (bound-onto binder items) ∙ onto-joined binder items behind

-- an error of a turn is the error of all
pub join-err : (binder : Binder) (out : List Item) (error : DynError) (behind : Value) → after binder out (join binder (Err error) behind) ≡ Err error
join-err b.For out error behind = refl
join-err b.Some out error behind = refl
join-err b.Every out error behind = refl

pub after-nothing : (binder : Binder) (v : Value) → after binder [] v ≡ v
after-nothing b.For (Ok items) = refl
after-nothing b.For (Err error) = refl
after-nothing b.Some v = refl
after-nothing b.Every v = refl

-- One part more

pub part-err : (nodes : List Node) (binder : Binder) (part : Operand) (parts : List Operand) (c : Context) (error : DynError) → mean nodes part.1 c ≡ Err error
    → mean nodes (bound_all binder (part ∷ parts)) c ≡ Err error
part-err nodes binder part [] c error is = is
part-err nodes binder part (next ∷ parts) c error is =
    ap (λ v. then_ v (bound_by binder (λ item. mean nodes (bound_all binder (next ∷ parts)) (inside c item)))) is

-- Levels

pub no-some : {X : Type 0} {x : X} → Some x ≡ None → ⊥
no-some h = cc

module _ (binder : Binder) (nodes : List Node) (inner : List Operand) where
  pub same-to_come : (at at' : ℕ → Context) (levels : List (List Item)) → ((k : ℕ) → k < length levels → at k ≡ at' k)
      → to_come binder nodes inner at levels ≡ to_come binder nodes inner at' levels
  same-to_come at at' [] same = refl
  same-to_come at at' (items ∷ around) same =
      let here : at (length around) ≡ at' (length around) = same (length around) (omega arith) in
      let others : to_come binder nodes inner at around ≡ to_come binder nodes inner at' around =
      same-to_come at at' around (λ k h. same k (omega (arith, h))) in
      λ j. turns_onto binder (λ item. mean nodes (bound_all binder (drop (length around) inner)) (inside (here j) item)) items (others j)

  pub same-costs : (at at' : ℕ → Context) (levels : List (List Item)) → ((k : ℕ) → k < length levels → at k ≡ at' k) →
      costs nodes inner at levels ≡ costs nodes inner at' levels
  same-costs at at' [] same = refl
  same-costs at at' (items ∷ around) same =
      let here : at (length around) ≡ at' (length around) = same (length around) (omega arith) in
      let others : costs nodes inner at around ≡ costs nodes inner at' around = same-costs at at' around (λ k h. same k (omega (arith, h))) in
      λ j. total (λ item. cost nodes (drop (length around) inner) (inside (here j) item)) items + others j

  -- where no item is left
  pub to_come-none : (at : ℕ → Context) (levels : List (List Item)) → advanced levels ≡ None → to_come binder nodes inner at levels ≡ no_turns binder
  to_come-none at [] is = refl
  to_come-none at ([] ∷ around) is = to_come-none at around is
  to_come-none at ((item ∷ items) ∷ around) is = absurd (no-some is)

abbrev item_in : Item → Option (Item × List (List Item)) → Item
item_in d None = d
item_in d (Some next) = next.0

abbrev pub rest_in : Option (Item × List (List Item)) → List (List Item)
rest_in None = []
rest_in (Some next) = next.1

module _ (binder : Binder) (nodes : List Node) (inner : List Operand) (at : ℕ → Context) (item : Item) (rest : List (List Item)) (k : ℕ)
    (long : length rest ≡ suc k) where
  -- at the next item
  pub to_come-next : (levels : List (List Item)) → advanced levels ≡ Some (item, rest)
      → to_come binder nodes inner at levels ≡ join binder (mean nodes (bound_all binder (drop k inner)) (inside (at k) item))
      (to_come binder nodes inner at rest)
  to_come-next [] is = absurd (no-some (sym is))
  to_come-next ([] ∷ around) is = to_come-next around is
  to_come-next ((x ∷ xs) ∷ around) is =
      let item_is : x ≡ item = ap (item_in x) is in
      let rest_is : xs ∷ around ≡ rest = ap rest_in is in
      let k_is : length around ≡ k = omega (arith, ap length rest_is, long) in
      λ j. join binder (mean nodes (bound_all binder (drop (k_is j) inner)) (inside (at (k_is j)) (item_is j))) (to_come binder nodes inner at (rest_is j))

  pub costs-next : (levels : List (List Item)) → advanced levels ≡ Some (item, rest)
      → costs nodes inner at levels ≡ suc (cost nodes (drop k inner) (inside (at k) item)) + costs nodes inner at rest
  costs-next [] is = absurd (no-some (sym is))
  costs-next ([] ∷ around) is = omega (arith, costs-next around is)
  costs-next ((x ∷ xs) ∷ around) is =
      let item_is : x ≡ item = ap (item_in x) is in
      let rest_is : xs ∷ around ≡ rest = ap rest_in is in
      let k_is : length around ≡ k = omega (arith, ap length rest_is, long) in
      let one : cost nodes (drop (length around) inner) (inside (at (length around)) x) ≡ cost nodes (drop k inner) (inside (at k) item) =
      λ j. cost nodes (drop (k_is j) inner) (inside (at (k_is j)) (item_is j)) in
      let others : costs nodes inner at (xs ∷ around) ≡ costs nodes inner at rest = ap (costs nodes inner at) rest_is in
      omega (arith, one, others)
