-- Parts that are kept, and what slots hold of them.
use Rattle.std.proofs.Common.{◌≡◌, ℕ, suc, zero, ◌<◌, true, List, [], ◌∷◌, ◌++◌, length, drop, map, Option, Some, None, option_map, IfSome, get_or, Result, Ok}
use Rattle.std.proofs.Common.{Err, IfOk, OnOk, OnErr, refl, sym, ap, ◌∙◌, subst, arith, ⊎_elim, append-nil}
use Rattle.std.specs.Prelude.{slice_get, slice_set, replicate}
use Rattle.std.specs.declared.alloc.AllocError.{AllocError}
use Rattle.node_arena.specs.Document.{Document}
use Rattle.xpath_parts.specs.Whole.{IsWhole}
use Rattle.xpath_parts.proofs.SeenLemmas.{seen-node}
use Rattle.std.specs.List.{AllByRecursion}
use Rattle.std.proofs.lemmas.List.{get_or-set_other, get_or-set_same, length-reverse, length-set}
use Rattle.std.proofs.lemmas.Bool.{cases_eq, false≢true}
use Rattle.inv_base.specs.Tree.{Name}
use Rattle.node_arena.specs.Moves.{tree_nodes}
use Rattle.xpath_items.specs.declared.item.Item.{Item}
use Rattle.xpath_items.specs.declared.item.Item.TheVariants as i
use Rattle.xpath_items.specs.declared.outcome.Focus.{Focus}
use Rattle.xpath_meaning.specs.Values.{Value, value}
use Rattle.xpath_items.specs.declared.outcome.Outcome.{Outcome}
use Rattle.xpath_meaning.specs.Expressions.{Exp}
use Rattle.xpath_meaning.specs.Resolving.{first_part}
use Rattle.xpath_meaning.specs.Meaning.{Context, mean}
use Rattle.xpath_meaning.specs.Uses.{IsAtNode}
use Rattle.xpath_plan.specs.declared.plan_node.Separator.{Separator}
use Rattle.xpath_plan.specs.declared.plan_node.Operation.{Operation}
use Rattle.xpath_plan.specs.declared.plan_node.Operation.TheVariants as m
use Rattle.xpath_plan.specs.declared.plan_node.PlanNode.{PlanNode, map-PlanNode}
use Rattle.xpath_plan.specs.declared.plan_node.PlanNode.TheOpen.{PlanNode-F}
use Rattle.xpath_plan.specs.declared.plan_node.PlanNode.TheFolds.{fold-roll-PlanNode, ind-PlanNode}
use Rattle.xpath_plan.specs.declared.plan_node.PlanNode.TheVariants as w
use Rattle.xpath_plan.specs.Plans.{seen, seen_step, label_of, made}
use Rattle.xpath_plan.specs.Claims.{Kept, Known, IsPlaced, known, known_step, kept_known, operands_known, own_kept, kept_in}
use Rattle.xpath_steps.specs.Lending.{lent_value}
use Rattle.xpath_steps.specs.Variables.{ValueWithin}
use Rattle.xpath_steps.specs.declared.lending.Lent.{Lent}
use Rattle.xpath_parts.specs.declared.dynamic.DynamicContext.{DynamicContext}
use Rattle.xpath_parts.specs.Contexts.{count, context, operands_of, value_in}
use Rattle.xpath_parts.specs.Finishing.{wanted, first_alone}
use Rattle.xpath_meaning.specs.Steps.{is_node}
use Rattle.xpath_parts.specs.Placed.{kept_parts, ArePlaced}
use Rattle.xpath_parts.specs.Slots.{table, PlacedWork, PlacedParts, PlacedNode, IsHeld, IsKeptHere, HoldIn, AreHeld, Grows, filled, whole_step, whole_slot}

-- ---- the expression beside the kept parts is that of the work

operands-same : (names : List Name) (parts : List (Separator × ((work : PlanNode) × ((known names work).exp ≡ seen names work))))
    → operands_known (map (λ (p : Separator × PlanNode). (p.0, known names p.1))
    (map (λ (p : Separator × ((work : PlanNode) × ((known names work).exp ≡ seen names work))). (p.0, p.1.0)) parts))
    ≡ map (λ (p : Separator × Exp). (label_of p.0, p.1)) (map (λ (p : Separator × PlanNode). (p.0, seen names p.1))
    (map (λ (p : Separator × ((work : PlanNode) × ((known names work).exp ≡ seen names work))). (p.0, p.1.0)) parts))
operands-same names [] = refl
operands-same names (part ∷ parts) = λ j. (label_of part.0, part.1.1 j) ∷ operands-same names parts j

step-same : (names : List Name) (y : PlanNode-F ((work : PlanNode) × ((known names work).exp ≡ seen names work)))
    → (known_step names (map-PlanNode PlanNode Known (known names) (map-PlanNode ((work : PlanNode) × ((known names work).exp
    ≡ seen names work)) PlanNode (λ e. e.0) y))).exp
    ≡ seen_step names (map-PlanNode PlanNode Exp (seen names) (map-PlanNode ((work : PlanNode) × ((known names work).exp
    ≡ seen names work)) PlanNode (λ e. e.0) y))
step-same names (PlanNode-F.Simple x) = refl
step-same names (PlanNode-F.Node kind parts) = ap (made kind) (operands-same names parts)

pub known-exp : (names : List Name) (work : PlanNode) → (known names work).exp ≡ seen names work
known-exp names = ind-PlanNode (λ work. (known names work).exp ≡ seen names work) (λ x y is.
    ap (λ (k : Known). k.exp) (fold-roll-PlanNode Known (known_step names) x)
    ∙ (subst (λ z. (known_step names (map-PlanNode PlanNode Known (known names) z)).exp ≡ seen_step names (map-PlanNode PlanNode Exp (seen names) z)) is
    (step-same names y)
    ∙ sym (fold-roll-PlanNode Exp (seen_step names) x)))

operands-known : (names : List Name) (parts : List (Separator × PlanNode))
    → operands_known (map (λ (p : Separator × PlanNode). (p.0, known names p.1)) parts) ≡ operands_of names parts
operands-known names [] = refl
operands-known names (part ∷ parts) = λ j. (label_of part.0, known-exp names part.1 j) ∷ operands-known names parts j

kept-known : (names : List Name) (parts : List (Separator × PlanNode)) → kept_known (map (λ (p : Separator × PlanNode). (p.0, known names p.1)) parts)
    ≡ kept_parts names parts
kept-known names [] = refl
kept-known names (part ∷ parts) = ap (λ others. kept_in names part.1 ++ others) (kept-known names parts)

kept-node : (names : List Name) (kind : Operation) (parts : List (Separator × PlanNode))
    → kept_in names (w.Node kind parts) ≡ kept_parts names parts ++ own_kept kind (operands_of names parts)
kept-node names kind parts =
    ap (kept_in names) (sym (w.rolls-Node kind parts)) ∙ (ap (λ (k : Known). k.kept) (fold-roll-PlanNode Known (known_step names) (PlanNode-F.Node kind parts))
    ∙ (λ j. kept-known names parts j ++ own_kept kind (operands-known names parts j)))

-- ---- parts of what is placed are placed

all_left : (P : Kept → Type 0) (xs ys : List Kept) → AllByRecursion P (xs ++ ys) → AllByRecursion P xs
all_left P [] ys h = tt
all_left P (x ∷ xs) ys h = (h.0, all_left P xs ys h.1)

all_right : (P : Kept → Type 0) (xs ys : List Kept) → AllByRecursion P (xs ++ ys) → AllByRecursion P ys
all_right P [] ys h = h
all_right P (x ∷ xs) ys h = all_right P xs ys h.1

pub placed_node : (base : DynamicContext) (work : PlanNode) (kind : Operation) (parts parts' : List (Separator × PlanNode)) → work ≡ w.Node kind parts
    → parts' ≡ parts
    → PlacedWork base work → PlacedNode base kind parts'
unfolding PlacedWork PlacedNode
placed_node base work kind parts parts' is same h = subst (ArePlaced (table base))
    (ap (kept_in base.names.now) is ∙ (kept-node base.names.now kind parts
    ∙ ap (λ ps. kept_parts base.names.now ps ++ own_kept kind (operands_of base.names.now ps)) (sym same))) h

pub placed_parts : (base : DynamicContext) (kind : Operation) (parts : List (Separator × PlanNode)) → PlacedNode base kind parts → PlacedParts base parts
unfolding PlacedNode PlacedParts
placed_parts base kind parts h = all_left (IsPlaced (table base)) (kept_parts base.names.now parts) (own_kept kind (operands_of base.names.now parts)) h

pub placed_own : (base : DynamicContext) (slot height : ℕ) (parts : List (Separator × PlanNode)) → PlacedNode base (m.Once slot height) parts
    → IsPlaced (table base) (record { slot = slot; height = height; exp = first_part (operands_of base.names.now parts) })
unfolding PlacedNode
placed_own base slot height parts h = (all_right (IsPlaced (table base)) (kept_parts base.names.now parts)
    (own_kept (m.Once slot height) (operands_of base.names.now parts)) h).0

pub placed_first : (base : DynamicContext) (parts others : List (Separator × PlanNode)) (part : Separator × PlanNode) → parts ≡ part ∷ others
    → PlacedParts base parts
    → PlacedWork base part.1
unfolding PlacedParts PlacedWork
placed_first base parts others part is h = all_left (IsPlaced (table base)) (kept_in base.names.now part.1) (kept_parts base.names.now others)
    (subst (λ ps. ArePlaced (table base) (kept_parts base.names.now ps)) is h)

pub placed_others : (base : DynamicContext) (parts others : List (Separator × PlanNode)) (part : Separator × PlanNode) → parts ≡ part ∷ others
    → PlacedParts base parts
    → PlacedParts base others
unfolding PlacedParts
placed_others base parts others part is h = all_right (IsPlaced (table base)) (kept_in base.names.now part.1) (kept_parts base.names.now others)
    (subst (λ ps. ArePlaced (table base) (kept_parts base.names.now ps)) is h)

pub placed_at : (base : DynamicContext) (parts : List (Separator × PlanNode)) (k : ℕ) (part : Separator × PlanNode) → k < length parts → part
    ≡ get_or parts k part
    → PlacedParts base parts → PlacedWork base part.1
unfolding PlacedParts PlacedWork
placed_at base [] k part within is h = absurd (omega (arith, within))
placed_at base (first ∷ parts) zero part within is h =
    subst (λ (p : Separator × PlanNode). ArePlaced (table base) (kept_in base.names.now p.1)) (sym is)
    (all_left (IsPlaced (table base)) (kept_in base.names.now first.1) (kept_parts base.names.now parts) h)
placed_at base (first ∷ parts) (suc k) part within is h =
    placed_at base parts k part (omega (arith, within)) is (all_right (IsPlaced (table base)) (kept_in base.names.now first.1)
    (kept_parts base.names.now parts) h)

-- the same, and of the place itself
pub placed_there : (base : DynamicContext) (parts : List (Separator × PlanNode)) (k : ℕ) (part : Separator × PlanNode) → k < length parts → part
    ≡ get_or parts k part
    → PlacedParts base parts
    → PlacedWork base part.1 × PlacedWork base (get_or parts k part).1
placed_there base parts k part within is h =
    (placed_at base parts k part within is h, subst (λ (p : Separator × PlanNode). PlacedWork base p.1) is (placed_at base parts k part within is h))

first_placed : (base : DynamicContext) (parts : List (Separator × PlanNode)) → PlacedParts base parts → PlacedParts base (first_alone parts)
unfolding PlacedParts
first_placed base [] h = tt
first_placed base (part ∷ parts) h =
    subst (ArePlaced (table base)) (sym (append-nil (kept_in base.names.now part.1)))
    (all_left (IsPlaced (table base)) (kept_in base.names.now part.1) (kept_parts base.names.now parts) h)

none_placed : (base : DynamicContext) → PlacedParts base []
unfolding PlacedParts
none_placed base = tt

pub placed_dropped : (base : DynamicContext) (n : ℕ) (parts : List (Separator × PlanNode)) → PlacedParts base parts → PlacedParts base (drop n parts)
placed_dropped base zero parts h = h
placed_dropped base (suc n) [] h = none_placed base
placed_dropped base (suc n) (part ∷ parts) h = placed_dropped base n parts (placed_others base (part ∷ parts) parts part refl h)

wanted_placed : (base : DynamicContext) (kind : Operation) (parts : List (Separator × PlanNode)) → PlacedParts base parts → PlacedParts base (wanted kind parts)
wanted_placed base (m.Cast word function optional) parts h = first_placed base parts h
wanted_placed base (m.Signs signs) parts h = first_placed base parts h
wanted_placed base m.Only parts h = first_placed base parts h
wanted_placed base (m.Call function) parts h = h
wanted_placed base (m.Matches pattern) parts h = first_placed base parts h
wanted_placed base _ parts h = none_placed base

pub placed_wanted : (base : DynamicContext) (kind : Operation) (parts wanted_parts : List (Separator × PlanNode)) → wanted_parts ≡ wanted kind parts
    → PlacedNode base kind parts → PlacedParts base wanted_parts
placed_wanted base kind parts wanted_parts is h = subst (PlacedParts base) (sym is) (wanted_placed base kind parts (placed_parts base kind parts h))

-- ---- slots

pub grows_same : (slots : List (Option Value)) → Grows slots slots
unfolding Grows
grows_same slots = (refl, λ k v h. h)

pub grows_more : (a b c : List (Option Value)) → Grows a b → Grows b c → Grows a c
unfolding Grows
grows_more a b c f g = (g.0 ∙ f.0, λ k v h. g.1 k v (f.1 k v h))

some_is : {X : Type 0} (x y : X) → ◌≡◌ {A = Option X} (Some x) (Some y) → x ≡ y
some_is x y e = cc

put_there : (slots : List (Option Value)) (k : ℕ) (v w : Value) → get_or (slice_set slots k (Some v)) k None ≡ Some w → v ≡ w
put_there [] k v w h = cc
put_there (slot ∷ slots) zero v w h = some_is v w h
put_there (slot ∷ slots) (suc k) v w h = put_there slots k v w h

put_over : (slots : List (Option Value)) (k : ℕ) (v w : Value) → get_or slots k None ≡ Some w → get_or (slice_set slots k (Some v)) k None ≡ Some v
put_over [] k v w h = cc
put_over (slot ∷ slots) zero v w h = refl
put_over (slot ∷ slots) (suc k) v w h = put_over slots k v w h

pub held_there : (base : DynamicContext) (slots : List (Option Value)) (part : Kept) (v : Value) → IsPlaced (table base) part → AreHeld base slots
    → get_or slots part.slot None ≡ Some v
    → IsHeld (tree_nodes base.doc.now) (count base) part v
unfolding HoldIn
held_there base slots part v placed held is = held part.slot part v placed.at is

module _ (base : DynamicContext) (slots : List (Option Value)) (part : Kept) (v : Value) (c : Context) (placed : IsPlaced (table base) part)
    (here : IsAtNode part.height c)
    (is : v ≡ mean (tree_nodes base.doc.now) part.exp c) (within : ValueWithin (count base) v) (held : AreHeld base slots) where
  holds : IsHeld (tree_nodes base.doc.now) (count base) part v
  holds = record { value = λ d there. is ∙ placed.steady (tree_nodes base.doc.now) c d here there; within = within }

  pub held_filled : AreHeld base (filled slots part.slot v)
  unfolding HoldIn
  held_filled k other w at found = ⊎_elim
      (λ (same : k ≡ part.slot).
      let there : part ≡ other = some_is part other (sym placed.at ∙ (ap (slice_get (table base)) (sym same) ∙ at)) in
      let v_is : v ≡ w = put_there slots part.slot v w (ap (λ j. get_or (filled slots part.slot v) j None) (sym same) ∙ found) in
      subst (λ (p : Kept). IsHeld (tree_nodes base.doc.now) (count base) p w) there (subst (IsHeld (tree_nodes base.doc.now) (count base) part) v_is holds))
      (λ differs. held k other w at (sym (get_or-set_other slots part.slot k (Some v) None differs) ∙ found))
      (cases_eq k part.slot)

  pub grows_filled : Grows slots (filled slots part.slot v)
  unfolding Grows
  grows_filled = (
    length-set slots part.slot (Some v),
    λ k w h. ⊎_elim
        (λ (same : k ≡ part.slot).
        let was : get_or slots part.slot None ≡ Some w = ap (λ j. get_or slots j None) (sym same) ∙ h in
        let v_is : v ≡ w = is ∙ sym ((held_there base slots part w placed held was).value c here) in
        ap (λ j. get_or (filled slots part.slot v) j None) same ∙ (put_over slots part.slot v w was ∙ ap Some v_is))
        (λ differs. get_or-set_other slots part.slot k (Some v) None differs ∙ h)
        (cases_eq k part.slot),
  )

-- ---- where a part is evaluated

node_there : (item : Item) → is_node item ≡ true → (n : ℕ) × (item ≡ i.Node n)
node_there (i.Node n) h = (n, refl)
node_there (i.Boolean b) h = absurd (false≢true h)
node_there (i.Number z) h = absurd (false≢true h)
node_there (i.String s) h = absurd (false≢true h)
node_there (i.Untyped s) h = absurd (false≢true h)
node_there (i.Date day) h = absurd (false≢true h)

pub at_node : (base : DynamicContext) (focus : Focus) (bound : List Item) (height : ℕ) → is_node focus.item ≡ true → length bound ≡ height
    → IsAtNode height (context base focus bound)
at_node base focus bound height is long =
    let there = node_there focus.item is in
    record { node = there.0; item = there.1; count = length-reverse bound ∙ long }

-- what a slot holds of the part there
pub kept_here : (base : DynamicContext) (slots : List (Option Value)) (slot height : ℕ) (parts : List (Separator
    × PlanNode)) (focus : Focus) (bound : List Item)
    (found : Option Lent) (lent : Lent)
    → PlacedNode base (m.Once slot height) parts → AreHeld base slots → is_node focus.item ≡ true → length bound ≡ height
    → option_map lent_value found ≡ get_or slots slot None → found ≡ Some lent
    → (lent_value lent ≡ value_in base (first_part (operands_of base.names.now parts)) focus bound) × ValueWithin (count base) (lent_value lent)
kept_here base slots slot height parts focus bound found lent placed held is long read there =
    let part : Kept = record { slot = slot; height = height; exp = first_part (operands_of base.names.now parts) } in
    let holds : IsHeld (tree_nodes base.doc.now) (count base) part (lent_value lent) =
    held_there base slots part (lent_value lent) (placed_own base slot height parts placed) held (sym read ∙ ap (option_map lent_value) there) in
    (holds.value (context base focus bound) (at_node base focus bound height is long), holds.within)

-- the same, where there is something
pub kept_if_there : (base : DynamicContext) (slots : List (Option Value)) (slot height : ℕ) (parts : List (Separator
    × PlanNode)) (focus : Focus) (bound : List Item)
    (found : Option Lent)
    → PlacedNode base (m.Once slot height) parts → AreHeld base slots → is_node focus.item ≡ true → length bound ≡ height
    → option_map lent_value found ≡ get_or slots slot None
    → IfSome found (λ lent. lent_value lent ≡ value_in base (first_part (operands_of base.names.now parts)) focus bound)
    × IfSome found (λ lent. ValueWithin (count base) (lent_value lent))
kept_if_there base slots slot height parts focus bound None placed held is long read = (tt, tt)
kept_if_there base slots slot height parts focus bound (Some lent) placed held is long read =
    kept_here base slots slot height parts focus bound (Some lent) lent placed held is long read refl

module _ (base : DynamicContext) (slots slots' : List (Option Value)) (slot height : ℕ) (parts : List (Separator
    × PlanNode)) (focus : Focus) (bound : List Item) (v : Value)
    (placed : PlacedNode base (m.Once slot height) parts) (held : AreHeld base slots) (is : is_node focus.item ≡ true) (long : length bound ≡ height)
    (found : v ≡ value_in base (first_part (operands_of base.names.now parts)) focus bound) (within : ValueWithin (count base) v)
    (put : slots' ≡ filled slots slot v) where
  abbrev the_part : Kept
  the_part = record { slot = slot; height = height; exp = first_part (operands_of base.names.now parts) }

  pub held_now : AreHeld base slots'
  held_now = subst (AreHeld base) (sym put) (held_filled base slots the_part v (context base focus bound) (placed_own base slot height parts placed)
      (at_node base focus bound height is long) found within held)

  pub grows_now : Grows slots slots'
  grows_now = subst (Grows slots) (sym put) (grows_filled base slots the_part v (context base focus bound) (placed_own base slot height parts placed)
      (at_node base focus bound height is long) found within held)

-- ---- a part that is evaluated for its slot

pub part_here : (base : DynamicContext) (kind : Operation) (parts : List (Separator × PlanNode)) (focus : Focus) (bound : List Item) (slot : ℕ) (part :
    PlanNode)
    → kind ≡ m.Once slot (length bound) → is_node focus.item ≡ true → first_part (operands_of base.names.now parts) ≡ seen base.names.now part
    → PlacedNode base kind parts → PlacedWork base part
    → IsKeptHere base focus bound slot part
part_here base kind parts focus bound slot part once node first own placed = record {
  placed = placed;
  kept = subst (λ e. IsPlaced (table base) (record { slot = slot; height = length bound; exp = e })) first
      (placed_own base slot (length bound) parts (subst (λ kind. PlacedNode base kind parts) once own));
  node = node;
}

module _ (base : DynamicContext) (slots slots' : List (Option Value)) (focus : Focus) (bound : List Item) (slot : ℕ) (part : PlanNode) (v : Value)
    (here : IsKeptHere base focus bound slot part) (held : AreHeld base slots) (found : v ≡ value_in base (seen base.names.now part) focus bound)
    (within : ValueWithin (count base) v) (put : slots' ≡ filled slots slot v) where
  pub held_here : AreHeld base slots'
  held_here = subst (AreHeld base) (sym put) (held_filled base slots _ v (context base focus bound) here.kept
      (at_node base focus bound (length bound) here.node refl) found within held)

  pub grows_here : Grows slots slots'
  grows_here = subst (Grows slots) (sym put) (grows_filled base slots _ v (context base focus bound) here.kept
      (at_node base focus bound (length bound) here.node refl) found within held)

-- ---- the whole plan

pub whole-node : (kind : Operation) (parts : List (Separator × PlanNode)) → whole_slot (w.Node kind parts) ≡ whole_step
    (PlanNode-F.Node kind (map (λ (p : Separator × PlanNode). (p.0, whole_slot p.1)) parts))
whole-node kind parts = ap whole_slot (sym (w.rolls-Node kind parts)) ∙ fold-roll-PlanNode (Option ℕ) whole_step (PlanNode-F.Node kind parts)

within_table : (parts : List Kept) (k : ℕ) (part : Kept) → slice_get parts k ≡ Some part → k < length parts
within_table [] k part h = cc
within_table (first ∷ parts) zero part h = omega arith
within_table (first ∷ parts) (suc k) part h = let more = within_table parts k part h in omega (arith, more)

pub put_now : (base : DynamicContext) (slots slots' : List (Option Value)) (slot height : ℕ) (parts : List (Separator × PlanNode)) (v : Value)
    → PlacedNode base (m.Once slot height) parts → length slots ≡ length (table base) → slots' ≡ filled slots slot v → get_or slots' slot None ≡ Some v
put_now base slots slots' slot height parts v placed long put =
    ap (λ s. get_or s slot None) put
    ∙ get_or-set_same slots slot (Some v) None (omega (arith, within_table (table base) slot _ (placed_own base slot height parts placed).at, long))

pub whole_seen : (names : List Name) (work part : PlanNode) (slot : ℕ) → IsWhole work slot part → seen names work ≡ seen names part
whole_seen names work part slot whole = ap (seen names) whole.is ∙ seen-node names (m.Once slot zero) ((whole.link, part) ∷ whole.others)

pub whole_is : (work part : PlanNode) (slot : ℕ) → IsWhole work slot part → whole_slot work ≡ Some slot
whole_is work part slot whole = ap whole_slot whole.is ∙ whole-node (m.Once slot zero) ((whole.link, part) ∷ whole.others)

pub whole_placed : (base : DynamicContext) (work part : PlanNode) (slot : ℕ) (whole : IsWhole work slot part) → PlacedWork base work
    → PlacedNode base (m.Once slot zero) ((whole.link, part) ∷ whole.others)
whole_placed base work part slot whole h = placed_node base work (m.Once slot zero) ((whole.link, part) ∷ whole.others)
    ((whole.link, part) ∷ whole.others) whole.is refl h

pub part_placed : (base : DynamicContext) (work part : PlanNode) (slot : ℕ) → IsWhole work slot part → PlacedWork base work → PlacedWork base part
part_placed base work part slot whole h = placed_first base ((whole.link, part) ∷ whole.others) whole.others (whole.link, part) refl
    (placed_parts base (m.Once slot zero) ((whole.link, part) ∷ whole.others) (whole_placed base work part slot whole h))

-- what a slot holds of the whole
pub whole_here : (base : DynamicContext) (slots : List (Option Value)) (work part : PlanNode) (slot : ℕ) (focus : Focus) (found : Option Lent) (lent : Lent)
    → IsWhole work slot part → PlacedWork base work → AreHeld base slots → is_node focus.item ≡ true → option_map lent_value found ≡ get_or slots slot None
    → found ≡ Some lent
    → (lent_value lent ≡ value_in base (seen base.names.now work) focus []) × ValueWithin (count base) (lent_value lent)
whole_here base slots work part slot focus found lent whole placed held is read there =
    let it = kept_here base slots slot zero ((whole.link, part) ∷ whole.others) focus [] found lent (whole_placed base work part slot whole placed)
    held is refl read there in
    (it.0 ∙ ap (λ x. value_in base x focus []) (sym (whole_seen base.names.now work part slot whole)), it.1)

-- what was found of the whole, put into its slot unless memory ran out
module _ (base : DynamicContext) (slots slots' : List (Option Value)) (work part : PlanNode) (slot : ℕ) (focus : Focus) (v : Value) (r : Result Outcome
    AllocError)
    (whole : IsWhole work slot part) (placed : PlacedWork base work) (held : AreHeld base slots) (is : is_node focus.item ≡ true)
    (found : v ≡ value_in base (seen base.names.now part) focus []) (within : ValueWithin (count base) v)
    (put : OnOk r (slots' ≡ filled slots slot v)) (left : OnErr r (slots' ≡ slots)) where
  abbrev the_parts : List (Separator × PlanNode)
  the_parts = (whole.link, part) ∷ whole.others

  pub whole_held : AreHeld base slots'
  whole_held = by r put left
    where
      by : (r : Result Outcome AllocError) → OnOk r (slots' ≡ filled slots slot v) → OnErr r (slots' ≡ slots) → AreHeld base slots'
      by (Ok copy) p l = held_now base slots slots' slot zero the_parts focus [] v (whole_placed base work part slot whole placed) held is refl found within p
      by (Err error) p l = subst (AreHeld base) (sym l) held

  pub whole_grows : Grows slots slots'
  whole_grows = by r put left
    where
      by : (r : Result Outcome AllocError) → OnOk r (slots' ≡ filled slots slot v) → OnErr r (slots' ≡ slots) → Grows slots slots'
      by (Ok copy) p l = grows_now base slots slots' slot zero the_parts focus [] v (whole_placed base work part slot whole placed) held is refl found within p
      by (Err error) p l = subst (Grows slots) (sym l) (grows_same slots)

  pub whole_filled : length slots ≡ length (table base) → IfOk r (λ copy. value copy ≡ v) → (k : ℕ) → whole_slot work ≡ Some k
      → IfOk r (λ copy. get_or slots' k None ≡ Some (value copy))
  whole_filled long same k there = by r put same
    where
      by : (r : Result Outcome AllocError) → OnOk r (slots' ≡ filled slots slot v) → IfOk r (λ copy. value copy ≡ v)
          → IfOk r (λ copy. get_or slots' k None ≡ Some (value copy))
      by (Ok copy) p e = ap (λ j. get_or slots' j None) (some_is k slot (sym there ∙ whole_is work part slot whole))
          ∙ (put_now base slots slots' slot zero the_parts v (whole_placed base work part slot whole placed) long p ∙ ap Some (sym e))
      by (Err error) p e = tt

pub grows_long : (a b : List (Option Value)) → Grows a b → length b ≡ length a
unfolding Grows
grows_long a b f = f.0

pub placed_plan : (base : DynamicContext) (work : PlanNode) → base.names.now ≡ base.plan.now.names → work ≡ base.plan.now.work
    → ArePlaced (table base) (table base) → PlacedWork base work
unfolding PlacedWork
placed_plan base work names is h = subst (ArePlaced (table base)) ((λ j. kept_in (sym names j) (sym is j))) h

pub none_held : (document : Document) (parts : List Kept) (n : ℕ) → HoldIn document parts (replicate n None)
unfolding HoldIn
none_held document parts n k part v at found = none n k found
  where
    none : (n k : ℕ) → get_or (replicate {A = Option Value} n None) k None ≡ Some v → IsHeld (tree_nodes document) (length document.nodes) part v
    none zero k found = cc
    none (suc n) zero found = cc
    none (suc n) (suc k) found = none n k found
