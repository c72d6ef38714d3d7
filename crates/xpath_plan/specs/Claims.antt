-- What a plan says of its parts beside their expressions: how each is run, which have one value at all nodes, and which predicates
-- test no position.
use Rattle.std.specs.Prelude.{◌≡◌, ℕ, suc, Bool, true, false, List, [], ◌∷◌, ◌++◌, length, map, max, slice_get, Some}
use Rattle.std.specs.List.{AllByRecursion}
use Rattle.inv_base.specs.Tree.{Name, Node}
use Rattle.xpath_tokens.specs.declared.token.Operator.TheVariants as o
use Rattle.xpath_grammar.specs.declared.step.Axis.TheVariants as a
use Rattle.xpath_meaning.specs.Expressions as e
use Rattle.xpath_meaning.specs.Expressions.{Exp}
use Rattle.xpath_meaning.specs.Resolving.{Operand, first_part}
use Rattle.xpath_meaning.specs.Meaning.{Context, mean, at}
use Rattle.xpath_meaning.specs.Uses.{IsAtNode}
use Rattle.xpath_plan.specs.declared.plan_node.Separator.{Separator}
use Rattle.xpath_plan.specs.declared.plan_node.Separator.TheVariants as l
use Rattle.xpath_plan.specs.declared.plan_node.Operation.{Operation}
use Rattle.xpath_plan.specs.declared.plan_node.Operation.TheVariants as m
use Rattle.xpath_plan.specs.declared.plan_node.PlanNode.{PlanNode, fold-PlanNode}
use Rattle.xpath_plan.specs.declared.plan_node.PlanNode.TheOpen.{PlanNode-F}
use Rattle.xpath_plan.specs.Plans.{Planned, label_of, made, simple_seen}
use Rattle.xpath_plan.specs.Shapes.{Shape, value, step, Shaped, Place, apart, at_head, between, step_shape}

-- A part that is kept: its slot, how many variables are bound around it, and its expression.
pub record Kept : Type 0 where
  pub slot : ℕ
  pub height : ℕ
  pub exp : Exp

-- What is known of a work: its expression; its parts as they are run, where it stands so; the parts that are kept, an inner one before
-- those around it; the predicates that are said to test no position; and how deep it is.
pub record Known : Type 0 where
  pub exp : Exp
  pub shown : Place → List Shaped
  pub kept : List Kept
  pub free : List Exp
  pub depth : ℕ

-- Without parts

abbrev pub exp_shape : Place → Exp → Shape
exp_shape place (e.stepped (e.axis_step a.Child (e.named name))) = step_shape place true
exp_shape place (e.stepped (e.axis_step axis test)) = step
exp_shape place _ = value

abbrev pub known_alone : Exp → Known
known_alone x = record { exp = x; shown = λ place. record { shape = exp_shape place x; once = false } ∷ []; kept = []; free = []; depth = 1 }

-- With parts

abbrev pub operands_known : List (Separator × Known) → List Operand
operands_known parts = map (λ part. (label_of part.0, part.1.exp)) parts

abbrev pub kept_known : List (Separator × Known) → List Kept
kept_known [] = []
kept_known (part ∷ parts) = part.1.kept ++ kept_known parts

abbrev pub free_known : List (Separator × Known) → List Exp
free_known [] = []
free_known (part ∷ parts) = part.1.free ++ free_known parts

abbrev pub deepest : List (Separator × Known) → ℕ
deepest [] = 0
deepest (part ∷ parts) = max part.1.depth (deepest parts)

abbrev pub own_kept : Operation → List Operand → List Kept
own_kept (m.Once slot height) parts = record { slot = slot; height = height; exp = first_part parts } ∷ []
own_kept _ parts = []

abbrev pub expressions : List Operand → List Exp
expressions parts = map (λ part. part.1) parts

-- the predicates
abbrev pub own_free : Operation → List Operand → List Exp
own_free m.FreeStep (first ∷ predicates) = expressions predicates
own_free _ parts = []

abbrev pub place_at : Bool → Separator → Place
place_at true (l.Operator o.DoubleSlash) = at_head
place_at false (l.Operator o.DoubleSlash) = between
place_at first link = apart

-- the first of them is the first part of the whole, or none of them is
abbrev pub shown_parts : Bool → List (Separator × Known) → List Shaped
shown_parts first [] = []
shown_parts first (part ∷ parts) = part.1.shown (place_at first part.0) ++ shown_parts false parts

abbrev pub head_shape : List Shaped → Shape
head_shape [] = value
head_shape (part ∷ parts) = part.shape

-- the shape of the first part, where it stands so
abbrev pub first_shape : Place → List (Separator × Known) → Shape
first_shape place [] = value
first_shape place (part ∷ parts) = head_shape (part.1.shown place)

abbrev pub own_shape : Operation → Place → List (Separator × Known) → Shape
own_shape m.FreeStep place parts = first_shape place parts
own_shape m.FilteredStep place parts = first_shape apart parts
own_shape _ place parts = value

abbrev pub head_kept : List Shaped → List Shaped
head_kept [] = []
head_kept (part ∷ parts) = record part { once = true } ∷ parts

-- a part that is kept is no part by itself
abbrev pub shown_kept : Place → List (Separator × Known) → List Shaped
shown_kept place [] = []
shown_kept place (part ∷ parts) = head_kept (part.1.shown place) ++ shown_parts false parts

abbrev pub shown_of : Operation → Place → List (Separator × Known) → List Shaped
shown_of (m.Once slot height) place parts = shown_kept place parts
shown_of kind place parts = record { shape = own_shape kind place parts; once = false } ∷ shown_parts true parts

abbrev pub known_node : Operation → List (Separator × Known) → Known
known_node kind parts = record {
  exp = made kind (operands_known parts);
  shown = λ place. shown_of kind place parts;
  kept = kept_known parts ++ own_kept kind (operands_known parts);
  free = free_known parts ++ own_free kind (operands_known parts);
  depth = suc (deepest parts);
}

-- Of a plan

abbrev pub known_step : List Name → PlanNode-F Known → Known
known_step names (PlanNode-F.Simple x) = known_alone (simple_seen names x)
known_step names (PlanNode-F.Node kind parts) = known_node kind parts

abbrev pub known : List Name → PlanNode → Known
known names = fold-PlanNode Known (known_step names)

-- the parts of a work that are kept
abbrev pub kept_in : List Name → PlanNode → List Kept
kept_in names work = (known names work).kept

abbrev pub kept_of : Planned → List Kept
kept_of planned = kept_in planned.names planned.work

abbrev pub free_in : List Name → PlanNode → List Exp
free_in names work = (known names work).free

abbrev pub free_of : Planned → List Exp
free_of planned = free_in planned.names planned.work

-- the parts of a plan as they are run, and those that are kept: one for each part of its expression
abbrev pub shown : Planned → List Shaped
shown planned = (known planned.names planned.work).shown apart

-- how many works stand one inside the other
abbrev pub depth_of : Planned → ℕ
depth_of planned = (known planned.names planned.work).depth

-- The part has one value at all nodes, inside so many variables.
abbrev pub IsSteady : Kept → Type 0
IsSteady part = (nodes : List Node) (c d : Context) → IsAtNode part.height c → IsAtNode part.height d → mean nodes part.exp c ≡ mean nodes part.exp d

-- It has one value at an item, whatever the position and the last one.
abbrev pub IsFree : Exp → Type 0
IsFree x = (nodes : List Node) (c : Context) (item : _) (position last position' last' : ℕ) →
    mean nodes x (at c item position last) ≡ mean nodes x (at c item position' last')

-- The part is the one of its slot among these, and has one value at all nodes.
pub record IsPlaced (parts : List Kept) (part : Kept) : Type 0 where
  pub at : slice_get parts part.slot ≡ Some part
  pub steady : IsSteady part

-- Slots are numbered in the order of the parts.
abbrev pub AreNumbered : ℕ → List Kept → Type 0
AreNumbered from [] = Unit {0}
AreNumbered from (part ∷ parts) = (part.slot ≡ from) × AreNumbered (suc from) parts

-- All kept parts of a work are.
abbrev pub ArePlacedIn : List Kept → List Name → PlanNode → Type 0
ArePlacedIn parts names work = AllByRecursion (IsPlaced parts) (kept_in names work)

-- What a plan says of its parts is so: each kept part has a slot of its own and one value at all nodes, and each predicate that is said
-- to test no position has one value at an item.
pub record IsSound (planned : Planned) : Type 0 where
  pub count : planned.slots ≡ length (kept_of planned)
  pub placed : AllByRecursion (IsPlaced (kept_of planned)) (kept_of planned)
  pub numbered : AreNumbered 0 (kept_of planned)
  pub free : AllByRecursion IsFree (free_of planned)
