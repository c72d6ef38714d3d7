-- Where names lead along the lines of a table, guards aside. No public clause cites it.
use Rattle.std.specs.Prelude.{◌≡◌, ℕ, ◌+◌, ◌^◌, ◌<◌, ◌≤◌, ◌-◌, nat_lt, Bool, true, false, not, ◌&&◌, List, [], ◌∷◌, ◌++◌, length, take, drop}
use Rattle.std.specs.Prelude.{slice_get, Option, Some, None}
use Rattle.std.specs.List.{flat_map}
use Rattle.std.proofs.Common.{◌⊎◌}
use Rattle.inv_base.specs.declared.tree.Kind.TheVariants as kinds
use Rattle.inv_base.specs.Tree.{Node}
use Rattle.node_arena.specs.Document.{Document, node_at}
use Rattle.node_arena.specs.Moves.{tree_nodes, tree_node, has_found, parent, is_inside}
use Rattle.bind_rows.specs.declared.rows.Row.{Row}
use Rattle.bind_rows.specs.declared.names.ElementName.{ElementName}
use Rattle.bind_rows.specs.declared.rows.Step.{Step}
use Rattle.bind_rows.specs.Added.{built}
use Rattle.bind_table.specs.Lines.{Cell, Plan, nothing, a_line, plan_of}
use Rattle.bind_walk.specs.Found.{found_element}
use Rattle.bind_meaning.specs.Names.{has_element_name}
use Rattle.bind_meaning.specs.Elements.{is_element_kind, is_element}
use Rattle.bind_meaning.specs.Losses.{least_place, lesser}
use Rattle.bind_meaning.specs.Terms.{is_on_a_way, is_passed_over, way_to}
use Rattle.bind_walk.specs.declared.lines.FoundLine.{FoundLine}
use Rattle.bind_walk.specs.declared.passed.Arrived.{Arrived}
use Rattle.bind_walk.specs.declared.passed.Opened.{Opened}
use Rattle.bind_walk.specs.declared.passed.Span.{Span}
use Rattle.bind_walk.specs.Lines.{lined, own_place}

-- ---- lines by their names

-- what is inside a line, with the line's place
pub record Inside : Type 0 where
  pub place : Option ℕ
  pub plan : Plan

abbrev pub an_inside : Step → List Cell → Plan → Inside
an_inside s cells inside = record { place = own_place s cells inside; plan = inside }

abbrev pub no_inside : Inside
no_inside = record { place = None; plan = nothing }

-- the insides of those lines that stand beside one another and have the name of a node
abbrev pub inside_named : Document → ℕ → Plan → List Inside
inside_named d n nothing = []
inside_named d n (a_line s cells inside rest) =
    (elim (has_element_name s.name (tree_node (tree_nodes d) n)) [ true ↦ an_inside s cells inside ∷ [] | false ↦ [] ]) ++ inside_named d n rest

abbrev pub insides : Document → ℕ → List Inside → List Inside
insides d n plans = flat_map (λ (x : Inside). inside_named d n x.plan) plans

-- where a way leads
abbrev pub led : Document → List Inside → List ℕ → List Inside
led d plans [] = plans
led d plans (n ∷ way) = led d (insides d n plans) way

abbrev pub some_plan : List Inside → Bool
some_plan [] = false
some_plan (plan ∷ plans) = true

-- the least of their places
abbrev pub least_of : List Inside → Option ℕ
least_of [] = None
least_of (x ∷ xs) = lesser x.place (least_of xs)

abbrev pub path_of : Document → ℕ → List ℕ
path_of d n = n ∷ (tree_node (tree_nodes d) n).above

-- where the names of a node and of those around it lead
abbrev pub state : Document → List Inside → ℕ → List Inside
state d roots n = led d roots (way_to (path_of d n))

abbrev pub is_passed : Document → List Inside → Node → Bool
is_passed d roots node = elim (is_element node) [
  | true ↦ some_plan (led d roots (way_to node.above)) && not (some_plan (led d roots (way_to (node.number ∷ node.above))))
  | false ↦ false
]

-- the lines of a table that has a row
abbrev pub roots_of : List Row → List Inside
roots_of [] = []
roots_of (row ∷ rows) = record { place = None; plan = plan_of (row ∷ rows) } ∷ []

-- ---- spans of lines

pub record IsSpan (d : Document) (lines : List FoundLine) (from to : ℕ) (plan : Plan) : Type 0 where
  pub front : List FoundLine
  pub back : List FoundLine
  pub is : lines ≡ front ++ (lined d plan ++ back)
  pub begins : length front ≡ from
  pub ends : from + length (lined d plan) ≡ to

pub record IsSomeSpan (d : Document) (lines : List FoundLine) (from to : ℕ) : Type 0 where
  pub plan : Plan
  pub span : IsSpan d lines from to plan

abbrev pub place_in : Option FoundLine → Option ℕ
place_in None = None
place_in (Some line) = line.place

abbrev pub gate : Bool → Option ℕ → Option ℕ
gate true place = place
gate false place = None

-- the place of the line right before the lines from this one on, inside which they stand; none of the lines of a whole table
abbrev pub place_before : List FoundLine → ℕ → Option ℕ
place_before lines from = gate (nat_lt 0 from) (place_in (slice_get lines (from - 1)))

pub record IsInside (d : Document) (lines : List FoundLine) (span : Span) (x : Inside) : Type 0 where
  pub is : IsSpan d lines span.from span.to x.plan
  pub placed : place_before lines span.from ≡ x.place

abbrev pub SpansOf : Document → List FoundLine → List Span → List Inside → Type 0
SpansOf d lines [] [] = Unit {0}
SpansOf d lines [] (plan ∷ plans) = ⊥
SpansOf d lines (span ∷ spans) [] = ⊥
SpansOf d lines (span ∷ spans) (plan ∷ plans) = IsInside d lines span plan × SpansOf d lines spans plans

pub record AreSpans (d : Document) (lines : List FoundLine) (spans : List Span) : Type 0 where
  pub plans : List Inside
  pub are : SpansOf d lines spans plans

abbrev pub AddsNamed : Document → List FoundLine → ℕ → ℕ → ℕ → List Span → List Span → Type 0
AddsNamed d lines from to m old new = (plan : Plan) (plans : List Inside) → IsSpan d lines from to plan → SpansOf d lines old plans
    → SpansOf d lines new (plans ++ inside_named d m plan)

-- the things of a list from one place on, before another
abbrev pub part : {X : Type 0} → List X → Span → List X
part xs p = drop p.from (take p.to xs)

-- Where a node's name leads from a part of some spans is put behind them.
abbrev pub LeadsInside : Document → List FoundLine → Span → ℕ → List Span → List Span → Type 0
LeadsInside d lines around m old new = (plans : List Inside) → SpansOf d lines old plans → SpansOf d lines new (plans ++ insides d m (part plans around))

-- ---- a node and those around it

-- These plans are a part of all.
pub record IsPart (plans : List Inside) (p : Span) (own : List Inside) : Type 0 where
  pub ordered : p.from ≤ p.to
  pub within : p.to ≤ length plans
  pub is : part plans p ≡ own

abbrev pub no_part : Span
no_part = record { from = 0; to = 0 }

-- Of each node on a way, given from its end on, the plans to which its name leads stand behind those of the nodes around it.
abbrev pub OnWay : Document → List Inside → List Opened → List Inside → List ℕ → Type 0
OnWay d roots way plans [] = way ≡ []
OnWay d roots way plans (n ∷ path) = (around : List Opened) × (below : List Inside) × (way ≡ around ++ record { node = n; from = length below } ∷ [])
    × (plans ≡ below ++ state d roots n) × (n < length d.nodes) × OnWay d roots around below path

-- It is known of a node and of those around it where their names lead.
pub record Stands (d : Document) (lines : List FoundLine) (roots : List Inside) (spans : List Span) (way : List Opened) (n : ℕ) : Type 0 where
  pub plans : List Inside
  pub are : SpansOf d lines spans plans
  pub on : OnWay d roots way plans (path_of d n)

-- The first is the second, or around it.
abbrev pub IsAround : Document → ℕ → ℕ → Type 0
IsAround d p n = (p ≡ n) ⊎ (is_inside p (tree_node (tree_nodes d) n) ≡ true)

-- The same of a node that the one of this number is, or is around.
pub record IsNear (d : Document) (lines : List FoundLine) (roots : List Inside) (spans : List Span) (way : List Opened) (p : ℕ) : Type 0 where
  pub at : ℕ
  pub stands : Stands d lines roots spans way at
  pub around : IsAround d p at

pub record IsSomeNear (d : Document) (lines : List FoundLine) (spans : List Span) (way : List Opened) (p : ℕ) : Type 0 where
  pub roots : List Inside
  pub near : IsNear d lines roots spans way p

-- The same of this node, and its name leads to these spans.
pub record StandsAt (d : Document) (lines : List FoundLine) (roots : List Inside) (spans : List Span) (way : List Opened) (n : ℕ) (own : Span) : Type 0 where
  pub stands : Stands d lines roots spans way n
  pub is : IsPart stands.plans own (state d roots n)
  pub ends : own.to ≡ length spans

-- The same of the node before this one.
pub record IsBefore (d : Document) (lines : List FoundLine) (roots : List Inside) (spans : List Span) (way : List Opened) (m : ℕ) : Type 0 where
  pub last : ℕ
  pub is : m ≡ last + 1
  pub stands : Stands d lines roots spans way last

pub record IsSomeBefore (d : Document) (lines : List FoundLine) (spans : List Span) (way : List Opened) (m : ℕ) : Type 0 where
  pub roots : List Inside
  pub before : IsBefore d lines roots spans way m

-- It is known of this node too where its names lead, and where those of the nodes around it do.
pub record IsReached (d : Document) (lines : List FoundLine) (roots : List Inside) (spans : List Span) (way : List Opened) (m : ℕ) (arrived : Arrived) :
    Type 0 where
  pub stands : Stands d lines roots spans way m
  pub around_is : nat_lt arrived.around.from arrived.around.to ≡ some_plan (led d roots (way_to (tree_node (tree_nodes d) m).above))
  pub inside_is : IsPart stands.plans arrived.inside (state d roots m)
  pub ends : arrived.inside.to ≡ length spans

abbrev pub some_of : Span → Bool
some_of p = nat_lt p.from p.to

abbrev pub is_left : Span → Span → Bool
is_left around inside = some_of around && not (some_of inside)

abbrev pub first_spans : List Row → List FoundLine → List Span
first_spans [] lines = []
first_spans (row ∷ rows) lines = record { from = 0; to = length lines } ∷ []

abbrev pub Begins : ℕ → List Row → List FoundLine → List Span → List Opened → Type 0
Begins document rows lines spans way = (spans ≡ first_spans rows lines) × (way ≡ record { node = document; from = 0 } ∷ [])

abbrev pub one_if : Bool → ℕ → List ℕ
one_if true n = n ∷ []
one_if false n = []

-- ---- what holds of a document

pub record LeadsThrough (d : Document) : Type 0 where
  pub named : (name : ElementName) (n : ℕ) → n < length d.nodes
      → has_found (found_element d name) (node_at d.nodes n) ≡ has_element_name name (tree_node (tree_nodes d) n)
  pub rooted : 1 < length d.nodes
  pub few : length d.nodes < 2 ^ 32
  pub numbers : (n : ℕ) → n < length d.nodes → (tree_node (tree_nodes d) n).number ≡ n
  pub kinds_are : (n : ℕ) → n < length d.nodes → is_element (tree_node (tree_nodes d) n) ≡ is_element_kind (node_at d.nodes n).kind
  pub outermost : (tree_node (tree_nodes d) 0).above ≡ []
  pub no_element : is_element (tree_node (tree_nodes d) 0) ≡ false
  pub inside_one : (m p : ℕ) → m < length d.nodes → parent (tree_nodes d) m ≡ Some p → (tree_node (tree_nodes d) m).above ≡ path_of d p
  pub has_parent : (m : ℕ) → 0 < m → m < length d.nodes → (p : ℕ) × (parent (tree_nodes d) m ≡ Some p)
  pub next : (n p : ℕ) → n + 1 < length d.nodes → parent (tree_nodes d) (n + 1) ≡ Some p → IsAround d p n
  pub first : (tree_node (tree_nodes d) 0).kind ≡ kinds.Document
  -- what is inside a node stands behind it
  pub inner : (q k : ℕ) → q < length d.nodes → k < length d.nodes → is_inside q (tree_node (tree_nodes d) k) ≡ true → q < k
  pub on_a_way : (rows : List Row) (way : List ℕ) → some_plan (led d (roots_of rows) way) ≡ is_on_a_way (tree_nodes d) rows way
  pub least : (rows : List Row) (way : List ℕ) → least_of (led d (roots_of rows) way) ≡ least_place (tree_nodes d) (built rows) way
  pub passed_over : (rows : List Row) (node : Node) → is_passed d (roots_of rows) node ≡ is_passed_over (tree_nodes d) rows node
