-- What rows pick in a document, each by itself, and what a walk over the lines of a table picks. Both see the document
-- through a sight. One node may be picked by several rows.
use Rattle.std.specs.Prelude.{ℕ, ◌+◌, Bool, true, false, List, [], ◌∷◌, ◌++◌, map, Option, Some, None, is_some}
use Rattle.std.specs.List.{flat_map}
use Rattle.term_table.specs.declared.groups.Group.{Group}
use Rattle.term_table.specs.Contexts.{inner_group}
use Rattle.bind_rows.specs.declared.rows.Row.{Row}
use Rattle.bind_rows.specs.declared.rows.Step.{Step}
use Rattle.bind_table.specs.Lines.{Cell, Plan, nothing, a_line}

-- How a document is seen, by elements X: to which elements a step leads from an element, its guards met there, in
-- document order; what is known, as C, of the elements above, once an element is one that carries a group; and what a
-- row picks, as P, at its last element.
pub record Sight (X C P : Type 0) : Type 0 where
  pub met : Step → X → List X
  pub enter : Group → X → C → C
  pub told : Cell → C → X → List P

abbrev pub entered : {X C : Type 0} → (Group → X → C → C) → Option Group → X → C → C
entered enter None x around = around
entered enter (Some group) x around = enter group x around

module _ {X C P : Type 0} (see : Sight X C P) where
  -- what is found in each of some elements
  abbrev pub through : (C → X → List P) → Option Group → C → List X → List P
  through find group around xs = flat_map (λ x. find (entered see.enter group x around) x) xs

  -- what a row picks below an element, behind these steps
  abbrev pub picked : Cell → List Step → C → X → List P
  picked cell [] around x = see.told cell around x
  picked cell (s ∷ steps) around x = through (picked cell steps) s.group around (see.met s x)

  -- what a list of rows picks, each by itself, the first with the number
  abbrev pub picked_from : ℕ → List Row → C → X → List P
  picked_from n [] around x = []
  picked_from n (row ∷ rows) around x = picked (record { number = n; row = row }) row.path around x ++ picked_from (n + 1) rows around x

  -- what a walk over lines picks
  abbrev pub here : List Cell → C → X → List P
  here cells around x = flat_map (λ cell. see.told cell around x) cells

  abbrev pub walked : Plan → C → X → List P
  walked nothing around x = []
  walked (a_line s cells inside rest) around x =
      through (λ c y. here cells c y ++ walked inside c y) s.group around (see.met s x) ++ walked rest around x

-- ---- picks with the elements that carry their groups

-- the elements that carry an outer and an inner group: a group inside invoice lines is an inner one, others are outer
-- ones
pub record Around (X : Type 0) : Type 0 where
  pub outer : Option X
  pub inner : Option X

abbrev pub enter_element : {X : Type 0} → Bool → X → Around X → Around X
enter_element true x around = record { outer = around.outer; inner = Some x }
enter_element false x around = record { outer = Some x; inner = None }

-- a node that a row picks, with the row's number and the elements that carry the groups of its context
pub record Pick (X : Type 0) : Type 0 where
  pub number : ℕ
  pub around : Around X
  pub node : X

abbrev pub kept : {X : Type 0} → Option Group → Option X → Option X
kept None element = None
kept (Some group) element = element

-- a spread row has fewer groups than it passes through
abbrev pub cut : {X : Type 0} → Row → Around X → Around X
cut row around = record { outer = kept row.outer around.outer; inner = kept row.inner around.inner }

-- the sight whose picks carry elements, where a row ends at these nodes
abbrev pub sight_of : {X : Type 0} → (Step → X → List X) → (Row → X → List X) → Sight X (Around X) (Pick X)
sight_of met ends = record {
  met = met;
  enter = λ group x around. enter_element (is_some (inner_group group)) x around;
  told = λ cell around x. map (λ node. record { number = cell.number; around = cut cell.row around; node = node }) (ends cell.row x);
}
