-- The loops of the walk: what was recorded, and what is still to come.
use Rattle.std.proofs.Common.{◌≡◌, ℕ, ◌≤◌, Bool, true, false, List, [], ◌∷◌, ◌++◌, length, take, drop, Option, Some, None, refl, ap, sym, ◌∙◌, arith}
use Rattle.std.proofs.Common.{append_assoc, length-append, length-drop}
use Rattle.std.specs.Prelude.{◌&&◌, ◌==◌}
use Rattle.std.specs.List.{flat_map, list_all}
use Rattle.std.proofs.lemmas.List.{take_at, drop_at, append-nil}
use Rattle.std.proofs.lemmas.Grind.{flat_map-append}
use Rattle.std.proofs.lemmas.Bool.{eqb-true}
use Rattle.node_arena.specs.Document.{Document, node_at}
use Rattle.node_arena.specs.Moves.{is_child, has_found}
use Rattle.bind_rows.specs.declared.rows.Step.{Step}
use Rattle.bind_table.specs.Lines.{Cell, Plan, nothing, a_line}
use Rattle.bind_walk.specs.Chains.{children, numbers_from, IsAt}
use Rattle.bind_walk.specs.declared.lines.Wanted.TheVariants as wants
use Rattle.bind_walk.specs.declared.lines.FoundLine.{FoundLine}
use Rattle.bind_walk.specs.declared.walk.Carried.{Carried}
use Rattle.bind_walk.specs.declared.finds.Find.{Find}
use Rattle.bind_walk.specs.Finds.{Lists, lists_of, picked_for, put_all}
use Rattle.bind_walk.specs.Lines.{lined}
use Rattle.bind_walk.specs.Found.{found_element, is_met, is_same_number}
use Rattle.bind_walk.specs.Walks.{line_of, AreLined, around_in, is_of, found_by, entered_by, met_by, strolled, Walks, Meets, Enters, PicksIn}
use Rattle.bind_walk.proofs.NumberLemmas.{number-says, none-found}

-- ---- finds that are put

-- Where nothing is put nothing changes,
pub put-nil : (lists : Lists) → put_all lists [] ≡ lists
put-nil lists = ap (λ xs. lists_of xs (lists.indicators ++ [])) (append-nil lists.terms) ∙ ap (lists_of lists.terms) (append-nil lists.indicators)

-- and finds that are put one behind another are put together.
pub put-more : (lists : Lists) (xs ys : List Find) → put_all (put_all lists xs) ys ≡ put_all lists (xs ++ ys)
put-more lists xs ys =
    let terms = append_assoc lists.terms (flat_map (picked_for wants.Term) xs) (flat_map (picked_for wants.Term) ys)
    ∙ ap (λ zs. lists.terms ++ zs) (sym (flat_map-append (picked_for wants.Term) xs ys)) in
    let indicators = append_assoc lists.indicators (flat_map (picked_for wants.Indicator) xs) (flat_map (picked_for wants.Indicator) ys)
    ∙ ap (λ zs. lists.indicators ++ zs) (sym (flat_map-append (picked_for wants.Indicator) xs ys)) in
    ap (λ zs. lists_of zs (put_all (put_all lists xs) ys).indicators) terms ∙ ap (lists_of (put_all lists (xs ++ ys)).terms) indicators

-- ---- at an element of a line

-- An element isn't of a line whose name it hasn't.
not-entered : (d : Document) (line : FoundLine) (deeper : List Carried → ℕ → List Find) (around : List Carried) (n : ℕ)
    → has_found line.name (node_at d.nodes n) ≡ false → entered_by d line deeper around n ≡ []
not-entered d line deeper around n other =
    ap (λ b. elim (b && list_all (is_met d n) line.guards) as (λ _. List Find) [ true ↦ found_by d line deeper (around_in line.group n around) n | false ↦ [] ])
    other

-- What is found in an element of a line is found with more around where the line has a group.
pub entered : (d : Document) (line : FoundLine) (lines : List FoundLine) (n : ℕ) (around further : List Carried) (passes : Bool) (old new : Lists)
    → passes ≡ is_of d line n → passes ≡ true → around_in line.group n around ≡ further
    → PicksIn d line lines n further old new → Enters d line lines n around old new
entered d line lines n around further passes old new passes_is passed further_is picks plan is =
    picks plan is ∙ ap (put_all old) (sym
    (ap (λ b. elim b as (λ _. List Find) [ true ↦ found_by d line (strolled d plan) (around_in line.group n around) n | false ↦ [] ]) (sym passes_is ∙ passed)
    ∙ ap (λ c. found_by d line (strolled d plan) c n) further_is))

-- Of the lines of a tree these are left: what was recorded, and what they find in a child, is what all find there.
pub record Left (d : Document) (lines : List FoundLine) (n : ℕ) (around : List Carried) (old : Lists) (left : List FoundLine)
    (new : Lists) : Type 0 where
  pub some : AreLined d left
  pub shorter : length left ≤ length lines
  pub all : (plan : Plan) → lines ≡ lined d plan
      → (rest : Plan) × (left ≡ lined d rest) × (put_all new (met_by d rest around n) ≡ put_all old (met_by d plan around n))

-- Of the children of an element those from one on are left.
pub record Inside (d : Document) (lines : List FoundLine) (n : ℕ) (around : List Carried) (old : Lists) (at : Option ℕ) (new : Lists) : Type 0 where
  pub here : IsAt (is_child n) d at
  pub all : (plan : Plan) → lines ≡ lined d plan
      → put_all new (flat_map (met_by d plan around) (numbers_from (is_child n) d at)) ≡ put_all old (strolled d plan around n)

-- Without lines nothing is found.
pub walks_nowhere : (d : Document) (lines : List FoundLine) (n : ℕ) (around : List Carried) (old : Lists) → (length lines == 0) ≡ true
    → Walks d lines n around old old
walks_nowhere d lines n around old none nothing is = sym (put-nil old) ∙ ap (put_all old) (sym (nowhere (children d n)))
  where
    nowhere : (ns : List ℕ) → flat_map (met_by d nothing around) ns ≡ []
    nowhere [] = refl
    nowhere (m ∷ ns) = nowhere ns
walks_nowhere d lines n around old none (a_line s cells inside rest) is =
    absurd (let e = ap length is in let z = eqb-true (length lines) 0 none in omega (arith, e, z))

-- nor in a child that has no name
pub meets_nothing : (d : Document) (lines : List FoundLine) (n : ℕ) (around : List Carried) (old : Lists) → None ≡ (node_at d.nodes n).name
    → Meets d lines n around old old
meets_nothing d lines n around old none plan is = sym (put-nil old) ∙ ap (put_all old) (sym (all plan))
  where
    all : (plan : Plan) → met_by d plan around n ≡ []
    all nothing = refl
    all (a_line s cells inside rest) =
        ap (λ xs. xs ++ met_by d rest around n) (not-entered d (line_of d s cells inside) (strolled d inside) around n
        (none-found d (found_element d s.name) n (sym none))) ∙ all rest

-- ---- lines

-- the first line of a tree, and those inside it and beside it
pub record Split (d : Document) (line : FoundLine) (behind : List FoundLine) (plan : Plan) : Type 0 where
  pub step : Step
  pub cells : List Cell
  pub inside : Plan
  pub rest : Plan
  pub plan_is : plan ≡ a_line step cells inside rest
  pub line_is : line ≡ line_of d step cells inside
  pub behind_is : behind ≡ lined d inside ++ lined d rest

first_of : (x y : FoundLine) (xs ys : List FoundLine) → x ∷ xs ≡ y ∷ ys → (x ≡ y) × (xs ≡ ys)
first_of x y xs ys e = (cc, cc)

pub split : (d : Document) (line : FoundLine) (behind : List FoundLine) (plan : Plan) → line ∷ behind ≡ lined d plan → Split d line behind plan
split d line behind nothing e = cc
split d line behind (a_line s cells inside rest) e =
    let parts = first_of _ _ _ _ e in
    record { step = s; cells = cells; inside = inside; rest = rest; plan_is = refl; line_is = parts.0; behind_is = parts.1 }

module _ {d : Document} {line : FoundLine} {behind : List FoundLine} {plan : Plan} (s : Split d line behind plan) where
  pub split-size : line.size ≡ length (lined d s.inside)
  split-size = ap (λ (l : FoundLine). l.size) s.line_is

  pub split-fits : line.size ≤ length behind
  split-fits = omega (arith, split-size, ap length s.behind_is, length-append (lined d s.inside) (lined d s.rest))

  pub split-inside : take line.size behind ≡ lined d s.inside
  split-inside = ap (take line.size) s.behind_is ∙ take_at (lined d s.inside) (lined d s.rest) line.size (sym split-size)

  pub split-rest : drop line.size behind ≡ lined d s.rest
  split-rest = ap (drop line.size) s.behind_is ∙ drop_at (lined d s.inside) (lined d s.rest) line.size (sym split-size)

pub left_begin : (d : Document) (lines : List FoundLine) (n : ℕ) (around : List Carried) (old : Lists) → AreLined d lines
    → Left d lines n around old lines old
left_begin d lines n around old a = record { some = a; shorter = omega arith; all = λ plan is. (plan, is, refl) }

left_split : (d : Document) (left : List FoundLine) (line : FoundLine) (behind : List FoundLine) → left ≡ line ∷ behind → AreLined d left
    → (plan : Plan) × Split d line behind plan
left_split d left line behind is a = (a.plan, split d line behind a.plan (sym is ∙ a.is))

pub left_fits : (d : Document) (left : List FoundLine) (line : FoundLine) (behind : List FoundLine) → left ≡ line ∷ behind → AreLined d left
    → line.size ≤ length behind
left_fits d left line behind is a = split-fits (left_split d left line behind is a).1

pub left_inside : (d : Document) (left : List FoundLine) (line : FoundLine) (behind inside : List FoundLine) → left ≡ line ∷ behind
    → inside ≡ take line.size behind → AreLined d left → AreLined d inside
left_inside d left line behind inside is front a =
    let s = left_split d left line behind is a in
    record { plan = s.1.inside; is = front ∙ split-inside s.1 }

module _ (d : Document) (lines : List FoundLine) (n : ℕ) (around : List Carried) (old : Lists) (left : List FoundLine) (new : Lists)
    (line : FoundLine) (behind inside rest : List FoundLine) (l : Left d lines n around old left new)
    (is : left ≡ line ∷ behind) (front : inside ≡ take line.size behind) (back : rest ≡ drop line.size behind) where
  pub left_more : (after : Lists) → ((plan : Plan) → inside ≡ lined d plan → after ≡ put_all new (entered_by d line (strolled d plan) around n))
      → Left d lines n around old rest after
  left_more after enters =
      let s = left_split d left line behind is l.some in
      record {
        some = record { plan = s.1.rest; is = back ∙ split-rest s.1 };
        shorter = omega (arith, l.shorter, ap length is, ap length back, length-drop line.size behind);
        all = λ plan lined_is.
            let w = l.all plan lined_is in
            let t = split d line behind w.0 (sym is ∙ w.1) in
            let found : List Find = entered_by d (line_of d t.step t.cells t.inside) (strolled d t.inside) around n in
            let others : List Find = met_by d t.rest around n in
            let step : after ≡ put_all new found = enters t.inside (front ∙ split-inside t)
            ∙ ap (λ x. put_all new (entered_by d x (strolled d t.inside) around n)) t.line_is in (
              t.rest,
              back ∙ split-rest t,
              ap (λ lists. put_all lists others) step ∙ (put-more new found others ∙ (ap (λ p. put_all new (met_by d p around n)) (sym t.plan_is) ∙ w.2)),
            );
      }

  -- a line of another name
  pub left_past : (name : ℕ) → (node_at d.nodes n).name ≡ Some name → is_same_number line.name name ≡ false → Left d lines n around old rest new
  left_past name named other =
      left_more new (λ plan lined_is. sym (put-nil new)
      ∙ ap (put_all new) (sym (not-entered d line (strolled d plan) around n (number-says d line.name name n named ∙ other))))

pub left_end : (d : Document) (lines : List FoundLine) (n : ℕ) (around : List Carried) (old : Lists) (new : Lists) → Left d lines n around old [] new
    → Meets d lines n around old new
left_end d lines n around old new l plan is =
    let w = l.all plan is in
    at w.0 w.1 w.2
  where
    at : (rest : Plan) → [] ≡ lined d rest → put_all new (met_by d rest around n) ≡ put_all old (met_by d plan around n)
        → new ≡ put_all old (met_by d plan around n)
    at nothing e h = sym (put-nil new) ∙ h
    at (a_line s cells inside rest) e h = cc
