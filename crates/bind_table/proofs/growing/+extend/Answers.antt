use Rattle.std.proofs.Common.{◌≡◌, ◌++◌, ◌==◌, take, drop, ℕ, ◌+◌, ◌≤◌, Bool, true, false, ◌&&◌, List, [], ◌∷◌, length, arith, refl, sym, ap, ◌∙◌, subst, IfOk}
use Rattle.std.proofs.Common.{Ok, Err, Result, Some, None, set}
use Rattle.std.specs.Prelude.{nat_lt, slice_get}
use Rattle.std.proofs.lemmas.Bool.{eqb-true}
use Rattle.std.proofs.lemmas.Option.{same_Some}
use Rattle.bind_rows.specs.declared.rows.Step.{Step}
use Rattle.bind_table.specs.declared.lines.Line.{Line}
use Rattle.bind_rows.specs.declared.names.Leaf.TheVariants as leaves
use Rattle.bind_rows.specs.declared.rows.Content.TheVariants as contents
use Rattle.bind_rows.specs.declared.rows.Form.TheVariants as forms
use Rattle.bind_rows.specs.declared.rows.Repeats.TheVariants as repeat
use Rattle.bind_rows.specs.declared.rows.Written.TheVariants as write
use Rattle.bind_rows.specs.declared.rows.Check.TheVariants as checks
use Rattle.bind_table.specs.Lines.{Plan, Cell, flat}
use Rattle.bind_table.specs.Growing.{IsWithin, AreLinesWithin, Seeks, is_line_of, Adds, AddsWithin, chain}
use Rattle.bind_table.proofs.GrowingLemmas.{Spot, Stands, spot, spot_bounds, stopped_line, stands, adds_new, adds_here, adds_inside, inner_got, inner_room}
use Rattle.bind_table.proofs.growing.+extend.Goals as goal

-- what was found is found in the lines themselves
module _ {lines view : List Line} {from to at : ℕ} {s : Step} (view_is : view ≡ lines) (seeks : Seeks view from to s at) where
  spot_in : (front back : List Line) (plan : Plan) → IsWithin lines from to front back plan → Spot lines to at s front back plan
  spot_in front back plan w = let P : List Line → Type 0 = λ ls. Seeks ls from to s at in spot lines from to at s front back plan (subst P view_is seeks) w

test_in : (lines view : List Line) (to at : ℕ) (s : Step) (r b : Bool) → view ≡ lines → r ≡ (nat_lt at to && is_line_of s (slice_get view at)) → r ≡ b
    → (nat_lt at to && is_line_of s (slice_get lines at)) ≡ b
test_in lines view to at s r b view_is says is = ap (λ ls. nat_lt at to && is_line_of s (slice_get ls at)) (sym view_is) ∙ (sym says ∙ is)

IfOk-then : {A E : Type 0} (P Q : A → Type 0) (r : Result A E) → ((a : A) → P a → Q a) → IfOk r P → IfOk r Q
IfOk-then P Q (Ok a) f p = f a p
IfOk-then P Q (Err e) f p = tt

adds_new_in : (lines new : List Line) (from to at : ℕ) (path : List Step) (s : Step) (steps : List Step) (row more : ℕ) → path ≡ s ∷ steps
    → ((front back : List Line) (plan : Plan) → IsWithin lines from to front back plan → Spot lines to at s front back plan)
    → (nat_lt at to && is_line_of s (slice_get lines at)) ≡ false → (more ≡ length path) × (new ≡ take at lines ++ (chain path row ++ drop at lines))
    → AddsWithin path row from to more lines new
adds_new_in lines new from to at path s steps row more path_is sp absent says front back plan cell w named =
    let P : List Step → Type 0 = λ p. (more ≡ length p) × (new ≡ take at lines ++ (chain p row ++ drop at lines)) → Adds p cell more front back plan new in
    subst P (sym path_is) (λ h. let Q : ℕ → Type 0 = λ n. Adds (s ∷ steps) cell n front back plan new in
    subst Q (sym h.0) (adds_new lines to at s steps cell row front back plan new (sp front back plan w) absent named h.1)) says

none_left : (steps : List Step) → (length steps == 0) ≡ true → steps ≡ []
none_left [] e = refl
none_left (s ∷ steps) e = let h = eqb-true (length (s ∷ steps)) 0 e in absurd (omega arith)

-- some step is left
pub record More (steps : List Step) : Type 0 where
  pub first : Step
  pub others : List Step
  pub is : steps ≡ first ∷ others

some_left : (steps : List Step) → (length steps == 0) ≡ false → More steps
some_left [] e = cc
some_left (s ∷ steps) e = record { first = s; others = steps; is = refl }

pub is_line_of-requires : goal.is_line_of-requires
is_line_of-requires t c x below got =
    let r = c.requires in
    stopped_line _ _ _ _ _ _ _ (spot_in c.as_slice.ensures.value c.seek-at.ensures r.front r.back r.plan r.within) x below
    (sym (ap (λ ls. slice_get ls c.seek-at.result) c.as_slice-2.ensures.value) ∙ got)

pub insert-requires : goal.insert-requires
insert-requires t c =
    let r = c.requires in
    let b = spot_bounds _ _ _ _ _ _ _ (spot_in c.as_slice.ensures.value c.seek-at.ensures r.front r.back r.plan r.within) in
    let n = ap length c.as_slice.ensures.value in
    let m = c.as_slice.ensures.len in
    omega (arith, b.0, b.1, n, m)

pub returns-then-not-is_line_of-clause-ok : goal.returns-then-not-is_line_of-clause-ok
returns-then-not-is_line_of-clause-ok t c =
    IfOk-then _ _ c.insert.result
    (λ more says. adds_new_in _ _ _ _ _ _ _ _ _ more c.in-Some.ensures.cases.0 (spot_in c.as_slice.ensures.value c.seek-at.ensures)
    (test_in _ _ _ _ _ _ false c.as_slice-2.ensures.value c.is_line_of.ensures c.if-not-is_line_of.true) says)
    c.insert.ensures.ok

pub returns-then-is_empty-clause-ok : goal.returns-then-is_empty-clause-ok
returns-then-is_empty-clause-ok t c front back plan cell w named =
    let sp = spot_in c.as_slice.ensures.value c.seek-at.ensures front back plan w in
    let st = stands _ _ _ _ _ _ _ sp (test_in _ _ _ _ _ _ true c.as_slice-2.ensures.value c.is_line_of.ensures c.if-not-is_line_of.false) in
    let P : List Step → Type 0 = λ p. Adds p cell 0 front back plan c.note_row.new.lines.items in
    let path_is = c.in-Some.ensures.cases.0 ∙ ap (λ steps. c.in-Some.step.now ∷ steps) (none_left _ (sym c.is_empty.ensures ∙ c.if-is_empty.true)) in
    subst P (sym path_is) (adds_here _ _ _ _ _ _ _ _ _ _ st named (c.in_ok-note_row.ensures.ok st.line st.got))

pub end_of-end-requires-clause-fits : goal.end_of-end-requires-clause-fits
end_of-end-requires-clause-fits t c x got =
    let r = c.requires in
    let sp = spot_in c.as_slice.ensures.value c.seek-at.ensures r.front r.back r.plan r.within in
    let st = stands _ _ _ _ _ _ _ sp (test_in _ _ _ _ _ _ true c.as_slice-2.ensures.value c.is_line_of.ensures c.if-not-is_line_of.false) in
    let same = same_Some _ _ (sym got ∙ (ap (λ ls. slice_get ls c.seek-at.result) c.as_slice-3.ensures.value ∙ st.got)) in
    let b = spot_bounds _ _ _ _ _ _ _ sp in
    let n = ap length c.as_slice-3.ensures.value in
    let z = ap (λ (l : Line). l.size) same in
    omega (arith, st.below, b.1, n, z)

-- the line that stands at the place, and the end of its inside
stands_in : (t : ℕ) (c : goal.After-extend-arg-1 t) (front back : List Line) (plan : Plan)
    → IsWithin c.args.lines.now.items c.args.from c.args.to front back plan
    → Stands c.args.lines.now.items c.args.to c.seek-at.result c.in-Some.step.now front back plan
stands_in t c front back plan w =
    stands _ _ _ _ _ _ _ (spot_in c.as_slice.ensures.value c.seek-at.ensures front back plan w)
    (test_in _ _ _ _ _ _ true c.as_slice-2.ensures.value c.is_line_of.ensures c.if-not-is_line_of.false)

pub extend-requires : goal.extend-requires
extend-requires t c =
    let r = c.requires in
    let st = stands_in t c r.front r.back r.plan r.within in
    let end = c.end_of-end.ensures st.line (ap (λ ls. slice_get ls c.seek-at.result) c.as_slice-3.ensures.value ∙ st.got) in
    let P : ℕ → Type 0 = λ n. AreLinesWithin c.args.lines.now.items (c.seek-at.result + 1) n in (
      (let n = ap length c.in-Some.ensures.cases.0 in let d = c.decreases in omega arith),
      subst P (sym end)
          (record { front = _; back = _; plan = _; within = st.within }),
    )

-- some cell of that number
abbrev a_cell : ℕ → Cell
a_cell n = record {
  number = n;
  row = record {
    path = [];
    leaf = leaves.Element;
    outer = None;
    inner = None;
    content = contents.Constant [];
    form = forms.Model;
    repeats = repeat.Once;
    written = write.Never;
    check = checks.Nothing;
  };
}

-- what the lines inside it are, once the row is there
adds_deeper : (t : ℕ) (c : goal.After-enlarge-arg-1 t) (front back : List Line) (plan : Plan) (cell : Cell)
    → IsWithin c.args.lines.now.items c.args.from c.args.to front back plan → cell.number ≡ c.args.row
    → (st : Stands c.args.lines.now.items c.args.to c.seek-at.result c.in-Some.step.now front back plan)
    → Adds c.in-Some.deeper.now cell c.in_ok-more.more ((front ++ flat st.passed) ++ (st.line ∷ [])) (flat st.rest ++ back) st.inside c.extend.new.lines.items
adds_deeper t c front back plan cell w named st =
    let end = c.end_of-end.ensures st.line (ap (λ ls. slice_get ls c.seek-at.result) c.as_slice-3.ensures.value ∙ st.got) in
    let P : ℕ → Type 0 = λ n. IsWithin c.args.lines.now.items (c.seek-at.result + 1) n ((front ++ flat st.passed) ++ (st.line ∷ []))
    (flat st.rest ++ back) st.inside in
    c.in_ok-more.ensures.ok _ _ _ cell (subst P (sym end) st.within) named

inside_line_fits : (lines : List Line) (to at : ℕ) (s : Step) (steps : List Step) (cell : Cell) (more : ℕ) (front back : List Line) (plan : Plan)
    (inner : List Line) → (st : Stands lines to at s front back plan) → More steps
    → Adds steps cell more ((front ++ flat st.passed) ++ (st.line ∷ [])) (flat st.rest ++ back) st.inside inner
    → (slice_get inner at ≡ Some st.line) × (at + (1 + (st.line.size + more)) ≤ length inner)
inside_line_fits lines to at s steps cell more front back plan inner st m a =
    let P : List Step → Type 0 = λ p. Adds p cell more ((front ++ flat st.passed) ++ (st.line ∷ [])) (flat st.rest ++ back) st.inside inner in
    let b = subst P m.is a in (
      inner_got lines to at s m.first m.others cell more front back plan inner st b,
      inner_room lines to at s m.first m.others cell more front back plan inner st b,
    )

adds_inside_in : (lines : List Line) (to at : ℕ) (s : Step) (steps : List Step) (cell : Cell) (more : ℕ) (front back : List Line) (plan : Plan)
    (inner new : List Line) → (st : Stands lines to at s front back plan) → More steps
    → Adds steps cell more ((front ++ flat st.passed) ++ (st.line ∷ [])) (flat st.rest ++ back) st.inside inner
    → new ≡ set inner at (record st.line { size = st.line.size + more }) → Adds (s ∷ steps) cell more front back plan new
adds_inside_in lines to at s steps cell more front back plan inner new st m a is =
    let P : List Step → Type 0 = λ p. Adds p cell more ((front ++ flat st.passed) ++ (st.line ∷ [])) (flat st.rest ++ back) st.inside inner
    → Adds (s ∷ p) cell more front back plan new in
    subst P (sym m.is) (λ b. adds_inside lines to at s m.first m.others cell more front back plan inner new st b is) a

facts_inside : (t : ℕ) (c : goal.After-enlarge-arg-1 t) → (x : Line) × (slice_get c.extend.new.lines.items c.seek-at.result ≡ Some x)
    × (c.seek-at.result + (1 + (x.size + c.in_ok-more.more)) ≤ length c.extend.new.lines.items)
facts_inside t c =
    let r = c.requires in
    let st = stands _ _ _ _ _ _ _ (spot_in c.as_slice.ensures.value c.seek-at.ensures r.front r.back r.plan r.within)
    (test_in _ _ _ _ _ _ true c.as_slice-2.ensures.value c.is_line_of.ensures c.if-not-is_line_of.false) in
    let cell = a_cell c.args.row in
    let a = adds_deeper t c r.front r.back r.plan cell r.within refl st in
    let f = inside_line_fits _ _ _ _ _ cell _ r.front r.back r.plan _ st (some_left _ (sym c.is_empty.ensures ∙ c.if-is_empty.false)) a in
    (st.line, f.0, f.1)

pub enlarge-requires-clause-there : goal.enlarge-requires-clause-there
enlarge-requires-clause-there t c = let f = facts_inside t c in let n = c.extend.new.lines.ok.0 in let h = f.2 in omega arith

pub enlarge-requires-clause-fits : goal.enlarge-requires-clause-fits
enlarge-requires-clause-fits t c x got =
    let f = facts_inside t c in
    let same = ap (λ (l : Line). l.size) (same_Some _ _ (sym got ∙ f.1)) in
    let h = f.2 in
    let n = c.extend.new.lines.ok.0 in
    let m = c.extend.new.lines.ok.1 in
    let k = c.extend.new.lines.small in
    omega arith

pub returns-clause-ok : goal.returns-clause-ok
returns-clause-ok t c front back plan cell w named =
    let st = stands _ _ _ _ _ _ _ (spot_in c.as_slice.ensures.value c.seek-at.ensures front back plan w)
    (test_in _ _ _ _ _ _ true c.as_slice-2.ensures.value c.is_line_of.ensures c.if-not-is_line_of.false) in
    let m = some_left _ (sym c.is_empty.ensures ∙ c.if-is_empty.false) in
    let end = c.end_of-end.ensures st.line (ap (λ ls. slice_get ls c.seek-at.result) c.as_slice-3.ensures.value ∙ st.got) in
    let P : ℕ → Type 0 = λ n. IsWithin c.args.lines.now.items (c.seek-at.result + 1) n ((front ++ flat st.passed) ++ (st.line ∷ []))
    (flat st.rest ++ back) st.inside in
    let a = c.in_ok-more.ensures.ok _ _ _ cell (subst P (sym end) st.within) named in
    let f = inside_line_fits _ _ _ _ _ cell _ front back plan _ st m a in
    let Q : List Step → Type 0 = λ p. Adds p cell c.in_ok-more.more front back plan c.enlarge.new.lines.items in
    subst Q (sym c.in-Some.ensures.cases.0) (adds_inside_in _ _ _ _ _ cell _ front back plan _ _ st m a (c.enlarge.ensures st.line f.0))
