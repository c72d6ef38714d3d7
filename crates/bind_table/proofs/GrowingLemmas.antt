-- A row is added to lines that are kept in preorder.
use Rattle.std.proofs.Common.{◌≡◌, ℕ, suc, Some, ◌&&◌, ◌==◌, not, IsTrue, set, ◌+◌, ◌<◌, ◌≤◌, Bool, true, false, List, [], ◌∷◌, ◌++◌, length, get_or, take}
use Rattle.std.proofs.Common.{drop, refl, sym, ap, ◌∙◌, subst, arith, append_assoc, length-append}
use Rattle.std.specs.Prelude.{nat_lt, ◌||◌, slice_get}
use Rattle.std.proofs.lemmas.Bool.{lt-ltb, ltb-true, eqb-true}
use Rattle.std.proofs.lemmas.Option.{same_Some}
use Rattle.std.proofs.lemmas.List.{append-nil, map-append}
use Rattle.std.proofs.Math.Seq.{get_or-append_seam, set-append_seam, take-append_seam, drop-append_seam}
use Rattle.bind_rows.specs.declared.rows.Step.{Step}
use Rattle.bind_rows.specs.Same.{same_step, same_rest_of_step, choose}
use Rattle.bind_table.specs.declared.lines.Line.{Line}
use Rattle.bind_table.specs.Lines.{Plan, nothing, a_line, Cell, flat, add, into, numbers, own_cells}
use Rattle.bind_table.specs.Growing.{chain, last_row, beside, is_line_of, IsWithin, AreLinesWithin, Stops, Passing, Seeks, Adds}

pub flat-beside : (p q : Plan) → flat (beside p q) ≡ flat p ++ flat q
flat-beside nothing q = refl
flat-beside (a_line s cells inside rest) q =
    ap (λ xs. record { step = s; rows = numbers cells; size = length (flat inside) } ∷ (flat inside ++ xs)) (flat-beside rest q)
    ∙ ap (λ xs. record { step = s; rows = numbers cells; size = length (flat inside) } ∷ xs) (sym (append_assoc (flat inside) (flat rest) (flat q)))

beside-beside : (p q r : Plan) → beside (beside p q) r ≡ beside p (beside q r)
beside-beside nothing q r = refl
beside-beside (a_line s cells inside rest) q r = ap (a_line s cells inside) (beside-beside rest q r)

-- the line that stands at a place where lines begin
pub record IsLine (x : Line) (plan : Plan) : Type 0 where
  pub cells : List Cell
  pub inside : Plan
  pub rest : Plan
  pub plan_is : plan ≡ a_line x.step cells inside rest
  pub rows_are : x.rows ≡ numbers cells
  pub size_is : x.size ≡ length (flat inside)

pub line_there : (lines : List Line) (at to : ℕ) (front back : List Line) (plan : Plan) (x : Line) → IsWithin lines at to front back plan → at < to
    → x ≡ get_or lines at x → IsLine x plan
line_there lines at to front back nothing x w below read = let e = w.ends in absurd (omega arith)
line_there lines at to front back (a_line s cells inside rest) x w below read =
    let line : Line = record { step = s; rows = numbers cells; size = length (flat inside) } in
    let same : x ≡ line = read ∙ (ap (λ ls. get_or ls at x) w.is ∙ (ap (λ n. get_or (front ++ (line ∷ ((flat inside ++ flat rest) ++ back))) n x) (sym w.begins)
    ∙ get_or-append_seam front line ((flat inside ++ flat rest) ++ back) x)) in
    record {
      cells = cells;
      inside = inside;
      rest = rest;
      plan_is = ap (λ (l : Line). a_line l.step cells inside rest) (sym same);
      rows_are = ap (λ (l : Line). l.rows) same;
      size_is = ap (λ (l : Line). l.size) same;
    }

-- what stands behind a line and its inside
pub behind_line : (lines : List Line) (at to : ℕ) (front back : List Line) (s : Step) (cells : List Cell) (inside rest : Plan)
    → IsWithin lines at to front back (a_line s cells inside rest)
    → IsWithin lines (at + (1 + length (flat inside))) to (front ++ (record { step = s; rows = numbers cells; size = length (flat inside) } ∷ flat inside)) back
    rest
behind_line lines at to front back s cells inside rest w =
    let line : Line = record { step = s; rows = numbers cells; size = length (flat inside) } in
    record {
      is = w.is ∙ (ap (λ xs. front ++ (line ∷ xs)) (append_assoc (flat inside) (flat rest) back)
          ∙ sym (append_assoc front (line ∷ flat inside) (flat rest ++ back)));
      begins = let n = length-append front (line ∷ flat inside) in let b = w.begins in omega arith;
      ends = let n = length-append (flat inside) (flat rest) in let e = w.ends in omega arith;
    }

-- what stands inside it
pub inside_line : (lines : List Line) (at to : ℕ) (front back : List Line) (s : Step) (cells : List Cell) (inside rest : Plan)
    → IsWithin lines at to front back (a_line s cells inside rest)
    → IsWithin lines (at + 1) (at + (1 + length (flat inside))) (front ++ (record { step = s; rows = numbers cells; size = length (flat inside) } ∷ []))
    (flat rest ++ back) inside
inside_line lines at to front back s cells inside rest w =
    let line : Line = record { step = s; rows = numbers cells; size = length (flat inside) } in
    record {
      is = w.is ∙ (ap (λ xs. front ++ (line ∷ xs)) (append_assoc (flat inside) (flat rest) back)
          ∙ sym (append_assoc front (line ∷ []) (flat inside ++ (flat rest ++ back))));
      begins = let n = length-append front (line ∷ []) in let b = w.begins in omega arith;
      ends = omega arith;
    }

-- what stands behind the lines that were passed
pub behind_passed : (lines : List Line) (at to : ℕ) (front back : List Line) (p q : Plan) → IsWithin lines at to front back (beside p q)
    → IsWithin lines (at + length (flat p)) to (front ++ flat p) back q
behind_passed lines at to front back p q w = record {
  is = w.is ∙ (ap (λ xs. front ++ (xs ++ back)) (flat-beside p q)
      ∙ (ap (λ xs. front ++ xs) (append_assoc (flat p) (flat q) back) ∙ sym (append_assoc front (flat p) (flat q ++ back))));
  begins = let n = length-append front (flat p) in let b = w.begins in omega arith;
  ends = let n = ap length (flat-beside p q) ∙ length-append (flat p) (flat q) in let e = w.ends in omega arith;
}

-- ---- the walk over lines that stand beside one another

pub line_fits : (lines : List Line) (at to : ℕ) (x : Line) → AreLinesWithin lines at to → at < to → x ≡ get_or lines at x → at + (1 + x.size) ≤ to
line_fits lines at to x w below read =
    let l = line_there lines at to w.front w.back w.plan x w.within below read in
    let n = length-append (flat l.inside) (flat l.rest) in
    let whole = ap (λ p. length (flat p)) l.plan_is in
    let e = w.within.ends in
    let size = l.size_is in
    omega arith

pub next_lines : (lines : List Line) (at to : ℕ) (x : Line) → AreLinesWithin lines at to → at < to → x ≡ get_or lines at x
    → AreLinesWithin lines (at + (1 + x.size)) to
next_lines lines at to x w below read =
    let l = line_there lines at to w.front w.back w.plan x w.within below read in
    let P : ℕ → Type 0 = λ n. AreLinesWithin lines (at + (1 + n)) to in
    let here = subst (IsWithin lines at to w.front w.back) l.plan_is w.within in
    subst P (sym l.size_is) (record { front = _; back = _; plan = _; within = behind_line lines at to w.front w.back x.step l.cells l.inside l.rest here })

pub passing_none : (lines : List Line) (from to : ℕ) (s : Step) → Passing lines from to s from
passing_none lines from to s front back plan w =
    (0, omega arith, record { passed = nothing; rest = plan; whole = refl; far = refl; stays = λ own deeper. refl })

into-past : (s t : Step) (own : List Cell → List Cell) (deeper : Plan → Plan) (cells : List Cell) (inside rest : Plan)
    → (same_step s t || nat_lt s.number t.number) ≡ false
    → into s own deeper (a_line t cells inside rest) ≡ a_line t cells inside (into s own deeper rest)
into-past s t own deeper cells inside rest past = by (same_step s t) (nat_lt s.number t.number) past
  where
    by : (a b : Bool) → (a || b) ≡ false
        → choose a (λ _. a_line t (own cells) (deeper inside) rest)
        (λ _. choose b (λ _. a_line s (own []) (deeper nothing) (a_line t cells inside rest)) (λ _. a_line t cells inside (into s own deeper rest)))
        ≡ a_line t cells inside (into s own deeper rest)
    by false false e = refl
    by true b e = cc
    by false true e = cc

pub passing_more : (lines : List Line) (from to at : ℕ) (s : Step) (x : Line) → Passing lines from to s at → at < to → x ≡ get_or lines at x
    → (same_step s x.step || nat_lt s.number x.step.number) ≡ false → Passing lines from to s (at + (1 + x.size))
passing_more lines from to at s x passing below read past front back plan w =
    let found = passing front back plan w in
    let k = found.0 in
    let p = found.2 in
    let A : Plan → Type 0 = IsWithin lines from to front back in
    let B : ℕ → Type 0 = λ n. IsWithin lines n to (front ++ flat p.passed) back p.rest in
    let there = subst B (ap (λ n. from + n) p.far ∙ found.1) (behind_passed lines from to front back p.passed p.rest (subst A p.whole w)) in
    let l = line_there lines at to (front ++ flat p.passed) back p.rest x there below read in
    let one = a_line x.step l.cells l.inside nothing in (
      k + (1 + x.size),
      (let e = found.1 in omega arith),
      record {
        passed = beside p.passed one;
        rest = l.rest;
        whole = p.whole ∙ (ap (beside p.passed) l.plan_is ∙ sym (beside-beside p.passed one l.rest));
        far =
            let a = ap length (flat-beside p.passed one) ∙ length-append (flat p.passed) (flat one) in
            let b = ap length (append-nil (flat l.inside)) in
            let c = p.far in
            let d = l.size_is in
            omega arith;
        stays = λ own deeper.
            p.stays own deeper
            ∙ (ap (λ q. beside p.passed (into s own deeper q)) l.plan_is
            ∙ (ap (beside p.passed) (into-past s x.step own deeper l.cells l.inside l.rest past)
            ∙ sym (beside-beside p.passed one (into s own deeper l.rest))));
      },
    )

stops_at_end : (s : Step) (rest : Plan) → length (flat rest) ≡ 0 → Stops s rest
stops_at_end s nothing e = tt
stops_at_end s (a_line t cells inside rest) e = absurd (omega arith)

pub seeks_end : (lines : List Line) (from to at : ℕ) (s : Step) → Passing lines from to s at → to ≤ at → Seeks lines from to s at
seeks_end lines from to at s passing end front back plan w =
    let found = passing front back plan w in
    let p = found.2 in (
      found.0,
      found.1,
      record {
        passes = p;
        stops = stops_at_end s p.rest
            (let n = ap (λ q. length (flat q)) p.whole ∙ (ap length (flat-beside p.passed p.rest) ∙ length-append (flat p.passed) (flat p.rest)) in
            let e = w.ends in
            let f = found.1 in
            let far = p.far in
            omega arith);
      },
    )

pub seeks_here : (lines : List Line) (from to at : ℕ) (s : Step) (x : Line) → Passing lines from to s at → at < to → x ≡ get_or lines at x
    → (same_step s x.step || nat_lt s.number x.step.number) ≡ true → Seeks lines from to s at
seeks_here lines from to at s x passing below read here front back plan w =
    let found = passing front back plan w in
    let p = found.2 in
    let A : Plan → Type 0 = IsWithin lines from to front back in
    let B : ℕ → Type 0 = λ n. IsWithin lines n to (front ++ flat p.passed) back p.rest in
    let there = subst B (ap (λ n. from + n) p.far ∙ found.1) (behind_passed lines from to front back p.passed p.rest (subst A p.whole w)) in
    let l = line_there lines at to (front ++ flat p.passed) back p.rest x there below read in
    (found.0, found.1, record { passes = p; stops = subst (Stops s) (sym l.plan_is) here })

-- ---- where the row goes

pub record Spot (lines : List Line) (to at : ℕ) (s : Step) (front back : List Line) (plan : Plan) : Type 0 where
  pub passed : Plan
  pub rest : Plan
  pub far : length (front ++ flat passed) ≡ at
  pub here : IsWithin lines at to (front ++ flat passed) back rest
  pub whole : plan ≡ beside passed rest
  pub stays : (own : List Cell → List Cell) (deeper : Plan → Plan) → into s own deeper plan ≡ beside passed (into s own deeper rest)
  pub stops : Stops s rest

pub spot : (lines : List Line) (from to at : ℕ) (s : Step) (front back : List Line) (plan : Plan) → Seeks lines from to s at
    → IsWithin lines from to front back plan → Spot lines to at s front back plan
spot lines from to at s front back plan seeks w =
    let found = seeks front back plan w in
    let p = found.2.passes in
    let A : Plan → Type 0 = IsWithin lines from to front back in
    let B : ℕ → Type 0 = λ n. IsWithin lines n to (front ++ flat p.passed) back p.rest in
    let there = subst B (ap (λ n. from + n) p.far ∙ found.1) (behind_passed lines from to front back p.passed p.rest (subst A p.whole w)) in
    record { passed = p.passed; rest = p.rest; far = there.begins; here = there; whole = p.whole; stays = p.stays; stops = found.2.stops }

pub within_bounds : (lines : List Line) (from to : ℕ) (front back : List Line) (plan : Plan) → IsWithin lines from to front back plan → to ≤ length lines
within_bounds lines from to front back plan w =
    let a = ap length w.is ∙ length-append front (flat plan ++ back) in
    let b = length-append (flat plan) back in
    let c = w.begins in
    let d = w.ends in
    omega arith

pub spot_bounds : (lines : List Line) (to at : ℕ) (s : Step) (front back : List Line) (plan : Plan) → Spot lines to at s front back plan
    → (at ≤ to) × (to ≤ length lines)
spot_bounds lines to at s front back plan sp = (let e = sp.here.ends in omega arith, within_bounds lines at to _ back sp.rest sp.here)

slice_get-seam : (xs : List Line) (y : Line) (ys : List Line) → slice_get (xs ++ y ∷ ys) (length xs) ≡ Some y
slice_get-seam [] y ys = refl
slice_get-seam (x ∷ xs) y ys = slice_get-seam xs y ys

-- ---- no line yet

numbers-own : (steps : List Step) (cell : Cell) → numbers (own_cells steps cell []) ≡ last_row steps cell.number
numbers-own [] cell = refl
numbers-own (s ∷ steps) cell = refl

pub length-chain : (path : List Step) (row : ℕ) → length (chain path row) ≡ length path
length-chain [] row = refl
length-chain (s ∷ path) row = ap suc (length-chain path row)

pub flat-alone : (path : List Step) (cell : Cell) → flat (add path cell nothing) ≡ chain path cell.number
flat-alone [] cell = refl
flat-alone (s ∷ path) cell =
    let inner = flat-alone path cell in
    ap (λ xs. record { step = s; rows = numbers (own_cells path cell []); size = length xs } ∷ (xs ++ [])) inner
    ∙ (ap (λ xs. record { step = s; rows = numbers (own_cells path cell []); size = length (chain path cell.number) } ∷ xs)
    (append-nil (chain path cell.number))
    ∙ (ap (λ ns. record { step = s; rows = ns; size = length (chain path cell.number) } ∷ chain path cell.number) (numbers-own path cell)
    ∙ ap (λ n. record { step = s; rows = last_row path cell.number; size = n } ∷ chain path cell.number) (length-chain path cell.number)))

into-before : (s t : Step) (own : List Cell → List Cell) (deeper : Plan → Plan) (cells : List Cell) (inside rest : Plan) → same_step s t ≡ false
    → nat_lt s.number t.number ≡ true
    → into s own deeper (a_line t cells inside rest) ≡ a_line s (own []) (deeper nothing) (a_line t cells inside rest)
into-before s t own deeper cells inside rest d e =
    ap (λ a. choose a (λ _. a_line t (own cells) (deeper inside) rest)
    (λ _. choose (nat_lt s.number t.number) (λ _. a_line s (own []) (deeper nothing) (a_line t cells inside rest))
    (λ _. a_line t cells inside (into s own deeper rest)))) d
    ∙ ap (λ b. choose b (λ _. a_line s (own []) (deeper nothing) (a_line t cells inside rest)) (λ _. a_line t cells inside (into s own deeper rest))) e

pub into-same : (s t : Step) (own : List Cell → List Cell) (deeper : Plan → Plan) (cells : List Cell) (inside rest : Plan) → same_step s t ≡ true
    → into s own deeper (a_line t cells inside rest) ≡ a_line t (own cells) (deeper inside) rest
into-same s t own deeper cells inside rest d =
    ap (λ a. choose a (λ _. a_line t (own cells) (deeper inside) rest)
    (λ _. choose (nat_lt s.number t.number) (λ _. a_line s (own []) (deeper nothing) (a_line t cells inside rest))
    (λ _. a_line t cells inside (into s own deeper rest)))) d

-- the line that stands at the place, if any
got_line : (lines : List Line) (at to : ℕ) (front back : List Line) (t : Step) (cells : List Cell) (inside rest : Plan)
    → IsWithin lines at to front back (a_line t cells inside rest)
    → slice_get lines at ≡ Some (record { step = t; rows = numbers cells; size = length (flat inside) })
got_line lines at to front back t cells inside rest w =
    ap (λ ls. slice_get ls at) w.is ∙
    (ap (λ n. slice_get (front ++ (record { step = t; rows = numbers cells; size = length (flat inside) } ∷ ((flat inside ++ flat rest) ++ back))) n)
    (sym w.begins)
    ∙ slice_get-seam front (record { step = t; rows = numbers cells; size = length (flat inside) }) ((flat inside ++ flat rest) ++ back))

or-left : (a b : Bool) → (a || b) ≡ true → b ≡ false → a ≡ true
or-left true b e d = refl
or-left false true e d = cc
or-left false false e d = e

stopped_at : (lines : List Line) (at to : ℕ) (s : Step) (front back : List Line) (rest : Plan) → IsWithin lines at to front back rest → Stops s rest
    → (x : Line) → at < to → slice_get lines at ≡ Some x → IsTrue (same_step s x.step || nat_lt s.number x.step.number)
stopped_at lines at to s front back nothing w stops x below got = let e = w.ends in absurd (omega arith)
stopped_at lines at to s front back (a_line t cells inside rest) w stops x below got =
    subst (λ (l : Line). IsTrue (same_step s l.step || nat_lt s.number l.step.number))
    (same_Some _ _ (sym (got_line lines at to front back t cells inside rest w) ∙ got)) stops

-- the line at which the search stopped is the step's, or has a greater number
pub stopped_line : (lines : List Line) (to at : ℕ) (s : Step) (front back : List Line) (plan : Plan) → Spot lines to at s front back plan
    → (x : Line) → at < to → slice_get lines at ≡ Some x → IsTrue (same_step s x.step || nat_lt s.number x.step.number)
stopped_line lines to at s front back plan sp x below got = stopped_at lines at to s (front ++ flat sp.passed) back sp.rest sp.here sp.stops x below got

unlike : (s t : Step) (n : Bool) → nat_lt s.number t.number ≡ n → (n ≡ false → same_step s t ≡ true) → (n ≡ true → same_step s t ≡ false)
    → same_step s t ≡ not n
unlike s t false e a b = a refl
unlike s t true e a b = b refl

not-before : (s t : Step) → nat_lt s.number t.number ≡ true → same_step s t ≡ false
not-before s t before = by (s.number == t.number) refl
  where
    by : (b : Bool) → (s.number == t.number) ≡ b → choose b (λ _. same_rest_of_step s t) (λ _. false) ≡ false
    by true e = let h = eqb-true s.number t.number e in let k = ltb-true s.number t.number before in absurd (omega arith)
    by false e = refl

-- there, a number that isn't greater says that it is the step's
pub same-there : (s t : Step) → IsTrue (same_step s t || nat_lt s.number t.number) → same_step s t ≡ not (nat_lt s.number t.number)
same-there s t stops = unlike s t (nat_lt s.number t.number) refl (λ e. or-left (same_step s t) (nat_lt s.number t.number) stops e) (not-before s t)

-- so whether a line at a place before another is the step's is told by the numbers
pub line_test : (at to : ℕ) (s t : Step) → (at < to → IsTrue (same_step s t || nat_lt s.number t.number))
    → (nat_lt at to && not (nat_lt s.number t.number)) ≡ (nat_lt at to && same_step s t)
line_test at to s t stops = by (nat_lt at to) refl
  where
    by : (b : Bool) → nat_lt at to ≡ b → (b && not (nat_lt s.number t.number)) ≡ (b && same_step s t)
    by true e = sym (same-there s t (stops (ltb-true at to e)))
    by false e = refl

below-at : (lines : List Line) (at to : ℕ) (front back : List Line) (t : Step) (cells : List Cell) (inside rest : Plan)
    → IsWithin lines at to front back (a_line t cells inside rest) → nat_lt at to ≡ true
below-at lines at to front back t cells inside rest w = let e = w.ends in let h : at < to = omega arith in lt-ltb at to h

or-right : (a b : Bool) → (a || b) ≡ true → a ≡ false → b ≡ true
or-right true b e d = cc
or-right false b e d = e

flat-fresh : (lines : List Line) (at to : ℕ) (s : Step) (front back : List Line) (rest : Plan) → IsWithin lines at to front back rest → Stops s rest
    → (nat_lt at to && is_line_of s (slice_get lines at)) ≡ false
    → (own : List Cell → List Cell) (deeper : Plan → Plan) → flat (into s own deeper rest) ≡ flat (a_line s (own []) (deeper nothing) nothing) ++ flat rest
flat-fresh lines at to s front back nothing w stops absent own deeper = sym (append-nil (flat (a_line s (own []) (deeper nothing) nothing)))
flat-fresh lines at to s front back (a_line t cells inside rest) w stops absent own deeper =
    let differs : same_step s t ≡ false =
    sym (ap (λ b. b && same_step s t) (below-at lines at to front back t cells inside rest w) ∙ refl)
    ∙ (ap (λ o. nat_lt at to && is_line_of s o) (sym (got_line lines at to front back t cells inside rest w)) ∙ absent) in
    ap flat (into-before s t own deeper cells inside rest differs (or-right _ _ stops differs))
    ∙ ap (λ xs. record { step = s; rows = numbers (own []); size = length (flat (deeper nothing)) } ∷ (xs ++ flat (a_line t cells inside rest)))
    (sym (append-nil (flat (deeper nothing))))

regroup : (a b c d e : List Line) → (a ++ b) ++ (c ++ (d ++ e)) ≡ a ++ ((b ++ (c ++ d)) ++ e)
regroup a b c d e =
    append_assoc a b (c ++ (d ++ e))
    ∙ ap (λ x. a ++ x) (ap (λ x. b ++ x) (sym (append_assoc c d e)) ∙ sym (append_assoc b (c ++ d) e))

pub adds_new : (lines : List Line) (to at : ℕ) (s : Step) (steps : List Step) (cell : Cell) (row : ℕ) (front back : List Line) (plan : Plan) (new : List Line)
    → Spot lines to at s front back plan
    → (nat_lt at to && is_line_of s (slice_get lines at)) ≡ false → cell.number ≡ row → new ≡ take at lines ++ (chain (s ∷ steps) row ++ drop at lines)
    → Adds (s ∷ steps) cell (length (s ∷ steps)) front back plan new
adds_new lines to at s steps cell row front back plan new sp absent named is =
    let F = front ++ flat sp.passed in
    let own = own_cells steps cell in
    let deeper = add steps cell in
    let fresh = flat-fresh lines at to s F back sp.rest sp.here sp.stops absent own deeper
    ∙ ap (λ x. x ++ flat sp.rest) (flat-alone (s ∷ steps) cell ∙ ap (chain (s ∷ steps)) named) in
    let all : flat (add (s ∷ steps) cell plan) ≡ flat sp.passed ++ (chain (s ∷ steps) row ++ flat sp.rest)
    = ap flat (sp.stays own deeper) ∙ (flat-beside sp.passed (into s own deeper sp.rest) ∙ ap (λ x. flat sp.passed ++ x) fresh) in
    let front_is : take at lines ≡ F = ap (take at) sp.here.is
    ∙ (ap (λ n. take n (F ++ (flat sp.rest ++ back))) (sym sp.far) ∙ take-append_seam F (flat sp.rest ++ back)) in
    let back_is : drop at lines ≡ flat sp.rest ++ back = ap (drop at) sp.here.is
    ∙ (ap (λ n. drop n (F ++ (flat sp.rest ++ back))) (sym sp.far) ∙ drop-append_seam F (flat sp.rest ++ back)) in
    record {
      is = is ∙ (ap (λ x. x ++ (chain (s ∷ steps) row ++ drop at lines)) front_is ∙ (ap (λ x. F ++ (chain (s ∷ steps) row ++ x)) back_is
          ∙ (regroup front (flat sp.passed) (chain (s ∷ steps) row) (flat sp.rest) back ∙ ap (λ x. front ++ (x ++ back)) (sym all))));
      more_lines =
          let a = ap length all ∙ length-append (flat sp.passed) (chain (s ∷ steps) row ++ flat sp.rest) in
          let b = length-append (chain (s ∷ steps) row) (flat sp.rest) in
          let c = length-chain (s ∷ steps) row in
          let d = ap (λ p. length (flat p)) sp.whole ∙ (ap length (flat-beside sp.passed sp.rest) ∙ length-append (flat sp.passed) (flat sp.rest)) in
          omega arith;
    }

-- ---- a line that stands

-- The line of the step stands at the place.
pub record Stands (lines : List Line) (to at : ℕ) (s : Step) (front back : List Line) (plan : Plan) : Type 0 where
  pub passed : Plan
  pub line : Line
  pub cells : List Cell
  pub inside : Plan
  pub rest : Plan
  pub line_is : line ≡ record { step = line.step; rows = numbers cells; size = length (flat inside) }
  pub far : length (front ++ flat passed) ≡ at
  pub got : slice_get lines at ≡ Some line
  pub are : lines ≡ (front ++ flat passed) ++ (line ∷ (flat inside ++ (flat rest ++ back)))
  pub within : IsWithin lines (at + 1) (at + (1 + line.size)) ((front ++ flat passed) ++ (line ∷ [])) (flat rest ++ back) inside
  pub below : at + (1 + line.size) ≤ to
  pub was : flat plan ≡ flat passed ++ (line ∷ (flat inside ++ flat rest))
  pub added : (own : List Cell → List Cell) (deeper : Plan → Plan)
      → flat (into s own deeper plan) ≡ flat passed ++
      (record { step = line.step; rows = numbers (own cells); size = length (flat (deeper inside)) } ∷ (flat (deeper inside) ++ flat rest))

both : (a b : Bool) → (a && b) ≡ true → (a ≡ true) × (b ≡ true)
both true b e = (refl, e)
both false b e = cc

stands_at : (lines : List Line) (to at : ℕ) (s : Step) (front back : List Line) (plan passed rest : Plan) → length (front ++ flat passed) ≡ at
    → IsWithin lines at to (front ++ flat passed) back rest
    → plan ≡ beside passed rest → ((own : List Cell → List Cell) (deeper : Plan → Plan) → into s own deeper plan ≡ beside passed (into s own deeper rest))
    → (nat_lt at to && is_line_of s (slice_get lines at)) ≡ true → Stands lines to at s front back plan
stands_at lines to at s front back plan passed nothing far w whole stays there =
    let e = w.ends in
    let h : at < to = ltb-true at to (both _ _ there).0 in
    absurd (omega arith)
stands_at lines to at s front back plan passed (a_line t cells inside rest) far w whole stays there =
    let F = front ++ flat passed in
    let line : Line = record { step = t; rows = numbers cells; size = length (flat inside) } in
    let got = got_line lines at to F back t cells inside rest w in
    let same : same_step s t ≡ true = ap (is_line_of s) (sym got) ∙ (both _ _ there).1 in
    record {
      passed = passed;
      line = line;
      cells = cells;
      inside = inside;
      rest = rest;
      line_is = refl;
      far = far;
      got = got;
      are = w.is ∙ ap (λ x. F ++ (line ∷ x)) (append_assoc (flat inside) (flat rest) back);
      within = inside_line lines at to F back t cells inside rest w;
      below = let n = length-append (flat inside) (flat rest) in let e = w.ends in omega arith;
      was = ap flat whole ∙ flat-beside passed (a_line t cells inside rest);
      added = λ own deeper.
          ap flat (stays own deeper) ∙ (flat-beside passed (into s own deeper (a_line t cells inside rest))
          ∙ ap (λ p. flat passed ++ flat p) (into-same s t own deeper cells inside rest same));
    }

pub stands : (lines : List Line) (to at : ℕ) (s : Step) (front back : List Line) (plan : Plan) → Spot lines to at s front back plan
    → (nat_lt at to && is_line_of s (slice_get lines at)) ≡ true → Stands lines to at s front back plan
stands lines to at s front back plan sp there = stands_at lines to at s front back plan sp.passed sp.rest sp.far sp.here sp.whole sp.stays there

regroup-line : (a b c d e : List Line) (x : Line) → (a ++ b) ++ (x ∷ (c ++ (d ++ e))) ≡ a ++ ((b ++ (x ∷ (c ++ d))) ++ e)
regroup-line a b c d e x =
    append_assoc a b (x ∷ (c ++ (d ++ e)))
    ∙ ap (λ y. a ++ y) (ap (λ y. b ++ (x ∷ y)) (sym (append_assoc c d e)) ∙ sym (append_assoc b (x ∷ (c ++ d)) e))

-- the row ends at the line
pub adds_here : (lines : List Line) (to at : ℕ) (s : Step) (cell : Cell) (row : ℕ) (front back : List Line) (plan : Plan) (new : List Line)
    → (st : Stands lines to at s front back plan)
    → cell.number ≡ row → new ≡ set lines at (record st.line { rows = st.line.rows ++ row ∷ [] }) → Adds (s ∷ []) cell 0 front back plan new
adds_here lines to at s cell row front back plan new st named is =
    let F = front ++ flat st.passed in
    let noted : Line = record { step = st.line.step; rows = numbers (st.cells ++ cell ∷ []); size = length (flat st.inside) } in
    let noted_is : record st.line { rows = st.line.rows ++ row ∷ [] } ≡ noted =
    ap (λ (l : Line). record { step = st.line.step; rows = l.rows ++ row ∷ []; size = l.size }) st.line_is
    ∙ (ap (λ n. record { step = st.line.step; rows = numbers st.cells ++ n ∷ []; size = length (flat st.inside) }) (sym named)
    ∙ ap (λ ns. record { step = st.line.step; rows = ns; size = length (flat st.inside) }) (sym (map-append (λ (c : Cell). c.number) st.cells (cell ∷ [])))) in
    let whole = st.added (own_cells [] cell) (add [] cell) in
    record {
      is = is ∙ (ap (λ x. set lines at x) noted_is
          ∙ (ap (λ ls. set ls at noted) st.are
          ∙ (ap (λ n. set (F ++ (st.line ∷ (flat st.inside ++ (flat st.rest ++ back)))) n noted) (sym st.far)
          ∙ (set-append_seam F st.line (flat st.inside ++ (flat st.rest ++ back)) noted
          ∙ (regroup-line front (flat st.passed) (flat st.inside) (flat st.rest) back noted
          ∙ ap (λ x. front ++ (x ++ back)) (sym whole))))));
      more_lines =
          let a = ap length whole ∙ length-append (flat st.passed) (noted ∷ (flat st.inside ++ flat st.rest)) in
          let b = ap length st.was ∙ length-append (flat st.passed) (st.line ∷ (flat st.inside ++ flat st.rest)) in
          omega arith;
    }

-- ---- the row goes on inside the line

inner_are : (a b : List Line) (x : Line) (c d : List Line) → (a ++ (x ∷ [])) ++ (b ++ (c ++ d)) ≡ a ++ (x ∷ (b ++ (c ++ d)))
inner_are a b x c d = append_assoc a (x ∷ []) (b ++ (c ++ d))

pub inner_lines : (lines : List Line) (to at : ℕ) (s t : Step) (steps : List Step) (cell : Cell) (more : ℕ) (front back : List Line) (plan : Plan)
    (inner : List Line) → (st : Stands lines to at s front back plan)
    → Adds (t ∷ steps) cell more ((front ++ flat st.passed) ++ (st.line ∷ [])) (flat st.rest ++ back) st.inside inner
    → inner ≡ (front ++ flat st.passed) ++ (st.line ∷ (flat (add (t ∷ steps) cell st.inside) ++ (flat st.rest ++ back)))
inner_lines lines to at s t steps cell more front back plan inner st a = a.is
    ∙ inner_are (front ++ flat st.passed) (flat (add (t ∷ steps) cell st.inside)) st.line (flat st.rest) back

pub inner_got : (lines : List Line) (to at : ℕ) (s t : Step) (steps : List Step) (cell : Cell) (more : ℕ) (front back : List Line) (plan : Plan)
    (inner : List Line) → (st : Stands lines to at s front back plan)
    → Adds (t ∷ steps) cell more ((front ++ flat st.passed) ++ (st.line ∷ [])) (flat st.rest ++ back) st.inside inner
    → slice_get inner at ≡ Some st.line
inner_got lines to at s t steps cell more front back plan inner st a =
    let F = front ++ flat st.passed in
    let ys = flat (add (t ∷ steps) cell st.inside) ++ (flat st.rest ++ back) in
    ap (λ ls. slice_get ls at) (inner_lines lines to at s t steps cell more front back plan inner st a)
    ∙ (ap (λ n. slice_get (F ++ (st.line ∷ ys)) n) (sym st.far) ∙ slice_get-seam F st.line ys)

-- the line and its larger inside lie within the lines
pub inner_room : (lines : List Line) (to at : ℕ) (s t : Step) (steps : List Step) (cell : Cell) (more : ℕ) (front back : List Line) (plan : Plan)
    (inner : List Line) → (st : Stands lines to at s front back plan)
    → Adds (t ∷ steps) cell more ((front ++ flat st.passed) ++ (st.line ∷ [])) (flat st.rest ++ back) st.inside inner
    → at + (1 + (st.line.size + more)) ≤ length inner
inner_room lines to at s t steps cell more front back plan inner st a =
    let F = front ++ flat st.passed in
    let A = flat (add (t ∷ steps) cell st.inside) in
    let n = ap length (inner_lines lines to at s t steps cell more front back plan inner st a) ∙ length-append F (st.line ∷ (A ++ (flat st.rest ++ back))) in
    let m = length-append A (flat st.rest ++ back) in
    let k = a.more_lines in
    let f = st.far in
    let z = ap (λ (l : Line). l.size) st.line_is in
    omega arith

pub adds_inside : (lines : List Line) (to at : ℕ) (s t : Step) (steps : List Step) (cell : Cell) (more : ℕ) (front back : List Line) (plan : Plan)
    (inner new : List Line) → (st : Stands lines to at s front back plan)
    → Adds (t ∷ steps) cell more ((front ++ flat st.passed) ++ (st.line ∷ [])) (flat st.rest ++ back) st.inside inner
    → new ≡ set inner at (record st.line { size = st.line.size + more }) → Adds (s ∷ (t ∷ steps)) cell more front back plan new
adds_inside lines to at s t steps cell more front back plan inner new st a is =
    let F = front ++ flat st.passed in
    let A = flat (add (t ∷ steps) cell st.inside) in
    let ys = A ++ (flat st.rest ++ back) in
    let larger : Line = record { step = st.line.step; rows = numbers st.cells; size = length A } in
    let size_is : st.line.size + more ≡ length A = ap (λ (l : Line). l.size + more) st.line_is ∙ sym a.more_lines in
    let larger_is : record st.line { size = st.line.size + more } ≡ larger =
    ap (λ n. record { step = st.line.step; rows = st.line.rows; size = n }) size_is
    ∙ ap (λ (l : Line). record { step = st.line.step; rows = l.rows; size = length A }) st.line_is in
    let whole = st.added (own_cells (t ∷ steps) cell) (add (t ∷ steps) cell) in
    record {
      is = is ∙ (ap (λ x. set inner at x) larger_is
          ∙ (ap (λ ls. set ls at larger) (inner_lines lines to at s t steps cell more front back plan inner st a)
          ∙ (ap (λ n. set (F ++ (st.line ∷ ys)) n larger) (sym st.far)
          ∙ (set-append_seam F st.line ys larger
          ∙ (regroup-line front (flat st.passed) A (flat st.rest) back larger
          ∙ ap (λ x. front ++ (x ++ back)) (sym whole))))));
      more_lines =
          let p = ap length whole ∙ length-append (flat st.passed) (larger ∷ (A ++ flat st.rest)) in
          let q = ap length st.was ∙ length-append (flat st.passed) (st.line ∷ (flat st.inside ++ flat st.rest)) in
          let m = length-append A (flat st.rest) in
          let n = length-append (flat st.inside) (flat st.rest) in
          let k = a.more_lines in
          omega arith;
    }
