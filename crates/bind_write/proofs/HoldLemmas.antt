-- What lines hold: what is asked of rows by their numbers is what is asked of the cells of the plan.
use Rattle.std.proofs.Common.{◌≡◌, ℕ, Bool, true, false, not, ◌&&◌, ◌||◌, List, [], ◌∷◌, ◌++◌, Some, None, refl, ap, sym, ◌∙◌, subst}
use Rattle.std.specs.Prelude.{slice_get, if◌then◌else◌}
use Rattle.std.specs.List.{list_any}
use Rattle.term_table.specs.declared.contexts.Context.{Context}
use Rattle.inv_terms.specs.declared.entries.Entry.{Entry}
use Rattle.bind_rows.specs.declared.rows.Row.{Row}
use Rattle.bind_rows.specs.declared.rows.Step.{Step}
use Rattle.bind_table.specs.declared.lines.Line.{Line}
use Rattle.bind_table.specs.Lines.{Plan, Cell, nothing, a_line, flat, numbers}
use Rattle.bind_meaning.specs.Trees as trees
use Rattle.bind_write.specs.declared.source.Source.{Source}
use Rattle.bind_write.specs.Sources.{Sees}
use Rattle.bind_write.specs.Holding.{AreCellsOf, HasRows, IsLineOf, holds_at, rows_hold, has_term_at, has_constant_at, line_has_terms, line_has_constant}
use Rattle.bind_write.specs.Holding.{standing, standing_by}
use Rattle.bind_write.proofs.PlanLemmas.{Opened}
use Rattle.bind_write.proofs.WalkLemmas.{list_any-cells}

-- ---- lines

pub cells_hold-by : (es : List Entry) (rows : List Row) (ns : List ℕ) (cells : List Cell) (c : Context) → ns ≡ numbers cells → AreCellsOf rows cells →
    rows_hold es rows ns c ≡ trees.cells_hold es cells c
cells_hold-by es rows ns cells c e a = ap (λ x. rows_hold es rows x c) e ∙ list_any-cells (holds_at es c) rows cells a

pub holds-opened : (es : List Entry) (rows : List Row) (line : Line) (inside further : List Line) (plan : Plan) (c : Context) →
    (o : Opened rows line inside further plan)
    → trees.holds es plan c ≡ trees.either (list_any (trees.line_holds es o.cells o.within) (trees.spots es c line.step.group)) (λ _. trees.holds es o.rest c)
holds-opened es rows line inside further plan c o = ap (λ p. trees.holds es p c) o.plan_is

pub either-true : (b : Bool) (f : Unit {0} → Bool) → b ≡ true → true ≡ trees.either b f
either-true true f e = refl
either-true false f e = cc

pub either-false : (b : Bool) (f : Unit {0} → Bool) → b ≡ false → trees.either b f ≡ f tt
either-false true f e = cc
either-false false f e = refl

list_any-append : {A : Type 0} (p : A → Bool) (xs ys : List A) → list_any p (xs ++ ys) ≡ (list_any p xs || list_any p ys)
list_any-append p [] ys = refl
list_any-append p (x ∷ xs) ys = ap (λ b. p x || b) (list_any-append p xs ys) ∙ or-assoc (p x) (list_any p xs) (list_any p ys)
  where
    or-assoc : (a b c : Bool) → (a || (b || c)) ≡ ((a || b) || c)
    or-assoc true b c = refl
    or-assoc false b c = refl

pub terms-in_lines : (rows : List Row) (plan : Plan) → HasRows rows plan → list_any (line_has_terms rows) (flat plan) ≡ trees.has_terms plan
terms-in_lines rows nothing h = refl
terms-in_lines rows (a_line s cells inside rest) h =
    ap (λ x. x || list_any (line_has_terms rows) (flat inside ++ flat rest)) (list_any-cells has_term_at rows cells h.0)
    ∙ ap (λ x. list_any (λ (cell : Cell). has_term_at (Some cell.row)) cells || x)
    (list_any-append (line_has_terms rows) (flat inside) (flat rest) ∙
    (ap (λ x. x || list_any (line_has_terms rows) (flat rest)) (terms-in_lines rows inside h.1.0) ∙
    ap (λ x. trees.has_terms inside || x) (terms-in_lines rows rest h.1.1)))

pub constant-is : (rows : List Row) (line : Line) (inside : List Line) (cells : List Cell) (plan : Plan) → IsLineOf rows line inside cells plan
    → not (line_has_terms rows line || list_any (line_has_terms rows) inside) ≡ trees.is_constant cells plan
constant-is rows line inside cells plan h =
    ap (λ x. not (list_any (λ n. has_term_at (slice_get rows n)) x || list_any (line_has_terms rows) inside)) h.numbers_are
    ∙ (ap (λ x. not (x || list_any (line_has_terms rows) inside)) (list_any-cells has_term_at rows cells h.own_cells)
    ∙ ap (λ x. not (list_any (λ (cell : Cell). has_term_at (Some cell.row)) cells || x)) (ap (list_any (line_has_terms rows)) h.inside_is.lines_are ∙
    terms-in_lines rows plan h.inside_is.cells_are))

pub own_constant-is : (rows : List Row) (line : Line) (inside : List Line) (cells : List Cell) (plan : Plan) → IsLineOf rows line inside cells plan
    → line_has_constant rows line ≡ trees.has_constant cells
own_constant-is rows line inside cells plan h = ap (list_any (λ n. has_constant_at (slice_get rows n))) h.numbers_are ∙
    list_any-cells has_constant_at rows cells h.own_cells

-- ---- whether a line is written

pub standing-holds : (es : List Entry) (s : Step) (cells : List Cell) (plan : Plan) (held : Bool) (c : Context) → trees.line_holds es cells plan c ≡ true →
    Some true ≡ standing es s cells plan held c
standing-holds es s cells plan held c e = ap (λ x. standing_by x (trees.is_constant cells plan) (trees.has_constant cells) s.always held) (sym e)

due-some : (constant own always held r due : Bool) → r ≡ (held && constant) → due ≡ (r || (always || (held && own))) → due ≡ true →
    Some r ≡ standing_by false constant own always held
due-some constant own always held r due e f t =
    ap Some e ∙ ap (λ x. if x then Some (held && constant) else None) (sym t ∙ (f ∙ ap (λ x. x || (always || (held && own))) e))

due-none : (constant own always held r due : Bool) → r ≡ (held && constant) → due ≡ (r || (always || (held && own))) → due ≡ false →
    None ≡ standing_by false constant own always held
due-none constant own always held r due e f t = ap (λ x. if x then Some (held && constant) else None) (sym t ∙ (f ∙ ap (λ x. x || (always || (held && own))) e))

module _ (es : List Entry) (rows : List Row) (line : Line) (inside : List Line) (cells : List Cell) (plan : Plan) (held : Bool) (c : Context)
    (h : IsLineOf rows line inside cells plan)
    (holds : trees.line_holds es cells plan c ≡ false) (r due : Bool)
    (r-is : r ≡ (held && not (line_has_terms rows line || list_any (line_has_terms rows) inside)))
    (due-is : due ≡ (r || (line.step.always || (held && line_has_constant rows line)))) where
  not_holding : standing_by false (trees.is_constant cells plan) (trees.has_constant cells) line.step.always held ≡ standing es line.step cells plan held c
  not_holding = ap (λ x. standing_by x (trees.is_constant cells plan) (trees.has_constant cells) line.step.always held) (sym holds)

  constant : r ≡ (held && trees.is_constant cells plan)
  constant = r-is ∙ ap (λ x. held && x) (constant-is rows line inside cells plan h)

  is_due : due ≡ (r || (line.step.always || (held && trees.has_constant cells)))
  is_due = due-is ∙ ap (λ x. r || (line.step.always || (held && x))) (own_constant-is rows line inside cells plan h)

  pub standing-due : due ≡ true → Some r ≡ standing es line.step cells plan held c
  standing-due t = due-some (trees.is_constant cells plan) (trees.has_constant cells) line.step.always held r due constant is_due t ∙ not_holding

  pub standing-none : due ≡ false → None ≡ standing es line.step cells plan held c
  standing-none t = due-none (trees.is_constant cells plan) (trees.has_constant cells) line.step.always held r due constant is_due t ∙ not_holding

-- ---- from another source

pub held-seen : (here : Source) (rows : List Row) (es : List Entry) (c : Context) (line : Line) (inside : List Line) (cells : List Cell) (plan : Plan)
    (r : Bool) → Sees rows es c here
    → ((xs : List Cell) (p : Plan) → IsLineOf here.rows.now line inside xs p → r ≡ trees.line_holds here.entries.now xs p here.context) →
    IsLineOf rows line inside cells plan
    → r ≡ trees.line_holds es cells plan c
held-seen here rows es c line inside cells plan r s held h =
    let P : List Row → Type 0 = λ x. IsLineOf x line inside cells plan in
    held cells plan (subst P (sym s.rows_are) h) ∙ (ap (λ x. trees.line_holds x cells plan here.context) s.entries_are ∙
    ap (trees.line_holds es cells plan) s.context_is)

pub one-holds : {A : Type 0} (p : A → Bool) (xs left more : List A) (x : A) → list_any p left ≡ list_any p xs → left ≡ x ∷ more → p x ≡ true →
    true ≡ list_any p xs
one-holds p xs left more x e n t = sym (sym e ∙ (ap (list_any p) n ∙ ap (λ b. b || list_any p more) t))

pub one-fails : {A : Type 0} (p : A → Bool) (xs left more : List A) (x : A) → list_any p left ≡ list_any p xs → left ≡ x ∷ more → p x ≡ false →
    list_any p more ≡ list_any p xs
one-fails p xs left more x e n t = ap (λ b. b || list_any p more) (sym t) ∙ (ap (list_any p) (sym n) ∙ e)

pub none-holds : {A : Type 0} (p : A → Bool) (xs left : List A) → list_any p left ≡ list_any p xs → left ≡ [] → false ≡ list_any p xs
none-holds p xs left e n = ap (list_any p) (sym n) ∙ e
