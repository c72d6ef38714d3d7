-- Where names lead along the lines of a table is where they lead along its rows.
use Rattle.std.proofs.Common.{◌≡◌, ℕ, zero, suc, ◌+◌, ◌-◌, ◌<◌, ◌≤◌, Bool, true, false, cond, List, [], ◌∷◌, ◌++◌, length, take, drop, get_or, Option, Some}
use Rattle.std.proofs.Common.{None, refl, ap, sym, ◌∙◌, subst, arith, append_assoc, length-append, length-drop, inl, inr}
use Rattle.std.specs.Prelude.{filter, map, not, ◌&&◌, ◌||◌, ◌==◌, nat_lt, slice_get}
use Rattle.std.specs.List.{All, list_any}
use Rattle.std.proofs.lemmas.List.{append-nil, map-append, drop_more, drop_all, take_at, take_more, take_all, get_or-map, get_or-take}
use Rattle.std.proofs.lemmas.List.{get_or_append_left, length-map, length-take, length-take-le}
use Rattle.std.proofs.lemmas.Option.{slice_get-get_or, get_or_from_slice_get}
use Rattle.std.proofs.lemmas.List.Elements.{All-append, All-cons, All-nil, filter-append, filter_agree}
use Rattle.std.proofs.lemmas.Bool.{false≢true, lt-ltb, le-ltb, eqb-true, or_cases}
use Rattle.std.proofs.lemmas.List.Folds.{list_any-append}
use Rattle.std.proofs.Math.Seq.{get_or-append_seam, drop-append_seam}
use Rattle.inv_base.specs.Tree.{Node, is_among}
use Rattle.inv_base.specs.declared.tree.Kind.TheVariants as kinds
use Rattle.node_arena.specs.Document.{Document, document_node, node_at}
use Rattle.node_arena.specs.Moves.{node_of, tree_nodes, tree_node, has_found, nearest, parent}
use Rattle.bind_rows.specs.declared.rows.Row.{Row}
use Rattle.bind_rows.specs.declared.rows.Step.{Step}
use Rattle.bind_rows.specs.Same.{same_step, choose}
use Rattle.bind_table.specs.Lines.{Cell, Plan, nothing, a_line, into, own_cells, add, grown, plan_of}
use Rattle.bind_meaning.specs.Names.{has_element_name}
use Rattle.bind_meaning.specs.Elements.{is_element_kind, is_element}
use Rattle.bind_meaning.specs.Faults.{passed_nodes}
use Rattle.bind_meaning.specs.Terms.{names_row, is_on_a_way, is_passed_over, turned, without_first, way_to}
use Rattle.bind_walk.specs.Chains.{number}
use Rattle.bind_walk.specs.declared.lines.FoundLine.{FoundLine}
use Rattle.bind_walk.specs.declared.passed.Arrived.{Arrived}
use Rattle.bind_walk.specs.declared.passed.Opened.{Opened}
use Rattle.bind_walk.specs.declared.passed.Span.{Span}
use Rattle.bind_walk.specs.Lines.{lined, own_place}
use Rattle.bind_walk.specs.Found.{found_element, is_same_number}
use Rattle.bind_walk.specs.Walks.{line_of}
use Rattle.bind_walk.proofs.NumberLemmas.{number-says, none-found}
use Rattle.bind_walk.specs.Passing.{Inside, an_inside, no_inside, IsInside, place_in, place_before, gate}
use Rattle.bind_walk.specs.Passing.{inside_named, insides, led, some_plan, path_of, state, is_passed, roots_of, IsSpan, IsSomeSpan, SpansOf, AreSpans}
use Rattle.bind_walk.specs.Passing.{AddsNamed, part, LeadsInside, IsPart, no_part, OnWay, Stands, IsAround, IsNear, IsSomeNear, StandsAt, IsBefore}
use Rattle.bind_walk.specs.Passing.{IsSomeBefore, IsReached, some_of, is_left, first_spans, Begins, one_if, LeadsThrough}

-- ---- tests

or-false : (b : Bool) → b ≡ (b || false)
or-false true = refl
or-false false = refl

or-true : (b : Bool) → (b || true) ≡ true
or-true true = refl
or-true false = refl

or-comm : (a b : Bool) → (a || b) ≡ (b || a)
or-comm true b = sym (or-true b)
or-comm false b = or-false b

or-assoc : (a b c : Bool) → (a || (b || c)) ≡ ((a || b) || c)
or-assoc true b c = refl
or-assoc false b c = refl

spread : (a b m r : Bool) → ((a && (b || m)) || r) ≡ (((a && b) || r) || (a && m))
spread false b m r = or-false r
spread true true m r = refl
spread true false m r = or-comm m r

and-elim : (a b : Bool) → (a && b) ≡ (elim a as (λ _. Bool) [ true ↦ b | false ↦ false ])
and-elim true b = refl
and-elim false b = refl

-- ---- rows and lines by their names

abbrev is_nil : List ℕ → Bool
is_nil [] = true
is_nil (n ∷ ns) = false

module _ (d : Document) (same : (s t : Step) → same_step s t ≡ true → s ≡ t) where
  abbrev named : Step → ℕ → Bool
  named s n = has_element_name s.name (tree_node (tree_nodes d) n)

  abbrev leads : Plan → List ℕ → Bool
  leads nothing way = is_nil way
  leads (a_line s cells inside rest) way = elim way [ [] ↦ true | (n ∷ more) ↦ (named s n && leads inside more) || leads rest (n ∷ more) ]

  leads-nil : (plan : Plan) → leads plan [] ≡ true
  leads-nil nothing = refl
  leads-nil (a_line s cells inside rest) = refl

  module _ (own : List Cell → List Cell) (deeper : Plan → Plan) (more : List ℕ → Bool) (at_end : more [] ≡ true)
      (deeper-leads : (plan : Plan) (way : List ℕ) → leads (deeper plan) way ≡ (leads plan way || more way)) where
    fresh : (way : List ℕ) → leads (deeper nothing) way ≡ more way
    fresh [] = deeper-leads nothing [] ∙ sym at_end
    fresh (n ∷ way) = deeper-leads nothing (n ∷ way)

    into-by : (s t : Step) (cells : List Cell) (inside rest : Plan) (n : ℕ) (way : List ℕ) (a b : Bool) → (a ≡ true → s ≡ t)
        → leads (into s own deeper rest) (n ∷ way) ≡ (leads rest (n ∷ way) || (named s n && more way))
        → leads (choose a (λ _. a_line t (own cells) (deeper inside) rest)
        (λ _. choose b (λ _. a_line s (own []) (deeper nothing) (a_line t cells inside rest)) (λ _. a_line t cells inside (into s own deeper rest))))
        (n ∷ way)
        ≡ (leads (a_line t cells inside rest) (n ∷ way) || (named s n && more way))
    into-by s t cells inside rest n way true b sound others =
        ap (λ x. (named t n && x) || leads rest (n ∷ way)) (deeper-leads inside way)
        ∙ (spread (named t n) (leads inside way) (more way) (leads rest (n ∷ way))
        ∙ ap (λ r. leads (a_line t cells inside rest) (n ∷ way) || (named r n && more way)) (sym (sound refl)))
    into-by s t cells inside rest n way false true sound others =
        ap (λ x. (named s n && x) || leads (a_line t cells inside rest) (n ∷ way)) (fresh way)
        ∙ or-comm (named s n && more way) (leads (a_line t cells inside rest) (n ∷ way))
    into-by s t cells inside rest n way false false sound others =
        ap (λ x. (named t n && leads inside way) || x) others ∙ or-assoc (named t n && leads inside way) (leads rest (n ∷ way)) (named s n && more way)

    into-leads : (s : Step) (plan : Plan) (n : ℕ) (way : List ℕ) → leads (into s own deeper plan) (n ∷ way) ≡ (leads plan (n ∷ way) || (named s n && more way))
    into-leads s nothing n way = sym (or-false (named s n && leads (deeper nothing) way)) ∙ ap (λ x. named s n && x) (fresh way)
    into-leads s (a_line t cells inside rest) n way =
        into-by s t cells inside rest n way (same_step s t) (nat_lt s.number t.number) (same s t) (into-leads s rest n way)

  names-nil : (path : List Step) → names_row (tree_nodes d) path [] ≡ true
  names-nil [] = refl
  names-nil (s ∷ path) = refl

  nil-leads : (p : Plan) (plan : Plan) (path : List Step) → leads p [] ≡ (leads plan [] || names_row (tree_nodes d) path [])
  nil-leads p plan path = leads-nil p ∙ ap (λ b. b || names_row (tree_nodes d) path []) (sym (leads-nil plan))

  add-leads : (cell : Cell) (steps : List Step) (plan : Plan) (way : List ℕ)
      → leads (add steps cell plan) way ≡ (leads plan way || names_row (tree_nodes d) steps way)
  add-leads cell [] plan [] = nil-leads plan plan []
  add-leads cell [] plan (n ∷ way) = or-false (leads plan (n ∷ way))
  add-leads cell (s ∷ steps) plan [] = nil-leads (add (s ∷ steps) cell plan) plan (s ∷ steps)
  add-leads cell (s ∷ steps) plan (n ∷ way) =
      into-leads (own_cells steps cell) (add steps cell) (names_row (tree_nodes d) steps) (names-nil steps) (add-leads cell steps) s plan n way
      ∙ ap (λ b. leads plan (n ∷ way) || b) (and-elim (named s n) (names_row (tree_nodes d) steps way))

  grown-leads : (plan : Plan) (n : ℕ) (rows : List Row) (way : List ℕ)
      → leads (grown plan n rows) way ≡ (leads plan way || list_any (λ (row : Row). names_row (tree_nodes d) row.path way) rows)
  grown-leads plan n [] way = or-false (leads plan way)
  grown-leads plan n (row ∷ rows) way =
      let cell : Cell = record { number = n; row = row } in
      grown-leads (add row.path cell plan) (n + 1) rows way
      ∙ (ap (λ b. b || list_any (λ (r : Row). names_row (tree_nodes d) r.path way) rows) (add-leads cell row.path plan way)
      ∙ sym (or-assoc (leads plan way) (names_row (tree_nodes d) row.path way) (list_any (λ (r : Row). names_row (tree_nodes d) r.path way) rows)))

  plan-leads : (row : Row) (rows : List Row) (way : List ℕ) → leads (plan_of (row ∷ rows)) way ≡ is_on_a_way (tree_nodes d) (row ∷ rows) way
  plan-leads row rows [] = leads-nil (plan_of (row ∷ rows))
      ∙ ap (λ b. b || list_any (λ (r : Row). names_row (tree_nodes d) r.path []) rows) (sym (names-nil row.path))
  plan-leads row rows (n ∷ way) = grown-leads nothing 0 (row ∷ rows) (n ∷ way)

  -- ---- sets of lines

  abbrev leads-in : List ℕ → Inside → Bool
  leads-in way x = leads x.plan way

  one-leads : (n : ℕ) (plan : Plan) (way : List ℕ) → list_any (leads-in way) (inside_named d n plan) ≡ leads plan (n ∷ way)
  one-leads n nothing way = refl
  one-leads n (a_line s cells inside rest) way = at (named s n) (one-leads n rest way)
    where
      at : (b : Bool) → list_any (leads-in way) (inside_named d n rest) ≡ leads rest (n ∷ way)
          → list_any (leads-in way) ((elim b as (λ _. List Inside) [ true ↦ an_inside s cells inside ∷ [] | false ↦ [] ]) ++ inside_named d n rest)
          ≡ ((b && leads inside way) || leads rest (n ∷ way))
      at true e = ap (λ b. leads inside way || b) e
      at false e = e

  all-lead : (n : ℕ) (plans : List Inside) (way : List ℕ) → list_any (leads-in way) (insides d n plans) ≡ list_any (leads-in (n ∷ way)) plans
  all-lead n [] way = refl
  all-lead n (x ∷ xs) way =
      list_any-append (leads-in way) (inside_named d n x.plan) (insides d n xs)
      ∙ (ap (λ b. b || list_any (leads-in way) (insides d n xs)) (one-leads n x.plan way) ∙ ap (λ b. leads x.plan (n ∷ way) || b) (all-lead n xs way))

  some-is : (plans : List Inside) → some_plan plans ≡ list_any (leads-in []) plans
  some-is [] = refl
  some-is (x ∷ xs) = ap (λ b. b || list_any (leads-in []) xs) (sym (leads-nil x.plan))

  led-is : (plans : List Inside) (way : List ℕ) → some_plan (led d plans way) ≡ list_any (leads-in way) plans
  led-is plans [] = some-is plans
  led-is plans (n ∷ way) = led-is (insides d n plans) way ∙ all-lead n plans way

  pub on-is : (rows : List Row) (way : List ℕ) → some_plan (led d (roots_of rows) way) ≡ is_on_a_way (tree_nodes d) rows way
  on-is [] way = led-is [] way
  on-is (row ∷ rows) way = led-is (roots_of (row ∷ rows)) way ∙ (sym (or-false (leads (plan_of (row ∷ rows)) way)) ∙ plan-leads row rows way)

  pub passed-is : (rows : List Row) (node : Node) → is_passed d (roots_of rows) node ≡ is_passed_over (tree_nodes d) rows node
  passed-is rows node =
      ap (λ b. elim (is_element
      node) as (λ _. Bool) [ true ↦ b && not (some_plan (led d (roots_of rows) (way_to (node.number ∷ node.above)))) | false ↦ false ])
      (on-is rows (way_to node.above))
      ∙ ap (λ b. elim (is_element node) as (λ _. Bool) [ true ↦ is_on_a_way (tree_nodes d) rows (way_to node.above) && not b | false ↦ false ])
      (on-is rows (way_to (node.number ∷ node.above)))

-- ---- ways

turned-append : (acc done ns : List ℕ) → turned (acc ++ done) ns ≡ turned acc ns ++ done
turned-append acc done [] = refl
turned-append acc done (n ∷ ns) = turned-append (n ∷ acc) done ns

without-append : (xs : List ℕ) (m : ℕ) → 0 < length xs → without_first (xs ++ m ∷ []) ≡ without_first xs ++ m ∷ []
without-append [] m h = absurd (omega (arith, h))
without-append (x ∷ xs) m h = refl

turned-long : (acc ns : List ℕ) → 0 < length acc → 0 < length (turned acc ns)
turned-long acc [] h = h
turned-long acc (n ∷ ns) h = turned-long (n ∷ acc) ns (omega arith)

way-more : (m p : ℕ) (above : List ℕ) → way_to (m ∷ (p ∷ above)) ≡ way_to (p ∷ above) ++ m ∷ []
way-more m p above =
    ap without_first (turned-append (p ∷ []) (m ∷ []) above)
    ∙ without-append (turned (p ∷ []) above) m (turned-long (p ∷ []) above (omega arith))

module _ (d : Document) where
  led-more : (plans : List Inside) (way : List ℕ) (m : ℕ) → led d plans (way ++ m ∷ []) ≡ insides d m (led d plans way)
  led-more plans [] m = refl
  led-more plans (n ∷ way) m = led-more (insides d n plans) way m

  pub state-more : (roots : List Inside) (m p : ℕ) → (tree_node (tree_nodes d) m).above ≡ path_of d p → state d roots m ≡ insides d m (state d roots p)
  state-more roots m p e =
      ap (λ above. led d roots (way_to (m ∷ above))) e
      ∙ (ap (led d roots) (way-more m p (tree_node (tree_nodes d) p).above) ∙ led-more roots (way_to (path_of d p)) m)

  pub state-begin : (roots : List Inside) → (tree_node (tree_nodes d) 0).above ≡ [] → state d roots 0 ≡ roots
  state-begin roots e = ap (λ above. led d roots (way_to (0 ∷ above))) e

  -- ---- spans

  -- the line that stands at a place
  pub record LineAt (lines : List FoundLine) (at to : ℕ) (line : FoundLine) (plan : Plan) : Type 0 where
    pub step : Step
    pub cells : List Cell
    pub within : Plan
    pub rest : Plan
    pub plan_is : plan ≡ a_line step cells within rest
    pub line_is : line ≡ line_of d step cells within
    pub inside_span : IsSpan d lines (at + 1) (at + (1 + line.size)) within
    pub placed : place_before lines (at + 1) ≡ own_place step cells within
    pub rest_span : IsSpan d lines (at + (1 + line.size)) to rest

  pub line-at : (lines : List FoundLine) (at to : ℕ) (line : FoundLine) (plan : Plan) → IsSpan d lines at to plan → at < to → line ≡ get_or lines at line
      → LineAt lines at to line plan
  line-at lines at to line nothing span below read = let e = span.ends in absurd (omega (arith, below))
  line-at lines at to line (a_line s cells inside rest) span below read =
      let here = line_of d s cells inside in
      let behind = (lined d inside ++ lined d rest) ++ span.back in
      let is : line ≡ here = read ∙ (ap (λ ls. get_or ls at line) span.is
      ∙ (ap (λ n. get_or (span.front ++ (here ∷ behind)) n line) (sym span.begins) ∙ get_or-append_seam span.front here behind line)) in
      let size : line.size ≡ length (lined d inside) = ap (λ (l : FoundLine). l.size) is in
      let begins = span.begins in
      let ends = span.ends in
      let both = length-append (lined d inside) (lined d rest) in
      let whole = ap length span.is ∙ length-append span.front (here ∷ behind) in
      record {
        step = s;
        cells = cells;
        within = inside;
        rest = rest;
        plan_is = refl;
        line_is = is;
        inside_span = record {
          front = span.front ++ here ∷ [];
          back = lined d rest ++ span.back;
          is = span.is ∙ (ap (λ xs. span.front ++ (here ∷ xs)) (append_assoc (lined d inside) (lined d rest) span.back)
              ∙ sym (append_assoc span.front (here ∷ []) (lined d inside ++ (lined d rest ++ span.back))));
          begins = length-append span.front (here ∷ []) ∙ ap (λ n. n + 1) begins;
          ends = omega (arith, size);
        };
        placed = ap (λ b. gate b (place_in (slice_get lines (at + 1 - 1)))) (lt-ltb 0 (at + 1) (omega arith))
            ∙ (ap (λ k. place_in (slice_get lines k)) (let e : at + 1 - 1 ≡ at = omega arith in e)
            ∙ ap place_in (slice_get-get_or lines at line (omega (arith, whole, below, begins)) ∙ ap Some (sym read ∙ is)));
        rest_span = record {
          front = span.front ++ (here ∷ lined d inside);
          back = span.back;
          is = span.is ∙ (ap (λ xs. span.front ++ (here ∷ xs)) (append_assoc (lined d inside) (lined d rest) span.back)
              ∙ sym (append_assoc span.front (here ∷ lined d inside) (lined d rest ++ span.back)));
          begins = let n = length-append span.front (here ∷ lined d inside) in omega (arith, n, size, begins);
          ends = omega (arith, both, size, ends);
        };
      }

  pub span-bounds : (lines : List FoundLine) (from to : ℕ) (plan : Plan) → IsSpan d lines from to plan → (from ≤ to) × (to ≤ length lines)
  span-bounds lines from to plan span =
      let a = ap length span.is ∙ length-append span.front (lined d plan ++ span.back) in
      let b = length-append (lined d plan) span.back in
      let c = span.begins in
      let e = span.ends in
      (omega arith, omega (arith, a, b, c, e))

  pub spans-push : (lines : List FoundLine) (spans : List Span) (plans : List Inside) (span : Span) (plan : Inside) → SpansOf d lines spans plans
      → IsInside d lines span plan → SpansOf d lines (spans ++ span ∷ []) (plans ++ plan ∷ [])
  spans-push lines [] [] span plan h k = (k, tt)
  spans-push lines [] (p ∷ plans) span plan h k = absurd h
  spans-push lines (s ∷ spans) [] span plan h k = absurd h
  spans-push lines (s ∷ spans) (p ∷ plans) span plan h k = (h.0, spans-push lines spans plans span plan h.1 k)

  -- of the lines of a span those from a place on are left
  pub record Adding (lines : List FoundLine) (from to m : ℕ) (old : List Span) (at : ℕ) (new : List Span) : Type 0 where
    pub some : IsSomeSpan d lines at to
    pub all : (plan : Plan) (plans : List Inside) → IsSpan d lines from to plan → SpansOf d lines old plans
        → (rest : Plan) × (dones : List Inside) × IsSpan d lines at to rest × SpansOf d lines new dones
        × ((dones ++ inside_named d m rest) ≡ (plans ++ inside_named d m plan))

  pub adding_begin : (lines : List FoundLine) (from to m : ℕ) (old : List Span) → IsSomeSpan d lines from to → Adding lines from to m old from old
  adding_begin lines from to m old some = record { some = some; all = λ plan plans span of. (plan, plans, span, of, refl) }

  pub adding_fits : (lines : List FoundLine) (at to : ℕ) (line : FoundLine) → IsSomeSpan d lines at to → at < to → line ≡ get_or lines at line
      → (at + (1 + line.size) ≤ to) × (to ≤ length lines)
  adding_fits lines at to line some below read =
      let l = line-at lines at to line some.plan some.span below read in
      ((span-bounds lines (at + (1 + line.size)) to l.rest l.rest_span).0, (span-bounds lines at to some.plan some.span).1)

  pub adding_room : (lines : List FoundLine) (at to : ℕ) → IsSomeSpan d lines at to → to ≤ length lines
  adding_room lines at to some = (span-bounds lines at to some.plan some.span).1

  -- a line that hasn't the node's name, and one that has it
  pub adding_past : (lines : List FoundLine) (from to m : ℕ) (old : List Span) (at : ℕ) (new : List Span) (line : FoundLine) (named : Bool)
      → ((s : Step) (cells : List Cell) (inside : Plan) → line ≡ line_of d s cells inside → has_element_name s.name (tree_node (tree_nodes d) m) ≡ named)
      → Adding lines from to m old at new → at < to → line ≡ get_or lines at line → named ≡ false → Adding lines from to m old (at + (1 + line.size)) new
  adding_past lines from to m old at new line named says a below read no_hit =
      let l = line-at lines at to line a.some.plan a.some.span below read in
      record {
        some = record { plan = l.rest; span = l.rest_span };
        all = λ plan plans span of.
            let w = a.all plan plans span of in
            let k = line-at lines at to line w.0 w.2 below read in
            let miss : has_element_name k.step.name (tree_node (tree_nodes d) m) ≡ false = says k.step k.cells k.within k.line_is ∙ no_hit in
            let e : inside_named d m w.0 ≡ inside_named d m k.rest =
            ap (inside_named d m) k.plan_is ∙ ap (λ b. (elim b as (λ _. List Inside) [ true ↦ an_inside k.step k.cells k.within ∷ [] | false ↦ [] ]) ++ inside_named d m k.rest) miss in
            (k.rest, w.1, k.rest_span, w.3, ap (λ xs. w.1 ++ xs) (sym e) ∙ w.4);
      }

  pub adding_hit : (lines : List FoundLine) (from to m : ℕ) (old : List Span) (at : ℕ) (new : List Span) (line : FoundLine) (named : Bool) (span : Span)
      (after : List Span)
      → ((s : Step) (cells : List Cell) (inside : Plan) → line ≡ line_of d s cells inside → has_element_name s.name (tree_node (tree_nodes d) m) ≡ named)
      → Adding lines from to m old at new → at < to → line ≡ get_or lines at line → named ≡ true → span ≡ record { from = at + 1; to = at + (1 + line.size) }
      → after ≡ new ++ span ∷ []
      → Adding lines from to m old (at + (1 + line.size)) after
  adding_hit lines from to m old at new line named span after says a below read hit span_is after_is =
      let l = line-at lines at to line a.some.plan a.some.span below read in
      record {
        some = record { plan = l.rest; span = l.rest_span };
        all = λ plan plans whole of.
            let w = a.all plan plans whole of in
            let k = line-at lines at to line w.0 w.2 below read in
            let named_is : has_element_name k.step.name (tree_node (tree_nodes d) m) ≡ true = says k.step k.cells k.within k.line_is ∙ hit in
            let found : Inside = an_inside k.step k.cells k.within in
            let e : inside_named d m w.0 ≡ found ∷ inside_named d m k.rest =
            ap (inside_named d m) k.plan_is ∙ ap (λ b. (elim b as (λ _. List Inside) [ true ↦ an_inside k.step k.cells k.within ∷ [] | false ↦ [] ]) ++ inside_named d m k.rest)
            named_is in
            let here : IsInside d lines span found =
            subst (λ (s : Span). IsInside d lines s found) (sym span_is) (record { is = k.inside_span; placed = k.placed }) in (
              k.rest,
              w.1 ++ found ∷ [],
              k.rest_span,
              subst (λ ss. SpansOf d lines ss (w.1 ++ found ∷ [])) (sym after_is) (spans-push lines new w.1 span found w.3 here),
              append_assoc w.1 (found ∷ []) (inside_named d m k.rest) ∙ (ap (λ xs. w.1 ++ xs) (sym e) ∙ w.4),
            );
      }

  pub named-says : (line : FoundLine) (m name : ℕ) (named : Bool) → LeadsThrough d → m < length d.nodes → (node_at d.nodes m).name ≡ Some name
      → named ≡ is_same_number line.name name
      → (s : Step) (cells : List Cell) (inside : Plan) → line ≡ line_of d s cells inside → has_element_name s.name (tree_node (tree_nodes d) m) ≡ named
  named-says line m name named through within name_is is s cells inside line_is =
      sym (is ∙ (sym (number-says d line.name name m name_is)
      ∙ (ap (λ (l : FoundLine). has_found l.name (node_at d.nodes m)) line_is ∙ through.named s.name m within)))

  pub adding_end : (lines : List FoundLine) (from to m : ℕ) (old : List Span) (at : ℕ) (new : List Span) → Adding lines from to m old at new → to ≤ at
      → AddsNamed d lines from to m old new
  adding_end lines from to m old at new a past plan plans span of =
      let w = a.all plan plans span of in
      let none : inside_named d m w.0 ≡ [] = empty w.0 w.2 in
      subst (SpansOf d lines new) (sym (append-nil w.1) ∙ (ap (λ xs. w.1 ++ xs) (sym none) ∙ w.4)) w.3
    where
      empty : (rest : Plan) → IsSpan d lines at to rest → inside_named d m rest ≡ []
      empty nothing s = refl
      empty (a_line s cells inside rest) span = let e = span.ends in absurd (omega (arith, past))

  -- ---- several spans

  pub spans-long : (lines : List FoundLine) (spans : List Span) (plans : List Inside) → SpansOf d lines spans plans → length spans ≡ length plans
  spans-long lines [] [] h = refl
  spans-long lines [] (p ∷ plans) h = absurd h
  spans-long lines (s ∷ spans) [] h = absurd h
  spans-long lines (s ∷ spans) (p ∷ plans) h = let e = spans-long lines spans plans h.1 in omega (arith, e)

  pub span-at : (lines : List FoundLine) (spans : List Span) (plans : List Inside) (k : ℕ) (x : Span) → SpansOf d lines spans plans → k < length spans
      → IsInside d lines (get_or spans k x) (get_or plans k no_inside)
  span-at lines [] plans k x h below = absurd (omega (arith, below))
  span-at lines (s ∷ spans) [] k x h below = absurd h
  span-at lines (s ∷ spans) (p ∷ plans) zero x h below = h.0
  span-at lines (s ∷ spans) (p ∷ plans) (suc k) x h below = span-at lines spans plans k x h.1 (omega (arith, below))

  -- Of the spans of a part those from a place on are left.
  pub record Naming (lines : List FoundLine) (around : Span) (m : ℕ) (old : List Span) (at : ℕ) (new : List Span) : Type 0 where
    pub some : AreSpans d lines new
    pub longer : length old ≤ length new
    pub all : (plans : List Inside) → SpansOf d lines old plans
        → (dones : List Inside) × SpansOf d lines new (plans ++ dones)
        × ((dones ++ insides d m (drop at (take around.to plans))) ≡ insides d m (part plans around))

  pub naming_begin : (lines : List FoundLine) (around : Span) (m : ℕ) (old : List Span) → AreSpans d lines old → Naming lines around m old around.from old
  naming_begin lines around m old some = record {
    some = some;
    longer = omega arith;
    all = λ plans of. ([], subst (SpansOf d lines old) (sym (append-nil plans)) of, refl);
  }

  module _ (lines : List FoundLine) (around : Span) (m : ℕ) (old : List Span) (at : ℕ) (new : List Span) (n : Naming lines around m old at new) where
    pub naming_fits : at < around.to → around.to ≤ length old → at < length new
    naming_fits below within = omega (arith, n.longer, below, within)

    pub naming_some : (span : Span) → at < around.to → around.to ≤ length old → span ≡ get_or new at no_part → IsSomeSpan d lines span.from span.to
    naming_some span below within read = record {
      plan = (get_or n.some.plans at no_inside).plan;
      span = subst (λ (s : Span). IsSpan d lines s.from s.to (get_or n.some.plans at no_inside).plan) (sym read)
          (span-at lines new n.some.plans at no_part n.some.are (naming_fits below within)).is;
    }

    pub naming_more : (span : Span) (after : List Span) → at < around.to → around.to ≤ length old → span ≡ get_or new at no_part
        → AddsNamed d lines span.from span.to m new after
        → Naming lines around m old (at + 1) after
    naming_more span after below within read adds =
        let fits : at < length new = naming_fits below within in
        let first : Inside = get_or n.some.plans at no_inside in
        let placed : (plans : List Inside) → SpansOf d lines new plans → IsSpan d lines span.from span.to (get_or plans at no_inside).plan =
        λ plans of. subst (λ (s : Span). IsSpan d lines s.from s.to (get_or plans at no_inside).plan) (sym read)
        (span-at lines new plans at no_part of fits).is in
        let others = adds first.plan n.some.plans (placed n.some.plans n.some.are) n.some.are in
        let before = spans-long lines new n.some.plans n.some.are in
        let behind = spans-long lines after (n.some.plans ++ inside_named d m first.plan) others in
        let both = length-append n.some.plans (inside_named d m first.plan) in
        record {
          some = record { plans = n.some.plans ++ inside_named d m first.plan; are = others };
          longer = omega (arith, n.longer, before, behind, both);
          all = λ plans of.
              let w = n.all plans of in
              let long : length old ≡ length plans = spans-long lines old plans of in
              let x : Inside = get_or plans at no_inside in
              let here : get_or (plans ++ w.0) at no_inside ≡ x = get_or_append_left plans w.0 no_inside at (omega (arith, below, within, long)) in
              let spanned : IsSpan d lines span.from span.to x.plan =
              subst (λ (y : Inside). IsSpan d lines span.from span.to y.plan) here (placed (plans ++ w.0) w.1) in
              let taken : length (take around.to plans) ≡ around.to = length-take-le around.to plans (omega (arith, within, long)) in
              let next : drop at (take around.to plans) ≡ x ∷ drop (at + 1) (take around.to plans) =
              drop_more (take around.to plans) at no_inside (omega (arith, below, taken))
              ∙ ap (λ p. p ∷ drop (at + 1) (take around.to plans)) (get_or-take around.to plans at no_inside below) in (
                w.0 ++ inside_named d m x.plan,
                subst (SpansOf d lines after) (append_assoc plans w.0 (inside_named d m x.plan)) (adds x.plan (plans ++ w.0) spanned w.1),
                append_assoc w.0 (inside_named d m x.plan) (insides d m (drop (at + 1) (take around.to plans)))
                    ∙ (ap (λ ps. w.0 ++ insides d m ps) (sym next) ∙ w.2),
              );
        }

    pub naming_end : around.to ≤ at → LeadsInside d lines around m old new
    naming_end past plans of =
        let w = n.all plans of in
        let short = length-take around.to plans in
        let none : drop at (take around.to plans) ≡ [] = drop_all at (take around.to plans) (omega (arith, past, short)) in
        subst (λ xs. SpansOf d lines new (plans ++ xs)) (sym (append-nil w.0) ∙ (ap (λ ps. w.0 ++ insides d m ps) (sym none) ∙ w.2)) w.1

  -- ---- a node that has no name

  nameless : LeadsThrough d → (m : ℕ) → m < length d.nodes → (node_at d.nodes m).name ≡ None → (plan : Plan) → inside_named d m plan ≡ []
  nameless through m within none nothing = refl
  nameless through m within none (a_line s cells inside rest) =
      ap (λ b. (elim b as (λ _. List Inside) [ true ↦ an_inside s cells inside ∷ [] | false ↦ [] ]) ++ inside_named d m rest)
      (sym (through.named s.name m within) ∙ none-found d (found_element d s.name) m none)
      ∙ nameless through m within none rest

  all-nameless : LeadsThrough d → (m : ℕ) → m < length d.nodes → (node_at d.nodes m).name ≡ None → (plans : List Inside) → insides d m plans ≡ []
  all-nameless through m within none [] = refl
  all-nameless through m within none (x ∷ xs) = ap (λ ys. ys ++ insides d m xs) (nameless through m within none x.plan)
      ∙ all-nameless through m within none xs

  pub leads_nowhere : LeadsThrough d → (lines : List FoundLine) (around : Span) (m : ℕ) (spans : List Span) → m < length d.nodes
      → None ≡ (node_at d.nodes m).name → LeadsInside d lines around m spans spans
  leads_nowhere through lines around m spans within none plans of =
      subst (SpansOf d lines spans) (sym (append-nil plans) ∙ ap (λ xs. plans ++ xs) (sym (all-nameless through m within (sym none) (part plans around)))) of

-- ---- parts

pub part-new : (plans more : List Inside) (p : Span) → p.from ≡ length plans → p.to ≡ length (plans ++ more) → IsPart (plans ++ more) p more
part-new plans more p from_is to_is = record {
  ordered = let e = length-append plans more in omega (arith, from_is, to_is, e);
  within = omega (arith, to_is);
  is = ap (drop p.from) (take_all p.to (plans ++ more) (omega (arith, to_is))) ∙ (ap (λ k. drop k (plans ++ more)) from_is ∙ drop-append_seam plans more);
}

pub some-part : (plans : List Inside) (p : Span) (own : List Inside) → IsPart plans p own → some_of p ≡ some_plan own
some-part plans p own s =
    let taken = length-take-le p.to plans s.within in
    let dropped = length-drop p.from (take p.to plans) in
    let whole = ap length s.is in
    at own (omega (arith, taken, dropped, whole, s.ordered))
  where
    at : (ps : List Inside) → p.from + length ps ≡ p.to → some_of p ≡ some_plan ps
    at [] e = le-ltb p.from p.to (omega (arith, e))
    at (plan ∷ ps) e = lt-ltb p.from p.to (omega (arith, e))

-- ---- a node and those around it

pub kinds-are : (d : Document) (n : ℕ) → n < length d.nodes → is_element (tree_node (tree_nodes d) n) ≡ is_element_kind (node_at d.nodes n).kind
kinds-are d n within = ap is_element (get_or-map (node_of d.names) d.nodes n document_node _ within)

last-is : (around way : List Opened) (own last : Opened) → way ≡ around ++ own ∷ [] → Some last ≡ slice_get way (length way - 1) → last ≡ own
last-is around way own last is read =
    let long = ap length is ∙ length-append around (own ∷ []) in
    let place : length way - 1 ≡ length around = omega (arith, long) in
    sym (get_or_from_slice_get way (length way - 1) last own (sym read))
    ∙ (ap (λ k. get_or way k own) place ∙ (ap (λ ws. get_or ws (length around) own) is ∙ get_or-append_seam around own [] own))

module _ (d : Document) (lines : List FoundLine) where
  spans-take : (spans : List Span) (plans : List Inside) (k : ℕ) → SpansOf d lines spans plans → SpansOf d lines (take k spans) (take k plans)
  spans-take spans plans zero h = tt
  spans-take [] [] (suc k) h = tt
  spans-take [] (p ∷ plans) (suc k) h = absurd h
  spans-take (s ∷ spans) [] (suc k) h = absurd h
  spans-take (s ∷ spans) (p ∷ plans) (suc k) h = (h.0, spans-take spans plans k h.1)

  -- ---- out to a node around

  pub near_some : (spans : List Span) (way : List Opened) (p : ℕ) → IsSomeNear d lines spans way p → None ≡ slice_get way (length way - 1) → ⊥
  near_some spans way p s read =
      let on = s.near.stands.on in
      let own : Opened = record { node = s.near.at; from = length on.1 } in
      let long = ap length on.2 ∙ length-append on.0 (own ∷ []) in
      none_some (slice_get way (length way - 1)) _ (sym read) (slice_get-get_or way (length way - 1) own (omega (arith, long)))
    where
      none_some : (o : Option Opened) (x : Opened) → o ≡ None → o ≡ Some x → ⊥
      none_some o x e f = cc

  pub near_here : (roots : List Inside) (spans : List Span) (way : List Opened) (p : ℕ) (last : Opened) (own : Span) → IsNear d lines roots spans way p
      → Some last ≡ slice_get way (length way - 1) → last.node ≡ p → own ≡ record { from = last.from; to = length spans }
      → StandsAt d lines roots spans way p own
  near_here roots spans way p last own n read here own_is =
      let on = n.stands.on in
      let is : last ≡ record { node = n.at; from = length on.1 } = last-is on.0 way _ last on.2 read in
      let from_is : own.from ≡ length on.1 = ap (λ (s : Span). s.from) own_is ∙ ap (λ (o : Opened). o.from) is in
      let to_is : own.to ≡ length spans = ap (λ (s : Span). s.to) own_is in
      let long : length spans ≡ length (on.1 ++ state d roots n.at) = spans-long d lines spans n.stands.plans n.stands.are ∙ ap length on.3 in
      let whole : StandsAt d lines roots spans way n.at own = record {
        stands = n.stands;
        is = subst (λ ps. IsPart ps own (state d roots n.at)) (sym on.3) (part-new on.1 (state d roots n.at) own from_is (to_is ∙ long));
        ends = to_is;
      } in
      subst (λ k. StandsAt d lines roots spans way k own) (sym (ap (λ (o : Opened). o.node) is) ∙ here) whole

  among-path : (p q : ℕ) → is_among p (path_of d q) ≡ true → IsAround d p q
  among-path p q h = elim (or_cases (p == q) (is_among p (tree_node (tree_nodes d) q).above) h) [
    | inl e ↦ inl (eqb-true p q e)
    | inr i ↦ inr i
  ]

  near-out : LeadsThrough d → (roots : List Inside) (spans cut : List Span) (way fewer : List Opened) (p : ℕ) (last : Opened)
      → IsNear d lines roots spans way p → Some last ≡ slice_get way (length way - 1) → (last.node ≡ p → ⊥)
      → fewer ≡ take (length way - 1) way → cut ≡ take last.from spans → IsNear d lines roots cut fewer p
  near-out through roots spans cut way fewer p last n read other fewer_is cut_is =
      go (tree_node (tree_nodes d) n.at).above refl inside
    where
      on : OnWay d roots way n.stands.plans (path_of d n.at)
      on = n.stands.on

      own : Opened
      own = record { node = n.at; from = length on.1 }

      is : last ≡ own
      is = last-is on.0 way own last on.2 read

      inside : is_among p (tree_node (tree_nodes d) n.at).above ≡ true
      inside = elim n.around [ inl e ↦ absurd (other (ap (λ (o : Opened). o.node) is ∙ sym e)) | inr h ↦ h ]

      fewer-are : fewer ≡ on.0
      fewer-are = let long = ap length on.2 ∙ length-append on.0 (own ∷ []) in
          fewer_is ∙ (ap (take (length way - 1)) on.2 ∙ take_at on.0 (own ∷ []) (length way - 1) (omega (arith, long)))

      plans-are : take last.from n.stands.plans ≡ on.1
      plans-are = ap (take last.from) on.3 ∙ take_at on.1 (state d roots n.at) last.from (sym (ap (λ (o : Opened). o.from) is))

      go : (ns : List ℕ) → (tree_node (tree_nodes d) n.at).above ≡ ns → is_among p ns ≡ true → IsNear d lines roots cut fewer p
      go [] e h = absurd (false≢true h)
      go (q ∷ ns) e h =
          let up : (tree_node (tree_nodes d) n.at).above ≡ path_of d q = through.inside_one n.at q on.4 (ap nearest e) in
          record {
            at = q;
            stands = record {
              plans = on.1;
              are = subst (λ ss. SpansOf d lines ss on.1) (sym cut_is)
                  (subst (SpansOf d lines (take last.from spans)) plans-are (spans-take spans n.stands.plans last.from n.stands.are));
              on = subst (λ ws. OnWay d roots ws on.1 (path_of d q)) (sym fewer-are) (subst (OnWay d roots on.0 on.1) up on.5);
            };
            around = among-path p q (ap (is_among p) (sym up) ∙ inside);
          }

  -- What was near at first is near still.
  pub record Coming (p : ℕ) (spans : List Span) (way : List Opened) (left : List Span) (fewer : List Opened) : Type 0 where
    pub some : IsSomeNear d lines left fewer p
    pub all : (roots : List Inside) → IsNear d lines roots spans way p → IsNear d lines roots left fewer p

  pub coming_begin : (p : ℕ) (spans : List Span) (way : List Opened) → IsSomeNear d lines spans way p → Coming p spans way spans way
  coming_begin p spans way some = record { some = some; all = λ roots near. near }

  pub coming_more : LeadsThrough d → (p : ℕ) (spans : List Span) (way : List Opened) (left : List Span) (fewer : List Opened) (last : Opened)
      (cut : List Span) (rest : List Opened)
      → Coming p spans way left fewer → Some last ≡ slice_get fewer (length fewer - 1) → (last.node ≡ p → ⊥)
      → rest ≡ take (length fewer - 1) fewer → cut ≡ take last.from left → Coming p spans way cut rest
  coming_more through p spans way left fewer last cut rest c read other rest_is cut_is = record {
    some = record { roots = c.some.roots; near = near-out through c.some.roots left cut fewer rest p last c.some.near read other rest_is cut_is };
    all = λ roots near. near-out through roots left cut fewer rest p last (c.all roots near) read other rest_is cut_is;
  }

  -- ---- from a node to the next

  pub near_before : LeadsThrough d → (roots : List Inside) (spans : List Span) (way : List Opened) (m p : ℕ) → m < length d.nodes
      → parent (tree_nodes d) m ≡ Some p → IsBefore d lines roots spans way m → IsNear d lines roots spans way p
  near_before through roots spans way m p within parent_is b = record {
    at = b.last;
    stands = b.stands;
    around = through.next b.last p (let e = b.is in omega (arith, within, e)) (subst (λ k. parent (tree_nodes d) k ≡ Some p) b.is parent_is);
  }

  pub some_near : LeadsThrough d → (spans : List Span) (way : List Opened) (m p : ℕ) → m < length d.nodes → parent (tree_nodes d) m ≡ Some p
      → IsSomeBefore d lines spans way m → IsSomeNear d lines spans way p
  some_near through spans way m p within parent_is s =
      record { roots = s.roots; near = near_before through s.roots spans way m p within parent_is s.before }

  pub stands_fit : (roots : List Inside) (spans : List Span) (way : List Opened) (n : ℕ) (own : Span) → StandsAt d lines roots spans way n own
      → own.to ≤ length spans
  stands_fit roots spans way n own s = let e = s.ends in omega (arith, e)

  pub stands_spans : (roots : List Inside) (spans : List Span) (way : List Opened) (n : ℕ) (own : Span) → StandsAt d lines roots spans way n own
      → AreSpans d lines spans
  stands_spans roots spans way n own s = record { plans = s.stands.plans; are = s.stands.are }

  pub reached_more : LeadsThrough d → (roots : List Inside) (m p : ℕ) (spans : List Span) (way : List Opened) (around inside : Span) (more_spans : List Span)
      (more_way : List Opened)
      → m < length d.nodes → StandsAt d lines roots spans way p around → parent (tree_nodes d) m ≡ Some p
      → inside.from ≡ length spans → inside.to ≡ length more_spans → LeadsInside d lines around m spans more_spans
      → more_way ≡ way ++ record { node = m; from = inside.from } ∷ []
      → IsReached d lines roots more_spans more_way m (record { around = around; inside = inside })
  reached_more through roots m p spans way around inside more_spans more_way within s parent_is from_is to_is leads way_is =
      let plans : List Inside = s.stands.plans in
      let above = through.inside_one m p within parent_is in
      let own : IsPart plans around (state d roots p) = s.is in
      let next : state d roots m ≡ insides d m (state d roots p) = state-more d roots m p above in
      let more : List Inside = insides d m (part plans around) in
      let are : SpansOf d lines more_spans (plans ++ more) = leads plans s.stands.are in
      let is : more ≡ state d roots m = ap (insides d m) own.is ∙ sym next in
      let from : inside.from ≡ length plans = from_is ∙ spans-long d lines spans plans s.stands.are in
      let here : IsPart (plans ++ more) inside (state d roots m) =
      subst (IsPart (plans ++ more) inside) is (part-new plans more inside from (to_is ∙ spans-long d lines more_spans (plans ++ more) are)) in
      let node = tree_node (tree_nodes d) m in
      let on_around : some_of around ≡ some_plan (led d roots (way_to node.above)) =
      some-part plans around (state d roots p) own ∙ ap (λ a. some_plan (led d roots (way_to a))) (sym above) in
      let behind : OnWay d roots way plans (tree_node (tree_nodes d) m).above = subst (OnWay d roots way plans) (sym above) s.stands.on in
      record {
        stands = record {
          plans = plans ++ more;
          are = are;
          on = (
            way,
            plans,
            way_is ∙ ap (λ n. way ++ record { node = m; from = n } ∷ []) from,
            ap (λ ps. plans ++ ps) is,
            within,
            behind,
          );
        };
        around_is = on_around;
        inside_is = here;
        ends = to_is;
      }

  pub some-inside : LeadsThrough d → (roots : List Inside) (spans : List Span) (way : List Opened) (m : ℕ) (arrived : Arrived) → m < length d.nodes
      → IsReached d lines roots spans way m arrived
      → some_of arrived.inside
      ≡ some_plan (led d roots (way_to ((tree_node (tree_nodes d) m).number ∷ (tree_node (tree_nodes d) m).above)))
  some-inside through roots spans way m arrived within r =
      some-part r.stands.plans arrived.inside (state d roots m) r.inside_is
      ∙ ap (λ n. some_plan (led d roots (way_to (n ∷ (tree_node (tree_nodes d) m).above)))) (sym (through.numbers m within))

  -- whether a node that is reached is passed over
  pub passed-here : LeadsThrough d → (roots : List Inside) (spans : List Span) (way : List Opened) (m : ℕ) (arrived : Arrived) (passed : Bool)
      → m < length d.nodes → IsReached d lines roots spans way m arrived
      → passed ≡ (is_element_kind (node_at d.nodes m).kind && is_left arrived.around arrived.inside)
      → passed ≡ is_passed d roots (tree_node (tree_nodes d) m)
  passed-here through roots spans way m arrived passed within r passed_is =
      let node = tree_node (tree_nodes d) m in
      passed_is
      ∙ (ap (λ b. b && is_left arrived.around arrived.inside) (sym (through.kinds_are m within))
      ∙ (ap (λ b. is_element node && (b && not (some_of arrived.inside))) r.around_is
      ∙ (ap (λ b. is_element node && (some_plan (led d roots (way_to node.above)) && not b)) (some-inside through roots spans way m arrived within r)
      ∙ and-elim (is_element node) (some_plan (led d roots (way_to node.above)) && not (some_plan (led d roots (way_to (node.number ∷ node.above))))))))

  spans-begin : (rows : List Row) → lines ≡ lined d (plan_of rows) → SpansOf d lines (first_spans rows lines) (roots_of rows)
  spans-begin [] is = tt
  spans-begin (row ∷ rows) is = (
    record {
      is = record {
        front = [];
        back = [];
        is = is ∙ sym (append-nil (lined d (plan_of (row ∷ rows))));
        begins = refl;
        ends = (let e = ap length is in omega arith);
      };
      placed = refl;
    },
    tt,
  )

  pub stands-begin : LeadsThrough d → (rows : List Row) (spans : List Span) (way : List Opened) → lines ≡ lined d (plan_of rows)
      → Begins 0 rows lines spans way → Stands d lines (roots_of rows) spans way 0
  stands-begin through rows spans way is begins =
      let some : 0 < length d.nodes = let r = through.rooted in omega (arith, r) in
      let none : OnWay d (roots_of rows) [] [] (tree_node (tree_nodes d) 0).above = subst (OnWay d (roots_of rows) [] []) (sym through.outermost) refl in
      record {
        plans = roots_of rows;
        are = subst (λ ss. SpansOf d lines ss (roots_of rows)) (sym begins.0) (spans-begin rows is);
        on = ([], [], begins.1, sym (state-begin d (roots_of rows) through.outermost), some, none);
      }

  abbrev dark : Node
  dark = record { number = 0; kind = kinds.Document; name = None; above = []; text = [] }

  long : length (tree_nodes d) ≡ length d.nodes
  long = length-map d.nodes (node_of d.names)

  -- ---- the nodes up to one that pass a test

  pub record Noted (test : Node → Bool) (n : ℕ) (noted : List ℕ) : Type 0 where
    pub are : noted ≡ map number (filter test (take (n + 1) (tree_nodes d)))
    pub inside : All (λ m. m < length d.nodes) noted

  module _ (test : Node → Bool) where
    one-more : (n : ℕ) → n < length d.nodes
        → map number (filter test (take (n + 1) (tree_nodes d)))
        ≡ map number (filter test (take n (tree_nodes d))) ++ one_if (test (tree_node (tree_nodes d) n)) (tree_node (tree_nodes d) n).number
    one-more n within =
        let node = tree_node (tree_nodes d) n in
        ap (λ xs. map number (filter test xs)) (take_more (tree_nodes d) n dark (omega (arith, within, long)))
        ∙ (ap (map number) (filter-append test (take n (tree_nodes d)) (node ∷ []))
        ∙ (map-append number (filter test (take n (tree_nodes d))) (filter test (node ∷ []))
        ∙ ap (λ xs. map number (filter test (take n (tree_nodes d))) ++ xs) (at (test node))))
      where
        at : (b : Bool) → map number (cond b (tree_node (tree_nodes d) n ∷ []) []) ≡ one_if b (tree_node (tree_nodes d) n).number
        at true = refl
        at false = refl

    one-inside : (b : Bool) (m : ℕ) → m < length d.nodes → All (λ k. k < length d.nodes) (one_if b m)
    one-inside true m within = All-cons (λ k. k < length d.nodes) m [] within (All-nil (λ k. k < length d.nodes))
    one-inside false m within = All-nil (λ k. k < length d.nodes)

    pub noted-first : 0 < length d.nodes → test (tree_node (tree_nodes d) 0) ≡ false → Noted test 0 []
    noted-first some first = record {
      are = sym (one-more 0 some ∙ ap (λ b. one_if b (tree_node (tree_nodes d) 0).number) first);
      inside = All-nil (λ m. m < length d.nodes);
    }

    pub noted-more : LeadsThrough d → (n m : ℕ) (noted more : List ℕ) (passes : Bool) → m < length d.nodes → m ≡ n + 1
        → Noted test n noted → passes ≡ test (tree_node (tree_nodes d) m) → more ≡ noted ++ one_if passes m → Noted test m more
    noted-more through n m noted more passes here m_is c passes_is more_is = record {
      are = more_is ∙ (ap (λ b. noted ++ one_if b m) passes_is
          ∙ (ap (λ k. noted ++ one_if (test (tree_node (tree_nodes d) m)) k) (sym (through.numbers m here))
          ∙ (ap (λ ps. ps ++ one_if (test (tree_node (tree_nodes d) m)) (tree_node (tree_nodes d) m).number)
          (c.are ∙ ap (λ k. map number (filter test (take k (tree_nodes d)))) (sym m_is)) ∙ sym (one-more m here))));
      inside = subst (All (λ k. k < length d.nodes)) (sym more_is)
          (All-append (λ k. k < length d.nodes) noted (one_if passes m) c.inside (one-inside passes m here));
    }

    pub noted-all : (n : ℕ) (noted : List ℕ) → Noted test n noted → (n + 1 < length d.nodes → ⊥) → noted ≡ map number (filter test (tree_nodes d))
    noted-all n noted c end = c.are ∙ ap (λ xs. map number (filter test xs)) (take_all (n + 1) (tree_nodes d) (omega (arith, end, long)))

  -- ---- the elements passed over up to a node

  pub record Noting (rows : List Row) (spans : List Span) (way : List Opened) (n : ℕ) (passed : List ℕ) : Type 0 where
    pub within : n < length d.nodes
    pub stands : Stands d lines (roots_of rows) spans way n
    pub noted : Noted (is_passed d (roots_of rows)) n passed

  pub noting_begin : LeadsThrough d → (rows : List Row) (spans : List Span) (way : List Opened) (n : ℕ) (passed : List ℕ)
      → lines ≡ lined d (plan_of rows) → Begins n rows lines spans way → n ≡ 0 → passed ≡ [] → Noting rows spans way n passed
  noting_begin through rows spans way n passed is begins zero_is none =
      let some : 0 < length d.nodes = let r = through.rooted in omega (arith, r) in
      let first : is_passed d (roots_of rows) (tree_node (tree_nodes d) 0) ≡ false =
      ap (λ b. elim b as (λ _. Bool) [
        | true ↦ some_plan (led d (roots_of rows) (way_to (tree_node (tree_nodes d) 0).above))
            && not (some_plan (led d (roots_of rows) (way_to ((tree_node (tree_nodes d) 0).number ∷ (tree_node (tree_nodes d) 0).above))))
        | false ↦ false
      ]) through.no_element in
      let at_zero : Noting rows spans way 0 [] = record {
        within = some;
        stands = stands-begin through rows spans way is (subst (λ k. Begins k rows lines spans way) zero_is begins);
        noted = noted-first (is_passed d (roots_of rows)) some first;
      } in
      subst (λ ps. Noting rows spans way n ps) (sym none) (subst (λ k. Noting rows spans way k []) (sym zero_is) at_zero)

  pub noting_before : (rows : List Row) (spans : List Span) (way : List Opened) (n : ℕ) (passed : List ℕ) (m : ℕ) → Noting rows spans way n passed → m ≡ n + 1
      → IsBefore d lines (roots_of rows) spans way m
  noting_before rows spans way n passed m c m_is = record { last = n; is = m_is; stands = c.stands }

  pub noting_more : LeadsThrough d → (rows : List Row) (spans : List Span) (way : List Opened) (n : ℕ) (passed : List ℕ) (m : ℕ) (more_spans : List Span)
      (more_way : List Opened) (arrived : Arrived) (is_passed_now : Bool) (more : List ℕ)
      → Noting rows spans way n passed → n + 1 < length d.nodes → m ≡ n + 1
      → IsReached d lines (roots_of rows) more_spans more_way m arrived
      → is_passed_now ≡ (is_element_kind (node_at d.nodes m).kind && is_left arrived.around arrived.inside)
      → more ≡ passed ++ one_if is_passed_now m
      → Noting rows more_spans more_way m more
  noting_more through rows spans way n passed m more_spans more_way arrived is_passed_now more c within m_is v passed_is more_is =
      let here : m < length d.nodes = omega (arith, within, m_is) in
      record {
        within = here;
        stands = v.stands;
        noted = noted-more (is_passed d (roots_of rows)) through n m passed more is_passed_now here m_is c.noted
            (passed-here through (roots_of rows) more_spans more_way m arrived is_passed_now here v passed_is) more_is;
      }

  pub noting_end : LeadsThrough d → (rows : List Row) (spans : List Span) (way : List Opened) (n : ℕ) (passed : List ℕ) → Noting rows spans way n passed
      → (n + 1 < length d.nodes → ⊥)
      → passed ≡ passed_nodes (tree_nodes d) rows
  unfolding passed_nodes
  noting_end through rows spans way n passed c end =
      noted-all (is_passed d (roots_of rows)) n passed c.noted end
      ∙ ap (map number) (filter_agree (is_passed d (roots_of rows)) (is_passed_over (tree_nodes d) rows) (through.passed_over rows) (tree_nodes d))
