-- The root of a document and its calls.
use Rattle.std.proofs.Common.{◌≡◌, ℕ, Bool, true, false, ◌&&◌, ◌||◌, List, [], ◌∷◌, ◌++◌, map, Option, Some, None, refl, ap, sym, ◌∙◌, subst, append_assoc}
use Rattle.std.proofs.Common.{flat_map}
use Rattle.std.specs.Prelude.{encode_utf8_all}
use Rattle.std.proofs.lemmas.List.{map-append}
use Rattle.std.proofs.lemmas.Option.{same_Some}
use Rattle.inv_base.specs.Tree.{Forest, no_more, an_element}
use Rattle.term_table.specs.declared.contexts.Context.{Context}
use Rattle.term_table.specs.Contexts.{root_context}
use Rattle.inv_terms.specs.declared.entries.Entry.{Entry}
use Rattle.xml_write.specs.Canonical.{element_name}
use Rattle.xml_write.specs.Calls.{Call, call_start, call_end, call_close, encoded, attribute_calls, calls_inside, calls_of, declare_calls}
use Rattle.bind_rows.specs.declared.names.Namespace.{Namespace}
use Rattle.bind_rows.specs.declared.names.Namespace.TheVariants as spaces
use Rattle.bind_rows.specs.declared.rows.Row.{Row}
use Rattle.bind_rows.specs.declared.rows.Step.{Step}
use Rattle.bind_table.specs.declared.lines.Line.{Line}
use Rattle.bind_table.specs.Lines.{Plan, Cell, nothing, a_line, flat, plan_of}
use Rattle.bind_table.specs.Laid.{is_writable, is_writable_plan, all_writable, is_declared, are_distinct, element_numbers, all_end_apart}
use Rattle.bind_rows.specs.Namespaces.{declarations_of, declared_by}
use Rattle.bind_meaning.specs.Trees as trees
use Rattle.bind_meaning.specs.Trees.{document_of}
use Rattle.bind_write.specs.declared.source.Source.{Source}
use Rattle.bind_write.specs.declared.roots.Root.{Root}
use Rattle.bind_write.specs.Sources.{Sees}
use Rattle.bind_write.specs.Holding.{HasRows, IsLineOf, IsPlanOf, standing, standing_by}
use Rattle.bind_write.specs.Cells.{currency_at, attribute_at, text_of, text_calls}
use Rattle.bind_write.specs.Walking.{plan_calls, cells_calls, start_calls, end_calls, name_bytes}
use Rattle.bind_write.specs.Roots.{Rooted, rooted_at, first_root, IsRoot, IsRootOrNone, declaration_call, declaration_calls, root_start, root_calls}
use Rattle.bind_write.specs.Documents.{declared_for, declarations_for, namespace_of}
use Rattle.bind_write.proofs.PlanLemmas.{table_rows}
use Rattle.bind_write.proofs.WalkLemmas.{cells-are, element_name_is, all_attributes, all_texts, text-inside, walk-calls, writable}

pub declarations-are : (root : Namespace) → map declaration_call (declared_by root) ≡ declaration_calls root
declarations-are spaces.UblInvoice = refl
declarations-are spaces.UblCreditNote = refl
declarations-are spaces.UblAggregate = refl
declarations-are spaces.UblBasic = refl
declarations-are spaces.CiiInvoice = refl
declarations-are spaces.CiiAggregate = refl
declarations-are spaces.CiiUnqualified = refl
declarations-are spaces.CiiQualified = refl

pub root-is : (rows : List Row) (es : List Entry) (line : Line) (inside : List Line) (cs : List Cell) (plan : Plan) (held : Bool) (c : Context) →
    IsLineOf rows line inside cs plan
    → root_start rows es line c ++ (plan_calls es plan held c ++ end_calls line.step) ≡ root_calls es line.step cs plan held c
root-is rows es line inside cs plan held c h =
    ap (λ x. (start_calls line.step ++ (declaration_calls line.step.name.namespace ++ x)) ++ (plan_calls es plan held c ++ end_calls line.step))
    (cells-are rows es line inside cs plan c h)

-- ---- where it stands

pub standing-seen : (here : Source) (rows : List Row) (es : List Entry) (c : Context) (s : Step) (cs : List Cell) (plan : Plan) (found : Option Bool) →
    Sees rows es c here
    → found ≡ standing here.entries.now s cs plan false here.context → found ≡ standing es s cs plan false c
standing-seen here rows es c s cs plan found h e = e ∙
    (ap (λ x. standing x s cs plan false here.context) h.entries_are ∙ ap (standing es s cs plan false) h.context_is)

pub root-some : (source : Source) (s : Step) (cs : List Cell) (plan : Plan) (found : Option Rooted) (rooted : Rooted) (root : Root) → found ≡ Some rooted →
    IsRoot source s cs plan rooted root
    → IsRootOrNone source s cs plan found (Some root)
root-some source s cs plan found rooted root e i = let P : Option Rooted → Type 0 = λ x. IsRootOrNone source s cs plan x (Some root) in subst P (sym e) i

pub root-none : (source : Source) (s : Step) (cs : List Cell) (plan : Plan) (found : Option Rooted) → found ≡ None → IsRootOrNone source s cs plan found None
root-none source s cs plan found e = let P : Option Rooted → Type 0 = λ x. IsRootOrNone source s cs plan x None in subst P (sym e) tt

pub found-here : (es : List Entry) (s : Step) (cs : List Cell) (plan : Plan) (all left more : List Context) (c : Context) (held : Bool) →
    first_root es s cs plan left ≡ first_root es s cs plan all → left ≡ c ∷ more
    → Some held ≡ standing es s cs plan false c → first_root es s cs plan all ≡ Some (record { context = c; held = held })
found-here es s cs plan all left more c held e n t = sym e ∙ (ap (first_root es s cs plan) n ∙ ap (λ x. rooted_at c x (first_root es s cs plan more)) (sym t))

pub found-later : (es : List Entry) (s : Step) (cs : List Cell) (plan : Plan) (all left more : List Context) (c : Context) →
    first_root es s cs plan left ≡ first_root es s cs plan all → left ≡ c ∷ more
    → None ≡ standing es s cs plan false c → first_root es s cs plan more ≡ first_root es s cs plan all
found-later es s cs plan all left more c e n t = ap (λ x. rooted_at c x (first_root es s cs plan more)) t ∙ (ap (first_root es s cs plan) (sym n) ∙ e)

-- ---- the document

-- a table with one root
pub record OneRoot (rows : List Row) : Type 0 where
  pub s : Step
  pub cs : List Cell
  pub inside : Plan
  pub plan_is : plan_of rows ≡ a_line s cs inside nothing
  pub writable : all_writable s.name.namespace (a_line s cs inside nothing) ≡ true

both : (a b : Bool) → (a && b) ≡ true → (a ≡ true) × (b ≡ true)
both true b e = (refl, e)
both false b e = cc

one_root-of : (rows : List Row) (plan : Plan) → plan_of rows ≡ plan → is_writable_plan plan ≡ true → OneRoot rows
one_root-of rows nothing p e = cc
one_root-of rows (a_line s cs inside (a_line t others within rest)) p e = cc
one_root-of rows (a_line s cs inside nothing) p e =
    let h = both (are_distinct (s.number ∷ element_numbers inside)) _ e in
    record { s = s; cs = cs; inside = inside; plan_is = p; writable = (both (all_end_apart (a_line s cs inside nothing)) _ h.1).1 }

pub one_root : (rows : List Row) → is_writable rows ≡ true → OneRoot rows
one_root rows e = one_root-of rows (plan_of rows) refl e

pub root_plan : (rows : List Row) (lines : List Line) (r : OneRoot rows) → lines ≡ flat (plan_of rows) → IsPlanOf rows lines (a_line r.s r.cs r.inside nothing)
root_plan rows lines r e = record { lines_are = e ∙ ap flat r.plan_is; cells_are = subst (HasRows rows) r.plan_is (table_rows rows) }

regrouped : (d a b t p : List Call) (e c : Call) → d ++ ((a ++ b) ++ ((t ++ p) ++ e ∷ c ∷ [])) ≡ ((d ++ (a ++ (b ++ t))) ++ (p ++ e ∷ [])) ++ c ∷ []
regrouped d a b t p e c = simp append_assoc

abbrev laid_out : List ℕ → List Call → List Call → List Call → List Call
laid_out name declarations attributes inside = call_start name ∷ (declarations ++ (attributes ++ (inside ++ call_end name ∷ call_close ∷ [])))

root-made : (es : List Entry) (s : Step) (cs : List Cell) (inside : Forest) (calls : List Call) (d : Context) (rest : Forest) →
    is_declared s.name.namespace s.name.namespace ≡ true
    → map encoded (calls_inside (declarations_of s.name.namespace) inside) ≡ calls
    → map encoded (calls_of (declarations_of s.name.namespace)
    (an_element (trees.name_of s.name) (trees.attributes es s cs d) (trees.with_text (trees.element_text es cs d) inside) rest))
    ≡ ((start_calls s ++ (declaration_calls s.name.namespace ++ cells_calls es s cs d)) ++ (calls ++ end_calls s)) ++ call_close ∷ []
root-made es s cs inside calls d rest e i =
    let ds = declarations_of s.name.namespace in
    let name = element_name ds (trees.name_of s.name) in
    let attributes = attribute_calls ds (trees.attributes es s cs d) in
    let within = calls_inside ds (trees.with_text (trees.element_text es cs d) inside) in
    let currencies = flat_map (λ (cell : Cell). currency_at es s d (Some cell.row)) cs in
    let others = flat_map (λ (cell : Cell). attribute_at es d (Some cell.row)) cs in
    let text = text_calls (flat_map (λ (cell : Cell). text_of es d (Some cell.row)) cs) in
    let ending : List Call = call_end name ∷ call_close ∷ [] in
    let apart : map encoded (declare_calls ds ++ (attributes ++ (within ++ ending))) ≡ declaration_calls s.name.namespace ++
    (map encoded attributes ++ (map encoded within ++ map encoded ending)) =
    map-append encoded (declare_calls ds) (attributes ++ (within ++ ending))
    ∙ ap (λ x. map encoded (declare_calls ds) ++ x) (map-append encoded attributes (within ++ ending) ∙
    ap (λ x. map encoded attributes ++ x) (map-append encoded within ending)) in
    let inner : map encoded within ≡ text ++ calls = text-inside ds (trees.element_text es cs d) inside ∙
    (ap (λ x. text_calls x ++ map encoded (calls_inside ds inside)) (all_texts es cs d) ∙ ap (λ x. text ++ x) i) in
    ap (λ x. call_start (encode_utf8_all name) ∷ x) apart
    ∙ (ap (λ x. laid_out (encode_utf8_all x) (declaration_calls s.name.namespace) (map encoded attributes) (map encoded within))
    (element_name_is s.name.namespace s e)
    ∙ (ap (λ x. laid_out (name_bytes s) (declaration_calls s.name.namespace) x (map encoded within)) (all_attributes ds es s cs d)
    ∙ (ap (λ x. laid_out (name_bytes s) (declaration_calls s.name.namespace) (currencies ++ others) x) inner
    ∙ ap (λ x. call_start (name_bytes s) ∷ x) (regrouped (declaration_calls s.name.namespace) currencies others text calls
    (call_end (name_bytes s)) call_close))))

-- Whether a line is written at the root.
record Stands (b constant own always : Bool) (found : Option Bool) : Type 0 where
  emitted : (held : Bool) → found ≡ Some held → (trees.either b (λ _. always || (false && (own || constant))) ≡ true) ×
      (trees.either b (λ _. false && constant) ≡ held)
  absent : found ≡ None → trees.either b (λ _. always || (false && (own || constant))) ≡ false

stands : (b constant own always : Bool) → Stands b constant own always (standing_by b constant own always false)
stands true constant own always = record { emitted = λ held e. (refl, (let x : true ≡ held = cc in x)); absent = λ e. cc }
stands false constant own true = record { emitted = λ held e. (refl, (let x : false ≡ held = cc in x)); absent = λ e. cc }
stands false constant own false = record { emitted = λ held e. cc; absent = λ e. refl }

module _ (es : List Entry) (s : Step) (cs : List Cell) (inside : Plan) (w : all_writable s.name.namespace (a_line s cs inside nothing) ≡ true) where
  abbrev emitted : Context → Bool
  emitted d = trees.is_emitted es s cs inside false d

  abbrev make : Context → Forest → Forest
  make d f = an_element (trees.name_of s.name) (trees.attributes es s cs d)
      (trees.with_text (trees.element_text es cs d) (trees.written_lines es inside (trees.holds_further es cs inside false d) d)) f

  at : (c : Context) → Stands (trees.line_holds es cs inside c) (trees.is_constant cs inside) (trees.has_constant cs) s.always (standing es s cs inside false c)
  at c = stands (trees.line_holds es cs inside c) (trees.is_constant cs inside) (trees.has_constant cs) s.always

  -- the elements of the root's line from a spot on, by what is found there
  found-first : (c : Context) (more : Forest) (found : Option Bool) (others : Option Rooted) (rooted : Rooted) → standing es s cs inside false c ≡ found
      → ((r : Rooted) → others ≡ Some r → map encoded (calls_of (declarations_of s.name.namespace) more) ≡ root_calls es s cs inside r.held r.context ++
      call_close ∷ [])
      → rooted_at c found others ≡ Some rooted
      → map encoded (calls_of (declarations_of s.name.namespace) (elim (emitted c) [ true ↦ make c more | false ↦ more ])) ≡ root_calls es s cs inside
      rooted.held rooted.context ++ call_close ∷ []
  found-first c more None others rooted e h r =
      ap (λ b. map encoded (calls_of (declarations_of s.name.namespace) (elim b [ true ↦ make c more | false ↦ more ]))) ((at c).absent e) ∙ h rooted r
  found-first c more (Some held) others rooted e h r =
      let i = (at c).emitted held e in
      let is : record { context = c; held = held } ≡ rooted = same_Some _ _ r in
      ap (λ b. map encoded (calls_of (declarations_of s.name.namespace) (elim b [ true ↦ make c more | false ↦ more ]))) i.0
      ∙ (root-made es s cs (trees.written_lines es inside (trees.holds_further es cs inside false c) c)
      (plan_calls es inside (trees.holds_further es cs inside false c) c) c more
      (writable s.name.namespace s cs inside nothing w).declared
      (walk-calls s.name.namespace es inside (trees.holds_further es cs inside false c) c (writable s.name.namespace s cs inside nothing w).inside_is)
      ∙ (ap (λ x. root_calls es s cs inside x c ++ call_close ∷ []) i.1 ∙
      ap (λ (x : Rooted). root_calls es s cs inside x.held x.context ++ call_close ∷ []) is))

  root-found : (spots : List Context) (rooted : Rooted) → first_root es s cs inside spots ≡ Some rooted
      → map encoded (calls_of (declarations_of s.name.namespace) (trees.elements emitted make spots no_more)) ≡ root_calls es s cs inside rooted.held
      rooted.context ++ call_close ∷ []
  root-found [] rooted e = cc
  root-found (c ∷ cs') rooted e = found-first c (trees.elements emitted make cs' no_more) (standing es s cs inside false c)
      (first_root es s cs inside cs') rooted refl (root-found cs') e

  none-first : (c : Context) (more : Forest) (found : Option Bool) (others : Option Rooted) → standing es s cs inside false c ≡ found →
      (others ≡ None → more ≡ no_more) → rooted_at c found others ≡ None
      → (elim (emitted c) [ true ↦ make c more | false ↦ more ]) ≡ no_more
  none-first c more None others e h r = ap (λ b. elim b [ true ↦ make c more | false ↦ more ]) ((at c).absent e) ∙ h r
  none-first c more (Some held) others e h r = cc

  no-root : (spots : List Context) → first_root es s cs inside spots ≡ None → trees.elements emitted make spots no_more ≡ no_more
  no-root [] e = refl
  no-root (c ∷ cs') e = none-first c (trees.elements emitted make cs' no_more) (standing es s cs inside false c) (first_root es s cs inside cs') refl
      (no-root cs') e

-- the calls of an invoice's document
pub document-calls : (rows : List Row) (es : List Entry) (r : OneRoot rows) (rooted : Rooted) →
    first_root es r.s r.cs r.inside (trees.spots es root_context r.s.group) ≡ Some rooted
    → map encoded (calls_of (declarations_for rows) (document_of rows es)) ≡ root_calls es r.s r.cs r.inside rooted.held rooted.context ++ call_close ∷ []
unfolding document_of
document-calls rows es r rooted e =
    ap (λ p. map encoded (calls_of (declared_for (namespace_of p)) (trees.written_lines es p false root_context))) r.plan_is
    ∙ root-found es r.s r.cs r.inside r.writable (trees.spots es root_context r.s.group) rooted e

pub no-document : (rows : List Row) (es : List Entry) (r : OneRoot rows) → first_root es r.s r.cs r.inside (trees.spots es root_context r.s.group) ≡ None →
    document_of rows es ≡ no_more
unfolding document_of
no-document rows es r e = ap (λ p. trees.written_lines es p false root_context) r.plan_is ∙
    no-root es r.s r.cs r.inside r.writable (trees.spots es root_context r.s.group) e
