-- The root of an invoice's document: where some line holds an entry, the document is that one element. So it is where a
-- term stands that a row outside all groups always writes.
use Rattle.std.proofs.Common.{◌≡◌, ℕ, zero, suc, ◌<◌, Bool, true, false, ◌&&◌, ◌||◌, List, [], ◌∷◌, length, Contains, slice_index_or, Option, Some, None}
use Rattle.std.proofs.Common.{is_some, is_none, option_map, option_and_then, find, refl, ap, sym, ◌∙◌, arith, if◌then◌else◌, inl, lit<}
use Rattle.std.specs.Prelude.{◌==◌, not}
use Rattle.std.specs.List.{list_any}
use Rattle.std.proofs.lemmas.Bool.{false≢true}
use Rattle.std.proofs.lemmas.Bool.Decides.{nat_tests}
use Rattle.inv_base.specs.Tree.{Forest, no_more, an_element}
use Rattle.code_lists.specs.CodeFiles.{Lists}
use Rattle.term_table.specs.declared.groups.Group.{Group}
use Rattle.term_table.specs.declared.groups.Group.TheVariants as groups
use Rattle.term_table.specs.declared.terms.DataType.TheVariants as data_types
use Rattle.term_table.specs.declared.terms.Mark.TheVariants as marks
use Rattle.term_table.specs.declared.terms.Term.{Term}
use Rattle.term_table.specs.declared.terms.TermRow.{TermRow}
use Rattle.term_table.specs.declared.contexts.Context.{Context}
use Rattle.term_table.specs.Contexts.{root_context}
use Rattle.term_table.specs.Groups.{parent_of, occurrence_of}
use Rattle.term_table.specs.SemanticModel.{same_term, terms}
use Rattle.inv_terms.specs.declared.values.Value.{Value}
use Rattle.inv_terms.specs.declared.entries.Entry.{Entry}
use Rattle.inv_terms.specs.Listing.{is_at, value_in}
use Rattle.inv_terms.specs.Whole.{invoice, Stands, IsValid}
use Rattle.bind_rows.specs.declared.rows.Content.{Content}
use Rattle.bind_rows.specs.declared.rows.Content.TheVariants as contents
use Rattle.bind_rows.specs.declared.rows.Row.{Row}
use Rattle.bind_rows.specs.declared.rows.Step.{Step}
use Rattle.bind_rows.specs.declared.rows.Written.{Written}
use Rattle.bind_rows.specs.declared.rows.Written.TheVariants as written
use Rattle.bind_rows.specs.Added.{is_typed}
use Rattle.bind_table.specs.Lines.{Cell, Plan, nothing, a_line}
use Rattle.bind_meaning.specs.Values.{form_for}
use Rattle.bind_meaning.specs.Picks.{term_in, has_term}
use Rattle.bind_meaning.specs.Writing.{slot_for, context_for, formed, if_due, filled, has_slots, of_form, value_for, term_text, writes_entry}
use Rattle.bind_meaning.specs.Trees.{spots, either, cells_hold, holds, name_of, attributes, element_text, with_text, line_holds, is_due, is_emitted}
use Rattle.bind_meaning.specs.Trees.{holds_further, elements, written_lines}
use Rattle.written_laws.specs.Readable.{is_one_root, is_always, always_writes, shows, invoice_number}
use Rattle.written_laws.proofs.ListLemmas.{both, and-true, or-left, or-right}

-- ---- the root

pub record HasRoot (plan : Plan) : Type 0 where
  pub step : Step
  pub cells : List Cell
  pub inside : Plan
  pub is : plan ≡ a_line step cells inside nothing
  pub once : step.group ≡ None

none-there : (o : Option Group) → is_none o ≡ true → o ≡ None
none-there None h = refl
none-there (Some g) h = absurd (false≢true h)

pub one-root : (plan : Plan) → is_one_root plan ≡ true → HasRoot plan
one-root nothing h = absurd (false≢true h)
one-root (a_line s cells inside nothing) h = record { step = s; cells = cells; inside = inside; is = refl; once = none-there s.group h }
one-root (a_line s cells inside (a_line t others inside' rest)) h = absurd (false≢true h)

module _ (es : List Entry) where
  alone-holds : (b : Bool) → either (b || false) (λ _. false) ≡ true → b ≡ true
  alone-holds true h = refl
  alone-holds false h = h

  root-holds : (s : Step) (cells : List Cell) (inside : Plan) → s.group ≡ None → holds es (a_line s cells inside nothing) root_context ≡ true →
      line_holds es cells inside root_context ≡ true
  root-holds s cells inside e h =
      alone-holds (line_holds es cells inside root_context)
      (sym (ap (λ g. either (list_any (λ d. either (cells_hold es cells d) (λ _. holds es inside d)) (spots es root_context g)) (λ _. false)) e) ∙ h)

  -- the document is the root, with what is inside it
  pub root-written : (s : Step) (cells : List Cell) (inside : Plan) → s.group ≡ None → holds es (a_line s cells inside nothing) root_context ≡ true
      → written_lines es (a_line s cells inside nothing) false root_context
      ≡ an_element (name_of s.name) (attributes es s cells root_context)
      (with_text (element_text es cells root_context) (written_lines es inside (holds_further es cells inside false root_context) root_context)) no_more
  root-written s cells inside e h =
      let make : Context → Forest → Forest = λ d. an_element (name_of s.name) (attributes es s cells d)
      (with_text (element_text es cells d) (written_lines es inside (holds_further es cells inside false d) d)) in
      let there : is_emitted es s cells inside false root_context ≡ true =
      ap (λ b. either b (λ _. s.always || is_due false cells inside)) (root-holds s cells inside e h) in
      ap (λ g. elements (is_emitted es s cells inside false) make (spots es root_context g) no_more) e
      ∙ ap (λ b. elim b [ true ↦ make root_context no_more | false ↦ no_more ]) there

-- ---- a term that stands

number-is : (m n : ℕ) → (m == n) ≡ true → m ≡ n
number-is m n h = grind (arith, nat_tests)

number-itself : (n : ℕ) → (n == n) ≡ true
number-itself n = grind (arith, nat_tests)

pub term-is : (a b : Term) → same_term a b ≡ true → a ≡ b
term-is a b h =
    let w = both (a.number == b.number) (a.part == b.part) h in
    let p = number-is a.number b.number w.0 in
    let q = number-is a.part b.part w.1 in
    λ i. record { number = p i; part = q i }

always-due : (es : List Entry) (rule : Written) (term : Term) (c : Context) (text : List ℕ) → is_always rule ≡ true →
    is_some (if_due rule es term c text) ≡ true
always-due es written.Always term c text h = refl
always-due es written.Never term c text h = absurd (false≢true h)
always-due es written.IfIban term c text h = absurd (false≢true h)
always-due es written.IfNotIban term c text h = absurd (false≢true h)
always-due es written.IfScheme term c text h = absurd (false≢true h)
always-due es written.IfNoScheme term c text h = absurd (false≢true h)
always-due es (written.OrPlaceholder placeholder) term c text h = absurd (false≢true h)
always-due es written.VatTotal term c text h = absurd (false≢true h)
always-due es written.AccountingVatTotal term c text h = absurd (false≢true h)

not-so : (b : Bool) → not b ≡ true → b ≡ false
not-so true h = absurd (false≢true h)
not-so false h = refl

no-slot : (row : Row) → context_for row root_context ≡ root_context
no-slot row = λ i. record { outer = without row.outer i; inner = without row.inner i }
  where
    without : (g : Option Group) → slot_for g None ≡ None
    without None = refl
    without (Some group) = refl

module _ (es : List Entry) (term : Term) (stands : is_some (value_in es term root_context) ≡ true) where
  -- the row takes what stands
  value-taken : (row : Row) → is_typed (form_for row.form term) ≡ false → is_some (value_for row es term root_context) ≡ true
  value-taken row h =
      ap (λ b. is_some (elim b [
        | true ↦ elim (has_slots row root_context) [
          | true ↦ option_and_then (of_form (form_for row.form term))
              (value_in es term root_context)
          | false ↦ None
        ]
        | false ↦ value_in es term root_context
      ])) h
      ∙ stands

  text-there : (row : Row) → is_always row.written ≡ true → is_typed (form_for row.form term) ≡ false → is_some (term_text row es term root_context) ≡ true
  text-there row h f = go (value_for row es term root_context) (value-taken row f)
    where
      go : (o : Option Value) → is_some o ≡ true
          → is_some (elim o [
            | None ↦ filled row.written es root_context
            | Some value ↦ if_due row.written es term root_context (formed (form_for row.form term) es root_context value)
          ])
          ≡ true
      go None k = absurd (false≢true k)
      go (Some value) k = always-due es row.written term root_context (formed (form_for row.form term) es root_context value) h

  row-there : (row : Row) → is_always row.written ≡ true → has_term term row ≡ true → is_typed (form_for row.form term) ≡ false →
      writes_entry row es root_context ≡ true
  row-there row h k f = go row.content k
    where
      go : (content : Content) → (elim (term_in content) [ None ↦ false | Some t ↦ same_term t term ]) ≡ true
          → is_some (elim content [ (contents.Term t) ↦ term_text row es t (context_for row root_context) | (contents.Constant text) ↦ None ]) ≡ true
      go (contents.Term t) l =
          ap (λ x. is_some (term_text row es x (context_for row root_context))) (term-is t term l)
          ∙ (ap (λ c. is_some (term_text row es term c)) (no-slot row) ∙ text-there row h f)
      go (contents.Constant text) l = absurd (false≢true l)

  cells-there : (cells : List Cell) → list_any (always_writes term) cells ≡ true → cells_hold es cells root_context ≡ true
  cells-there [] h = h
  cells-there (cell ∷ cells) h = go (always_writes term cell) refl h (cells-there cells)
    where
      go : (b : Bool) → always_writes term cell ≡ b → (b || list_any (always_writes term) cells) ≡ true →
          (list_any (always_writes term) cells ≡ true → cells_hold es cells root_context ≡ true)
          → (writes_entry cell.row es root_context || cells_hold es cells root_context) ≡ true
      go true e k f =
          let typed = is_typed (form_for cell.row.form term) in
          let w = both (is_always cell.row.written) (has_term term cell.row && not typed) e in
          let v = both (has_term term cell.row) (not typed) w.1 in
          or-left (writes_entry cell.row es root_context) (cells_hold es cells root_context) (row-there cell.row w.0 v.0 (not-so typed v.1))
      go false e k f = or-right (writes_entry cell.row es root_context) (cells_hold es cells root_context) (f k)

  either-left : (a : Bool) (b : Unit {0} → Bool) → a ≡ true → either a b ≡ true
  either-left a b h = ap (λ t. either t b) h

  either-right : (a : Bool) (b : Unit {0} → Bool) → b tt ≡ true → either a b ≡ true
  either-right true b h = refl
  either-right false b h = h

  -- some line holds an entry
  pub lines-hold : (plan : Plan) → shows term plan ≡ true → holds es plan root_context ≡ true
  lines-hold nothing h = h
  lines-hold (a_line s cells inside rest) h =
      go (is_none s.group && (list_any (always_writes term) cells || shows term inside)) refl h (lines-hold inside) (lines-hold rest)
    where
      here : (b : Bool) → list_any (always_writes term) cells ≡ b → (b || shows term inside) ≡ true →
          (shows term inside ≡ true → holds es inside root_context ≡ true) → line_holds es cells inside root_context ≡ true
      here true e k f = either-left (cells_hold es cells root_context) (λ _. holds es inside root_context) (cells-there cells e)
      here false e k f = either-right (cells_hold es cells root_context) (λ _. holds es inside root_context) (f k)

      go : (b : Bool) → (is_none s.group && (list_any (always_writes term) cells || shows term inside)) ≡ b → (b || shows term rest) ≡ true
          → (shows term inside ≡ true → holds es inside root_context ≡ true) → (shows term rest ≡ true → holds es rest root_context ≡ true)
          → either (list_any (λ d. either (cells_hold es cells d) (λ _. holds es inside d)) (spots es root_context s.group))
          (λ _. holds es rest root_context) ≡ true
      go true e k f g =
          let w = both (is_none s.group) (list_any (always_writes term) cells || shows term inside) e in
          let l = here (list_any (always_writes term) cells) refl w.1 f in
          either-left (list_any (λ d. either (cells_hold es cells d) (λ _. holds es inside d)) (spots es root_context s.group))
          (λ _. holds es rest root_context)
          (ap (λ o. list_any (λ d. either (cells_hold es cells d) (λ _. holds es inside d)) (spots es root_context o)) (none-there s.group w.0)
          ∙ or-left (line_holds es cells inside root_context) false l)
      go false e k f g =
          either-right (list_any (λ d. either (cells_hold es cells d) (λ _. holds es inside d)) (spots es root_context s.group))
          (λ _. holds es rest root_context) (g k)

-- ---- the number of an invoice stands in a valid one

abbrev pub first_row : TermRow
first_row = record { term = invoice_number; group = groups.Root; data_type = data_types.I; mark = marks.One; list = None }

is-row : Contains terms first_row
unfolding terms
is-row = (0, lit< tt, refl)

is-found : (term : Term) (e : Entry) → e.term ≡ term → e.context ≡ root_context → is_at term root_context e ≡ true
is-found term e h k = go
  where
    same : same_term term term ≡ true
    same = and-true (term.number == term.number) (term.part == term.part) (number-itself term.number) (number-itself term.part)

    go : is_at term root_context e ≡ true
    go = ap (λ x. is_at term root_context (record e { term = x })) h ∙
        (ap (λ x. is_at term root_context (record { context = x; term = term; value = e.value })) k ∙ and-true (same_term term term) true same refl)

value-there : (es : List Entry) (term : Term) (e : Entry) → e.term ≡ term → e.context ≡ root_context → (k : ℕ) → k < length es → slice_index_or es k e ≡ e →
    is_some (value_in es term root_context) ≡ true
value-there [] term e h c k l is = absurd (omega arith)
value-there (x ∷ es) term e h c zero l is =
    ap (λ b. is_some (option_map (λ (e : Entry). e.value) (if b then Some x else find (is_at term root_context) es)))
    (is-found term x (ap (λ (y : Entry). y.term) is ∙ h) (ap (λ (y : Entry). y.context) is ∙ c))
value-there (x ∷ es) term e h c (suc k) l is = go (is_at term root_context x) (value-there es term e h c k (omega arith) is)
  where
    go : (b : Bool) → is_some (value_in es term root_context) ≡ true →
        is_some (option_map (λ (e : Entry). e.value) (if b then Some x else find (is_at term root_context) es)) ≡ true
    go true m = refl
    go false m = m

pub number-stands : (es : List Entry) (lists : Lists) → IsValid es lists → is_some (value_in es invoice_number root_context) ≡ true
unfolding parent_of occurrence_of
number-stands es lists valid =
    let w : Stands es root_context invoice_number = (valid.whole root_context (inl refl)).mandatory first_row is-row refl (inl (refl, invoice)) in
    value-there es invoice_number w.entry w.term_is w.context_is w.member.0 w.member.1 w.member.2
