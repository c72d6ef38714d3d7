-- Where the table of UBL's invoice writes lines, and what it writes of each: its number, net amount, quantity and price.
use Rattle.std.proofs.Common.{◌≡◌, ℕ, Bool, true, false, ◌||◌, List, [], ◌∷◌, ◌++◌, flat_map, Option, Some, None, refl, sym, ap, ◌∙◌, append-nil}
use Rattle.std.specs.Prelude.{codes, is_some, option_and_then}
use Rattle.std.specs.List.{list_any}
use Rattle.std.proofs.lemmas.Bool.{false≢true}
use Rattle.inv_base.specs.Tree.{Name}
use Rattle.term_table.specs.declared.groups.Group.TheVariants as groups
use Rattle.term_table.specs.declared.terms.Term.{Term}
use Rattle.term_table.specs.declared.contexts.Slot.{Slot}
use Rattle.term_table.specs.declared.contexts.Context.{Context}
use Rattle.inv_terms.specs.declared.values.Value.{Value}
use Rattle.inv_terms.specs.declared.entries.Entry.{Entry}
use Rattle.inv_terms.specs.Values.{spelled}
use Rattle.inv_terms.specs.Listing.{value_in}
use Rattle.bind_rows.specs.declared.rows.Row.{Row}
use Rattle.bind_rows.specs.declared.rows.Form.{Form}
use Rattle.bind_rows.specs.declared.rows.Form.TheVariants as forms
use Rattle.bind_rows.specs.declared.rows.Content.TheVariants as contents
use Rattle.bind_rows.specs.declared.rows.Written.TheVariants as written
use Rattle.bind_rows.specs.Added.{is_typed}
use Rattle.bind_table.specs.Lines.{Cell, Plan, nothing, plan_of}
use Rattle.ubl_binding.specs.Tables.{invoice_listing, invoice_rows}
use Rattle.bind_meaning.specs.Values.{form_for}
use Rattle.bind_meaning.specs.Writing.{slot_for, context_for, formed, if_due, filled, has_slots, of_form, value_for, term_text, row_text, writes_entry}
use Rattle.bind_meaning.specs.Trees.{cells_hold, is_at_element, constant_or_text, text_of_cell, element_text}
use Rattle.trial_laws.specs.Rules.{in_aggregate, in_basic, line_name}
use Rattle.trial_laws.proofs.Walks.{is_line, group_at, cells_at, inside_at, rest_at, is_so, skip, all_fine, fine_before, is_step, other_step}
use Rattle.trial_laws.proofs.Lines.{HasLine}

-- ---- a row that writes the value of a term in a line as it is spelled

pub record IsPlain (term : Term) (row : Row) : Type 0 where
  pub content : row.content ≡ contents.Term term
  pub form : form_for row.form term ≡ forms.Model
  pub always : row.written ≡ written.Always
  pub outer : row.outer ≡ Some groups.InvoiceLine
  pub inner : row.inner ≡ None

-- The first cell is of such a row, and the others are of attributes.
pub record TellsTerm (term : Term) (cells : List Cell) : Type 0 where
  pub cell : Cell
  pub others : List Cell
  pub is : cells ≡ cell ∷ others
  pub element : is_at_element cell ≡ true
  pub apart : list_any is_at_element others ≡ false
  pub plain : IsPlain term cell.row

abbrev at_slot : Slot → Context
at_slot slot = record { outer = Some slot; inner = None }

module _ (es : List Entry) (slot : Slot) (term : Term) (value : Value) (there : value_in es term (at_slot slot) ≡ Some value) where
  abbrev c : Context
  c = at_slot slot

  row-writes : (row : Row) → IsPlain term row → row_text row es c ≡ Some (spelled value)
  row-writes row plain =
      let here : context_for row c ≡ c = λ i. record { outer = slot_for (plain.outer i) (Some slot); inner = slot_for (plain.inner i) None } in
      let valued : value_for row es term c ≡ Some value = untyped (form_for row.form term) plain.form ∙ there in
      ap (λ content. elim content [ (contents.Term t) ↦ term_text row es t (context_for row c) | (contents.Constant text) ↦ None ]) plain.content
      ∙ (ap (term_text row es term) here
      ∙ (ap (λ (o : Option Value). elim o [ None ↦ filled row.written es c | Some v ↦ if_due row.written es term c (formed (form_for row.form term) es c v) ])
      valued
      ∙ λ i. if_due (plain.always i) es term c (formed (plain.form i) es c value)))
    where
      untyped : (f : Form) → f ≡ forms.Model → elim (is_typed f) [
        | true ↦ elim (has_slots row c) [ true ↦ option_and_then (of_form f) (value_in es term c) | false ↦ None ]
        | false ↦ value_in es term c
      ] ≡ value_in es term c
      untyped f h = ap (λ (g : Form). elim (is_typed g) [
        | true ↦ elim (has_slots row c) [ true ↦ option_and_then (of_form g) (value_in es term c) | false ↦ None ]
        | false ↦ value_in es term c
      ]) h

  row-told : (row : Row) → IsPlain term row → constant_or_text es c row ≡ Some (spelled value)
  row-told row plain = ap (λ content. elim content [ (contents.Constant text) ↦ Some text | (contents.Term t) ↦ row_text row es c ]) plain.content ∙
      row-writes row plain

  abbrev told : Option (List ℕ) → List ℕ
  told o = elim o [ None ↦ [] | Some text ↦ text ]

  first-false : (a b : Bool) → (a || b) ≡ false → (a ≡ false) × (b ≡ false)
  first-false true b h = absurd (false≢true (sym h))
  first-false false b h = (refl, h)

  silent : (others : List Cell) → list_any is_at_element others ≡ false → flat_map (text_of_cell es c) others ≡ []
  silent [] h = refl
  silent (cell ∷ others) h =
      let w = first-false (is_at_element cell) (list_any is_at_element others) h in
      λ i. elim (w.0 i) [ true ↦ told (constant_or_text es c cell.row) | false ↦ [] ] ++ silent others w.1 i

  pub tells-text : (cells : List Cell) → TellsTerm term cells → element_text es cells c ≡ spelled value
  tells-text cells tells =
      ap (λ (l : List Cell). element_text es l c) tells.is
      ∙ ((λ i. elim (tells.element i) [ true ↦ told (constant_or_text es c tells.cell.row) | false ↦ [] ] ++ silent tells.others tells.apart i)
      ∙ (append-nil (told (constant_or_text es c tells.cell.row)) ∙ ap told (row-told tells.cell.row tells.plain)))

  pub tells-hold : (cells : List Cell) → TellsTerm term cells → cells_hold es cells c ≡ true
  tells-hold cells tells =
      ap (λ (l : List Cell). cells_hold es l c) tells.is
      ∙ ap (λ (o : Option (List ℕ)). is_some o || list_any (λ (cell : Cell). writes_entry cell.row es c) tells.others) (row-writes tells.cell.row tells.plain)

-- ---- the table's lines

unfoldable pub invoice_plan : Plan
invoice_plan = plan_of invoice_rows

unfoldable pub line_plan : Plan
line_plan = skip (is_step line_name) (inside_at invoice_plan)

abbrev pub inside_line : Plan
inside_line = inside_at line_plan

pub has-line : HasLine line_name groups.InvoiceLine (plan_of invoice_rows)
unfolding invoice_listing invoice_rows
has-line = record {
  root = refl;
  once = refl;
  untold = refl;
  alone = refl;
  other = refl;
  before = refl;
  line = refl;
  named = refl;
  grouped = refl;
  lack = refl;
  behind = refl;
}

-- a line inside a line of the invoice: it stands once, the only one of its name
pub record StandsOnce (name : Name) (plan : Plan) : Type 0 where
  pub before : fine_before (is_step name) (other_step name) plan ≡ true
  pub line : is_line (skip (is_step name) plan) ≡ true
  pub named : is_so (is_step name) (skip (is_step name) plan) ≡ true
  pub once : group_at (skip (is_step name) plan) ≡ None
  pub behind : all_fine (other_step name) (rest_at (skip (is_step name) plan)) ≡ true

-- and has the value of a term
pub record IsLeafOf (name : Name) (term : Term) (plan : Plan) : Type 0 where
  pub stands : StandsOnce name plan
  pub leaf : inside_at (skip (is_step name) plan) ≡ nothing
  pub tells : TellsTerm term (cells_at (skip (is_step name) plan))

abbrev term_of : ℕ → Term
term_of number = record { number = number; part = 0 }

abbrev pub id_name : Name
id_name = in_basic (codes "ID")

abbrev pub net_name : Name
net_name = in_basic (codes "LineExtensionAmount")

abbrev pub quantity_name : Name
quantity_name = in_basic (codes "InvoicedQuantity")

abbrev pub price_name : Name
price_name = in_aggregate (codes "Price")

abbrev pub amount_name : Name
amount_name = in_basic (codes "PriceAmount")

pub id-leaf : IsLeafOf id_name (term_of 126) inside_line
unfolding invoice_listing invoice_rows invoice_plan line_plan
id-leaf = record {
  stands = record { before = refl; line = refl; named = refl; once = refl; behind = refl };
  leaf = refl;
  tells = record {
    cell = _;
    others = _;
    is = refl;
    element = refl;
    apart = refl;
    plain =
        record { content = refl; form = refl; always = refl; outer = refl; inner = refl };
  };
}

pub quantity-leaf : IsLeafOf quantity_name (term_of 129) inside_line
unfolding invoice_listing invoice_rows invoice_plan line_plan
quantity-leaf = record {
  stands = record { before = refl; line = refl; named = refl; once = refl; behind = refl };
  leaf = refl;
  tells = record {
    cell = _;
    others = _;
    is = refl;
    element = refl;
    apart = refl;
    plain =
        record { content = refl; form = refl; always = refl; outer = refl; inner = refl };
  };
}

pub net-leaf : IsLeafOf net_name (term_of 131) inside_line
unfolding invoice_listing invoice_rows invoice_plan line_plan
net-leaf = record {
  stands = record { before = refl; line = refl; named = refl; once = refl; behind = refl };
  leaf = refl;
  tells = record {
    cell = _;
    others = _;
    is = refl;
    element = refl;
    apart = refl;
    plain =
        record { content = refl; form = refl; always = refl; outer = refl; inner = refl };
  };
}

unfoldable pub price_plan : Plan
price_plan = inside_at (skip (is_step price_name) inside_line)

pub price-stands : StandsOnce price_name inside_line
unfolding invoice_listing invoice_rows invoice_plan line_plan
price-stands = record { before = refl; line = refl; named = refl; once = refl; behind = refl }

pub price-untold : cells_at (skip (is_step price_name) inside_line) ≡ []
unfolding invoice_listing invoice_rows invoice_plan line_plan
price-untold = refl

pub amount-leaf : IsLeafOf amount_name (term_of 146) price_plan
unfolding invoice_listing invoice_rows invoice_plan line_plan price_plan
amount-leaf = record {
  stands = record { before = refl; line = refl; named = refl; once = refl; behind = refl };
  leaf = refl;
  tells = record {
    cell = _;
    others = _;
    is = refl;
    element = refl;
    apart = refl;
    plain =
        record { content = refl; form = refl; always = refl; outer = refl; inner = refl };
  };
}

-- the first lines inside a line and inside its price are those of its number and of the amount
pub id-first : skip (is_step id_name) inside_line ≡ inside_line
unfolding invoice_listing invoice_rows invoice_plan line_plan
id-first = refl

pub amount-first : skip (is_step amount_name) price_plan ≡ price_plan
unfolding invoice_listing invoice_rows invoice_plan line_plan price_plan
amount-first = refl

pub line-untold : cells_at line_plan ≡ []
unfolding invoice_listing invoice_rows invoice_plan line_plan
line-untold = refl
