-- Small tables and invoices, on which addresses are tried.
use Rattle.std.specs.Prelude.{ℕ, Bool, true, false, List, [], ◌∷◌, Option, Some, None, codes}
use Rattle.term_table.specs.declared.groups.Group.{Group}
use Rattle.term_table.specs.declared.groups.Group.TheVariants as groups
use Rattle.term_table.specs.declared.contexts.Context.{Context}
use Rattle.term_table.specs.Contexts.{root_context}
use Rattle.inv_terms.specs.declared.values.Value.TheVariants as values
use Rattle.inv_terms.specs.declared.entries.Entry.{Entry}
use Rattle.bind_rows.specs.declared.names.Namespace.TheVariants as spaces
use Rattle.bind_rows.specs.declared.names.Leaf.{Leaf as End}
use Rattle.bind_rows.specs.declared.names.Leaf.TheVariants as leaves
use Rattle.bind_rows.specs.declared.rows.Step.{Step}
use Rattle.bind_rows.specs.declared.rows.Row.{Row}
use Rattle.bind_rows.specs.declared.rows.Content.{Content}
use Rattle.bind_rows.specs.declared.rows.Content.TheVariants as contents
use Rattle.bind_rows.specs.declared.rows.Form.TheVariants as forms
use Rattle.bind_rows.specs.declared.rows.Repeats.{Repeats}
use Rattle.bind_rows.specs.declared.rows.Repeats.TheVariants as repeat
use Rattle.bind_rows.specs.declared.rows.Written.TheVariants as written
use Rattle.bind_rows.specs.declared.rows.Check.TheVariants as checks

-- ---- elements

abbrev pub a_step : ℕ → List ℕ → Bool → Option Group → Step
a_step number local always group = record {
  name = record { namespace = spaces.UblInvoice; local = local };
  number = number;
  always = always;
  group = group;
  guards = [];
}

abbrev pub plain : ℕ → List ℕ → Step
plain number local = a_step number local false None

abbrev pub repeated : ℕ → List ℕ → Group → Step
repeated number local group = a_step number local false (Some group)

abbrev pub the_root : Step
the_root = plain 1 (codes "Invoice")

abbrev pub a_line : Step
a_line = repeated 7 (codes "Line") groups.InvoiceLine

abbrev pub a_charge : Step
a_charge = repeated 9 (codes "Charge") groups.LineCharge

abbrev pub a_tax : Step
a_tax = repeated 4 (codes "Tax") groups.VatBreakdown

-- ---- rows

abbrev pub bt : ℕ → Content
bt number = contents.Term (record { number = number; part = 0 })

abbrev pub a_row : List Step → End → Option Group → Option Group → Content → Repeats → Row
a_row path leaf outer inner content repeats =
    record {
      path = path;
      leaf = leaf;
      outer = outer;
      inner = inner;
      content = content;
      form = forms.Model;
      repeats = repeats;
      written = written.Always;
      check =
          checks.Nothing;
    }

-- ---- entries

abbrev pub outer_at : Group → ℕ → Context
outer_at group k = record { outer = Some (record { group = group; index = k }); inner = None }

abbrev pub inner_at : Group → ℕ → Group → ℕ → Context
inner_at group k other j = record { outer = Some (record { group = group; index = k }); inner = Some (record { group = other; index = j }) }

abbrev pub an_entry : Context → ℕ → List ℕ → Entry
an_entry context number text = record { context = context; term = record { number = number; part = 0 }; value = values.Text text }

-- ---- a table with a group inside another one, a spread term, constants and an element that is always written

abbrev pub a_table : List Row
a_table =
    a_row (the_root ∷ plain 2 (codes "ID") ∷ []) leaves.Element None None (bt 1) repeat.Once
    ∷ a_row (the_root ∷ a_tax ∷ plain 5 (codes "Date") ∷ []) leaves.Element None None (bt 7) repeat.Spread
    ∷ a_row (the_root ∷ a_tax ∷ plain 6 (codes "Rate") ∷ []) leaves.Element (Some groups.VatBreakdown) None (bt 119) repeat.Once
    ∷ a_row (the_root ∷ a_line ∷ a_charge ∷ plain 11 (codes "Reason") ∷ []) leaves.Element (Some groups.InvoiceLine) (Some groups.LineCharge)
    (bt 144) repeat.Once
    ∷ a_row (the_root ∷ a_line ∷ a_charge ∷ plain 10 (codes "Indicator") ∷ []) leaves.Element (Some groups.InvoiceLine) (Some groups.LineCharge)
    (contents.Constant (codes "true")) repeat.Once
    ∷ a_row (the_root ∷ a_line ∷ plain 8 (codes "ID") ∷ []) leaves.Element (Some groups.InvoiceLine) None (bt 126) repeat.Once
    ∷ a_row (the_root ∷ a_step 3 (codes "Trade") true None ∷ plain 12 (codes "Agent") ∷ []) (leaves.Attribute (codes "kind")) None None
    (contents.Constant (codes "A")) repeat.Once
    ∷ a_row (the_root ∷ a_step 3 (codes "Trade") true None ∷ plain 12 (codes "Agent") ∷ []) leaves.Element None None (bt 2) repeat.Once ∷ []

abbrev pub an_invoice : List Entry
an_invoice =
    an_entry root_context 1 (codes "A") ∷ an_entry root_context 7 (codes "day") ∷ an_entry (outer_at groups.VatBreakdown 1) 119 (codes "20") ∷ an_entry
    (outer_at groups.VatBreakdown 2) 119 (codes "7")
    ∷ an_entry (outer_at groups.InvoiceLine 1) 126 (codes "l1") ∷ an_entry (inner_at groups.InvoiceLine 1 groups.LineCharge 1) 144 (codes "why")
    ∷ an_entry (inner_at groups.InvoiceLine 1 groups.LineCharge 2) 144 (codes "so") ∷ an_entry (outer_at groups.InvoiceLine 2) 126 (codes "l2") ∷ []

-- ---- a row of the invoice itself that goes through the elements of a group, without being spread over them

abbrev pub a_row_through_a_group : Repeats → List Row
a_row_through_a_group repeats =
    a_row (the_root ∷ a_tax ∷ plain 5 (codes "Date") ∷ []) leaves.Element None None (bt 7) repeats
    ∷ a_row (the_root ∷ a_tax ∷ plain 6 (codes "Rate") ∷ []) leaves.Element (Some groups.VatBreakdown) None (bt 119) repeat.Once ∷ []

abbrev pub two_rates : List Entry
two_rates = an_entry root_context 7 (codes "day") ∷ an_entry (outer_at groups.VatBreakdown 1) 119 (codes "20") ∷ an_entry (outer_at groups.VatBreakdown 2) 119
    (codes "7") ∷ []

-- ---- a constant attribute of an element with a term in it, beside which another term stands

abbrev pub a_constant_attribute : List Row
a_constant_attribute =
    a_row (the_root ∷ plain 2 (codes "ID") ∷ []) leaves.Element None None (bt 1) repeat.Once
    ∷ a_row (the_root ∷ plain 3 (codes "Agent") ∷ []) (leaves.Attribute (codes "kind")) None None (contents.Constant (codes "A")) repeat.Once
    ∷ a_row (the_root ∷ plain 3 (codes "Agent") ∷ plain 4 (codes "Name") ∷ []) leaves.Element None None (bt 2) repeat.Once ∷ []

abbrev pub an_identifier : List Entry
an_identifier = an_entry root_context 1 (codes "A") ∷ []
