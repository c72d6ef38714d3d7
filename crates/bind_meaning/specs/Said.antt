-- Which elements and attributes of a document a binding table takes a value from, or would write by itself: those that are *said*
-- (CEN/TS 16931-3-2 and 16931-3-3). What of a document's table isn't said is in no invoice that is read from it.
use Rattle.std.specs.Prelude.{ℕ, Bool, true, false, ◌&&◌, ◌||◌, ◌==◌, List, [], ◌∷◌, ◌++◌, filter, flat_map, map, Option, Some, None, codes}
use Rattle.std.specs.List.{list_any}
use Rattle.std.specs.Str.{bytes_eq}
use Rattle.inv_base.specs.Tree.{Node, is_among}
use Rattle.term_table.specs.declared.terms.DataType.TheVariants as data_types
use Rattle.term_table.specs.declared.terms.Term.{Term}
use Rattle.inv_terms.specs.Values.{trimmed}
use Rattle.bind_rows.specs.declared.guards.Guard.{Guard}
use Rattle.bind_rows.specs.declared.guards.Test.{Test}
use Rattle.bind_rows.specs.declared.guards.Test.TheVariants as tests
use Rattle.bind_rows.specs.declared.names.Leaf.TheVariants as leaves
use Rattle.bind_rows.specs.declared.rows.Content.{Content}
use Rattle.bind_rows.specs.declared.rows.Content.TheVariants as contents
use Rattle.bind_rows.specs.declared.rows.Form.{Form}
use Rattle.bind_rows.specs.declared.rows.Form.TheVariants as forms
use Rattle.bind_rows.specs.declared.rows.Row.{Row}
use Rattle.bind_rows.specs.declared.rows.Step.{Step}
use Rattle.bind_meaning.specs.Currencies.{currency_id}
use Rattle.bind_meaning.specs.Elements.{attributes_named, is_one_of, leaves_at, string_at}
use Rattle.bind_meaning.specs.Picks.{Pick, all_picked, has_any_term, has_term, last_of, rows_where, term_in, ways}
use Rattle.bind_meaning.specs.Values.{form_for, type_of}

-- ---- the values of terms

-- What rows with a term pick. The rules on placeholders and currencies don't matter: a placeholder is said as one, and of the two rows of
-- a VAT total one picks it.
abbrev pub term_picks : List Node → List Row → List Pick
term_picks nodes rows = all_picked nodes (rows_where has_any_term rows)

abbrev pub is_picked : List Pick → ℕ → Bool
is_picked picks n = list_any (λ (pick : Pick). pick.node == n) picks

-- ---- constants

-- The nodes that a row reaches: those whose path of names is the row's and at whose elements the guards hold, blank ones too.
abbrev pub reached : List Node → Row → List ℕ
reached nodes row = flat_map (λ way. leaves_at nodes row.leaf (last_of way)) (ways nodes row.path 0)

-- the strings that say a constant: its text, for a truth value its digit too, and for the tax scheme `TAX` the other one that
-- stands for a number which isn't one of VAT
abbrev pub other_words : List ℕ → List (List ℕ)
other_words text = elim (bytes_eq text (codes "false")) [
  | true ↦ codes "0" ∷ []
  | false ↦ elim (bytes_eq text (codes "true")) [
    | true ↦ codes "1" ∷ []
    | false ↦ elim (bytes_eq text (codes "TAX")) [ true ↦ codes "FC" ∷ [] | false ↦ [] ]
  ]
]

abbrev pub words : List ℕ → List (List ℕ)
words text = text ∷ other_words text

abbrev pub constant_in : Content → Option (List ℕ)
constant_in (contents.Term term) = None
constant_in (contents.Constant text) = Some text

-- The node is one that the row reaches, and says the row's constant.
abbrev pub says_constant : List Node → ℕ → Row → Bool
says_constant nodes n row = elim (constant_in row.content) [
  | None ↦ false
  | Some text ↦ is_one_of (words text) (trimmed (string_at nodes n)) && is_among n (reached nodes row)
]

-- ---- the scheme of a creditor's identifier (BT-90), which is read at two places and written at one: the row of its constant at the
-- place where it isn't written

abbrev pub creditor : Term
creditor = record { number = 90; part = 0 }

abbrev pub sepa : List ℕ
sepa = codes "SEPA"

abbrev pub asks_for_sepa : Guard → Bool
asks_for_sepa guard = elim guard.test [
  | (tests.OneOf texts) ↦ is_one_of texts sepa
  | (tests.NoneOf texts) ↦ false
  | tests.Present ↦ false
  | tests.Absent ↦ false
]

abbrev pub is_under_sepa : Row → Bool
is_under_sepa row = list_any (λ (step : Step). list_any asks_for_sepa step.guards) row.path

abbrev pub scheme_row : Row → Row
scheme_row row = record {
  path = row.path;
  leaf = leaves.Attribute (codes "schemeID");
  outer = row.outer;
  inner = row.inner;
  content = contents.Constant sepa;
  form = row.form;
  repeats = row.repeats;
  written = row.written;
  check = row.check;
}

abbrev pub scheme_rows : List Row → List Row
scheme_rows rows = map scheme_row (filter (λ (row : Row). has_term creditor row && is_under_sepa row) rows)

abbrev pub is_constant : List Node → List Row → ℕ → Bool
is_constant nodes rows n = list_any (says_constant nodes n) (rows ++ scheme_rows rows)

-- ---- attributes that are judged with the value of their element

-- The row's term is an amount.
abbrev pub is_of_amount : Row → Bool
is_of_amount row = elim (term_in row.content) [
  | None ↦ false
  | Some term ↦ elim (type_of (form_for row.form term) term) [ Some data_types.A ↦ true | _ ↦ false ]
]

-- The row is one of a date without dashes that a user added.
abbrev pub is_of_added_date : Row → Bool
is_of_added_date row = elim row.form [ forms.TypedPlainDate ↦ true | _ ↦ false ]

-- It is the currency of an amount.
abbrev pub is_currency : List Node → List Pick → ℕ → Bool
is_currency nodes picks n =
    list_any (λ (pick : Pick). is_of_amount pick.row && is_among n (attributes_named nodes currency_id pick.node)) picks

-- It is the format of a date that a user added, and the one that such a date has (UN/CEFACT, 102).
abbrev pub is_format : List Node → List Pick → ℕ → Bool
is_format nodes picks n = bytes_eq (trimmed (string_at nodes n)) (codes "102")
    && list_any (λ (pick : Pick). is_of_added_date pick.row && is_among n (attributes_named nodes (codes "format") pick.node)) picks

-- ---- all of these

abbrev pub is_said_by : List Node → List Row → List Pick → ℕ → Bool
is_said_by nodes rows picks n =
    is_picked picks n || (is_constant nodes rows n || (is_currency nodes picks n || is_format nodes picks n))

unfoldable pub is_said : List Node → List Row → ℕ → Bool
is_said nodes rows n = is_said_by nodes rows (term_picks nodes rows) n

-- of each node, in document order
abbrev pub said_nodes : List Node → List Row → List Bool
said_nodes nodes rows = map (λ (node : Node). is_said nodes rows node.number) nodes
