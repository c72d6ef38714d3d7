-- Which tables write each invoice as the tree of its leaves: a test of the rows by themselves, and one of where constants stand. All of it computes.
use Rattle.std.specs.Prelude.{Bool, true, false, not, ◌&&◌, ◌||◌, List, ◌++◌, is_none, is_some}
use Rattle.std.specs.List.{list_any, list_all}
use Rattle.std.specs.Cmp.Lexicographic.{pointwise}
use Rattle.term_table.specs.declared.terms.Term.{Term}
use Rattle.term_table.specs.Groups.{same_group}
use Rattle.bind_rows.specs.declared.rows.Content.TheVariants as contents
use Rattle.bind_rows.specs.declared.rows.Repeats.{Repeats}
use Rattle.bind_rows.specs.declared.rows.Repeats.TheVariants as repeat
use Rattle.bind_rows.specs.declared.rows.Written.{Written}
use Rattle.bind_rows.specs.declared.rows.Written.TheVariants as written
use Rattle.bind_rows.specs.declared.rows.Step.{Step}
use Rattle.bind_rows.specs.declared.rows.Row.{Row}
use Rattle.bind_table.specs.Lines.{Cell, Plan, nothing, a_line, plan_of}
use Rattle.bind_meaning.specs.Picks.{has_any_term}
use Rattle.bind_meaning.specs.Trees.{has_terms, has_constant, is_at_element}
use Rattle.binding_laws.specs.Plain.{groups_of, listed, is_kept_apart, stands_nowhere_else}

-- ---- constants

abbrev pub is_constant_element : Cell → Bool
is_constant_element cell = not (has_any_term cell.row) && is_at_element cell

abbrev pub is_constant_attribute : Cell → Bool
is_constant_attribute cell = not (has_any_term cell.row) && not (is_at_element cell)

abbrev pub have_terms : List Cell → Bool
have_terms cells = list_any (λ (cell : Cell). has_any_term cell.row) cells

-- Constants don't stand in an element that is always written, nor as the text of the root. Where one is an attribute of an element that has a term
-- at it or in it, the element has no group, and all terms around it are in it: `beside` says that there are others.
abbrev pub line_fits : Bool → Bool → Step → List Cell → Plan → Bool
line_fits top beside s cells inside =
    not (has_constant cells)
    || (not s.always
    && (not (top && list_any is_constant_element cells)
    && (not (list_any is_constant_attribute cells && (have_terms cells || has_terms inside)) || (top || (not beside && is_none s.group)))))

abbrev pub constants_fit : Bool → Bool → Plan → Bool
constants_fit top beside nothing = true
constants_fit top beside (a_line s cells inside rest) =
    line_fits top (beside || has_terms rest) s cells inside
    && (constants_fit false (have_terms cells) inside && constants_fit top (beside || (have_terms cells || has_terms inside)) rest)

-- ---- rows with a term

abbrev pub is_spread : Repeats → Bool
is_spread repeat.Spread = true
is_spread repeat.Once = false
is_spread repeat.Agreeing = false

-- The row is one of the invoice itself, spread over all elements that its path goes through.
abbrev pub is_spread_over : Row → Bool
is_spread_over row = is_spread row.repeats && (is_none row.outer && is_none row.inner)

-- The term beside which a placeholder stands has no other of the contexts that the row's path may have.
abbrev pub is_placeholder_kept : Row → Written → Bool
is_placeholder_kept row written.Always = true
is_placeholder_kept row written.Never = true
is_placeholder_kept row written.IfIban = true
is_placeholder_kept row written.IfNotIban = true
is_placeholder_kept row written.IfScheme = true
is_placeholder_kept row written.IfNoScheme = true
is_placeholder_kept row (written.OrPlaceholder placeholder) = stands_nowhere_else placeholder.beside row.outer row.inner
is_placeholder_kept row written.VatTotal = true
is_placeholder_kept row written.AccountingVatTotal = true

-- Its path goes through one element for each group of its context and through no other group, and its term has no other of the contexts of such a
-- path.
abbrev pub is_own_way : Row → Term → Bool
is_own_way row term =
    pointwise same_group (groups_of row.path) (listed row.outer ++ listed row.inner)
    && ((is_some row.outer || is_none row.inner) && (is_kept_apart row term && is_placeholder_kept row row.written))

abbrev pub row_fits : Row → Bool
row_fits row = elim row.content [ (contents.Term term) ↦ is_spread_over row || is_own_way row term | (contents.Constant text) ↦ true ]

-- ---- tables

abbrev pub is_addressed : List Row → Bool
is_addressed rows = list_all row_fits rows && constants_fit true false (plan_of rows)
