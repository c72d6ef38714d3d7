-- Where on the page each term stands: in the invoice itself, or in occurrences of which groups.
use Rattle.std.specs.Prelude.{ℕ, Bool, true, false, ◌&&◌, List, [], ◌∷◌, ◌++◌, filter, flat_map, length, map, nat_eq, Option, Some, None}
use Rattle.std.specs.List.{list_all}
use Rattle.term_table.specs.declared.groups.Group.{Group}
use Rattle.term_table.specs.declared.terms.Term.{Term}
use Rattle.term_table.specs.declared.terms.TermRow.{TermRow}
use Rattle.term_table.specs.Contexts.{outer_group, inner_group, same_groups}
use Rattle.term_table.specs.SemanticModel.{same_term, terms}
use Rattle.page_tables.specs.declared.forms.Form.{Form}
use Rattle.page_tables.specs.declared.forms.Form.TheVariants as forms
use Rattle.page_tables.specs.Tables.{Part, Item, Cell, Row, Section, Table, facts, parties, lines, extras, vat, totals, rest}

-- a term in occurrences of the outer group, if there is one, and of the inner group inside it
pub record Standing : Type 0 where
  pub outer : Option Group
  pub inner : Option Group
  pub term : Term

abbrev pub standing : Option Group → Option Group → Term → Standing
standing outer inner term = record { outer = outer; inner = inner; term = term }

abbrev pub in_form : Option Group → Option Group → Form → List Standing
in_form outer inner forms.Row = []
in_form outer inner (forms.RowOf term) = standing outer inner term ∷ []
in_form outer inner forms.Paragraph = []
in_form outer inner forms.Added = []

abbrev pub in_parts : Option Group → Option Group → List Part → List Standing
in_parts outer inner parts = map (λ (part : Part). standing outer inner part.1) parts

abbrev pub in_groups : Option Group → Option Group → Item → List Standing
in_groups outer inner item = in_form outer inner item.1 ++ in_parts outer inner item.3

-- in an item of the invoice itself, or of an occurrence of a group
abbrev pub in_item : Option Group → Item → List Standing
in_item None item = in_groups item.0 None item
in_item (Some outer) item = in_groups (Some outer) item.0 item

abbrev pub in_layout : Option Group → List Item → List Standing
in_layout outer items = flat_map (in_item outer) items

abbrev pub in_section : Section → List Standing
in_section section = in_layout None section.2

abbrev pub in_cell : Group → Cell → List Standing
in_cell group cell = in_parts (Some group) None cell.3 ++ in_layout (Some group) cell.4

abbrev pub in_row : Row → List Standing
in_row row = flat_map (in_cell row.0) row.1

abbrev pub in_table : Table → List Standing
in_table table = flat_map in_row table.3

-- the invoice's number, in the head
abbrev pub in_head : List Standing
in_head = standing None None (record { number = 1; part = 0 }) ∷ []

-- all of them
abbrev pub standings : List Standing
standings =
    in_head ++ (in_section facts ++ (flat_map in_section parties ++ (in_table lines ++ (in_table extras ++ (in_table vat ++ (in_section totals ++
    flat_map in_section rest))))))

abbrev pub is_at : Option Group → Option Group → Term → Standing → Bool
is_at outer inner term s = same_term s.term term && (same_groups s.outer outer && same_groups s.inner inner)

-- The term stands there once.
abbrev pub once : Option Group → Option Group → Term → Bool
once outer inner term = nat_eq (length (filter (is_at outer inner term) standings)) 1

-- Each term of the semantic model stands once on the page in occurrences of each groups in which it may stand.
abbrev pub all_stand_once : Bool
all_stand_once = list_all (λ (row : TermRow). once (outer_group row.group) (inner_group row.group) row.term) terms
