-- Plain rows of a table: rows that write each value of a term whole, in an element of its own, in a context of their own.
use Rattle.std.specs.Prelude.{◌≡◌, ℕ, Bool, true, false, not, ◌&&◌, ◌||◌, List, [], ◌∷◌, ◌++◌, length, filter, map, Option, Some, None, is_some, is_none}
use Rattle.std.specs.List.{list_all, list_any}
use Rattle.std.specs.Str.{bytes_eq}
use Rattle.std.specs.Cmp.Lexicographic.{pointwise}
use Rattle.term_table.specs.declared.groups.Group.{Group}
use Rattle.term_table.specs.declared.terms.Term.{Term}
use Rattle.term_table.specs.declared.terms.TermRow.{TermRow}
use Rattle.term_table.specs.declared.contexts.Context.{Context}
use Rattle.term_table.specs.Contexts.{slot_group, same_groups, stands_in}
use Rattle.term_table.specs.Groups.{same_group}
use Rattle.term_table.specs.SemanticModel.{same_term, listing_rows}
use Rattle.inv_terms.specs.declared.entries.Entry.{Entry}
use Rattle.inv_terms.specs.Listing.{value_in}
use Rattle.bind_rows.specs.declared.names.Leaf.{Leaf}
use Rattle.bind_rows.specs.declared.names.Leaf.TheVariants as leaves
use Rattle.bind_rows.specs.declared.rows.Step.{Step}
use Rattle.bind_rows.specs.declared.rows.Row.{Row}
use Rattle.bind_rows.specs.declared.rows.Content.{Content}
use Rattle.bind_rows.specs.declared.rows.Content.TheVariants as contents
use Rattle.bind_rows.specs.declared.rows.Form.{Form}
use Rattle.bind_rows.specs.declared.rows.Form.TheVariants as forms
use Rattle.bind_rows.specs.declared.rows.Written.{Written}
use Rattle.bind_rows.specs.declared.rows.Written.TheVariants as written
use Rattle.bind_rows.specs.Same.{same_step, same_or_none}
use Rattle.bind_rows.specs.Added.{is_typed}
use Rattle.bind_table.specs.Lines.{Cell, Plan, nothing, a_line, plan_of}
use Rattle.bind_meaning.specs.Values.{form_for}
use Rattle.bind_meaning.specs.Writing.{writes_entry}
use Rattle.bind_meaning.specs.Currencies.{currency_id}
use Rattle.bind_meaning.specs.Trees.{is_at_element}
use Rattle.bind_meaning.specs.Picks.{has_any_term}
use Rattle.binding_laws.specs.Apart.{is_at_attribute, Known, unknown, is_apart, stands_apart}

-- the rows of a sort at the line of a path
abbrev pub rows_at : (Cell → Bool) → Plan → List Step → List Row
rows_at is_so nothing path = []
rows_at is_so (a_line t cells inside rest) [] = []
rows_at is_so (a_line t cells inside rest) (s ∷ path) = elim (same_step s t) [
  | true ↦ elim path [ [] ↦ map (λ (cell : Cell). cell.row) (filter is_so cells) | (u ∷ further) ↦ rows_at is_so inside (u ∷ further) ]
  | false ↦ rows_at is_so rest (s ∷ path)
]

-- the groups whose elements a path goes through
abbrev pub groups_of : List Step → List Group
groups_of [] = []
groups_of (s ∷ path) = elim s.group [ None ↦ groups_of path | Some group ↦ group ∷ groups_of path ]

abbrev pub listed : Option Group → List Group
listed None = []
listed (Some group) = group ∷ []

-- Wherever the term stands, it stands in these groups. One that a table adds may stand in lines and in the invoice itself.
abbrev pub stands_there : Term → Option Group → Option Group → Bool
stands_there term outer inner = list_all (λ (r : TermRow). not (same_term r.term term) || stands_in r.group outer inner) listing_rows

-- The group's terms stand in none of the other contexts that a path through elements of these groups may have.
abbrev pub is_beyond : Group → Option Group → Option Group → Bool
is_beyond group outer inner = not (stands_in group None None || (stands_in group outer None || stands_in group inner None))

-- Where the term stands in a context of such a path, it stands in these groups.
abbrev pub stands_nowhere_else : Term → Option Group → Option Group → Bool
stands_nowhere_else term outer inner = list_all (λ (r : TermRow). not (same_term r.term term) ||
    (stands_in r.group outer inner || is_beyond r.group outer inner)) listing_rows

-- A value is written whole, as the model spells it or, for a day, without dashes.
abbrev pub is_whole : Form → Bool
is_whole forms.Model = true
is_whole forms.PlainDate = true
is_whole forms.DueDateTypeCode = false
is_whole forms.CodedNote = false
is_whole (forms.Typed data_type) = true
is_whole forms.TypedPlainDate = true

-- Whether it is written hangs on the value and on its scheme alone: nothing stands in its place, and no currency tells it
-- from another.
abbrev pub is_by_value : Written → Bool
is_by_value written.Always = true
is_by_value written.Never = true
is_by_value written.IfIban = true
is_by_value written.IfNotIban = true
is_by_value written.IfScheme = true
is_by_value written.IfNoScheme = true
is_by_value (written.OrPlaceholder placeholder) = false
is_by_value written.VatTotal = false
is_by_value written.AccountingVatTotal = false

-- The row writes the term in no other context that its path may have: the term stands in none, or a user added the row.
abbrev pub is_kept_apart : Row → Term → Bool
is_kept_apart row term = is_typed (form_for row.form term) || stands_nowhere_else term row.outer row.inner

-- It is a plain row of the term, but for whether its path stands apart, and for its form.
pub record IsPlainThere (rows : List Row) (row : Row) (term : Term) : Type 0 where
  -- no other row ends at its element
  pub own : rows_at is_at_element (plan_of rows) row.path ≡ row ∷ []
  pub leaf : row.leaf ≡ leaves.Element
  -- it writes the term's value or nothing
  pub content : row.content ≡ contents.Term term
  pub by_value : is_by_value row.written ≡ true
  -- its path goes through one element for each group of its context, and the term stands in no context around it, unless
  -- a user added the row, which then writes nothing there
  pub through : groups_of row.path ≡ listed row.outer ++ listed row.inner
  pub nested : (is_some row.outer || is_none row.inner) ≡ true
  pub context : is_kept_apart row term ≡ true

-- It is a plain row of the term.
pub record IsPlain (rows : List Row) (row : Row) (term : Term) : Type 0 where
  pub apart : stands_apart rows row.path ≡ true
  -- it writes the value whole
  pub form : is_whole (form_for row.form term) ≡ true
  pub there : IsPlainThere rows row term

-- The context is one of the row.
abbrev pub is_in_groups : Row → Context → Bool
is_in_groups row c = same_groups (slot_group c.outer) row.outer && same_groups (slot_group c.inner) row.inner

-- The row writes the term's value in the context.
abbrev pub is_written_by : Row → Term → List Entry → Context → Bool
is_written_by row term es c = is_in_groups row c && (is_some (value_in es term c) && writes_entry row es c)

-- ---- the same as a test that computes, for the rows of a table

abbrev pub is_one : List Row → Bool
is_one [] = false
is_one (row ∷ []) = true
is_one (row ∷ (other ∷ rows)) = false

abbrev pub is_element : Leaf → Bool
is_element leaves.Element = true
is_element (leaves.Attribute local) = false

abbrev pub has_content : Term → Content → Bool
has_content term (contents.Term other) = same_term other term
has_content term (contents.Constant text) = false

abbrev pub is_always : Written → Bool
is_always written.Always = true
is_always _ = false

abbrev pub is_plain_there : Plan → Row → Term → Bool
is_plain_there plan row term =
    is_one (rows_at is_at_element plan row.path)
    && (is_element row.leaf
    && (has_content term row.content
    && (is_by_value row.written
    && (pointwise same_group (groups_of row.path) (listed row.outer ++ listed row.inner) &&
    ((is_some row.outer || is_none row.inner) && is_kept_apart row term)))))

-- by what is known of the invoice
abbrev pub is_plain_with : Known → Plan → Row → Term → Bool
is_plain_with known plan row term = is_apart known plan row.path && (is_whole (form_for row.form term) && is_plain_there plan row term)

abbrev pub is_plain_in : Plan → Row → Term → Bool
is_plain_in plan row term = is_plain_with unknown plan row term

-- It is a plain row of the term, if it is one of these rows.
abbrev pub is_plain : List Row → Row → Term → Bool
is_plain rows row term = is_plain_in (plan_of rows) row term

-- how many rows with a term a table has, and how many of them are plain
abbrev pub is_plain_by : Plan → Row → Bool
is_plain_by plan row = elim row.content [ (contents.Term term) ↦ is_plain_in plan row term | (contents.Constant text) ↦ false ]

abbrev pub count_plain : List Row → ℕ
count_plain rows = length (filter (is_plain_by (plan_of rows)) rows)

abbrev pub count_terms : List Row → ℕ
count_terms rows = length (filter has_any_term rows)

-- A value of one term of the model is written: whole, or as another list spells its code.
abbrev pub is_of_one_term : Form → Bool
is_of_one_term forms.Model = true
is_of_one_term forms.PlainDate = true
is_of_one_term forms.DueDateTypeCode = true
is_of_one_term forms.CodedNote = false
is_of_one_term (forms.Typed data_type) = false
is_of_one_term forms.TypedPlainDate = false

-- It is a plain row of the term at an attribute of the element that a plain row of another term writes, but for whether
-- their path stands apart.
pub record IsPlainAttributeThere (rows : List Row) (row : Row) (term : Term) (main : Row) (main_term : Term) : Type 0 where
  pub beside : IsPlainThere rows main main_term
  pub main_form : is_whole (form_for main.form main_term) ≡ true
  pub path : row.path ≡ main.path
  pub outer : row.outer ≡ main.outer
  pub inner : row.inner ≡ main.inner
  -- the attribute isn't that of a currency, and no other row ends at it
  pub local : List ℕ
  pub leaf : row.leaf ≡ leaves.Attribute local
  pub other : bytes_eq local currency_id ≡ false
  pub own : rows_at (is_at_attribute local) (plan_of rows) main.path ≡ row ∷ []
  -- it always writes the term's value, whole
  pub content : row.content ≡ contents.Term term
  pub form : is_whole (form_for row.form term) ≡ true
  pub one_term : is_of_one_term (form_for row.form term) ≡ true
  pub written : row.written ≡ written.Always

-- It is a plain row of the term at an attribute of the element that a plain row of another term writes.
pub record IsPlainAttribute (rows : List Row) (row : Row) (term : Term) (main : Row) (main_term : Term) : Type 0 where
  pub apart : stands_apart rows main.path ≡ true
  pub there : IsPlainAttributeThere rows row term main main_term

-- ---- rows of the whole invoice, written in each of the elements that their paths go through

-- It is a spread row of the term by what is known of the invoice: the term stands in the invoice itself, whatever groups the
-- path goes through.
pub record IsSpreadWith (known : Known) (rows : List Row) (row : Row) (term : Term) : Type 0 where
  -- its path stands apart, and no other row ends at its element
  pub apart : is_apart known (plan_of rows) row.path ≡ true
  pub own : rows_at is_at_element (plan_of rows) row.path ≡ row ∷ []
  pub leaf : row.leaf ≡ leaves.Element
  -- it writes the term's value or nothing
  pub content : row.content ≡ contents.Term term
  pub form : is_of_one_term (form_for row.form term) ≡ true
  pub by_value : is_by_value row.written ≡ true
  -- it is a row of the invoice, and the term stands there
  pub outer : row.outer ≡ None
  pub inner : row.inner ≡ None
  pub context : stands_there term None None ≡ true

abbrev pub IsSpread : List Row → Row → Term → Type 0
IsSpread rows row term = IsSpreadWith unknown rows row term

-- by what is known of the invoice
abbrev pub is_spread_with : Known → Plan → Row → Term → Bool
is_spread_with known plan row term =
    is_apart known plan row.path
    && (is_one (rows_at is_at_element plan row.path)
    && (is_element row.leaf
    && (has_content term row.content && (is_of_one_term (form_for row.form term) &&
    (is_by_value row.written && (is_none row.outer && (is_none row.inner && stands_there term None None)))))))

abbrev pub is_spread_in : Plan → Row → Term → Bool
is_spread_in plan row term = is_spread_with unknown plan row term

-- It is a spread row of the term, if it is one of these rows.
abbrev pub is_spread : List Row → Row → Term → Bool
is_spread rows row term = is_spread_in (plan_of rows) row term

abbrev pub is_spread_by : Plan → Row → Bool
is_spread_by plan row = elim row.content [ (contents.Term term) ↦ is_spread_in plan row term | (contents.Constant text) ↦ false ]

-- ---- the same as a test that computes, for rows at attributes

abbrev pub is_part_named : Plan → Row → Leaf → Bool
is_part_named plan main leaves.Element = false
is_part_named plan main (leaves.Attribute local) = not (bytes_eq local currency_id) && is_one (rows_at (is_at_attribute local) plan main.path)

-- by what is known of the invoice
abbrev pub is_plain_attribute_with : Known → Plan → Row → Term → Row → Term → Bool
is_plain_attribute_with known plan row term main main_term =
    pointwise same_step row.path main.path
    && (is_plain_with known plan main main_term
    && (same_or_none row.outer main.outer
    && (same_or_none row.inner main.inner
    && (is_part_named plan main row.leaf
    && (has_content term row.content && (is_whole (form_for row.form term) && (is_of_one_term (form_for row.form term) && is_always row.written)))))))

abbrev pub is_plain_attribute_in : Plan → Row → Term → Row → Term → Bool
is_plain_attribute_in plan row term main main_term = is_plain_attribute_with unknown plan row term main main_term

-- It is a plain row at an attribute, if both are rows of these.
abbrev pub is_plain_attribute : List Row → Row → Term → Row → Term → Bool
is_plain_attribute rows row term main main_term = is_plain_attribute_in (plan_of rows) row term main main_term

-- how many rows of a table are plain at an attribute
abbrev pub is_plain_beside : Plan → Row → Row → Bool
is_plain_beside plan row main = elim row.content [
  | (contents.Term term) ↦ elim main.content [
    | (contents.Term main_term) ↦ is_plain_attribute_in plan row term main main_term
    | (contents.Constant text) ↦ false
  ]
  | (contents.Constant text) ↦ false
]

abbrev pub count_attributes : List Row → ℕ
count_attributes rows = length (filter (λ row. list_any (is_plain_beside (plan_of rows) row) rows) rows)

-- ---- rows at attributes of elements in which a value of the whole invoice is written

-- It is a spread row of the term at an attribute of the element that a spread row of another term writes.
pub record IsSpreadAttribute (rows : List Row) (row : Row) (term : Term) (main : Row) (main_term : Term) : Type 0 where
  pub beside : IsSpread rows main main_term
  pub main_form : is_whole (form_for main.form main_term) ≡ true
  pub path : row.path ≡ main.path
  pub outer : row.outer ≡ None
  pub inner : row.inner ≡ None
  -- the attribute isn't that of a currency, and no other row ends at it
  pub local : List ℕ
  pub leaf : row.leaf ≡ leaves.Attribute local
  pub other : bytes_eq local currency_id ≡ false
  pub own : rows_at (is_at_attribute local) (plan_of rows) main.path ≡ row ∷ []
  -- it always writes the term's value, whole
  pub content : row.content ≡ contents.Term term
  pub form : is_whole (form_for row.form term) ≡ true
  pub one_term : is_of_one_term (form_for row.form term) ≡ true
  pub written : row.written ≡ written.Always

abbrev pub is_spread_attribute_in : Plan → Row → Term → Row → Term → Bool
is_spread_attribute_in plan row term main main_term =
    pointwise same_step row.path main.path
    && (is_spread_in plan main main_term
    && (is_whole (form_for main.form main_term)
    && (is_none row.outer
    && (is_none row.inner
    && (is_part_named plan main row.leaf
    && (has_content term row.content && (is_whole (form_for row.form term) && (is_of_one_term (form_for row.form term) && is_always row.written))))))))

-- It is one, if both are rows of these.
abbrev pub is_spread_attribute : List Row → Row → Term → Row → Term → Bool
is_spread_attribute rows row term main main_term = is_spread_attribute_in (plan_of rows) row term main main_term

abbrev pub is_spread_beside : Plan → Row → Row → Bool
is_spread_beside plan row main = elim row.content [
  | (contents.Term term) ↦ elim main.content [
    | (contents.Term main_term) ↦ is_spread_attribute_in plan row term main main_term
    | (contents.Constant text) ↦ false
  ]
  | (contents.Constant text) ↦ false
]
