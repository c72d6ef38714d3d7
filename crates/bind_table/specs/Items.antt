-- What the pieces of a table mean that is listed in the code, and the rows that they make, one piece after the other.
use Rattle.std.specs.Prelude.{ℕ, ◌+◌, ◌-◌, ◌^◌, nat_lt, Bool, true, ◌&&◌, List, [], ◌∷◌, ◌++◌, length, take, map, flat_map, Option, Some, None}
use Rattle.std.specs.Borrow.{Bor}
use Rattle.std.specs.Str.{chars}
use Rattle.term_table.specs.declared.terms.Term.{Term}
use Rattle.bind_rows.specs.declared.names.ElementName.{ElementName}
use Rattle.bind_rows.specs.declared.names.Leaf.{Leaf}
use Rattle.bind_rows.specs.declared.names.Leaf.TheVariants as leaves
use Rattle.bind_rows.specs.declared.guards.Guard.{Guard}
use Rattle.bind_rows.specs.declared.guards.Test.{Test}
use Rattle.bind_rows.specs.declared.guards.Test.TheVariants as tests
use Rattle.bind_rows.specs.declared.rows.Check.{Check}
use Rattle.bind_rows.specs.declared.rows.Check.TheVariants as checks
use Rattle.bind_rows.specs.declared.rows.Content.{Content}
use Rattle.bind_rows.specs.declared.rows.Content.TheVariants as contents
use Rattle.bind_rows.specs.declared.rows.Form.{Form}
use Rattle.bind_rows.specs.declared.rows.Form.TheVariants as forms
use Rattle.bind_rows.specs.declared.rows.Repeats.{Repeats}
use Rattle.bind_rows.specs.declared.rows.Repeats.TheVariants as repeat
use Rattle.bind_rows.specs.declared.rows.Row.{Row}
use Rattle.bind_rows.specs.declared.rows.Step.{Step}
use Rattle.bind_rows.specs.declared.rows.Written.{Written}
use Rattle.bind_rows.specs.declared.rows.Written.TheVariants as written
use Rattle.bind_table.specs.declared.cells.Cell.{Cell}
use Rattle.bind_table.specs.declared.cells.Cell.TheVariants as cells
use Rattle.bind_table.specs.declared.conditions.Asked.{Asked}
use Rattle.bind_table.specs.declared.conditions.Asked.TheVariants as asks
use Rattle.bind_table.specs.declared.conditions.Condition.{Condition}
use Rattle.bind_table.specs.declared.conditions.Tag.{Tag}
use Rattle.bind_table.specs.declared.items.Head.{Head}
use Rattle.bind_table.specs.declared.items.TableItem.{TableItem}
use Rattle.bind_table.specs.declared.items.TableItem.TheVariants as items
use Rattle.bind_table.specs.declared.listing.Seat.{Seat}

-- ---- cells

abbrev pub bt : ℕ → Term
bt number = record { number = number; part = 0 }

abbrev pub content_of : Cell → Content
content_of (cells.Bt number) = contents.Term (bt number)
content_of (cells.Part number part) = contents.Term (record { number = number; part = part })
content_of (cells.Constant text) = contents.Constant (chars text.now)
content_of (cells.PlainDate number) = contents.Term (bt number)
content_of (cells.Spread number) = contents.Term (bt number)
content_of (cells.SpreadPlainDate number) = contents.Term (bt number)
content_of (cells.SpreadDueDateTypeCode number) = contents.Term (bt number)
content_of (cells.Agreeing number) = contents.Term (bt number)
content_of (cells.AgreeingUnwritten number) = contents.Term (bt number)
content_of (cells.CodedNote number) = contents.Term (bt number)
content_of (cells.Filled number text beside) = contents.Term (bt number)
content_of (cells.Iban number) = contents.Term (bt number)
content_of (cells.OtherAccount number) = contents.Term (bt number)
content_of (cells.Unschemed number) = contents.Term (bt number)
content_of (cells.Schemed number) = contents.Term (bt number)
content_of (cells.AlwaysSchemed number) = contents.Term (bt number)
content_of (cells.VatTotal number) = contents.Term (bt number)
content_of (cells.AccountingVatTotal number) = contents.Term (bt number)
content_of (cells.Indicator text amount) = contents.Constant (chars text.now)

abbrev pub form_of : Cell → Form
form_of (cells.PlainDate number) = forms.PlainDate
form_of (cells.SpreadPlainDate number) = forms.PlainDate
form_of (cells.SpreadDueDateTypeCode number) = forms.DueDateTypeCode
form_of (cells.CodedNote number) = forms.CodedNote
form_of _ = forms.Model

abbrev pub repeats_of : Cell → Repeats
repeats_of (cells.Spread number) = repeat.Spread
repeats_of (cells.SpreadPlainDate number) = repeat.Spread
repeats_of (cells.SpreadDueDateTypeCode number) = repeat.Spread
repeats_of (cells.Agreeing number) = repeat.Agreeing
repeats_of (cells.AgreeingUnwritten number) = repeat.Agreeing
repeats_of _ = repeat.Once

abbrev pub written_of : Cell → Written
written_of (cells.AgreeingUnwritten number) = written.Never
written_of (cells.Filled number text beside) = written.OrPlaceholder (record { text = chars text.now; beside = bt beside })
written_of (cells.Iban number) = written.IfIban
written_of (cells.OtherAccount number) = written.IfNotIban
written_of (cells.Unschemed number) = written.IfNoScheme
written_of (cells.Schemed number) = written.IfScheme
written_of (cells.VatTotal number) = written.VatTotal
written_of (cells.AccountingVatTotal number) = written.AccountingVatTotal
written_of _ = written.Always

abbrev pub check_of : Cell → Check
check_of (cells.PlainDate number) = checks.Format
check_of (cells.SpreadPlainDate number) = checks.Format
check_of (cells.Schemed number) = checks.Scheme
check_of (cells.AlwaysSchemed number) = checks.Scheme
check_of (cells.Indicator text amount) = checks.Indicator (bt amount)
check_of _ = checks.Nothing

-- ---- elements and their conditions

abbrev pub name_of : Tag → ElementName
name_of tag = record { namespace = tag.namespace; local = chars tag.local.now }

abbrev pub text_of : Bor (List ℕ) → List ℕ
text_of text = chars text.now

abbrev pub attribute_leaf : List ℕ → Leaf
attribute_leaf name = leaves.Attribute name

abbrev pub leaf_of : Option (Bor (List ℕ)) → Leaf
leaf_of None = leaves.Element
leaf_of (Some name) = attribute_leaf (chars name.now)

abbrev pub test_of : Asked → Test
test_of (asks.OneOf words) = tests.OneOf (map text_of words.now)
test_of (asks.NoneOf words) = tests.NoneOf (map text_of words.now)
test_of asks.Present = tests.Present
test_of asks.Absent = tests.Absent

abbrev pub guard_of : Condition → Guard
guard_of condition = record { place = record { path = map name_of condition.path.now; leaf = leaf_of condition.attribute }; test = test_of condition.asked }

abbrev pub step_of : Head → ℕ → Step
step_of head number = record { name = name_of head.tag; number = number; always = head.always; group = head.group; guards = map guard_of head.conditions.now }

-- ---- contexts

-- the context inside one more element
abbrev pub inside : Seat → Step → Seat
inside seat step = elim step.group [
  | None ↦ seat
  | Some group ↦ elim seat.outer [ None ↦ record { outer = Some group; inner = None } | Some outer ↦ record { outer = Some outer; inner = Some group } ]
]

-- the context around one of its occurrences
abbrev pub around : Seat → Seat
around seat = elim seat.inner [ None ↦ record { outer = None; inner = None } | Some inner ↦ record { outer = seat.outer; inner = None } ]

abbrev pub inside_all : Seat → List Step → Seat
inside_all seat [] = seat
inside_all seat (step ∷ steps) = inside_all (inside seat step) steps

abbrev pub seat_in : List Step → Seat
seat_in path = inside_all (record { outer = None; inner = None }) path

abbrev pub seat_of : List Step → Repeats → Seat
seat_of path repeat.Spread = around (seat_in path)
seat_of path repeat.Once = seat_in path
seat_of path repeat.Agreeing = seat_in path

-- ---- rows

abbrev pub row_of : List Step → Leaf → Cell → Row
row_of path leaf cell =
    let seat = seat_of path (repeats_of cell) in
    record {
      path = path;
      leaf = leaf;
      outer = seat.outer;
      inner = seat.inner;
      content = content_of cell;
      form = form_of cell;
      repeats = repeats_of cell;
      written = written_of cell;
      check = check_of cell;
    }

-- ---- a table

-- What has been made of a table: its rows so far, the elements that haven't ended, and the number of the next element.
pub record Made : Type 0 where
  pub rows : List Row
  pub path : List Step
  pub next : ℕ

abbrev pub with_row : Leaf → Cell → Made → Made
with_row leaf cell made = record { rows = made.rows ++ row_of made.path leaf cell ∷ []; path = made.path; next = made.next }

abbrev pub begun : Head → Made → Made
begun head made = record { rows = made.rows; path = made.path ++ step_of head made.next ∷ []; next = made.next + 1 }

abbrev pub ended : Made → Made
ended made = record { rows = made.rows; path = take (length made.path - 1) made.path; next = made.next }

abbrev pub made_by : TableItem → Made → Made
made_by (items.Element head) made = begun head made
made_by (items.Text cell) made = with_row leaves.Element cell made
made_by (items.Attribute name cell) made = with_row (attribute_leaf (chars name.now)) cell made
made_by items.End made = ended made

abbrev pub made_by_all : List TableItem → Made → Made
made_by_all [] made = made
made_by_all (item ∷ rest) made = made_by_all rest (made_by item made)

-- the items of several lists, one behind the other
abbrev pub joined : List (Bor (List TableItem)) → List TableItem
joined sections = flat_map (λ (section : Bor (List TableItem)). section.now) sections

-- the rows of a table that is listed so. Elements are numbered from 1
abbrev pub rows_of : List TableItem → List Row
rows_of listed = (made_by_all listed (record { rows = []; path = []; next = 1 })).rows

-- Texts, attributes and ends stand inside an element. As many elements haven't ended before the first item as the
-- number says.
abbrev pub is_nested : ℕ → List TableItem → Bool
is_nested depth [] = true
is_nested depth (items.Element head ∷ rest) = is_nested (depth + 1) rest
is_nested depth (items.Text cell ∷ rest) = nat_lt 0 depth && is_nested depth rest
is_nested depth (items.Attribute name cell ∷ rest) = nat_lt 0 depth && is_nested depth rest
is_nested depth (items.End ∷ rest) = nat_lt 0 depth && is_nested (depth - 1) rest

-- a table that can be made
abbrev pub is_table : List TableItem → Bool
is_table listed = nat_lt (length listed) (2 ^ 31 - 1) && is_nested 0 listed
