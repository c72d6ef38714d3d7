-- Which tables are laid, so that invoices can be written by them: each number is one element of the table, one element
-- is the root, no two rows end at one place, and the names can be written.
use Rattle.std.specs.Prelude.{ℕ, ◌==◌, Bool, true, false, not, ◌&&◌, ◌||◌, List, [], ◌∷◌, ◌++◌, codes, bytes_eq}
use Rattle.std.specs.List.{list_any, list_all}
use Rattle.inv_base.specs.Characters.{is_name_start, is_name_char}
use Rattle.bind_rows.specs.declared.names.Namespace.{Namespace}
use Rattle.bind_rows.specs.declared.names.Namespace.TheVariants as spaces
use Rattle.bind_rows.specs.declared.names.Leaf.{Leaf}
use Rattle.bind_rows.specs.declared.names.Leaf.TheVariants as leaves
use Rattle.bind_rows.specs.declared.rows.Row.{Row}
use Rattle.bind_rows.specs.Same.{same_leaf, same_namespace}
use Rattle.bind_table.specs.Lines.{Cell, Plan, nothing, a_line, plan_of}

-- the numbers of the elements, one a line
abbrev pub element_numbers : Plan → List ℕ
element_numbers nothing = []
element_numbers (a_line s cells inside rest) = s.number ∷ (element_numbers inside ++ element_numbers rest)

abbrev pub are_distinct : List ℕ → Bool
are_distinct [] = true
are_distinct (n ∷ ns) = not (list_any (λ m. n == m) ns) && are_distinct ns

-- No two of the rows end at one place.
abbrev pub end_apart : List Cell → Bool
end_apart [] = true
end_apart (cell ∷ cells) = not (list_any (λ (other : Cell). same_leaf cell.row.leaf other.row.leaf) cells) && end_apart cells

abbrev pub all_end_apart : Plan → Bool
all_end_apart nothing = true
all_end_apart (a_line s cells inside rest) = end_apart cells && (all_end_apart inside && all_end_apart rest)

-- a name without a colon, after Namespaces in XML 1.0
abbrev pub is_plain_start : ℕ → Bool
is_plain_start c = is_name_start c && not (c == 0x3A)

abbrev pub is_plain_char : ℕ → Bool
is_plain_char c = is_name_char c && not (c == 0x3A)

abbrev pub is_ncname : List ℕ → Bool
is_ncname [] = false
is_ncname (c ∷ text) = is_plain_start c && list_all is_plain_char text

-- the namespaces that a document declares whose root is in the first one
abbrev pub is_declared : Namespace → Namespace → Bool
is_declared spaces.UblInvoice other = same_namespace other spaces.UblInvoice
    || (same_namespace other spaces.UblAggregate || same_namespace other spaces.UblBasic)
is_declared spaces.UblCreditNote other = same_namespace other spaces.UblCreditNote
    || (same_namespace other spaces.UblAggregate || same_namespace other spaces.UblBasic)
is_declared spaces.CiiInvoice other =
    same_namespace other spaces.CiiInvoice || (same_namespace other spaces.CiiAggregate ||
    (same_namespace other spaces.CiiUnqualified || same_namespace other spaces.CiiQualified))
is_declared _ other = false

abbrev pub is_writable_leaf : Leaf → Bool
is_writable_leaf leaves.Element = true
is_writable_leaf (leaves.Attribute name) = is_ncname name && not (bytes_eq name (codes "xmlns") || bytes_eq name (codes "currencyID"))

abbrev pub all_writable : Namespace → Plan → Bool
all_writable root nothing = true
all_writable root (a_line s cells inside rest) =
    (is_ncname s.name.local && is_declared root s.name.namespace)
    && (list_all (λ (cell : Cell). is_writable_leaf cell.row.leaf) cells && (all_writable root inside && all_writable root rest))

-- The lines are one root element with what is inside it.
abbrev pub is_writable_plan : Plan → Bool
is_writable_plan nothing = false
is_writable_plan (a_line s cells inside (a_line t others inside' rest)) = false
is_writable_plan (a_line s cells inside nothing) =
    are_distinct (s.number ∷ element_numbers inside)
    && (all_end_apart (a_line s cells inside nothing) && all_writable s.name.namespace (a_line s cells inside nothing))

-- Rows share a line only where they have equal elements, so "each number is one line" says that the elements of one
-- number are one: they have one name, are both or neither always written, have one group and one set of guards, and
-- stand inside the same elements.
abbrev pub is_writable : List Row → Bool
is_writable rows = is_writable_plan (plan_of rows)
