-- Which tables write documents that are read again under the limits on documents: tests over the lines of a table.
use Rattle.std.specs.Prelude.{ℕ, ◌+◌, max, nat_le, Bool, true, false, not, ◌&&◌, ◌||◌, List, [], ◌∷◌, ◌++◌, filter, flat_map, map, length, is_none, bytes_eq}
use Rattle.std.specs.List.{list_all, list_any}
use Rattle.inv_base.specs.Characters.{is_char}
use Rattle.inv_base.specs.Tree.{Name}
use Rattle.xml_state.specs.declared.limits.Limits.{Limits}
use Rattle.xml_state.specs.Sizes.{document_limits}
use Rattle.xml_state.specs.Admission.{has_twice}
use Rattle.xml_write.specs.Canonical.{Declaration, element_name, attribute_name, declaring_name}
use Rattle.xml_laws.specs.Writable.{is_declarable, is_element_name, is_attribute_name, is_short}
use Rattle.term_table.specs.declared.terms.Term.{Term}
use Rattle.term_table.specs.Contexts.{root_context}
use Rattle.inv_terms.specs.declared.entries.Entry.{Entry}
use Rattle.bind_rows.specs.declared.names.Leaf.TheVariants as leaves
use Rattle.bind_rows.specs.declared.rows.Step.{Step}
use Rattle.bind_rows.specs.declared.rows.Row.{Row}
use Rattle.bind_rows.specs.declared.rows.Content.{Content}
use Rattle.bind_rows.specs.declared.rows.Content.TheVariants as contents
use Rattle.bind_rows.specs.declared.rows.Written.{Written}
use Rattle.bind_rows.specs.declared.rows.Written.TheVariants as written
use Rattle.bind_rows.specs.Added.{is_typed}
use Rattle.bind_table.specs.Lines.{Cell, Plan, nothing, a_line, plan_of}
use Rattle.bind_meaning.specs.Currencies.{currency_id}
use Rattle.bind_meaning.specs.Picks.{has_term}
use Rattle.bind_meaning.specs.Values.{form_for}
use Rattle.bind_meaning.specs.Trees.{holds, name_of, is_at_element}
use Rattle.bind_write.specs.Documents.{declared_for, namespace_of}

-- how large a document may be
abbrev pub reading_limits : Limits
reading_limits = document_limits

-- ---- what the lines of a table write, whatever the invoice is

-- how many elements stand inside one another
abbrev pub levels : Plan → ℕ
levels nothing = 0
levels (a_line s cells inside rest) = max (1 + levels inside) (levels rest)

abbrev pub local_of : Cell → List (List ℕ)
local_of cell = elim cell.row.leaf [ leaves.Element ↦ [] | (leaves.Attribute local) ↦ local ∷ [] ]

-- the local names of the attributes at an element: that of a currency, and those at which rows end
abbrev pub locals : List Cell → List (List ℕ)
locals cells = currency_id ∷ flat_map local_of cells

-- the name of an attribute, which is in no namespace
abbrev pub unspaced : List ℕ → Name
unspaced local = record { uri = []; local = local }

-- the names of elements and attributes
abbrev pub names_of : Plan → List Name
names_of nothing = []
names_of (a_line s cells inside rest) = name_of s.name ∷ (map unspaced (locals cells) ++ (names_of inside ++ names_of rest))

abbrev pub constant_of : Content → List ℕ
constant_of (contents.Term term) = []
constant_of (contents.Constant text) = text

abbrev pub placeholder_of : Written → List ℕ
placeholder_of (written.OrPlaceholder placeholder) = placeholder.text
placeholder_of _ = []

-- What a row writes by itself is of Chars.
abbrev pub has_chars : Cell → Bool
has_chars cell = list_all is_char (constant_of cell.row.content) && list_all is_char (placeholder_of cell.row.written)

-- ---- the tests of lines

-- All lines pass the test, by their steps and by the rows that end there.
abbrev pub all_lines : (Step → List Cell → Bool) → Plan → Bool
all_lines test nothing = true
all_lines test (a_line s cells inside rest) = test s cells && (all_lines test inside && all_lines test rest)

-- The attribute can be written, with a name that keeps the limit.
abbrev pub is_fine_local : Limits → List Declaration → List ℕ → Bool
is_fine_local limits declarations local =
    is_attribute_name declarations (unspaced local) && is_short limits (attribute_name declarations (unspaced local))

-- The element can be written, with a name that keeps the limit, and so can its attributes, which have names of their
-- own; there are few enough, even beside all declarations; one row at most ends at the element itself; and what rows
-- write by themselves is of Chars.
abbrev pub is_fine_line : Limits → List Declaration → Step → List Cell → Bool
is_fine_line limits declarations s cells =
    (is_element_name declarations (name_of s.name) && is_short limits (element_name declarations (name_of s.name)))
    && (list_all (is_fine_local limits declarations) (locals cells)
    && (not (has_twice bytes_eq (locals cells))
    && (nat_le (length (filter is_at_element cells)) 1
    && (nat_le (length declarations + length (locals cells)) limits.attributes && list_all has_chars cells))))

-- The declarations can be written: no prefix is declared twice.
abbrev pub are_fine : Limits → List Declaration → Bool
are_fine limits declarations =
    list_all is_declarable declarations
    && (not (has_twice (λ (a b : Declaration). bytes_eq a.prefix b.prefix) declarations) &&
    list_all (λ (d : Declaration). is_short limits (declaring_name d.prefix)) declarations)

-- ---- the root

-- The lines are one element, which stands once.
abbrev pub is_one_root : Plan → Bool
is_one_root nothing = false
is_one_root (a_line s cells inside nothing) = is_none s.group
is_one_root (a_line s cells inside (a_line t others inside' rest)) = false

abbrev pub is_readable_plan : Limits → List Declaration → Plan → Bool
is_readable_plan limits declarations plan =
    is_one_root plan
    && (are_fine limits declarations
    && (nat_le (levels plan) limits.depth && (nat_le (length (names_of plan)) limits.names && all_lines (is_fine_line limits declarations) plan)))

abbrev pub is_readable_in : Limits → Plan → Bool
is_readable_in limits plan = is_readable_plan limits (declared_for (namespace_of plan)) plan

-- The documents that are written by the table can be read, as far as its rows say.
abbrev pub is_readable : Limits → List Row → Bool
is_readable limits rows = is_readable_in limits (plan_of rows)

-- ---- a term that every document has

abbrev pub is_always : Written → Bool
is_always written.Always = true
is_always _ = false

-- The row writes the term wherever it stands, whatever the type of its value: a row that a user added writes values of its own type alone.
abbrev pub always_writes : Term → Cell → Bool
always_writes term cell = is_always cell.row.written && (has_term term cell.row && not (is_typed (form_for cell.row.form term)))

-- So does one outside all groups.
abbrev pub shows : Term → Plan → Bool
shows term nothing = false
shows term (a_line s cells inside rest) = (is_none s.group && (list_any (always_writes term) cells || shows term inside)) || shows term rest

-- the number of an invoice, BT-1, which is mandatory
abbrev pub invoice_number : Term
invoice_number = record { number = 1; part = 0 }

-- ---- an invoice that a table writes

-- Some line holds an entry, so that there is a document.
abbrev pub holds_any : List Row → List Entry → Bool
holds_any rows es = holds es (plan_of rows) root_context
