-- A file of code lists: a TOML document with one table `lists`, which gives lists by name as arrays of codes. What bytes are a
-- TOML document, and which one, is what the crate `toml` reads.
use Rattle.std.specs.Prelude.{ℕ, Bool, true, List, [], ◌∷◌, ◌++◌, Option, Some, None, Result, Ok, Err, filter, map, codes, chars, if◌then◌else◌}
use Rattle.std.specs.Option.{option_map, option_and_then}
use Rattle.std.specs.Str.{is_utf8}
use Rattle.std.specs.Ordering.{nat_cmp, is_lt}
use Rattle.std.specs.Cmp.Lexicographic.{slice_cmp}
use Rattle.toml.specs.Data.{Data, string, Items, no_items, item, Members, no_members, member, get_member, as_array, as_table}
use Rattle.toml.specs.Parse.{parse_document}
use Rattle.code_lists.specs.declared.names.List.{List as CodeList}
use Rattle.code_lists.specs.declared.names.List.TheVariants as lists
use Rattle.code_lists.specs.declared.fault.ListFault.{ListFault}
use Rattle.code_lists.specs.declared.fault.ListFault.TheVariants.{NotToml, NotALists, BadCode}
use Rattle.code_lists.specs.Keys.{keys_of, is_other}
use Rattle.code_lists.specs.ListNames.{list_named, same_list}
use Rattle.code_lists.specs.Codes.{is_code, has_code, with_code}

-- lists with their codes
abbrev pub Lists : Type 0
Lists = List (CodeList × List (List ℕ))

abbrev pub category_codes : List (List ℕ)
category_codes = codes "S" ∷ codes "Z" ∷ codes "E" ∷ codes "AE" ∷ codes "K" ∷ codes "G" ∷ codes "O" ∷ codes "L" ∷ codes "M" ∷ codes "B" ∷ []

abbrev pub point_codes : List (List ℕ)
point_codes = codes "3" ∷ codes "35" ∷ codes "432" ∷ []

abbrev pub built_in_lists : Lists
built_in_lists = (lists.Category, category_codes) ∷ (lists.Point, point_codes) ∷ []

-- the codes of a list, where they are given
abbrev pub codes_of : Lists → CodeList → Option (List (List ℕ))
codes_of [] list = None
codes_of (l ∷ lists) list = if same_list l.0 list then Some l.1 else codes_of lists list

-- The list allows the code: it has it, or isn't given.
abbrev pub allows : Lists → CodeList → List ℕ → Bool
allows lists list code = elim (codes_of lists list) [ None ↦ true | Some codes ↦ has_code codes code ]

-- the code that a value is
abbrev pub code_of : Data → Option (List ℕ)
code_of (string text) = if is_code (chars text) then Some (chars text) else None
code_of _ = None

-- the codes and those of the items behind them, if all items are codes
abbrev pub with_items : List (List ℕ) → Items → Option (List (List ℕ))
with_items codes no_items = Some codes
with_items codes (item d ds) = option_and_then (λ code. with_items (with_code codes code) ds) (code_of d)

-- The list that a key of the table `lists` gives with its codes, each once, or why it gives none.
abbrev pub given : List ℕ → Data → Result (CodeList × List (List ℕ)) ListFault
given key d = elim (list_named key) [
  | None ↦ Err (NotALists (chars key))
  | Some list ↦ elim (as_array d) [
    | None ↦ Err (NotALists (chars key))
    | Some items ↦ elim (with_items [] items) [
      | None ↦ Err (BadCode (chars key))
      | Some codes ↦ Ok (list, codes)
    ]
  ]
]

-- a key that offends, and its fault
abbrev pub Offence : Type 0
Offence = List ℕ × ListFault

-- the offence whose key is the first in byte order
abbrev pub first_of : List Offence → Option Offence
first_of [] = None
first_of (o ∷ os) = Some (elim (first_of os) [ None ↦ o | Some p ↦ if is_lt (slice_cmp nat_cmp p.0 o.0) then p else o ])

abbrev pub first_fault : List Offence → Option ListFault
first_fault os = option_map (λ (o : Offence). o.1) (first_of os)

-- the keys of the table `lists` that offend
abbrev pub offences : Members → List Offence
offences no_members = []
offences (member key d ms) = elim (given key d) [ Ok l ↦ offences ms | Err fault ↦ (key, fault) ∷ offences ms ]

-- what the others give
abbrev pub given_lists : Members → Lists
given_lists no_members = []
given_lists (member key d ms) = elim (given key d) [ Ok l ↦ l ∷ given_lists ms | Err fault ↦ given_lists ms ]

-- the table `lists` of a document
abbrev pub lists_table : Members → Option Members
lists_table document = option_and_then as_table (get_member (codes "lists") document)

-- The keys of a document that offend: each but `lists`, and `lists` where it is missing or no table.
abbrev pub offending_keys : Members → List (List ℕ)
offending_keys document =
    filter (is_other (codes "lists" ∷ [])) (keys_of document)
    ++ elim (lists_table document) [ None ↦ codes "lists" ∷ [] | Some ms ↦ [] ]

abbrev pub document_offences : Members → List Offence
document_offences document = map (λ key. (key, NotALists (chars key))) (offending_keys document)

-- the lists of a document, or its first fault: a key of the document comes before the keys of its table
abbrev pub document_lists : Members → Result Lists ListFault
document_lists document = elim (first_fault (document_offences document)) [
  | Some fault ↦ Err fault
  | None ↦ elim (lists_table document) [
    | None ↦ Err (NotALists (codes "lists"))
    | Some ms ↦ elim (first_fault (offences ms)) [ Some fault ↦ Err fault | None ↦ Ok (built_in_lists ++ given_lists ms) ]
  ]
]

-- the TOML document that bytes are
abbrev pub document_of : List ℕ → Option Members
document_of bytes = if is_utf8 bytes then parse_document bytes else None

-- the lists of a file, or its first fault
abbrev pub file_lists : List ℕ → Result Lists ListFault
file_lists bytes = elim (document_of bytes) [ None ↦ Err NotToml | Some document ↦ document_lists document ]
