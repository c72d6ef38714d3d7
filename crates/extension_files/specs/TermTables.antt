-- A table of a file of extension terms, and the term that it gives.
use Rattle.std.specs.Prelude.{ℕ, ℤ, pos, negsuc, Bool, ◌&&◌, ◌||◌, List, [], ◌∷◌, Option, Some, None, is_some, nat_lt, nat_le, codes, if◌then◌else◌}
use Rattle.std.specs.Option.{option_map, option_and_then}
use Rattle.toml.specs.Data.{Data, Members, get_member, as_str, as_integer}
use Rattle.term_table.specs.declared.terms.DataType.{DataType}
use Rattle.bind_rows.specs.declared.names.Namespace.{Namespace}
use Rattle.bind_rows.specs.declared.names.Namespace.TheVariants as spaces
use Rattle.bind_rows.specs.declared.names.ElementName.{ElementName}
use Rattle.extension_files.specs.declared.terms.ExtPlace.{ExtPlace}
use Rattle.extension_files.specs.declared.terms.ExtTerm.{ExtTerm}
use Rattle.extension_files.specs.declared.terms.Paths.{Paths}
use Rattle.extension_files.specs.Words.{place_named, data_type_named}
use Rattle.extension_files.specs.PathTexts.{path_of}
use Rattle.code_lists.specs.Keys.{other_key}

-- the namespaces of a path in each syntax
abbrev pub ubl_spaces : List Namespace
ubl_spaces = spaces.UblAggregate ∷ spaces.UblBasic ∷ []

abbrev pub cii_spaces : List Namespace
cii_spaces = spaces.CiiInvoice ∷ spaces.CiiAggregate ∷ spaces.CiiUnqualified ∷ spaces.CiiQualified ∷ []

abbrev pub term_keys : List (List ℕ)
term_keys = codes "number" ∷ codes "place" ∷ codes "type" ∷ codes "ubl" ∷ codes "cn" ∷ codes "cii" ∷ []

abbrev pub text_at : List ℕ → Members → Option (List ℕ)
text_at key ms = option_and_then as_str (get_member key ms)

-- a whole number above another one and at most 99
abbrev pub number_above : ℕ → ℤ → Option ℕ
number_above before (pos n) = if nat_lt before n && nat_le n 99 then Some n else None
number_above before (negsuc n) = None

abbrev pub integer_at : List ℕ → Members → Option ℤ
integer_at key ms = option_and_then as_integer (get_member key ms)

abbrev pub number_of : ℕ → Members → Option ℕ
number_of before ms = option_and_then (number_above before) (integer_at (codes "number") ms)

abbrev pub place_of : Members → Option ExtPlace
place_of ms = option_and_then place_named (text_at (codes "place") ms)

abbrev pub data_type_of : Members → Option DataType
data_type_of ms = option_and_then data_type_named (text_at (codes "type") ms)

-- what a table says of its term but its paths, if it says all of it
abbrev pub head_in : ℕ → Members → Option (ℕ × ExtPlace × DataType)
head_in before ms =
    option_and_then (λ number. option_and_then (λ place. option_map (λ data_type. (number, place, data_type)) (data_type_of ms)) (place_of ms)) (number_of
    before ms)

-- the first key that a term doesn't have
abbrev pub other_key_of : Members → Option (List ℕ)
other_key_of ms = other_key term_keys ms

-- the same of a table without other keys
abbrev pub head_of : ℕ → Members → Option (ℕ × ExtPlace × DataType)
head_of before ms = if is_some (other_key_of ms) then None else head_in before ms

-- the path at a key, where the key is there; nothing where it has no path
abbrev pub path_at : List Namespace → List ℕ → Members → Option (Option (List ElementName))
path_at spaces key ms = elim (get_member key ms) [ None ↦ Some None | Some d ↦ option_map Some (option_and_then (path_of spaces) (as_str d)) ]

abbrev pub has_path : Paths → Bool
has_path paths = is_some paths.ubl || (is_some paths.credit_note || is_some paths.cii)

abbrev pub some_paths : Paths → Option Paths
some_paths paths = if has_path paths then Some paths else None

abbrev pub paths_of : Members → Option Paths
paths_of ms =
    option_and_then
    (λ ubl. option_and_then
    (λ credit_note. option_and_then
    (λ cii. some_paths (record { ubl = ubl; credit_note = credit_note; cii = cii }))
    (path_at cii_spaces (codes "cii") ms))
    (path_at ubl_spaces (codes "cn") ms))
    (path_at ubl_spaces (codes "ubl") ms)

-- the term of a table behind a term of this number, if it is a term
abbrev pub term_of : ℕ → Members → Option ExtTerm
term_of before ms =
    option_and_then
    (λ (head : ℕ × ExtPlace × DataType). option_map (λ paths. record { number = head.0; place = head.1; data_type = head.2; paths = paths }) (paths_of ms))
    (head_of before ms)
