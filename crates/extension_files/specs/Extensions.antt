-- What holds of all extensions.
use Rattle.std.specs.Prelude.{ℕ, Bool, true, not, ◌&&◌, List, [], ◌∷◌, length, nat_lt, nat_le, Option, Some, None}
use Rattle.std.specs.List.{list_all, list_any}
use Rattle.term_table.specs.Rows.{is_base64}
use Rattle.bind_rows.specs.declared.names.Namespace.{Namespace}
use Rattle.bind_rows.specs.declared.names.ElementName.{ElementName}
use Rattle.bind_rows.specs.Same.{same_namespace}
use Rattle.extension_files.specs.declared.terms.ExtTerm.{ExtTerm}
use Rattle.extension_files.specs.declared.terms.Paths.{Paths}
use Rattle.extension_files.specs.PathTexts.{is_local}
use Rattle.extension_files.specs.TermTables.{ubl_spaces, cii_spaces, has_path}

-- a name in one of the namespaces
abbrev pub is_name : List Namespace → ElementName → Bool
is_name spaces name = list_any (same_namespace name.namespace) spaces && is_local name.local

abbrev pub is_path : List Namespace → List ElementName → Bool
is_path spaces names = nat_le 1 (length names) && (nat_le (length names) 20 && list_all (is_name spaces) names)

abbrev pub is_path_or_none : List Namespace → Option (List ElementName) → Bool
is_path_or_none spaces None = true
is_path_or_none spaces (Some names) = is_path spaces names

abbrev pub are_paths : Paths → Bool
are_paths paths =
    is_path_or_none ubl_spaces paths.ubl && (is_path_or_none ubl_spaces paths.credit_note && (is_path_or_none cii_spaces paths.cii && has_path paths))

-- terms whose numbers rise from above one up to 99, none of them an attachment, each with some path
abbrev pub are_terms : ℕ → List ExtTerm → Bool
are_terms before [] = true
are_terms before (term ∷ terms) =
    nat_lt before term.number && (nat_le term.number 99 && (not (is_base64 term.data_type) && (are_paths term.paths && are_terms term.number terms)))

abbrev pub is_extension : List ExtTerm → Bool
is_extension terms = are_terms 0 terms
