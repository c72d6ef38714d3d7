-- The text of a path: names with a slash between two, each a prefix, a colon and a local part. The prefixes are those with which
-- UBL 2.1 and CII D16B are written. Texts are bytes here: what isn't ASCII spells no name.
use Rattle.std.specs.Prelude.{ℕ, Bool, false, ◌==◌, ◌&&◌, List, [], ◌∷◌, map, length, nat_le, Option, Some, None, find, bytes_eq, if◌then◌else◌}
use Rattle.std.specs.Option.{option_map, option_and_then}
use Rattle.std.specs.List.{list_all, before_first, after_first, slice_split}
use Rattle.std.specs.Char.{is_ascii_alphabetic, is_ascii_alphanumeric}
use Rattle.bind_rows.specs.declared.names.Namespace.{Namespace}
use Rattle.bind_rows.specs.declared.names.ElementName.{ElementName}
use Rattle.bind_rows.specs.Namespaces.{prefix_of}

abbrev pub is_slash : ℕ → Bool
is_slash c = c == 0x2F

abbrev pub is_colon : ℕ → Bool
is_colon c = c == 0x3A

-- a letter, and then at most 99 letters and digits
abbrev pub is_local : List ℕ → Bool
is_local [] = false
is_local (c ∷ cs) = is_ascii_alphabetic c && (nat_le (length cs) 99 && list_all is_ascii_alphanumeric cs)

-- the namespace that is written with a prefix
abbrev pub namespace_of : List Namespace → List ℕ → Option Namespace
namespace_of spaces prefix = find (λ space. bytes_eq (prefix_of space) prefix) spaces

abbrev pub parts_by : List Namespace → List ℕ → List ℕ → Option (Namespace × List ℕ)
parts_by spaces prefix local = if is_local local then option_map (λ space. (space, local)) (namespace_of spaces prefix) else None

-- the namespace and the local part that stand around the first colon; without a colon there is no local part
abbrev pub parts_of : List Namespace → List ℕ → Option (Namespace × List ℕ)
parts_of spaces text = parts_by spaces (before_first is_colon text) (after_first is_colon text)

abbrev pub name_of : List Namespace → List ℕ → Option ElementName
name_of spaces text = option_map (λ (parts : Namespace × List ℕ). record { namespace = parts.0; local = parts.1 }) (parts_of spaces text)

-- the names that texts spell, if each spells one
abbrev pub names_of : List Namespace → List (List ℕ) → Option (List ElementName)
names_of spaces [] = Some []
names_of spaces (text ∷ texts) = option_and_then (λ name. option_map (λ names. name ∷ names) (names_of spaces texts)) (name_of spaces text)

-- a path has 1 to 20 names
abbrev pub path_of : List Namespace → List ℕ → Option (List ElementName)
path_of spaces text = if nat_le (length (slice_split is_slash text)) 20 then names_of spaces (slice_split is_slash text) else None
