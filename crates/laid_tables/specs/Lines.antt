-- Which tables are laid, as the code asks it of lines in preorder. No public clause cites it.
use Rattle.std.specs.Prelude.{ℕ, ◌==◌, Bool, true, false, not, ◌&&◌, ◌||◌, List, [], ◌∷◌, length, map, Option, Some, None, slice_get, codes, bytes_eq}
use Rattle.std.specs.List.{list_any, list_all}
use Rattle.inv_base.specs.Characters.{is_name_start}
use Rattle.bind_rows.specs.declared.names.Namespace.{Namespace}
use Rattle.bind_rows.specs.declared.rows.Row.{Row}
use Rattle.bind_rows.specs.Same.{same_leaf}
use Rattle.bind_table.specs.declared.lines.Line.{Line}
use Rattle.bind_table.specs.Laid.{are_distinct, is_ncname, is_declared, is_writable_leaf}

-- A name may begin with the first of the characters.
abbrev pub begins_as_name : List ℕ → Bool
begins_as_name [] = false
begins_as_name (c ∷ text) = is_name_start c

-- An attribute of that name is put by the writing of documents itself.
abbrev pub is_taken : List ℕ → Bool
is_taken name = bytes_eq name (codes "xmlns") || bytes_eq name (codes "currencyID")

abbrev pub line_numbers : List Line → List ℕ
line_numbers lines = map (λ (line : Line). line.step.number) lines

-- Both are rows, and end at one place.
abbrev pub end_alike : Option Row → Option Row → Bool
end_alike None other = false
end_alike (Some row) None = false
end_alike (Some row) (Some other) = same_leaf row.leaf other.leaf

-- No two of the rows of these numbers end at one place.
abbrev pub rows_end_apart : List Row → List ℕ → Bool
rows_end_apart rows [] = true
rows_end_apart rows (n ∷ ns) = not (list_any (λ m. end_alike (slice_get rows n) (slice_get rows m)) ns) && rows_end_apart rows ns

abbrev pub line_ends_apart : List Row → Line → Bool
line_ends_apart rows line = rows_end_apart rows line.rows

abbrev pub ends_writably : Option Row → Bool
ends_writably None = false
ends_writably (Some row) = is_writable_leaf row.leaf

abbrev pub is_writable_line : List Row → Namespace → Line → Bool
is_writable_line rows root line =
    (is_ncname line.step.name.local && is_declared root line.step.name.namespace) && list_all (λ n. ends_writably (slice_get rows n)) line.rows

-- The first line has all others inside it. The test that takes memory comes last.
abbrev pub are_laid : List Row → List Line → Bool
are_laid rows [] = false
are_laid rows (root ∷ behind) =
    root.size == length behind
    && (list_all (line_ends_apart rows) (root ∷ behind)
    && (list_all (is_writable_line rows root.step.name.namespace) (root ∷ behind) && are_distinct (line_numbers (root ∷ behind))))
