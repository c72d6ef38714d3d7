-- Which tables are well formed: no row is ambiguous, names a term that the semantic model doesn't have in its context,
-- or stands outside its context. The built-in part is judged by itself, and rows that users add against it and one
-- another. A row with one of EXT-1 to EXT-99 that isn't such a row has an unknown term, though it has a place in the
-- listing order.
use Rattle.std.specs.Prelude.{ℕ, ◌+◌, ◌==◌, nat_lt, Bool, true, false, not, ◌&&◌, ◌||◌, List, [], ◌∷◌, ◌++◌, length, take, map, filter, flat_map, fold, max}
use Rattle.std.specs.Prelude.{Option, Some, None, Result, Ok, Err, is_none, codes, bytes_eq}
use Rattle.std.specs.List.{list_all}
use Rattle.std.specs.Cmp.Lexicographic.{pointwise}
use Rattle.term_table.specs.declared.groups.Group.{Group}
use Rattle.term_table.specs.SemanticModel.{is_extension}
use Rattle.term_table.specs.Rows.{row_in}
use Rattle.bind_rows.specs.declared.names.ElementName.{ElementName}
use Rattle.bind_rows.specs.declared.names.Namespace.{Namespace}
use Rattle.bind_rows.specs.declared.names.Namespace.TheVariants as spaces
use Rattle.bind_rows.specs.declared.rows.Step.{Step}
use Rattle.bind_rows.specs.declared.rows.Row.{Row}
use Rattle.bind_rows.specs.declared.rows.Content.{Content}
use Rattle.bind_rows.specs.declared.rows.Content.TheVariants as contents
use Rattle.bind_rows.specs.Same.{same_name, same_step, same_group, same_or_none, choose}
use Rattle.bind_rows.specs.Contents.{has_term}
use Rattle.bind_rows.specs.Added.{is_added, built}
use Rattle.bind_table.specs.Crossings.{part_by_name, shared, passes_no_group, is_proper_front}
use Rattle.bind_table.specs.Parting.{clash}
use Rattle.bind_table.specs.declared.judging.TableKind.{TableKind}
use Rattle.bind_table.specs.declared.judging.TableKind.TheVariants as kinds
use Rattle.bind_table.specs.declared.judging.TableFault.{TableFault}

-- ---- Ambiguous

-- A built-in row of the list, whose first one has the number, clashes with the row, and isn't the row of that number
-- itself.
abbrev pub clashes_from : ℕ → List Row → ℕ → Row → Bool
clashes_from n [] k row = false
clashes_from n (other ∷ others) k row = (not (n == k) && (not (is_added other) && clash row other)) || clashes_from (n + 1) others k row

abbrev pub is_ambiguous : List Row → ℕ → Row → Bool
is_ambiguous rows k row = clashes_from 0 rows k row

-- ---- UnknownTerm

abbrev pub is_unknown : Row → Content → Bool
is_unknown row (contents.Term term) = is_extension term || is_none (row_in term row.outer row.inner)
is_unknown row (contents.Constant text) = false

-- ---- OutsideContext

abbrev pub carries : Group → Step → Bool
carries group s = same_or_none s.group (Some group)

-- the fronts of a path that end at an element which carries the group
abbrev pub carriers : Group → List Step → List Step → List (List Step)
carriers group above [] = []
carriers group above (s ∷ path) =
    choose (carries group s) (λ _. (above ++ s ∷ []) ∷ carriers group (above ++ s ∷ []) path) (λ _. carriers group (above ++ s ∷ []) path)

abbrev pub same_path : List Step → List Step → Bool
same_path = pointwise same_step

-- how many elements of the path come before the first that carries the group. All, if none does
abbrev pub depth_of : Group → List Step → ℕ
depth_of group [] = 0
depth_of group (s ∷ path) = choose (carries group s) (λ _. 0) (λ _. 1 + depth_of group path)

abbrev pub is_carried : Group → Row → Bool
is_carried group row = nat_lt (depth_of group row.path) (length row.path)

-- the front of the first path that has one
abbrev pub first_carrier : Group → List Row → Option (List Step)
first_carrier group [] = None
first_carrier group (row ∷ rows) = choose (is_carried group row) (λ _. Some (take (depth_of group row.path + 1) row.path)) (λ _. first_carrier group rows)

abbrev pub all_are : Group → List Row → Option (List Step) → Bool
all_are group rows None = true
all_are group rows (Some p) = list_all (λ (r : Row). list_all (same_path p) (carriers group [] r.path)) rows

-- One element of the table alone carries the group, or none.
abbrev pub is_carried_once : Group → List Row → Bool
is_carried_once group rows = all_are group rows (first_carrier group rows)

abbrev pub is_placed : List Row → Row → Option Group → Bool
is_placed rows row None = true
is_placed rows row (Some group) = is_carried group row && is_carried_once group rows

-- The element of the outer group stands above that of the inner one.
abbrev pub is_nested : Row → Option Group → Option Group → Bool
is_nested row None inner = true
is_nested row (Some outer) None = true
is_nested row (Some outer) (Some inner) = nat_lt (depth_of outer row.path) (depth_of inner row.path)

-- the root elements of UBL Invoice, UBL CreditNote and CII
abbrev pub is_root_of : Namespace → List ℕ → Bool
is_root_of spaces.UblInvoice local = bytes_eq local (codes "Invoice")
is_root_of spaces.UblCreditNote local = bytes_eq local (codes "CreditNote")
is_root_of spaces.CiiInvoice local = bytes_eq local (codes "CrossIndustryInvoice")
is_root_of _ local = false

abbrev pub is_root : ElementName → Bool
is_root name = is_root_of name.namespace name.local

abbrev pub has_root : List Step → List Step → Bool
has_root [] first = false
has_root (s ∷ path) [] = false
has_root (s ∷ path) (t ∷ first) = same_name s.name t.name && is_root s.name

-- The path begins with a root, the one of the first row.
abbrev pub is_rooted : List Row → Row → Bool
is_rooted [] row = false
is_rooted (first ∷ rows) row = has_root row.path first.path

abbrev pub is_outside : List Row → Row → Bool
is_outside rows row = not (is_rooted rows row && (is_placed rows row row.outer && (is_placed rows row row.inner && is_nested row row.outer row.inner)))

-- ---- rows that users add, against the built-in part

abbrev pub listed : Option Group → List Group
listed None = []
listed (Some group) = group ∷ []

-- the groups that the elements of a path carry
abbrev pub groups_of : List Step → List Group
groups_of path = flat_map (λ (s : Step). listed s.group) path

-- One element carries the group, and no other one a group.
abbrev pub carries_only : Option Group → List Step → Bool
carries_only group path = pointwise same_group (groups_of path) (listed group)

abbrev pub begins_with : Option (List Step) → Group → Row → Bool
begins_with None group row = false
begins_with (Some front) group row = is_carried group row && same_path front (take (depth_of group row.path + 1) row.path)

-- The path begins with the one element of the built-in part that carries the group.
abbrev pub begins_there : List Row → Row → Option Group → Bool
begins_there own row None = true
begins_there own row (Some group) = is_carried_once group own && begins_with (first_carrier group own) group row

-- The path begins where its context says, and goes through no other group.
abbrev pub is_in_context : List Row → Row → Bool
is_in_context own row =
    is_rooted own row
    && (begins_there own row row.outer && (carries_only row.outer row.path && list_all (λ (r : Row). passes_no_group row.outer row.path r.path) own))

-- The paths part, or the other is a longer one that a user added: then it is that one's fault.
abbrev pub stands_clear : Row → Row → Bool
stands_clear row other = part_by_name row.path other.path || (is_added other && is_proper_front row.path other.path)

abbrev pub parts_from : List Row → ℕ → ℕ → Row → Bool
parts_from [] n k row = true
parts_from (other ∷ others) n k row = ((n == k) || stands_clear row other) && parts_from others (n + 1) k row

abbrev pub most_shared : List Step → List Row → ℕ
most_shared path rows = fold max 0 (map (λ (row : Row). shared path row.path) rows)

-- Below each element of the built-in part that the path goes through stands a term of it.
abbrev pub is_held : List Row → Row → Bool
is_held own row = most_shared row.path own == most_shared row.path (filter has_term own)

abbrev pub added_fault : List Row → List Row → ℕ → Row → Option TableKind
added_fault rows own k row =
    choose (is_in_context own row)
    (λ _. choose (parts_from rows 0 k row) (λ _. choose (is_held own row) (λ _. None) (λ _. Some kinds.Ambiguous)) (λ _. Some kinds.Ambiguous))
    (λ _. Some kinds.OutsideContext)

-- ---- the first row with a fault, from 1, and the first kind that it has

-- of a row of the built-in part
abbrev pub own_fault : List Row → List Row → ℕ → Row → Option TableKind
own_fault rows own k row =
    choose (is_ambiguous rows k row) (λ _. Some kinds.Ambiguous)
    (λ _. choose (is_unknown row row.content) (λ _. Some kinds.UnknownTerm)
    (λ _. choose (is_outside own row) (λ _. Some kinds.OutsideContext) (λ _. None)))

-- of the k-th row of a table, from 0, with the table's built-in part
abbrev pub fault_of : List Row → List Row → ℕ → Row → Option TableKind
fault_of rows own k row = choose (is_added row) (λ _. added_fault rows own k row) (λ _. own_fault rows own k row)

abbrev pub told : ℕ → Option TableKind → Result (Unit {0}) TableFault → Result (Unit {0}) TableFault
told k None others = others
told k (Some kind) others = Err (record { kind = kind; row = k + 1 })

abbrev pub first_fault_from : List Row → List Row → ℕ → List Row → Result (Unit {0}) TableFault
first_fault_from rows own k [] = Ok tt
first_fault_from rows own k (row ∷ others) = told k (fault_of rows own k row) (first_fault_from rows own (k + 1) others)

abbrev pub first_fault : List Row → Result (Unit {0}) TableFault
first_fault rows = first_fault_from rows (built rows) 0 rows
