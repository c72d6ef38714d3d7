-- What a document is by a table, in the words of the reader of its picks.
use Rattle.std.specs.Prelude.{◌≡◌, ℕ, Bool, true, false, not, ◌&&◌, List, map, Ok, Err}
use Rattle.std.specs.Ordering.{nat_cmp}
use Rattle.std.specs.Cmp.Lexicographic.{slice_cmp}
use Rattle.std.specs.List.Sorted.{IsStrictlySortedBy}
use Rattle.inv_base.specs.Tree.{Node}
use Rattle.code_lists.specs.CodeFiles.{Lists}
use Rattle.bind_rows.specs.declared.rows.Row.{Row}
use Rattle.bind_rows.specs.declared.rows.Check.{Check}
use Rattle.bind_rows.specs.declared.rows.Check.TheVariants as checks
use Rattle.bind_meaning.specs.Picks.{Pick, has_any_term, rows_where, all_picked}
use Rattle.bind_meaning.specs.Currencies.{currencies}
use Rattle.bind_meaning.specs.Seats.{Placed}
use Rattle.bind_meaning.specs.Terms.{term_picks, place_all, passed_over, terms_of}
use Rattle.bind_terms.specs.declared.judging.Verdict.{Verdict}
use Rattle.bind_terms.specs.declared.judging.Verdict.TheVariants as verdicts
use Rattle.bind_terms.specs.declared.firsts.First.{First}
use Rattle.bind_terms.specs.Telling.{Entries}

abbrev pub is_indicator : Check → Bool
is_indicator checks.Nothing = false
is_indicator checks.Scheme = false
is_indicator checks.Format = false
is_indicator (checks.Indicator term) = true

-- The row has no term, and checks an indicator.
abbrev pub has_indicator : Row → Bool
has_indicator row = not (has_any_term row) && is_indicator row.check

-- what the rows pick that have no term and check an indicator
abbrev pub indicator_picks : List Node → List Row → List Pick
indicator_picks nodes rows = all_picked nodes (rows_where has_indicator rows)

-- what the rows with a term pick, in document order, with its contexts
abbrev pub term_places : List Node → List Row → List Placed
term_places nodes rows = place_all nodes (term_picks nodes (currencies nodes rows) rows)

-- The document is that invoice by the table, or that is its first fault.
abbrev pub Answers : List Node → Lists → List Row → Verdict → Type 0
Answers nodes lists rows (verdicts.Invoice invoice) = terms_of nodes rows lists ≡ Ok (record { entries = invoice; passed_over = passed_over nodes rows })
Answers nodes lists rows (verdicts.Fault fault) = terms_of nodes rows lists ≡ Err fault

-- Each place of the entries comes before those behind it.
abbrev pub AreSorted : Entries → Type 0
AreSorted entries = IsStrictlySortedBy (slice_cmp nat_cmp) (map (λ (e : List ℕ × First). e.0) entries)
