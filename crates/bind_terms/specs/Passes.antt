-- What the passes over the picks and the indicators of a document leave, and what it is by that. No public clause cites it.
use Rattle.std.specs.Prelude.{◌≡◌, List, [], ◌++◌, map, flat_map, Option, Some, None}
use Rattle.inv_base.specs.Tree.{Node}
use Rattle.code_lists.specs.CodeFiles.{Lists}
use Rattle.bind_rows.specs.declared.rows.Row.{Row}
use Rattle.bind_meaning.specs.Currencies.{currencies}
use Rattle.bind_meaning.specs.Seats.{rooms}
use Rattle.bind_meaning.specs.Judging.{Found, Told, wrong_word, faults_behind, seat_of}
use Rattle.bind_meaning.specs.Faults.{violations_in}
use Rattle.bind_meaning.specs.Terms.{in_order, told, entries}
use Rattle.bind_terms.specs.declared.firsts.First.{First}
use Rattle.bind_terms.specs.declared.judging.Verdict.{Verdict}
use Rattle.bind_terms.specs.declared.judging.Verdict.TheVariants as verdicts
use Rattle.bind_terms.specs.Entries.{entries_of}
use Rattle.bind_terms.specs.Reading.{indicator_picks, term_places}
use Rattle.bind_terms.specs.Telling.{Entries, Holds}

-- all that is told of a document
abbrev pub all_told : List Node → List Row → List Told
all_told nodes rows = told nodes (term_places nodes rows)

-- the faults of indicators, in document order
abbrev pub words_found : List Node → List Row → List Found
words_found nodes rows = flat_map (wrong_word nodes) (in_order nodes (indicator_picks nodes rows))

abbrev pub violations_found : List Node → List Row → List Found
violations_found nodes rows = flat_map (violations_in nodes (map seat_of (all_told nodes rows))) (rooms (term_places nodes rows))

abbrev pub found_at_picks : List Node → Lists → List Row → List Found
found_at_picks nodes lists rows = faults_behind nodes lists (currencies nodes rows) [] (all_told nodes rows)

-- all faults, as they are found one after another
abbrev pub all_found : List Node → Lists → List Row → List Found
all_found nodes lists rows = (found_at_picks nodes lists rows ++ words_found nodes rows) ++ violations_found nodes rows

-- The entries are what the picks say, and their faults and those of the indicators were given.
abbrev pub HasTold : List Node → Lists → List Row → Entries → (List Found → Type 0) → Type 0
HasTold nodes lists rows es given = Holds nodes lists (currencies nodes rows) (all_told nodes rows) es (λ fs. given (fs ++ words_found nodes rows))

-- All faults were given, and these were told first.
pub record HasFound (nodes : List Node) (lists : Lists) (rows : List Row) (firsts : List First) (given : List Found → Type 0) : Type 0 where
  pub is_given : given (all_found nodes lists rows)
  pub entries_are : found_at_picks nodes lists rows ≡ [] → flat_map entries_of firsts ≡ entries (all_told nodes rows)

-- The fault if there is one, or else the invoice of what was told first.
abbrev pub IsVerdict : List First → Option Found → Verdict → Type 0
IsVerdict firsts None (verdicts.Invoice invoice) = invoice ≡ flat_map entries_of firsts
IsVerdict firsts None (verdicts.Fault fault) = ⊥
IsVerdict firsts (Some found) (verdicts.Invoice invoice) = ⊥
IsVerdict firsts (Some found) (verdicts.Fault fault) = fault ≡ found.fault
