-- What the steps of the pass over the picks do.
use Rattle.std.specs.Prelude.{◌≡◌, ◌<◌, ℕ, zero, suc, true, ◌||◌, List, [], ◌∷◌, Option, Some, None, is_some, is_none, option_map, slice_get, ◌++◌, map, All}
use Rattle.std.specs.Option.{ForSome}
use Rattle.std.specs.Ordering.{nat_cmp}
use Rattle.std.specs.Cmp.Lexicographic.{slice_cmp}
use Rattle.term_table.specs.declared.terms.Term.{Term}
use Rattle.term_table.specs.declared.contexts.Context.{Context}
use Rattle.term_table.specs.Places.{place_of}
use Rattle.inv_terms.specs.declared.violations.Name.TheVariants as names
use Rattle.bind_rows.specs.declared.rows.Row.{Row}
use Rattle.bind_meaning.specs.declared.fault.BindKind.{BindKind}
use Rattle.bind_meaning.specs.declared.picked.Seated.{Seated}
use Rattle.bind_meaning.specs.declared.picked.PlacedPick.{PlacedPick}
use Rattle.bind_meaning.specs.Elements.{string_at}
use Rattle.bind_meaning.specs.Picks.{Pick, term_in}
use Rattle.bind_meaning.specs.Seats.{Placed}
use Rattle.bind_meaning.specs.Values.{ParsedValue, parsed}
use Rattle.bind_meaning.specs.Currencies.{Currencies}
use Rattle.bind_meaning.specs.Kept.{kept_placed, all_kept_placed}
use Rattle.bind_meaning.specs.Judging.{Found, found, rank, Told, told_by}
use Rattle.bind_meaning.specs.Terms.{told}
use Rattle.inv_base.specs.Tree.{Node}
use Rattle.ordered_map.specs.Entries.{entries_behind, value_behind}
use Rattle.code_lists.specs.CodeFiles.{Lists}
use Rattle.bind_terms.specs.declared.firsts.First.{First}
use Rattle.bind_terms.specs.Kinds.{kind_of}
use Rattle.bind_terms.specs.Telling.{parsed_first, place_of_first, context_in, Entries, kept_at, Holds}

-- the row of a number, from 1
abbrev pub row_numbered : List Row → ℕ → Option Row
row_numbered rows zero = None
row_numbered rows (suc k) = slice_get rows k

-- The number is that of a row.
abbrev pub HasRow : List Row → ℕ → Type 0
HasRow rows number = is_some (row_numbered rows number) ≡ true

-- The pick's number is that of its row.
abbrev pub IsOfRow : List Row → Placed → Type 0
IsOfRow rows p = row_numbered rows p.pick.place ≡ Some p.pick.row

abbrev pub IsPickOfRow : List Row → Pick → Type 0
IsPickOfRow rows pick = row_numbered rows pick.place ≡ Some pick.row

-- The seat's element is a node of the document.
abbrev pub IsSeatWithin : ℕ → Option Seated → Type 0
IsSeatWithin count seat = ForSome seat (λ (s : Seated). s.element < count)

-- The pick and its elements are nodes of the document, and an inner seat stands in an outer one.
pub record IsWithin (count : ℕ) (pick : PlacedPick) : Type 0 where
  pub node : pick.node < count
  pub outer : IsSeatWithin count pick.outer
  pub inner : IsSeatWithin count pick.inner
  pub nested : (is_some pick.outer || is_none pick.inner) ≡ true

-- Each value that is said has a term with a place in the context.
abbrev pub ArePlaced : Context → List ParsedValue → Type 0
ArePlaced context all = All (λ (s : ParsedValue). is_some (place_of s.term context) ≡ true) all

-- what a pick says by its row
abbrev pub parsed_by_row : List Node → PlacedPick → Row → List ParsedValue
parsed_by_row nodes pick row = elim (term_in row.content) [ None ↦ [] | Some term ↦ parsed row.form term (string_at nodes pick.node) ]

-- the same by its table
abbrev pub SaysPlaced : List Node → List Row → PlacedPick → Type 0
SaysPlaced nodes rows pick = (row : Row) → row_numbered rows pick.row ≡ Some row → ArePlaced (context_in pick) (parsed_by_row nodes pick row)

abbrev pub told_at : Placed → ParsedValue → Told
told_at p parsed = record { placed = p; parsed = parsed }

-- the entries with one more, where none of its place is among them
abbrev pub put_entry : Entries → List ℕ → First → Entries
put_entry = entries_behind (slice_cmp nat_cmp)

-- what is kept at a place behind that
abbrev pub kept_behind : List ℕ → Entries → List ℕ → First → Option First
kept_behind = value_behind (slice_cmp nat_cmp)

abbrev pub fault_at : BindKind → ℕ → ℕ → Term → Found
fault_at kind node row term = found (node ∷ (0 ∷ (row ∷ (rank kind ∷ [])))) kind (names.Term term) node

abbrev pub faults_at : Option BindKind → ℕ → ℕ → Term → List Found
faults_at kind node row term = elim kind [ None ↦ [] | Some k ↦ fault_at k node row term ∷ [] ]

-- the faults of what is said where something of its place was told before
abbrev pub faults_again : List Node → Lists → Option (List ℕ) → PlacedPick → Row → First → Entries → List Found
faults_again nodes lists invoice pick row f entries =
    faults_at (kind_of nodes lists invoice row pick.node (context_in pick) (option_map parsed_first (kept_at (place_of_first f) entries)) (parsed_first f))
    pick.node pick.row f.term

-- ---- what each step of the pass leaves, behind whatever was told before

-- the step tells these values of the pick
abbrev pub Tells : List Node → Lists → Option (List ℕ) → PlacedPick → Row → List ParsedValue → Entries → (List Found → Type 0) → Entries → (List Found → Type 0)
    → Type 0
Tells nodes lists invoice pick row parsed old was new is =
    (before : List Told) (p : Placed) (c : Currencies) → c.invoice ≡ invoice → kept_placed p ≡ pick → p.pick.row ≡ row
    → Holds nodes lists c before old was → Holds nodes lists c (before ++ map (told_at p) parsed) new is

-- the step tells what the pick says, by its row
abbrev pub TellsPick : List Node → Lists → Option (List ℕ) → PlacedPick → Row → Entries → (List Found → Type 0) → Entries → (List Found → Type 0) → Type 0
TellsPick nodes lists invoice pick row old was new is =
    (before : List Told) (p : Placed) (c : Currencies) → c.invoice ≡ invoice → kept_placed p ≡ pick → p.pick.row ≡ row
    → Holds nodes lists c before old was → Holds nodes lists c (before ++ told_by nodes p) new is

-- the same by its table
abbrev pub TellsOf : List Node → Lists → Option (List ℕ) → PlacedPick → List Row → Entries → (List Found → Type 0) → Entries → (List Found → Type 0) → Type 0
TellsOf nodes lists invoice pick rows old was new is =
    (before : List Told) (p : Placed) (c : Currencies) → c.invoice ≡ invoice → kept_placed p ≡ pick → IsOfRow rows p
    → Holds nodes lists c before old was → Holds nodes lists c (before ++ told_by nodes p) new is

-- the pass tells what all picks say
abbrev pub TellsAll : List Node → Lists → Option (List ℕ) → List PlacedPick → List Row → Entries → (List Found → Type 0) → Type 0
TellsAll nodes lists invoice picks rows entries given =
    (ps : List Placed) (c : Currencies) → c.invoice ≡ invoice → picks ≡ all_kept_placed ps → All (IsOfRow rows) ps
    → Holds nodes lists c (told nodes ps) entries given
