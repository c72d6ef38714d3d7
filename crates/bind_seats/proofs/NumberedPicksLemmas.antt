-- What is asked of the picks of a table, which of them count, and where they stand.
use Rattle.std.proofs.Common.{◌≡◌, ℕ, List, length, Option, sym, ap, subst, ◌∙◌}
use Rattle.std.specs.Prelude.{filter, Ok}
use Rattle.inv_base.specs.Tree.{Node}
use Rattle.bind_rows.specs.declared.rows.Row.{Row}
use Rattle.bind_table.specs.WellFormed.{first_fault}
use Rattle.bind_meaning.specs.declared.picked.Picked.{Picked}
use Rattle.bind_meaning.specs.declared.picked.PlacedPick.{PlacedPick}
use Rattle.bind_meaning.specs.Kept.{all_kept, all_kept_placed}
use Rattle.bind_meaning.specs.Currencies.{Currencies, currencies}
use Rattle.bind_meaning.specs.Terms.{term_picks, place_all}
use Rattle.bind_seats.specs.declared.marks.Mark.{Mark}
use Rattle.bind_seats.specs.Marks.{has_mark}
use Rattle.bind_seats.specs.Nodes.{Sound}
use Rattle.bind_seats.specs.Rowed.{AreWithin, AreRowed}
use Rattle.bind_seats.specs.Currency.{named_currencies}
use Rattle.bind_seats.specs.Placeholders.{marks_beside, stays}
use Rattle.bind_seats.specs.Occurrences.{IsSeated}
use Rattle.bind_seats.proofs.GroupLemmas.{StepLaw}
use Rattle.bind_seats.proofs.WholeLemmas.{whole, picks-rowed, picks-within, currencies-of, staying-of, seats-of}

-- the rows are the table's: what the calls ask of the picks
pub within : (nodes : List Node) (count : ℕ) → length nodes ≡ count → Sound nodes → (rows : List Row) (qs : List Picked) → qs ≡ all_kept (whole nodes rows)
    → AreWithin count qs
within nodes count e s rows qs h = subst (λ n. AreWithin n qs) e (picks-within nodes s rows qs h)

pub rowed : (nodes : List Node) → Sound nodes → (rows table : List Row) → rows ≡ table → (qs : List Picked) → qs ≡ all_kept (whole nodes table)
    → AreRowed (length rows) qs
rowed nodes s rows table e qs h = subst (λ (r : List Row). AreRowed (length r) qs) (sym e) (picks-rowed nodes s table qs h)

pub same_currencies : (nodes : List Node) → Sound nodes → (rows table : List Row) → rows ≡ table → (qs : List Picked) → qs ≡ all_kept (whole nodes table)
    → (a b : Option (List ℕ))
    → a ≡ (named_currencies nodes rows qs).invoice → b ≡ (named_currencies nodes rows qs).accounting
    → record { invoice = a; accounting = b } ≡ currencies nodes table
same_currencies nodes s rows table e qs h a b x y =
    let named : record { invoice = a; accounting = b } ≡ named_currencies nodes rows qs = λ i. record { invoice = x i; accounting = y i } in
    named ∙ (ap (λ (r : List Row). named_currencies nodes r qs) e ∙ currencies-of nodes s table qs h)

pub kept_terms : (nodes : List Node) → Sound nodes → (rows table : List Row) → rows ≡ table → (lent qs : List Picked) → lent ≡ qs
    → qs ≡ all_kept (whole nodes table) → (c : Currencies) → c ≡ currencies nodes table
    → (marks others : List Mark) → marks ≡ others → ((m : Mark) → has_mark others m ≡ has_mark (marks_beside nodes rows lent) m) → (kept : List Picked)
    → kept ≡ filter (stays nodes rows c marks) qs
    → kept ≡ all_kept (term_picks nodes (currencies nodes table) table)
kept_terms nodes s rows table e lent qs l h c same marks others is has kept k =
    k ∙ (ap (λ (ms : List Mark). filter (stays nodes rows c ms) qs) is
    ∙ (ap (λ (r : List Row). filter (stays nodes r c others) qs) e
    ∙ staying-of nodes s table qs h c (currencies nodes table) same others
    (λ m. has m ∙ (ap (λ (xs : List Picked). has_mark (marks_beside nodes rows xs) m) l ∙ ap (λ (r : List Row). has_mark (marks_beside nodes r qs) m) e))))

pub seated_terms : StepLaw → (nodes : List Node) → Sound nodes → (rows table : List Row) → rows ≡ table → first_fault table ≡ Ok tt
    → (c : Currencies) (qs kept : List Picked) → qs ≡ kept
    → kept ≡ all_kept (term_picks nodes c table) → (seats : List PlacedPick) → IsSeated rows qs seats
    → seats ≡ all_kept_placed (place_all nodes (term_picks nodes c table))
seated_terms law nodes s rows table e formed c qs kept is k seats h =
    seats-of law nodes s table formed c qs (is ∙ k) seats (subst (λ (r : List Row). IsSeated r qs seats) e h)
