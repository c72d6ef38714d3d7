-- Where a document is read there is no fault in it: what that says of all that is told, and of each context.
use Rattle.std.proofs.Common.{◌≡◌, suc, Bool, true, false, List, [], ◌∷◌, ◌++◌, map, flat_map, length, Option, Some, None, is_some, is_none, Result, Ok, Err}
use Rattle.std.proofs.Common.{refl, ap, sym, arith}
use Rattle.std.specs.List.{AllByRecursion}
use Rattle.std.proofs.lemmas.Bool.{false≢true}
use Rattle.inv_base.specs.Tree.{Node}
use Rattle.code_lists.specs.CodeFiles.{Lists}
use Rattle.inv_terms.specs.declared.entries.Entry.{Entry}
use Rattle.inv_terms.specs.declared.violations.Name.TheVariants as names
use Rattle.bind_rows.specs.declared.rows.Row.{Row}
use Rattle.bind_meaning.specs.declared.fault.BindFault.{BindFault}
use Rattle.bind_meaning.specs.declared.fault.BindKind.{BindKind}
use Rattle.bind_meaning.specs.Currencies.{Currencies, currencies}
use Rattle.bind_meaning.specs.Seats.{Placed, rooms}
use Rattle.bind_meaning.specs.Judging.{Found, found, Told, first_before, is_not_listed, breaks, Cause, first_cause, causes, place_at, fault_of, faults_behind}
use Rattle.bind_meaning.specs.Judging.{wrong_word, missing_in, seat_of, least}
use Rattle.bind_meaning.specs.Terms.{Read, entries, told, term_picks, constant_picks, place_all, passed_over, all_faults, terms_of}
use Rattle.reading_laws.proofs.ListLemmas.{none-of-both, neither, not-not}
use Rattle.reading_laws.proofs.EntryLemmas.{HasValue}

no-least : (xs : List Found) → least xs ≡ None → xs ≡ []
no-least [] h = refl
no-least (a ∷ others) h = absurd (false≢true (sym (ap is_some h)))

all-false : (list : List Cause) → first_cause list ≡ None → AllByRecursion (λ (cause : Cause). cause.holds tt ≡ false) list
all-false [] h = tt
all-false (cause ∷ list) h = go (cause.holds tt) refl h (all-false list)
  where
    go : (b : Bool) → cause.holds tt ≡ b → ◌≡◌ {A = Option BindKind} (elim b [ true ↦ Some cause.kind | false ↦ first_cause list ]) None
        → (first_cause list ≡ None → AllByRecursion (λ (cause : Cause). cause.holds tt ≡ false) list)
        → (cause.holds tt ≡ false) × AllByRecursion (λ (cause : Cause). cause.holds tt ≡ false) list
    go true e k f = absurd (false≢true (sym (ap is_some k)))
    go false e k f = (e, f k)

-- what is told has a value, and isn't a code outside its list
pub record IsFine (lists : Lists) (t : Told) : Type 0 where
  pub value : HasValue t
  pub allowed : is_not_listed lists t ≡ false

module _ (nodes : List Node) (lists : Lists) (c : Currencies) where
  fine : (before : Option Told) (t : Told) → fault_of nodes lists c before t ≡ [] → IsFine lists t
  fine before t h =
      let all = all-false (causes nodes lists c before t) (go (first_cause (causes nodes lists c before t)) h) in
      record {
        value = not-not (is_some t.parsed.value) (neither (is_none t.parsed.value) (breaks nodes t.placed.pick.row.check t.placed.pick.node) all.1.1.0).0;
        allowed = all.1.1.1.0;
      }
    where
      go : (o : Option BindKind)
          → ◌≡◌ {A = List Found} (elim o [
            | None ↦ []
            | Some kind ↦ found (place_at t.placed.pick kind) kind (names.Term t.parsed.term) t.placed.pick.node ∷ []
          ]) []
          → o ≡ None
      go None k = refl
      go (Some kind) k = absurd (let z : suc 0 ≡ 0 = ap length k in omega arith)

  all-fine : (before ts : List Told) → faults_behind nodes lists c before ts ≡ [] → AllByRecursion (IsFine lists) ts
  all-fine before [] h = tt
  all-fine before (t ∷ ts) h =
      let w = none-of-both (fault_of nodes lists c (first_before before t) t) (faults_behind nodes lists c (before ++ (t ∷ [])) ts) h in
      (fine (first_before before t) t w.0, all-fine (before ++ (t ∷ [])) ts w.1)

-- ---- what is read

abbrev pub places_in : List Node → List Row → List Placed
places_in nodes rows = place_all nodes (term_picks nodes (currencies nodes rows) rows)

pub record IsReadOf (nodes : List Node) (rows : List Row) (lists : Lists) (es : List Entry) : Type 0 where
  pub entries_are : es ≡ entries (told nodes (places_in nodes rows))
  pub fine : AllByRecursion (IsFine lists) (told nodes (places_in nodes rows))
  pub whole : flat_map (missing_in nodes (map seat_of (told nodes (places_in nodes rows)))) (rooms (places_in nodes rows)) ≡ []

abbrev read_entries : Result Read BindFault → List Entry
read_entries (Ok read) = read.entries
read_entries (Err fault) = []

read-placed : (nodes : List Node) (lists : Lists) (rows : List Row) (read : Read) (o : Option Found)
    → least (all_faults nodes lists (currencies nodes rows) rows (places_in nodes rows)) ≡ o
    → ◌≡◌ {A = Result Read BindFault} (elim o [
      | Some first ↦ Err first.fault
      | None ↦ Ok (record { entries = entries (told nodes (places_in nodes rows)); passed_over = passed_over nodes rows })
    ]) (Ok read)
    → IsReadOf nodes rows lists read.entries
read-placed nodes lists rows read (Some first) e k = absurd (let z : ◌≡◌ {A = Result Read BindFault} (Err first.fault) (Ok read) = k in cc)
read-placed nodes lists rows read None e k =
    let c = currencies nodes rows in
    let ps = places_in nodes rows in
    let none = no-least (all_faults nodes lists c rows ps) e in
    let a = none-of-both (faults_behind nodes lists c [] (told nodes ps))
    (flat_map (wrong_word nodes) (constant_picks nodes rows) ++ flat_map (missing_in nodes (map seat_of (told nodes ps))) (rooms ps)) none in
    let b = none-of-both (flat_map (wrong_word nodes) (constant_picks nodes rows)) (flat_map (missing_in nodes (map seat_of (told nodes ps))) (rooms ps)) a.1 in
    record {
      entries_are = sym (ap read_entries k);
      fine = all-fine nodes lists c [] (told nodes ps) a.0;
      whole = b.1;
    }

pub read-of : (nodes : List Node) (rows : List Row) (lists : Lists) (read : Read) → terms_of nodes rows lists ≡ Ok read → IsReadOf nodes rows lists read.entries
unfolding terms_of
read-of nodes rows lists read h = read-placed nodes lists rows read (least (all_faults nodes lists (currencies nodes rows) rows (places_in nodes rows))) refl h
