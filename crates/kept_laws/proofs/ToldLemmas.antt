-- Where a document is read without a fault, what is told again of a seat agrees with what was told first.
use Rattle.std.proofs.Common.{◌≡◌, suc, Bool, true, false, List, [], ◌∷◌, ◌++◌, flat_map, map, length, Option, Some, None, is_some, is_none, Result, Ok, Err}
use Rattle.std.proofs.Common.{refl, ap, sym, arith}
use Rattle.std.specs.List.{AllByRecursion}
use Rattle.std.proofs.lemmas.Bool.{false≢true}
use Rattle.inv_base.specs.Tree.{Node}
use Rattle.code_lists.specs.CodeFiles.{Lists}
use Rattle.inv_terms.specs.declared.violations.Name.TheVariants as names
use Rattle.bind_rows.specs.declared.rows.Row.{Row}
use Rattle.bind_meaning.specs.declared.fault.BindFault.{BindFault}
use Rattle.bind_meaning.specs.declared.fault.BindKind.{BindKind}
use Rattle.bind_meaning.specs.Currencies.{Currencies, currencies}
use Rattle.bind_meaning.specs.Seats.{rooms}
use Rattle.bind_meaning.specs.Judging.{Found, found, Told, first_before, breaks, Cause, first_cause, causes, place_at, fault_of, faults_behind, is_disagreeing}
use Rattle.bind_meaning.specs.Judging.{wrong_word, missing_in, seat_of, least}
use Rattle.bind_meaning.specs.Terms.{Read, entries, told, constant_picks, passed_over, all_faults, terms_of}
use Rattle.reading_laws.proofs.ListLemmas.{none-of-both, neither, not-not}
use Rattle.reading_laws.proofs.EntryLemmas.{HasValue}
use Rattle.reading_laws.proofs.FaultLemmas.{places_in}

no-least : (xs : List Found) → least xs ≡ None → xs ≡ []
no-least [] h = refl
no-least (a ∷ others) h = absurd (false≢true (sym (ap is_some h)))

all-false : (list : List Cause) → first_cause list ≡ None → AllByRecursion (λ (cause : Cause). cause.holds tt ≡ false) list
all-false [] h = tt
all-false (cause ∷ list) h = go (cause.holds tt) refl h (all-false list)
  where
    go : (b : Bool) → cause.holds tt ≡ b → ◌≡◌ {A = Option BindKind} (elim b [ true ↦ Some cause.kind | false ↦ first_cause list ]) None
        → (first_cause list ≡ None → AllByRecursion (λ (cause : Cause). cause.holds tt ≡ false) list)
        → (cause.holds tt ≡ false) × AllByRecursion (λ (cause : Cause). cause.holds tt ≡ false) list
    go true e k f = absurd (false≢true (sym (ap is_some k)))
    go false e k f = (e, f k)

-- what is told has a value, and agrees with what was told first
pub record Agrees (before : List Told) (t : Told) : Type 0 where
  pub value : HasValue t
  pub agrees : is_disagreeing (first_before before t) t ≡ false

-- of each, with those before it
abbrev pub AllAgree : List Told → List Told → Type 0
AllAgree before [] = Unit {0}
AllAgree before (t ∷ ts) = Agrees before t × AllAgree (before ++ (t ∷ [])) ts

module _ (nodes : List Node) (lists : Lists) (c : Currencies) where
  agreeing : (before : List Told) (t : Told) → fault_of nodes lists c (first_before before t) t ≡ [] → Agrees before t
  agreeing before t h =
      let all = all-false (causes nodes lists c (first_before before t) t) (go (first_cause (causes nodes lists c (first_before before t) t)) h) in
      record {
        value = not-not (is_some t.parsed.value) (neither (is_none t.parsed.value) (breaks nodes t.placed.pick.row.check t.placed.pick.node) all.1.1.0).0;
        agrees = all.1.1.1.1.1.0;
      }
    where
      go : (o : Option BindKind)
          → ◌≡◌ {A = List Found} (elim o [
            | None ↦ []
            | Some kind ↦ found (place_at t.placed.pick kind) kind (names.Term t.parsed.term) t.placed.pick.node ∷ []
          ]) []
          → o ≡ None
      go None k = refl
      go (Some kind) k = absurd (let z : suc 0 ≡ 0 = ap length k in omega arith)

  all-agree : (before ts : List Told) → faults_behind nodes lists c before ts ≡ [] → AllAgree before ts
  all-agree before [] h = tt
  all-agree before (t ∷ ts) h =
      let w = none-of-both (fault_of nodes lists c (first_before before t) t) (faults_behind nodes lists c (before ++ (t ∷ [])) ts) h in
      (agreeing before t w.0, all-agree (before ++ (t ∷ [])) ts w.1)

-- what is read of a document without a fault
pub record IsReadWithout (nodes : List Node) (rows : List Row) (read : Read) : Type 0 where
  pub entries_are : read.entries ≡ entries (told nodes (places_in nodes rows))
  pub passed : read.passed_over ≡ passed_over nodes rows
  pub agree : AllAgree [] (told nodes (places_in nodes rows))

abbrev read_of : Read → Result Read BindFault → Read
read_of other (Ok read) = read
read_of other (Err fault) = other

read-placed : (nodes : List Node) (lists : Lists) (rows : List Row) (read : Read) (o : Option Found)
    → least (all_faults nodes lists (currencies nodes rows) rows (places_in nodes rows)) ≡ o
    → ◌≡◌ {A = Result Read BindFault} (elim o [
      | Some first ↦ Err first.fault
      | None ↦ Ok (record { entries = entries (told nodes (places_in nodes rows)); passed_over = passed_over nodes rows })
    ]) (Ok read)
    → IsReadWithout nodes rows read
read-placed nodes lists rows read (Some first) e k = absurd (let z : ◌≡◌ {A = Result Read BindFault} (Err first.fault) (Ok read) = k in cc)
read-placed nodes lists rows read None e k =
    let c = currencies nodes rows in
    let ps = places_in nodes rows in
    let none = no-least (all_faults nodes lists c rows ps) e in
    let a = none-of-both (faults_behind nodes lists c [] (told nodes ps))
    (flat_map (wrong_word nodes) (constant_picks nodes rows) ++ flat_map (missing_in nodes (map seat_of (told nodes ps))) (rooms ps)) none in
    record {
      entries_are = sym (ap (λ r. (read_of read r).entries) k);
      passed = sym (ap (λ r. (read_of read r).passed_over) k);
      agree = all-agree nodes lists c [] (told nodes ps) a.0;
    }

pub read-without : (nodes : List Node) (rows : List Row) (lists : Lists) (read : Read) → terms_of nodes rows lists ≡ Ok read → IsReadWithout nodes rows read
unfolding terms_of
read-without nodes rows lists read h =
    read-placed nodes lists rows read (least (all_faults nodes lists (currencies nodes rows) rows (places_in nodes rows))) refl h
