-- Values that are read fit their terms, and codes are in their lists.
use Rattle.std.proofs.Common.{◌≡◌, ℕ, false, List, All, Ok, ap, sym, ◌∙◌, subst}
use Rattle.std.specs.Prelude.{option_and_then}
use Rattle.std.specs.List.{AllByRecursion}
use Rattle.inv_base.specs.Tree.{Node}
use Rattle.code_lists.specs.CodeFiles.{Lists}
use Rattle.term_table.specs.declared.terms.Term.{Term}
use Rattle.inv_terms.specs.declared.entries.Entry.{Entry}
use Rattle.inv_terms.specs.Listing.{Fits}
use Rattle.inv_terms.specs.Validity.{list_of, code_in, is_outside, is_unlisted}
use Rattle.bind_rows.specs.declared.rows.Row.{Row}
use Rattle.bind_rows.specs.declared.rows.Form.{Form}
use Rattle.bind_meaning.specs.Elements.{string_at}
use Rattle.bind_meaning.specs.Seats.{Placed, context_of}
use Rattle.bind_meaning.specs.Judging.{Told}
use Rattle.bind_meaning.specs.Values.{parsed}
use Rattle.bind_meaning.specs.Terms.{Read, told, terms_of}
use Rattle.reading_laws.specs.ParsedValues.{FitsIts, AllFit}
use Rattle.reading_laws.proofs.ListLemmas.{each-weaker, each-any, each-of-all, all-of-each}
use Rattle.reading_laws.proofs.SayingLemmas.{of-told}
use Rattle.reading_laws.proofs.EntryLemmas.{OfEntry, of-entries}
use Rattle.reading_laws.proofs.FaultLemmas.{IsFine, IsReadOf, places_in, read-of}

abbrev pub FitsEntry : Entry → Type 0
FitsEntry e = Fits e.term e.value

abbrev AnyPlaced : Placed → Type 0
AnyPlaced p = Unit {0}

module _ (fits : (form : Form) (term : Term) (string : List ℕ) → AllFit (parsed form term string)) where
  told-fit : (nodes : List Node) (ps : List Placed) → AllByRecursion (λ t. FitsIts t.parsed) (told nodes ps)
  told-fit nodes ps =
      of-told (λ t. FitsIts t.parsed) AnyPlaced nodes
      (λ p term k e. each-of-all FitsIts (parsed p.pick.row.form term (string_at nodes p.pick.node)) (fits p.pick.row.form term (string_at nodes p.pick.node)))
      ps (each-any AnyPlaced (λ p. tt) ps)

  pub entries-fit : (nodes : List Node) (rows : List Row) (lists : Lists) (read : Read) → terms_of nodes rows lists ≡ Ok read
      → All (λ (e : Entry). Fits e.term e.value) read.entries
  entries-fit nodes rows lists read h =
      let r = read-of nodes rows lists read h in
      let ts = told nodes (places_in nodes rows) in
      all-of-each FitsEntry read.entries
      (subst (AllByRecursion FitsEntry) (sym r.entries_are)
      (of-entries FitsEntry ts (each-weaker (λ t. FitsIts t.parsed) (OfEntry FitsEntry) (λ t k value e. k value e) ts (told-fit nodes (places_in nodes rows)))))

-- ---- codes

abbrev pub IsAllowed : Lists → Entry → Type 0
IsAllowed lists e = is_unlisted lists e ≡ false

code-allowed : (lists : Lists) (t : Told) → IsFine lists t → OfEntry (IsAllowed lists) t
code-allowed lists t fine value e = sym (ap (λ o. is_outside lists (list_of t.parsed.term (context_of t.placed)) (option_and_then code_in o)) e) ∙ fine.allowed

pub each-allowed : (nodes : List Node) (rows : List Row) (lists : Lists) (es : List Entry) → IsReadOf nodes rows lists es → AllByRecursion (IsAllowed lists) es
each-allowed nodes rows lists es r =
    let ts = told nodes (places_in nodes rows) in
    subst (AllByRecursion (IsAllowed lists)) (sym r.entries_are)
    (of-entries (IsAllowed lists) ts (each-weaker (IsFine lists) (OfEntry (IsAllowed lists)) (code-allowed lists) ts r.fine))
