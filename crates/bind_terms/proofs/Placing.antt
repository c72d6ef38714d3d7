-- All that is told has a place, so all that each pick says.
use Rattle.std.proofs.Common.{◌≡◌, true, List, [], ◌∷◌, ◌++◌, All, is_some, sym, ◌∙◌, subst}
use Rattle.std.specs.List.{AllByRecursion}
use Rattle.std.proofs.lemmas.Option.{same_Some}
use Rattle.inv_base.specs.Tree.{Node}
use Rattle.term_table.specs.Places.{place_of}
use Rattle.bind_rows.specs.declared.rows.Row.{Row}
use Rattle.bind_meaning.specs.Kept.{kept_placed, all_kept_placed}
use Rattle.bind_meaning.specs.Seats.{Placed, context_of}
use Rattle.bind_meaning.specs.Values.{ParsedValue}
use Rattle.bind_meaning.specs.Judging.{told_by, parsed_by}
use Rattle.bind_meaning.specs.Terms.{told}
use Rattle.reading_laws.proofs.ListLemmas.{each-unmap, each-of-all, all-of-each}
use Rattle.reading_laws.proofs.EntryLemmas.{HasPlace}
use Rattle.bind_terms.specs.Steps.{IsOfRow, ArePlaced, parsed_by_row, SaysPlaced, told_at}

each-front : {X : Type 0} (P : X → Type 0) (xs ys : List X) → AllByRecursion P (xs ++ ys) → AllByRecursion P xs
each-front P [] ys h = tt
each-front P (x ∷ xs) ys h = (h.0, each-front P xs ys h.1)

each-back : {X : Type 0} (P : X → Type 0) (xs ys : List X) → AllByRecursion P (xs ++ ys) → AllByRecursion P ys
each-back P [] ys h = h
each-back P (x ∷ xs) ys h = each-back P xs ys h.1

one-says : (nodes : List Node) (rows : List Row) (p : Placed) → IsOfRow rows p → AllByRecursion (λ s. HasPlace (told_at p s)) (parsed_by nodes p)
    → SaysPlaced nodes rows (kept_placed p)
one-says nodes rows p of_row h row e =
    subst (λ r. ArePlaced (context_of p) (parsed_by_row nodes (kept_placed p) r)) (same_Some _ _ (sym of_row ∙ e))
    (all-of-each (λ (s : ParsedValue). is_some (place_of s.term (context_of p)) ≡ true) (parsed_by nodes p) h)

each-says : (nodes : List Node) (rows : List Row) (ps : List Placed) → AllByRecursion (IsOfRow rows) ps → AllByRecursion HasPlace (told nodes ps)
    → AllByRecursion (SaysPlaced nodes rows) (all_kept_placed ps)
each-says nodes rows [] of_rows h = tt
each-says nodes rows (p ∷ ps) of_rows h = (
  one-says nodes rows p of_rows.0 (each-unmap HasPlace (told_at p) (parsed_by nodes p) (each-front HasPlace (told_by nodes p) (told nodes ps) h)),
  each-says nodes rows ps of_rows.1 (each-back HasPlace (told_by nodes p) (told nodes ps) h),
)

pub picks-say-placed : (nodes : List Node) (rows : List Row) (ps : List Placed) → All (IsOfRow rows) ps → All HasPlace (told nodes ps)
    → All (SaysPlaced nodes rows) (all_kept_placed ps)
picks-say-placed nodes rows ps of_rows h =
    all-of-each (SaysPlaced nodes rows) (all_kept_placed ps)
    (each-says nodes rows ps (each-of-all (IsOfRow rows) ps of_rows) (each-of-all HasPlace (told nodes ps) h))
