-- The whole: from the premise on picks to what is known of them, and to the answer.
use Rattle.std.proofs.Common.{◌≡◌, ◌<◌, List, length, sym, ap, subst, ◌∙◌}
use Rattle.std.specs.Prelude.{filter, Ok}
use Rattle.std.specs.List.{All}
use Rattle.std.proofs.lemmas.List.Elements.{All-weaker, All-map}
use Rattle.inv_base.specs.Tree.{Node}
use Rattle.bind_rows.specs.declared.rows.Row.{Row}
use Rattle.bind_table.specs.WellFormed.{first_fault}
use Rattle.bind_meaning.specs.declared.picked.Picked.{Picked}
use Rattle.bind_meaning.specs.declared.picked.PlacedPick.{PlacedPick}
use Rattle.bind_meaning.specs.Picks.{Pick}
use Rattle.bind_meaning.specs.Kept.{kept, all_kept, all_kept_placed}
use Rattle.bind_meaning.specs.Currencies.{Currencies, currencies}
use Rattle.bind_meaning.specs.Terms.{in_order, term_picks, place_all}
use Rattle.bind_seats.specs.declared.marks.Mark.{Mark}
use Rattle.bind_seats.specs.Marks.{has_mark}
use Rattle.bind_seats.specs.Nodes.{Sound}
use Rattle.bind_seats.specs.Rowed.{AreRowed, AreWithin, IsRowed}
use Rattle.bind_seats.specs.Currency.{named_currencies}
use Rattle.bind_seats.specs.Placeholders.{marks_beside, stays}
use Rattle.bind_seats.specs.Occurrences.{IsSeated}
use Rattle.bind_seats.proofs.OrderLemmas.{All-in_order}
use Rattle.bind_seats.proofs.TableLemmas.{picked_from, currencies-are}
use Rattle.bind_seats.proofs.PlaceholderLemmas.{IsPick, are-picks, staying-are, terms-are-picks}
use Rattle.bind_seats.proofs.GroupLemmas.{StepLaw}
use Rattle.bind_seats.proofs.SeatLemmas.{kept-rowed, seated-are}

-- the picks of a document's terms, in order
abbrev pub whole : List Node → List Row → List Pick
whole nodes rows = in_order nodes (picked_from nodes 1 rows)

whole-are : (nodes : List Node) → Sound nodes → (rows : List Row) → All (IsPick nodes rows) (whole nodes rows)
whole-are nodes s rows = All-in_order (IsPick nodes rows) nodes (picked_from nodes 1 rows) (are-picks nodes s rows)

rowed-all : (nodes : List Node) → Sound nodes → (rows : List Row) (ps : List Pick) → All (IsPick nodes rows) ps → AreRowed (length rows) (all_kept ps)
rowed-all nodes s rows ps h = All-map (IsRowed (length rows)) kept ps
    (All-weaker (IsPick nodes rows) (λ p. IsRowed (length rows) (kept p)) (λ p is. kept-rowed nodes rows p s.few is) ps h)

within-all : (nodes : List Node) (rows : List Row) (ps : List Pick) → All (IsPick nodes rows) ps → AreWithin (length nodes) (all_kept ps)
within-all nodes rows ps h = All-map (λ (q : Picked). q.node < length nodes) kept ps
    (All-weaker (IsPick nodes rows) (λ p. (kept p).node < length nodes) (λ p is. is.placed.node) ps h)

-- what the calls ask of the picks
pub picks-rowed : (nodes : List Node) → Sound nodes → (rows : List Row) (qs : List Picked) → qs ≡ all_kept (whole nodes rows) → AreRowed (length rows) qs
picks-rowed nodes s rows qs e = subst (AreRowed (length rows)) (sym e) (rowed-all nodes s rows (whole nodes rows) (whole-are nodes s rows))

pub picks-within : (nodes : List Node) → Sound nodes → (rows : List Row) (qs : List Picked) → qs ≡ all_kept (whole nodes rows) → AreWithin (length nodes) qs
picks-within nodes s rows qs e = subst (AreWithin (length nodes)) (sym e) (within-all nodes rows (whole nodes rows) (whole-are nodes s rows))

pub terms-rowed : (nodes : List Node) → Sound nodes → (rows : List Row) (c : Currencies) (qs : List Picked) → qs ≡ all_kept (term_picks nodes c rows)
    → AreRowed (length rows) qs
terms-rowed nodes s rows c qs e = subst (AreRowed (length rows)) (sym e) (rowed-all nodes s rows (term_picks nodes c rows) (terms-are-picks nodes s rows c))

-- the currencies
pub currencies-of : (nodes : List Node) → Sound nodes → (rows : List Row) (qs : List Picked) → qs ≡ all_kept (whole nodes rows)
    → named_currencies nodes rows qs ≡ currencies nodes rows
currencies-of nodes s rows qs e = ap (named_currencies nodes rows) e ∙ currencies-are nodes s rows

-- the picks that stay
pub staying-of : (nodes : List Node) → Sound nodes → (rows : List Row) (qs : List Picked) → qs ≡ all_kept (whole nodes rows) → (c d : Currencies) → c ≡ d
    → (marks : List Mark)
    → ((m : Mark) → has_mark marks m ≡ has_mark (marks_beside nodes rows qs) m) → filter (stays nodes rows c marks) qs ≡ all_kept (term_picks nodes d rows)
staying-of nodes s rows qs e c d same marks h =
    ap (λ x. filter (stays nodes rows x marks) qs) same
    ∙ (ap (filter (stays nodes rows d marks)) e ∙ staying-are nodes s rows d marks (λ m. h m ∙ ap (λ x. has_mark (marks_beside nodes rows x) m) e))

-- the seats
pub seats-of : StepLaw → (nodes : List Node) → Sound nodes → (rows : List Row) → first_fault rows ≡ Ok tt → (c : Currencies) (qs : List Picked)
    → qs ≡ all_kept (term_picks nodes c rows)
    → (seats : List PlacedPick) → IsSeated rows qs seats → seats ≡ all_kept_placed (place_all nodes (term_picks nodes c rows))
seats-of law nodes s rows formed c qs e seats is =
    seated-are law nodes s rows formed (term_picks nodes c rows) (terms-are-picks nodes s rows c) seats (subst (λ x. IsSeated rows x seats) e is)
