-- Placeholders by marks are placeholders by all picks, and so the picks that count are the same.
use Rattle.std.proofs.Common.{◌≡◌, ℕ, ◌+◌, ◌-◌, ◌<◌, zero, suc, Bool, true, false, ◌&&◌, not, List, [], ◌∷◌, length, get_or, Option, Some, None, refl, sym, ap}
use Rattle.std.proofs.Common.{◌∙◌, inl, inr, arith}
use Rattle.std.specs.Prelude.{◌==◌, filter, slice_get, bytes_eq}
use Rattle.std.specs.List.{list_any, All}
use Rattle.std.proofs.lemmas.Bool.{false≢true, cases_Bool, or_left, or_right}
use Rattle.std.proofs.lemmas.Bool.Decides.{nat_tests}
use Rattle.std.proofs.lemmas.Option.{get_or_from_slice_get}
use Rattle.std.proofs.lemmas.List.Elements.{All-weaker, All-filter}
use Rattle.std.proofs.lemmas.List.Folds.{list_any-append}
use Rattle.inv_base.specs.Tree.{Node}
use Rattle.term_table.specs.declared.terms.Term.{Term}
use Rattle.term_table.specs.SemanticModel.{same_term}
use Rattle.inv_terms.specs.Values.{trimmed}
use Rattle.bind_rows.specs.declared.rows.Row.{Row}
use Rattle.bind_rows.specs.declared.rows.Placeholder.{Placeholder}
use Rattle.bind_rows.specs.declared.rows.Written.{Written}
use Rattle.bind_rows.specs.declared.rows.Written.TheVariants as written
use Rattle.bind_meaning.specs.declared.picked.Picked.{Picked}
use Rattle.bind_meaning.specs.Elements.{string_at}
use Rattle.bind_meaning.specs.Picks.{Pick, term_in, has_term, around_last, last_of, stands_beside, is_placeholder, without_placeholders}
use Rattle.bind_meaning.specs.Kept.{kept, all_kept}
use Rattle.bind_meaning.specs.Currencies.{Currencies, is_in_its_currency, in_their_currencies}
use Rattle.bind_meaning.specs.Terms.{in_order, term_picks}
use Rattle.bind_seats.specs.declared.marks.Mark.{Mark}
use Rattle.bind_seats.specs.Marks.{same_mark, has_mark}
use Rattle.bind_seats.specs.Rowed.{row_at, no_row, pick_of, above, holder}
use Rattle.bind_seats.specs.Placeholders.{beside, terms_beside, term_mark, mark_beside, marks_beside, is_placeholder_at, stays}
use Rattle.bind_seats.proofs.ListLemmas.{passes, any-filter_map, any-map, any-alike, filter-twice, filter-map, filter-alike, All-both}
use Rattle.bind_seats.specs.Nodes.{Sound}
use Rattle.bind_seats.proofs.WayLemmas.{IsPlaced, holder-is, same-holder}
use Rattle.bind_seats.proofs.OrderLemmas.{in_order-filter, All-in_order, any-in_order}
use Rattle.bind_seats.proofs.TableLemmas.{picked_from, IsOfRow, picked-of_rows, picked-placed}

-- what is known of a pick: its row is in the table, its way in the document
pub record IsPick (nodes : List Node) (rows : List Row) (p : Pick) : Type 0 where
  pub of_row : IsOfRow 1 rows p
  pub placed : IsPlaced nodes p

pub are-picks : (nodes : List Node) → Sound nodes → (rows : List Row) → All (IsPick nodes rows) (picked_from nodes 1 rows)
are-picks nodes s rows =
    All-weaker (λ p. IsOfRow 1 rows p × IsPlaced nodes p) (IsPick nodes rows) (λ p w. record { of_row = w.0; placed = w.1 }) (picked_from nodes 1 rows)
    (All-both (IsOfRow 1 rows) (IsPlaced nodes) (picked_from nodes 1 rows) (picked-of_rows nodes 1 rows) (picked-placed nodes s 1 rows))

pub row-is : (rows : List Row) (p : Pick) → IsOfRow 1 rows p → row_at rows p.place ≡ p.row
row-is rows p h =
    ap (row_at rows) h.place
    ∙ (let z : (1 + h.at) - 1 ≡ h.at = omega arith in ap (λ k. get_or rows k no_row) z ∙ get_or_from_slice_get rows h.at p.row no_row h.row)

-- ---- the terms beside placeholders

-- Whatever is the same term as the placeholder's is one of those of the table.
terms-have : (rows : List Row) (i : ℕ) (row : Row) (placeholder : Placeholder) → slice_get rows i ≡ Some row → row.written ≡ written.OrPlaceholder placeholder
    → (term : Term) → same_term term placeholder.beside ≡ true → list_any (same_term term) (terms_beside rows) ≡ true
terms-have [] i row placeholder h w term e = absurd (let bad : None ≡ Some row = h in cc)
terms-have (x ∷ rows) zero row placeholder h w term e =
    let same : x ≡ row = cc in
    list_any-append (same_term term) (beside x.written) (terms_beside rows)
    ∙ or_left (list_any (same_term term) (beside x.written)) _
    (ap (λ (r : Row). list_any (same_term term) (beside r.written)) same
    ∙ (ap (λ v. list_any (same_term term) (beside v)) w ∙ or_left (same_term term placeholder.beside) false e))
terms-have (x ∷ rows) (suc i) row placeholder h w term e =
    list_any-append (same_term term) (beside x.written) (terms_beside rows)
    ∙ or_right (list_any (same_term term) (beside x.written)) _ (terms-have rows i row placeholder h w term e)

marks-alike : (h k : ℕ) (a b : Term) → same_mark (term_mark h a) (term_mark k b) ≡ (same_term b a && (k == h))
marks-alike h k a b = grind (arith, nat_tests)

-- a pick's mark is that of the term in the element exactly where the pick has the term and stands in the element
mark-point : (nodes : List Node) (terms : List Term) (term : Term) (h : ℕ)
    → ((other : Term) → same_term other term ≡ true → list_any (same_term other) terms ≡ true)
    → (row : Row) (n : ℕ) → passes (same_mark (term_mark h term)) (mark_beside nodes terms row n) ≡ (has_term term row && (holder nodes row.leaf n == h))
mark-point nodes terms term h all row n = go (term_in row.content)
  where
    third : (c : Bool) (other : Term) → list_any (same_term other) terms ≡ c
        → passes (same_mark (term_mark h term)) (elim c [ true ↦ Some (term_mark (holder nodes row.leaf n) other) | false ↦ None ])
        ≡ (same_term other term && (holder nodes row.leaf n == h))
    third true other e = marks-alike h (holder nodes row.leaf n) term other
    third false other e = elim (cases_Bool (same_term other term)) [
      | inl is ↦ absurd (false≢true (sym e ∙ all other is))
      | inr is ↦ rw is refl
    ]

    go : (o : Option Term) → passes (same_mark (term_mark h term)) (elim o [
      | None ↦ None
      | Some other ↦ elim (list_any (same_term other) terms) [ true ↦ Some (term_mark (holder nodes row.leaf n) other) | false ↦ None ]
    ]) ≡ ((elim o [ None ↦ false | Some other ↦ same_term other term ]) && (holder nodes row.leaf n == h))
    go None = refl
    go (Some other) = third (list_any (same_term other) terms) other refl

-- The term is picked in the element of a pick.
marks-are : (nodes : List Node) → Sound nodes → (rows : List Row) (p : Pick) → IsPick nodes rows p → (placeholder : Placeholder)
    → ((other : Term) → same_term other placeholder.beside ≡ true → list_any (same_term other) (terms_beside rows) ≡ true)
    → has_mark (marks_beside nodes rows (all_kept (in_order nodes (picked_from nodes 1 rows)))) (term_mark (holder nodes p.row.leaf p.node) placeholder.beside)
    ≡ stands_beside (picked_from nodes 1 rows) placeholder p
marks-are nodes s rows p is placeholder all =
    let ps : List Pick = picked_from nodes 1 rows in
    let h : ℕ = holder nodes p.row.leaf p.node in
    let test : Mark → Bool = same_mark (term_mark h placeholder.beside) in
    let mark : Picked → Option Mark = λ (q : Picked). mark_beside nodes (terms_beside rows) (row_at rows q.row) q.node in
    let within : All (λ (q : Pick). q.node < length nodes) ps =
    All-weaker (IsPick nodes rows) (λ (q : Pick). q.node < length nodes) (λ q w. w.placed.node) ps (are-picks nodes s rows) in
    any-filter_map test mark (all_kept (in_order nodes ps))
    ∙ (any-map (λ q. passes test (mark q)) kept (in_order nodes ps)
    ∙ (any-in_order (λ q. passes test (mark (kept q))) nodes ps s.numbered within
    ∙ any-alike (λ q. passes test (mark (kept q))) (λ (q : Pick). has_term placeholder.beside q.row && bytes_eq (around_last q.elements) (around_last
    p.elements)) ps
    (All-weaker (IsPick nodes rows) (λ q. passes test (mark (kept q))
    ≡ (has_term placeholder.beside q.row && bytes_eq (around_last q.elements) (around_last p.elements)))
    (λ q w. ap (λ (r : Row). passes test (mark_beside nodes (terms_beside rows) r q.node)) (row-is rows q w.of_row)
    ∙ (mark-point nodes (terms_beside rows) placeholder.beside h all q.row q.node
    ∙ ap (λ b. has_term placeholder.beside q.row && b)
    (ap (λ k. k == h) (holder-is nodes q w.placed) ∙ (ap (λ k. above nodes (last_of q.elements) == k) (holder-is nodes p is.placed)
    ∙ sym (same-holder nodes s q.elements p.elements w.placed.way is.placed.way)))))
    ps (are-picks nodes s rows))))

-- ---- picks that count

abbrev placeholder_by : (Placeholder → Bool) → List ℕ → Written → Bool
placeholder_by beside string w = elim w [
  | (written.OrPlaceholder placeholder) ↦ elim (bytes_eq string placeholder.text) [ true ↦ beside placeholder | false ↦ false ]
  | _ ↦ false
]

placeholder-is : (nodes : List Node) → Sound nodes → (rows : List Row) (marks : List Mark)
    → ((m : Mark) → has_mark marks m ≡ has_mark (marks_beside nodes rows (all_kept (in_order nodes (picked_from nodes 1 rows)))) m)
    → (p : Pick) → IsPick nodes rows p → is_placeholder_at nodes marks p.row p.node ≡ is_placeholder nodes (picked_from nodes 1 rows) p
placeholder-is nodes s rows marks same p is = go p.row.written refl
  where
    go : (w : Written) → p.row.written ≡ w
        → placeholder_by (λ placeholder. has_mark marks (term_mark (holder nodes p.row.leaf p.node) placeholder.beside)) (trimmed (string_at nodes p.node)) w
        ≡ placeholder_by (λ placeholder. stands_beside (picked_from nodes 1 rows) placeholder p) (trimmed (string_at nodes p.node)) w
    go (written.OrPlaceholder placeholder) e =
        ap (λ b. elim (bytes_eq (trimmed (string_at nodes p.node)) placeholder.text) [ true ↦ b | false ↦ false ])
        (same (term_mark (holder nodes p.row.leaf p.node) placeholder.beside)
        ∙ marks-are nodes s rows p is placeholder (terms-have rows is.of_row.at p.row placeholder is.of_row.row e))
    go written.Always e = refl
    go written.Never e = refl
    go written.IfIban e = refl
    go written.IfNotIban e = refl
    go written.IfScheme e = refl
    go written.IfNoScheme e = refl
    go written.VatTotal e = refl
    go written.AccountingVatTotal e = refl

stays-is : (nodes : List Node) → Sound nodes → (rows : List Row) (c : Currencies) (marks : List Mark)
    → ((m : Mark) → has_mark marks m ≡ has_mark (marks_beside nodes rows (all_kept (in_order nodes (picked_from nodes 1 rows)))) m)
    → (p : Pick) → IsPick nodes rows p → stays nodes rows c marks (kept p)
    ≡ (not (is_placeholder nodes (picked_from nodes 1 rows) p) && is_in_its_currency nodes c p)
stays-is nodes s rows c marks same p is =
    ap (λ (r : Row). not (is_placeholder_at nodes marks r p.node) && is_in_its_currency nodes c (pick_of r p.node)) (row-is rows p is.of_row)
    ∙ ap (λ b. not b && is_in_its_currency nodes c p) (placeholder-is nodes s rows marks same p is)

-- The picks that stay are the picks of terms.
pub staying-are : (nodes : List Node) → Sound nodes → (rows : List Row) (c : Currencies) (marks : List Mark)
    → ((m : Mark) → has_mark marks m ≡ has_mark (marks_beside nodes rows (all_kept (in_order nodes (picked_from nodes 1 rows)))) m)
    → filter (stays nodes rows c marks) (all_kept (in_order nodes (picked_from nodes 1 rows))) ≡ all_kept (term_picks nodes c rows)
staying-are nodes s rows c marks same =
    let ps : List Pick = picked_from nodes 1 rows in
    let counts : Pick → Bool = λ p. not (is_placeholder nodes ps p) in
    let suits : Pick → Bool = is_in_its_currency nodes c in
    filter-map kept (stays nodes rows c marks) (in_order nodes ps)
    ∙ ap all_kept (filter-alike (λ p. stays nodes rows c marks (kept p)) (λ p. counts p && suits p) (in_order nodes ps)
    (All-weaker (IsPick nodes rows) (λ p. stays nodes rows c marks (kept p) ≡ (counts p && suits p)) (λ p is. stays-is nodes s rows c marks same p is)
    (in_order nodes ps)
    (All-in_order (IsPick nodes rows) nodes ps (are-picks nodes s rows)))
    ∙ (sym (filter-twice suits counts (in_order nodes ps))
    ∙ (ap (filter suits) (sym (in_order-filter nodes counts ps)) ∙ sym (in_order-filter nodes suits (filter counts ps)))))

-- what is known of the picks of terms
pub terms-are-picks : (nodes : List Node) → Sound nodes → (rows : List Row) (c : Currencies) → All (IsPick nodes rows) (term_picks nodes c rows)
terms-are-picks nodes s rows c =
    let ps : List Pick = picked_from nodes 1 rows in
    All-in_order (IsPick nodes rows) nodes (in_their_currencies nodes c (without_placeholders nodes ps))
    (All-filter (is_in_its_currency nodes c) (IsPick nodes rows) (without_placeholders nodes ps)
    (All-filter (λ p. not (is_placeholder nodes ps p)) (IsPick nodes rows) ps (are-picks nodes s rows)))
