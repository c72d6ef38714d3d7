-- With each line more the entries are an invoice again.
use Rattle.std.proofs.Common.{◌≡◌, ℕ, zero, suc, ◌+◌, ◌*◌, ◌^◌, ◌<◌, ◌≤◌, true, List, [], ◌∷◌, ◌++◌, refl, sym, ap, ◌∙◌, arith, subst, ◌⊎◌, inl, inr}
use Rattle.std.proofs.Common.{append_assoc, append-nil, lit<}
use Rattle.std.specs.Prelude.{codes, decimal, flat_map}
use Rattle.std.specs.List.{range_with_len}
use Rattle.std.proofs.lemmas.Grind.{flat_map-append}
use Rattle.inv_base.specs.Characters.{is_char, is_white_space}
use Rattle.term_table.specs.declared.groups.Group.TheVariants as groups
use Rattle.term_table.specs.declared.terms.DataType.TheVariants as data_types
use Rattle.term_table.specs.Places.{precedes}
use Rattle.inv_terms.specs.declared.values.Value.TheVariants as values
use Rattle.inv_terms.specs.declared.entries.Entry.{Entry}
use Rattle.inv_terms.specs.Values.{value_of}
use Rattle.inv_terms.specs.Listing.{Fits, IsInvoice}
use Rattle.trial_invoice.specs.Amounts.{quantity, price, net, sum_of_nets, ones}
use Rattle.trial_invoice.specs.Generated.{entry, occurrence, amount, standard_rated, rate, head, line, lines_of, trial_entries}
use Rattle.trial_invoice.proofs.PlaceLemmas as t
use Rattle.trial_invoice.proofs.PlaceLemmas.{bt, in_line, head_place, line_place, later, next}
use Rattle.trial_invoice.proofs.ValueLemmas.{ReadsBack, fits-amount, fits-quantity, fits-rate, fits-number, fits-item}
use Rattle.trial_invoice.proofs.ListingLemmas.{Pushes, EndsAt, one-more}
use Rattle.trial_invoice.proofs.HeadLemmas.{head-ends}
use Rattle.trial_invoice.proofs.SumLemmas.{net-le, price-le, quantity-le, sum-le, range-more}

fits-130 : Fits (bt 130) (values.Code (codes "C62"))
unfolding value_of is_char is_white_space
fits-130 = record { data_type = data_types.C; text = codes "C62"; typed = t.type-130; read = refl }

fits-151 : Fits (bt 151) (standard_rated)
unfolding value_of is_char is_white_space
fits-151 = record { data_type = data_types.C; text = codes "S"; typed = t.type-151; read = refl }

-- ---- a line more

line-more : ReadsBack → Pushes → (es : List Entry) (place : List ℕ) (k i : ℕ)
    → EndsAt es place k → precedes place (line_place i 141) ≡ true → (k ≡ i) ⊎ (k + 1 ≡ i) → 1 ≤ i → i < 2 ^ 64
    → EndsAt (es ++ line i) (line_place i 169) i
line-more law push es place k i ends order numbered from small =
    let quantity_small : quantity i < 10 ^ 18 = omega (arith, quantity-le i) in
    let net_small : 100 * net i < 10 ^ 18 = omega (arith, net-le i) in
    let price_small : 100 * price i < 10 ^ 18 = omega (arith, price-le i) in
    let e0 : Entry = entry (occurrence groups.InvoiceLine i) 126 (values.Identifier (decimal i)) in
    let s0 : List Entry = es ++ e0 ∷ [] in
    let a0 : EndsAt s0 (line_place i 141) i = one-more push es place k i 126 (values.Identifier (decimal i)) (line_place i 141) ends
    (fits-number (bt 126) i t.type-126 small) (t.place-126 i) order numbered from in
    let e1 : Entry = entry (occurrence groups.InvoiceLine i) 129 (values.Quantity (ones (quantity i))) in
    let s1 : List Entry = s0 ++ e1 ∷ [] in
    let a1 : EndsAt s1 (line_place i 145) i = one-more push s0 (line_place i 141) i i 129 (values.Quantity (ones (quantity i))) (line_place i 145) a0
    (fits-quantity law (bt 129) (quantity i) t.type-129 quantity_small) (t.place-129 i) (later i 141 145 (lit< tt)) (inl refl) from in
    let e2 : Entry = entry (occurrence groups.InvoiceLine i) 130 (values.Code (codes "C62")) in
    let s2 : List Entry = s1 ++ e2 ∷ [] in
    let a2 : EndsAt s2 (line_place i 146) i = one-more push s1 (line_place i 145) i i 130 (values.Code (codes "C62")) (line_place i 146) a1 (fits-130)
    (t.place-130 i) (later i 145 146 (lit< tt)) (inl refl) from in
    let e3 : Entry = entry (occurrence groups.InvoiceLine i) 131 (amount (100 * net i)) in
    let s3 : List Entry = s2 ++ e3 ∷ [] in
    let a3 : EndsAt s3 (line_place i 147) i = one-more push s2 (line_place i 146) i i 131 (amount (100 * net i)) (line_place i 147) a2
    (fits-amount law (bt 131) (100 * net i) t.type-131 net_small) (t.place-131 i) (later i 146 147 (lit< tt)) (inl refl) from in
    let e4 : Entry = entry (occurrence groups.InvoiceLine i) 146 (amount (100 * price i)) in
    let s4 : List Entry = s3 ++ e4 ∷ [] in
    let a4 : EndsAt s4 (line_place i 162) i = one-more push s3 (line_place i 147) i i 146 (amount (100 * price i)) (line_place i 162) a3
    (fits-amount law (bt 146) (100 * price i) t.type-146 price_small) (t.place-146 i) (later i 147 162 (lit< tt)) (inl refl) from in
    let e5 : Entry = entry (occurrence groups.InvoiceLine i) 151 (standard_rated) in
    let s5 : List Entry = s4 ++ e5 ∷ [] in
    let a5 : EndsAt s5 (line_place i 167) i = one-more push s4 (line_place i 162) i i 151 (standard_rated) (line_place i 167) a4 (fits-151) (t.place-151 i)
    (later i 162 167 (lit< tt)) (inl refl) from in
    let e6 : Entry = entry (occurrence groups.InvoiceLine i) 152 (rate) in
    let s6 : List Entry = s5 ++ e6 ∷ [] in
    let a6 : EndsAt s6 (line_place i 168) i = one-more push s5 (line_place i 167) i i 152 (rate) (line_place i 168) a5 (fits-rate (bt 152) t.type-152)
    (t.place-152 i) (later i 167 168 (lit< tt)) (inl refl) from in
    let e7 : Entry = entry (occurrence groups.InvoiceLine i) 153 (values.Text (codes "Item " ++ decimal i)) in
    let s7 : List Entry = s6 ++ e7 ∷ [] in
    let a7 : EndsAt s7 (line_place i 169) i = one-more push s6 (line_place i 168) i i 153 (values.Text (codes "Item " ++ decimal i)) (line_place i 169) a6
    (fits-item (bt 153) i t.type-153 small) (t.place-153 i) (later i 168 169 (lit< tt)) (inl refl) from in
    let whole : s7 ≡ es ++ line i = simp append_assoc in
    subst (λ all. EndsAt all (line_place i 169) i) whole a7

-- ---- all lines

abbrev pub place_behind : ℕ → List ℕ
place_behind zero = head_place
place_behind (suc n) = line_place (suc n) 169

next-order : (n : ℕ) → precedes (place_behind n) (line_place (suc n) 141) ≡ true
next-order zero = refl
next-order (suc n) = next (suc n) 169 141

pub lines-more : (n : ℕ) → lines_of (suc n) ≡ lines_of n ++ line (suc n)
unfolding lines_of
lines-more n =
    let number : 1 + n ≡ suc n = omega arith in
    ap (flat_map line) (range-more 1 n)
    ∙ (flat_map-append line (range_with_len 1 n) ((1 + n) ∷ [])
    ∙ ap (λ t. flat_map line (range_with_len 1 n) ++ t) (append-nil (line (1 + n)) ∙ ap line number))

pub lines-none : lines_of 0 ≡ []
unfolding lines_of
lines-none = refl

pub lines-next : (n : ℕ) → lines_of (n + 1) ≡ lines_of n ++ line (n + 1)
lines-next n = let number : n + 1 ≡ suc n = omega arith in rw number (lines-more n)

lines-end : ReadsBack → Pushes → (sum : ℕ) → sum < 10 ^ 12 → (n : ℕ) → n ≤ 10000 → EndsAt (head sum ++ lines_of n) (place_behind n) n
unfolding lines_of
lines-end law push sum h zero k = subst (λ es. EndsAt es head_place 0) (sym (append-nil (head sum))) (head-ends law sum h)
lines-end law push sum h (suc n) k =
    let fewer : n ≤ 10000 = omega arith in
    let earlier : EndsAt (head sum ++ lines_of n) (place_behind n) n = lines-end law push sum h n fewer in
    let number : n + 1 ≡ suc n = omega arith in
    let some : 1 ≤ suc n = omega arith in
    let small : suc n < 2 ^ 64 = omega arith in
    let more : EndsAt ((head sum ++ lines_of n) ++ line (suc n)) (place_behind (suc n)) (suc n) =
    line-more law push (head sum ++ lines_of n) (place_behind n) n (suc n) earlier (next-order n) (inr number) some small in
    subst (λ es. EndsAt es (place_behind (suc n)) (suc n)) (append_assoc (head sum) (lines_of n) (line (suc n)) ∙ ap (λ t. head sum ++ t) (sym (lines-more n)))
    more

-- The generated entries are an invoice.
pub trial-is-invoice : ReadsBack → Pushes → (n : ℕ) → n ≤ 10000 → IsInvoice (trial_entries n)
unfolding trial_entries
trial-is-invoice law push n h =
    let small : sum_of_nets n < 10 ^ 12 = omega (arith, sum-le n) in
    (lines-end law push (sum_of_nets n) small n h).invoice

-- what was put is the generated invoice
pub trial-made : (lines : ℕ) (none : List Entry) (sum : ℕ) (front all : List Entry)
    → none ≡ [] → sum ≡ sum_of_nets lines → front ≡ none ++ head sum → all ≡ front ++ lines_of lines → all ≡ trial_entries lines
unfolding trial_entries
trial-made lines none sum front all n s h a =
    a ∙ ap (λ es. es ++ lines_of lines) (h ∙ (λ i. n i ++ head (s i)))
