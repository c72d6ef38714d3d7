-- What the generated invoice says of each line, and how many lines it has.
use Rattle.std.proofs.Common.{◌≡◌, ℕ, zero, suc, ◌+◌, ◌*◌, ◌<◌, ◌≤◌, max, Bool, true, false, List, [], ◌∷◌, ◌++◌, map, Option, Some, None, refl, ap, ◌∙◌, arith}
use Rattle.std.specs.Prelude.{◌==◌, find, fold, flat_map, decimal, option_map, if◌then◌else◌, is_none}
use Rattle.std.specs.List.{range_with_len}
use Rattle.std.proofs.lemmas.Bool.Decides.{nat_tests}
use Rattle.term_table.specs.declared.groups.Group.TheVariants as groups
use Rattle.term_table.specs.declared.terms.Term.{Term}
use Rattle.term_table.specs.declared.contexts.Context.{Context}
use Rattle.term_table.specs.Contexts.{root_context}
use Rattle.inv_terms.specs.declared.values.Value.TheVariants as values
use Rattle.inv_terms.specs.declared.entries.Entry.{Entry}
use Rattle.inv_terms.specs.Listing.{value_in, is_at}
use Rattle.bind_meaning.specs.Trees.{index_in, outer_count, outer_spots, or_here, spots}
use Rattle.trial_invoice.specs.Amounts.{quantity, price, net, sum_of_nets, ones}
use Rattle.trial_invoice.specs.Generated.{occurrence, amount, head, line, lines_of, trial_entries}

abbrev pub term : ℕ → Term
term number = record { number = number; part = 0 }

abbrev pub in_line : ℕ → Context
in_line i = occurrence groups.InvoiceLine i

-- ---- the first that passes

find-behind : (p : Entry → Bool) (xs ys : List Entry) → find p xs ≡ None → find p (xs ++ ys) ≡ find p ys
find-behind p [] ys h = refl
find-behind p (x ∷ xs) ys h = go (p x) (find-behind p xs ys) h
  where
    some-none : Some x ≡ None → ⊥
    some-none e = cc

    go : (b : Bool) → (find p xs ≡ None → find p (xs ++ ys) ≡ find p ys) → (if b then Some x else find p xs) ≡ None →
        (if b then Some x else find p (xs ++ ys)) ≡ find p ys
    go true later e = absurd (some-none e)
    go false later e = later e

find-front : (p : Entry → Bool) (xs ys : List Entry) (e : Entry) → find p xs ≡ Some e → find p (xs ++ ys) ≡ Some e
find-front p [] ys e h = absurd (none-some h)
  where
    none-some : ◌≡◌ {A = Option Entry} None (Some e) → ⊥
    none-some k = cc
find-front p (x ∷ xs) ys e h = go (p x) (find-front p xs ys e) h
  where
    go : (b : Bool) → (find p xs ≡ Some e → find p (xs ++ ys) ≡ Some e) → (if b then Some x else find p xs) ≡ Some e →
        (if b then Some x else find p (xs ++ ys)) ≡ Some e
    go true later k = k
    go false later k = later k

same-number : (a i : ℕ) → (a == i) ≡ true → a ≡ i
same-number a i h = grind (arith, nat_tests)

other-number : (a i : ℕ) → (a == i) ≡ false → a ≤ i → a + 1 ≤ i
other-number a i h k = grind (arith, nat_tests)

same-is : (n : ℕ) → (n == n) ≡ true
same-is n = grind (arith, nat_tests)

found-in-lines : (p : Entry → Bool) (i : ℕ) (e : Entry) → ((j : ℕ) → (j == i) ≡ false → find p (line j) ≡ None) → find p (line i) ≡ Some e
    → (k a : ℕ) → a ≤ i → i < a + k → find p (flat_map line (range_with_len a k)) ≡ Some e
found-in-lines p i e others own zero a low high = absurd (omega (arith, low, high))
found-in-lines p i e others own (suc k) a low high = go (a == i) refl (λ low. found-in-lines p i e others own k (a + 1) low (omega (arith, high)))
  where
    go : (b : Bool) → (a == i) ≡ b → (a + 1 ≤ i → find p (flat_map line (range_with_len (a + 1) k)) ≡ Some e) →
        find p (line a ++ flat_map line (range_with_len (a + 1) k)) ≡ Some e
    go true h later =
        find-front p (line a) (flat_map line (range_with_len (a + 1) k)) e (ap (λ m. find p (line m)) (same-number a i h) ∙ own)
    go false h later = find-behind p (line a) (flat_map line (range_with_len (a + 1) k)) (others a h) ∙ later (other-number a i h low)

found-entry : (p : Entry → Bool) (n i : ℕ) (e : Entry) → ((sum : ℕ) → find p (head sum) ≡ None) → ((j : ℕ) → (j == i) ≡ false → find p (line j) ≡ None) →
    find p (line i) ≡ Some e
    → 1 ≤ i → i ≤ n → find p (trial_entries n) ≡ Some e
unfolding trial_entries lines_of
found-entry p n i e none others own low high =
    find-behind p (head (sum_of_nets n)) (flat_map line (range_with_len 1 n)) (none (sum_of_nets n)) ∙
    found-in-lines p i e others own n 1 low (omega (arith, high))

-- ---- the four values of a line

not-in-head : (k i sum : ℕ) → is_none (find (is_at (term k) (in_line i)) (head sum)) ≡ is_none (find (is_at (term k) (in_line i)) (head sum))
not-in-head k i sum = refl

pub number-in : (n i : ℕ) → 1 ≤ i → i ≤ n → value_in (trial_entries n) (term 126) (in_line i) ≡ Some (values.Identifier (decimal i))
number-in n i low high =
    ap (option_map (λ (e : Entry). e.value))
    (found-entry (is_at (term 126) (in_line i)) n i (record { context = in_line i; term = term 126; value = values.Identifier (decimal i) }) (λ sum. refl)
    (λ j h. rw h refl) (rw (same-is i) refl) low high)

pub quantity-in : (n i : ℕ) → 1 ≤ i → i ≤ n → value_in (trial_entries n) (term 129) (in_line i) ≡ Some (values.Quantity (ones (quantity i)))
quantity-in n i low high =
    ap (option_map (λ (e : Entry). e.value))
    (found-entry (is_at (term 129) (in_line i)) n i (record { context = in_line i; term = term 129; value = values.Quantity (ones (quantity i)) }) (λ sum. refl)
    (λ j h. rw h refl) (rw (same-is i) refl) low high)

pub net-in : (n i : ℕ) → 1 ≤ i → i ≤ n → value_in (trial_entries n) (term 131) (in_line i) ≡ Some (amount (100 * net i))
net-in n i low high =
    ap (option_map (λ (e : Entry). e.value))
    (found-entry (is_at (term 131) (in_line i)) n i (record { context = in_line i; term = term 131; value = amount (100 * net i) }) (λ sum. refl)
    (λ j h. rw h refl) (rw (same-is i) refl) low high)

pub price-in : (n i : ℕ) → 1 ≤ i → i ≤ n → value_in (trial_entries n) (term 146) (in_line i) ≡ Some (amount (100 * price i))
price-in n i low high =
    ap (option_map (λ (e : Entry). e.value))
    (found-entry (is_at (term 146) (in_line i)) n i (record { context = in_line i; term = term 146; value = amount (100 * price i) }) (λ sum. refl)
    (λ j h. rw h refl) (rw (same-is i) refl) low high)

-- ---- how many lines there are

abbrev index : Entry → ℕ
index e = index_in groups.InvoiceLine e.context.outer

fold-append : (a : ℕ) (xs ys : List Entry) → fold max a (map index (xs ++ ys)) ≡ fold max (fold max a (map index xs)) (map index ys)
fold-append a [] ys = refl
fold-append a (x ∷ xs) ys = fold-append (max a (index x)) xs ys

abbrev behind_first : List Entry → List Entry
behind_first [] = []
behind_first (e ∷ es) = es

abbrev All : ℕ → List Entry → Type 0
All i [] = Unit {0}
All i (e ∷ es) = (index e ≡ i) × All i es

fold-same : (i : ℕ) (es : List Entry) → All i es → fold max i (map index es) ≡ i
fold-same i [] h = refl
fold-same i (e ∷ es) h = ap (λ k. fold max k (map index es)) (let k : index e ≡ i = h.0 in let z : max i (index e) ≡ i = omega arith in z) ∙ fold-same i es h.1

fold-line : (a i : ℕ) → a ≤ i → fold max a (map index (line i)) ≡ i
fold-line a i h =
    ap (λ k. fold max k (map index (behind_first (line i)))) (let z : max a i ≡ i = omega (arith, h) in z)
    ∙ fold-same i (behind_first (line i)) (refl, (refl, (refl, (refl, (refl, (refl, (refl, tt)))))))

fold-lines : (k a s : ℕ) → a + 1 ≡ s → fold max a (map index (flat_map line (range_with_len s k))) ≡ a + k
fold-lines zero a s h = omega arith
fold-lines (suc k) a s h =
    fold-append a (line s) (flat_map line (range_with_len (s + 1) k))
    ∙ (ap (λ m. fold max m (map index (flat_map line (range_with_len (s + 1) k)))) (fold-line a s (omega (arith, h))) ∙
    (fold-lines k s (s + 1) refl ∙ omega (arith, h)))

pub lines-counted : (n : ℕ) → outer_count (trial_entries n) groups.InvoiceLine ≡ n
unfolding trial_entries lines_of
lines-counted n =
    fold-append 0 (head (sum_of_nets n)) (flat_map line (range_with_len 1 n))
    ∙ (fold-lines n 0 1 refl ∙ omega arith)

pub line-spots : (n : ℕ) → 1 ≤ n → spots (trial_entries n) root_context (Some groups.InvoiceLine) ≡ map in_line (range_with_len 1 n)
line-spots n some = ap (λ k. or_here root_context (outer_spots groups.InvoiceLine k)) (lines-counted n) ∙ some-there n some
  where
    some-there : (k : ℕ) → 1 ≤ k → or_here root_context (outer_spots groups.InvoiceLine k) ≡ map in_line (range_with_len 1 k)
    some-there zero h = absurd (omega (arith, h))
    some-there (suc k) h = refl
