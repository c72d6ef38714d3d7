-- What holds of each generated entry: of those before the lines, and of those of a line, whatever its number is.
use Rattle.std.proofs.Common.{◌≡◌, ℕ, zero, suc, ◌+◌, ◌<◌, ◌≤◌, Bool, true, false, not, ◌&&◌, ◌||◌, List, [], ◌∷◌, ◌++◌, Option, Some, None, refl, sym, ap, ◌∙◌}
use Rattle.std.proofs.Common.{subst, arith, ◌⊎◌, inl, inr}
use Rattle.std.specs.Prelude.{◌==◌, find, flat_map, Contains, if◌then◌else◌}
use Rattle.std.specs.List.{list_all, list_any, range_with_len}
use Rattle.std.proofs.lemmas.Bool.{false≢true}
use Rattle.std.proofs.lemmas.Bool.Decides.{nat_tests}
use Rattle.inv_terms.specs.declared.entries.Entry.{Entry}
use Rattle.inv_terms.proofs.ContextLemmas.{here, there, member_cases, no_member, append_front, append_back}
use Rattle.trial_invoice.specs.Amounts.{sum_of_nets}
use Rattle.trial_invoice.specs.Generated.{head, line, lines_of, trial_entries}

-- Something holds of each of them.
abbrev pub Each : {X : Type 0} → (X → Type 0) → List X → Type 0
Each P [] = Unit {0}
Each P (x ∷ xs) = P x × Each P xs

pub both : (a b : Bool) → (a && b) ≡ true → (a ≡ true) × (b ≡ true)
both true b h = (refl, h)
both false b h = absurd (false≢true h)

pub and-true : (a b : Bool) → a ≡ true → b ≡ true → (a && b) ≡ true
and-true true b h k = k
and-true false b h k = absurd (false≢true h)

pub or-cases : (a b : Bool) → (a || b) ≡ true → (a ≡ true) ⊎ (b ≡ true)
or-cases true b h = inl refl
or-cases false b h = inr h

pub not-true : (b : Bool) → not b ≡ true → b ≡ false
not-true true h = absurd (false≢true h)
not-true false h = refl

pub each-append : {X : Type 0} (P : X → Type 0) (xs ys : List X) → Each P xs → Each P ys → Each P (xs ++ ys)
each-append P [] ys h k = k
each-append P (x ∷ xs) ys h k = (h.0, each-append P xs ys h.1 k)

-- a test that all pass
pub each-test : {X : Type 0} (p : X → Bool) (xs : List X) → list_all p xs ≡ true → Each (λ x. p x ≡ true) xs
each-test p [] h = tt
each-test p (x ∷ xs) h = let w = both (p x) (list_all p xs) h in (w.0, each-test p xs w.1)

pub each-map : {X : Type 0} (P Q : X → Type 0) (xs : List X) → ((x : X) → P x → Q x) → Each P xs → Each Q xs
each-map P Q [] f h = tt
each-map P Q (x ∷ xs) f h = (f x h.0, each-map P Q xs f h.1)

pub each-both : {X : Type 0} (P Q : X → Type 0) (xs : List X) → Each P xs → Each Q xs → Each (λ x. P x × Q x) xs
each-both P Q [] h k = tt
each-both P Q (x ∷ xs) h k = ((h.0, k.0), each-both P Q xs h.1 k.1)

pub each-member : {X : Type 0} (P : X → Type 0) (xs : List X) → Each P xs → (x : X) → Contains xs x → P x
each-member P [] h x w = absurd (no_member x w)
each-member P (y ∷ xs) h x w = elim (member_cases y x xs w) [ inl e ↦ subst P e h.0 | inr m ↦ each-member P xs h.1 x m ]

pub none-some : {X : Type 0} (x : X) → ◌≡◌ {A = Option X} None (Some x) → ⊥
none-some x h = cc

-- the first that passes a test
pub each-found : {X : Type 0} (P : X → Type 0) (p : X → Bool) (xs : List X) → Each P xs → (x : X) → find p xs ≡ Some x → P x × (p x ≡ true)
each-found P p [] h x e = absurd (none-some x e)
each-found P p (y ∷ xs) h x e = go (λ k. each-found P p xs h.1 x k) (p y) refl e
  where
    same : Some y ≡ Some x → y ≡ x
    same k = cc

    along : y ≡ x → P y → p y ≡ true → P x × (p x ≡ true)
    along k l m = (subst P k l, ap p (sym k) ∙ m)

    go : (find p xs ≡ Some x → P x × (p x ≡ true)) → (b : Bool) → p y ≡ b → (if b then Some y else find p xs) ≡ Some x → P x × (p x ≡ true)
    go later true k l = along (same l) h.0 k
    go later false k l = later l

pub none-found : {X : Type 0} (p : X → Bool) (xs : List X) → list_all (λ x. not (p x)) xs ≡ true → find p xs ≡ None
none-found p [] h = refl
none-found p (x ∷ xs) h =
    let w = both (not (p x)) (list_all (λ y. not (p y)) xs) h in
    ap (λ (b : Bool). if b then Some x else find p xs) (not-true (p x) w.0) ∙ none-found p xs w.1

-- some that passes a test
pub any-found : {X : Type 0} (p : X → Bool) (xs : List X) → list_any p xs ≡ true → (x : X) × Contains xs x × (p x ≡ true)
any-found p [] h = absurd (false≢true h)
any-found p (x ∷ xs) h = elim (or-cases (p x) (list_any p xs) h) [
  | inl now ↦ (x, here x xs, now)
  | inr later ↦ (let w = any-found p xs later in (w.0, there x w.0 xs w.1, w.2))
]

pub all-append : {X : Type 0} (p : X → Bool) (xs ys : List X) → list_all p xs ≡ true → list_all p ys ≡ true → list_all p (xs ++ ys) ≡ true
all-append p [] ys h k = k
all-append p (x ∷ xs) ys h k = let w = both (p x) (list_all p xs) h in and-true (p x) (list_all p (xs ++ ys)) w.0 (all-append p xs ys w.1 k)

-- ---- the generated entries

all-lines : (p : Entry → Bool) → ((i : ℕ) → list_all p (line i) ≡ true) → (a n : ℕ) → list_all p (flat_map line (range_with_len a n)) ≡ true
all-lines p h a zero = refl
all-lines p h a (suc n) = all-append p (line a) (flat_map line (range_with_len (a + 1) n)) (h a) (all-lines p h (a + 1) n)

pub all-entries : (p : Entry → Bool) → ((sum : ℕ) → list_all p (head sum) ≡ true) → ((i : ℕ) → list_all p (line i) ≡ true) → (n : ℕ) →
    list_all p (trial_entries n) ≡ true
unfolding trial_entries lines_of
all-entries p h k n = all-append p (head (sum_of_nets n)) (flat_map line (range_with_len 1 n)) (h (sum_of_nets n)) (all-lines p k 1 n)

each-lines : (P : Entry → Type 0) (a n : ℕ) → ((i : ℕ) → a ≤ i → i < a + n → Each P (line i)) → Each P (flat_map line (range_with_len a n))
each-lines P a zero h = tt
each-lines P a (suc n) h =
    each-append P (line a) (flat_map line (range_with_len (a + 1) n)) (h a (omega arith) (omega arith))
    (each-lines P (a + 1) n (λ i low high. h i (omega arith) (omega arith)))

pub each-entries : (P : Entry → Type 0) (n : ℕ) → Each P (head (sum_of_nets n)) → ((i : ℕ) → 1 ≤ i → i ≤ n → Each P (line i)) → Each P (trial_entries n)
unfolding trial_entries lines_of
each-entries P n h k = each-append P (head (sum_of_nets n)) (flat_map line (range_with_len 1 n)) h (each-lines P 1 n (λ i low high. k i low (omega arith)))

-- ---- entries that are among them

pub head-member : (n : ℕ) (e : Entry) → Contains (head (sum_of_nets n)) e → Contains (trial_entries n) e
unfolding trial_entries lines_of
head-member n e w = append_front e (head (sum_of_nets n)) (flat_map line (range_with_len 1 n)) w

same-number : (a i : ℕ) → (a == i) ≡ true → a ≡ i
same-number a i h = grind (arith, nat_tests)

later-number : (a i : ℕ) → (a == i) ≡ false → a ≤ i → a + 1 ≤ i
later-number a i h k = grind (arith, nat_tests)

this-or-later : (a i : ℕ) (b : Bool) → (a == i) ≡ b → a ≤ i → (a ≡ i) ⊎ (a + 1 ≤ i)
this-or-later a i true h k = inl (same-number a i h)
this-or-later a i false h k = inr (later-number a i h k)

lines-member : (a n i : ℕ) (e : Entry) → a ≤ i → i < a + n → Contains (line i) e → Contains (flat_map line (range_with_len a n)) e
lines-member a zero i e low high w = absurd (omega arith)
lines-member a (suc n) i e low high w = elim (this-or-later a i (a == i) refl low) [
  | inl same ↦ append_front e (line a) (flat_map line (range_with_len (a + 1) n)) (subst (λ (m : ℕ). Contains (line m) e) (sym same) w)
  | inr later ↦ append_back e (line a) (flat_map line (range_with_len (a + 1) n)) (lines-member (a + 1) n i e later (omega arith) w)
]

pub line-member : (n i : ℕ) (e : Entry) → 1 ≤ i → i ≤ n → Contains (line i) e → Contains (trial_entries n) e
unfolding trial_entries lines_of
line-member n i e low high w = append_back e (head (sum_of_nets n)) (flat_map line (range_with_len 1 n)) (lines-member 1 n i e low (omega arith) w)
