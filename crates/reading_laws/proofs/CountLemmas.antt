-- Occurrences are numbered from 1 without a gap: the element before one among those of its group is an occurrence too.
use Rattle.std.proofs.Common.{◌≡◌, ℕ, zero, suc, ◌+◌, ◌-◌, ◌<◌, ◌≤◌, Bool, true, false, ◌&&◌, ◌||◌, List, [], ◌∷◌, length, filter, Some, refl, ap, ◌∙◌, arith}
use Rattle.std.specs.Prelude.{◌==◌, nat_lt, nat_le, if◌then◌else◌}
use Rattle.std.proofs.lemmas.Bool.Decides.{nat_tests}
use Rattle.inv_base.specs.Tree.{Node, is_among}
use Rattle.term_table.specs.declared.groups.Group.{Group}
use Rattle.term_table.specs.declared.contexts.Slot.{Slot}
use Rattle.term_table.specs.declared.contexts.Context.{Context}
use Rattle.inv_terms.specs.declared.entries.Entry.{Entry}
use Rattle.inv_terms.specs.Listing.{occurs, is_counted}
use Rattle.bind_meaning.specs.Seats.{place_among}
use Rattle.reading_laws.specs.Nodes.{Rise}
use Rattle.reading_laws.proofs.ListLemmas.{and-true, or-right}

-- how many of the numbers below one are so
abbrev count : (ℕ → Bool) → ℕ → List Node → ℕ
count q n nodes = length (filter (λ (node : Node). nat_lt node.number n && q node.number) nodes)

less : (a b : ℕ) → a < b → nat_lt a b ≡ true
less a b h = grind (arith, nat_tests)

not-less : (a b : ℕ) → b ≤ a → nat_lt a b ≡ false
not-less a b h = grind (arith, nat_tests)

is-less : (a b : ℕ) → nat_lt a b ≡ true → a < b
is-less a b h = grind (arith, nat_tests)

is-not-less : (a b : ℕ) → nat_lt a b ≡ false → b ≤ a
is-not-less a b h = grind (arith, nat_tests)

none-below : (q : ℕ → Bool) (n b : ℕ) (nodes : List Node) → Rise b nodes → n ≤ b → count q n nodes ≡ 0
none-below q n b [] r h = refl
none-below q n b (x ∷ xs) r h =
    let rest = filter (λ (node : Node). nat_lt node.number n && q node.number) xs in
    let low = r.0 in
    ap (λ t. length (if t && q x.number then x ∷ rest else rest)) (not-less x.number n (omega (arith, low, h)))
    ∙ none-below q n (suc x.number) xs r.1 (omega (arith, low, h))

-- the one before, of those that are so
record Previous (q : ℕ → Bool) (n b k : ℕ) (nodes : List Node) : Type 0 where
  number : ℕ
  is : q number ≡ true
  from : b ≤ number
  below : number < n
  place : count q number nodes ≡ k

module _ (q : ℕ → Bool) (n : ℕ) where
  one-more : (x : Node) (xs : List Node) (m k : ℕ) (c : Bool) → nat_lt x.number m ≡ true → q x.number ≡ c
      → length (if c then x ∷ filter (λ (node : Node). nat_lt node.number m && q node.number) xs else filter
      (λ (node : Node). nat_lt node.number m && q node.number) xs) ≡ k
      → count q m (x ∷ xs) ≡ k
  one-more x xs m k c e f h =
      let rest = filter (λ (node : Node). nat_lt node.number m && q node.number) xs in
      ap (λ t. length (if t && q x.number then x ∷ rest else rest)) e ∙ (ap (λ t. length (if t then x ∷ rest else rest)) f ∙ h)

  previous-first : (b : ℕ) (x : Node) (xs : List Node) → Rise b (x ∷ xs) → nat_lt x.number n ≡ true → q x.number ≡ true → Previous q n b 0 (x ∷ xs)
  previous-first b x xs r e f = record {
    number = x.number;
    is = f;
    from = r.0;
    below = is-less x.number n e;
    place = none-below q x.number x.number (x ∷ xs) (let z : x.number ≤ x.number = omega arith in z, r.1) (omega arith);
  }

  previous-behind : (b k j : ℕ) (x : Node) (xs : List Node) (c : Bool) → Rise b (x ∷ xs) → q x.number ≡ c → (l : List Node → ℕ)
      → Previous q n (suc x.number) j xs
      → ((rest : List Node) → length rest ≡ j → length (if c then x ∷ rest else rest) ≡ k) → Previous q n b k (x ∷ xs)
  previous-behind b k j x xs c r f l p h =
      let low = r.0 in
      let from = p.from in
      record {
        number = p.number;
        is = p.is;
        from = omega (arith, low, from);
        below = p.below;
        place = one-more x xs p.number k c (less x.number p.number (omega (arith, from))) f (h _ p.place);
      }

  previous : (b k : ℕ) (nodes : List Node) → Rise b nodes → count q n nodes ≡ suc k → Previous q n b k nodes
  previous b k [] r h = absurd (let z : 0 ≡ suc k = h in omega arith)
  previous b k (x ∷ xs) r h = go (nat_lt x.number n) (q x.number) k refl refl h (λ j l. previous (suc x.number) j xs r.1 l)
    where
      rest : List Node
      rest = filter (λ (node : Node). nat_lt node.number n && q node.number) xs

      go : (a c : Bool) (i : ℕ) → nat_lt x.number n ≡ a → q x.number ≡ c → length (if a && c then x ∷ rest else rest) ≡ suc i
          → ((j : ℕ) → length rest ≡ suc j → Previous q n (suc x.number) j xs) → Previous q n b i (x ∷ xs)
      go true true zero e f l g = previous-first b x xs r e f
      go true true (suc j) e f l g = previous-behind b (suc j) j x xs true r f length (g j (let z : suc (length rest) ≡ suc (suc j) = l in omega arith))
          (λ others h. ap suc h)
      go true false i e f l g = previous-behind b i i x xs false r f length (g i l) (λ others h. h)
      go false c i e f l g =
          let p = g i l in
          let from = p.from in
          let below = p.below in
          absurd (let above = is-not-less x.number n e in omega (arith, from, below, above))

-- ---- so an occurrence is counted, where each element before it is one

first-counted : (es : List Entry) (around : Slot → Context) (group : Group) (i : ℕ) → i ≡ 1
    → is_counted es around (Some (record { group = group; index = i })) ≡ true
first-counted es around group i e = ap (λ j. nat_le 1 j && ((j == 1) || occurs es (around (record { group = group; index = j - 1 })))) e

later-counted : (es : List Entry) (around : Slot → Context) (group : Group) (i m : ℕ) → i ≡ suc (suc m)
    → occurs es (around (record { group = group; index = suc m })) ≡ true
    → is_counted es around (Some (record { group = group; index = i })) ≡ true
later-counted es around group i m e h =
    and-true (nat_le 1 i) _ (from-one i (omega (arith, e)))
    (or-right (i == 1) (occurs es (around (record { group = group; index = i - 1 })))
    (ap (λ j. occurs es (around (record { group = group; index = j }))) (let z : i - 1 ≡ suc m = omega (arith, e) in z) ∙ h))
  where
    from-one : (i : ℕ) → 1 ≤ i → nat_le 1 i ≡ true
    from-one i l = grind (arith, nat_tests)

pub counted : (nodes : List Node) → Rise 0 nodes → (es : List Entry) (around : Slot → Context) (group : Group) (elements : List ℕ) (n : ℕ)
    → ((m : ℕ) → is_among m elements ≡ true → occurs es (around (record { group = group; index = place_among nodes elements m })) ≡ true)
    → is_counted es around (Some (record { group = group; index = place_among nodes elements n })) ≡ true
counted nodes r es around group elements n h = go (count q n nodes) refl
  where
    q : ℕ → Bool
    q m = is_among m elements

    go : (k : ℕ) → count q n nodes ≡ k → is_counted es around (Some (record { group = group; index = place_among nodes elements n })) ≡ true
    go zero e = first-counted es around group (place_among nodes elements n) (ap (λ k. 1 + k) e)
    go (suc k) e =
        let p = previous q n 0 k nodes r e in
        let place = p.place in
        later-counted es around group (place_among nodes elements n) k (let z : 1 + count q n nodes ≡ suc (suc k) = omega (arith, e) in z)
        (ap (λ j. occurs es (around (record { group = group; index = j }))) (let z : suc k ≡ 1 + count q p.number nodes = omega (arith, place) in z)
        ∙ h p.number p.is)
