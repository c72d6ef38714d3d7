-- Places among numbers that rise are 1, 2, 3 and so on.
use Rattle.std.proofs.Common.{◌≡◌, ℕ, ◌+◌, ◌<◌, ◌≤◌, Bool, true, false, ◌&&◌, List, [], ◌∷◌, length, refl, sym, ap, ◌∙◌, arith, filter, cond}
use Rattle.std.specs.Prelude.{nat_lt, map}
use Rattle.std.specs.List.{list_all, range_with_len}
use Rattle.std.proofs.lemmas.Bool.{ltb-true, lt-ltb}
use Rattle.bind_table.specs.Numbering.{rises, how_many_before, place_among}

both : (a b : Bool) → (a && b) ≡ true → (a ≡ true) × (b ≡ true)
both true b e = (refl, e)
both false b e = cc

not-below : (a b : ℕ) → b ≤ a → nat_lt a b ≡ false
not-below a b h = by (nat_lt a b) (ltb-true a b)
  where
    by : (t : Bool) → (t ≡ true → a < b) → t ≡ false
    by true f = let l = f refl in absurd (omega arith)
    by false f = refl

module _ (is_so : ℕ → Bool) where
  abbrev one_if : Bool → ℕ
  one_if true = 1
  one_if false = 0

  -- none of those above a number is before it
  none-before : (n : ℕ) (ns : List ℕ) → list_all (nat_lt n) ns ≡ true → how_many_before is_so ns n ≡ 0
  none-before n [] above = refl
  none-before n (m ∷ ns) above =
      let h = both (nat_lt n m) (list_all (nat_lt n) ns) above in
      let low = ltb-true n m h.0 in
      let e : nat_lt m n ≡ false = not-below m n (omega arith) in
      ap (λ t. length (cond (t && is_so m) (m ∷ filter (λ k. nat_lt k n && is_so k) ns) (filter (λ k. nat_lt k n && is_so k) ns))) e ∙ none-before n ns h.1

  itself-before : (n : ℕ) (ns : List ℕ) → list_all (nat_lt n) ns ≡ true → how_many_before is_so (n ∷ ns) n ≡ 0
  itself-before n ns above =
      let e : nat_lt n n ≡ false = not-below n n (omega arith) in
      ap (λ t. length (cond (t && is_so n) (n ∷ filter (λ k. nat_lt k n && is_so k) ns) (filter (λ k. nat_lt k n && is_so k) ns))) e ∙ none-before n ns above

  -- one more is before those above it, if it is so
  one-before : (b : Bool) (m n : ℕ) (ns : List ℕ) → is_so m ≡ b → nat_lt m n ≡ true → how_many_before is_so (m ∷ ns) n ≡ one_if b + how_many_before is_so ns n
  one-before true m n ns e low =
      let others = filter (λ k. nat_lt k n && is_so k) ns in
      let z : length (m ∷ others) ≡ 1 + length others = omega arith in
      ap (λ t. length (cond (t && is_so m) (m ∷ others) others)) low ∙ (ap (λ t. length (cond t (m ∷ others) others)) e ∙ z)
  one-before false m n ns e low =
      let others = filter (λ k. nat_lt k n && is_so k) ns in
      let z : length others ≡ 0 + length others = omega arith in
      ap (λ t. length (cond (t && is_so m) (m ∷ others) others)) low ∙ (ap (λ t. length (cond t (m ∷ others) others)) e ∙ z)

  -- the places of those of a list that are above a number
  shifted : (b : Bool) (m k : ℕ) (all ns : List ℕ) → is_so m ≡ b → list_all (nat_lt m) ns ≡ true
      → map (λ n. k + (1 + how_many_before is_so (m ∷ all) n)) (filter is_so ns) ≡ map (λ n. k + one_if b + (1 + how_many_before is_so all n)) (filter is_so ns)
  shifted b m k all [] e above = refl
  shifted b m k all (n ∷ ns) e above =
      let h = both (nat_lt m n) (list_all (nat_lt m) ns) above in
      let rest = shifted b m k all ns e h.1 in
      let one = one-before b m n all e h.0 in
      let z : k + (1 + how_many_before is_so (m ∷ all) n) ≡ k + one_if b + (1 + how_many_before is_so all n) = omega (arith, one) in
      by (is_so n) z rest
    where
      by : (t : Bool) → k + (1 + how_many_before is_so (m ∷ all) n) ≡ k + one_if b + (1 + how_many_before is_so all n)
          → map (λ n. k + (1 + how_many_before is_so (m ∷ all) n)) (filter is_so ns) ≡ map (λ n. k + one_if b + (1 + how_many_before is_so all n))
          (filter is_so ns)
          → map (λ n. k + (1 + how_many_before is_so (m ∷ all) n)) (cond t (n ∷ filter is_so ns) (filter is_so ns)) ≡ map
          (λ n. k + one_if b + (1 + how_many_before is_so all n)) (cond t (n ∷ filter is_so ns) (filter is_so ns))
      by true z rest = ap (λ x. x ∷ map (λ n. k + (1 + how_many_before is_so (m ∷ all) n)) (filter is_so ns)) z
          ∙ ap (λ xs. (k + one_if b + (1 + how_many_before is_so all n)) ∷ xs) rest
      by false z rest = rest

  places-from : (k : ℕ) (ns : List ℕ) → rises ns ≡ true → map (λ n. k + (1 + how_many_before is_so ns n)) (filter is_so ns) ≡ range_with_len (k + 1)
      (length (filter is_so ns))
  places-from k [] up = refl
  places-from k (m ∷ ns) up =
      let h = both (list_all (nat_lt m) ns) (rises ns) up in
      by (is_so m) (λ b e. shifted b m k ns ns e h.0) (itself-before m ns h.0) (λ b. places-from (k + one_if b) ns h.1) refl
    where
      by : (b : Bool)
          → ((c : Bool) → is_so m ≡ c → map (λ n. k + (1 + how_many_before is_so (m ∷ ns) n)) (filter is_so ns) ≡ map
          (λ n. k + one_if c + (1 + how_many_before is_so ns n)) (filter is_so ns))
          → how_many_before is_so (m ∷ ns) m ≡ 0
          → ((c : Bool) → map (λ n. k + one_if c + (1 + how_many_before is_so ns n)) (filter is_so ns) ≡ range_with_len (k + one_if c + 1)
          (length (filter is_so ns)))
          → is_so m ≡ b
          → map (λ n. k + (1 + how_many_before is_so (m ∷ ns) n)) (cond b (m ∷ filter is_so ns) (filter is_so ns)) ≡ range_with_len (k + 1)
          (length (cond b (m ∷ filter is_so ns) (filter is_so ns)))
      by true others none deeper e =
          let z : k + (1 + how_many_before is_so (m ∷ ns) m) ≡ k + 1 = omega (arith, none) in
          ap (λ x. x ∷ map (λ n. k + (1 + how_many_before is_so (m ∷ ns) n)) (filter is_so ns)) z ∙ ap (λ xs. (k + 1) ∷ xs) (others true e ∙ deeper true)
      by false others none deeper e =
          let z : k + 0 + 1 ≡ k + 1 = omega arith in
          others false e ∙ (deeper false ∙ ap (λ n. range_with_len n (length (filter is_so ns))) z)

  map-plus-zero : (ns xs : List ℕ) → map (place_among is_so ns) xs ≡ map (λ n. 0 + (1 + how_many_before is_so ns n)) xs
  map-plus-zero ns [] = refl
  map-plus-zero ns (x ∷ xs) =
      let z : 1 + how_many_before is_so ns x ≡ 0 + (1 + how_many_before is_so ns x) = omega arith in
      ap (λ y. y ∷ map (place_among is_so ns) xs) z ∙ ap (λ ys. (0 + (1 + how_many_before is_so ns x)) ∷ ys) (map-plus-zero ns xs)

  pub places-rise : (ns : List ℕ) → rises ns ≡ true → map (place_among is_so ns) (filter is_so ns) ≡ range_with_len 1 (length (filter is_so ns))
  places-rise ns up = map-plus-zero ns (filter is_so ns) ∙ places-from 0 ns up
