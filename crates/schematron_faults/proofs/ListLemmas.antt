-- Lists side by side, and the first of a list that passes.
use Rattle.std.proofs.Common.{◌≡◌, ℕ, zero, suc, ◌+◌, ◌<◌, Bool, true, false, cond, ◌||◌, List, [], ◌∷◌, ◌++◌, map, get_or, take, Some, None, refl, ap, sym}
use Rattle.std.proofs.Common.{◌∙◌, subst, arith}
use Rattle.std.specs.Prelude.{filter, find, slice_get, nat_eq, flat_map}
use Rattle.std.specs.List.{All, AllPairs, AllZip, list_any, position_from}
use Rattle.std.proofs.lemmas.Bool.{or_parts, eqb-true, eq-eqb, ne_eqb}
use Rattle.std.proofs.lemmas.List.Elements.{All-head, All-tail}
use Rattle.std.proofs.lemmas.Option.{slice_get_within, get_or_from_slice_get}
use Rattle.schematron_meaning.specs.Entries.{Entry}

-- ---- two lists side by side

module _ {A B : Type 0} (R : A → B → Type 0) where
  pub zip_get : (xs : List A) (ys : List B) → AllZip R xs ys → (k : ℕ) (y : B) → slice_get ys k ≡ Some y → (x : A) × (slice_get xs k ≡ Some x) × R x y
  zip_get [] [] z k y h = cc
  zip_get [] (b ∷ ys) z k y h = absurd z
  zip_get (a ∷ xs) [] z k y h = absurd z
  zip_get (a ∷ xs) (b ∷ ys) z zero y h = let e : b ≡ y = cc in (a, refl, subst (R a) e z.0)
  zip_get (a ∷ xs) (b ∷ ys) z (suc k) y h = zip_get xs ys z.1 k y h

  pub zip_any : (p : A → Bool) (t : B → Bool) → ((x : A) (y : B) → R x y → p x ≡ t y) → (xs : List A) (ys : List B) → AllZip R xs ys → (k : ℕ) →
      list_any p (take k xs) ≡ list_any t (take k ys)
  zip_any p t same [] [] z zero = refl
  zip_any p t same [] [] z (suc k) = refl
  zip_any p t same [] (b ∷ ys) z k = absurd z
  zip_any p t same (a ∷ xs) [] z k = absurd z
  zip_any p t same (a ∷ xs) (b ∷ ys) z zero = refl
  zip_any p t same (a ∷ xs) (b ∷ ys) z (suc k) = λ i. same a b z.0 i || zip_any p t same xs ys z.1 k i

  pub zip_same : (xs xs' : List A) (ys ys' : List B) → xs' ≡ xs → ys' ≡ ys → AllZip R xs ys → AllZip R xs' ys'
  zip_same xs xs' ys ys' e f z = subst (λ x. AllZip R x ys') (sym e) (subst (AllZip R xs) (sym f) z)

-- ---- the first that passes

pub find_none : {X : Type 0} (q : X → Bool) (xs : List X) → All (λ x. q x ≡ false) xs → find q xs ≡ None
find_none q [] h = refl
find_none q (x ∷ xs) h = ap (λ b. cond b (Some x) (find q xs)) (All-head (λ y. q y ≡ false) x xs h) ∙ find_none q xs (All-tail (λ y. q y ≡ false) x xs h)

module _ {X : Type 0} (p q : X → Bool) (R : X → X → Type 0) (apart : (x y : X) → R x y → p y ≡ true → p x ≡ false → q x ≡ true → ⊥) where
  -- what is found among those that pass is one of all
  found_in : (xs : List X) (k : ℕ) (e : X) → slice_get (filter p xs) k ≡ Some e → (j : ℕ) × (slice_get xs j ≡ Some e) × (p e ≡ true)
  found_in [] k e h = cc
  found_in (x ∷ xs) k e h = by (p x) refl k h (found_in xs)
    where
      by : (b : Bool) → p x ≡ b → (n : ℕ) → slice_get (cond b (x ∷ filter p xs) (filter p xs)) n ≡ Some e →
          ((m : ℕ) (y : X) → slice_get (filter p xs) m ≡ Some y → (j : ℕ) × (slice_get xs j ≡ Some y) × (p y ≡ true))
          → (j : ℕ) × (slice_get (x ∷ xs) j ≡ Some e) × (p e ≡ true)
      by true here zero g rest = let same : x ≡ e = cc in (0, g, ap p (sym same) ∙ here)
      by true here (suc n) g rest = let w = rest n e g in (suc w.0, w.1, w.2)
      by false here n g rest = let w = rest n e g in (suc w.0, w.1, w.2)

  -- The first that passes the one test is the first of those that pass the other, where none of others comes before it.
  pub find_at : (xs : List X) → AllPairs R xs → (k : ℕ) (e : X) → slice_get (filter p xs) k ≡ Some e → q e ≡ true → list_any q (take k (filter p xs)) ≡ false →
      find q xs ≡ Some e
  find_at [] pairs k e h passes first = cc
  find_at (x ∷ xs) pairs k e h passes first = by (p x) refl k h first (find_at xs (λ i j d l m. pairs (suc i) (suc j) d (omega (arith, l)) (omega (arith, m))))
    where
      tail : (b : Bool) → q x ≡ b → b ≡ false → find q xs ≡ Some e → find q (x ∷ xs) ≡ Some e
      tail b is none rest = ap (λ c. cond c (Some x) (find q xs)) (is ∙ none) ∙ rest

      by : (b : Bool) → p x ≡ b → (n : ℕ) → slice_get (cond b (x ∷ filter p xs) (filter p xs)) n ≡ Some e →
          list_any q (take n (cond b (x ∷ filter p xs) (filter p xs))) ≡ false
          → ((m : ℕ) (y : X) → slice_get (filter p xs) m ≡ Some y → q y ≡ true → list_any q (take m (filter p xs)) ≡ false → find q xs ≡ Some y) →
          find q (x ∷ xs) ≡ Some e
      by true here zero g none rest = let same : x ≡ e = cc in ap (λ c. cond c (Some x) (find q xs)) (ap q same ∙ passes) ∙ g
      by true here (suc n) g none rest =
          let parts = or_parts (q x) (list_any q (take n (filter p xs))) none in
          tail (q x) refl parts.0 (rest n e g passes parts.1)
      by false here n g none rest =
          let w : (j : ℕ) × (slice_get xs j ≡ Some e) × (p e ≡ true) = found_in xs n e g in
          tail (q x) refl (not_so (q x) refl w) (rest n e g passes none)
        where
          not_so : (c : Bool) → q x ≡ c → (j : ℕ) × (slice_get xs j ≡ Some e) × (p e ≡ true) → c ≡ false
          not_so false is w = refl
          not_so true is w = absurd
              (apart x e (subst (R x) (get_or_from_slice_get xs w.0 e x w.1) (pairs 0 (suc w.0) x (omega arith) (omega (arith, slice_get_within xs w.0 e w.1))))
              w.2 here is)

-- ---- what a function gives of each, one behind another

pub flat_cons : {X A : Type 0} (f : X → List A) (b : Bool) (x : X) (ys : List X) → flat_map f (cond b (x ∷ ys) ys) ≡ cond b (f x) [] ++ flat_map f ys
flat_cons f true x ys = refl
flat_cons f false x ys = refl

pub map_get : {X Y : Type 0} (f : X → Y) (xs : List X) (k : ℕ) (x : X) (d : Y) → slice_get xs k ≡ Some x → get_or (map f xs) k d ≡ f x
map_get f [] k x d h = cc
map_get f (y ∷ xs) zero x d h = let e : y ≡ x = cc in ap f e
map_get f (y ∷ xs) (suc k) x d h = map_get f xs k x d h

pub some_of : {X A : Type 0} (f : X → List A) (xs : List X) (r k : ℕ) (a : A) → slice_get (get_or (map f xs) r []) k ≡ Some a → (x : X) ×
    (slice_get xs r ≡ Some x)
some_of f [] r k a h = cc
some_of f (y ∷ xs) zero k a h = (y, refl)
some_of f (y ∷ xs) (suc r) k a h = some_of f xs r k a h

-- ---- places by numbers

pub place_found : (rules : List Entry) (n from r : ℕ) → position_from (λ (rule : Entry). nat_eq rule.number n) from rules ≡ Some r → (k : ℕ) × (rule : Entry) ×
    (r ≡ from + k) × (slice_get rules k ≡ Some rule) × (rule.number ≡ n)
place_found [] n from r h = cc
place_found (rule ∷ rules) n from r h = by (nat_eq rule.number n) refl h (place_found rules n (from + 1) r)
  where
    by : (b : Bool) → nat_eq rule.number n ≡ b → cond b (Some from) (position_from (λ (other : Entry). nat_eq other.number n) (from + 1) rules) ≡ Some r
        → (position_from (λ (other : Entry). nat_eq other.number n) (from + 1) rules ≡ Some r → (k : ℕ) × (one : Entry) × (r ≡ from + 1 + k) ×
        (slice_get rules k ≡ Some one) × (one.number ≡ n))
        → (k : ℕ) × (one : Entry) × (r ≡ from + k) × (slice_get (rule ∷ rules) k ≡ Some one) × (one.number ≡ n)
    by true is e rest = let same : from ≡ r = cc in (0, rule, omega (arith, same), refl, eqb-true rule.number n is)
    by false is e rest = let w = rest e in (suc w.0, w.1, omega (arith, w.2), w.3, w.4)

-- Where numbers rise, the place of a number is the one at which it stands.
pub place_is : (rules : List Entry) → AllPairs (λ (a b : Entry). a.number < b.number) rules → (from r : ℕ) (rule : Entry) → slice_get rules r ≡ Some rule
    → position_from (λ (other : Entry). nat_eq other.number rule.number) from rules ≡ Some (from + r)
place_is [] rise from r rule h = cc
place_is (x ∷ rules) rise from zero rule h =
    let e : x ≡ rule = cc in
    ap (λ b. cond b (Some from) (position_from (λ (other : Entry). nat_eq other.number rule.number) (from + 1) rules))
    (eq-eqb x.number rule.number (ap (λ (y : Entry). y.number) e)) ∙ ap Some (omega arith)
place_is (x ∷ rules) rise from (suc r) rule h =
    let less : x.number < rule.number = subst (λ (y : Entry). x.number < y.number) (get_or_from_slice_get rules r rule x h)
    (rise 0 (suc r) x (omega arith) (omega (arith, slice_get_within rules r rule h))) in
    ap (λ b. cond b (Some from) (position_from (λ (other : Entry). nat_eq other.number rule.number) (from + 1) rules))
    (ne_eqb x.number rule.number (λ e. omega (arith, less, e)))
    ∙ (place_is rules (λ i j d l m. rise (suc i) (suc j) d (omega (arith, l)) (omega (arith, m))) (from + 1) r rule h ∙ ap Some (omega arith))
