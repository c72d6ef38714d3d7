-- What is found in a list, and what a filter leaves.
use Rattle.std.proofs.Common.{◌≡◌, ℕ, Bool, true, false, cond, List, [], ◌∷◌, refl, ap, sym, ◌∙◌, subst, inl, inr, ◌⊎◌, true≢false}
use Rattle.std.specs.Prelude.{Some, filter, find, slice_get, Contains}
use Rattle.std.specs.List.{list_all}
use Rattle.std.proofs.lemmas.Bool.{and_parts}
use Rattle.std.proofs.lemmas.Option.{same_Some, slice_get_within, get_or_from_slice_get}
use Rattle.inv_terms.proofs.ContextLemmas.{here, there, member_cases, no_member}

module _ {X : Type 0} where
  pub find-is : (p : X → Bool) (xs : List X) (x : X) → find p xs ≡ Some x → (p x ≡ true) × Contains xs x
  find-is p [] x h = cc
  find-is p (y ∷ xs) x h = by (p y) refl (find-is p xs x) h
    where
      by : (q : Bool) → p y ≡ q → (find p xs ≡ Some x → (p x ≡ true) × Contains xs x) → cond q (Some y) (find p xs) ≡ Some x
          → (p x ≡ true) × Contains (y ∷ xs) x
      by true e next h = let same : y ≡ x = same_Some _ _ h in (ap p (sym same) ∙ e, subst (Contains (y ∷ xs)) same (here y xs))
      by false e next h = let rest = next h in (rest.0, there y x xs rest.1)

  pub filter-member : (p : X → Bool) (xs : List X) (x : X) → Contains (filter p xs) x → Contains xs x
  filter-member p [] x h = h
  filter-member p (y ∷ xs) x h = by (p y) (filter-member p xs x) h
    where
      by : (q : Bool) → (Contains (filter p xs) x → Contains xs x) → Contains (cond q (y ∷ filter p xs) (filter p xs)) x → Contains (y ∷ xs) x
      by true next h = elim (member_cases y x (filter p xs) h) [
        | inl same ↦ subst (Contains (y ∷ xs)) same (here y xs)
        | inr rest ↦ there y x xs (next rest)
      ]
      by false next h = there y x xs (next h)

  pub all-member : (p : X → Bool) (xs : List X) (x : X) → list_all p xs ≡ true → Contains xs x → p x ≡ true
  all-member p [] x h m = absurd (no_member x m)
  all-member p (y ∷ xs) x h m =
      let parts = and_parts (p y) (list_all p xs) h in
      elim (member_cases y x xs m) [ inl same ↦ ap p (sym same) ∙ parts.0 | inr rest ↦ all-member p xs x parts.1 rest ]

  -- A filter that leaves what is looked for changes nothing.
  pub find-filter : (p q : X → Bool) → ((x : X) → p x ≡ true → q x ≡ true) → (xs : List X) → find p (filter q xs) ≡ find p xs
  find-filter p q leaves [] = refl
  find-filter p q leaves (x ∷ xs) = by (q x) refl (p x) refl (find-filter p q leaves xs)
    where
      by : (b : Bool) → q x ≡ b → (a : Bool) → p x ≡ a → find p (filter q xs) ≡ find p xs
          → find p (cond b (x ∷ filter q xs) (filter q xs)) ≡ cond a (Some x) (find p xs)
      by true e a f rest = ap (λ t. cond t (Some x) (find p (filter q xs))) f ∙ ap (λ r. cond a (Some x) r) rest
      by false e true f rest = absurd (true≢false (sym (leaves x f) ∙ e))
      by false e false f rest = rest

  pub slice_get-member : (xs : List X) (k : ℕ) (x : X) → slice_get xs k ≡ Some x → Contains xs x
  slice_get-member xs k x h = (k, slice_get_within xs k x h, get_or_from_slice_get xs k x x h)

  pub member-filter : (p : X → Bool) (xs : List X) (x : X) → p x ≡ true → Contains xs x → Contains (filter p xs) x
  member-filter p [] x h m = m
  member-filter p (y ∷ xs) x h m = by (p y) refl (member-cases-of m) (λ k. member-filter p xs x h k)
    where
      member-cases-of : Contains (y ∷ xs) x → (y ≡ x) ⊎ Contains xs x
      member-cases-of k = member_cases y x xs k

      by : (q : Bool) → p y ≡ q → (y ≡ x) ⊎ Contains xs x → (Contains xs x → Contains (filter p xs) x)
          → Contains (cond q (y ∷ filter p xs) (filter p xs)) x
      by true e (inl same) rest = subst (Contains (y ∷ filter p xs)) same (here y (filter p xs))
      by true e (inr later) rest = there y x (filter p xs) (rest later)
      by false e (inl same) rest = absurd (true≢false (sym h ∙ (ap p (sym same) ∙ e)))
      by false e (inr later) rest = rest later
