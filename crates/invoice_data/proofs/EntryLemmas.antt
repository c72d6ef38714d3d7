-- The entries of what was found.
use Rattle.std.proofs.Common.{◌≡◌, ◌≢◌, ℕ, ◌+◌, true, false, ◌==◌, inl, inr, ◌↔◌, List, [], ◌∷◌, ◌++◌, length, flat_map, refl, sym, ap, ◌∙◌, subst, Contains, All, append_assoc, arith, IsPermutation, true≢false}
use Rattle.std.proofs.lemmas.List.Elements.{All-tail, Contains-push, Contains-push_cases, Contains-append_left, Contains-append_right, Contains-append_cases}
use Rattle.std.proofs.lemmas.Bool.{eqb-true}
use Rattle.std.proofs.lemmas.List.Sorted.{Contains-permutation, IsPermutation-sym}
use Rattle.inv_terms.specs.declared.entries.Entry.{Entry}
use Rattle.invoice_data.specs.declared.telling.Found.{Found}
use Rattle.invoice_data.specs.Data.{FitsFound, entries_of, entries}

-- An element gives the entry.
pub record Gives (founds : List Found) (e : Entry) : Type 0 where
  pub found : Found
  pub member : Contains founds found
  pub entry : Contains (entries_of found) e

given : (founds : List Found) (e : Entry) → Contains (flat_map entries_of founds) e → Gives founds e
given [] e h = absurd (omega (arith, h.1))
given (f ∷ founds) e h = elim (Contains-append_cases (entries_of f) (flat_map entries_of founds) e h) [
  | inl here ↦ record { found = f; member = Contains-append_left (f ∷ []) founds f (Contains-push [] f); entry = here }
  | inr there ↦
      let more = given founds e there in
      record { found = more.found; member = Contains-append_right (f ∷ []) founds more.found more.member; entry = more.entry }
]

gives : (founds : List Found) (e : Entry) (found : Found) → Contains founds found → Contains (entries_of found) e → Contains (flat_map entries_of founds) e
gives [] e found h k = absurd (omega (arith, h.1))
gives (f ∷ founds) e found h k = elim (Contains-append_cases (f ∷ []) founds found h) [
  | inl here ↦ elim (Contains-push_cases [] f found here) [
    | inl none ↦ absurd (omega (arith, none.1))
    | inr same ↦ Contains-append_left (entries_of f) (flat_map entries_of founds) e (subst (λ x. Contains (entries_of x) e) (sym same) k)
  ]
  | inr there ↦ Contains-append_right (entries_of f) (flat_map entries_of founds) e (gives founds e found there k)
]

moved : (xs ys : List Found) (e : Entry) → IsPermutation xs ys → Contains (flat_map entries_of xs) e → Contains (flat_map entries_of ys) e
moved xs ys e h k =
    let one = given xs e k in
    gives ys e one.found (Contains-permutation xs ys one.found h one.member) one.entry

-- the entries in another order are the same
pub same_entries : (xs ys : List Found) (es : List Entry) → IsPermutation xs ys → es ≡ flat_map entries_of ys → (e : Entry)
    → (Contains es e ↔ Contains (entries xs) e)
unfolding entries
same_entries xs ys es h same e =
    (λ k. moved ys xs e (IsPermutation-sym xs ys h) (subst (λ l. Contains l e) same k), λ k. subst (λ l. Contains l e) (sym same) (moved xs ys e h k))

-- ---- one more found

pub one_more : (old new all : List Entry) (items rest : List Found) (found : Found) → items ≡ found ∷ rest → new ≡ old ++ entries_of found
    → old ++ flat_map entries_of items ≡ all → new ++ flat_map entries_of rest ≡ all
one_more old new all items rest found e put h =
    ap (λ l. l ++ flat_map entries_of rest) put
    ∙ (append_assoc old (entries_of found) (flat_map entries_of rest) ∙ (ap (λ l. old ++ flat_map entries_of l) (sym e) ∙ h))

pub rest_fits : (items rest : List Found) (found : Found) → items ≡ found ∷ rest → All FitsFound items → All FitsFound rest
rest_fits items rest found e h = All-tail FitsFound found rest (subst (λ l. All FitsFound l) e h)

pub one_less : (items rest : List Found) (found : Found) (len fewer : ℕ) → items ≡ found ∷ rest → fewer + 1 ≡ len → len ≡ length items → fewer ≡ length rest
one_less items rest found len fewer e l h = omega (arith, ap length e)

-- ---- whether there are faults

pub no_faults : {X : Type 0} (xs : List X) → (length xs == 0) ≡ true → xs ≡ []
no_faults [] h = refl
no_faults (x ∷ xs) h = absurd (omega (arith, eqb-true (length (x ∷ xs)) 0 h))

pub some_faults : {X : Type 0} (xs : List X) → (length xs == 0) ≡ false → xs ≢ []
some_faults xs h = λ none. true≢false (sym (ap (λ (l : List _). length l == 0) none) ∙ h)
