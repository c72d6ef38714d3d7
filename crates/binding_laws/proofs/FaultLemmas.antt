-- When what picks say shows no fault: each by itself, and beside those before it.
use Rattle.std.proofs.Common.{◌≡◌, true, false, not, List, [], ◌∷◌, ◌++◌, Option, Some, None, ◌⊎◌, inl, inr, refl, ap, ◌∙◌, subst}
use Rattle.inv_base.specs.Tree.{Node}
use Rattle.code_lists.specs.CodeFiles.{Lists}
use Rattle.inv_terms.specs.declared.violations.Name.TheVariants as names
use Rattle.inv_terms.specs.declared.entries.Entry.{Entry}
use Rattle.inv_terms.specs.Listing.{is_listed}
use Rattle.bind_meaning.specs.declared.fault.BindKind.TheVariants as kinds
use Rattle.bind_meaning.specs.Currencies.{Currencies}
use Rattle.bind_meaning.specs.Elements.{has_element_inside}
use Rattle.bind_meaning.specs.Judging.{Told, is_of_seat, first_before, may_repeat, is_excess, is_bad, is_not_listed, is_foreign, disagree, is_disagreeing}
use Rattle.bind_meaning.specs.Judging.{first_cause, causes, place_at, found, fault_of, faults_behind}
use Rattle.binding_laws.proofs.ContextLemmas.{Rising}
use Rattle.binding_laws.proofs.ReachLemmas.{Among, among-split}
use Rattle.binding_laws.proofs.CountLemmas.{each-among}
use Rattle.binding_laws.proofs.EntryLemmas.{first-among}

module _ (es : List Entry) (rises : is_listed es ≡ true) (nodes : List Node) (lists : Lists) (c : Currencies) where
  -- Nothing is wrong with it by itself.
  pub record IsFine (t : Told) : Type 0 where
    pub inside : has_element_inside nodes t.placed.pick.node ≡ false
    pub good : is_bad nodes t ≡ false
    pub listed : is_not_listed lists t ≡ false
    pub own : is_foreign nodes c t ≡ false

  -- Nothing is wrong with it behind the first one.
  pub record IsFair (a b : Told) : Type 0 where
    pub repeats : is_of_seat a b ≡ true → may_repeat b.placed.pick.row.repeats ≡ true
    pub agrees : is_of_seat a b ≡ true → disagree a.parsed.value b.parsed.value ≡ false

  no-cause : (o : Option Told) (t : Told) → IsFine t → is_excess o t ≡ false → is_disagreeing o t ≡ false → fault_of nodes lists c o t ≡ []
  no-cause o t f e d = ap (λ x. elim x [ None ↦ [] | Some kind ↦ found (place_at t.placed.pick kind) kind (names.Term t.parsed.term) t.placed.pick.node ∷ [] ])
      none
    where
      none : first_cause (causes nodes lists c o t) ≡ None
      none = λ i. first_cause (record {
        kind = kinds.Excess;
        holds =
            λ _. e i;
      } ∷ (record {
        kind = kinds.ElementInValue;
        holds =
            λ _. f.inside i;
      } ∷ (record {
        kind = kinds.BadValue;
        holds =
            λ _. f.good i;
      } ∷ (record {
        kind = kinds.CodeNotListed;
        holds =
            λ _. f.listed i;
      } ∷ (record { kind = kinds.CurrencyDiffers; holds = λ _. f.own i } ∷ (record { kind = kinds.Disagree; holds = λ _. d i } ∷ []))))))

  one-fine : (before : List Told) (t : Told) → IsFine t → ((u : Told) → Among u before → IsFair u t) → fault_of nodes lists c (first_before before t) t ≡ []
  one-fine before t f fair = go (first_before before t) refl
    where
      go : (o : Option Told) → first_before before t ≡ o → fault_of nodes lists c o t ≡ []
      go None e = no-cause None t f refl refl
      go (Some u) e =
          let w = first-among es rises before t u e in
          let k = fair u w.0 in
          no-cause (Some u) t f (ap not (k.repeats w.1)) (k.agrees w.1)

  pub no-faults : (before ts : List Told) → ((t : Told) → Among t ts → IsFine t) → ((u t : Told) → Among u before → Among t ts → IsFair u t) → Rising IsFair ts
      → faults_behind nodes lists c before ts ≡ []
  no-faults before [] f g h = refl
  no-faults before (t ∷ ts) f g h =
      ap (λ l. l ++ faults_behind nodes lists c (before ++ (t ∷ [])) ts) (one-fine before t (f t (inl refl)) (λ u a. g u t a (inl refl)))
      ∙ no-faults (before ++ (t ∷ [])) ts (λ x a. f x (inr a)) (λ u x a b. pairs u x b (among-split u before (t ∷ []) a)) h.1
    where
      pairs : (u x : Told) → Among x ts → Among u before ⊎ Among u (t ∷ []) → IsFair u x
      pairs u x b (inl m) = g u x m (inr b)
      pairs u x b (inr (inl s)) = subst (λ y. IsFair y x) s (each-among (IsFair t) x ts h.0 b)
      pairs u x b (inr (inr z)) = absurd z
