-- The contexts of an invoice are the invoice itself and each occurrence of a group that stands in it.
use Rattle.std.proofs.Common.{◌≡◌, ℕ, ◌<◌, zero, suc, Bool, true, false, List, [], ◌∷◌, ◌++◌, length, get_or, Option, None, refl, sym, ap, ◌∙◌, subst, ◌⊎◌, inl}
use Rattle.std.proofs.Common.{inr, arith}
use Rattle.std.specs.Prelude.{◌↔◌, not, is_some, if◌then◌else◌, Contains}
use Rattle.std.proofs.lemmas.Bool.{false≢true}
use Rattle.term_table.specs.declared.contexts.Slot.{Slot}
use Rattle.term_table.specs.declared.contexts.Context.{Context}
use Rattle.term_table.specs.Contexts.{same_slot, same_context, root_context, outer_context}
use Rattle.term_table.proofs.GroupLemmas.{both}
use Rattle.inv_terms.specs.declared.entries.Entry.{Entry}
use Rattle.inv_terms.proofs.PushLemmas.{same_slot_is, and_pair}
use Rattle.inv_terms.specs.Validity.{opens_outer, opens_inner, opened, contexts_behind, contexts}
use Rattle.inv_terms.specs.Whole.{IsShownBy, IsContextOf}

-- ---- members

pub here : {X : Type 0} (x : X) (xs : List X) → Contains (x ∷ xs) x
here x xs = (0, omega arith, refl)

pub there : {X : Type 0} (y x : X) (xs : List X) → Contains xs x → Contains (y ∷ xs) x
there y x xs w = (suc w.0, let l = w.1 in omega (arith, l), w.2)

pub member_cases : {X : Type 0} (y x : X) (xs : List X) → Contains (y ∷ xs) x → (y ≡ x) ⊎ Contains xs x
member_cases y x xs w = go w.0 w.1 w.2
  where
    go : (k : ℕ) → k < length (y ∷ xs) → get_or (y ∷ xs) k x ≡ x → (y ≡ x) ⊎ Contains xs x
    go zero l at = inl at
    go (suc k) l at = inr (k, omega (arith, l), at)

pub no_member : {X : Type 0} (x : X) → Contains [] x → ⊥
no_member x w = let l = w.1 in omega (arith, l)

pub append_cases : {X : Type 0} (x : X) (xs ys : List X) → Contains (xs ++ ys) x → Contains xs x ⊎ Contains ys x
append_cases x [] ys w = inr w
append_cases x (y ∷ xs) ys w = elim (member_cases y x (xs ++ ys) w) [
  | inl e ↦ inl (0, omega arith, e)
  | inr m ↦ elim (append_cases x xs ys m) [ inl a ↦ inl (there y x xs a) | inr b ↦ inr b ]
]

pub append_front : {X : Type 0} (x : X) (xs ys : List X) → Contains xs x → Contains (xs ++ ys) x
append_front x [] ys w = absurd (no_member x w)
append_front x (y ∷ xs) ys w = elim (member_cases y x xs w) [ inl e ↦ (0, omega arith, e) | inr m ↦ there y x (xs ++ ys) (append_front x xs ys m) ]

pub append_back : {X : Type 0} (x : X) (xs ys : List X) → Contains ys x → Contains (xs ++ ys) x
append_back x [] ys w = w
append_back x (y ∷ xs) ys w = there y x (xs ++ ys) (append_back x xs ys w)

-- ---- each context is shown

bool_cases : (b : Bool) → (b ≡ true) ⊎ (b ≡ false)
bool_cases true = inl refl
bool_cases false = inr refl

if_member : (b : Bool) (x c : Context) → Contains (if b then x ∷ [] else []) c → (b ≡ true) × (x ≡ c)
if_member true x c w = elim (member_cases x c [] w) [ inl e ↦ (refl, e) | inr m ↦ absurd (no_member c m) ]
if_member false x c w = absurd (no_member c w)

opened_shown : (before : Context) (e : Entry) (c : Context) → Contains (opened before e.context) c → IsShownBy e c
opened_shown before e c w = elim (append_cases c (if opens_outer before e.context then outer_context e.context ∷ [] else []) _ w) [
  | inl a ↦
      let p = if_member (opens_outer before e.context) (outer_context e.context) c a in
      inl (sym p.1, (both (not (same_slot before.outer e.context.outer)) _ p.0).1)
  | inr b ↦
      let p = if_member (opens_inner before e.context) e.context c b in
      inr (sym p.1, (both (not (same_context before e.context)) _ p.0).1)
]

behind_shown : (before : Context) (es : List Entry) (c : Context) → Contains (contexts_behind before es) c → (e : Entry) × Contains es e × IsShownBy e c
behind_shown before [] c w = absurd (no_member c w)
behind_shown before (e ∷ es) c w = elim (append_cases c (opened before e.context) (contexts_behind e.context es) w) [
  | inl a ↦ (e, here e es, opened_shown before e c a)
  | inr b ↦ let v = behind_shown e.context es c b in (v.0, there e v.0 es v.1, v.2)
]

pub context_shown : (es : List Entry) (c : Context) → Contains (contexts es) c → IsContextOf es c
context_shown es c w = elim (member_cases root_context c (contexts_behind root_context es) w) [
  | inl e ↦ inl (sym e)
  | inr m ↦ inr (behind_shown root_context es c m)
]

-- ---- what is shown is a context

if_in : (b : Bool) (x : Context) → b ≡ true → Contains (if b then x ∷ [] else []) x
if_in true x h = here x []
if_in false x h = absurd (false≢true h)

outer_is : (a b : Context) → a.outer ≡ b.outer → outer_context a ≡ outer_context b
outer_is a b h = ap (λ (o : Option Slot). record { outer = o; inner = None }) h

pub context_is : (a b : Context) → same_context a b ≡ true → a ≡ b
context_is a b h =
    let k = both (same_slot a.outer b.outer) _ h in
    let x : Context = record { outer = a.outer; inner = a.inner } in
    let y : Context = record { outer = b.outer; inner = b.inner } in
    let e : x ≡ y = rw (same_slot_is a.outer b.outer k.0, same_slot_is a.inner b.inner k.1) refl in
    e

not_false : (b : Bool) → b ≡ false → not b ≡ true
not_false b h = rw h refl

-- The context of an entry that begins one is opened, or was the one before.
outer_opened : (before : Context) (e : Entry) → is_some e.context.outer ≡ true →
    (outer_context before ≡ outer_context e.context) ⊎ Contains (opened before e.context) (outer_context e.context)
outer_opened before e h = elim (bool_cases (same_slot before.outer e.context.outer)) [
  | inl same ↦ inl (outer_is before e.context (same_slot_is before.outer e.context.outer same))
  | inr other ↦ inr (append_front (outer_context e.context) _ _
      (if_in (opens_outer before e.context) (outer_context e.context) (and_pair _ _ (not_false _ other) h)))
]

inner_opened : (before : Context) (e : Entry) → is_some e.context.inner ≡ true → (before ≡ e.context) ⊎ Contains (opened before e.context) e.context
inner_opened before e h = elim (bool_cases (same_context before e.context)) [
  | inl same ↦ inl (context_is before e.context same)
  | inr other ↦ inr (append_back e.context (if opens_outer before e.context then outer_context e.context ∷ [] else []) _
      (if_in (opens_inner before e.context) e.context (and_pair _ _ (not_false _ other) h)))
]

-- the contexts from one on, with the one before and its outer one
shown_outer : (before : Context) (es : List Entry) (e : Entry) → Contains es e → is_some e.context.outer ≡ true
    → (outer_context before ≡ outer_context e.context) ⊎ Contains (contexts_behind before es) (outer_context e.context)
shown_outer before [] e w h = absurd (no_member e w)
shown_outer before (f ∷ es) e w h = elim (member_cases f e es w) [
  | inl is ↦
      let some : is_some f.context.outer ≡ true = ap (λ (x : Entry). is_some x.context.outer) is ∙ h in
      let context : outer_context f.context ≡ outer_context e.context = ap (λ (x : Entry). outer_context x.context) is in
      elim (outer_opened before f some) [
        | inl old ↦ inl (old ∙ context)
        | inr new ↦ inr (append_front (outer_context e.context) (opened before f.context) _ (subst (λ c. Contains (opened before f.context) c) context new))
      ]
  | inr m ↦ elim (shown_outer f.context es e m h) [
    | inr later ↦ inr (append_back (outer_context e.context) (opened before f.context) _ later)
    | inl same ↦
        let some : is_some f.context.outer ≡ true = ap (λ (c : Context). is_some c.outer) same ∙ h in
        elim (outer_opened before f some) [
          | inl old ↦ inl (old ∙ same)
          | inr new ↦ inr (append_front (outer_context e.context) (opened before f.context) _ (subst (λ c. Contains (opened before f.context) c) same new))
        ]
  ]
]

shown_inner : (before : Context) (es : List Entry) (e : Entry) → Contains es e → is_some e.context.inner ≡ true
    → (before ≡ e.context) ⊎ Contains (contexts_behind before es) e.context
shown_inner before [] e w h = absurd (no_member e w)
shown_inner before (f ∷ es) e w h = elim (member_cases f e es w) [
  | inl is ↦
      let some : is_some f.context.inner ≡ true = ap (λ (x : Entry). is_some x.context.inner) is ∙ h in
      let context : f.context ≡ e.context = ap (λ (x : Entry). x.context) is in
      elim (inner_opened before f some) [
        | inl old ↦ inl (old ∙ context)
        | inr new ↦ inr (append_front e.context (opened before f.context) _ (subst (λ c. Contains (opened before f.context) c) context new))
      ]
  | inr m ↦ elim (shown_inner f.context es e m h) [
    | inr later ↦ inr (append_back e.context (opened before f.context) _ later)
    | inl same ↦
        let some : is_some f.context.inner ≡ true = ap (λ (c : Context). is_some c.inner) same ∙ h in
        elim (inner_opened before f some) [
          | inl old ↦ inl (old ∙ same)
          | inr new ↦ inr (append_front e.context (opened before f.context) _ (subst (λ c. Contains (opened before f.context) c) same new))
        ]
  ]
]

pub shown_context : (es : List Entry) (c : Context) → IsContextOf es c → Contains (contexts es) c
shown_context es c (inl root) = subst (λ x. Contains (contexts es) x) (sym root) (here root_context _)
shown_context es c (inr w) = elim w.2 [
  | inl outer ↦ subst (λ x. Contains (contexts es) x) (sym outer.0) (elim (shown_outer root_context es w.0 w.1 outer.1) [
    | inl same ↦ subst (λ x. Contains (contexts es) x) same (here root_context _)
    | inr m ↦ there root_context _ _ m
  ])
  | inr inner ↦ subst (λ x. Contains (contexts es) x) (sym inner.0) (elim (shown_inner root_context es w.0 w.1 inner.1) [
    | inl same ↦ subst (λ x. Contains (contexts es) x) same (here root_context _)
    | inr m ↦ there root_context _ _ m
  ])
]

pub contexts_are : (es : List Entry) (c : Context) → (Contains (contexts es) c ↔ IsContextOf es c)
contexts_are es c = (context_shown es c, shown_context es c)
