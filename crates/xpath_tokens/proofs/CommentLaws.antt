-- Comments: going forward with a depth, and going backward with the number of ends that are left over.
use Rattle.std.proofs.Common.{◌≡◌, ℕ, zero, suc, pred, ◌+◌, ◌-◌, ◌≤◌, Bool, true, false, cond, ◌&&◌, eqb, ltb, List, [], ◌∷◌, Option, Some, None, length, refl}
use Rattle.std.proofs.Common.{sym, ap, ◌∙◌, ◌≢◌, arith, inl, inr, is_some}
use Rattle.std.proofs.lemmas.Bool.{cases_Bool}
use Rattle.xpath_tokens.specs.Words.{one_more, comment_rest, comment_at}
use Rattle.xpath_tokens.specs.Scanning.{behind, pending, is_unclosed, pending_inside, pending_before, unclosed_before}

-- a choice by two tests, as comment_rest makes it
chosen : {X : Type 0} → Bool → Bool → X → X → X → X
chosen opens closes x y z = elim opens [ true ↦ x | false ↦ elim closes [ true ↦ y | false ↦ z ] ]

-- the comment ends exactly where more ends are left over than there are comments round it
pub comment-ends : (outer before : ℕ) (text : List ℕ) → is_some (comment_rest outer before text) ≡ ltb outer (pending before text)
unfolding comment_rest pending
comment-ends outer before [] = none outer where
  none : (n : ℕ) → false ≡ ltb n 0
  none n = search arith
comment-ends outer before (c ∷ text) = by_cases (eqb before 40 && eqb c 58) (eqb before 58 && eqb c 41) outer (comment-ends (suc outer) 0 text)
    (λ n. comment-ends n 0 text) (comment-ends outer c text) where
      kept : (x : Option ℕ) → is_some (one_more x) ≡ is_some x
      kept None = refl
      kept (Some n) = refl

      down : (n p : ℕ) → ltb (suc n) p ≡ ltb n (pred p)
      down n zero = search arith
      down n (suc p) = search arith

      up : (n p : ℕ) → ltb n p ≡ ltb (suc n) (suc p)
      up n p = search arith

      by_cases : (a b : Bool) (outer : ℕ) → is_some (comment_rest (suc outer) 0 text) ≡ ltb (suc outer) (pending 0 text) →
          ((n : ℕ) → is_some (comment_rest n 0 text) ≡ ltb n (pending 0 text))
          → is_some (comment_rest outer c text) ≡ ltb outer (pending c text)
          → is_some (elim a [
            | true ↦ one_more (comment_rest (suc outer) 0 text)
            | false ↦ elim b [ true ↦ elim outer [ zero ↦ Some 1 | suc n ↦ one_more (comment_rest n 0 text) ] | false ↦ one_more (comment_rest outer c text) ]
          ])
          ≡ ltb outer (cond a (pred (pending 0 text)) (cond b (suc (pending 0 text)) (pending c text)))
      by_cases true b outer opened closed same = kept _ ∙ opened ∙ down outer (pending 0 text)
      by_cases false true zero opened closed same = search arith
      by_cases false true (suc n) opened closed same = kept _ ∙ closed n ∙ up n (pending 0 text)
      by_cases false false outer opened closed same = kept _ ∙ same

pending-cons : (c : ℕ) (text : List ℕ) → pending 0 (c ∷ text) ≡ pending c text
unfolding pending
pending-cons c text = refl

-- behind a character that begins no sign
pending-other : (c : ℕ) (text : List ℕ) → eqb c 40 ≡ false → eqb c 58 ≡ false → pending c text ≡ pending 0 text
unfolding pending
pending-other c [] e f = refl
pending-other c (d ∷ text) e f = rw (e, f) refl

equal : (c k : ℕ) → eqb c k ≡ true → c ≡ k
equal c k e = search arith

pub pending-inside : (text : List ℕ) → pending 0 text ≡ pending_inside (pending 0 (58 ∷ text)) text
unfolding pending pending_inside
pending-inside [] = refl
pending-inside (c ∷ text) = elim (cases_Bool (eqb c 41)) [
  | inr e ↦ rw e refl
  | inl e ↦ rw e (let f : pending c text ≡ pending 0 text = pending-other c text (ap (λ d. eqb d 40) (equal c 41 e)) (ap (λ d. eqb d 58) (equal c 41 e)) in f ∙
      one_less (pending 0 text))
] where
  one_less : (n : ℕ) → n ≡ suc n - 1
  one_less n = omega arith

second : (a b : Bool) → (a && b) ≡ true → b ≡ true
second true b e = e
second false b e = cc

pub pending-before : (c : ℕ) (text : List ℕ) → pending 0 (c ∷ text) ≡ pending_before (pending 0 text) (c ∷ text)
unfolding pending pending_before
pending-before c [] = refl
pending-before c (d ∷ text) = elim (cases_Bool (eqb c 40 && eqb d 58)) [
  | inl e ↦ rw e (opens (equal d 58 (second (eqb c 40) (eqb d 58) e)))
  | inr e ↦ rw e (elim (cases_Bool (eqb c 58 && eqb d 41)) [ inl f ↦ rw f (closes (equal d 41 (second (eqb c 58) (eqb d 41) f))) | inr f ↦ rw f refl ])
] where
  less : (n m : ℕ) → n ≡ m → pred n ≡ m - 1
  less n m e = omega arith

  more : (n m : ℕ) → n ≡ m → suc m ≡ n + 1
  more n m e = omega arith

  opens : d ≡ 58 → pred (pending 0 text) ≡ pending_inside (pending 0 (d ∷ text)) text - 1
  opens e = less _ _ (pending-inside text ∙ ap (λ x. pending_inside (pending 0 (x ∷ text)) text) (sym e))

  closes : d ≡ 41 → suc (pending 0 text) ≡ pending 0 (d ∷ text) + 1
  closes e = more (pending d text) _ (pending-other d text (ap (λ x. eqb x 40) e) (ap (λ x. eqb x 58) e))

pub is_unclosed-before : (c : ℕ) (text : List ℕ) → is_unclosed (c ∷ text) ≡ unclosed_before (pending 0 text) (c ∷ text)
unfolding is_unclosed unclosed_before
is_unclosed-before c [] = refl
is_unclosed-before c (d ∷ text) = elim (cases_Bool (eqb d 58)) [ inl e ↦ rw e (inside (equal d 58 e)) | inr e ↦ rw e refl ] where
  inside : d ≡ 58 → (eqb c 40 && eqb (pending 0 text) 0) ≡ (eqb c 40 && eqb (pending_inside (pending 0 (d ∷ text)) text) 0)
  inside e = ap (λ n. eqb c 40 && eqb n 0) (pending-inside text ∙ ap (λ x. pending_inside (pending 0 (x ∷ text)) text) (sym e))

pub pending-within : (before : ℕ) (text : List ℕ) → pending before text ≤ length text
unfolding pending
pending-within before [] = omega arith
pending-within before (c ∷ text) = by_cases (eqb before 40 && eqb c 58) (eqb before 58 && eqb c 41) (pending-within 0 text) (pending-within c text) where
  lower : (n m : ℕ) → n ≤ m → pred n ≤ suc m
  lower zero m h = omega arith
  lower (suc n) m h = omega arith

  by_cases : (a b : Bool) → pending 0 text ≤ length text → pending c text ≤ length text →
      cond a (pred (pending 0 text)) (cond b (suc (pending 0 text)) (pending c text)) ≤ suc (length text)
  by_cases true b h k = lower (pending 0 text) (length text) h
  by_cases false true h k = omega arith
  by_cases false false h k = omega arith

-- a comment that ends is one that isn't unclosed
pub comment_at-unclosed : (text : List ℕ) → is_unclosed text ≡ true → comment_at text ≡ None
unfolding is_unclosed comment_at
comment_at-unclosed [] e = refl
comment_at-unclosed (c ∷ []) e = refl
comment_at-unclosed (c ∷ d ∷ text) e = by_cases (eqb c 40) (eqb d 58) (eqb (pending 0 text) 0) (comment_rest 0 0 text) e ended where
  none : (n : ℕ) → eqb n 0 ≡ true → ltb 0 n ≡ false
  none n e = search arith

  ended : eqb (pending 0 text) 0 ≡ true → is_some (comment_rest 0 0 text) ≡ false
  ended f = comment-ends 0 0 text ∙ none (pending 0 text) f

  by_cases : (a b z : Bool) (x : Option ℕ) → (a && (b && z)) ≡ true → (z ≡ true → is_some x ≡ false) →
      elim (a && b) as (λ _. Option ℕ) [ true ↦ one_more (one_more x) | false ↦ None ] ≡ None
  by_cases false b z x e h = refl
  by_cases true false z x e h = refl
  by_cases true true z None e h = refl
  by_cases true true z (Some n) e h = let f : true ≡ false = h e in cc

pub unclosed_none : (text : List ℕ) → true ≡ is_unclosed text → comment_at text ≡ None
unclosed_none text e = comment_at-unclosed text (sym e)

-- the steps of comment_rest, as a loop makes them

unfoldable pub rest_behind : ℕ → ℕ → ℕ → List ℕ → Option ℕ
rest_behind i outer before text = behind i (comment_rest outer before text)

behind-more : (i : ℕ) (x : Option ℕ) → behind i (one_more x) ≡ behind (i + 1) x
behind-more i None = refl
behind-more i (Some n) = ap Some (omega arith)

-- comment_rest by its two tests
by_tests : ℕ → ℕ → List ℕ → Bool → Bool → Option ℕ
by_tests outer c text a b = elim a [
  | true ↦ one_more (comment_rest (suc outer) 0 text)
  | false ↦ elim b [ true ↦ elim outer [ zero ↦ Some 1 | suc n ↦ one_more (comment_rest n 0 text) ] | false ↦ one_more (comment_rest outer c text) ]
]

by_tests-is : (i outer before c : ℕ) (text all : List ℕ) (whole : Option ℕ) (a b : Bool) → all ≡ c ∷ text → (eqb before 40 && eqb c 58) ≡ a →
    (eqb before 58 && eqb c 41) ≡ b
    → rest_behind i outer before all ≡ whole → behind i (by_tests outer c text a b) ≡ whole
unfolding rest_behind comment_rest by_tests
by_tests-is i outer before c text all whole a b next e f same =
    sym (ap (λ t. behind i (by_tests outer c text t (eqb before 58 && eqb c 41))) e ∙ ap (λ t. behind i (by_tests outer c text a t)) f)
    ∙ ap (λ l. behind i (comment_rest outer before l)) (sym next) ∙ same

pub rest-opens : (i outer before c : ℕ) (text all : List ℕ) (whole : Option ℕ) → all ≡ c ∷ text → (eqb before 40 && eqb c 58) ≡ true →
    rest_behind i outer before all ≡ whole
    → rest_behind (i + 1) (outer + 1) 0 text ≡ whole
unfolding rest_behind by_tests
rest-opens i outer before c text all whole next e same =
    let k : outer + 1 ≡ suc outer = omega arith in
    ap (λ n. behind (i + 1) (comment_rest n 0 text)) k ∙ sym (behind-more i (comment_rest (suc outer) 0 text)) ∙
    by_tests-is i outer before c text all whole true _ next e refl same

pub rest-closes : (i outer before c : ℕ) (text all : List ℕ) (whole : Option ℕ) → all ≡ c ∷ text → (eqb before 40 && eqb c 58) ≡ false →
    (eqb before 58 && eqb c 41) ≡ true → outer ≢ 0
    → rest_behind i outer before all ≡ whole → rest_behind (i + 1) (outer - 1) 0 text ≡ whole
unfolding rest_behind by_tests
rest-closes i outer before c text all whole next e f inner same = by_cases outer inner ∙
    by_tests-is i outer before c text all whole false true next e f same where
      by_cases : (n : ℕ) → n ≢ 0 → behind (i + 1) (comment_rest (n - 1) 0 text) ≡ behind i (by_tests n c text false true)
      by_cases zero h = absurd (h refl)
      by_cases (suc n) h = let k : suc n - 1 ≡ n = omega arith in ap (λ m. behind (i + 1) (comment_rest m 0 text)) k ∙
          sym (behind-more i (comment_rest n 0 text))

pub rest-ends : (i outer before c : ℕ) (text all : List ℕ) (whole : Option ℕ) → all ≡ c ∷ text → (eqb before 40 && eqb c 58) ≡ false →
    (eqb before 58 && eqb c 41) ≡ true → outer ≡ 0
    → rest_behind i outer before all ≡ whole → Some (i + 1) ≡ whole
unfolding rest_behind by_tests
rest-ends i outer before c text all whole next e f g same = ap (λ n. behind i (by_tests n c text false true)) (sym g) ∙
    by_tests-is i outer before c text all whole false true next e f same

pub rest-other : (i outer before c : ℕ) (text all : List ℕ) (whole : Option ℕ) → all ≡ c ∷ text → (eqb before 40 && eqb c 58) ≡ false →
    (eqb before 58 && eqb c 41) ≡ false
    → rest_behind i outer before all ≡ whole → rest_behind (i + 1) outer c text ≡ whole
unfolding rest_behind by_tests
rest-other i outer before c text all whole next e f same = sym (behind-more i (comment_rest outer c text)) ∙
    by_tests-is i outer before c text all whole false false next e f same

pub rest-none : (i outer before : ℕ) → rest_behind i outer before [] ≡ None
unfolding rest_behind comment_rest
rest-none i outer before = refl

pub rest-begin : (text : List ℕ) → rest_behind 0 0 0 text ≡ comment_rest 0 0 text
unfolding rest_behind
rest-begin text = by_cases (comment_rest 0 0 text) where
  by_cases : (x : Option ℕ) → behind 0 x ≡ x
  by_cases None = refl
  by_cases (Some n) = ap Some (omega arith)
