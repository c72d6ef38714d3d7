-- The pattern of a call of `matches`: what is refused of it, and of an expression itself.
use Rattle.std.proofs.Common.{◌≡◌, ℕ, ◌<◌, ◌≤◌, Bool, true, false, ◌||◌, not, List, [], ◌∷◌, ◌++◌, Option, Some, None, length, map, refl, sym, ap, ◌∙◌, arith}
use Rattle.xpath_grammar.specs.View.{viewed}
use Rattle.xpath_grammar.specs.declared.expr.Expr.{Expr}
use Rattle.xpath_grammar.specs.declared.expr.Form.{Form}
use Rattle.xpath_grammar.specs.declared.expr.Form.TheVariants as m
use Rattle.xpath_grammar.specs.declared.expr.Label.{Label}
use Rattle.xpath_types.specs.declared.fault.TypeKind.{TypeKind}
use Rattle.xpath_types.specs.declared.fault.TypeKind.TheVariants as r
use Rattle.xpath_types.specs.declared.refusals.Refusal.{Refusal}
use Rattle.xpath_types.specs.Scopes.{Declared}
use Rattle.xpath_types.specs.Refusals.{first_of}
use Rattle.xpath_types.specs.Judging.{labels, is_empty, standing_at, form_refusals, pattern_refusals, own_refusals}
use Rattle.xpath_types.proofs.RefusalLemmas.{first-append, not-empty-append, still-empty}
use Rattle.xpath_types.proofs.WalkLemmas.{labels-viewed}

-- A call with fewer than two arguments has no pattern.
pub few-arguments : (declared : Declared) (at : ℕ) (items : List (Label × Expr)) → length items < 2 → pattern_refusals declared at (viewed items) ≡ []
few-arguments declared at [] h = refl
few-arguments declared at (x ∷ []) h = refl
few-arguments declared at (x ∷ y ∷ items) h = absurd (omega arith)

own-others : (declared : Declared) (at : ℕ) (form : Form) (items : List (Label × Expr)) → (form ≡ m.Call → ⊥)
    → own_refusals declared at form (viewed items) ≡ standing_at at (form_refusals declared form (labels (viewed items)))
own-others declared at (m.Chain production) items other = refl
own-others declared at (m.Bound binder) items other = refl
own-others declared at m.Conditional items other = refl
own-others declared at (m.Cast word type optional) items other = refl
own-others declared at m.Signs items other = refl
own-others declared at m.Filter items other = refl
own-others declared at m.Parentheses items other = refl
own-others declared at m.Call items other = absurd (other refl)

named : (declared : Declared) (at : ℕ) (form : Form) (items : List (Label × Expr))
    → standing_at at (form_refusals declared form (map (λ part. part.0) items)) ≡ standing_at at (form_refusals declared form (labels (viewed items)))
named declared at form items = ap (λ labels. standing_at at (form_refusals declared form labels)) (sym (labels-viewed items))

module _ (declared : Declared) (at : ℕ) (form : Form) (items : List (Label × Expr)) where
  abbrev names : List TypeKind
  names = form_refusals declared form (map (λ part. part.0) items)

  abbrev own : List Refusal
  own = own_refusals declared at form (viewed items)

  -- an expression that is no call
  pub others-first : (form ≡ m.Call → ⊥) → (first after : Option Refusal) → after ≡ first_of first (standing_at at names) → after ≡ first_of first own
  others-first other first after told = told ∙ ap (first_of first) (named declared at form items ∙ sym (own-others declared at form items other))

  pub others-told : (form ≡ m.Call → ⊥) → (told : Bool) → told ≡ not (is_empty names) → told ≡ not (is_empty own)
  others-told other told is = is ∙ (still-empty at names ∙
      ap (λ refusals. not (is_empty refusals)) (named declared at form items ∙ sym (own-others declared at form items other)))

  -- a call
  pub call-first : form ≡ m.Call → (first between after : Option Refusal) → between ≡ first_of first (standing_at at names) →
      after ≡ first_of between (pattern_refusals declared at (viewed items)) → after ≡ first_of first own
  call-first is first between after named_first pattern_first = pattern_first
      ∙ (ap (λ first. first_of first (pattern_refusals declared at (viewed items))) (named_first ∙ ap (first_of first) (named declared at form items))
      ∙ (sym (first-append first (standing_at at (form_refusals declared form (labels (viewed items)))) (pattern_refusals declared at (viewed items)))
      ∙ (ap (λ form. first_of first (standing_at at (form_refusals declared form (labels (viewed items))) ++ pattern_refusals declared at (viewed items))) is
      ∙ ap (λ form. first_of first (own_refusals declared at form (viewed items))) (sym is))))

  pub call-told : form ≡ m.Call → (misnamed mispatterned : Bool) → misnamed ≡ not (is_empty names) →
      mispatterned ≡ not (is_empty (pattern_refusals declared at (viewed items))) → (misnamed || mispatterned) ≡ not (is_empty own)
  call-told is misnamed mispatterned name pattern =
      (λ i. (name ∙ (still-empty at names ∙ ap (λ refusals. not (is_empty refusals)) (named declared at form items))) i || pattern i)
      ∙ (sym (not-empty-append (standing_at at (form_refusals declared form (labels (viewed items)))) (pattern_refusals declared at (viewed items)))
      ∙ (ap (λ form. not (is_empty (standing_at at (form_refusals declared form (labels (viewed items))) ++ pattern_refusals declared at (viewed items)))) is
      ∙ ap (λ form. not (is_empty (own_refusals declared at form (viewed items)))) (sym is)))
