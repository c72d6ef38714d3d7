-- Sums with one number, or one entry, more.
use Rattle.std.proofs.Common.{◌≡◌, Bool, true, false, List, [], ◌∷◌, ◌++◌, refl, ap, ◌∙◌, cond, map, ℤ, pos, Ok, Err}
use Rattle.std.specs.Prelude.{filter, if◌then◌else◌}
use Rattle.std.proofs.lemmas.List.{append-nil, map-append}
use Rattle.std.proofs.lemmas.List.Elements.{filter-append}
use Rattle.inv_decimal.specs.Arithmetic.{sum_of}
use Rattle.inv_terms.specs.declared.entries.Entry.{Entry}
use Rattle.inv_totals.specs.Numbers.{Number, then_, total_from, total}
use Rattle.inv_totals.specs.Totals.{entry_amount, sum_where}
use Rattle.inv_totals.specs.Adding.{added}

then-done : (sum : Number) → then_ sum (λ s. Ok s) ≡ sum
then-done (Ok s) = refl
then-done (Err fault) = refl

then-then : (sum : Number) (f g : ℤ → Number) (x : ℤ) → ((s : ℤ) → f s ≡ added (g s) x) → then_ sum f ≡ added (then_ sum g) x
then-then (Ok s) f g x is = is s
then-then (Err fault) f g x is = refl

pub total_from-more : (s : ℤ) (xs : List ℤ) (x : ℤ) → total_from s (xs ++ x ∷ []) ≡ added (total_from s xs) x
total_from-more s [] x = then-done (sum_of s x)
total_from-more s (y ∷ ys) x = then-then (sum_of s y) (λ t. total_from t (ys ++ x ∷ [])) (λ t. total_from t ys) x (λ t. total_from-more t ys x)

pub sum_where-more : (test : Entry → Bool) (es : List Entry) (e : Entry) (b : Bool) → test e ≡ b
    → sum_where test (es ++ e ∷ []) ≡ (if b then added (sum_where test es) (entry_amount e) else sum_where test es)
sum_where-more test es e b is =
    ap (λ x. total (map entry_amount x)) (filter-append test es (e ∷ []))
    ∙ (ap (λ c. total (map entry_amount (filter test es ++ cond c (e ∷ []) []))) is ∙ by b)
  where
    by : (c : Bool) → total (map entry_amount (filter test es ++ cond c (e ∷ []) []))
        ≡ (if c then added (sum_where test es) (entry_amount e) else sum_where test es)
    by true = ap total (map-append entry_amount (filter test es) (e ∷ [])) ∙ total_from-more (pos 0) (map entry_amount (filter test es)) (entry_amount e)
    by false = ap (λ x. total (map entry_amount x)) (append-nil (filter test es))
