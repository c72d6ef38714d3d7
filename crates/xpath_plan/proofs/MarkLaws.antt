-- What is stated of the next part.
use Rattle.std.proofs.Common.{◌≡◌, ℕ, zero, suc, Bool, true, false, ◌&&◌, not, List, [], ◌∷◌, Some, None, slice_get, drop, refl, sym, ap, ◌∙◌}
use Rattle.xpath_grammar.specs.Grammar.{Tree}
use Rattle.xpath_grammar.specs.declared.expr.Label.{Label}
use Rattle.xpath_types.specs.declared.part.Part.{Part}
use Rattle.xpath_plan.specs.Shapes.{is_literal, is_free}
use Rattle.xpath_plan.specs.Walking.{is_kept_by, is_free_by}

pub some-next : (stated : List Part) (n : ℕ) (part : Part) → slice_get stated n ≡ Some part → drop n stated ≡ part ∷ drop (suc n) stated
some-next [] n part h = absurd cc
some-next (x ∷ xs) zero part h = let same : x ≡ part = cc in ap (λ part. part ∷ xs) same
some-next (x ∷ xs) (suc n) part h = some-next xs n part h

pub none-next : (stated : List Part) (n : ℕ) → slice_get stated n ≡ None → drop n stated ≡ []
none-next [] zero h = refl
none-next [] (suc n) h = refl
none-next (x ∷ xs) zero h = absurd cc
none-next (x ∷ xs) (suc n) h = none-next xs n h

-- whether the part with the number is kept

pub kept-some : (stated : List Part) (n : ℕ) (part : Part) (x : Tree) (literal : Bool) → Some part ≡ slice_get stated n → literal ≡ is_literal x →
    (part.depends_on_document_alone && not literal) ≡ is_kept_by (drop n stated) x
kept-some stated n part x literal found literal_is =
    (λ j. part.depends_on_document_alone && not (literal_is j)) ∙ ap (λ stated. is_kept_by stated x) (sym (some-next stated n part (sym found)))

pub kept-none : (stated : List Part) (n : ℕ) (x : Tree) → None ≡ slice_get stated n → false ≡ is_kept_by (drop n stated) x
kept-none stated n x found = ap (λ stated. is_kept_by stated x) (sym (none-next stated n (sym found)))

-- whether it tests no position

and_false : (b : Bool) → false ≡ (b && false)
and_false true = refl
and_false false = refl

pub free-some : (stated : List Part) (n : ℕ) (part : Part) (label : Label) (free here : Bool) → Some part ≡ slice_get stated n → here ≡ is_free label part →
    (free && here) ≡ (free && is_free_by (drop n stated) label)
free-some stated n part label free here found here_is =
    ap (λ b. free && b) (here_is ∙ ap (λ stated. is_free_by stated label) (sym (some-next stated n part (sym found))))

pub free-none : (stated : List Part) (n : ℕ) (label : Label) (free : Bool) → None ≡ slice_get stated n → false ≡ (free && is_free_by (drop n stated) label)
free-none stated n label free found = and_false free ∙ ap (λ stated. free && is_free_by stated label) (sym (none-next stated n (sym found)))
