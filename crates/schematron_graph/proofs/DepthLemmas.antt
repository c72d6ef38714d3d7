-- Chains of rules by their depth: a rule that ends within a depth ends within a greater one, and its things don't
-- change.
use Rattle.std.proofs.Common.{◌≡◌, ℕ, zero, suc, ◌≤◌, Bool, true, true≢false, List, [], ◌∷◌, ◌++◌, length, None, refl, ap, sym, ◌∙◌, arith}
use Rattle.std.specs.Prelude.{slice_get}
use Rattle.std.specs.List.{list_all, flat_map}
use Rattle.schematron_graph.specs.declared.part.Thing.{Thing}
use Rattle.schematron_graph.specs.declared.part.Part.{Part}
use Rattle.schematron_graph.specs.declared.part.Part.TheVariants.{Own, Puts}
use Rattle.schematron_graph.specs.Rules.{body_of, part_ends, ends_within, things_of, things_within}
use Rattle.schematron_graph.proofs.RankedLemmas.{and-left, and-right, and-both}

pub all_ends : (f g : ℕ → Bool) (body : List Part) → ((x : ℕ) → f x ≡ true → g x ≡ true) → list_all (part_ends f) body ≡ true →
    list_all (part_ends g) body ≡ true
all_ends f g [] h e = refl
all_ends f g (Own thing ∷ body) h e = all_ends f g body h e
all_ends f g (Puts rule ∷ body) h e =
    and-both (g rule) (list_all (part_ends g) body) (h rule (and-left (f rule) (list_all (part_ends f) body) e))
    (all_ends f g body h (and-right (f rule) (list_all (part_ends f) body) e))

pub ends-le : (d e : ℕ) → d ≤ e → (rules : List (List Part)) (rule : ℕ) → ends_within d rules rule ≡ true → ends_within e rules rule ≡ true
ends-le zero e h rules rule t = absurd (true≢false (sym t))
ends-le (suc d) zero h rules rule t = absurd (omega (arith, h))
ends-le (suc d) (suc e) h rules rule t = all_ends (ends_within d rules) (ends_within e rules) (body_of rules rule)
    (λ x. ends-le d e (omega (arith, h)) rules x) t

pub all_things : (ends : ℕ → Bool) (f g : ℕ → List Thing) (body : List Part) → ((x : ℕ) → ends x ≡ true → f x ≡ g x) → list_all (part_ends ends) body ≡ true
    → flat_map (things_of f) body ≡ flat_map (things_of g) body
all_things ends f g [] h e = refl
all_things ends f g (Own thing ∷ body) h e = ap (λ t. thing ∷ t) (all_things ends f g body h e)
all_things ends f g (Puts rule ∷ body) h e =
    ap (λ t. t ++ flat_map (things_of f) body) (h rule (and-left (ends rule) (list_all (part_ends ends) body) e))
    ∙ ap (λ t. g rule ++ t) (all_things ends f g body h (and-right (ends rule) (list_all (part_ends ends) body) e))

pub things-le : (d e : ℕ) → d ≤ e → (rules : List (List Part)) (rule : ℕ) → ends_within d rules rule ≡ true →
    things_within d rules rule ≡ things_within e rules rule
things-le zero e h rules rule t = absurd (true≢false (sym t))
things-le (suc d) zero h rules rule t = absurd (omega (arith, h))
things-le (suc d) (suc e) h rules rule t =
    all_things (ends_within d rules) (things_within d rules) (things_within e rules) (body_of rules rule) (λ x. things-le d e (omega (arith, h)) rules x) t

-- a rule that isn't there has no body
pub absent-body : {A : Type 0} (xs : List A) (rules : List (List Part)) (rule : ℕ) → length xs ≡ length rules → slice_get xs rule ≡ None →
    body_of rules rule ≡ []
absent-body [] [] rule h e = refl
absent-body [] (body ∷ rules) rule h e = absurd (omega (arith, h))
absent-body (x ∷ xs) [] rule h e = absurd (omega (arith, h))
absent-body (x ∷ xs) (body ∷ rules) zero h e = cc
absent-body (x ∷ xs) (body ∷ rules) (suc rule) h e = absent-body xs rules rule (omega (arith, h)) e

pub absent-ends : (rules : List (List Part)) (rule depth : ℕ) → body_of rules rule ≡ [] → ends_within (suc depth) rules rule ≡ true
absent-ends rules rule depth e = ap (list_all (part_ends (ends_within depth rules))) e

pub absent-things : (rules : List (List Part)) (rule depth : ℕ) → body_of rules rule ≡ [] → things_within (suc depth) rules rule ≡ []
absent-things rules rule depth e = ap (flat_map (things_of (things_within depth rules))) e
