-- One piece printed behind another.
use Rattle.std.proofs.Common.{◌≡◌, ℕ, Bool, List, [], ◌∷◌, ◌++◌, take, drop, ap, sym, subst, ◌∙◌, append_assoc, append-nil}
use Rattle.std.specs.List.{flat_map}
use Rattle.std.proofs.lemmas.List.{take-append-drop}
use Rattle.std.proofs.lemmas.Grind.{flat_map-append}
use Rattle.inv_base.specs.Outside.{SinkView}
use Rattle.inv_base.specs.Printing.{Printed, Prints}

pub Prints-append : (a b : List ℕ) (f g h : Bool) (r s t : SinkView) → Prints a f g r s → Prints b g h s t → Prints (a ++ b) f h r t
Prints-append a b f g h r s t p q = λ text start so_far. subst (λ x. Printed h x start t) (append_assoc text a b) (q (text ++ a) start (p text start so_far))

-- the same piece in other words
pub Prints-same : (a b : List ℕ) (f g : Bool) (r s : SinkView) → a ≡ b → Prints a f g r s → Prints b f g r s
Prints-same a b f g r s e p = λ text start so_far. subst (λ x. Printed g (text ++ x) start s) e (p text start so_far)

-- a part that stands for itself, and what follows it
pub plain_part : (escape : ℕ → List ℕ) (count : ℕ) (rest done all : List ℕ) → flat_map escape (take count rest) ≡ take count rest → done ++
    flat_map escape rest ≡ all
    → (done ++ take count rest) ++ flat_map escape (drop count rest) ≡ all
plain_part escape count rest done all plain so_far =
    append_assoc done (take count rest) (flat_map escape (drop count rest))
    ∙ (ap (λ x. done ++ (x ++ flat_map escape (drop count rest))) (sym plain)
    ∙ (ap (λ x. done ++ x) (sym (flat_map-append escape (take count rest) (drop count rest)) ∙ ap (flat_map escape) (take-append-drop count rest)) ∙ so_far))

-- one that is escaped
pub escaped_part : (escape : ℕ → List ℕ) (byte : ℕ) (after rest text done all : List ℕ) → rest ≡ byte ∷ after → escape byte ≡ text → done ++
    flat_map escape rest ≡ all
    → (done ++ text) ++ flat_map escape after ≡ all
escaped_part escape byte after rest text done all is same so_far =
    append_assoc done text (flat_map escape after) ∙
    (ap (λ x. done ++ (x ++ flat_map escape after)) (sym same) ∙ (ap (λ x. done ++ flat_map escape x) (sym is) ∙ so_far))

-- nothing printed
pub Prints-nil : (f : Bool) (s : SinkView) → Prints [] f f s s
Prints-nil f s = λ text start so_far. subst (λ x. Printed f x start s) (sym (append-nil text)) so_far
