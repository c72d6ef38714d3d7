-- What is found of a reference stays.
use Rattle.std.proofs.Common.{◌≡◌, ℕ, zero, suc, ◌+◌, ◌≤◌, ◌==◌, Bool, true, false, List, [], ◌∷◌, ◌++◌, length, drop, refl, sym, ap, ◌∙◌, arith, Option, Some}
use Rattle.std.proofs.Common.{None, subst}
use Rattle.xml_tokens.specs.declared.encoding.Begun.{Begun}
use Rattle.xml_tokens.specs.declared.encoding.Begun.TheVariants.{Broken, Unfinished}
use Rattle.xml_tokens.proofs.ScannerLemmas.{BegunFrom, BegunStays, same, goes_on}
use Rattle.xml_tokens.specs.References.{is_reference_byte, reference_body, refers, referred, reference_at, greatest_reference}

-- the reference of a body and what stands behind it
abbrev of_body : List ℕ → List ℕ → Begun ℕ
of_body body rest = elim rest [
  | [] ↦ Unfinished
  | (b ∷ more) ↦ elim (b == 0x3B) [
    | true ↦ refers (length body + 2) (referred body)
    | false ↦ Broken (length body + 2)
  ]
]

of_body-from : (body rest : List ℕ) (k : ℕ) → k ≤ length body + 2 → BegunFrom k (of_body body rest)
of_body-from body [] k h = tt
of_body-from body (b ∷ rest) k h = by (b == 0x3B) (referred body)
  where
    by : (t : Bool) (x : Option ℕ) → BegunFrom k (elim t [ true ↦ refers (length body + 2) x | false ↦ Broken (length body + 2) ])
    by true None = h
    by true (Some c) = h
    by false x = h

-- the body ends before the bytes do, and stays; or it is all of them, and grows
pub data BodyCut (a b : List ℕ) (room : ℕ) : Type 0 where
  stays : (d : ℕ) (r : List ℕ) → drop (length (reference_body a room)) a ≡ d ∷ r → reference_body (a ++ b) room ≡ reference_body a room →
      drop (length (reference_body a room)) (a ++ b) ≡ d ∷ (r ++ b) → BodyCut a b room
  grows : drop (length (reference_body a room)) a ≡ [] → length a ≤ length (reference_body (a ++ b) room) → BodyCut a b room

body-cut : (a b : List ℕ) (room : ℕ) → BodyCut a b room
body-cut [] b room = grows refl (omega arith)
body-cut (c ∷ a) b zero = stays c a refl refl refl
body-cut (c ∷ a) b (suc room) = by (is_reference_byte c) refl (body-cut a b room)
  where
    by : (t : Bool) → is_reference_byte c ≡ t → BodyCut a b room → BodyCut (c ∷ a) b (suc room)
    by true is (stays d r e f g) =
        let first : reference_body (c ∷ a) (suc room) ≡ c ∷ reference_body a room = ap (λ t. elim t [ true ↦ c ∷ reference_body a room | false ↦ [] ]) is in
        let longer : reference_body (c ∷ (a ++ b)) (suc room) ≡ c ∷ reference_body (a ++ b) room =
        ap (λ t. elim t [ true ↦ c ∷ reference_body (a ++ b) room | false ↦ [] ]) is in
        stays d r (ap (λ body. drop (length body) (c ∷ a)) first ∙ e) (longer ∙ (ap (λ body. c ∷ body) f ∙ sym first))
        (ap (λ body. drop (length body) (c ∷ (a ++ b))) first ∙ g)
    by true is (grows e h) =
        let first : reference_body (c ∷ a) (suc room) ≡ c ∷ reference_body a room = ap (λ t. elim t [ true ↦ c ∷ reference_body a room | false ↦ [] ]) is in
        let longer : reference_body (c ∷ (a ++ b)) (suc room) ≡ c ∷ reference_body (a ++ b) room =
        ap (λ t. elim t [ true ↦ c ∷ reference_body (a ++ b) room | false ↦ [] ]) is in
        let count : length (reference_body (c ∷ (a ++ b)) (suc room)) ≡ suc (length (reference_body (a ++ b) room)) = ap length longer in
        grows (ap (λ body. drop (length body) (c ∷ a)) first ∙ e) (omega arith)
    by false is x =
        let first : reference_body (c ∷ a) (suc room) ≡ [] = ap (λ t. elim t [ true ↦ c ∷ reference_body a room | false ↦ [] ]) is in
        let longer : reference_body (c ∷ (a ++ b)) (suc room) ≡ [] = ap (λ t. elim t [ true ↦ c ∷ reference_body (a ++ b) room | false ↦ [] ]) is in
        stays c a (ap (λ body. drop (length body) (c ∷ a)) first) (longer ∙ sym first) (ap (λ body. drop (length body) (c ∷ (a ++ b))) first)

pub reference-stays : (a b : List ℕ) → BegunStays (1 + length a) (reference_at a) (reference_at (a ++ b))
unfolding reference_at
reference-stays a b = by (body-cut a b greatest_reference)
  where
    by : BodyCut a b greatest_reference → BegunStays (1 + length a)
        (of_body (reference_body a greatest_reference) (drop (length (reference_body a greatest_reference)) a))
        (of_body (reference_body (a ++ b) greatest_reference) (drop (length (reference_body (a ++ b) greatest_reference)) (a ++ b)))
    by (stays d r e f g) =
        let body = reference_body a greatest_reference in
        let left : of_body body (drop (length body) a) ≡ of_body body (d ∷ r) = ap (of_body body) e in
        let right : of_body (reference_body (a ++ b) greatest_reference) (drop (length (reference_body (a ++ b) greatest_reference)) (a ++ b)) ≡ of_body body
        (d ∷ r)
        = ap (λ x. of_body x (drop (length x) (a ++ b))) f ∙ ap (of_body body) g in
        subst (λ y. BegunStays (1 + length a) (of_body body (drop (length body) a)) y) (left ∙ sym right)
        (same (1 + length a) (of_body body (drop (length body) a)))
    by (grows e h) =
        let m = of_body (reference_body (a ++ b) greatest_reference) (drop (length (reference_body (a ++ b) greatest_reference)) (a ++ b)) in
        subst (λ x. BegunStays (1 + length a) x m) (sym (ap (of_body (reference_body a greatest_reference)) e))
        (goes_on (1 + length a) m (of_body-from (reference_body (a ++ b) greatest_reference)
        (drop (length (reference_body (a ++ b) greatest_reference)) (a ++ b)) (1 + length a) (omega arith)))
