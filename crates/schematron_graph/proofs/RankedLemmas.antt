-- Bodies in their order: what is found stays found, and fits its body.
use Rattle.std.proofs.Common.{◌≡◌, ℕ, zero, suc, ◌+◌, add-zero, ◌<◌, Bool, true, false, ◌&&◌, List, [], ◌∷◌, ◌++◌, length, refl, ap, sym, ◌∙◌, length-append}
use Rattle.std.proofs.Common.{zero-add, arith}
use Rattle.std.specs.List.{list_all, flat_map}
use Rattle.std.specs.Prelude.{map, Vec, Result, Ok, Err, OnOk, OnErr}
use Rattle.std.proofs.Math.ListN.{get_or-append}
use Rattle.std.proofs.Math.Seq.{get_or-append_seam}
use Rattle.std.proofs.lemmas.List.{get_or_past}
use Rattle.std.proofs.lemmas.Bool.Decides.{nat_tests}
use Rattle.schematron_graph.specs.declared.part.Thing.{Thing}
use Rattle.schematron_graph.specs.declared.part.Part.{Part}
use Rattle.schematron_graph.specs.declared.part.Part.TheVariants.{Own, Puts}
use Rattle.schematron_graph.specs.Rules.{things_of, body_of, bodies_of}
use Rattle.schematron_graph.specs.Counts.{count_of}
use Rattle.schematron_graph.specs.Ranked.{found, behind, things_behind, is_below, are_ranked}

pub and-left : (a b : Bool) → (a && b) ≡ true → a ≡ true
and-left true b e = refl
and-left false b e = cc

pub and-right : (a b : Bool) → (a && b) ≡ true → b ≡ true
and-right true b e = e
and-right false b e = cc

pub and-both : (a b : Bool) → a ≡ true → b ≡ true → (a && b) ≡ true
and-both true b p q = q
and-both false b p q = cc

sum_zero : (n : ℕ) → n ≡ n + 0
sum_zero n = omega arith

sum_suc : (n m : ℕ) → (n + 1) + m ≡ n + suc m
sum_suc n m = omega arith

-- one more body
pub behind-push : {A : Type 0} (value : (ℕ → List A) → Part → List A) (so_far : List (List A)) (bodies : List (List Part)) (body : List Part)
    → behind value so_far (bodies ++ body ∷ []) ≡ behind value so_far bodies ++ flat_map (value (found (behind value so_far bodies))) body ∷ []
behind-push value so_far [] body = refl
behind-push value so_far (first ∷ bodies) body = behind-push value (so_far ++ flat_map (value (found so_far)) first ∷ []) bodies body

pub length-behind : {A : Type 0} (value : (ℕ → List A) → Part → List A) (so_far : List (List A)) (bodies : List (List Part))
    → length (behind value so_far bodies) ≡ length so_far + length bodies
length-behind value so_far [] = sum_zero (length so_far)
length-behind value so_far (body ∷ bodies) =
    length-behind value (so_far ++ flat_map (value (found so_far)) body ∷ []) bodies
    ∙ (ap (λ n. n + length bodies) (length-append so_far (flat_map (value (found so_far)) body ∷ [])) ∙ sum_suc (length so_far) (length bodies))

pub are_ranked-push : (rank : ℕ) (bodies : List (List Part)) (body : List Part)
    → are_ranked rank bodies ≡ true → list_all (is_below (rank + length bodies)) body ≡ true → are_ranked rank (bodies ++ body ∷ []) ≡ true
are_ranked-push rank [] body p q = and-both (list_all (is_below rank) body) true (ap (λ n. list_all (is_below n) body) (sum_zero rank) ∙ q) refl
are_ranked-push rank (first ∷ bodies) body p q =
    and-both (list_all (is_below rank) first) (are_ranked (rank + 1) (bodies ++ body ∷ []))
    (and-left (list_all (is_below rank) first) (are_ranked (rank + 1) bodies) p)
    (are_ranked-push (rank + 1) bodies body (and-right (list_all (is_below rank) first) (are_ranked (rank + 1) bodies) p)
    (ap (λ n. list_all (is_below n) body) (sum_suc rank (length bodies)) ∙ q))

-- A part's value needs only the ranks below it.
pub record Agrees {A : Type 0} (value : (ℕ → List A) → Part → List A) : Type 0 where
  pub below : (g h : ℕ → List A) (rank : ℕ) (part : Part) → is_below rank part ≡ true → ((k : ℕ) → k < rank → g k ≡ h k) → value g part ≡ value h part

things_of-below : (g h : ℕ → List Thing) (rank : ℕ) (part : Part) → is_below rank part ≡ true → ((k : ℕ) → k < rank → g k ≡ h k) →
    things_of g part ≡ things_of h part
things_of-below g h rank (Own thing) e same = refl
things_of-below g h rank (Puts rule) e same = same rule (grind (arith, nat_tests))

pub things_of-Agrees : Agrees things_of
things_of-Agrees = record { below = things_of-below }

-- the turns of a walk through a part: one for a thing, and one into and one out of a rule
abbrev pub turns_of : (ℕ → List ℕ) → Part → List ℕ
turns_of given (Own thing) = 0 ∷ []
turns_of given (Puts rule) = 0 ∷ 0 ∷ given rule

turns_of-below : (g h : ℕ → List ℕ) (rank : ℕ) (part : Part) → is_below rank part ≡ true → ((k : ℕ) → k < rank → g k ≡ h k) → turns_of g part ≡ turns_of h part
turns_of-below g h rank (Own thing) e same = refl
turns_of-below g h rank (Puts rule) e same = ap (λ t. 0 ∷ 0 ∷ t) (same rule (grind (arith, nat_tests)))

pub turns_of-Agrees : Agrees turns_of
turns_of-Agrees = record { below = turns_of-below }

flat_map-below : {A : Type 0} (value : (ℕ → List A) → Part → List A) → Agrees value → (g h : ℕ → List A) (rank : ℕ) (body : List Part)
    → list_all (is_below rank) body ≡ true → ((k : ℕ) → k < rank → g k ≡ h k) → flat_map (value g) body ≡ flat_map (value h) body
flat_map-below value agrees g h rank [] e same = refl
flat_map-below value agrees g h rank (part ∷ body) e same =
    let here : value g part ≡ value h part = agrees.below g h rank part (and-left (is_below rank part) (list_all (is_below rank) body) e) same in
    let later : flat_map (value g) body ≡ flat_map (value h) body =
    flat_map-below value agrees g h rank body (and-right (is_below rank part) (list_all (is_below rank) body) e) same in
    cc

-- what was found before stays
behind-earlier : {A : Type 0} (value : (ℕ → List A) → Part → List A) (so_far : List (List A)) (bodies : List (List Part)) (k : ℕ)
    → k < length so_far → found (behind value so_far bodies) k ≡ found so_far k
behind-earlier value so_far [] k h = refl
behind-earlier value so_far (body ∷ bodies) k h =
    let v : List (List _) = flat_map (value (found so_far)) body ∷ [] in
    behind-earlier value (so_far ++ flat_map (value (found so_far)) body ∷ []) bodies k
    (let e : length (so_far ++ flat_map (value (found so_far)) body ∷ []) ≡ length so_far + 1 =
    length-append so_far (flat_map (value (found so_far)) body ∷ []) in omega arith)
    ∙ get_or-append so_far (flat_map (value (found so_far)) body ∷ []) [] k h

-- What is found of a rule fits its body.
pub behind-fits : {A : Type 0} (value : (ℕ → List A) → Part → List A) → Agrees value → (so_far : List (List A)) (bodies : List (List Part)) (k : ℕ)
    → are_ranked (length so_far) bodies ≡ true
    → found (behind value so_far bodies) (length so_far + k) ≡ flat_map (value (found (behind value so_far bodies))) (body_of bodies k)
behind-fits value agrees so_far [] k e = get_or_past so_far (length so_far + k) [] (omega arith)
behind-fits value agrees so_far (body ∷ bodies) zero e =
    let v : List _ = flat_map (value (found so_far)) body in
    let final : List (List _) = behind value (so_far ++ v ∷ []) bodies in
    ap (found final) (add-zero (length so_far))
    ∙ (behind-earlier value (so_far ++ v ∷ []) bodies (length so_far) (let e : length (so_far ++ v ∷ []) ≡ length so_far + 1 = length-append so_far (v ∷ []) in
    omega arith)
    ∙ (get_or-append_seam so_far v [] []
    ∙ flat_map-below value agrees (found so_far) (found final) (length so_far) body
    (and-left (list_all (is_below (length so_far)) body) (are_ranked (length so_far + 1) bodies) e)
    (λ j h. sym (behind-earlier value so_far (body ∷ bodies) j h))))
behind-fits value agrees so_far (body ∷ bodies) (suc k) e =
    let v : List _ = flat_map (value (found so_far)) body in
    let final : List (List _) = behind value (so_far ++ v ∷ []) bodies in
    let longer : length (so_far ++ v ∷ []) ≡ length so_far + 1 = length-append so_far (v ∷ []) in
    ap (found final) (let n : length so_far + suc k ≡ length (so_far ++ v ∷ []) + k = omega arith in n)
    ∙ behind-fits value agrees (so_far ++ v ∷ []) bodies k
    (ap (λ n. are_ranked n bodies) longer ∙ and-right (list_all (is_below (length so_far)) body) (are_ranked (length so_far + 1) bodies) e)

-- what a list of rules keeps, with the size of each
abbrev pub Sized : {Z : Type 0} → List (Vec Part Z) → List ℕ → Type 0
Sized bodies sizes = (are_ranked 0 (bodies_of bodies) ≡ true) × (sizes ≡ map count_of (things_behind (bodies_of bodies)))

bodies_of-push : {Z : Type 0} (bodies : List (Vec Part Z)) (body : Vec Part Z) → bodies_of (bodies ++ body ∷ []) ≡ bodies_of bodies ++ body.items ∷ []
bodies_of-push [] body = refl
bodies_of-push (first ∷ bodies) body = ap (λ t. first.items ∷ t) (bodies_of-push bodies body)

counts-push : (things : List (List Thing)) (last : List Thing) → map count_of (things ++ last ∷ []) ≡ map count_of things ++ count_of last ∷ []
counts-push [] last = refl
counts-push (first ∷ things) last = ap (λ t. count_of first ∷ t) (counts-push things last)

-- one more rule
Sized-more : {Z : Type 0} (bodies after : List (Vec Part Z)) (sizes sizes_after : List ℕ) (body : Vec Part Z)
    → Sized bodies sizes → list_all (is_below (length (bodies_of bodies))) body.items ≡ true
    → after ≡ bodies ++ body ∷ []
    → ((things : List (List Thing)) → sizes ≡ map count_of things → sizes_after ≡ map count_of things ++
    count_of (flat_map (things_of (found things)) body.items) ∷ [])
    → Sized after sizes_after
Sized-more bodies after sizes sizes_after body held below p q =
    let all : bodies_of after ≡ bodies_of bodies ++ body.items ∷ [] = ap bodies_of p ∙ bodies_of-push bodies body in
    let things : List (List Thing) = things_behind (bodies_of bodies) in (
      ap (are_ranked 0) all ∙ are_ranked-push 0 (bodies_of bodies) body.items held.0
          (ap (λ n. list_all (is_below n) body.items) (zero-add (length (bodies_of bodies))) ∙ below),
      q things held.1
          ∙ (sym (counts-push things (flat_map (things_of (found things)) body.items))
          ∙ ap (map count_of) (sym (ap things_behind all ∙ behind-push things_of [] (bodies_of bodies) body.items))),
    )

pub Sized-push : {Z T E : Type 0} (result : Result T E) (bodies after : List (Vec Part Z)) (sizes sizes_after : List ℕ) (body : Vec Part Z)
    → Sized bodies sizes → list_all (is_below (length (bodies_of bodies))) body.items ≡ true
    → OnOk result (after ≡ bodies ++ body ∷ [])
    → OnOk result ((things : List (List Thing)) → sizes ≡ map count_of things → sizes_after ≡ map count_of things ++
    count_of (flat_map (things_of (found things)) body.items) ∷ [])
    → OnErr result ((after ≡ bodies) × (sizes_after ≡ sizes))
    → Sized after sizes_after
Sized-push (Ok x) bodies after sizes sizes_after body held below p q r = Sized-more bodies after sizes sizes_after body held below p q
Sized-push (Err x) bodies after sizes sizes_after body held below p q r =
    (ap (λ b. are_ranked 0 (bodies_of b)) r.0 ∙ held.0, r.1 ∙ (held.1 ∙ ap (λ b. map count_of (things_behind (bodies_of b))) (sym r.0)))
