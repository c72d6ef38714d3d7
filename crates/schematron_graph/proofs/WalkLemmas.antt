-- A walk through ranked bodies: what is still to come at a place, and at the places above to which it goes back, the
-- last of them first.
use Rattle.std.proofs.Common.{◌≡◌, ℕ, zero, suc, ◌+◌, true, List, [], ◌∷◌, ◌++◌, length, Some, None, drop, refl, ap, sym, ◌∙◌, add-one, zero-add, append_assoc}
use Rattle.std.proofs.Common.{append-nil, length-append, arith}
use Rattle.std.specs.List.{flat_map}
use Rattle.std.specs.Prelude.{slice_get}
use Rattle.schematron_graph.specs.declared.part.Thing.{Thing}
use Rattle.schematron_graph.specs.declared.part.Part.{Part}
use Rattle.schematron_graph.specs.declared.part.Part.TheVariants.{Own, Puts}
use Rattle.schematron_graph.specs.declared.walk.Place.{Place}
use Rattle.schematron_graph.specs.Rules.{things_of, body_of}
use Rattle.schematron_graph.specs.Ranked.{found, behind, things_behind, are_ranked}
use Rattle.schematron_graph.proofs.RankedLemmas.{Agrees, turns_of, behind-fits, things_of-Agrees, turns_of-Agrees}

-- by the value of parts
abbrev pub rest_of : {A : Type 0} → (Part → List A) → List (List Part) → Place → List A
rest_of value bodies place = flat_map value (drop place.next (body_of bodies place.rank))

abbrev pub to_come : {A : Type 0} → (Part → List A) → List (List Part) → List Place → List A
to_come value bodies [] = []
to_come value bodies (place ∷ places) = to_come value bodies places ++ rest_of value bodies place

pub to_come-push : {A : Type 0} (value : Part → List A) (bodies : List (List Part)) (places : List Place) (place : Place)
    → to_come value bodies (places ++ place ∷ []) ≡ rest_of value bodies place ++ to_come value bodies places
to_come-push value bodies [] place = sym (append-nil (rest_of value bodies place))
to_come-push value bodies (first ∷ places) place =
    ap (λ t. t ++ rest_of value bodies first) (to_come-push value bodies places place)
    ∙ append_assoc (rest_of value bodies place) (to_come value bodies places) (rest_of value bodies first)

-- a part at a place, and what is behind it
rest-suc : {A : Type 0} (value : Part → List A) (body : List Part) (next : ℕ) (part : Part)
    → slice_get body next ≡ Some part → flat_map value (drop next body) ≡ value part ++ flat_map value (drop (suc next) body)
rest-suc value [] zero part e = cc
rest-suc value [] (suc next) part e = cc
rest-suc value (first ∷ body) zero part e = let same : first ≡ part = cc in ap (λ x. value x ++ flat_map value body) same
rest-suc value (first ∷ body) (suc next) part e = rest-suc value body next part e

-- the place behind a part
abbrev pub behind_one : Place → Place
behind_one place = record { rank = place.rank; next = place.next + 1 }

pub rest-part : {A : Type 0} (value : Part → List A) (bodies : List (List Part)) (place : Place) (part : Part)
    → slice_get (body_of bodies place.rank) place.next ≡ Some part → rest_of value bodies place ≡ value part ++ rest_of value bodies (behind_one place)
rest-part value bodies place part e =
    rest-suc value (body_of bodies place.rank) place.next part e
    ∙ ap (λ n. value part ++ flat_map value (drop n (body_of bodies place.rank))) (sym (add-one place.next))

pub rest-end : {A : Type 0} (value : Part → List A) (body : List Part) (next : ℕ) → slice_get body next ≡ None → flat_map value (drop next body) ≡ []
rest-end value [] zero e = refl
rest-end value [] (suc next) e = refl
rest-end value (first ∷ body) zero e = cc
rest-end value (first ∷ body) (suc next) e = rest-end value body next e

-- a rule from its first part on
abbrev pub first_of : ℕ → Place
first_of rule = record { rank = rule; next = 0 }

-- what stands at the place of a rule is its body's
pub rest-first : {A : Type 0} (value : (ℕ → List A) → Part → List A) → Agrees value → (bodies : List (List Part)) (rule : ℕ) → are_ranked 0 bodies ≡ true
    → found (behind value [] bodies) rule ≡ rest_of (value (found (behind value [] bodies))) bodies (first_of rule)
rest-first value agrees bodies rule e =
    ap (found (behind value [] bodies)) (sym (zero-add rule)) ∙ behind-fits value agrees [] bodies rule e

abbrev pub things_left : List (List Part) → Place → List Place → List Thing
things_left bodies place above = let value : Part → List Thing = things_of (found (things_behind bodies)) in rest_of value bodies place ++
    to_come value bodies above

abbrev pub turn_value : List (List Part) → Part → List ℕ
turn_value bodies = turns_of (found (behind turns_of [] bodies))

-- the turns still to make
abbrev pub turns_left : List (List Part) → Place → List Place → ℕ
turns_left bodies place above = length (rest_of (turn_value bodies) bodies place ++ to_come (turn_value bodies) bodies above) + length above

pub things_left-own : (bodies : List (List Part)) (place : Place) (above : List Place) (thing : Thing)
    → slice_get (body_of bodies place.rank) place.next ≡ Some (Own thing)
    → things_left bodies place above ≡ thing ∷ things_left bodies (behind_one place) above
things_left-own bodies place above thing e =
    ap (λ t. t ++ to_come (things_of (found (things_behind bodies))) bodies above)
    (rest-part (things_of (found (things_behind bodies))) bodies place (Own thing) e)

pub things_left-puts : (bodies : List (List Part)) (place : Place) (above : List Place) (rule : ℕ) → are_ranked 0 bodies ≡ true
    → slice_get (body_of bodies place.rank) place.next ≡ Some (Puts rule)
    → things_left bodies place above ≡ things_left bodies (first_of rule) (above ++ (behind_one place) ∷ [])
things_left-puts bodies place above rule ranked e =
    let value : Part → List Thing = things_of (found (things_behind bodies)) in
    let later : Place = behind_one place in
    ap (λ t. t ++ to_come value bodies above) (rest-part value bodies place (Puts rule) e ∙
    ap (λ t. t ++ rest_of value bodies later) (rest-first things_of things_of-Agrees bodies rule ranked))
    ∙ (append_assoc (rest_of value bodies (first_of rule)) (rest_of value bodies later) (to_come value bodies above)
    ∙ ap (λ t. rest_of value bodies (first_of rule) ++ t) (sym (to_come-push value bodies above later)))

pub things_left-back : (bodies : List (List Part)) (place last : Place) (above : List Place)
    → slice_get (body_of bodies place.rank) place.next ≡ None
    → things_left bodies place (above ++ last ∷ []) ≡ things_left bodies last above
things_left-back bodies place last above e =
    let value : Part → List Thing = things_of (found (things_behind bodies)) in
    ap (λ t. t ++ to_come value bodies (above ++ last ∷ [])) (rest-end value (body_of bodies place.rank) place.next e) ∙ to_come-push value bodies above last

pub things_left-end : (bodies : List (List Part)) (place : Place)
    → slice_get (body_of bodies place.rank) place.next ≡ None → things_left bodies place [] ≡ []
things_left-end bodies place e =
    append-nil (rest_of (things_of (found (things_behind bodies))) bodies place) ∙
    rest-end (things_of (found (things_behind bodies))) (body_of bodies place.rank) place.next e

pub turns_left-own : (bodies : List (List Part)) (place : Place) (above : List Place) (thing : Thing)
    → slice_get (body_of bodies place.rank) place.next ≡ Some (Own thing)
    → turns_left bodies place above ≡ turns_left bodies (behind_one place) above + 1
turns_left-own bodies place above thing e =
    let all : length (rest_of (turn_value bodies) bodies place ++ to_come (turn_value bodies) bodies above)
    ≡ length (0 ∷ (rest_of (turn_value bodies) bodies (behind_one place) ++ to_come (turn_value bodies) bodies above)) =
    ap (λ t. length (t ++ to_come (turn_value bodies) bodies above)) (rest-part (turn_value bodies) bodies place (Own thing) e) in
    omega arith

two_more : (n : ℕ) → suc (suc n) ≡ n + 2
two_more n = omega arith

pub turns_left-puts : (bodies : List (List Part)) (place : Place) (above : List Place) (rule : ℕ) → are_ranked 0 bodies ≡ true
    → slice_get (body_of bodies place.rank) place.next ≡ Some (Puts rule)
    → turns_left bodies place above ≡ turns_left bodies (first_of rule) (above ++ (behind_one place) ∷ []) + 1
turns_left-puts bodies place above rule ranked e =
    let value : Part → List ℕ = turn_value bodies in
    let later : Place = behind_one place in
    let all : rest_of value bodies place ++ to_come value bodies above ≡ 0 ∷ 0 ∷ (rest_of value bodies (first_of rule) ++
    to_come value bodies (above ++ later ∷ [])) =
    ap (λ t. t ++ to_come value bodies above) (rest-part value bodies place (Puts rule) e ∙
    ap (λ t. (0 ∷ 0 ∷ t) ++ rest_of value bodies later) (rest-first turns_of turns_of-Agrees bodies rule ranked))
    ∙ ap (λ t. 0 ∷ 0 ∷ t) (append_assoc (rest_of value bodies (first_of rule)) (rest_of value bodies later) (to_come value bodies above)
    ∙ ap (λ t. rest_of value bodies (first_of rule) ++ t) (sym (to_come-push value bodies above later))) in
    let long : length (above ++ later ∷ []) ≡ length above + 1 = length-append above (later ∷ []) in
    let same : length (rest_of value bodies place ++ to_come value bodies above) ≡ length
    (rest_of value bodies (first_of rule) ++ to_come value bodies (above ++ later ∷ [])) + 2 = ap length all ∙ two_more _ in
    omega arith

pub turns_left-back : (bodies : List (List Part)) (place last : Place) (above : List Place)
    → slice_get (body_of bodies place.rank) place.next ≡ None
    → turns_left bodies place (above ++ last ∷ []) ≡ turns_left bodies last above + 1
turns_left-back bodies place last above e =
    let value : Part → List ℕ = turn_value bodies in
    let all : length (rest_of value bodies place ++ to_come value bodies (above ++ last ∷ [])) ≡ length
    (rest_of value bodies last ++ to_come value bodies above) =
    ap length (ap (λ t. t ++ to_come value bodies (above ++ last ∷ [])) (rest-end value (body_of bodies place.rank) place.next e) ∙
    to_come-push value bodies above last) in
    let long : length (above ++ last ∷ []) ≡ length above + 1 = length-append above (last ∷ []) in
    omega arith
