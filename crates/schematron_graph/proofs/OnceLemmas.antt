-- A walk that goes over each rule once: what is written and what is left have the same firsts as all.
use Rattle.std.proofs.Common.{◌≡◌, ℕ, ◌+◌, ◌<◌, Bool, true, false, ◌||◌, true≢false, not, cond, List, [], ◌∷◌, ◌++◌, length, Some, None, refl, ap, sym, subst}
use Rattle.std.proofs.Common.{◌∙◌, append_assoc, append-nil, length-append, arith}
use Rattle.std.specs.Prelude.{slice_get, nat_eq}
use Rattle.std.specs.List.{list_any}
use Rattle.std.proofs.lemmas.List.Folds.{list_any-append}
use Rattle.std.proofs.lemmas.Bool.Decides.{nat_tests}
use Rattle.schematron_graph.specs.declared.part.Thing.{Thing}
use Rattle.schematron_graph.specs.declared.part.Part.{Part}
use Rattle.schematron_graph.specs.declared.part.Part.TheVariants.{Own, Puts}
use Rattle.schematron_graph.specs.declared.walk.Place.{Place}
use Rattle.schematron_graph.specs.Rules.{things_of, body_of}
use Rattle.schematron_graph.specs.Firsts.{firsts, firsts_behind}
use Rattle.schematron_graph.specs.Ranked.{found, things_behind, are_ranked}
use Rattle.schematron_graph.specs.Once.{is_told, Within, Alike, AreWritten}
use Rattle.schematron_graph.proofs.RankedLemmas.{things_of-Agrees}
use Rattle.schematron_graph.proofs.WalkLemmas.{behind_one, things_left, turns_left, rest_of, to_come, to_come-push, first_of, rest-part, rest-end, rest-first}
use Rattle.schematron_graph.proofs.WalkLemmas.{things_left-own, things_left-puts, things_left-back, things_left-end, turn_value}

-- Firsts

abbrev told_or : Bool → List Thing → List Thing → List Thing
told_or b others first = elim b [ true ↦ others | false ↦ first ]

-- Only which numbers were told counts.
told-same : (told other : List ℕ) → ((n : ℕ) → list_any (nat_eq n) told ≡ list_any (nat_eq n) other) → (things : List Thing) →
    firsts_behind told things ≡ firsts_behind other things
told-same told other h [] = refl
told-same told other h (x ∷ xs) =
    ap (λ b. told_or b (firsts_behind told xs) (x ∷ firsts_behind (x.number ∷ told) xs)) (h x.number)
    ∙ (ap (λ t. told_or (list_any (nat_eq x.number) other) t (x ∷ firsts_behind (x.number ∷ told) xs)) (told-same told other h xs)
    ∙ ap (λ t. told_or (list_any (nat_eq x.number) other) (firsts_behind other xs) (x ∷ t))
    (told-same (x.number ∷ told) (x.number ∷ other) (λ n. ap (λ b. nat_eq n x.number || b) (h n)) xs))

or-first : (a b : Bool) → a ≡ true → (a || b) ≡ true
or-first true b p = refl
or-first false b p = cc

or-second : (a b : Bool) → b ≡ true → (a || b) ≡ true
or-second true b p = refl
or-second false b p = p

or-drop : (t e a : Bool) → (e ≡ true → t ≡ true) → (t || (e || a)) ≡ true → (t || a) ≡ true
or-drop true e a h p = refl
or-drop false true a h p = absurd (true≢false (sym (h refl)))
or-drop false false a h p = p

or-move : (t e a : Bool) → (t || (e || a)) ≡ true → ((e || t) || a) ≡ true
or-move true true a p = refl
or-move true false a p = refl
or-move false true a p = refl
or-move false false a p = p

or-none : (b : Bool) → (b || false) ≡ true → b ≡ true
or-none true p = refl
or-none false p = p

same-number : (n m : ℕ) → nat_eq n m ≡ true → n ≡ m
same-number n m e = grind (arith, nat_tests)

own-number : (n : ℕ) → nat_eq n n ≡ true
own-number n = grind (arith, nat_tests)

skip-one : (told : List ℕ) (x : Thing) (some others : List Thing) (b : Bool) → list_any (nat_eq x.number) told ≡ b
    → (list_any (nat_eq x.number) told ≡ true → firsts_behind told some ≡ firsts_behind told others) →
    firsts_behind (x.number ∷ told) some ≡ firsts_behind (x.number ∷ told) others
    → firsts_behind told (x ∷ some) ≡ firsts_behind told (x ∷ others)
skip-one told x some others true q h k =
    ap (λ b. told_or b (firsts_behind told some) (x ∷ firsts_behind (x.number ∷ told) some)) q
    ∙ (h q ∙ sym (ap (λ b. told_or b (firsts_behind told others) (x ∷ firsts_behind (x.number ∷ told) others)) q))
skip-one told x some others false q h k =
    ap (λ b. told_or b (firsts_behind told some) (x ∷ firsts_behind (x.number ∷ told) some)) q
    ∙ (ap (λ t. x ∷ t) k ∙ sym (ap (λ b. told_or b (firsts_behind told others) (x ∷ firsts_behind (x.number ∷ told) others)) q))

told-more : (b : Bool) (n m : ℕ) → cond (nat_eq n m) true b ≡ (nat_eq m n || b)
told-more b n m = by (nat_eq n m) refl
  where
    by : (t : Bool) → nat_eq n m ≡ t → cond (nat_eq n m) true b ≡ (nat_eq m n || b)
    by true q = let other : nat_eq m n ≡ true = grind (arith, nat_tests) in ap (λ x. cond x true b) q ∙ sym (ap (λ x. x || b) other)
    by false q = let other : nat_eq m n ≡ false = grind (arith, nat_tests) in ap (λ x. cond x true b) q ∙ sym (ap (λ x. x || b) other)

pub not-true : (b : Bool) → not b ≡ true → b ≡ false
not-true true e = cc
not-true false e = refl

-- one that was not told
pub first-new : (told after : List ℕ) (some made : List Thing) (x : Thing) → list_any (nat_eq x.number) told ≡ false
    → ((q : ℕ) → list_any (nat_eq q) after ≡ cond (nat_eq x.number q) true (list_any (nat_eq q) told)) → made ≡ some ++ x ∷ []
    → (things : List Thing) → made ++ firsts_behind after things ≡ some ++ firsts_behind told (x ∷ things)
first-new told after some made x none more e = λ things.
    ap (λ t. t ++ firsts_behind after things) e
    ∙ (append_assoc some (x ∷ []) (firsts_behind after things)
    ∙ (ap (λ t. some ++ x ∷ t) (told-same after (x.number ∷ told) (λ n. more n ∙ told-more (list_any (nat_eq n) told) x.number n) things)
    ∙ sym (ap (λ b. some ++ told_or b (firsts_behind told things) (x ∷ firsts_behind (x.number ∷ told) things)) none)))

-- Things whose numbers were all told add nothing.
skip : (told : List ℕ) (some others rest : List Thing) → ((n : ℕ) → is_told others n ≡ true → (list_any (nat_eq n) told || is_told some n) ≡ true)
    → firsts_behind told (some ++ (others ++ rest)) ≡ firsts_behind told (some ++ rest)
skip told [] [] rest h = refl
skip told [] (y ∷ others) rest h =
    let here : list_any (nat_eq y.number) told ≡ true =
    or-none (list_any (nat_eq y.number) told) (h y.number (or-first (nat_eq y.number y.number) (is_told others y.number) (own-number y.number))) in
    ap (λ b. told_or b (firsts_behind told (others ++ rest)) (y ∷ firsts_behind (y.number ∷ told) (others ++ rest))) here
    ∙ skip told [] others rest (λ n e. h n (or-second (nat_eq n y.number) (is_told others n) e))
skip told (x ∷ some) others rest h =
    skip-one told x (some ++ (others ++ rest)) (some ++ rest) (list_any (nat_eq x.number) told) refl
    (λ q. skip told some others rest (λ n e. or-drop (list_any (nat_eq n) told) (nat_eq n x.number) (is_told some n)
    (λ s. ap (λ m. list_any (nat_eq m) told) (same-number n x.number s) ∙ q) (h n e)))
    (skip (x.number ∷ told) some others rest (λ n e. or-move (list_any (nat_eq n) told) (nat_eq n x.number) (is_told some n) (h n e)))

-- Within

told-append : (some others : List Thing) (n : ℕ) → is_told (some ++ others) n ≡ (is_told some n || is_told others n)
told-append some others n = list_any-append (λ (thing : Thing). nat_eq n thing.number) some others

within-front : (some others : List Thing) → Within some (some ++ others)
within-front some others = λ n e. told-append some others n ∙ or-first (is_told some n) (is_told others n) e

within-back : (some others : List Thing) → Within others (some ++ others)
within-back some others = λ n e. told-append some others n ∙ or-second (is_told some n) (is_told others n) e

or-each : (a b c : Bool) → (a ≡ true → c ≡ true) → (b ≡ true → c ≡ true) → (a || b) ≡ true → c ≡ true
or-each true b c h k e = h refl
or-each false b c h k e = k e

within-both : (some others all : List Thing) → Within some all → Within others all → Within (some ++ others) all
within-both some others all h k = λ n e. or-each (is_told some n) (is_told others n) (is_told all n) (h n) (k n) (sym (told-append some others n) ∙ e)

within-through : (some others all : List Thing) → Within some others → Within others all → Within some all
within-through some others all h k = λ n e. k n (h n e)

within-append : (some others rest : List Thing) → Within some others → Within (some ++ rest) (others ++ rest)
within-append some others rest h =
    within-both some rest (others ++ rest) (within-through some others (others ++ rest) h (within-front others rest)) (within-back others rest)

-- Alike

alike-same : (some others : List Thing) → some ≡ others → Alike some others
alike-same some others e = λ rest. ap (λ t. firsts (t ++ rest)) e

pub alike-through : (some others all : List Thing) → Alike some others → Alike others all → Alike some all
alike-through some others all h k = λ rest. h rest ∙ k rest

pub alike-append : (some others more : List Thing) → Alike some others → Alike (some ++ more) (others ++ more)
alike-append some others more h = λ rest. ap firsts (append_assoc some more rest) ∙ (h (more ++ rest) ∙ sym (ap firsts (append_assoc others more rest)))

pub alike-skip : (some others : List Thing) → Within others some → Alike some (some ++ others)
alike-skip some others h = λ rest. sym (ap firsts (append_assoc some others rest) ∙ skip [] some others rest h)

pub alike-firsts : (some others : List Thing) → Alike some others → firsts some ≡ firsts others
alike-firsts some others h = ap firsts (sym (append-nil some)) ∙ (h [] ∙ ap firsts (append-nil others))

-- The walk

abbrev given : List (List Part) → ℕ → List Thing
given bodies = found (things_behind bodies)

abbrev value_in : List (List Part) → Part → List Thing
value_in bodies = things_of (found (things_behind bodies))

-- Of each place the rule's things are written, or still to come before its end, where what is written and what is left at
-- the innermost place make a line.
abbrev AreHeld : List (List Part) → List Thing → List Place → Type 0
AreHeld bodies line [] = Unit
AreHeld bodies line (first ∷ places) = (Within (given bodies first.rank) (line ++ to_come (value_in bodies) bodies (first ∷ places))) ×
    AreHeld bodies line places

module _ (bodies : List (List Part)) where
  held-more : (line after : List Thing) (above : List Place) → Within line after → AreHeld bodies line above → AreHeld bodies after above
  held-more line after [] h held = tt
  held-more line after (first ∷ places) h held = (
    within-through (given bodies first.rank) (line ++ to_come (value_in bodies) bodies (first ∷ places))
        (after ++ to_come (value_in bodies) bodies (first ∷ places)) held.0 (within-append line after (to_come (value_in bodies) bodies (first ∷ places)) h),
    held-more line after places h held.1,
  )

  push-line : (line : List Thing) (above : List Place) (last : Place) → (line ++ rest_of (value_in bodies) bodies last) ++
      to_come (value_in bodies) bodies above ≡ line ++ to_come (value_in bodies) bodies (above ++ last ∷ [])
  push-line line above last = append_assoc line (rest_of (value_in bodies) bodies last) (to_come (value_in bodies) bodies above) ∙
      ap (λ t. line ++ t) (sym (to_come-push (value_in bodies) bodies above last))

  held-push : (line : List Thing) (above : List Place) (last : Place) → AreHeld bodies (line ++ rest_of (value_in bodies) bodies last) above →
      Within (given bodies last.rank) (line ++ rest_of (value_in bodies) bodies last)
      → AreHeld bodies line (above ++ last ∷ [])
  held-push line [] last held own = (own, tt)
  held-push line (first ∷ places) last held own = (
    subst (Within (given bodies first.rank)) (push-line line (first ∷ places) last) held.0,
    held-push line places last held.1 own,
  )

  held-pop : (line : List Thing) (above : List Place) (last : Place) → AreHeld bodies line (above ++ last ∷ [])
      → AreHeld bodies (line ++ rest_of (value_in bodies) bodies last) above × Within (given bodies last.rank) (line ++ rest_of (value_in bodies) bodies last)
  held-pop line [] last held = (tt, held.0)
  held-pop line (first ∷ places) last held =
      let later = held-pop line places last held.1 in
      ((subst (Within (given bodies first.rank)) (sym (push-line line (first ∷ places) last)) held.0, later.0), later.1)

-- What was gone over is written, each open rule's things are written or still to come, and what is written with what is
-- left has the firsts of what was before and of all.
pub record Walks (bodies : List (List Part)) (gone : List ℕ) (all written : List Thing) (place : Place) (above : List Place) : Type 0 where
  pub gone_over : AreWritten (given bodies) gone written
  pub innermost : Within (given bodies place.rank) (written ++ rest_of (value_in bodies) bodies place)
  pub others : AreHeld bodies (written ++ rest_of (value_in bodies) bodies place) above
  pub alike : Alike (written ++ things_left bodies place above) all

module _ (bodies : List (List Part)) (gone : List ℕ) where
  written-more : (written more : List Thing) → AreWritten (given bodies) gone written → AreWritten (given bodies) gone (written ++ more)
  written-more written more h = λ rule e. within-through (given bodies rule) written (written ++ more) (h rule e) (within-front written more)

  pub walks-begin : (rank : ℕ) (written : List Thing) (above : List Place) → are_ranked 0 bodies ≡ true → AreWritten (given bodies) gone written → above ≡ []
      → Walks bodies gone (written ++ given bodies rank) written (first_of rank) above
  walks-begin rank written above ranked h none =
      let first : given bodies rank ≡ rest_of (value_in bodies) bodies (first_of rank) = rest-first things_of things_of-Agrees bodies rank ranked in
      subst (Walks bodies gone (written ++ given bodies rank) written (first_of rank)) (sym none) (record {
        gone_over = h;
        innermost = subst (λ t. Within t (written ++ rest_of (value_in bodies) bodies (first_of rank))) (sym first)
            (within-back written (rest_of (value_in bodies) bodies (first_of rank)));
        others = tt;
        alike = alike-same (written ++ things_left bodies (first_of rank) []) (written ++ given bodies rank)
            (ap (λ t. written ++ t) (append-nil (rest_of (value_in bodies) bodies (first_of rank)) ∙ sym first));
      })

  pub walks-own : (all written after : List Thing) (place : Place) (above : List Place) (thing : Thing) →
      slice_get (body_of bodies place.rank) place.next ≡ Some (Own thing) → after ≡ written ++ thing ∷ []
      → Walks bodies gone all written place above → Walks bodies gone all after (behind_one place) above
  walks-own all written after place above thing e made w =
      let line : written ++ rest_of (value_in bodies) bodies place ≡ (written ++ thing ∷ []) ++ rest_of (value_in bodies) bodies (behind_one place) =
      ap (λ t. written ++ t) (rest-part (value_in bodies) bodies place (Own thing) e) ∙
      sym (append_assoc written (thing ∷ []) (rest_of (value_in bodies) bodies (behind_one place))) in
      let left : written ++ things_left bodies place above ≡ (written ++ thing ∷ []) ++ things_left bodies (behind_one place) above =
      ap (λ t. written ++ t) (things_left-own bodies place above thing e) ∙
      sym (append_assoc written (thing ∷ []) (things_left bodies (behind_one place) above)) in
      subst (λ t. Walks bodies gone all t (behind_one place) above) (sym made) (record {
        gone_over = written-more written (thing ∷ []) w.gone_over;
        innermost = subst (Within (given bodies place.rank)) line w.innermost;
        others = subst (λ t. AreHeld bodies t above) line w.others;
        alike = subst (λ t. Alike t all) left w.alike;
      })

  pub walks-puts : (all written : List Thing) (place : Place) (above after : List Place) (rule : ℕ) → are_ranked 0 bodies ≡ true →
      slice_get (body_of bodies place.rank) place.next ≡ Some (Puts rule)
      → after ≡ above ++ (behind_one place) ∷ [] → Walks bodies gone all written place above → Walks bodies gone all written (first_of rule) after
  walks-puts all written place above after rule ranked e made w =
      let first : given bodies rule ≡ rest_of (value_in bodies) bodies (first_of rule) = rest-first things_of things_of-Agrees bodies rule ranked in
      let line : written ++ rest_of (value_in bodies) bodies place ≡ (written ++ rest_of (value_in bodies) bodies (first_of rule)) ++
      rest_of (value_in bodies) bodies (behind_one place) =
      ap (λ t. written ++ t) (rest-part (value_in bodies) bodies place (Puts rule) e ∙ ap (λ t. t ++ rest_of (value_in bodies) bodies (behind_one place)) first)
      ∙ sym (append_assoc written (rest_of (value_in bodies) bodies (first_of rule)) (rest_of (value_in bodies) bodies (behind_one place))) in
      subst (Walks bodies gone all written (first_of rule)) (sym made) (record {
        gone_over = w.gone_over;
        innermost = subst (λ t. Within t (written ++ rest_of (value_in bodies) bodies (first_of rule))) (sym first)
            (within-back written (rest_of (value_in bodies) bodies (first_of rule)));
        others = held-push bodies (written ++ rest_of (value_in bodies) bodies (first_of rule)) above (behind_one place)
            (subst (λ t. AreHeld bodies t above) line w.others) (subst (Within (given bodies place.rank)) line w.innermost);
        alike = subst (λ t. Alike (written ++ t) all) (things_left-puts bodies place above rule ranked e) w.alike;
      })

  pub walks-skip : (all written : List Thing) (place : Place) (above : List Place) (rule : ℕ) →
      slice_get (body_of bodies place.rank) place.next ≡ Some (Puts rule)
      → list_any (nat_eq rule) gone ≡ true → Walks bodies gone all written place above → Walks bodies gone all written (behind_one place) above
  walks-skip all written place above rule e known w =
      let later : List Thing = rest_of (value_in bodies) bodies (behind_one place) in
      let told : Within (given bodies rule) written = w.gone_over rule known in
      let line : written ++ rest_of (value_in bodies) bodies place ≡ (written ++ given bodies rule) ++ later =
      ap (λ t. written ++ t) (rest-part (value_in bodies) bodies place (Puts rule) e) ∙ sym (append_assoc written (given bodies rule) later) in
      let fewer : Within (written ++ rest_of (value_in bodies) bodies place) (written ++ later) =
      subst (λ t. Within t (written ++ later)) (sym line)
      (within-append (written ++ given bodies rule) written later (within-both written (given bodies rule) written (λ n h. h) told)) in
      let left : written ++ things_left bodies place above ≡ (written ++ given bodies rule) ++ (later ++ to_come (value_in bodies) bodies above) =
      ap (λ t. written ++ (t ++ to_come (value_in bodies) bodies above)) (rest-part (value_in bodies) bodies place (Puts rule) e)
      ∙ (ap (λ t. written ++ t) (append_assoc (given bodies rule) later (to_come (value_in bodies) bodies above)) ∙
      sym (append_assoc written (given bodies rule) (later ++ to_come (value_in bodies) bodies above))) in
      record {
        gone_over = w.gone_over;
        innermost = within-through (given bodies place.rank) (written ++ rest_of (value_in bodies) bodies place) (written ++ later) w.innermost fewer;
        others = held-more bodies (written ++ rest_of (value_in bodies) bodies place) (written ++ later) above fewer w.others;
        alike = alike-through (written ++ (later ++ to_come (value_in bodies) bodies above)) (written ++ things_left bodies place above) all
            (subst (Alike (written ++ (later ++ to_come (value_in bodies) bodies above))) (sym left)
            (alike-append written (written ++ given bodies rule) (later ++ to_come (value_in bodies) bodies above)
            (alike-skip written (given bodies rule) told)))
            w.alike;
      }

-- The rule of the innermost place was gone over, once none of its parts is left.
module _ (bodies : List (List Part)) (gone after : List ℕ) (all written : List Thing) (place : Place)
    (e : slice_get (body_of bodies place.rank) place.next ≡ None)
    (more : (q : ℕ) → list_any (nat_eq q) after ≡ cond (nat_eq place.rank q) true (list_any (nat_eq q) gone)) where
  line-end : written ++ rest_of (value_in bodies) bodies place ≡ written
  line-end = ap (λ t. written ++ t) (rest-end (value_in bodies) (body_of bodies place.rank) place.next e) ∙ append-nil written

  written-by : (above : List Place) → Walks bodies gone all written place above → (rule : ℕ) (b : Bool) → nat_eq place.rank rule ≡ b →
      cond b true (list_any (nat_eq rule) gone) ≡ true → Within (given bodies rule) written
  written-by above w rule true q h = subst (λ n. Within (given bodies n) written) (same-number place.rank rule q)
      (subst (Within (given bodies place.rank)) line-end w.innermost)
  written-by above w rule false q h = w.gone_over rule h

  pub written-after : (above : List Place) → Walks bodies gone all written place above → AreWritten (given bodies) after written
  written-after above w = λ rule h. written-by above w rule (nat_eq place.rank rule) refl (sym (more rule) ∙ h)

  pub walks-back : (above shorter : List Place) (last : Place) → above ≡ shorter ++ last ∷ [] → Walks bodies gone all written place above →
      Walks bodies after all written last shorter
  walks-back above shorter last made w =
      let held = held-pop bodies written shorter last
      (subst (λ t. AreHeld bodies t (shorter ++ last ∷ [])) line-end
      (subst (AreHeld bodies (written ++ rest_of (value_in bodies) bodies place)) made w.others)) in
      record {
        gone_over = written-after above w;
        innermost = held.1;
        others = held.0;
        alike = subst (λ t. Alike (written ++ t) all) (ap (things_left bodies place) made ∙ things_left-back bodies place last shorter e) w.alike;
      }

  pub walks-end : (above : List Place) → above ≡ [] → Walks bodies gone all written place above → Alike written all
  walks-end above none w =
      subst (λ t. Alike t all) (ap (λ t. written ++ t) (ap (things_left bodies place) none ∙ things_left-end bodies place e) ∙ append-nil written) w.alike

pub turns_left-skip : (bodies : List (List Part)) (place : Place) (above : List Place) (rule : ℕ)
    → slice_get (body_of bodies place.rank) place.next ≡ Some (Puts rule)
    → turns_left bodies (behind_one place) above < turns_left bodies place above
turns_left-skip bodies place above rule e =
    let value : Part → List ℕ = turn_value bodies in
    let later : List ℕ = rest_of value bodies (behind_one place) in
    let here : length (rest_of value bodies place ++ to_come value bodies above) ≡ length ((value (Puts rule) ++ later) ++ to_come value bodies above) =
    ap (λ t. length (t ++ to_come value bodies above)) (rest-part value bodies place (Puts rule) e) in
    let all : length ((value (Puts rule) ++ later) ++ to_come value bodies above) ≡ length (value (Puts rule)) + length (later ++ to_come value bodies above) =
    ap length (append_assoc (value (Puts rule)) later (to_come value bodies above)) ∙ length-append (value (Puts rule)) (later ++ to_come value bodies above) in
    omega arith
