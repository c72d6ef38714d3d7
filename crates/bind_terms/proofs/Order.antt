-- The first of faults is the same in any order, where faults of one place are one fault.
use Rattle.std.proofs.Common.{◌≡◌, ℕ, Bool, true, false, List, [], ◌∷◌, ◌++◌, filter, flat_map, Option, Some, None, ◌⊎◌, inl, inr, refl, sym, ap, ◌∙◌, subst}
use Rattle.std.proofs.Common.{Ordering}
use Rattle.std.specs.Prelude.{if◌then◌else◌}
use Rattle.std.specs.Ordering.{nat_cmp, is_lt}
use Rattle.std.specs.declared.cmp.Ordering.TheVariants.{Less, Equal, Greater}
use Rattle.std.specs.Cmp.Lexicographic.{slice_cmp}
use Rattle.std.proofs.lemmas.Bool.{false≢true}
use Rattle.std.proofs.lemmas.Cmp.{nat_list_cmp_total}
use Rattle.term_table.specs.Places.{precedes}
use Rattle.term_table.proofs.RunLemmas.{neither_before, never_before_itself}
use Rattle.bind_meaning.specs.Judging.{Found, earlier}
use Rattle.bind_terms.specs.Faults.{least_of}
use Rattle.bind_terms.proofs.Tolds.{bool_cases}

-- ---- membership, by recursion

abbrev pub Among : {X : Type 0} → X → List X → Type 0
Among x [] = ⊥
Among x (y ∷ ys) = (y ≡ x) ⊎ Among x ys

pub among-front : {X : Type 0} (x : X) (xs ys : List X) → Among x xs → Among x (xs ++ ys)
among-front x [] ys h = absurd h
among-front x (y ∷ xs) ys (inl e) = inl e
among-front x (y ∷ xs) ys (inr h) = inr (among-front x xs ys h)

pub among-back : {X : Type 0} (x : X) (xs ys : List X) → Among x ys → Among x (xs ++ ys)
among-back x [] ys h = h
among-back x (y ∷ xs) ys h = inr (among-back x xs ys h)

pub among-split : {X : Type 0} (x : X) (xs ys : List X) → Among x (xs ++ ys) → Among x xs ⊎ Among x ys
among-split x [] ys h = inr h
among-split x (y ∷ xs) ys (inl e) = inl (inl e)
among-split x (y ∷ xs) ys (inr h) = elim (among-split x xs ys h) [ inl a ↦ inl (inr a) | inr b ↦ inr b ]

pub among-flat_map : {X Y : Type 0} (f : X → List Y) (x : X) (y : Y) (xs : List X) → Among x xs → Among y (f x) → Among y (flat_map f xs)
among-flat_map f x y [] h k = absurd h
among-flat_map f x y (z ∷ xs) (inl e) k = among-front y (f z) (flat_map f xs) (subst (λ v. Among y (f v)) (sym e) k)
among-flat_map f x y (z ∷ xs) (inr h) k = among-back y (f z) (flat_map f xs) (among-flat_map f x y xs h k)

-- what is in a joined list is in one of its pieces
pub record IsFrom {X Y : Type 0} (f : X → List Y) (y : Y) (xs : List X) : Type 0 where
  pub source : X
  pub among : Among source xs
  pub piece : Among y (f source)

from-more : {X Y : Type 0} (f : X → List Y) (y : Y) (z : X) (xs : List X) → IsFrom f y xs → IsFrom f y (z ∷ xs)
from-more f y z xs k = record { source = k.source; among = inr k.among; piece = k.piece }

pub flat_map-among : {X Y : Type 0} (f : X → List Y) (y : Y) (xs : List X) → Among y (flat_map f xs) → IsFrom f y xs
flat_map-among f y [] h = absurd h
flat_map-among f y (z ∷ xs) h = elim (among-split y (f z) (flat_map f xs) h) [
  | inl a ↦ record { source = z; among = inl refl; piece = a }
  | inr b ↦ from-more f y z xs (flat_map-among f y xs b)
]

filter-keeps : {X : Type 0} (b : Bool) (x y : X) (p : X → Bool) (xs : List X) → p y ≡ b → p x ≡ true → (Among x xs → Among x (filter p xs))
    → (y ≡ x) ⊎ Among x xs → Among x (if b then y ∷ filter p xs else filter p xs)
filter-keeps true x y p xs e k more (inl s) = inl s
filter-keeps true x y p xs e k more (inr h) = inr (more h)
filter-keeps false x y p xs e k more (inl s) = absurd (false≢true (sym e ∙ (ap p s ∙ k)))
filter-keeps false x y p xs e k more (inr h) = more h

pub among-filter : {X : Type 0} (p : X → Bool) (x : X) (xs : List X) → p x ≡ true → Among x xs → Among x (filter p xs)
among-filter p x [] e h = h
among-filter p x (y ∷ xs) e h = filter-keeps (p y) x y p xs refl e (among-filter p x xs e) h

filter-takes : {X : Type 0} (b : Bool) (x y : X) (p : X → Bool) (xs : List X) → (Among x (filter p xs) → Among x xs)
    → Among x (if b then y ∷ filter p xs else filter p xs) → (y ≡ x) ⊎ Among x xs
filter-takes true x y p xs more (inl e) = inl e
filter-takes true x y p xs more (inr h) = inr (more h)
filter-takes false x y p xs more h = inr (more h)

pub filter-among : {X : Type 0} (p : X → Bool) (x : X) (xs : List X) → Among x (filter p xs) → Among x xs
filter-among p x [] h = h
filter-among p x (y ∷ xs) h = filter-takes (p y) x y p xs (filter-among p x xs) h

-- ---- the first of a list

lt-is : (o : Ordering) → is_lt o ≡ true → o ≡ Less
lt-is Less h = refl
lt-is Equal h = absurd (false≢true h)
lt-is Greater h = absurd (false≢true h)

precedes-trans : (a b c : List ℕ) → precedes a b ≡ true → precedes b c ≡ true → precedes a c ≡ true
precedes-trans a b c h k = ap is_lt (nat_list_cmp_total.trans a b c (lt-is (slice_cmp nat_cmp a b) h) (lt-is (slice_cmp nat_cmp b c) k))

no-before : (a b c : List ℕ) → precedes a b ≡ true → precedes a c ≡ false → precedes b c ≡ false
no-before a b c h k = elim (bool_cases (precedes b c)) [
  | inl bc ↦ absurd (false≢true (sym k ∙ precedes-trans a b c h bc))
  | inr out ↦ out
]

-- r is the first of a and xs
pub record IsFirst (a : Found) (xs : List Found) (r : Found) : Type 0 where
  pub one : (a ≡ r) ⊎ Among r xs
  pub none_of : (x : Found) → (a ≡ x) ⊎ Among x xs → precedes x.place r.place ≡ false
  pub front : (a ≡ r) ⊎ (precedes r.place a.place ≡ true)

first-step : (b : Bool) (a x r : Found) (xs : List Found) → precedes x.place a.place ≡ b → IsFirst (elim b [ true ↦ x | false ↦ a ]) xs r → IsFirst a (x ∷ xs) r
first-step true a x r xs e h = record {
  one = elim h.one [ inl s ↦ inr (inl s) | inr k ↦ inr (inr k) ];
  none_of = λ y k. elim k [
    | inl s ↦ ap (λ (z : Found). precedes z.place r.place) (sym s) ∙ no-before x.place a.place r.place e (h.none_of x (inl refl))
    | inr k ↦ elim k [ inl s ↦ h.none_of y (inl s) | inr j ↦ h.none_of y (inr j) ]
  ];
  front = inr (elim h.front [ inl s ↦ ap (λ (z : Found). precedes z.place a.place) (sym s) ∙ e | inr k ↦ precedes-trans r.place x.place a.place k e ]);
}
first-step false a x r xs e h = record {
  one = elim h.one [ inl s ↦ inl s | inr k ↦ inr (inr k) ];
  none_of = λ y k. elim k [
    | inl s ↦ h.none_of y (inl s)
    | inr k ↦ elim k [
      | inl s ↦ ap (λ (z : Found). precedes z.place r.place) (sym s) ∙ elim h.front [
        | inl t ↦ ap (λ (z : Found). precedes x.place z.place) (sym t) ∙ e
        | inr t ↦ elim (bool_cases (precedes x.place r.place)) [
          | inl xr ↦ absurd (false≢true (sym e ∙ precedes-trans x.place r.place a.place xr t))
          | inr out ↦ out
        ]
      ]
      | inr j ↦ h.none_of y (inr j)
    ]
  ];
  front = h.front;
}

-- the first of a fault and others, with what it is
pub record First (a : Found) (xs : List Found) : Type 0 where
  pub r : Found
  pub is : least_of (Some a) xs ≡ Some r
  pub first : IsFirst a xs r

pub first-of : (a : Found) (xs : List Found) → First a xs
first-of a [] = record {
  r = a;
  is = refl;
  first = record {
    one = inl refl;
    none_of = λ x k. elim k [ inl s ↦ ap (λ (z : Found). precedes z.place a.place) (sym s) ∙ never_before_itself a.place | inr k ↦ absurd k ];
    front = inl refl;
  };
}
first-of a (x ∷ xs) =
    let f = first-of (earlier a x) xs in
    record { r = f.r; is = f.is; first = first-step (precedes x.place a.place) a x f.r xs refl f.first }

-- Faults of one place are one fault.
abbrev pub AreOne : List Found → Type 0
AreOne xs = (x y : Found) → Among x xs → Among y xs → x.place ≡ y.place → x ≡ y

same-firsts : (a : Found) (xs ys : List Found) (r s : Found) → ((x : Found) → Among x xs → Among x ys) → ((x : Found) → Among x ys → Among x xs) → AreOne xs
    → IsFirst a xs r → IsFirst a ys s → r ≡ s
same-firsts a xs ys r s to from one f g =
    let sr : precedes s.place r.place ≡ false = f.none_of s (elim g.one [ inl e ↦ inl e | inr k ↦ inr (from s k) ]) in
    let rs : precedes r.place s.place ≡ false = g.none_of r (elim f.one [ inl e ↦ inl e | inr k ↦ inr (to r k) ]) in
    let places : r.place ≡ s.place = neither_before r.place s.place rs sr in
    elim f.front [
      | inl ar ↦ elim g.front [
        | inl as_it ↦ sym ar ∙ as_it
        | inr before ↦ absurd (false≢true (sym sr ∙ (ap (λ (z : Found). precedes s.place z.place) (sym ar) ∙ before)))
      ]
      | inr before ↦ elim g.front [
        | inl as_it ↦ absurd (false≢true (sym rs ∙ (ap (λ (z : Found). precedes r.place z.place) (sym as_it) ∙ before)))
        | inr behind ↦ elim f.one [
          | inl ar ↦ absurd (false≢true (sym (never_before_itself r.place) ∙ (ap (λ (z : Found). precedes r.place z.place) (sym ar) ∙ before)))
          | inr k ↦ elim g.one [
            | inl as_it ↦ absurd (false≢true (sym (never_before_itself s.place) ∙ (ap (λ (z : Found). precedes s.place z.place) (sym as_it) ∙ behind)))
            | inr j ↦ one r s k (from s j) places
          ]
        ]
      ]
    ]

first-whole : (x : Found) (xs : List Found) (r : Found) → IsFirst x xs r → Among r (x ∷ xs)
first-whole x xs r f = f.one

same-wholes : (x y : Found) (xs ys : List Found) (r s : Found) → ((z : Found) → Among z (x ∷ xs) → Among z (y ∷ ys))
    → ((z : Found) → Among z (y ∷ ys) → Among z (x ∷ xs)) → AreOne (x ∷ xs)
    → IsFirst x xs r → IsFirst y ys s → r ≡ s
same-wholes x y xs ys r s to from one f g =
    one r s f.one (from s g.one) (neither_before r.place s.place (g.none_of r (to r f.one)) (f.none_of s (from s g.one)))

pub same-least : (o : Option Found) (xs ys : List Found) → ((x : Found) → Among x xs → Among x ys) → ((x : Found) → Among x ys → Among x xs) → AreOne xs
    → least_of o xs ≡ least_of o ys
same-least None [] [] to from one = refl
same-least None [] (y ∷ ys) to from one = absurd (from y (inl refl))
same-least None (x ∷ xs) [] to from one = absurd (to x (inl refl))
same-least None (x ∷ xs) (y ∷ ys) to from one =
    let f = first-of x xs in
    let g = first-of y ys in
    f.is ∙ (ap Some (same-wholes x y xs ys f.r g.r to from one f.first g.first) ∙ sym g.is)
same-least (Some a) xs ys to from one =
    let f = first-of a xs in
    let g = first-of a ys in
    f.is ∙ (ap Some (same-firsts a xs ys f.r g.r to from one f.first g.first) ∙ sym g.is)
