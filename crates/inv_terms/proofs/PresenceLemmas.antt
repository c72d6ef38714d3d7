-- Which terms may stand among seats, and what isn't there where none may.
use Rattle.std.proofs.Common.{◌≡◌, ℕ, zero, suc, replicate, ◌==◌, ◌&&◌, ◌||◌, Bool, true, false, List, [], ◌∷◌, ◌++◌, refl, ap, sym, ◌∙◌, arith}
use Rattle.std.proofs.Common.{inl, inr}
use Rattle.std.specs.Prelude.{◌%◌, ◌<◌, slice_set, length, get_or}
use Rattle.std.proofs.lemmas.Bool.{false≢true, cases_Bool}
use Rattle.std.proofs.lemmas.Bool.Decides.{nat_tests}
use Rattle.std.proofs.lemmas.List.Elements.{All-nil, All-cons, All-head, All-tail}
use Rattle.std.proofs.lemmas.List.Folds.{list_any-append}
use Rattle.term_table.specs.declared.terms.Term.{Term}
use Rattle.term_table.specs.declared.contexts.Seat.{Seat}
use Rattle.term_table.specs.declared.contexts.Context.{Context}
use Rattle.term_table.specs.SemanticModel.{same_term}
use Rattle.inv_terms.specs.declared.presence.Presence.{Presence}
use Rattle.inv_terms.specs.Presences.{may_have, place_of, AreKnown, has_number_of}
use Rattle.inv_terms.specs.Lacking as violations

-- ---- what is noted of seats

pub any-of_all : (n k : ℕ) → get_or (replicate n true) k true ≡ true
any-of_all zero k = refl
any-of_all (suc n) zero = refl
any-of_all (suc n) (suc k) = any-of_all n k

pub none-of_all : (n k : ℕ) → k < n → get_or (replicate n false) k true ≡ false
none-of_all zero k l = absurd (omega (arith, l))
none-of_all (suc n) zero l = refl
none-of_all (suc n) (suc k) l = none-of_all n k (omega (arith, l))

or_true : (b : Bool) → true ≡ (b || true)
or_true true = refl
or_true false = refl

or_none : (a b : Bool) → b ≡ false → a ≡ (a || b)
or_none true b e = refl
or_none false b e = sym e

other_first : (k : ℕ) → (0 == suc k) ≡ false
other_first k = grind (arith, nat_tests)

other_last : (j : ℕ) → (suc j == 0) ≡ false
other_last j = grind (arith, nat_tests)

same_behind : (j k : ℕ) → (j == k) ≡ (suc j == suc k)
same_behind j k = grind (arith, nat_tests)

set-get : (ns : List Bool) (j k : ℕ) → j < length ns → get_or (slice_set ns j true) k true ≡ (get_or ns k true || (j == k))
set-get [] j k l = absurd (omega (arith, l))
set-get (n ∷ ns) zero zero l = or_true n
set-get (n ∷ ns) zero (suc k) l = or_none (get_or ns k true) (0 == suc k) (other_first k)
set-get (n ∷ ns) (suc j) zero l = or_none n (suc j == 0) (other_last j)
set-get (n ∷ ns) (suc j) (suc k) l = set-get ns j k (omega (arith, l)) ∙ ap (λ b. get_or ns k true || b) (same_behind j k)

-- what is noted is what stands there
abbrev pub AreNoted : List Bool → List Seat → Type 0
AreNoted ns seats = (term : Term) → get_or ns (place_of term) true ≡ has_number_of term seats

-- one more seat
pub noted-more : (ns : List Bool) (before : List Seat) (seat : Seat) → place_of seat.term < length ns → AreNoted ns before
    → AreNoted (slice_set ns (place_of seat.term) true) (before ++ seat ∷ [])
noted-more ns before seat l noted term =
    set-get ns (place_of seat.term) (place_of term) l ∙
    (ap (λ b. b || (place_of seat.term == place_of term)) (noted term) ∙
    (or-or (has_number_of term before) (place_of seat.term == place_of term) ∙
    sym (list_any-append (λ (s : Seat). place_of s.term == place_of term) before (seat ∷ []))))
  where
    or-or : (a b : Bool) → (a || b) ≡ (a || (b || false))
    or-or true b = refl
    or-or false true = refl
    or-or false false = refl

same-itself : (n : ℕ) → (n == n) ≡ true
same-itself n = grind (arith, nat_tests)

-- what is noted is known
pub known-noted : (ns : List Bool) (seats : List Seat) → ((term : Term) → has_number_of term seats ≡ true → get_or ns (place_of term) true ≡ true)
    → AreKnown (record { numbers = ns }) seats
known-noted ns [] noted = All-nil (λ (s : Seat). may_have (record { numbers = ns }) s.term ≡ true)
known-noted ns (seat ∷ seats) noted =
    All-cons (λ (s : Seat). may_have (record { numbers = ns }) s.term ≡ true) seat seats
    (noted seat.term (ap (λ b. b || has_number_of seat.term seats) (same-itself (place_of seat.term))))
    (known-noted ns seats (λ term h. noted term (or-right (place_of seat.term == place_of term) (has_number_of term seats) h)))
  where
    or-right : (a b : Bool) → b ≡ true → (a || b) ≡ true
    or-right true b h = refl
    or-right false b h = h

-- ---- what isn't known doesn't stand there

same-number : (m n : ℕ) → (m == n) ≡ true → m ≡ n
same-number m n e = grind (arith, nat_tests)

-- a seat of another number isn't of the term
pub other : (presence : Presence) (term : Term) (s : Seat) → may_have presence term ≡ false → may_have presence s.term ≡ true →
    same_term s.term term ≡ false
other presence term s none has = elim (cases_Bool (s.term.number == term.number)) [
  | inl same ↦ absurd (false≢true (sym none ∙ (ap (λ n. get_or presence.numbers (n % 128) true) (sym (same-number s.term.number term.number same)) ∙ has)))
  | inr differs ↦ ap (λ b. b && (s.term.part == term.part)) differs
]

pub has-no_term : (presence : Presence) (term : Term) → may_have presence term ≡ false → (seats : List Seat) → AreKnown presence seats →
    violations.has_term seats term ≡ false
has-no_term presence term none [] known = refl
has-no_term presence term none (s ∷ seats) known =
    rw (other presence term s none (All-head (λ (x : Seat). may_have presence x.term ≡ true) s seats known))
    (has-no_term presence term none seats (All-tail (λ (x : Seat). may_have presence x.term ≡ true) s seats known))

pub has-none : (presence : Presence) (term : Term) (context : Context) → may_have presence term ≡ false → (seats : List Seat) → AreKnown presence seats →
    violations.has seats context term ≡ false
has-none presence term context none [] known = refl
has-none presence term context none (s ∷ seats) known =
    rw (other presence term s none (All-head (λ (x : Seat). may_have presence x.term ≡ true) s seats known))
    (has-none presence term context none seats (All-tail (λ (x : Seat). may_have presence x.term ≡ true) s seats known))
