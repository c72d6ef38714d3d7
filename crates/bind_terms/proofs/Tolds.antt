-- What was told first of each term in each context, and the faults at nodes, with one more behind the others.
use Rattle.std.proofs.Common.{◌≡◌, Bool, true, false, ◌||◌, List, [], ◌∷◌, ◌++◌, Option, Some, None, ◌⊎◌, inl, inr, refl, sym, ap, ◌∙◌, subst, append_assoc}
use Rattle.std.specs.List.{list_any}
use Rattle.std.proofs.lemmas.Option.{same_Some}
use Rattle.inv_base.specs.Tree.{Node}
use Rattle.code_lists.specs.CodeFiles.{Lists}
use Rattle.term_table.specs.declared.contexts.Seat.{Seat}
use Rattle.bind_meaning.specs.Currencies.{Currencies}
use Rattle.bind_meaning.specs.Judging.{Found, Told, is_of_seat, first_before, fault_of, faults_behind, seat_of}
use Rattle.bind_meaning.specs.Terms.{firsts_behind}
use Rattle.reading_laws.proofs.SeatLemmas.{is_seat, told-seat}
use Rattle.bind_terms.specs.Faults.{with_found, least_of, Puts}

pub bool_cases : (b : Bool) → (b ≡ true) ⊎ (b ≡ false)
bool_cases true = inl refl
bool_cases false = inr refl

-- ---- the first of a seat

abbrev pub or_else : Option Told → Option Told → Option Told
or_else (Some f) other = Some f
or_else None other = other

chosen : (b : Bool) (x : Told) (a c other : Option Told) → a ≡ or_else c other
    → (elim b [ true ↦ Some x | false ↦ a ]) ≡ or_else (elim b [ true ↦ Some x | false ↦ c ]) other
chosen true x a c other e = refl
chosen false x a c other e = e

pub first-append : (xs ys : List Told) (t : Told) → first_before (xs ++ ys) t ≡ or_else (first_before xs t) (first_before ys t)
first-append [] ys t = refl
first-append (x ∷ xs) ys t = chosen (is_of_seat x t) x _ _ _ (first-append xs ys t)

found-first : (b : Bool) (x t f : Told) (rest : Option Told) → is_of_seat x t ≡ b → (rest ≡ Some f → is_of_seat f t ≡ true)
    → (elim b [ true ↦ Some x | false ↦ rest ]) ≡ Some f → is_of_seat f t ≡ true
found-first true x t f rest e later h = let same : x ≡ f = same_Some _ _ h in ap (λ y. is_of_seat y t) (sym same) ∙ e
found-first false x t f rest e later h = later h

pub first-is : (xs : List Told) (t f : Told) → first_before xs t ≡ Some f → is_of_seat f t ≡ true
first-is [] t f h = absurd (let k : None ≡ Some f = h in cc)
first-is (x ∷ xs) t f h = found-first (is_of_seat x t) x t f (first_before xs t) refl (first-is xs t f) h

pub first-same : (xs : List Told) (t u : Told) → seat_of t ≡ seat_of u → first_before xs t ≡ first_before xs u
first-same [] t u e = refl
first-same (x ∷ xs) t u e =
    ap (λ b. elim b [ true ↦ Some x | false ↦ first_before xs t ]) (ap (is_seat (seat_of x)) e)
    ∙ ap (λ o. elim (is_of_seat x u) [ true ↦ Some x | false ↦ o ]) (first-same xs t u e)

pub or-none : (o : Option Told) → or_else o None ≡ o
or-none None = refl
or-none (Some f) = refl

one-false : (t u : Told) → is_of_seat t u ≡ false → first_before (t ∷ []) u ≡ None
one-false t u h = ap (λ b. elim b [ true ↦ Some t | false ↦ None ]) h

pub one-true : (t u : Told) → is_of_seat t u ≡ true → first_before (t ∷ []) u ≡ Some t
one-true t u h = ap (λ b. elim b [ true ↦ Some t | false ↦ None ]) h

pub other-more : (xs : List Told) (t u : Told) → is_of_seat t u ≡ false → first_before (xs ++ t ∷ []) u ≡ first_before xs u
other-more xs t u h = first-append xs (t ∷ []) u ∙ (ap (or_else (first_before xs u)) (one-false t u h) ∙ or-none (first_before xs u))

-- one more of a seat that was told before changes nothing
pub known-more : (xs : List Told) (t f : Told) → first_before xs t ≡ Some f → (u : Told) → first_before xs u ≡ first_before (xs ++ t ∷ []) u
known-more xs t f h u = elim (bool_cases (is_of_seat t u)) [
  | inl same ↦
      let known : first_before xs u ≡ Some f = first-same xs u t (sym (told-seat t u same)) ∙ h in
      known ∙ sym (first-append xs (t ∷ []) u ∙ ap (λ o. or_else o (first_before (t ∷ []) u)) known)
  | inr other ↦ sym (other-more xs t u other)
]

-- ---- one more behind the others

pub append-nil : {X : Type 0} (xs : List X) → xs ++ [] ≡ xs
append-nil [] = refl
append-nil (x ∷ xs) = ap (λ z. x ∷ z) (append-nil xs)

abbrev pub kept_if : Option Told → Told → List Told
kept_if None t = t ∷ []
kept_if (Some f) t = []

one-more : (o : Option Told) (pre : List Told) (t : Told)
    → (elim o [ None ↦ t ∷ firsts_behind (pre ++ (t ∷ [])) [] | Some first ↦ firsts_behind pre [] ]) ≡ kept_if o t
one-more None pre t = refl
one-more (Some f) pre t = refl

behind-more : (o : Option Told) (x : Told) (a b c d more : List Told) → (o ≡ None → a ≡ b ++ more) → ((f : Told) → o ≡ Some f → c ≡ d ++ more)
    → (elim o [ None ↦ x ∷ a | Some first ↦ c ]) ≡ (elim o [ None ↦ x ∷ b | Some first ↦ d ]) ++ more
behind-more None x a b c d more new known = ap (λ l. x ∷ l) (new refl)
behind-more (Some f) x a b c d more new known = known f refl

pub firsts-more : (pre all xs : List Told) (t : Told) → ((u : Told) → first_before pre u ≡ first_before all u)
    → firsts_behind pre (xs ++ t ∷ []) ≡ firsts_behind pre xs ++ kept_if (first_before (all ++ xs) t) t
firsts-more pre all [] t same = one-more (first_before pre t) pre t ∙ ap (λ o. kept_if o t) (same t ∙ ap (λ l. first_before l t) (sym (append-nil all)))
firsts-more pre all (x ∷ xs) t same =
    behind-more (first_before pre x) x _ _ _ _ (kept_if (first_before (all ++ (x ∷ xs)) t) t)
    (λ e. firsts-more (pre ++ x ∷ []) (all ++ x ∷ []) xs t
    (λ u. first-append pre (x ∷ []) u ∙ (ap (λ o. or_else o (first_before (x ∷ []) u)) (same u) ∙ sym (first-append all (x ∷ []) u)))
    ∙ ap (λ l. firsts_behind (pre ++ x ∷ []) xs ++ kept_if (first_before l t) t) (append_assoc all (x ∷ []) xs))
    (λ f e. firsts-more pre (all ++ x ∷ []) xs t (λ u. same u ∙ known-more all x f (sym (same x) ∙ e) u)
    ∙ ap (λ l. firsts_behind pre xs ++ kept_if (first_before l t) t) (append_assoc all (x ∷ []) xs))

pub faults-more : (nodes : List Node) (lists : Lists) (c : Currencies) (pre xs : List Told) (t : Told)
    → faults_behind nodes lists c pre (xs ++ t ∷ []) ≡ faults_behind nodes lists c pre xs ++ fault_of nodes lists c (first_before (pre ++ xs) t) t
faults-more nodes lists c pre [] t =
    append-nil (fault_of nodes lists c (first_before pre t) t) ∙ ap (λ l. fault_of nodes lists c (first_before l t) t) (sym (append-nil pre))
faults-more nodes lists c pre (x ∷ xs) t =
    ap (λ l. fault_of nodes lists c (first_before pre x) x ++ l) (faults-more nodes lists c (pre ++ x ∷ []) xs t
    ∙ ap (λ l. faults_behind nodes lists c (pre ++ x ∷ []) xs ++ fault_of nodes lists c (first_before l t) t) (append_assoc pre (x ∷ []) xs))
    ∙ sym (append_assoc (fault_of nodes lists c (first_before pre x) x) (faults_behind nodes lists c (pre ++ x ∷ []) xs)
    (fault_of nodes lists c (first_before (pre ++ x ∷ xs) t) t))

pub least-append : (o : Option Found) (xs ys : List Found) → least_of o (xs ++ ys) ≡ least_of (least_of o xs) ys
least-append o [] ys = refl
least-append o (x ∷ xs) ys = least-append (with_found o x) xs ys

-- ---- faults given one after another

pub puts-both : (a b c : List Found → Type 0) (xs ys : List Found) → Puts a b xs → Puts b c ys → Puts a c (xs ++ ys)
puts-both a b c xs ys first second before h = subst c (append_assoc before xs ys) (second (before ++ xs) (first before h))

pub puts-none : (a : List Found → Type 0) → Puts a a []
puts-none a before h = subst a (sym (append-nil before)) h

pub puts-same : (a b : List Found → Type 0) (xs ys : List Found) → xs ≡ ys → Puts a b xs → Puts a b ys
puts-same a b xs ys e h = subst (Puts a b) e h

-- ---- what holds of some seat told so far

or-second : (a b : Bool) → b ≡ true → (a || b) ≡ true
or-second true b h = refl
or-second false b h = h

or-first : (a b : Bool) → a ≡ true → (a || b) ≡ true
or-first a b h = rw h refl

first-any : (b : Bool) (p : Seat → Bool) (x t f : Told) (xs : List Told) → is_of_seat x t ≡ b
    → (first_before xs t ≡ Some f → list_any (λ u. p (seat_of u)) xs ≡ true)
    → (elim b [ true ↦ Some x | false ↦ first_before xs t ]) ≡ Some f → p (seat_of t) ≡ true → list_any (λ u. p (seat_of u)) (x ∷ xs) ≡ true
first-any true p x t f xs e later h holds = or-first (p (seat_of x)) _ (ap p (told-seat x t e) ∙ holds)
first-any false p x t f xs e later h holds = or-second (p (seat_of x)) _ (later h)

pub any-first : (p : Seat → Bool) (xs : List Told) (t f : Told) → first_before xs t ≡ Some f → p (seat_of t) ≡ true → list_any (λ u. p (seat_of u)) xs ≡ true
any-first p [] t f h holds = absurd (let k : None ≡ Some f = h in cc)
any-first p (x ∷ xs) t f h holds = first-any (is_of_seat x t) p x t f xs refl (λ k. any-first p xs t f k holds) h holds
