-- All faults in their order: each spot once; the first of them is the first of all; and those of one kind are the same in
-- whatever order they are found.
use Rattle.std.proofs.Common.{◌≡◌, ℕ, zero, suc, ◌<◌, Bool, true, false, List, [], ◌∷◌, ◌++◌, filter, Option, Some, None, inl, inr, refl, sym, ap, ◌∙◌, subst}
use Rattle.std.proofs.Common.{arith, Ordering}
use Rattle.std.specs.Prelude.{if◌then◌else◌, slice_get}
use Rattle.std.specs.Ordering.{nat_cmp, is_eq, is_lt, ordering_then, ordering_reverse}
use Rattle.std.specs.declared.cmp.Ordering.TheVariants.{Less, Equal, Greater}
use Rattle.std.specs.Cmp.Lexicographic.{slice_cmp}
use Rattle.std.proofs.lemmas.Bool.{false≢true}
use Rattle.std.proofs.lemmas.Bool.Decides.{nat_tests}
use Rattle.std.proofs.lemmas.Option.{same_Some}
use Rattle.std.proofs.lemmas.Cmp.{nat_list_cmp_total}
use Rattle.term_table.specs.Places.{precedes}
use Rattle.term_table.proofs.RunLemmas.{not_both_ways}
use Rattle.bind_meaning.specs.Judging.{Found, earlier}
use Rattle.bind_meaning.specs.Faults.{without_kind, spot, put_fault, put_faults}
use Rattle.bind_terms.specs.Faults.{with_found, least_of}
use Rattle.bind_terms.proofs.Holding.{place-is, place-itself}
use Rattle.bind_terms.proofs.Order.{Among, among-filter, filter-among, AreOne, same-least}

abbrev pub order : List ℕ → List ℕ → Ordering
order = slice_cmp nat_cmp

turned : (p q : List ℕ) → order p q ≡ Greater → order q p ≡ Less
turned p q e = nat_list_cmp_total.antisymm q p ∙ ap ordering_reverse e

one-spot : (p q : List ℕ) → order p q ≡ Equal → p ≡ q
one-spot p q e = place-is p q (ap is_eq e)

-- ---- lists in the order of their spots

-- each stands behind the spot
abbrev pub Behind : List ℕ → List Found → Type 0
Behind q [] = Unit {0}
Behind q (f ∷ fs) = (order q (spot f.place) ≡ Less) × Behind q fs

abbrev pub Rising : List Found → Type 0
Rising [] = Unit {0}
Rising (f ∷ fs) = Behind (spot f.place) fs × Rising fs

pub behind-trans : (p q : List ℕ) (fs : List Found) → order p q ≡ Less → Behind q fs → Behind p fs
behind-trans p q [] l h = tt
behind-trans p q (f ∷ fs) l h = (nat_list_cmp_total.trans p q (spot f.place) l h.0, behind-trans p q fs l h.1)

abbrev chosen : Bool → Found → Found → Found
chosen b f g = elim b [ true ↦ f | false ↦ g ]

spot-earlier : (g f : Found) → order (spot f.place) (spot g.place) ≡ Equal → spot (earlier g f).place ≡ spot g.place
spot-earlier g f e = go (is_lt (slice_cmp nat_cmp f.place g.place))
  where
    go : (b : Bool) → spot (chosen b f g).place ≡ spot g.place
    go true = one-spot (spot f.place) (spot g.place) e
    go false = refl

abbrev pub put_by : Ordering → Found → Found → List Found → List Found
put_by o f g gs = elim o [ Less ↦ f ∷ (g ∷ gs) | Equal ↦ earlier g f ∷ gs | Greater ↦ g ∷ put_fault f gs ]

put-behind : (q : List ℕ) (f : Found) (kept : List Found) → order q (spot f.place) ≡ Less → Behind q kept → Behind q (put_fault f kept)
put-behind q f [] l h = (l, tt)
put-behind q f (g ∷ gs) l h = go (order (spot f.place) (spot g.place)) refl (put-behind q f gs l h.1)
  where
    go : (o : Ordering) → order (spot f.place) (spot g.place) ≡ o → Behind q (put_fault f gs) → Behind q (put_by o f g gs)
    go Less e rest = (l, h)
    go Equal e rest = (ap (order q) (spot-earlier g f e) ∙ h.0, h.1)
    go Greater e rest = (h.0, rest)

pub put-rising : (f : Found) (kept : List Found) → Rising kept → Rising (put_fault f kept)
put-rising f [] h = (tt, tt)
put-rising f (g ∷ gs) h = go (order (spot f.place) (spot g.place)) refl (put-rising f gs h.1)
  where
    go : (o : Ordering) → order (spot f.place) (spot g.place) ≡ o → Rising (put_fault f gs) → Rising (put_by o f g gs)
    go Less e rest = ((e, behind-trans (spot f.place) (spot g.place) gs e h.0), h)
    go Equal e rest = (subst (λ q. Behind q gs) (sym (spot-earlier g f e)) h.0, h.1)
    go Greater e rest = (put-behind (spot g.place) f gs (turned (spot f.place) (spot g.place) e) h.0, rest)

pub puts-rising : (kept fs : List Found) → Rising kept → Rising (put_faults kept fs)
puts-rising kept [] h = h
puts-rising kept (f ∷ fs) h = puts-rising (put_fault f kept) fs (put-rising f kept h)

pub puts-append : (kept xs ys : List Found) → put_faults kept (xs ++ ys) ≡ put_faults (put_faults kept xs) ys
puts-append kept [] ys = refl
puts-append kept (x ∷ xs) ys = puts-append (put_fault x kept) xs ys

-- ---- what stands at a spot

abbrev is_at : List ℕ → Found → Bool
is_at q f = is_eq (order q (spot f.place))

abbrev look_by : Bool → Found → Option Found → Option Found
look_by b f rest = elim b [ true ↦ Some f | false ↦ rest ]

abbrev look : List ℕ → List Found → Option Found
look q [] = None
look q (f ∷ fs) = look_by (is_at q f) f (look q fs)

look-behind : (q : List ℕ) (fs : List Found) → Behind q fs → look q fs ≡ None
look-behind q [] h = refl
look-behind q (f ∷ fs) h = ap (λ b. look_by b f (look q fs)) (ap is_eq h.0) ∙ look-behind q fs h.1

look-head : (f : Found) (fs : List Found) → look (spot f.place) (f ∷ fs) ≡ Some f
look-head f fs = ap (λ b. look_by b f (look (spot f.place) fs)) (place-itself (spot f.place))

-- what stands at a spot behind one more
abbrev with_if : Bool → Option Found → Found → Option Found
with_if b o f = elim b [ true ↦ with_found o f | false ↦ o ]

in-front : (c : Bool) (o : Option Found) (f : Found) → (c ≡ true → o ≡ None) → look_by c f o ≡ with_if c o f
in-front true o f h = ap (λ x. with_found x f) (sym (h refl))
in-front false o f h = refl

in-place : (a b c : Bool) (g f : Found) (rest : Option Found) → a ≡ c → b ≡ c → look_by a (earlier g f) rest ≡ with_if b (look_by c g rest) f
in-place a b true g f rest d e = rw (d, e) refl
in-place a b false g f rest d e = rw (d, e) refl

further-on : (c b : Bool) (g f : Found) (rest more : Option Found) → more ≡ with_if b rest f → (c ≡ true → b ≡ false)
    → look_by c g more ≡ with_if b (look_by c g rest) f
further-on true b g f rest more e apart = rw (apart refl) refl
further-on false b g f rest more e apart = e

look-put : (q : List ℕ) (f : Found) (kept : List Found) → Rising kept → look q (put_fault f kept) ≡ with_if (is_at q f) (look q kept) f
look-put q f [] h = in-front (is_at q f) None f (λ e. refl)
look-put q f (g ∷ gs) h = go (order (spot f.place) (spot g.place)) refl (look-put q f gs h.1)
  where
    go : (o : Ordering) → order (spot f.place) (spot g.place) ≡ o → look q (put_fault f gs) ≡ with_if (is_at q f) (look q gs) f
        → look q (put_by o f g gs) ≡ with_if (is_at q f) (look q (g ∷ gs)) f
    go Less e rest =
        in-front (is_at q f) (look q (g ∷ gs)) f
        (λ at. let here : q ≡ spot f.place = place-is q (spot f.place) at in
        let behind : Behind (spot f.place) (g ∷ gs) = (e, behind-trans (spot f.place) (spot g.place) gs e h.0) in
        look-behind q (g ∷ gs) (subst (λ x. Behind x (g ∷ gs)) (sym here) behind))
    go Equal e rest =
        in-place (is_at q (earlier g f)) (is_at q f) (is_at q g) g f (look q gs) (ap (λ x. is_eq (order q x)) (spot-earlier g f e))
        (ap (λ x. is_eq (order q x)) (one-spot (spot f.place) (spot g.place) e))
    go Greater e rest =
        further-on (is_at q g) (is_at q f) g f (look q gs) (look q (put_fault f gs)) rest
        (λ at. ap is_eq (ap (λ x. order x (spot f.place)) (place-is q (spot g.place) at) ∙ turned (spot f.place) (spot g.place) e))

pub looks : (q : List ℕ) (kept fs : List Found) → Rising kept → look q (put_faults kept fs) ≡ least_of (look q kept) (filter (is_at q) fs)
looks q kept [] h = refl
looks q kept (f ∷ fs) h = looks q (put_fault f kept) fs (put-rising f kept h)
    ∙ (ap (λ o. least_of o (filter (is_at q) fs)) (look-put q f kept h) ∙ go (is_at q f))
  where
    go : (b : Bool) → least_of (with_if b (look q kept) f) (filter (is_at q) fs) ≡ least_of (look q kept)
        (if b then f ∷ filter (is_at q) fs else filter (is_at q) fs)
    go true = refl
    go false = refl

-- two lists in order with the same at each spot are one
same-lists : (a b : List Found) → Rising a → Rising b → ((q : List ℕ) → look q a ≡ look q b) → a ≡ b
same-lists [] [] h k same = refl
same-lists [] (g ∷ gs) h k same = absurd (let e : None ≡ Some g = same (spot g.place) ∙ look-head g gs in cc)
same-lists (f ∷ fs) [] h k same = absurd (let e : None ≡ Some f = sym (same (spot f.place)) ∙ look-head f fs in cc)
same-lists (f ∷ fs) (g ∷ gs) h k same = go (order (spot f.place) (spot g.place)) refl (λ tails. same-lists fs gs h.1 k.1 tails)
  where
    apart : (x y : Found) (ys : List Found) → order (spot x.place) (spot y.place) ≡ Less → Behind (spot y.place) ys → look (spot x.place) (y ∷ ys) ≡ None
    apart x y ys e b = look-behind (spot x.place) (y ∷ ys) (e, behind-trans (spot x.place) (spot y.place) ys e b)

    heads : order (spot f.place) (spot g.place) ≡ Equal → f ≡ g
    heads e =
        same_Some _ _ (sym (look-head f fs) ∙ (same (spot f.place) ∙ (ap (λ q. look q (g ∷ gs)) (one-spot (spot f.place) (spot g.place) e) ∙ look-head g gs)))

    tail-at : (q : List ℕ) (c : Bool) → is_at q f ≡ c → order (spot f.place) (spot g.place) ≡ Equal → look q fs ≡ look q gs
    tail-at q true at e =
        let here : q ≡ spot f.place = place-is q (spot f.place) at in
        let there : q ≡ spot g.place = here ∙ one-spot (spot f.place) (spot g.place) e in
        look-behind q fs (subst (λ x. Behind x fs) (sym here) h.0) ∙ sym (look-behind q gs (subst (λ x. Behind x gs) (sym there) k.0))
    tail-at q false at e =
        let not_there : is_at q g ≡ false = ap (λ x. is_eq (order q x)) (sym (one-spot (spot f.place) (spot g.place) e)) ∙ at in
        ap (λ b. look_by b f (look q fs)) (sym at) ∙ (same q ∙ ap (λ b. look_by b g (look q gs)) not_there)

    go : (o : Ordering) → order (spot f.place) (spot g.place) ≡ o → (((q : List ℕ) → look q fs ≡ look q gs) → fs ≡ gs) → f ∷ fs ≡ g ∷ gs
    go Less e rest = absurd (let x : Some f ≡ None = sym (look-head f fs) ∙ (same (spot f.place) ∙ apart f g gs e k.0) in cc)
    go Equal e rest = let one = heads e in let others = rest (λ q. tail-at q (is_at q f) refl e) in λ i. one i ∷ others i
    go Greater e rest =
        absurd (let x : Some g ≡ None = sym (look-head g gs) ∙ (sym (same (spot g.place)) ∙ apart g f fs (turned (spot f.place) (spot g.place) e) h.0) in cc)

-- ---- faults of which each place has one

passes-by : (b : Bool) (p : Found → Bool) (x y : Found) (ys : List Found) → p y ≡ b → (Among x (filter p ys) → p x ≡ true)
    → Among x (if b then y ∷ filter p ys else filter p ys) → p x ≡ true
passes-by true p x y ys e more (inl s) = ap p (sym s) ∙ e
passes-by true p x y ys e more (inr h) = more h
passes-by false p x y ys e more h = more h

passes : (p : Found → Bool) (x : Found) (ys : List Found) → Among x (filter p ys) → p x ≡ true
passes p x [] h = absurd h
passes p x (y ∷ ys) h = passes-by (p y) p x y ys refl (passes p x ys) h

pub in-any-order : (kept xs ys : List Found) → Rising kept → ((x : Found) → Among x xs → Among x ys) → ((x : Found) → Among x ys → Among x xs) → AreOne xs
    → put_faults kept xs ≡ put_faults kept ys
in-any-order kept xs ys h to from one =
    same-lists (put_faults kept xs) (put_faults kept ys) (puts-rising kept xs h) (puts-rising kept ys h)
    (λ q. looks q kept xs h
    ∙ (same-least (look q kept) (filter (is_at q) xs) (filter (is_at q) ys)
    (λ x m. among-filter (is_at q) x ys (passes (is_at q) x xs m) (to x (filter-among (is_at q) x xs m)))
    (λ x m. among-filter (is_at q) x xs (passes (is_at q) x ys m) (from x (filter-among (is_at q) x ys m)))
    (λ x y m n e. one x y (filter-among (is_at q) x xs m) (filter-among (is_at q) y xs n) e)
    ∙ sym (looks q kept ys h)))

-- ---- the first

less-first : (a b : ℕ) (p q : List ℕ) → a < b → precedes (a ∷ p) (b ∷ q) ≡ true
less-first a b p q g = grind (arith, nat_tests)

greater-first : (a b : ℕ) (p q : List ℕ) → b < a → precedes (a ∷ p) (b ∷ q) ≡ false
greater-first a b p q g = grind (arith, nat_tests)

rest-before : (o p w : Ordering) → is_lt (ordering_then o (ordering_then p Equal)) ≡ true → is_lt (ordering_then o (ordering_then p w)) ≡ true
rest-before Less p w h = refl
rest-before Equal Less w h = refl
rest-before Equal Equal w h = absurd (false≢true h)
rest-before Equal Greater w h = absurd (false≢true h)
rest-before Greater p w h = absurd (false≢true h)

behind-before : (p q : List ℕ) → precedes (without_kind p) (without_kind q) ≡ true → precedes p q ≡ true
behind-before [] [] h = h
behind-before [] (x ∷ q) h = refl
behind-before (zero ∷ []) [] h = h
behind-before (zero ∷ (r ∷ k)) [] h = absurd (false≢true h)
behind-before (suc j ∷ p) [] h = h
behind-before (zero ∷ []) (zero ∷ []) h = h
behind-before (zero ∷ []) (zero ∷ (s ∷ l)) h = h
behind-before (zero ∷ (r ∷ k)) (zero ∷ []) h = h
behind-before (zero ∷ (r ∷ k)) (zero ∷ (s ∷ l)) h = rest-before (nat_cmp 0 0) (nat_cmp r s) (order k l) h
behind-before (zero ∷ p) (suc k ∷ q) h = less-first 0 (suc k) p q (omega arith)
behind-before (suc j ∷ p) (zero ∷ []) h = h
behind-before (suc j ∷ p) (zero ∷ (s ∷ l)) h = absurd (false≢true (sym (greater-first (suc j) 0 p (s ∷ []) (omega arith)) ∙ h))
behind-before (suc j ∷ p) (suc k ∷ q) h = h

spot-before : (p q : List ℕ) → order (spot p) (spot q) ≡ Less → precedes p q ≡ true
spot-before [] [] e = absurd (let k : Equal ≡ Less = e in cc)
spot-before [] (m ∷ q) e = refl
spot-before (n ∷ p) [] e = absurd (let k : Greater ≡ Less = e in cc)
spot-before (n ∷ p) (m ∷ q) e = go (nat_cmp n m) (ap is_lt e)
  where
    go : (o : Ordering) → is_lt (ordering_then o (order (without_kind p) (without_kind q))) ≡ true → is_lt (ordering_then o (order p q)) ≡ true
    go Less h = refl
    go Equal h = behind-before p q h
    go Greater h = absurd (false≢true h)

head-put : (f : Found) (kept : List Found) → slice_get (put_fault f kept) 0 ≡ with_found (slice_get kept 0) f
head-put f [] = refl
head-put f (g ∷ gs) = go (order (spot f.place) (spot g.place)) refl
  where
    go : (o : Ordering) → order (spot f.place) (spot g.place) ≡ o → slice_get (put_by o f g gs) 0 ≡ Some (earlier g f)
    go Less e = ap (λ b. Some (elim b [ true ↦ f | false ↦ g ])) (sym (spot-before f.place g.place e))
    go Equal e = refl
    go Greater e =
        ap (λ b. Some (elim b [ true ↦ f | false ↦ g ]))
        (sym (not_both_ways g.place f.place (spot-before g.place f.place (turned (spot f.place) (spot g.place) e))))

pub heads : (kept fs : List Found) → slice_get (put_faults kept fs) 0 ≡ least_of (slice_get kept 0) fs
heads kept [] = refl
heads kept (f ∷ fs) = heads (put_fault f kept) fs ∙ ap (λ o. least_of o fs) (head-put f kept)
