-- The elements at the end of a path, with those on the way to them: their numbers rise, and the element of a group on the
-- way to one is at the end of the path as far as that group.
use Rattle.std.proofs.Common.{◌≡◌, ℕ, ◌+◌, ◌<◌, ◌≤◌, Bool, true, false, List, [], ◌∷◌, length, map, filter, flat_map, Some, ◌⊎◌, inl, inr, refl, sym, ap, ◌∙◌}
use Rattle.std.proofs.Common.{subst, arith}
use Rattle.std.specs.Prelude.{if◌then◌else◌}
use Rattle.std.proofs.lemmas.Bool.{false≢true}
use Rattle.inv_base.specs.Tree.{Forest, an_element, Name, Attribute, size}
use Rattle.term_table.specs.declared.groups.Group.{Group}
use Rattle.term_table.specs.declared.contexts.Context.{Context}
use Rattle.inv_terms.specs.declared.entries.Entry.{Entry}
use Rattle.bind_rows.specs.declared.rows.Step.{Step}
use Rattle.bind_rows.specs.Same.{same_step, same_or_none}
use Rattle.bind_table.specs.Lines.{Cell, Plan, nothing, a_line}
use Rattle.bind_table.proofs.SameLemmas.{step-sound}
use Rattle.bind_meaning.specs.Picks.{last_of, carrier}
use Rattle.bind_meaning.specs.Trees.{name_of, spots, is_emitted, holds_further, attributes, element_text, with_text, elements, written_lines}
use Rattle.binding_laws.specs.Written.{emitted}
use Rattle.binding_laws.proofs.TreeLemmas.{Each, each-weaker}
use Rattle.binding_laws.proofs.ContextLemmas.{Rising, each-flat_map, rising-flat_map}
use Rattle.binding_laws.proofs.ReachLemmas.{Among, among-split, among-flat_map, among-map, Leads}
use Rattle.binding_laws.proofs.RowLemmas.{At, sized, past, past_text, written_in, long_of, begin_in, Place, spot_of, behind, last_places, places}

-- ---- membership

pub of-flat_map : {X Y : Type 0} (f : X → List Y) (y : Y) (xs : List X) → Among y (flat_map f xs) → (x : X) × (Among x xs × Among y (f x))
of-flat_map f y [] a = absurd a
of-flat_map f y (x ∷ xs) a = elim (among-split y (f x) (flat_map f xs) a) [
  | inl h ↦ (x, (inl refl, h))
  | inr h ↦ let w = of-flat_map f y xs h in (w.0, (inr w.1.0, w.1.1))
]

pub of-map : {X Y : Type 0} (f : X → Y) (y : Y) (xs : List X) → Among y (map f xs) → (x : X) × (Among x xs × (f x ≡ y))
of-map f y [] a = absurd a
of-map f y (x ∷ xs) (inl e) = (x, (inl refl, e))
of-map f y (x ∷ xs) (inr a) = let w = of-map f y xs a in (w.0, (inr w.1.0, w.1.1))

pub of-filter-any : {X : Type 0} (p : X → Bool) (x : X) (xs : List X) → Among x (filter p xs) → Among x xs × (p x ≡ true)
of-filter-any p x [] a = absurd a
of-filter-any p x (y ∷ xs) a = go (p y) refl (of-filter-any p x xs) a
  where
    go : (b : Bool) → p y ≡ b → (Among x (filter p xs) → Among x xs × (p x ≡ true)) → Among x (if b then y ∷ filter p xs else filter p xs) →
        ((y ≡ x) ⊎ Among x xs) × (p x ≡ true)
    go true e later (inl s) = (inl s, ap p (sym s) ∙ e)
    go true e later (inr m) = let w = later m in (inr w.0, w.1)
    go false e later m = let w = later m in (inr w.0, w.1)

pub of-sized : (long : Context → ℕ) (x : At) (ds : List Context) (n : ℕ) → Among x (sized long ds n) → Among x.context ds
of-sized long x [] n a = absurd a
of-sized long x (d ∷ ds) n (inl e) = inl (ap (λ (y : At). y.context) e)
of-sized long x (d ∷ ds) n (inr a) = inr (of-sized long x ds (n + long d) a)

-- ---- the places at the line of a path

module _ (es : List Entry) where
  abbrev pub own_places : Step → List Cell → Plan → List Step → Bool → Context → ℕ → List Place
  own_places t cells inside path held c n =
      flat_map (λ (x : At). map (behind x.number) (last_places path (spot_of es t cells x.context)
      (places es inside path (holds_further es cells inside held x.context) x.context (begin_in es t cells x))))
      (sized (long_of es t cells inside held) (emitted es t cells inside held c) n)

  pub record IsOwn (t : Step) (cells : List Cell) (inside : Plan) (path : List Step) (held : Bool) (c : Context) (n : ℕ) (place : Place) : Type 0 where
    pub x : At
    pub at : Among x (sized (long_of es t cells inside held) (emitted es t cells inside held c) n)
    pub p : Place
    pub within : Among p (last_places path (spot_of es t cells x.context)
        (places es inside path (holds_further es cells inside held x.context) x.context (begin_in es t cells x)))
    pub is : behind x.number p ≡ place

  pub of-own : (t : Step) (cells : List Cell) (inside : Plan) (path : List Step) (held : Bool) (c : Context) (n : ℕ) (place : Place) →
      Among place (own_places t cells inside path held c n) → IsOwn t cells inside path held c n place
  of-own t cells inside path held c n place a =
      let w = of-flat_map (λ (x : At). map (behind x.number)
      (last_places path (spot_of es t cells x.context)
      (places es inside path (holds_further es cells inside held x.context) x.context (begin_in es t cells x)))) place
      (sized (long_of es t cells inside held) (emitted es t cells inside held c) n) a in
      let v = of-map (behind w.0.number) place (last_places path (spot_of es t cells w.0.context)
      (places es inside path (holds_further es cells inside held w.0.context) w.0.context (begin_in es t cells w.0))) w.1.1 in
      record { x = w.0; at = w.1.0; p = v.0; within = v.1.0; is = v.1.1 }

  to-own : (t : Step) (cells : List Cell) (inside : Plan) (path : List Step) (held : Bool) (c : Context) (n : ℕ) (x : At) (p : Place)
      → Among x (sized (long_of es t cells inside held) (emitted es t cells inside held c) n)
      → Among p (last_places path (spot_of es t cells x.context)
      (places es inside path (holds_further es cells inside held x.context) x.context (begin_in es t cells x)))
      → Among (behind x.number p) (own_places t cells inside path held c n)
  to-own t cells inside path held c n x p at a =
      among-flat_map (λ (y : At). map (behind y.number)
      (last_places path (spot_of es t cells y.context)
      (places es inside path (holds_further es cells inside held y.context) y.context (begin_in es t cells y)))) x (behind x.number p)
      (sized (long_of es t cells inside held) (emitted es t cells inside held c) n) at
      (among-map (behind x.number) p (last_places path (spot_of es t cells x.context)
      (places es inside path (holds_further es cells inside held x.context) x.context (begin_in es t cells x))) a)

  -- ---- from the context above to that of the element

  pub places-lead : (plan : Plan) (path : List Step) (held : Bool) (c : Context) (n : ℕ) (place : Place) → Among place (places es plan path held c n) →
      Leads es path c place.spot.context
  places-lead nothing path held c n place a = absurd a
  places-lead (a_line t cells inside rest) [] held c n place a = absurd a
  places-lead (a_line t cells inside rest) (s ∷ path) held c n place a =
      go (λ us further d m p b. places-lead inside us further d m p b) (λ m b. places-lead rest (s ∷ path) held c m place b) (same_step s t) refl a
    where
      below : ((us : List Step) (further : Bool) (d : Context) (m : ℕ) (p : Place) → Among p (places es inside us further d m) → Leads es us d p.spot.context)
          → (path : List Step) (x : At) (p : Place) →
          Among p (last_places path (spot_of es t cells x.context)
          (places es inside path (holds_further es cells inside held x.context) x.context (begin_in es t cells x)))
          → Leads es path x.context p.spot.context
      below inner [] x p (inl e) = ap (λ (q : Place). q.spot.context) e
      below inner [] x p (inr b) = absurd b
      below inner (u ∷ us) x p b = inner (u ∷ us) (holds_further es cells inside held x.context) x.context (begin_in es t cells x) p b

      go : ((us : List Step) (further : Bool) (d : Context) (m : ℕ) (p : Place) → Among p (places es inside us further d m) → Leads es us d p.spot.context)
          → ((m : ℕ) → Among place (places es rest (s ∷ path) held c m) → Leads es (s ∷ path) c place.spot.context)
          → (b : Bool) → same_step s t ≡ b → Among place (elim b [
            | true ↦ own_places t cells inside path held c n
            | false ↦ places es rest (s ∷ path) held c (past (long_of es t cells inside held) (emitted es t cells inside held c) n)
          ]) → Leads es (s ∷ path) c place.spot.context
      go inner later true e k =
          let w = of-own t cells inside path held c n place k in
          let there = (of-filter-any (is_emitted es t cells inside held) w.x.context (spots es c t.group)
          (of-sized (long_of es t cells inside held) w.x (emitted es t cells inside held c) n w.at)).0 in (
            w.x.context,
            subst (λ o. Among w.x.context (spots es c o)) (sym (ap (λ (z : Step). z.group) (step-sound s t e))) there,
            subst (Leads es path w.x.context) (ap (λ (q : Place). q.spot.context) w.is) (below inner path w.x w.p w.within),
          )
      go inner later false e k = later (past (long_of es t cells inside held) (emitted es t cells inside held c) n) k

  -- ---- numbers rise

  pub record IsBetween (low high : ℕ) (place : Place) : Type 0 where
    pub first : ℕ
    pub further : List ℕ
    pub way_is : place.way ≡ first ∷ further
    pub least : low ≤ last_of place.way
    pub most : last_of place.way < high

  abbrev pub Before : Place → Place → Type 0
  Before a b = last_of a.way < last_of b.way

  wider : (a b c d : ℕ) → c ≤ a → b ≤ d → (place : Place) → IsBetween a b place → IsBetween c d place
  wider a b c d l r place k = record {
    first = k.first;
    further = k.further;
    way_is = k.way_is;
    least = (let x = k.least in omega (arith, l, x));
    most =
        (let x = k.most in omega (arith, r, x));
  }

  abbrev Ahead : (Context → ℕ) → At → At → Type 0
  Ahead long a b = a.number + long a.context ≤ b.number

  abbrev Spans : (Context → ℕ) → ℕ → ℕ → At → Type 0
  Spans long low high x = (low ≤ x.number) × (x.number + long x.context ≤ high)

  sized-spans : (long : Context → ℕ) (ds : List Context) (n : ℕ) → (n ≤ past long ds n) ×
      (Each (Spans long n (past long ds n)) (sized long ds n) × Rising (Ahead long) (sized long ds n))
  sized-spans long [] n = (omega arith, (tt, tt))
  sized-spans long (d ∷ ds) n =
      let w = sized-spans long ds (n + long d) in
      let l = w.0 in (
        omega (arith, l),
        (
          (
            (omega arith, l),
            each-weaker (Spans long (n + long d) (past long ds (n + long d))) (Spans long n (past long ds (n + long d))) (sized long ds (n + long d))
                (λ x k. ((let a = k.0 in omega (arith, a)), k.1)) w.1.0,
          ),
          (
            each-weaker (Spans long (n + long d) (past long ds (n + long d))) (Ahead long (record { context = d; number = n })) (sized long ds (n + long d))
                (λ x k. k.0) w.1.0,
            w.1.1,
          ),
        ),
      )

  elements-long : (written : Name) (attrs : Context → List Attribute) (inside : Context → Forest) (is_there : Context → Bool) (rest : Forest)
      (ds : List Context) (n : ℕ)
      → past (λ d. 1 + (length (attrs d) + size (inside d))) (filter is_there ds) n + size rest ≡ n + size
      (elements is_there (λ d. an_element written (attrs d) (inside d)) ds rest)
  elements-long written attrs inside is_there rest [] n = refl
  elements-long written attrs inside is_there rest (d ∷ ds) n = go (is_there d) (elements-long written attrs inside is_there rest ds)
    where
      long : Context → ℕ
      long e = 1 + (length (attrs e) + size (inside e))

      go : (b : Bool)
          → ((m : ℕ) → past (λ e. 1 + (length (attrs e) + size (inside e))) (filter is_there ds) m + size rest ≡ m + size
          (elements is_there (λ e. an_element written (attrs e) (inside e)) ds rest))
          → past (λ e. 1 + (length (attrs e) + size (inside e))) (if b then d ∷ filter is_there ds else filter is_there ds) n + size rest
          ≡ n + size (elim b [
            | true ↦ an_element written (attrs d) (inside d) (elements is_there (λ e. an_element written (attrs e) (inside e)) ds rest)
            | false ↦ elements is_there (λ e. an_element written (attrs e) (inside e)) ds rest
          ])
      go true later = let k = later (n + (1 + (length (attrs d) + size (inside d)))) in omega (arith, k)
      go false later = later n

  text-long : (text : List ℕ) (f : Forest) (n : ℕ) → (n ≤ past_text text n) × (past_text text n + size f ≡ n + size (with_text text f))
  text-long [] f n = (omega arith, refl)
  text-long (c ∷ text) f n = (omega arith, omega arith)

  pub record AreBetween (low high : ℕ) (them : List Place) : Type 0 where
    pub each : Each (IsBetween low high) them
    pub rising : Rising Before them

  behind-between : (m low high : ℕ) (ps : List Place) → AreBetween low high ps → AreBetween low high (map (behind m) ps)
  behind-between m low high [] k = record { each = tt; rising = tt }
  behind-between m low high (p ∷ ps) k =
      let w = behind-between m low high ps (record { each = k.each.1; rising = k.rising.1 }) in
      record { each = (one p k.each.0, w.each); rising = (all p k.each.0 ps k.each.1 k.rising.0, w.rising) }
    where
      last-behind : (q : Place) → IsBetween low high q → last_of (m ∷ q.way) ≡ last_of q.way
      last-behind q z = ap (λ way. last_of (m ∷ way)) z.way_is ∙ sym (ap last_of z.way_is)

      one : (q : Place) → IsBetween low high q → IsBetween low high (behind m q)
      one q z = record {
        first = m;
        further = q.way;
        way_is = refl;
        least = subst (λ l. low ≤ l) (sym (last-behind q z)) z.least;
        most =
            subst (λ l. l < high) (sym (last-behind q z)) z.most;
      }

      all : (q : Place) → IsBetween low high q → (qs : List Place) → Each (IsBetween low high) qs → Each (Before q) qs →
          Each (Before (behind m q)) (map (behind m) qs)
      all q z [] e r = tt
      all q z (y ∷ qs) e r = ((let a = last-behind q z in let b = last-behind y e.0 in let c = r.0 in omega (arith, a, b, c)), all q z qs e.1 r.1)

  pub between : (plan : Plan) (path : List Step) (held : Bool) (c : Context) (n : ℕ) →
      AreBetween n (n + size (written_lines es plan held c)) (places es plan path held c n)
  between nothing path held c n = record { each = tt; rising = tt }
  between (a_line t cells inside rest) [] held c n = record { each = tt; rising = tt }
  between (a_line t cells inside rest) (s ∷ path) held c n = go (λ us further d m. between inside us further d m) (λ m. between rest (s ∷ path) held c m)
      (same_step s t)
    where
      long : Context → ℕ
      long = long_of es t cells inside held

      next : ℕ
      next = past (long_of es t cells inside held) (emitted es t cells inside held c) n

      whole : past (long_of es t cells inside held) (emitted es t cells inside held c) n + size (written_lines es rest held c) ≡ n + size
          (written_lines es (a_line t cells inside rest) held c)
      whole = elements-long (name_of t.name) (attributes es t cells) (written_in es cells inside held) (is_emitted es t cells inside held)
          (written_lines es rest held c) (spots es c t.group) n

      one : ((us : List Step) (further : Bool) (d : Context) (m : ℕ) →
          AreBetween m (m + size (written_lines es inside further d)) (places es inside us further d m)) → (path : List Step) (x : At)
          → AreBetween x.number (x.number + long_of es t cells inside held x.context)
          (map (behind x.number) (last_places path (spot_of es t cells x.context)
          (places es inside path (holds_further es cells inside held x.context) x.context (begin_in es t cells x))))
      one inner [] x = record {
        each = (record { first = x.number; further = []; way_is = refl; least = omega arith; most = omega arith }, tt);
        rising =
            (tt, tt);
      }
      one inner (u ∷ us) x =
          let further : Bool = holds_further es cells inside held x.context in
          let w = inner (u ∷ us) further x.context (begin_in es t cells x) in
          let f : Forest = written_lines es inside further x.context in
          let text = text-long (element_text es cells x.context) f (x.number + (1 + length (attributes es t cells x.context))) in
          let a = text.0 in
          let b = text.1 in
          behind-between x.number x.number (x.number + long_of es t cells inside held x.context)
          (places es inside (u ∷ us) further x.context (begin_in es t cells x))
          (record {
            each = each-weaker (IsBetween (begin_in es t cells x) (begin_in es t cells x + size f))
                (IsBetween x.number (x.number + long_of es t cells inside held x.context))
                (places es inside (u ∷ us) further x.context (begin_in es t cells x))
                (λ p k. wider (begin_in es t cells x) (begin_in es t cells x + size f) x.number (x.number + long_of es t cells inside held x.context)
                (omega (arith, a)) (omega (arith, b)) p k) w.each;
            rising = w.rising;
          })

      go : ((us : List Step) (further : Bool) (d : Context) (m : ℕ) →
          AreBetween m (m + size (written_lines es inside further d)) (places es inside us further d m))
          → ((m : ℕ) → AreBetween m (m + size (written_lines es rest held c)) (places es rest (s ∷ path) held c m)) → (b : Bool)
          → AreBetween n (n + size (written_lines es (a_line t cells inside rest) held c)) (elim b [
            | true ↦ own_places t cells inside path held c n
            | false ↦ places es rest (s ∷ path) held c (past (long_of es t cells inside held) (emitted es t cells inside held c) n)
          ])
      go inner later true =
          let all : List At = sized (long_of es t cells inside held) (emitted es t cells inside held c) n in
          let f : At → List Place = λ x. map (behind x.number)
          (last_places path (spot_of es t cells x.context)
          (places es inside path (holds_further es cells inside held x.context) x.context (begin_in es t cells x))) in
          let w = sized-spans (long_of es t cells inside held) (emitted es t cells inside held c) n in
          let z = whole in
          record {
            each = each-flat_map (IsBetween n (n + size (written_lines es (a_line t cells inside rest) held c))) f all
                (each-weaker (Spans (long_of es t cells inside held) n (past (long_of es t cells inside held) (emitted es t cells inside held c) n))
                (λ x. Each (IsBetween n (n + size (written_lines es (a_line t cells inside rest) held c))) (f x)) all
                (λ x k. let l = k.0 in let r = k.1 in each-weaker (IsBetween x.number (x.number + long_of es t cells inside held x.context))
                (IsBetween n (n + size (written_lines es (a_line t cells inside rest) held c))) (f x)
                (λ p y. wider x.number (x.number + long_of es t cells inside held x.context) n
                (n + size (written_lines es (a_line t cells inside rest) held c)) l (omega (arith, r, z)) p y) (one inner path x).each)
                w.1.0);
            rising = rising-flat_map (Ahead (long_of es t cells inside held)) Before
                (λ x p. IsBetween x.number (x.number + long_of es t cells inside held x.context) p) f
                (λ x y p q l a b. let h = a.most in let k = b.least in omega (arith, l, h, k)) all w.1.1
                (each-all (λ x. (one inner path x).rising) (λ x. (one inner path x).each) all);
          }
        where
          each-all : {P Q : At → Type 0} → ((x : At) → P x) → ((x : At) → Q x) → (xs : List At) → Each (λ x. P x × Q x) xs
          each-all f g [] = tt
          each-all f g (x ∷ xs) = ((f x, g x), each-all f g xs)
      go inner later false =
          let w = later (past (long_of es t cells inside held) (emitted es t cells inside held c) n) in
          let l = (sized-spans (long_of es t cells inside held) (emitted es t cells inside held c) n).0 in
          let z = whole in
          record {
            each = each-weaker (IsBetween (past (long_of es t cells inside held) (emitted es t cells inside held c) n)
                (past (long_of es t cells inside held) (emitted es t cells inside held c) n + size (written_lines es rest held c)))
                (IsBetween n (n + size (written_lines es (a_line t cells inside rest) held c)))
                (places es rest (s ∷ path) held c (past (long_of es t cells inside held) (emitted es t cells inside held c) n))
                (λ p k. wider (past (long_of es t cells inside held) (emitted es t cells inside held c) n)
                (past (long_of es t cells inside held) (emitted es t cells inside held c) n + size (written_lines es rest held c)) n
                (n + size (written_lines es (a_line t cells inside rest) held c)) l (omega (arith, z)) p k) w.each;
            rising = w.rising;
          }

-- ---- the element of a group on the way

-- the path as far as the first element that carries the group, and what is beyond
abbrev pub upto : Group → List Step → List Step
upto g [] = []
upto g (s ∷ path) = s ∷ elim (same_or_none s.group (Some g)) [ true ↦ [] | false ↦ upto g path ]

abbrev pub beyond : Group → List Step → List Step
beyond g [] = []
beyond g (s ∷ path) = elim (same_or_none s.group (Some g)) [ true ↦ path | false ↦ beyond g path ]

abbrev pub has_carrier : Group → List Step → Bool
has_carrier g [] = false
has_carrier g (s ∷ path) = elim (same_or_none s.group (Some g)) [ true ↦ true | false ↦ has_carrier g path ]

module _ (es : List Entry) (g : Group) where
  pub record IsCarried (plan : Plan) (path : List Step) (held : Bool) (c : Context) (n : ℕ) (place : Place) : Type 0 where
    pub mark : Place
    pub among : Among mark (places es plan (upto g path) held c n)
    pub carries : carrier g path place.way ≡ Some (last_of mark.way)
    pub leads : Leads es (beyond g path) mark.spot.context place.spot.context

  below-path : (t : Step) (cells : List Cell) (inside : Plan) (path : List Step) (held : Bool) (x : At) (p : Place)
      → Among p (last_places path (spot_of es t cells x.context)
      (places es inside path (holds_further es cells inside held x.context) x.context (begin_in es t cells x))) → Leads es path x.context p.spot.context
  below-path t cells inside [] held x p (inl e) = ap (λ (q : Place). q.spot.context) e
  below-path t cells inside [] held x p (inr b) = absurd b
  below-path t cells inside (u ∷ us) held x p b = places-lead es inside (u ∷ us) (holds_further es cells inside held x.context) x.context
      (begin_in es t cells x) p b

  pub carried : (plan : Plan) (path : List Step) (held : Bool) (c : Context) (n : ℕ) (place : Place) → has_carrier g path ≡ true →
      Among place (places es plan path held c n) → IsCarried plan path held c n place
  carried nothing path held c n place h a = absurd a
  carried (a_line t cells inside rest) [] held c n place h a = absurd a
  carried (a_line t cells inside rest) (s ∷ path) held c n place h a =
      go (λ us further d m p k b. carried inside us further d m p k b) (λ m b. carried rest (s ∷ path) held c m place h b) (same_step s t) refl a
    where
      -- the way behind an element of the line
      at-line : ((us : List Step) (further : Bool) (d : Context) (m : ℕ) (p : Place) → has_carrier g us ≡ true → Among p (places es inside us further d m) →
          IsCarried inside us further d m p)
          → (x : At) → Among x (sized (long_of es t cells inside held) (emitted es t cells inside held c) n) → (p : Place)
          → Among p (last_places path (spot_of es t cells x.context)
          (places es inside path (holds_further es cells inside held x.context) x.context (begin_in es t cells x)))
          → (b : Bool) → (elim b [ true ↦ true | false ↦ has_carrier g path ]) ≡ true
          → (mark : Place) × (Among mark (own_places es t cells inside (elim b [ true ↦ [] | false ↦ upto g path ]) held c n)
          × ((elim b [ true ↦ Some x.number | false ↦ carrier g path p.way ]) ≡ Some (last_of mark.way) ×
          Leads es (elim b [ true ↦ path | false ↦ beyond g path ]) mark.spot.context p.spot.context))
      at-line inner x at p within true k = (
        behind x.number (record { way = []; spot = spot_of es t cells x.context }),
        (
          to-own es t cells inside [] held c n x (record { way = []; spot = spot_of es t cells x.context }) at (inl refl),
          (refl, below-path t cells inside path held x p within),
        ),
      )
      at-line inner x at p within false k = deeper path k within
        where
          deeper : (path : List Step) → has_carrier g path ≡ true
              → Among p (last_places path (spot_of es t cells x.context)
              (places es inside path (holds_further es cells inside held x.context) x.context (begin_in es t cells x)))
              → (mark : Place) × (Among mark (own_places es t cells inside (upto g path) held c n) ×
              (carrier g path p.way ≡ Some (last_of mark.way) × Leads es (beyond g path) mark.spot.context p.spot.context))
          deeper [] z b = absurd (false≢true z)
          deeper (u ∷ us) z b =
              let further : Bool = holds_further es cells inside held x.context in
              let w = inner (u ∷ us) further x.context (begin_in es t cells x) p z b in
              let is = each-at w.mark (places es inside (upto g (u ∷ us)) further x.context (begin_in es t cells x))
              (between es inside (upto g (u ∷ us)) further x.context (begin_in es t cells x)).each w.among in (
                behind x.number w.mark,
                (
                  to-own es t cells inside (upto g (u ∷ us)) held c n x w.mark at w.among,
                  (w.carries ∙ ap Some (sym (ap (λ way. last_of (x.number ∷ way)) is.way_is ∙ sym (ap last_of is.way_is))), w.leads),
                ),
              )
            where
              each-at : {low high : ℕ} (q : Place) (qs : List Place) → Each (IsBetween es low high) qs → Among q qs → IsBetween es low high q
              each-at q [] e m = absurd m
              each-at {low} {high} q (y ∷ qs) e (inl s) = subst (IsBetween es low high) s e.0
              each-at q (y ∷ qs) e (inr m) = each-at q qs e.1 m

      go : ((us : List Step) (further : Bool) (d : Context) (m : ℕ) (p : Place) → has_carrier g us ≡ true → Among p (places es inside us further d m) →
          IsCarried inside us further d m p)
          → ((m : ℕ) → Among place (places es rest (s ∷ path) held c m) → IsCarried rest (s ∷ path) held c m place)
          → (b : Bool) → same_step s t ≡ b → Among place (elim b [
            | true ↦ own_places es t cells inside path held c n
            | false ↦ places es rest (s ∷ path) held c (past (long_of es t cells inside held) (emitted es t cells inside held c) n)
          ]) → IsCarried (a_line t cells inside rest) (s ∷ path) held c n place
      go inner later true e k =
          let w = of-own es t cells inside path held c n place k in
          let v = at-line inner w.x w.at w.p w.within (same_or_none s.group (Some g)) h in
          record {
            mark = v.0;
            among = subst (λ b. Among v.0 (elim b [
              | true ↦ own_places es t cells inside (elim (same_or_none s.group (Some g)) [ true ↦ [] | false ↦ upto g path ]) held c n
              | false ↦ places es rest (upto g (s ∷ path)) held c (past (long_of es t cells inside held) (emitted es t cells inside held c) n)
            ])) (sym e) v.1.0;
            carries = ap (λ (q : Place). carrier g (s ∷ path) q.way) (sym w.is) ∙ v.1.1.0;
            leads = subst (λ (q : Place). Leads es (beyond g (s ∷ path)) v.0.spot.context q.spot.context) w.is v.1.1.1;
          }
      go inner later false e k =
          let w = later (past (long_of es t cells inside held) (emitted es t cells inside held c) n) k in
          record {
            mark = w.mark;
            among = subst (λ b. Among w.mark (elim b [
              | true ↦ own_places es t cells inside (elim (same_or_none s.group (Some g)) [ true ↦ [] | false ↦ upto g path ]) held c n
              | false ↦ places es rest (upto g (s ∷ path)) held c (past (long_of es t cells inside held) (emitted es t cells inside held c) n)
            ])) (sym e) w.among;
            carries = w.carries;
            leads = w.leads;
          }
