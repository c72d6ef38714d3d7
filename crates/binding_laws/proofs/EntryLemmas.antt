-- From what picks say to the entries: where each that is told is an entry of an invoice, and each entry is told, the entries
-- that are read are those of the invoice.
use Rattle.std.proofs.Common.{◌≡◌, ℕ, Bool, true, false, ◌&&◌, List, [], ◌∷◌, ◌++◌, flat_map, Option, Some, None, ◌⊎◌, inl, inr, refl, sym, ap, ◌∙◌, subst}
use Rattle.std.proofs.Common.{arith}
use Rattle.std.specs.Prelude.{◌==◌}
use Rattle.std.specs.List.{list_all}
use Rattle.std.proofs.lemmas.Bool.{false≢true}
use Rattle.std.proofs.lemmas.Bool.Decides.{nat_tests}
use Rattle.term_table.specs.declared.contexts.Slot.{Slot}
use Rattle.term_table.specs.declared.contexts.Context.{Context}
use Rattle.term_table.specs.declared.terms.Term.{Term}
use Rattle.term_table.specs.Contexts.{same_slot, same_context}
use Rattle.term_table.specs.SemanticModel.{same_term}
use Rattle.term_table.specs.Places.{seat_place, precedes}
use Rattle.term_table.proofs.GroupLemmas.{same_group_itself}
use Rattle.term_table.proofs.RunLemmas.{not_less, not_both_ways}
use Rattle.term_table.proofs.SeatLemmas.{same_term_is}
use Rattle.inv_terms.specs.declared.entries.Entry.{Entry}
use Rattle.inv_terms.specs.Listing.{seat_of, comes_before, is_listed}
use Rattle.inv_terms.proofs.OrderLemmas.{same_members}
use Rattle.inv_terms.proofs.PushLemmas.{same_slot_is}
use Rattle.bind_meaning.specs.Seats.{context_of}
use Rattle.bind_meaning.specs.Values.{ParsedValue}
use Rattle.bind_meaning.specs.Judging.{Told, is_of_seat, first_before}
use Rattle.bind_meaning.specs.Terms.{firsts_behind, entry_of, put, listed, entries}
use Rattle.binding_laws.proofs.TreeLemmas.{Each, each-weaker}
use Rattle.binding_laws.proofs.ContextLemmas.{Rising}
use Rattle.binding_laws.proofs.ListLemmas.{both-true}
use Rattle.binding_laws.proofs.ReachLemmas.{Among, among-split, among-flat_map}
use Rattle.binding_laws.proofs.CountLemmas.{each-among}
use Rattle.binding_laws.proofs.PlaceLemmas.{of-flat_map}
use Rattle.binding_laws.proofs.PlainLemmas.{contains-among, among-contains}

-- ---- order

abbrev in_order_of : Option (List ℕ) → Option (List ℕ) → Bool
in_order_of a b = elim a [ None ↦ false | Some p ↦ elim b [ None ↦ false | Some q ↦ precedes p q ] ]

-- what comes before another, comes before all behind that one
before-more : (a b c : Entry) → comes_before a b ≡ true → comes_before b c ≡ true → comes_before a c ≡ true
before-more a b c h k = go (seat_place (seat_of a)) (seat_place (seat_of b)) (seat_place (seat_of c)) h k
  where
    go : (x y z : Option (List ℕ)) → in_order_of x y ≡ true → in_order_of y z ≡ true → in_order_of x z ≡ true
    go None y z h k = absurd (false≢true h)
    go (Some p) None z h k = absurd (false≢true h)
    go (Some p) (Some q) None h k = absurd (false≢true k)
    go (Some p) (Some q) (Some r) h k = not_less p q r (not_both_ways p q h) k

abbrev Differs : Entry → Entry → Type 0
Differs a b = a ≡ b → ⊥

-- of two entries of an invoice one comes before the other
one-before : (es : List Entry) → is_listed es ≡ true → (a b : Entry) → Among a es → Among b es → comes_before a b ≡ false → Differs a b →
    comes_before b a ≡ true
one-before [] h a b x y behind differ = absurd x
one-before (e ∷ es) h a b x y behind differ = go (λ k m n. one-before es k a b m n behind differ) x y
  where
    parts : (list_all (comes_before e) es ≡ true) × (is_listed es ≡ true)
    parts = both-true (list_all (comes_before e) es) (is_listed es) h

    all-before : (q : Entry) (xs : List Entry) → list_all (comes_before e) xs ≡ true → Among q xs → comes_before e q ≡ true
    all-before q [] k m = absurd m
    all-before q (w ∷ xs) k (inl s) = ap (comes_before e) (sym s) ∙ (both-true (comes_before e w) (list_all (comes_before e) xs) k).0
    all-before q (w ∷ xs) k (inr m) = all-before q xs (both-true (comes_before e w) (list_all (comes_before e) xs) k).1 m

    go : (is_listed es ≡ true → Among a es → Among b es → comes_before b a ≡ true) → (e ≡ a) ⊎ Among a es → (e ≡ b) ⊎ Among b es → comes_before b a ≡ true
    go later (inl s) (inl t) = absurd (differ (sym s ∙ t))
    go later (inl s) (inr t) = absurd (false≢true (sym behind ∙ (ap (λ w. comes_before w b) (sym s) ∙ all-before b es parts.0 t)))
    go later (inr s) (inl t) = ap (λ w. comes_before w a) (sym t) ∙ all-before a es parts.0 s
    go later (inr s) (inr t) = later parts.1 s t

-- ---- entries of an invoice, put in order

module _ (es : List Entry) (rises : is_listed es ≡ true) where
  put-members : (e x : Entry) (xs : List Entry) → Among x (put e xs) → (e ≡ x) ⊎ Among x xs
  put-members e x [] h = h
  put-members e x (o ∷ xs) h = go (comes_before e o) (put-members e x xs) h
    where
      go : (b : Bool) → (Among x (put e xs) → (e ≡ x) ⊎ Among x xs) → Among x (elim b [ true ↦ e ∷ (o ∷ xs) | false ↦ o ∷ put e xs ]) →
          (e ≡ x) ⊎ ((o ≡ x) ⊎ Among x xs)
      go true later k = k
      go false later (inl s) = inr (inl s)
      go false later (inr m) = elim (later m) [ inl s ↦ inl s | inr n ↦ inr (inr n) ]

  members-put : (e x : Entry) (xs : List Entry) → (e ≡ x) ⊎ Among x xs → Among x (put e xs)
  members-put e x [] h = h
  members-put e x (o ∷ xs) h = go (comes_before e o) (members-put e x xs) h
    where
      go : (b : Bool) → ((e ≡ x) ⊎ Among x xs → Among x (put e xs)) → (e ≡ x) ⊎ ((o ≡ x) ⊎ Among x xs) →
          Among x (elim b [ true ↦ e ∷ (o ∷ xs) | false ↦ o ∷ put e xs ])
      go true later k = k
      go false later (inl s) = inr (later (inl s))
      go false later (inr (inl s)) = inl s
      go false later (inr (inr m)) = inr (later (inr m))

  all-of : (q : Entry → Bool) (xs : List Entry) → ((x : Entry) → Among x xs → q x ≡ true) → list_all q xs ≡ true
  all-of q [] f = refl
  all-of q (x ∷ xs) f = rw (f x (inl refl)) (all-of q xs (λ y a. f y (inr a)))

  of-all : (q : Entry → Bool) (xs : List Entry) (x : Entry) → list_all q xs ≡ true → Among x xs → q x ≡ true
  of-all q [] x h a = absurd a
  of-all q (y ∷ xs) x h (inl s) = ap q (sym s) ∙ (both-true (q y) (list_all q xs) h).0
  of-all q (y ∷ xs) x h (inr a) = of-all q xs x (both-true (q y) (list_all q xs) h).1 a

  pair : {a b : Bool} → a ≡ true → b ≡ true → (a && b) ≡ true
  pair e f = rw (e, f) refl

  put-listed : (e : Entry) (xs : List Entry) → Among e es → ((x : Entry) → Among x xs → Among x es) → is_listed xs ≡ true → Each (Differs e) xs →
      is_listed (put e xs) ≡ true
  put-listed e [] a f h d = refl
  put-listed e (o ∷ xs) a f h d = go (λ k. put-listed e xs a (λ x m. f x (inr m)) k d.1) (comes_before e o) refl
      (both-true (list_all (comes_before o) xs) (is_listed xs) h)
    where
      go : (is_listed xs ≡ true → is_listed (put e xs) ≡ true) → (b : Bool) → comes_before e o ≡ b → (list_all (comes_before o) xs ≡ true) ×
          (is_listed xs ≡ true) → is_listed (elim b [ true ↦ e ∷ (o ∷ xs) | false ↦ o ∷ put e xs ]) ≡ true
      go later true k w = pair (pair k (all-of (comes_before e) xs (λ x m. before-more e o x k (of-all (comes_before o) xs x w.0 m)))) (pair w.0 w.1)
      go later false k w =
          pair
          (all-of (comes_before o) (put e xs) (λ x m. elim (put-members e x xs m) [
            | inl s ↦ ap (comes_before o) (sym s) ∙ one-before es rises e o a (f o (inl refl)) k d.0
            | inr n ↦ of-all (comes_before o) xs x w.0 n
          ]))
          (later w.1)

  record IsSorted (xs : List Entry) : Type 0 where
    in_order : is_listed (listed xs) ≡ true
    down : (x : Entry) → Among x (listed xs) → Among x xs
    up : (x : Entry) → Among x xs → Among x (listed xs)

  sorted : (xs : List Entry) → ((x : Entry) → Among x xs → Among x es) → Rising Differs xs → IsSorted xs
  sorted [] f d = record { in_order = refl; down = λ x a. a; up = λ x a. a }
  sorted (e ∷ xs) f d =
      let w = sorted xs (λ x a. f x (inr a)) d.1 in
      record {
        in_order = put-listed e (listed xs) (f e (inl refl)) (λ x a. f x (inr (w.down x a))) w.in_order
            (each-of (listed xs) (λ x a. each-among (Differs e) x xs d.0 (w.down x a)));
        down = λ x a. elim (put-members e x (listed xs) a) [ inl s ↦ inl s | inr m ↦ inr (w.down x m) ];
        up = λ x a. members-put e x (listed xs) (elim a [ inl s ↦ inl s | inr m ↦ inr (w.up x m) ]);
      }
    where
      each-of : (ys : List Entry) → ((x : Entry) → Among x ys → Differs e x) → Each (Differs e) ys
      each-of [] g = tt
      each-of (y ∷ ys) g = (g y (inl refl), each-of ys (λ x a. g x (inr a)))

  -- ---- the first that is told of each

  same-slot-itself : (o : Option Slot) → same_slot o o ≡ true
  same-slot-itself None = refl
  same-slot-itself (Some s) = pair (same_group_itself s.group) (let z : (s.index == s.index) ≡ true = grind (arith, nat_tests) in z)

  same-context-itself : (c : Context) → same_context c c ≡ true
  same-context-itself c = pair (same-slot-itself c.outer) (same-slot-itself c.inner)

  same-term-itself : (t : Term) → same_term t t ≡ true
  same-term-itself t = grind (arith, nat_tests)

  seat-of-itself : (t : Told) → is_of_seat t t ≡ true
  seat-of-itself t = ap (λ b. elim b [ true ↦ same_context (context_of t.placed) (context_of t.placed) | false ↦ false ]) (same-term-itself t.parsed.term) ∙
      same-context-itself (context_of t.placed)

  pub record OneSeat (a b : Told) : Type 0 where
    pub term : a.parsed.term ≡ b.parsed.term
    pub context : context_of a.placed ≡ context_of b.placed

  pub one-seat : (a b : Told) → is_of_seat a b ≡ true → OneSeat a b
  one-seat a b h = go (same_term a.parsed.term b.parsed.term) refl h
    where
      go : (x : Bool) → same_term a.parsed.term b.parsed.term ≡ x →
          (elim x [ true ↦ same_context (context_of a.placed) (context_of b.placed) | false ↦ false ]) ≡ true → OneSeat a b
      go true e k =
          let w = both-true (same_slot (context_of a.placed).outer (context_of b.placed).outer)
          (same_slot (context_of a.placed).inner (context_of b.placed).inner) k in
          record {
            term = same_term_is a.parsed.term b.parsed.term e;
            context = λ i. record {
              outer = (same_slot_is (context_of a.placed).outer (context_of b.placed).outer w.0) i;
              inner = (same_slot_is (context_of a.placed).inner (context_of b.placed).inner w.1) i;
            };
          }
      go false e k = absurd (false≢true k)

  pub first-among : (before : List Told) (t u : Told) → first_before before t ≡ Some u → Among u before × (is_of_seat u t ≡ true)
  first-among [] t u h = absurd (let z : ◌≡◌ {A = Option Told} None (Some u) = h in cc)
  first-among (a ∷ before) t u h = go (first-among before t u) (is_of_seat a t) refl h
    where
      go : (first_before before t ≡ Some u → Among u before × (is_of_seat u t ≡ true)) → (b : Bool) → is_of_seat a t ≡ b →
          (elim b [ true ↦ Some a | false ↦ first_before before t ]) ≡ Some u → ((a ≡ u) ⊎ Among u before) × (is_of_seat u t ≡ true)
      go later true e k = let s : a ≡ u = (let z : ◌≡◌ {A = Option Told} (Some a) (Some u) = k in cc) in (inl s, ap (λ x. is_of_seat x t) (sym s) ∙ e)
      go later false e k = let w = later k in (inr w.0, w.1)

  none-more : (before : List Told) (x t : Told) → first_before (before ++ (x ∷ [])) t ≡ None → (first_before before t ≡ None) × (is_of_seat x t ≡ false)
  none-more [] x t h = go (is_of_seat x t) refl h
    where
      go : (b : Bool) → is_of_seat x t ≡ b → ◌≡◌ {A = Option Told} (elim b [ true ↦ Some x | false ↦ None ]) None → (◌≡◌ {A = Option Told} None None) ×
          (is_of_seat x t ≡ false)
      go true e k = absurd (let z : ◌≡◌ {A = Option Told} (Some x) None = k in cc)
      go false e k = (refl, e)
  none-more (a ∷ before) x t h = go (none-more before x t) (is_of_seat a t) h
    where
      go : (first_before (before ++ (x ∷ [])) t ≡ None → (first_before before t ≡ None) × (is_of_seat x t ≡ false)) → (b : Bool) →
          ◌≡◌ {A = Option Told} (elim b [ true ↦ Some a | false ↦ first_before (before ++ (x ∷ [])) t ]) None →
          (◌≡◌ {A = Option Told} (elim b [ true ↦ Some a | false ↦ first_before before t ]) None) × (is_of_seat x t ≡ false)
      go later true k = absurd (let z : ◌≡◌ {A = Option Told} (Some a) None = k in cc)
      go later false k = later k

  abbrev Apart : Told → Told → Type 0
  Apart a b = is_of_seat a b ≡ false

  abbrev Fresh : List Told → Told → Type 0
  Fresh before t = first_before before t ≡ None

  record AreFirsts (before ts firsts : List Told) : Type 0 where
    sub : (t : Told) → Among t firsts → Among t ts
    fresh : Each (Fresh before) firsts
    apart : Rising Apart firsts
    covers : (t : Told) → Among t ts → (u : Told) × ((Among u before ⊎ Among u firsts) × (is_of_seat u t ≡ true))

  firsts : (before ts : List Told) → AreFirsts before ts (firsts_behind before ts)
  firsts before [] = record { sub = λ t a. a; fresh = tt; apart = tt; covers = λ t a. absurd a }
  firsts before (x ∷ ts) = go (firsts (before ++ (x ∷ [])) ts) (firsts before ts) (first_before before x) refl
    where
      go : AreFirsts (before ++ (x ∷ [])) ts (firsts_behind (before ++ (x ∷ [])) ts) → AreFirsts before ts (firsts_behind before ts) → (o : Option Told) →
          first_before before x ≡ o → AreFirsts before (x ∷ ts)
          (elim o [ None ↦ x ∷ firsts_behind (before ++ (x ∷ [])) ts | Some first ↦ firsts_behind before ts ])
      go w v None e =
          record {
            sub = λ t a. elim a [ inl s ↦ inl s | inr m ↦ inr (w.sub t m) ];
            fresh = (
              e,
              each-weaker (Fresh (before ++ (x ∷ []))) (Fresh before) (firsts_behind (before ++ (x ∷ [])) ts)
                  (λ t k. (none-more before x t k).0) w.fresh,
            );
            apart = (
              each-weaker (Fresh (before ++ (x ∷ []))) (Apart x) (firsts_behind (before ++ (x ∷ [])) ts) (λ t k. (none-more before x t k).1) w.fresh,
              w.apart,
            );
            covers = λ t a. elim a [
              | inl s ↦ (x, (inr (inl refl), subst (λ y. is_of_seat x y ≡ true) s (seat-of-itself x)))
              | inr m ↦ let y = w.covers t m in (
                y.0,
                (
                  elim y.1.0 [
                    | inl b ↦ elim (among-split y.0 before (x ∷ []) b) [ inl c ↦ inl c | inr c ↦ inr (elim c [ inl s ↦ inl s | inr z ↦ absurd z ]) ]
                    | inr c ↦ inr (inr c)
                  ],
                  y.1.1,
                ),
              )
            ];
          }
      go w v (Some first) e =
          let k = first-among before x first e in
          record {
            sub = λ t a. inr (v.sub t a);
            fresh = v.fresh;
            apart = v.apart;
            covers = λ t a. elim a [ inl s ↦ (first, (inl k.0, subst (λ y. is_of_seat first y ≡ true) s k.1)) | inr m ↦ v.covers t m ];
          }

  -- ---- the law

  -- It says the entry, in its context.
  pub record Tells (t : Told) (e : Entry) : Type 0 where
    pub parsed : t.parsed ≡ record { term = e.term; value = Some e.value }
    pub context : context_of t.placed ≡ e.context

  entry-of : (t : Told) (e : Entry) → Tells t e → entry_of t ≡ e ∷ []
  entry-of t e h =
      ap (λ (s : ParsedValue). elim s.value [ None ↦ [] | Some value ↦ record { context = context_of t.placed; term = s.term; value = value } ∷ [] ]) h.parsed
      ∙ ap (λ c. record { context = c; term = e.term; value = e.value } ∷ []) h.context

  -- two entries of one seat are one
  pub same-seat : (a b : Entry) → Among a es → Among b es → a.term ≡ b.term → a.context ≡ b.context → a ≡ b
  same-seat a b x y t c = go es rises x y
    where
      itself : (e f : Entry) → seat_of e ≡ seat_of f → comes_before e f ≡ true → ⊥
      itself e f s h = before (seat_place (seat_of f)) (ap (λ z. in_order_of (seat_place z) (seat_place (seat_of f))) (sym s) ∙ h)
        where
          before : (o : Option (List ℕ)) → in_order_of o o ≡ true → ⊥
          before None k = false≢true k
          before (Some p) k = false≢true (sym (not_both_ways p p k) ∙ k)

      seats : seat_of a ≡ seat_of b
      seats = λ i. record { term = t i; context = c i }

      go : (xs : List Entry) → is_listed xs ≡ true → Among a xs → Among b xs → a ≡ b
      go [] h m n = absurd m
      go (e ∷ xs) h (inl s) (inl u) = sym s ∙ u
      go (e ∷ xs) h (inl s) (inr n) =
          absurd (itself e b (ap seat_of s ∙ seats) (of-all (comes_before e) xs b (both-true (list_all (comes_before e) xs) (is_listed xs) h).0 n))
      go (e ∷ xs) h (inr m) (inl u) =
          absurd (itself e a (ap seat_of u ∙ sym seats) (of-all (comes_before e) xs a (both-true (list_all (comes_before e) xs) (is_listed xs) h).0 m))
      go (e ∷ xs) h (inr m) (inr n) = go xs (both-true (list_all (comes_before e) xs) (is_listed xs) h).1 m n

  abbrev Known : Told → Type 0
  Known t = (e : Entry) × (Among e es × Tells t e)

  differing : (ts : List Told) → ((t : Told) → Among t ts → Known t) → Rising Apart ts → Rising Differs (flat_map entry_of ts)
  differing [] f h = tt
  differing (t ∷ ts) f h =
      let w = f t (inl refl) in
      subst (λ l. Rising Differs (l ++ flat_map entry_of ts)) (sym (entry-of t w.0 w.1.1)) (
        others w.0 w.1.1 ts (λ u a. f u (inr a)) h.0,
        differing ts (λ u a. f u (inr a)) h.1,
      )
    where
      seat-again : (e : Entry) → Tells t e → (u : Told) → Tells u e → is_of_seat t u ≡ true
      seat-again e k u l =
          ap (λ (s : ParsedValue). elim (same_term s.term u.parsed.term) [ true ↦ same_context (context_of t.placed) (context_of u.placed) | false ↦ false ])
          k.parsed
          ∙ (ap (λ (s : ParsedValue). elim (same_term e.term s.term) [ true ↦ same_context (context_of t.placed) (context_of u.placed) | false ↦ false ])
          l.parsed
          ∙ (ap (λ b. elim b [ true ↦ same_context (context_of t.placed) (context_of u.placed) | false ↦ false ]) (same-term-itself e.term)
          ∙ ((λ i. same_context (k.context i) (l.context i)) ∙ same-context-itself e.context)))

      others : (e : Entry) → Tells t e → (us : List Told) → ((u : Told) → Among u us → Known u) → Each (Apart t) us → Each (Differs e) (flat_map entry_of us)
      others e k [] g a = tt
      others e k (u ∷ us) g a =
          let w = g u (inl refl) in
          subst (λ l. Each (Differs e) (l ++ flat_map entry_of us)) (sym (entry-of u w.0 w.1.1))
          ((λ same. false≢true (sym a.0 ∙ seat-again e k u (subst (Tells u) (sym same) w.1.1))), others e k us (λ v b. g v (inr b)) a.1)

  pub entries-are : (ts : List Told) → ((t : Told) → Among t ts → (e : Entry) × (Among e es × Tells t e)) →
      ((e : Entry) → Among e es → (t : Told) × (Among t ts × Tells t e)) → entries ts ≡ es
  entries-are ts f g =
      let w = firsts [] ts in
      let firsts_told : List Told = firsts_behind [] ts in
      let them : List Entry = flat_map entry_of firsts_told in
      let down : (x : Entry) → Among x them → Among x es = λ x a.
      let v = of-flat_map entry_of x firsts_told a in
      let k = f v.0 (w.sub v.0 v.1.0) in
      elim (subst (Among x) (entry-of v.0 k.0 k.1.1) v.1.1) [ inl s ↦ subst (λ y. Among y es) s k.1.0 | inr z ↦ absurd z ] in
      let up : (x : Entry) → Among x es → Among x them = λ x a.
      let v = g x a in
      let c = w.covers v.0 v.1.0 in
      let u : Told = c.0 in
      let there : Among u firsts_told = elim c.1.0 [ inl z ↦ absurd z | inr m ↦ m ] in
      let k = f u (w.sub u there) in
      let s = one-seat u v.0 c.1.1 in
      let same : k.0 ≡ x =
      same-seat k.0 x k.1.0 a (sym (ap (λ (y : ParsedValue). y.term) k.1.1.parsed) ∙ (s.term ∙ ap (λ (y : ParsedValue). y.term) v.1.1.parsed))
      (sym k.1.1.context ∙ (s.context ∙ v.1.1.context)) in
      among-flat_map entry_of u x firsts_told there (subst (Among x) (sym (entry-of u k.0 k.1.1)) (inl same)) in
      let d = sorted them down (differing firsts_told (λ t a. f t (w.sub t a)) w.apart) in
      same_members (listed them) es d.in_order rises (λ x. (
        λ h. among-contains x es (down x (d.down x (contains-among x (listed them) h))),
        λ h. among-contains x (listed them) (d.up x (up x (contains-among x es h))),
      ))
