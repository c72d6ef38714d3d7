-- The rooms of a document, each once.
use Rattle.std.proofs.Common.{◌≡◌, ℕ, Bool, true, false, not, ◌||◌, List, [], ◌∷◌, ◌++◌, filter, flat_map, find, Option, Some, None, inl, inr, refl, sym, ap}
use Rattle.std.proofs.Common.{◌∙◌, subst, append_assoc}
use Rattle.std.specs.Prelude.{if◌then◌else◌, ◌==◌}
use Rattle.std.specs.List.{list_any}
use Rattle.std.specs.Ordering.{nat_cmp, is_eq}
use Rattle.std.specs.Cmp.Lexicographic.{slice_cmp}
use Rattle.std.proofs.lemmas.Bool.{false≢true}
use Rattle.std.proofs.lemmas.Option.{same_Some}
use Rattle.std.proofs.lemmas.List.Folds.{list_any-append}
use Rattle.inv_base.specs.Tree.{Node}
use Rattle.term_table.specs.declared.groups.Group.{Group}
use Rattle.term_table.specs.declared.groups.Group.TheVariants as groups
use Rattle.term_table.specs.declared.contexts.Slot.{Slot}
use Rattle.term_table.specs.declared.contexts.Context.{Context}
use Rattle.term_table.specs.declared.contexts.Seat.{Seat}
use Rattle.term_table.specs.SemanticModel.{terms}
use Rattle.term_table.specs.Contexts.{same_context, outer_context}
use Rattle.term_table.specs.Places.{first_row, slot_place}
use Rattle.inv_terms.proofs.PushLemmas.{same_slot_itself}
use Rattle.inv_terms.proofs.ContextLemmas.{context_is}
use Rattle.bind_meaning.specs.declared.picked.Seated.{Seated}
use Rattle.bind_meaning.specs.Kept.{all_kept_placed}
use Rattle.bind_meaning.specs.Seats.{Placed, Room, context_of, outer_room, inner_room, each_once, rooms}
use Rattle.bind_meaning.specs.Judging.{Found}
use Rattle.bind_meaning.specs.Faults.{violations_in}
use Rattle.bind_terms.specs.Rooms.{room_at, room_key, rooms_at, pick_rooms, has_key, AreKeysOf, once_if, unseen, SeesMore, Seen}
use Rattle.bind_terms.proofs.Tolds.{bool_cases, append-nil, puts-both, puts-none, puts-same}
use Rattle.bind_terms.proofs.Holding.{place-is, place-itself}

-- ---- the key of a context tells it

all_groups : List Group
all_groups =
    groups.Root ∷ groups.InvoiceNote ∷ groups.ProcessControl ∷ groups.PrecedingInvoice ∷ groups.Seller ∷ groups.SellerAddress ∷ groups.SellerContact
    ∷ groups.Buyer ∷ groups.BuyerAddress ∷ groups.BuyerContact ∷ groups.Payee ∷ groups.TaxRepresentative ∷ groups.TaxRepresentativeAddress
    ∷ groups.Delivery ∷ groups.InvoicingPeriod ∷ groups.DeliveryAddress ∷ groups.PaymentInstructions ∷ groups.CreditTransfer ∷ groups.PaymentCard
    ∷ groups.DirectDebit ∷ groups.DocumentAllowance ∷ groups.DocumentCharge ∷ groups.DocumentTotals ∷ groups.VatBreakdown ∷ groups.SupportingDocument
    ∷ groups.InvoiceLine ∷ groups.LinePeriod ∷ groups.LineAllowance ∷ groups.LineCharge ∷ groups.PriceDetails ∷ groups.LineVat
    ∷ groups.ItemInformation ∷ groups.ItemAttribute ∷ groups.SellerIdentifier ∷ groups.SellerSchemedIdentifier ∷ groups.ItemClassification ∷ []

starting : ℕ → Option Group
starting n = find (λ g. first_row g == n) all_groups

starting-first : (g : Group) → starting (first_row g) ≡ Some g
unfolding starting all_groups first_row terms
starting-first groups.Root = refl
starting-first groups.InvoiceNote = refl
starting-first groups.ProcessControl = refl
starting-first groups.PrecedingInvoice = refl
starting-first groups.Seller = refl
starting-first groups.SellerAddress = refl
starting-first groups.SellerContact = refl
starting-first groups.Buyer = refl
starting-first groups.BuyerAddress = refl
starting-first groups.BuyerContact = refl
starting-first groups.Payee = refl
starting-first groups.TaxRepresentative = refl
starting-first groups.TaxRepresentativeAddress = refl
starting-first groups.Delivery = refl
starting-first groups.InvoicingPeriod = refl
starting-first groups.DeliveryAddress = refl
starting-first groups.PaymentInstructions = refl
starting-first groups.CreditTransfer = refl
starting-first groups.PaymentCard = refl
starting-first groups.DirectDebit = refl
starting-first groups.DocumentAllowance = refl
starting-first groups.DocumentCharge = refl
starting-first groups.DocumentTotals = refl
starting-first groups.VatBreakdown = refl
starting-first groups.SupportingDocument = refl
starting-first groups.InvoiceLine = refl
starting-first groups.LinePeriod = refl
starting-first groups.LineAllowance = refl
starting-first groups.LineCharge = refl
starting-first groups.PriceDetails = refl
starting-first groups.LineVat = refl
starting-first groups.ItemInformation = refl
starting-first groups.ItemAttribute = refl
starting-first groups.SellerIdentifier = refl
starting-first groups.SellerSchemedIdentifier = refl
starting-first groups.ItemClassification = refl

starting-none : starting 181 ≡ None
unfolding starting all_groups first_row terms
starting-none = refl

slot-told : (a b : Option Slot) → slot_place 181 a ≡ slot_place 181 b → a ≡ b
slot-told None None e = refl
slot-told None (Some t) e =
    let first : 181 ≡ first_row t.group = cc in
    absurd (let k : ◌≡◌ {A = Option Group} None (Some t.group) = sym starting-none ∙ (ap starting first ∙ starting-first t.group) in cc)
slot-told (Some s) None e =
    let first : first_row s.group ≡ 181 = cc in
    absurd (let k : ◌≡◌ {A = Option Group} (Some s.group) None = sym (starting-first s.group) ∙ (ap starting first ∙ starting-none) in cc)
slot-told (Some s) (Some t) e =
    let first : first_row s.group ≡ first_row t.group = cc in
    let index : s.index ≡ t.index = cc in
    let group : s.group ≡ t.group = same_Some _ _ (sym (starting-first s.group) ∙ (ap starting first ∙ starting-first t.group)) in
    λ i. Some (record { group = group i; index = index i })

front : List ℕ → List ℕ
front [] = []
front (a ∷ []) = []
front (a ∷ (b ∷ l)) = a ∷ (b ∷ [])

back : List ℕ → List ℕ
back [] = []
back (a ∷ []) = []
back (a ∷ (b ∷ [])) = []
back (a ∷ (b ∷ (c ∷ []))) = []
back (a ∷ (b ∷ (c ∷ (d ∷ l)))) = c ∷ (d ∷ [])

front-is : (c : Context) → front (room_key c) ≡ slot_place 181 c.outer
unfolding front
front-is c = go c.outer
  where
    go : (o : Option Slot) → front (slot_place 181 o ++ (slot_place 181 c.inner ++ 181 ∷ [])) ≡ slot_place 181 o
    go None = refl
    go (Some s) = refl

back-is : (c : Context) → back (room_key c) ≡ slot_place 181 c.inner
unfolding back
back-is c = go c.outer c.inner
  where
    go : (o i : Option Slot) → back (slot_place 181 o ++ (slot_place 181 i ++ 181 ∷ [])) ≡ slot_place 181 i
    go None None = refl
    go None (Some t) = refl
    go (Some s) None = refl
    go (Some s) (Some t) = refl

key-told : (a b : Context) → room_key a ≡ room_key b → a ≡ b
key-told a b e =
    let outer = slot-told a.outer b.outer (sym (front-is a) ∙ (ap front e ∙ front-is b)) in
    let inner = slot-told a.inner b.inner (sym (back-is a) ∙ (ap back e ∙ back-is b)) in
    λ i. record { outer = outer i; inner = inner i }

pub context-itself : (a : Context) → same_context a a ≡ true
context-itself a = rw (same_slot_itself a.outer, same_slot_itself a.inner) refl

key-same : (a b : Context) → is_eq (slice_cmp nat_cmp (room_key a) (room_key b)) ≡ same_context b a
key-same a b = elim (bool_cases (is_eq (slice_cmp nat_cmp (room_key a) (room_key b)))) [
  | inl same ↦ same ∙ sym (ap (λ c. same_context c a) (sym (key-told a b (place-is (room_key a) (room_key b) same))) ∙ context-itself a)
  | inr apart ↦ elim (bool_cases (same_context b a)) [
    | inl one ↦ absurd (false≢true (sym apart
        ∙ (ap (λ c. is_eq (slice_cmp nat_cmp (room_key a) (room_key c))) (context_is b a one) ∙ place-itself (room_key a))))
    | inr two ↦ apart ∙ sym two
  ]
]

-- ---- each room once, with one more

known : Room → List Room → Bool
known room before = list_any (λ (r : Room). same_context r.context room.context) before

apart_from : Room → Room → Bool
apart_from a b = not (same_context a.context b.context)

filter-append : (q : Room → Bool) (xs ys : List Room) → filter q (xs ++ ys) ≡ filter q xs ++ filter q ys
filter-append q [] ys = refl
filter-append q (x ∷ xs) ys = go (q x) (filter-append q xs ys)
  where
    go : (b : Bool) → filter q (xs ++ ys) ≡ filter q xs ++ filter q ys
        → (if b then x ∷ filter q (xs ++ ys) else filter q (xs ++ ys)) ≡ (if b then x ∷ filter q xs else filter q xs) ++ filter q ys
    go true h = ap (λ l. x ∷ l) h
    go false h = h

once-step : (same seen : Bool) (room : Room) → (if not same then room ∷ [] else []) ≡ once_if same room
once-step true seen room = refl
once-step false seen room = refl

filtered-once : (q : Room → Bool) (seen same : Bool) (room : Room) → q room ≡ not same → filter q (once_if seen room) ≡ once_if (same || seen) room
filtered-once q true true room e = refl
filtered-once q true false room e = refl
filtered-once q false true room e = rw e refl
filtered-once q false false room e = rw e refl

pub once-more : (before : List Room) (room : Room)
    → each_once (before ++ room ∷ []) ≡ each_once before ++ once_if (list_any (λ (r : Room). same_context r.context room.context) before) room
once-more [] room = refl
once-more (x ∷ before) room =
    ap (λ l. x ∷ filter (λ (other : Room). not (same_context x.context other.context)) l) (once-more before room)
    ∙ ap (λ l. x ∷ l) (filter-append (λ (other : Room). not (same_context x.context other.context)) (each_once before)
    (once_if (list_any (λ (r : Room). same_context r.context room.context) before) room)
    ∙ ap (λ l. filter (λ (other : Room). not (same_context x.context other.context)) (each_once before) ++ l)
    (filtered-once (λ (other : Room). not (same_context x.context other.context)) (list_any (λ (r : Room). same_context r.context room.context) before)
    (same_context x.context room.context) room refl))

flat_map-append : (f : Room → List Found) (xs ys : List Room) → flat_map f (xs ++ ys) ≡ flat_map f xs ++ flat_map f ys
flat_map-append f [] ys = refl
flat_map-append f (x ∷ xs) ys = ap (λ l. f x ++ l) (flat_map-append f xs ys) ∙ sym (append_assoc (f x) (flat_map f xs) (flat_map f ys))

or-end : (b : Bool) → (b || false) ≡ b
or-end true = refl
or-end false = refl

or-swap : (a b : Bool) → (a || b) ≡ (b || a)
or-swap true true = refl
or-swap true false = refl
or-swap false true = refl
or-swap false false = refl

pub keys-more : (before : List Room) (keys more : List (List ℕ)) (room : Room) → AreKeysOf before keys
    → ((q : List ℕ) → has_key more q ≡ (is_eq (slice_cmp nat_cmp q (room_key room.context)) || has_key keys q)) → AreKeysOf (before ++ room ∷ []) more
keys-more before keys more room known keys_are context =
    keys_are (room_key context)
    ∙ (ap (λ x. x || has_key keys (room_key context)) (key-same context room.context)
    ∙ (ap (λ x. same_context room.context context || x) (known context)
    ∙ (or-swap (same_context room.context context) (list_any (λ (r : Room). same_context r.context context) before)
    ∙ sym (list_any-append (λ (r : Room). same_context r.context context) before (room ∷ [])
    ∙ ap (λ x. list_any (λ (r : Room). same_context r.context context) before || x) (or-end (same_context room.context context))))))

module _ (nodes : List Node) (seats : List Seat) (first : List Found → Type 0) (before : List Room) (keys more : List (List ℕ))
    (was given : List Found → Type 0)
    (s : Seen nodes seats first before keys was) (context : Context) where
  abbrev violations : List Room → List Found
  violations rooms = flat_map (violations_in nodes seats) rooms

  violations-once : (seat : Option Seated) → violations (each_once before) ++ violations (unseen before context seat)
      ≡ violations (each_once (before ++ rooms_at context seat))
  violations-once None = append-nil (violations (each_once before)) ∙ ap (λ l. violations (each_once l)) (sym (append-nil before))
  violations-once (Some t) =
      sym (flat_map-append (violations_in nodes seats) (each_once before) (unseen before context (Some t)))
      ∙ ap (flat_map (violations_in nodes seats)) (sym (once-more before (room_at context t.element)))

  pub seen-more : (seat : Option Seated) → SeesMore nodes seats before context seat more was given
      → Seen nodes seats first (before ++ rooms_at context seat) more given
  seen-more seat m = record {
    keys_are = m.keys_are;
    puts = puts-same first given _ _ (violations-once seat) (puts-both first was given (violations (each_once before))
        (violations (unseen before context seat)) s.puts m.puts);
  }

pub seen-none : (nodes : List Node) (seats : List Seat) (first : List Found → Type 0) (keys : List (List ℕ)) → keys ≡ [] → Seen nodes seats first [] keys first
seen-none nodes seats first keys e = subst (λ k. Seen nodes seats first [] k first) (sym e) (record { keys_are = λ context. refl; puts = puts-none first })

-- ---- the rooms of the picks

outer-is : (p : Placed) → outer_room p ≡ rooms_at (outer_context (context_of p)) p.outer
outer-is p = refl

pub all-rooms : (ps : List Placed) → flat_map (λ p. outer_room p ++ inner_room p) ps ≡ flat_map pick_rooms (all_kept_placed ps)
all-rooms [] = refl
all-rooms (p ∷ ps) = ap (λ l. (outer_room p ++ inner_room p) ++ l) (all-rooms ps)
