-- An invoice has an entry once, and its number is among those of its group.
use Rattle.std.proofs.Common.{◌≡◌, ℕ, suc, ◌≤◌, Bool, true, false, cond, List, [], ◌∷◌, map, length, max, fold, refl, ap, ap₂, sym, ◌∙◌, inl, inr, ◌⊎◌, arith}
use Rattle.std.proofs.Common.{true≢false}
use Rattle.std.specs.Prelude.{Option, Some, None, filter, Contains, if◌then◌else◌}
use Rattle.std.specs.List.{list_all}
use Rattle.std.proofs.lemmas.Bool.{and_parts}
use Rattle.term_table.specs.declared.groups.Group.{Group}
use Rattle.term_table.specs.declared.contexts.Seat.{Seat}
use Rattle.term_table.specs.Contexts.{same_context}
use Rattle.term_table.specs.SemanticModel.{same_term}
use Rattle.term_table.specs.Places.{seat_place, precedes, comes_before}
use Rattle.term_table.proofs.GroupLemmas.{same_group_itself}
use Rattle.term_table.proofs.RunLemmas.{same_ahead}
use Rattle.term_table.proofs.SeatLemmas.{same_term_is}
use Rattle.inv_terms.specs.declared.entries.Entry.{Entry}
use Rattle.inv_terms.specs.Listing.{seat_of, is_listed, index_in}
use Rattle.inv_terms.specs.Listing as listing
use Rattle.inv_terms.proofs.ContextLemmas.{context_is, member_cases, no_member}
use Rattle.page_laws.specs.Visits.{is_seat}
use Rattle.page_laws.proofs.TallyLemmas.{tally}

pub seat-is : (s v : Seat) → is_seat s v ≡ true → v ≡ s
seat-is s v h =
    let parts = and_parts (same_term v.term s.term) (same_context v.context s.context) h in
    let x : Seat = record { term = v.term; context = v.context } in
    let y : Seat = record { term = s.term; context = s.context } in
    let e : x ≡ y = ap₂ (λ t c. record { term = t; context = c }) (same_term_is v.term s.term parts.0) (context_is v.context s.context parts.1) in
    e

-- ---- once

never-ahead : (place : List ℕ) → precedes place place ≡ false
never-ahead [] = refl
never-ahead (n ∷ place) = same_ahead n n place place refl ∙ never-ahead place

not-before : (s : Seat) → comes_before s s ≡ false
not-before s = by (seat_place s)
  where
    Before : Option (List ℕ) → Option (List ℕ) → Bool
    Before a b = elim a [ None ↦ false | Some p ↦ elim b [ None ↦ false | Some q ↦ precedes p q ] ]

    by : (o : Option (List ℕ)) → Before o o ≡ false
    by None = refl
    by (Some place) = never-ahead place

-- the seat of an entry, tallied
abbrev pub is_of : Seat → Entry → Bool
is_of s e = is_seat s (seat_of e)

none-behind : (s : Seat) (x : Entry) (es : List Entry) → seat_of x ≡ s → list_all (listing.comes_before x) es ≡ true → tally (is_of s) es ≡ 0
none-behind s x [] e h = refl
none-behind s x (y ∷ es) e h =
    let parts = and_parts (listing.comes_before x y) (list_all (listing.comes_before x) es) h in
    by (is_of s y) refl parts.0 (none-behind s x es e parts.1)
  where
    by : (b : Bool) → is_of s y ≡ b → listing.comes_before x y ≡ true → tally (is_of s) es ≡ 0
        → length (cond b (y ∷ filter (is_of s) es) (filter (is_of s) es)) ≡ 0
    by true f before rest =
        let same : seat_of y ≡ seat_of x = seat-is s (seat_of y) f ∙ sym e in
        absurd (true≢false (sym before ∙ (ap (comes_before (seat_of x)) same ∙ not-before (seat_of x))))
    by false f before rest = rest

pub once : (es : List Entry) (e : Entry) → is_listed es ≡ true → Contains es e → is_of (seat_of e) e ≡ true → tally (is_of (seat_of e)) es ≡ 1
once [] e h m own = absurd (no_member e m)
once (x ∷ es) e h m own =
    let parts = and_parts (list_all (listing.comes_before x) es) (is_listed es) h in
    by (is_of (seat_of e) x) refl parts.0 (member_cases x e es m) (λ k. once es e parts.1 k own)
  where
    by : (b : Bool) → is_of (seat_of e) x ≡ b → list_all (listing.comes_before x) es ≡ true → (x ≡ e) ⊎ Contains es e
        → (Contains es e → tally (is_of (seat_of e)) es ≡ 1)
        → length (cond b (x ∷ filter (is_of (seat_of e)) es) (filter (is_of (seat_of e)) es)) ≡ 1
    by true f before found rest = ap suc (none-behind (seat_of e) x es (seat-is (seat_of e) (seat_of x) f) before)
    by false f before (inl same) rest = absurd (true≢false (sym own ∙ (ap (is_of (seat_of e)) (sym same) ∙ f)))
    by false f before (inr later) rest = rest later

-- ---- numbers

fold-from : {X : Type 0} (h : X → ℕ) (xs : List X) (a : ℕ) → a ≤ fold max a (map h xs)
fold-from h [] a = omega arith
fold-from h (x ∷ xs) a = let l = fold-from h xs (max a (h x)) in omega (arith, l)

pub fold-member : {X : Type 0} (h : X → ℕ) (xs : List X) (a : ℕ) (x : X) → Contains xs x → h x ≤ fold max a (map h xs)
fold-member h [] a x m = absurd (no_member x m)
fold-member h (y ∷ xs) a x m = elim (member_cases y x xs m) [
  | inl same ↦ (let l = fold-from h xs (max a (h y)) in let e : h y ≡ h x = ap h same in omega (arith, l, e))
  | inr rest ↦ fold-member h xs (max a (h y)) x rest
]

pub index-own : (group : Group) (k : ℕ) → index_in group (Some (record { group = group; index = k })) ≡ k
index-own group k = ap (λ q. if q then k else 0) (same_group_itself group)
