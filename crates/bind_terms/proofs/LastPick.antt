-- The rooms of a pick behind those of the pick before: most are seen already.
use Rattle.std.proofs.Common.{◌≡◌, ℕ, ◌+◌, ◌<◌, true, false, not, ◌&&◌, List, [], ◌∷◌, ◌++◌, length, get_or, take, flat_map, Option, Some, None, refl, sym, ap}
use Rattle.std.proofs.Common.{◌∙◌, subst, append_assoc}
use Rattle.std.proofs.lemmas.List.Folds.{list_any-append}
use Rattle.inv_base.specs.Tree.{Node}
use Rattle.term_table.specs.declared.contexts.Slot.{Slot}
use Rattle.term_table.specs.declared.contexts.Context.{Context}
use Rattle.term_table.specs.declared.contexts.Seat.{Seat}
use Rattle.term_table.specs.Contexts.{same_slot, same_context, outer_context, root_context}
use Rattle.inv_terms.proofs.ContextLemmas.{context_is}
use Rattle.bind_meaning.specs.declared.picked.Seated.{Seated}
use Rattle.bind_meaning.specs.declared.picked.PlacedPick.{PlacedPick}
use Rattle.bind_meaning.specs.Seats.{Room, slot_of}
use Rattle.bind_meaning.specs.Judging.{Found}
use Rattle.reading_laws.proofs.ListLemmas.{both, or-left, or-right}
use Rattle.bind_terms.specs.Telling.{context_in}
use Rattle.bind_terms.specs.Rooms.{room_at, room_key, has_room, rooms_at, pick_rooms, has_key, AreKeysOf, SeesMore, Seen, WereSeen, behind_rooms, SeesPick}
use Rattle.bind_terms.proofs.Once.{seen-none, seen-more, context-itself}
use Rattle.bind_terms.proofs.Rooms.{room-old, room-none, rooms-more}

-- ---- what is among rooms

among-front : (before more : List Room) (context : Context) → has_room before context ≡ true → has_room (before ++ more) context ≡ true
among-front before more context h =
    list_any-append (λ (room : Room). same_context room.context context) before more ∙ or-left (has_room before context) (has_room more context) h

among-back : (before more : List Room) (context : Context) → has_room more context ≡ true → has_room (before ++ more) context ≡ true
among-back before more context h =
    list_any-append (λ (room : Room). same_context room.context context) before more ∙ or-right (has_room before context) (has_room more context) h

among-itself : (context : Context) (element : ℕ) → has_room (room_at context element ∷ []) context ≡ true
among-itself context element = or-left (same_context context context) false (context-itself context)

-- ---- the rooms of the pick's context are among its rooms

seat-there : (seat : Option Seated) (slot : Slot) → slot_of seat ≡ Some slot → (s : Seated) × (seat ≡ Some s)
seat-there None slot h = absurd (let k : ◌≡◌ {A = Option Slot} None (Some slot) = h in cc)
seat-there (Some s) slot h = (s, refl)

among-its : (context : Context) (seat : Option Seated) (slot : Slot) → slot_of seat ≡ Some slot → has_room (rooms_at context seat) context ≡ true
among-its context seat slot h =
    let w = seat-there seat slot h in
    ap (λ o. has_room (rooms_at context o) context) w.1 ∙ among-itself context w.0.element

pub pick-seen : (before : List Room) (pick : PlacedPick) → WereSeen (before ++ pick_rooms pick) (context_in pick)
pick-seen before pick = record {
  outer = λ slot e. among-back before (pick_rooms pick) (outer_context (context_in pick))
      (among-front (rooms_at (outer_context (context_in pick)) pick.outer) (rooms_at (context_in pick) pick.inner) (outer_context (context_in pick))
      (among-its (outer_context (context_in pick)) pick.outer slot e));
  inner = λ slot e. among-back before (pick_rooms pick) (context_in pick)
      (among-back (rooms_at (outer_context (context_in pick)) pick.outer) (rooms_at (context_in pick) pick.inner) (context_in pick)
      (among-its (context_in pick) pick.inner slot e));
}

pub none-seen : (before : List Room) → WereSeen before root_context
none-seen before = record {
  outer = λ slot e. absurd (let k : ◌≡◌ {A = Option Slot} None (Some slot) = e in cc);
  inner = λ slot e. absurd (let k : ◌≡◌ {A = Option Slot} None (Some slot) = e in cc);
}

-- ---- a room that is among those before

module _ (nodes : List Node) (seats : List Seat) (first : List Found → Type 0) (before : List Room) (keys : List (List ℕ)) (given : List Found → Type 0)
    (s : Seen nodes seats first before keys given) (context : Context) (seat : Option Seated) where
  seen-again : ((t : Seated) → seat ≡ Some t → has_room before context ≡ true) → Seen nodes seats first (before ++ rooms_at context seat) keys given
  seen-again among = by seat refl
    where
      by : (o : Option Seated) → seat ≡ o → Seen nodes seats first (before ++ rooms_at context seat) keys given
      by None e = seen-more nodes seats first before keys keys given given s context seat (room-none nodes seats context seat keys given e before s.keys_are)
      by (Some t) e =
          let there : false ≡ not (has_key keys (room_key context)) = sym (ap not (s.keys_are context ∙ among t e)) in
          seen-more nodes seats first before keys keys given given s context seat
          (room-old nodes seats context seat t e keys keys false there given refl refl before s.keys_are)

-- ---- the contexts of the pick, beside the last ones

outer-is : (a b : Context) → same_slot a.outer b.outer ≡ true → outer_context a ≡ outer_context b
outer-is a b h = context_is (outer_context a) (outer_context b) (ap (λ x. x && true) h)

module _ (nodes : List Node) (seats : List Seat) (pick : PlacedPick) (last context : Context) (here : context ≡ context_in pick)
    (first : List Found → Type 0) (before : List Room) (were : WereSeen before last) where
  outer-among : same_slot context.outer last.outer ≡ true → (t : Seated) → pick.outer ≡ Some t → has_room before (outer_context (context_in pick)) ≡ true
  outer-among h t e =
      let same : outer_context (context_in pick) ≡ outer_context last = ap outer_context (sym here) ∙ outer-is context last h in
      let slot : last.outer ≡ Some t.slot = sym (ap (λ (c : Context). c.outer) same) ∙ ap slot_of e in
      ap (has_room before) same ∙ were.outer t.slot slot

  inner-among : same_context context last ≡ true → (t : Seated) → pick.inner ≡ Some t → has_room before (context_in pick) ≡ true
  inner-among h t e =
      let same : context_in pick ≡ last = sym here ∙ context_is context last h in
      let slot : last.inner ≡ Some t.slot = sym (ap (λ (c : Context). c.inner) same) ∙ ap slot_of e in
      ap (has_room before) same ∙ were.inner t.slot slot

  abbrev outer_rooms : List Room
  outer_rooms = rooms_at (outer_context (context_in pick)) pick.outer

  abbrev inner_rooms : List Room
  inner_rooms = rooms_at (context_in pick) pick.inner

  -- the inner room behind the outer one
  both-seen : (keys : List (List ℕ)) (given : List Found → Type 0) → Seen nodes seats first ((before ++ outer_rooms) ++ inner_rooms) keys given
      → Seen nodes seats first (before ++ pick_rooms pick) keys given
  both-seen keys given s = subst (λ l. Seen nodes seats first l keys given) (append_assoc before outer_rooms inner_rooms) s

  outer-again : (keys : List (List ℕ)) (given : List Found → Type 0) → same_slot context.outer last.outer ≡ true → Seen nodes seats first before keys given
      → Seen nodes seats first (before ++ outer_rooms) keys given
  outer-again keys given h s = seen-again nodes seats first before keys given s (outer_context (context_in pick)) pick.outer (outer-among h)

  inner-more : (keys more : List (List ℕ)) (was given : List Found → Type 0) → Seen nodes seats first (before ++ outer_rooms) keys was
      → ((b : List Room) → AreKeysOf b keys → SeesMore nodes seats b context pick.inner more was given)
      → Seen nodes seats first (before ++ pick_rooms pick) more given
  inner-more keys more was given s step =
      both-seen more given
      (seen-more nodes seats first (before ++ outer_rooms) keys more was given s (context_in pick) pick.inner
      (subst (λ c. SeesMore nodes seats (before ++ outer_rooms) c pick.inner more was given) here (step (before ++ outer_rooms) s.keys_are)))

  pick-passed : (keys : List (List ℕ)) (given : List Found → Type 0) → same_context context last ≡ true → Seen nodes seats first before keys given
      → Seen nodes seats first (before ++ pick_rooms pick) keys given
  pick-passed keys given h s =
      both-seen keys given
      (seen-again nodes seats first (before ++ outer_rooms) keys given
      (outer-again keys given (both (same_slot context.outer last.outer) (same_slot context.inner last.inner) h).0 s) (context_in pick) pick.inner
      (λ t e. among-front before outer_rooms (context_in pick) (inner-among h t e)))

  pick-inner : (keys more : List (List ℕ)) (was given : List Found → Type 0) → same_slot context.outer last.outer ≡ true
      → Seen nodes seats first before keys was
      → ((b : List Room) → AreKeysOf b keys → SeesMore nodes seats b context pick.inner more was given)
      → Seen nodes seats first (before ++ pick_rooms pick) more given
  pick-inner keys more was given h s step = inner-more keys more was given (outer-again keys was h s) step

  pick-both : (keys middle more : List (List ℕ)) (was between given : List Found → Type 0) (around : Context) → around ≡ outer_context context
      → Seen nodes seats first before keys was
      → ((b : List Room) → AreKeysOf b keys → SeesMore nodes seats b around pick.outer middle was between)
      → ((b : List Room) → AreKeysOf b middle → SeesMore nodes seats b context pick.inner more between given)
      → Seen nodes seats first (before ++ pick_rooms pick) more given
  pick-both keys middle more was between given around around_is s one two =
      let outer : around ≡ outer_context (context_in pick) = around_is ∙ ap outer_context here in
      inner-more middle more between given
      (seen-more nodes seats first before keys middle was between s (outer_context (context_in pick)) pick.outer
      (subst (λ c. SeesMore nodes seats before c pick.outer middle was between) outer (one before s.keys_are))) two

-- ---- from what was seen before on

begun : (nodes : List Node) (seats : List Seat) (before : List Room) (keys : List (List ℕ)) (was : List Found → Type 0) → AreKeysOf before keys
    → Seen nodes seats (behind_rooms nodes seats before was) before keys was
begun nodes seats before keys was keys_are = record { keys_are = keys_are; puts = λ fs h. h }

module _ (nodes : List Node) (seats : List Seat) (pick : PlacedPick) (last context : Context) (here : context ≡ context_in pick) where
  pub sees-passed : (keys : List (List ℕ)) (given : List Found → Type 0) → same_context context last ≡ true
      → SeesPick nodes seats pick last keys keys given given
  sees-passed keys given h before were keys_are =
      pick-passed nodes seats pick last context here (behind_rooms nodes seats before given) before were keys given h
      (begun nodes seats before keys given keys_are)

  pub sees-inner : (keys more : List (List ℕ)) (was given : List Found → Type 0) → same_slot context.outer last.outer ≡ true
      → ((b : List Room) → AreKeysOf b keys → SeesMore nodes seats b context pick.inner more was given)
      → SeesPick nodes seats pick last keys more was given
  sees-inner keys more was given h step before were keys_are =
      pick-inner nodes seats pick last context here (behind_rooms nodes seats before was) before were keys more was given h
      (begun nodes seats before keys was keys_are) step

  pub sees-both : (keys middle more : List (List ℕ)) (was between given : List Found → Type 0) (around : Context) → around ≡ outer_context context
      → ((b : List Room) → AreKeysOf b keys → SeesMore nodes seats b around pick.outer middle was between)
      → ((b : List Room) → AreKeysOf b middle → SeesMore nodes seats b context pick.inner more between given)
      → SeesPick nodes seats pick last keys more was given
  sees-both keys middle more was between given around around_is one two before were keys_are =
      pick-both nodes seats pick last context here (behind_rooms nodes seats before was) before were keys middle more was between given around around_is
      (begun nodes seats before keys was keys_are) one two

resumed : (nodes : List Node) (seats : List Seat) (first : List Found → Type 0) (before : List Room) (keys more : List (List ℕ))
    (was given : List Found → Type 0)
    (pick : PlacedPick) → Seen nodes seats first before keys was → Seen nodes seats (behind_rooms nodes seats before was) (before ++ pick_rooms pick) more given
    → Seen nodes seats first (before ++ pick_rooms pick) more given
resumed nodes seats first before keys more was given pick s t = record { keys_are = t.keys_are; puts = λ fs h. t.puts fs (s.puts fs h) }

-- ---- the picks up to one

pub record SeenUpTo (nodes : List Node) (seats : List Seat) (first : List Found → Type 0) (picks : List PlacedPick) (count : ℕ) (last : Context)
    (keys : List (List ℕ)) (given : List Found → Type 0) : Type 0 where
  pub seen : Seen nodes seats first (flat_map pick_rooms (take count picks)) keys given
  pub were : WereSeen (flat_map pick_rooms (take count picks)) last

pub up-to-none : (nodes : List Node) (seats : List Seat) (first : List Found → Type 0) (picks : List PlacedPick) (keys : List (List ℕ)) → keys ≡ []
    → SeenUpTo nodes seats first picks 0 root_context keys first
up-to-none nodes seats first picks keys e = record { seen = seen-none nodes seats first keys e; were = none-seen [] }

pub up-to-more : (nodes : List Node) (seats : List Seat) (first : List Found → Type 0) (picks : List PlacedPick) (count : ℕ) (pick : PlacedPick)
    (last context : Context)
    (keys more : List (List ℕ)) (was given : List Found → Type 0)
    → count < length picks → pick ≡ get_or picks count pick → context ≡ context_in pick
    → SeesPick nodes seats pick last keys more was given → SeenUpTo nodes seats first picks count last keys was
    → SeenUpTo nodes seats first picks (count + 1) context more given
up-to-more nodes seats first picks count pick last context keys more was given below at here step s =
    let before = flat_map pick_rooms (take count picks) in
    let longer = rooms-more picks count pick below at in
    record {
      seen = subst (λ l. Seen nodes seats first l more given) longer
          (resumed nodes seats first before keys more was given pick s.seen (step before s.were s.seen.keys_are));
      were = subst (λ c. WereSeen (flat_map pick_rooms (take (count + 1) picks)) c) (sym here)
          (subst (λ l. WereSeen l (context_in pick)) longer (pick-seen before pick));
    }
