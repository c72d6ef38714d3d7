-- What is read behind a state is the rest of its open elements.
use Rattle.std.proofs.Common.{◌≡◌, ℕ, zero, suc, pred, ◌+◌, ◌≤◌, Bool, true, false, not, ◌&&◌, ◌||◌, ◌==◌, nat_lt, nat_le, List, [], ◌∷◌, ◌++◌, map, length}
use Rattle.std.proofs.Common.{refl, sym, ap, ◌∙◌, arith, if◌then◌else◌, subst, true≢false, Option, Some, None, Result, Ok, Err}
use Rattle.std.proofs.lemmas.List.{append_assoc}
use Rattle.std.proofs.lemmas.Option.{none-some}
use Rattle.std.proofs.lemmas.Bool.Decides.{nat_tests}
use Rattle.inv_base.specs.Tree.{Name, Attribute}
use Rattle.inv_base.specs.Characters.{is_white_space}
use Rattle.xml_tokens.specs.Faults.{Cause, first_cause}
use Rattle.xml_tokens.specs.declared.kind.XmlKind.{XmlKind}
use Rattle.xml_tokens.specs.declared.kind.XmlKind.TheVariants.{TextOutside, TooManyNodes, TooLong, Truncated, NoRoot}
use Rattle.xml_state.specs.declared.fault.XmlFault.{XmlFault}
use Rattle.xml_tokens.specs.Markup.{Tag, Token, a_mark, an_aside, a_character, a_reference, a_section, a_start_tag, an_end_tag}
use Rattle.xml_tokens.specs.Beginnings.{Beginning, good, bad, later, beginning, sure_length}
use Rattle.xml_state.specs.declared.limits.Limits.{Limits}
use Rattle.xml_state.specs.Faults.{fault_at}
use Rattle.xml_events.specs.Events.{Event, starts, has_text, ends, with_events}
use Rattle.xml_events.specs.Documents.{Tells}
use Rattle.xml_events.specs.Names.{number_of}
use Rattle.xml_state.specs.States.{Open, State, begin, is_outside, behind_aside, behind_text, behind_start_tag, behind_end_tag, state_behind, events_of}
use Rattle.xml_state.specs.States.{text_events, start_tag_events, names_behind, name_in, attributes_in, attribute_event, bindings_in}
use Rattle.xml_state.specs.Admission.{text_fault, is_text_too_many, start_tag_causes, end_tag_causes, fault_of}
use Rattle.std.specs.Str.{bytes_eq}
use Rattle.xml_profile.specs.TokenByToken.{waits, Read, telling, stops_at, fault_within, unfinished, read, resume, read_whole}
use Rattle.xml_profile.specs.Profile.{Document, end_fault, fault_of_whole, names_of, first_fault, document, tree_of}
use Rattle.xml_laws.proofs.JoinLemmas.{before, joined_back, before-start, before-end, attributes-back, with_events-back}
use Rattle.xml_laws.specs.Told.{IsReadAs}
use Rattle.xml_laws.proofs.TellLemmas.{told-tree}
use Rattle.xml_laws.proofs.NameLemmas.{Extends, extends-none, extends-more, extends-with_names, have-with_names, number-extends, attributes-told}
use Rattle.xml_laws.proofs.RestLemmas.{begins_text, Rest, new_text, not_none, text-inside, end-rest, start-rest}

-- Where an element is open the root was seen, and then the nodes keep the limit.
pub record IsSound (limits : Limits) (s : State) : Type 0 where
  pub rooted : ((length s.open_elements == 0) || s.root_seen) ≡ true
  pub small : s.root_seen ≡ true → s.nodes ≤ limits.nodes

-- A text goes on that was counted.
abbrev pub counted_text : Bool → List Event → ℕ
counted_text in_text events = if in_text && begins_text events then 1 else 0

-- What is told behind a state: the rest of its elements, by a table that goes on with its names, within the limit on
-- nodes.
pub record Goes (limits : Limits) (names : List Name) (open_elements : List Open) (root_seen in_text : Bool) (nodes : ℕ) (final : List Name)
    (events : List Event) : Type 0 where
  pub grown : Extends names final
  pub count : ℕ
  pub rest : Rest final open_elements root_seen events count
  pub small : count + nodes ≤ limits.nodes + counted_text in_text events

abbrev pub GoesOn : Limits → State → List Name → List Event → Type 0
GoesOn limits s final events = Goes limits s.names s.open_elements s.root_seen s.in_text s.nodes final events

abbrev pub NoneHolds : List Cause → Type 0
NoneHolds [] = Unit {0}
NoneHolds (c ∷ causes) = (c.holds ≡ false) × NoneHolds causes

pub causes-none : (causes : List Cause) → first_cause causes ≡ None → NoneHolds causes
causes-none [] h = tt
causes-none (c ∷ causes) h = by c.holds h (causes-none causes)
  where
    by : (t : Bool) → (if t then Some c.kind else first_cause causes) ≡ None → (first_cause causes ≡ None → NoneHolds causes) → (t ≡ false) × NoneHolds causes
    by true h rest = absurd (none-some c.kind (sym h))
    by false h rest = (refl, rest h)

or_true : (b : Bool) → (b || true) ≡ true
or_true true = refl
or_true false = refl

keeps : (limit n : ℕ) → nat_lt limit n ≡ false → n ≤ limit
keeps limit n h = grind (arith, nat_tests)

-- texts
begins-before : (t : List ℕ) (place : ℕ) (events : List Event) → begins_text (before (has_text t place) events) ≡ true
begins-before t place [] = refl
begins-before t place (has_text u p ∷ events) = refl
begins-before t place (d ∷ events) = refl

text-small : (in_text : Bool) (t : List ℕ) (place : ℕ) (events : List Event) (count nodes limit : ℕ)
    → count + (if in_text then nodes else nodes + 1) ≤ limit + counted_text true events
    → (count + new_text events) + nodes ≤ limit + counted_text in_text (before (has_text t place) events)
text-small in_text t place events count nodes limit h =
    subst (λ b. (count + new_text events) + nodes ≤ limit + (if in_text && b then 1 else 0)) (sym (begins-before t place events))
    (by in_text (begins_text events) h)
  where
    by : (i b : Bool) → count + (if i then nodes else nodes + 1) ≤ limit + (if b then 1 else 0) →
        (count + (if b then 0 else 1)) + nodes ≤ limit + (if i && true then 1 else 0)
    by true true h = omega arith
    by true false h = omega arith
    by false true h = omega arith
    by false false h = omega arith

module _ (limits : Limits) (s : State) where
  text-back : (t : List ℕ) (place : ℕ) → (length t == 0) ≡ false → (final : List Name) (events : List Event) →
      GoesOn limits (behind_text s) final (joined_back events)
      → GoesOn limits s final (joined_back (text_events s t place ++ events))
  text-back t place some final events g = by s.open_elements (is_outside s) refl refl g
    where
      by : (open_elements : List Open) (b : Bool) → s.open_elements ≡ open_elements → (length open_elements == 0) ≡ b
          → GoesOn limits (if b then behind_aside s else record s {
            position = (behind_aside s).position;
            in_text = true;
            nodes =
                if s.in_text then s.nodes else s.nodes + 1;
          }) final (joined_back events)
          → GoesOn limits s final (joined_back ((if b then [] else has_text t place ∷ []) ++ events))
      by open_elements true same e g = g
      by [] false same e g = absurd (true≢false e)
      by (o ∷ outer) false same e g = record {
        grown = g.grown;
        count = g.count + new_text (joined_back events);
        rest = subst (λ x. Rest final x s.root_seen (before (has_text t place) (joined_back events)) (g.count + new_text (joined_back events))) (sym same)
            (text-inside final (Rest final outer s.root_seen) t place some (joined_back events) g.count
            (subst (λ x. Rest final x s.root_seen (joined_back events) g.count) same g.rest));
        small = text-small s.in_text t place (joined_back events) g.count s.nodes limits.nodes g.small;
      }

  text-sound : (outside : Bool) → text_fault limits s outside ≡ None → IsSound limits s → IsSound limits (behind_text s)
  text-sound outside h sound = by (is_outside s) h
    where
      by : (b : Bool) → (if b then (if outside then None else Some TextOutside) else (if is_text_too_many limits s then Some TooManyNodes else None)) ≡ None
          → IsSound limits (if b then behind_aside s else record s {
            position = (behind_aside s).position;
            in_text = true;
            nodes =
                if s.in_text then s.nodes else s.nodes + 1;
          })
      by true h = record { rooted = sound.rooted; small = sound.small }
      by false h = record { rooted = sound.rooted; small = λ seen. within s.in_text h (sound.small seen) }
        where
          within : (i : Bool) → (if (not i && nat_lt limits.nodes (s.nodes + 1)) then Some TooManyNodes else None) ≡ None → s.nodes ≤ limits.nodes →
              (if i then s.nodes else s.nodes + 1) ≤ limits.nodes
          within true h n = n
          within false h n = room (nat_lt limits.nodes (s.nodes + 1)) refl h
            where
              room : (t : Bool) → nat_lt limits.nodes (s.nodes + 1) ≡ t → (if t then Some TooManyNodes else None) ≡ None → s.nodes + 1 ≤ limits.nodes
              room true e h = absurd (none-some TooManyNodes (sym h))
              room false e h = grind (arith, nat_tests)

  -- start tags
  module _ (tag : Tag) where
    start-admitted : first_cause (start_tag_causes limits s tag) ≡ None → ((is_outside s && s.root_seen) ≡ false) ×
        (nat_lt limits.nodes (s.nodes + (1 + length (attributes_in s tag))) ≡ false)
    start-admitted h = let n = causes-none (start_tag_causes limits s tag) h in (n.1.1.0, n.1.1.1.1.1.1.1.1.0)

    start-sound : first_cause (start_tag_causes limits s tag) ≡ None → IsSound limits (behind_start_tag s tag)
    start-sound h = let n = (start-admitted h).1 in record { rooted = or_true _; small = λ seen. keeps _ _ n }

    here : Open
    here = record { name = tag.name; bindings = bindings_in s tag }

    told : List Event
    told = map (attribute_event (names_behind s tag)) (attributes_in s tag)

    with_end : Bool → List Event → List Event
    with_end b events = if b then ends ∷ events else events

    inner-joins : (b : Bool) (events : List Event) → joined_back ((if b then ends ∷ [] else []) ++ events) ≡ with_end b (joined_back events)
    unfolding with_end
    inner-joins true events = before-end (joined_back events)
    inner-joins false events = refl

    start-joins : (place : ℕ) (events : List Event)
        → joined_back (start_tag_events s tag place ++ events) ≡ starts (number_of (name_in s tag) (names_behind s tag)) place ∷ (told ++
        with_end tag.is_empty (joined_back events))
    unfolding told
    start-joins place events =
        let end = if tag.is_empty then ends ∷ [] else [] in
        before-start (number_of (name_in s tag) (names_behind s tag)) place (joined_back ((told ++ end) ++ events))
        ∙ ap (λ x. starts (number_of (name_in s tag) (names_behind s tag)) place ∷ x)
        (ap joined_back (append_assoc told end events)
        ∙ (attributes-back (names_behind s tag) (attributes_in s tag) (end ++ events) ∙ ap (λ x. told ++ x) (inner-joins tag.is_empty events)))

    start-filled : (b : Bool) (final : List Name) (events : List Event) (count : ℕ) →
        Rest final (if b then s.open_elements else here ∷ s.open_elements) true events count
        → Rest final (here ∷ s.open_elements) true (with_end b events) count
    unfolding with_end
    start-filled true final events count r = end-rest final (Rest final s.open_elements true) events count r
    start-filled false final events count r = r

    start-back : (place : ℕ) → first_cause (start_tag_causes limits s tag) ≡ None → IsSound limits s → (final : List Name) (events : List Event)
        → GoesOn limits (behind_start_tag s tag) final (joined_back events) → GoesOn limits s final (joined_back (start_tag_events s tag place ++ events))
    unfolding told here
    start-back place h sound final events g =
        let names = names_behind s tag in
        let attributes = attributes_in s tag in
        let has = have-with_names s.names (name_in s tag ∷ map (λ (a : Attribute). a.name) attributes) in
        let n = g.small in
        subst (GoesOn limits s final) (sym (start-joins place events)) (record {
          grown = extends-more s.names names final (extends-with_names s.names (name_in s tag ∷ map (λ (a : Attribute). a.name) attributes)) g.grown;
          count = g.count + (1 + length attributes);
          rest = start-rest final (name_in s tag) (number_of (name_in s tag) names) place attributes told
              (number-extends names final (name_in s tag) g.grown has.0) (attributes-told names final attributes g.grown has.1)
              here s.open_elements s.root_seen (with_end tag.is_empty (joined_back events)) g.count (start-admitted h).0 sound.rooted
              (start-filled tag.is_empty final (joined_back events) g.count g.rest);
          small = omega arith;
        })

  -- end tags
  end-back : (name : List ℕ) → first_cause (end_tag_causes limits s name) ≡ None → IsSound limits s → (final : List Name) (events : List Event)
      → GoesOn limits (behind_end_tag s) final (joined_back events) → GoesOn limits s final (joined_back (ends ∷ events))
  end-back name h sound final events g = subst (GoesOn limits s final) (sym (before-end (joined_back events))) (by s.open_elements refl g)
    where
      by : (open_elements : List Open) → s.open_elements ≡ open_elements
          → GoesOn limits (elim open_elements [
            | [] ↦ behind_aside s
            | (element ∷ outer) ↦ record s { position = (behind_aside s).position; open_elements = outer; in_text = false }
          ]) final (joined_back events)
          → GoesOn limits s final (ends ∷ joined_back events)
      by [] same g = absurd (true≢false (sym (ap (λ (x : List Open). not (elim x [ [] ↦ false | (element ∷ outer) ↦ bytes_eq element.name name ])) same) ∙
          (causes-none (end_tag_causes limits s name) h).1.0))
      by (o ∷ outer) same g = record {
        grown = g.grown;
        count = g.count;
        rest = subst (λ x. Rest final x s.root_seen (ends ∷ joined_back events) g.count) (sym same)
            (end-rest final (Rest final outer s.root_seen) (joined_back events) g.count g.rest);
        small = let n = g.small in omega arith;
      }

  end-sound : IsSound limits s → IsSound limits (behind_end_tag s)
  end-sound sound = by s.open_elements refl
    where
      by : (open_elements : List Open) → s.open_elements ≡ open_elements
          → IsSound limits (elim open_elements [
            | [] ↦ behind_aside s
            | (element ∷ outer) ↦ record s { position = (behind_aside s).position; open_elements = outer; in_text = false }
          ])
      by [] same = record { rooted = sound.rooted; small = sound.small }
      by (o ∷ outer) same =
          let seen : s.root_seen ≡ true = sym (ap (λ b. b || s.root_seen) (ap (λ (x : List Open). length x == 0) same ∙ not_none (length outer))) ∙
          sound.rooted in
          record { rooted = ap (λ b. (length outer == 0) || b) seen ∙ or_true _; small = sound.small }

  -- one token
  section-back : (text : List ℕ) (place : ℕ) (final : List Name) (events : List Event)
      → GoesOn limits (if length text == 0 then behind_aside s else behind_text s) final (joined_back events)
      → GoesOn limits s final (joined_back ((if length text == 0 then [] else text_events s text place) ++ events))
  section-back text place final events g = by (length text == 0) refl g
    where
      by : (b : Bool) → (length text == 0) ≡ b → GoesOn limits (if b then behind_aside s else behind_text s) final (joined_back events)
          → GoesOn limits s final (joined_back ((if b then [] else text_events s text place) ++ events))
      by true e g = g
      by false e g = text-back text place e final events g

  section-sound : (text : List ℕ) → (if length text == 0 && not (is_outside s) then None else text_fault limits s false) ≡ None → IsSound limits s
      → IsSound limits (if length text == 0 then behind_aside s else behind_text s)
  section-sound text h sound = by (length text == 0) h
    where
      by : (b : Bool) → (if b && not (is_outside s) then None else text_fault limits s false) ≡ None →
          IsSound limits (if b then behind_aside s else behind_text s)
      by true h = record { rooted = sound.rooted; small = sound.small }
      by false h = text-sound false h sound

  pub token-back : (token : Token) (place : ℕ) → fault_of limits s token ≡ None → IsSound limits s → (final : List Name) (events : List Event)
      → GoesOn limits (state_behind s token) final (joined_back events) → GoesOn limits s final (joined_back (events_of s token place ++ events))
  unfolding fault_of state_behind events_of
  token-back a_mark place h sound final events g = g
  token-back an_aside place h sound final events g = g
  token-back (a_character c) place h sound final events g = text-back (c ∷ []) place refl final events g
  token-back (a_reference c) place h sound final events g = text-back (c ∷ []) place refl final events g
  token-back (a_section text) place h sound final events g = section-back text place final events g
  token-back (a_start_tag tag) place h sound final events g = start-back tag place h sound final events g
  token-back (an_end_tag name) place h sound final events g = end-back name h sound final events g

  pub token-sound : (token : Token) → fault_of limits s token ≡ None → IsSound limits s → IsSound limits (state_behind s token)
  unfolding fault_of state_behind
  token-sound a_mark h sound = record { rooted = sound.rooted; small = sound.small }
  token-sound an_aside h sound = record { rooted = sound.rooted; small = sound.small }
  token-sound (a_character c) h sound = text-sound (is_white_space c) h sound
  token-sound (a_reference c) h sound = text-sound false h sound
  token-sound (a_section text) h sound = section-sound text h sound
  token-sound (a_start_tag tag) h sound = start-sound tag h
  token-sound (an_end_tag name) h sound = end-sound sound

-- the fault of an end behind a whole token
abbrev at_end : Bool → Bool → ℕ → Option XmlFault
at_end outside seen place = if outside then (if seen then None else Some (fault_at NoRoot place)) else Some (fault_at Truncated place)

module _ (limits : Limits) (s : State) where
  -- the end of the bytes
  end-of-input : (place : ℕ) → IsSound limits s → end_fault s place [] ≡ None → GoesOn limits s s.names []
  end-of-input place sound h = record {
    grown = extends-none s.names;
    count = 0;
    rest = (at s.open_elements s.root_seen h).1;
    small = let n = sound.small (at s.open_elements s.root_seen h).0 in omega arith;
  }
    where
      at : (open_elements : List Open) (seen : Bool)
          → at_end (length open_elements == 0) seen place ≡ None → (seen ≡ true) × Rest s.names open_elements seen [] 0
      at [] true h = (refl, record { is = refl; counted = refl })
      at [] false h = cc
      at (o ∷ outer) seen h = absurd (none-some (fault_at Truncated place) (sym h ∙ ap (λ b. at_end b seen place) (not_none (length outer))))

-- one turn of reading a token, by whether it keeps the limit and its fault
abbrev pub good_turn : Limits → State → ℕ → ℕ → Token → List ℕ → Bool → Option XmlKind → Read
good_turn limits s place n token bytes fits fault = elim fits [
  | false ↦ stops_at TooLong limits.bytes
  | true ↦ elim fault [
    | (Some kind) ↦ stops_at kind place
    | None ↦ telling (events_of s token place) (read true limits (state_behind s token) (place + 1) (pred n) bytes)
  ]
]

-- one turn of reading, by what begins at the place
abbrev pub turn : Limits → State → ℕ → ℕ → List ℕ → Beginning → Read
turn limits s place b bytes x = elim x [
  | later ↦ unfinished limits s place b bytes
  | (bad kind n) ↦ fault_within limits (place + n) kind place
  | (good token n) ↦ good_turn limits s place n token bytes (nat_le (place + n) limits.bytes) (fault_of limits s token)
]

abbrev answer : Document → Option XmlFault → Result Document XmlFault
answer d f = elim f [ (Some fault) ↦ Err fault | None ↦ Ok d ]

ok-same : (a b : Document) → ◌≡◌ {A = Result Document XmlFault} (Ok a) (Ok b) → a ≡ b
ok-same a b h = cc

-- Where bytes are read without a fault, what they tell is the rest.
abbrev Finishes : Limits → State → Read → Type 0
Finishes limits s r = IsSound limits s → fault_of_whole r.stands ≡ None → GoesOn limits s (names_of r.stands) (joined_back r.events)

turn-finishes : (limits : Limits) (s : State) (place b : ℕ) (bytes : List ℕ)
    → ((s' : State) (place' skip : ℕ) → Finishes limits s' (read true limits s' place' skip bytes))
    → (x : Beginning) → Finishes limits s (turn limits s place b bytes x)
turn-finishes limits s place b bytes rest later sound h = absurd (by (nat_le (place + sure_length b bytes) limits.bytes) h)
  where
    by : (t : Bool) → fault_of_whole (if t then record { events = []; stands = waits s place (b ∷ bytes) } else stops_at TooLong limits.bytes).stands ≡ None → ⊥
    by true h = none-some _ (sym h ∙ ap (λ u. if u then Some (fault_at Truncated (place + length (b ∷ bytes))) else at_end (is_outside s) s.root_seen place)
        (some_bytes (length bytes)))
      where
        some_bytes : (n : ℕ) → nat_lt 0 (suc n) ≡ true
        some_bytes n = grind (arith, nat_tests)
    by false h = none-some _ (sym h)
turn-finishes limits s place b bytes rest (bad kind n) sound h = absurd (by (nat_le (place + n) limits.bytes) h)
  where
    by : (t : Bool) → fault_of_whole (if t then stops_at kind place else stops_at TooLong limits.bytes).stands ≡ None → ⊥
    by true h = none-some _ (sym h)
    by false h = none-some _ (sym h)
turn-finishes limits s place b bytes rest (good token n) sound h = by (nat_le (place + n) limits.bytes) (fault_of limits s token) refl h
  where
    by : (t : Bool) (f : Option XmlKind) → fault_of limits s token ≡ f → fault_of_whole (good_turn limits s place n token bytes t f).stands ≡ None
        → GoesOn limits s (names_of (good_turn limits s place n token bytes t f).stands) (joined_back (good_turn limits s place n token bytes t f).events)
    by false f e h = absurd (none-some _ (sym h))
    by true (Some kind) e h = absurd (none-some _ (sym h))
    by true None e h =
        let r = read true limits (state_behind s token) (place + 1) (pred n) bytes in
        token-back limits s token place e sound (names_of r.stands) r.events
        (rest (state_behind s token) (place + 1) (pred n) (token-sound limits s token e sound) h)

read-finishes : (limits : Limits) (bytes : List ℕ) (s : State) (place skip : ℕ) → Finishes limits s (read true limits s place skip bytes)
unfolding read
read-finishes limits [] s place skip sound h = end-of-input limits s place sound h
read-finishes limits (b ∷ bytes) s place (suc skip) sound h = read-finishes limits bytes s (place + 1) skip sound h
read-finishes limits (b ∷ bytes) s place zero sound h = turn-finishes limits s place b bytes (λ s' place' skip'. read-finishes limits bytes s' place' skip')
    (beginning s.position true (b ∷ bytes)) sound h

-- What is read tells the tree of its events.
pub read-as : (limits : Limits) (bytes : List ℕ) (found : Document) → document limits bytes ≡ Ok found → IsReadAs limits found (tree_of found)
unfolding document first_fault resume
read-as limits bytes found is = by (first_fault limits bytes) refl is
  where
    by : (f : Option XmlFault) → first_fault limits bytes ≡ f
        → answer (record { events = with_events [] (read_whole limits bytes).events; names = names_of (read_whole limits bytes).stands }) f ≡ Ok found
        → IsReadAs limits found (tree_of found)
    by (Some fault) e is = cc
    by None e is =
        let events = (read_whole limits bytes).events in
        let names = names_of (read_whole limits bytes).stands in
        let d : Document = record { events = with_events [] events; names = names } in
        let same : d ≡ found = ok-same d found is in
        let g = read-finishes limits bytes begin 0 0 (record { rooted = refl; small = λ seen. absurd (true≢false (sym seen)) }) e in
        let root = g.rest in
        let told : Tells names root.tree (with_events [] events) = subst (Tells names root.tree) (sym (with_events-back events)) root.tells in
        let is_tree : root.tree ≡ tree_of d = sym (told-tree names root.tree (with_events [] events) told) in
        let n = g.small in
        let c = root.counted in
        let as_read : IsReadAs limits d root.tree = record { document = root.document; tells = told; small = omega arith } in
        subst (λ (x : Document). IsReadAs limits x (tree_of x)) same (subst (IsReadAs limits d) is_tree as_read)
