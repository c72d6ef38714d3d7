-- The ends of one turn.
use Rattle.std.proofs.Common.{◌≡◌, ℕ, ◌+◌, ◌-◌, ◌<◌, ◌≤◌, Bool, true, false, nat_le, List, [], ◌∷◌, ◌++◌, length, take, drop, refl, sym, ap, ◌∙◌, subst, arith}
use Rattle.std.proofs.Common.{if◌then◌else◌}
use Rattle.std.proofs.lemmas.Bool.Decides.{nat_tests}
use Rattle.std.proofs.lemmas.List.{take-append-drop, length-drop, append_assoc}
use Rattle.xml_tokens.specs.declared.kind.XmlKind.{XmlKind}
use Rattle.xml_tokens.specs.declared.kind.XmlKind.TheVariants.{TooLong}
use Rattle.xml_tokens.specs.Markup.{Token}
use Rattle.xml_tokens.specs.Beginnings as spec
use Rattle.xml_tokens.specs.Seen.{Shows, shows_good, shows_bad, shows_later, seen_token}
use Rattle.xml_tokens.specs.Searching.{Searched, fresh, IsSearched, Continues}
use Rattle.xml_tokens.specs.declared.beginning.Beginning.{Beginning}
use Rattle.xml_tokens.specs.declared.beginning.Position.{Position}
use Rattle.xml_tokens.specs.declared.beginning.Beginning.TheVariants.{Good, Bad, Later}
use Rattle.xml_tokens.proofs.SearchingLemmas.{fresh-fits}
use Rattle.xml_events.specs.Events.{Event, TakesAll}
use Rattle.xml_state.specs.declared.limits.Limits.{Limits}
use Rattle.xml_state.specs.States.{State, state_behind, events_of}
use Rattle.xml_state.specs.Taking.{Advances, Refused, of_memory, at_once, of_token}
use Rattle.xml_state.specs.Faults.{fault_at}
use Rattle.xml_state.specs.declared.fault.TheConstants.XmlFault.{WANT_OF_MEMORY}
use Rattle.xml_state.specs.declared.fault.XmlFault.{XmlFault}
use Rattle.xml_profile.specs.TokenByToken.{waits, stopped, Read, telling, stops_at, read}
use Rattle.xml_profile.specs.Courses.{IsAt, GoesOn, Reaches, Breaks, Turns}
use Rattle.xml_profile.specs.Courses as courses
use Rattle.xml_profile.specs.declared.cursor.Cursor.{Cursor}
use Rattle.xml_profile.specs.declared.cursor.Turn.{Turn}
use Rattle.xml_profile.specs.declared.cursor.Turn.TheVariants.{Behind, Unfinished, Stopped}
use Rattle.xml_profile.proofs.TokenLemmas.{token-within, read-good, read-refused, read-beyond, read-bad, read-later, later-within}

-- what the beginning of the code says of that of the definition
abbrev pub Says : Beginning → spec.Beginning → Type 0
Says (Good token n) x = x ≡ spec.good (seen_token token) n
Says (Bad kind n) x = x ≡ spec.bad kind n
Says Later x = x ≡ spec.later

says : (found : Beginning) (x : spec.Beginning) → Shows found x → Says found x
says found x (shows_good token n) = refl
says found x (shows_bad kind n) = refl
says found x shows_later = refl

-- the same, as a variant of the code, at a position that is known by another name
pub says-at : (e : Bool) (bytes : List ℕ) (p q : Position) (found variant : Beginning) → p ≡ q → found ≡ variant → Shows found (spec.beginning p e bytes) →
    Says variant (spec.beginning q e bytes)
says-at e bytes p q found variant same is shows =
    let P : Beginning → Type 0 = λ f. Says f (spec.beginning p e bytes) in
    let Q : Position → Type 0 = λ x. Says variant (spec.beginning x e bytes) in
    subst Q same (subst P is (says found (spec.beginning p e bytes) shows))

pub continues-as : (found variant : Beginning) (s : Searched) (bytes : List ℕ) → found ≡ variant → Continues found s bytes → Continues variant s bytes
continues-as found variant s bytes is h = let P : Beginning → Type 0 = λ f. Continues f s bytes in subst P is h

module _ (e : Bool) (limits : Limits) (old : Cursor) (bytes : List ℕ) (before after : List Event → Type 0) where
  -- Before anything was told, memory ran out.
  pub breaks-at-once : TakesAll [] before after → Breaks e limits old bytes before after WANT_OF_MEMORY
  breaks-at-once told = courses.of_memory [] (read e limits old.open_elements old.place 0 bytes).events refl told

  -- The fault of a read.
  pub breaks-at : (fault : XmlFault) → read e limits old.open_elements old.place 0 bytes ≡ record { events = []; stands = stopped fault }
      → TakesAll [] before after
      → Breaks e limits old bytes before after fault
  breaks-at fault is told = courses.of_bytes fault [] is told

  pub breaks-as : (f g : XmlFault) → g ≡ f → Breaks e limits old bytes before after f → Breaks e limits old bytes before after g
  breaks-as f g is h = let P : XmlFault → Type 0 = λ x. Breaks e limits old bytes before after x in subst P (sym is) h

  -- A token was refused.
  pub refuses : (token : Token) (n : ℕ) (fault : XmlFault) → spec.beginning old.open_elements.position e bytes ≡ spec.good token n →
      nat_le (old.place + n) limits.bytes ≡ true
      → Refused limits old.open_elements token old.place before after fault → Breaks e limits old bytes before after fault
  refuses token n fault is room (of_token kind refused told) =
      breaks-at (fault_at kind old.place) (read-refused e limits old.open_elements old.place bytes token n kind is room refused) told
  refuses token n fault is room (at_once told) = breaks-at-once told
  refuses token n fault is room (of_memory admitted front) =
      let rest = read e limits (state_behind old.open_elements token) (old.place + n) 0 (drop n bytes) in
      courses.of_memory front.front (front.others ++ rest.events)
      (ap (λ (r : Read). r.events) (read-good e limits old.open_elements old.place bytes token n is room admitted)
      ∙ ap (λ es. es ++ rest.events) front.is ∙ append_assoc front.front front.others rest.events) front.told

  -- A token was taken.
  pub goes-on : (token : Token) (n : ℕ) (open_elements : State) (rest : List ℕ) → spec.beginning old.open_elements.position e bytes ≡ spec.good token n
      → nat_le (old.place + n) limits.bytes ≡ true → Advances limits old.open_elements open_elements token old.place before after → rest ≡ drop n bytes
      → (length rest < length bytes) × GoesOn e limits old (record { open_elements = open_elements; place = old.place + n; search = fresh }) bytes rest before
      after
  goes-on token n open_elements rest is room advances behind =
      let w = token-within old.open_elements e bytes token n is in
      let len : length rest ≡ length bytes - n = ap length behind ∙ length-drop n bytes in (
        omega (arith, w.0, w.1, len),
        record {
          events = events_of old.open_elements token old.place;
          passed = take n bytes;
          parts = sym (take-append-drop n bytes) ∙ ap (λ r. take n bytes ++ r) (sym behind);
          is = read-good e limits old.open_elements old.place bytes token n is room advances.admitted
              ∙ ap (λ s. telling (events_of old.open_elements token old.place) (read e limits s (old.place + n) 0 (drop n bytes))) (sym advances.behind)
              ∙ ap (λ r. telling (events_of old.open_elements token old.place) (read e limits open_elements (old.place + n) 0 r)) (sym behind);
          told = advances.told;
          at = record { within = grind (arith, nat_tests); fits = fresh-fits rest };
        },
      )

  -- A token or fault would end beyond the limit.
  pub is-beyond : (token : Token) (n : ℕ) → spec.beginning old.open_elements.position e bytes ≡ spec.good token n → nat_le (old.place + n) limits.bytes
      ≡ false →
      TakesAll [] before after
      → Breaks e limits old bytes before after (fault_at TooLong limits.bytes)
  is-beyond token n is room told = breaks-at _ (read-beyond e limits old.open_elements old.place bytes token n is room) told

  bad-by : (kind : XmlKind) (test : Bool) → read e limits old.open_elements old.place 0 bytes
      ≡ (if test then stops_at kind old.place else stops_at TooLong limits.bytes)
      → TakesAll [] before after
      → Breaks e limits old bytes before after (if test then fault_at kind old.place else fault_at TooLong limits.bytes)
  bad-by kind true is told = breaks-at _ is told
  bad-by kind false is told = breaks-at _ is told

  -- What is bad.
  pub is-bad : (kind : XmlKind) (n : ℕ) (fault : XmlFault) → spec.beginning old.open_elements.position e bytes ≡ spec.bad kind n
      → fault ≡ (if nat_le (old.place + n) limits.bytes then fault_at kind old.place else fault_at TooLong limits.bytes)
      → TakesAll [] before after → Breaks e limits old bytes before after fault
  is-bad kind n fault is shown told =
      breaks-as _ fault shown (bad-by kind (nat_le (old.place + n) limits.bytes) (read-bad e limits old.open_elements old.place bytes kind n is) told)

-- What is known by another name.
module _ (e : Bool) (limits : Limits) (bytes : List ℕ) (before after : List Event → Type 0) where
  pub advanced : (old new other : Cursor) (rest : List ℕ) → new ≡ other → (length rest < length bytes) × GoesOn e limits old other bytes rest before after
      → (length rest < length bytes) × GoesOn e limits old new bytes rest before after
  advanced old new other rest is goes =
      let P : Cursor → Type 0 = λ x. (length rest < length bytes) × GoesOn e limits old x bytes rest before after in subst P (sym is) goes

  -- how far the next token was searched makes no difference
  pub turns-anew : (open_elements : State) (place : ℕ) (search other : Searched) (new : Cursor) (turn : Turn) →
      Turns turn e limits (record { open_elements = open_elements; place = place; search = search }) new bytes before after
      → Turns turn e limits (record { open_elements = open_elements; place = place; search = other }) new bytes before after
  turns-anew open_elements place search other new (Behind rest) t =
      (t.0, record { events = t.1.events; passed = t.1.passed; parts = t.1.parts; is = t.1.is; told = t.1.told; at = t.1.at })
  turns-anew open_elements place search other new Unfinished t =
      record {
        events = t.events;
        passed = t.passed;
        parts = t.parts;
        is = t.is;
        told = t.told;
        at = t.at;
        searched = t.searched;
        room = t.room;
        ends_within =
            t.ends_within;
      }
  turns-anew open_elements place search other new (Stopped fault) t = broken fault t
    where
      broken : (fault : XmlFault) → Breaks e limits (record { open_elements = open_elements; place = place; search = search }) bytes before after fault
          → Breaks e limits (record { open_elements = open_elements; place = place; search = other }) bytes before after fault
      broken fault (courses.of_bytes f events is told) = courses.of_bytes f events is told
      broken fault (courses.of_memory front others is told) = courses.of_memory front others is told

-- so many bytes of what isn't whole it has whatever follows
abbrev pub IsSure : ℕ → List ℕ → Type 0
IsSure len bytes = (c : ℕ) (a : List ℕ) → bytes ≡ c ∷ a → len ≡ spec.sure_length c a

pub read-unfinished : (e : Bool) (limits : Limits) (s : State) (place c : ℕ) (a : List ℕ) (len : ℕ) (test : Bool) →
    spec.beginning s.position e (c ∷ a) ≡ spec.later → IsSure len (c ∷ a)
    → nat_le (place + len) limits.bytes ≡ test
    → read e limits s place 0 (c ∷ a) ≡ (if test then record { events = []; stands = waits s place (c ∷ a) } else stops_at TooLong limits.bytes)
read-unfinished e limits s place c a len test is sure room =
    read-later e limits s place c a is
    ∙ ap (λ t. if t then record { events = []; stands = waits s place (c ∷ a) } else stops_at TooLong limits.bytes)
    (ap (λ k. nat_le (place + k) limits.bytes) (sym (sure c a refl)) ∙ room)

-- What begins isn't whole.
pub is-unfinished : (e : Bool) (limits : Limits) (old : Cursor) (bytes : List ℕ) (before after : List Event → Type 0) (len : ℕ) (search : Searched) →
    0 < length bytes → IsSure len bytes
    → spec.beginning old.open_elements.position e bytes ≡ spec.later → nat_le (old.place + len) limits.bytes ≡ true → IsSearched search bytes
    → old.place ≤ limits.bytes
    → TakesAll [] before after
    → Reaches e limits old (record { open_elements = old.open_elements; place = old.place; search = search }) bytes bytes before after
is-unfinished e limits old [] before after len search some sure is room searched within told = absurd (omega arith)
is-unfinished e limits old (c ∷ a) before after len search some sure is room searched within told = record {
  events = [];
  passed = [];
  parts = refl;
  is = read-unfinished e limits old.open_elements old.place c a len true is sure room;
  told = told;
  at = record { within = within; fits = searched.fits };
  searched = searched;
  room = λ b more same. (let long : len ≡ spec.sure_length b more = sure b more same in grind (arith, nat_tests));
  ends_within = later-within e limits old.open_elements old.place c a is (ap (λ k. nat_le (old.place + k) limits.bytes) (sym (sure c a refl)) ∙ room);
}

pub is-unfinished-beyond : (e : Bool) (limits : Limits) (old : Cursor) (bytes : List ℕ) (before after : List Event → Type 0) (len : ℕ) → 0 < length bytes →
    IsSure len bytes
    → spec.beginning old.open_elements.position e bytes ≡ spec.later → nat_le (old.place + len) limits.bytes ≡ false → TakesAll [] before after
    → Breaks e limits old bytes before after (fault_at TooLong limits.bytes)
is-unfinished-beyond e limits old [] before after len some sure is room told = absurd (omega arith)
is-unfinished-beyond e limits old (c ∷ a) before after len some sure is room told =
    breaks-at e limits old (c ∷ a) before after _ (read-unfinished e limits old.open_elements old.place c a len false is sure room) told
