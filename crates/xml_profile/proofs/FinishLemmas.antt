-- What a reader does to all bytes that it was given.
use Rattle.std.proofs.Common.{◌≡◌, ℕ, ◌+◌, ◌≤◌, true, false, List, [], ◌++◌, length, refl, sym, ap, ◌∙◌, subst, Option, Some, None, Result, Ok, Err}
use Rattle.std.proofs.Common.{MatchResult}
use Rattle.std.proofs.lemmas.Option.{none-some}
use Rattle.std.proofs.lemmas.List.{append-nil, append_assoc}
use Rattle.inv_base.specs.Tree.{Name}
use Rattle.xml_events.specs.Events.{Event, TakesAll, with_events}
use Rattle.xml_state.specs.declared.limits.Limits.{Limits}
use Rattle.xml_state.specs.Taking.{TakesFront}
use Rattle.xml_state.specs.declared.fault.XmlFault.{XmlFault}
use Rattle.xml_profile.specs.TokenByToken.{Standing, waits, Read, read, resume, read_front, read_whole}
use Rattle.xml_profile.specs.Profile.{fault_of_whole, end_fault, first_fault, names_of}
use Rattle.xml_profile.specs.Readers.{Progress, HasRead, HasMemory, Moves, MovesWithin, Tells, Finishes, Fails, of_document, of_memory, Ends}
use Rattle.xml_profile.specs.Fields.{progress_of, Feeds, FailsToEnd, of_end, of_lack, EndsWell, EndsAt}
use Rattle.xml_profile.specs.Keeping.{kept_of, fault_of_kept}
use Rattle.xml_profile.specs.Courses.{Reaches, Breaks, kept_going}
use Rattle.xml_profile.specs.Courses as courses
use Rattle.xml_profile.specs.declared.cursor.Cursor.{Cursor}
use Rattle.xml_profile.specs.declared.cursor.Inside.{Inside}
use Rattle.xml_profile.proofs.InsideLemmas.{inside-unended}
use Rattle.xml_profile.proofs.KeptLemmas.{Stands, stands-going, stands-stopped, going-none, kept-rest, kept-inside}
use Rattle.xml_profile.proofs.GrowthLemmas.{front-grows, whole-ends}
use Rattle.xml_profile.proofs.EventLemmas.{with_events-append}

-- What was taken behind the events before, behind any first events.
moves-by : (before after : List Event → Type 0) (a more others : List Event) → others ≡ a ++ more → TakesAll more before after → Moves a others before after
moves-by before after a more others is takes first taken =
    subst after (sym (ap (with_events first) is ∙ with_events-append first a more)) (takes (with_events first a) taken)

moves-within-by : (before after : List Event → Type 0) (a more others : List Event) → others ≡ a ++ more → TakesFront more before after →
    MovesWithin a others before after
moves-within-by before after a more others is takes = record {
  front = a ++ takes.front;
  behind = takes.others;
  is = is ∙ ap (λ es. a ++ es) takes.is ∙ sym (append_assoc a takes.front takes.others);
  moves = moves-by before after a takes.front (a ++ takes.front) refl takes.told;
}

module _ (limits : Limits) (fed : List ℕ) (before after : List Event → Type 0) where
  front-events : (piece : List ℕ) → (read_front limits (fed ++ piece)).events ≡ (read_front limits fed).events ++
      (resume false limits (read_front limits fed).stands piece).events
  front-events piece = ap (λ (r : Read). r.events) (front-grows false limits fed piece)

  front-stands : (piece : List ℕ) → (resume false limits (read_front limits fed).stands piece).stands ≡ (read_front limits (fed ++ piece)).stands
  front-stands piece = sym (ap (λ (r : Read). r.stands) (front-grows false limits fed piece))

  tells-by : (piece : List ℕ) (found : Type 0) → TakesFront (resume false limits (read_front limits fed).stands piece).events before after
      → (found → TakesAll (resume false limits (read_front limits fed).stands piece).events before after)
      → MovesWithin (read_front limits fed).events (read_front limits (fed ++ piece)).events before after ×
      (found → Moves (read_front limits fed).events (read_front limits (fed ++ piece)).events before after)
  tells-by piece found within all = (
    moves-within-by before after (read_front limits fed).events (resume false limits (read_front limits fed).stands piece).events
        (read_front limits (fed ++ piece)).events (front-events piece) within,
    λ has_memory. moves-by before after (read_front limits fed).events (resume false limits (read_front limits fed).stands piece).events
        (read_front limits (fed ++ piece)).events (front-events piece) (all has_memory),
  )

  whole-events : (read_whole limits fed).events ≡ (read_front limits fed).events ++ (resume true limits (read_front limits fed).stands []).events
  whole-events = ap (λ (r : Read). r.events) (whole-ends limits fed)

  whole-stands : (read_whole limits fed).stands ≡ (resume true limits (read_front limits fed).stands []).stands
  whole-stands = ap (λ (r : Read). r.stands) (whole-ends limits fed)

pub feed-read : {T : Type 0} (result : Result T XmlFault) (old new : Progress) (piece : List ℕ) (before after : List Event → Type 0) →
    Feeds result old new piece before after
    → HasMemory new → (fed : List ℕ) → HasRead old fed → HasRead new (fed ++ piece)
feed-read result old new piece before after feeds found fed has =
    let here : new.stands ≡ kept_of (read_front old.limits (fed ++ piece)).stands =
    feeds.stands found (read_front old.limits fed).stands (sym has.stands) ∙ ap kept_of (front-stands old.limits fed before after piece) in
    record { stands = here ∙ ap (λ l. kept_of (read_front l (fed ++ piece)).stands) (sym feeds.limits) }

pub feed-told : {T : Type 0} (result : Result T XmlFault) (old new : Progress) (piece : List ℕ) (before after : List Event → Type 0) →
    Feeds result old new piece before after
    → (fed : List ℕ) → HasRead old fed → Tells new fed (fed ++ piece) before after
feed-told result old new piece before after feeds fed has =
    let at = (read_front old.limits fed).stands in
    let told = tells-by old.limits fed before after piece (HasMemory new) (feeds.within at (sym has.stands)) (λ found. feeds.all found at (sym has.stands)) in
    let Within : Limits → Type 0 = λ l. MovesWithin (read_front l fed).events (read_front l (fed ++ piece)).events before after in
    let All : Limits → Type 0 = λ l. Moves (read_front l fed).events (read_front l (fed ++ piece)).events before after in
    record { within = subst Within (sym feeds.limits) told.0; all = λ found. subst All (sym feeds.limits) (told.1 found) }

fails-all : (limits : Limits) (fed : List ℕ) (before after : List Event → Type 0) (fault : XmlFault) →
    FailsToEnd limits (read_front limits fed).stands before after fault → Fails limits fed before after fault
unfolding first_fault
fails-all limits fed before after fault (of_end f is told) =
    of_document f (ap fault_of_whole (whole-stands limits fed before after) ∙ is)
    (moves-by before after (read_front limits fed).events (resume true limits (read_front limits fed).stands []).events (read_whole limits fed).events
    (whole-events limits fed before after) told)
fails-all limits fed before after fault (of_lack takes) =
    of_memory (moves-within-by before after (read_front limits fed).events (resume true limits (read_front limits fed).stands []).events
    (read_whole limits fed).events (whole-events limits fed before after) takes)

finishes-all : (limits : Limits) (fed : List ℕ) (before after : List Event → Type 0) (names : List Name) →
    EndsWell limits (read_front limits fed).stands names before after → Finishes limits fed names before after
unfolding first_fault
finishes-all limits fed before after names ends = record {
  document = ap fault_of_whole (whole-stands limits fed before after) ∙ ends.document;
  named = ends.named ∙ ap names_of (sym (whole-stands limits fed before after));
  told = moves-by before after (read_front limits fed).events (resume true limits (read_front limits fed).stands []).events (read_whole limits fed).events
      (whole-events limits fed before after) ends.told;
}

pub finish-ends : (result : Result (List Name) XmlFault) (old : Progress) (before after : List Event → Type 0) → EndsAt result old before after
    → (fed : List ℕ) → HasRead old fed → Ends (λ table. table) result old.limits fed before after
finish-ends result old before after ends fed has = by result (ends.ended (read_front old.limits fed).stands (sym has.stands))
  where
    by : (r : Result (List Name) XmlFault)
        → MatchResult r (λ names. EndsWell old.limits (read_front old.limits fed).stands names before after)
        (λ fault. FailsToEnd old.limits (read_front old.limits fed).stands before after fault)
        → Ends (λ table. table) r old.limits fed before after
    by (Ok names) e = finishes-all old.limits fed before after names e
    by (Err fault) e = fails-all old.limits fed before after fault e

pub ends-again : (limits : Limits) (held : Option Inside) (cursor : Cursor) (rest : List ℕ) (fault : XmlFault) (taken : List Event → Type 0) →
    EndsAt (Err fault) (progress_of limits (Some fault) held cursor rest) taken taken
unfolding resume
ends-again limits held cursor rest fault taken = record {
  ended = λ at same. (let P : Standing → Type 0 = λ s. FailsToEnd limits s taken taken fault in
      subst P (sym (stands-stopped at fault same)) (of_end fault refl (λ events t. t)));
  stopped = λ f same. (let is : fault ≡ f = cc in ap Err is, λ events t. t);
}

-- before a fault none is answered again
none-again : {P : Type 0} (held : Option Inside) (cursor : Cursor) (rest : List ℕ) (fault : XmlFault) → fault_of_kept (kept_going held cursor rest) ≡ Some fault
    → P
none-again held cursor rest fault same = absurd (none-some fault (sym (going-none held cursor rest) ∙ same))

module _ (limits : Limits) (cursor : Cursor) (rest : List ℕ) (before after : List Event → Type 0) where
  rest-is : (at : Standing) → kept_of at ≡ kept_going None cursor rest → resume true limits at [] ≡ read true limits cursor.open_elements cursor.place 0 rest
  unfolding resume
  rest-is at same =
      let s = stands-going at None cursor rest same in
      ap (λ x. resume true limits x []) s.is ∙ ap (read true limits cursor.open_elements cursor.place 0) (append-nil s.bytes
      ∙ kept-rest cursor rest s.bytes s.kept)

  takes-rest : (at : Standing) → kept_of at ≡ kept_going None cursor rest → (events : List Event) →
      (read true limits cursor.open_elements cursor.place 0 rest).events ≡ events → TakesAll events before after
      → TakesAll (resume true limits at []).events before after
  takes-rest at same events is told =
      let P : List Event → Type 0 = λ es. TakesAll es before after in subst P (sym (ap (λ (r : Read). r.events) (rest-is at same) ∙ is)) told

  fails-at : (fault : XmlFault) → Breaks true limits cursor rest before after fault → (at : Standing) → kept_of at ≡ kept_going None cursor rest →
      FailsToEnd limits at before after fault
  fails-at fault (courses.of_bytes f events is told) at same =
      of_end f (ap (λ (r : Read). fault_of_whole r.stands) (rest-is at same ∙ is)) (takes-rest at same events (ap (λ (r : Read). r.events) is) told)
  fails-at fault (courses.of_memory front others is told) at same =
      of_lack (record { front = front; others = others; is = ap (λ (r : Read). r.events) (rest-is at same) ∙ is; told = told })

  pub ends-wrong : (fault : XmlFault) → Breaks true limits cursor rest before after fault →
      EndsAt (Err fault) (progress_of limits None None cursor rest) before after
  ends-wrong fault breaks = record { ended = fails-at fault breaks; stopped = λ f same. none-again None cursor rest f same }

  -- what a reader's end answers behind its tokens
  abbrev pub EndsBehind : Result (List Name) XmlFault → Cursor → List ℕ → Type 0
  EndsBehind result at left = MatchResult result
      (λ names. (end_fault at.open_elements at.place left ≡ None) × (names ≡ at.open_elements.names))
      (λ fault. end_fault at.open_elements at.place left ≡ Some fault)

  pub ends-behind : (at : Cursor) (left : List ℕ) (result : Result (List Name) XmlFault) → Reaches true limits cursor at rest left before after
      → EndsBehind result at left → EndsAt result (progress_of limits None None cursor rest) before after
  ends-behind at left (Ok names) a (is, named) = record {
    ended = λ stood same. record {
      document = ap (λ (r : Read). fault_of_whole r.stands) (rest-is stood same ∙ a.is) ∙ is;
      named = named ∙ sym (ap (λ (r : Read). names_of r.stands) (rest-is stood same ∙ a.is));
      told = takes-rest stood same a.events (ap (λ (r : Read). r.events) a.is) a.told;
    };
    stopped = λ f same. none-again None cursor rest f same;
  }
  ends-behind at left (Err fault) a is = record {
    ended = λ stood same. of_end fault (ap (λ (r : Read). fault_of_whole r.stands) (rest-is stood same ∙ a.is) ∙ is)
        (takes-rest stood same a.events (ap (λ (r : Read). r.events) a.is) a.told);
    stopped = λ f same. none-again None cursor rest f same;
  }

-- Inside a comment or instruction.
module _ (limits : Limits) (held : Inside) (cursor : Cursor) (rest : List ℕ) (taken : List Event → Type 0)
    (within : cursor.place + held.came ≤ limits.bytes) where
  inside-is : (at : Standing) (s : Stands at (Some held) cursor rest) →
      resume true limits at [] ≡ record { events = []; stands = waits cursor.open_elements cursor.place s.bytes }
  unfolding resume
  inside-is at s = ap (λ x. resume true limits x []) s.is ∙
      inside-unended true limits cursor held s.bytes [] (kept-inside cursor held rest s.bytes s.kept) within

  -- what the end answers behind so many bytes
  abbrev pub EndsInside : Result (List Name) XmlFault → Type 0
  EndsInside result = (left : List ℕ) → length left ≡ held.came → MatchResult result
      (λ names. (end_fault cursor.open_elements cursor.place left ≡ None) × (names ≡ cursor.open_elements.names))
      (λ fault. end_fault cursor.open_elements cursor.place left ≡ Some fault)

  took : (at : Standing) (s : Stands at (Some held) cursor rest) → TakesAll (resume true limits at []).events taken taken
  took at s = let P : List Event → Type 0 = λ es. TakesAll es taken taken in subst P (sym (ap (λ (r : Read). r.events) (inside-is at s))) (λ events t. t)

  pub ends-inside : (result : Result (List Name) XmlFault) → EndsInside result → EndsAt result (progress_of limits None (Some held) cursor rest) taken taken
  ends-inside (Ok names) ends = record {
    ended = λ at same.
        let s = stands-going at (Some held) cursor rest same in
        let e = ends s.bytes (kept-inside cursor held rest s.bytes s.kept).came in
        record {
          document = ap (λ (r : Read). fault_of_whole r.stands) (inside-is at s) ∙ e.0;
          named = e.1 ∙ sym (ap (λ (r : Read). names_of r.stands) (inside-is at s));
          told = took at s;
        };
    stopped = λ f same. none-again (Some held) cursor rest f same;
  }
  ends-inside (Err fault) ends = record {
    ended = λ at same.
        let s = stands-going at (Some held) cursor rest same in
        of_end fault (ap (λ (r : Read). fault_of_whole r.stands) (inside-is at s) ∙ ends s.bytes (kept-inside cursor held rest s.bytes s.kept).came)
        (took at s);
    stopped = λ f same. none-again (Some held) cursor rest f same;
  }

pub ends-again-at : (limits : Limits) (held : Option Inside) (cursor : Cursor) (rest : List ℕ) (answered : Option XmlFault) (fault : XmlFault)
    (taken : List Event → Type 0) → answered ≡ Some fault
    → (old : Progress) → progress_of limits answered held cursor rest ≡ old → EndsAt (Err fault) old taken taken
ends-again-at limits held cursor rest answered fault taken is old view =
    let P : Option XmlFault → Type 0 = λ o. EndsAt (Err fault) (progress_of limits o held cursor rest) taken taken in
    let Q : Progress → Type 0 = λ p. EndsAt (Err fault) p taken taken in
    subst Q view (subst P (sym is) (ends-again limits held cursor rest fault taken))

pub ends-at : (limits : Limits) (cursor : Cursor) (rest : List ℕ) (before after : List Event → Type 0) (answered : Option XmlFault) (held some : Option Inside)
    (result : Result (List Name) XmlFault) → answered ≡ None → some ≡ held
    → EndsAt result (progress_of limits None held cursor rest) before after → (old : Progress) → progress_of limits answered some cursor rest ≡ old →
    EndsAt result old before after
ends-at limits cursor rest before after answered held some result is known ends old view =
    let P : Option XmlFault → Type 0 = λ o. EndsAt result (progress_of limits o some cursor rest) before after in
    let R : Option Inside → Type 0 = λ o. EndsAt result (progress_of limits None o cursor rest) before after in
    let Q : Progress → Type 0 = λ p. EndsAt result p before after in
    subst Q view (subst P (sym is) (subst R (sym known) ends))
