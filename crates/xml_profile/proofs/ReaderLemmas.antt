-- What a piece does to a reader, by what it does to its fields.
use Rattle.std.proofs.Common.{◌≡◌, ◌≢◌, ℕ, false, List, [], ◌++◌, refl, sym, ap, ◌∙◌, subst, Option, Some, None, Ok, Err}
use Rattle.std.proofs.lemmas.List.{append-nil}
use Rattle.xml_events.specs.Events.{Event, TakesAll}
use Rattle.xml_state.specs.Taking.{TakesFront}
use Rattle.xml_state.specs.declared.fault.XmlFault.{XmlFault}
use Rattle.xml_state.specs.declared.limits.Limits.{Limits}
use Rattle.xml_state.specs.declared.fault.TheConstants.XmlFault.{WANT_OF_MEMORY}
use Rattle.xml_profile.specs.TokenByToken.{Standing, Read, read, resume}
use Rattle.xml_profile.specs.Keeping.{stopped, kept_of}
use Rattle.xml_profile.specs.Readers.{Progress}
use Rattle.xml_profile.specs.Courses.{Breaks, of_bytes, of_memory, IsKeptOf, IsGoing, Leaves, kept_going}
use Rattle.xml_profile.specs.Fields.{progress_of, IsSound, Feeds}
use Rattle.xml_profile.specs.declared.cursor.Cursor.{Cursor}
use Rattle.xml_profile.specs.declared.cursor.Inside.{Inside}
use Rattle.xml_profile.proofs.KeptLemmas.{Stands, stands-going, stands-stopped, going-none, rest-kept, inside-kept}

-- All is a front of it.
pub all-is-front : (events : List Event) (before after : List Event → Type 0) → TakesAll events before after → TakesFront events before after
all-is-front events before after told = record { front = events; others = []; is = sym (append-nil events); told = told }

events-are : (r : Read) (events : List Event) (before after : List Event → Type 0) → r.events ≡ events → TakesAll events before after →
    TakesAll r.events before after
events-are r events before after is told = let P : List Event → Type 0 = λ es. TakesAll es before after in subst P (sym is) told

-- Of which this is kept before a fault.
abbrev pub OfKept : Limits → Option Inside → Cursor → List ℕ → (List ℕ → Type 0) → Type 0
OfKept limits held old rest P = (bytes : List ℕ) → IsKeptOf held old rest bytes → P bytes

-- A piece behind a fault.
pub feeds-again : {T : Type 0} (limits : Limits) (held : Option Inside) (old : Cursor) (rest piece : List ℕ) (fault : XmlFault) (taken : List Event → Type 0)
    → Feeds {T = T} (Err fault) (progress_of limits (Some fault) held old rest) (progress_of limits (Some fault) held old rest) piece taken taken
unfolding resume
feeds-again limits held old rest piece fault taken = record {
  limits = refl;
  answer = refl;
  stands = λ found at same. sym (ap (λ s. kept_of (resume false limits s piece).stands) (stands-stopped at fault same));
  within = λ at same. front at same;
  all = λ found at same. all at same;
  stopped = λ h. (refl, λ events t. t);
}
  where
    all : (at : Standing) → kept_of at ≡ stopped fault → TakesAll (resume false limits at piece).events taken taken
    all at same = let P : Standing → Type 0 = λ s. TakesAll (resume false limits s piece).events taken taken in
        subst P (sym (stands-stopped at fault same)) (λ events t. t)

    front : (at : Standing) → kept_of at ≡ stopped fault → TakesFront (resume false limits at piece).events taken taken
    front at same = all-is-front (resume false limits at piece).events taken taken (all at same)

module _ (limits : Limits) (held : Option Inside) (old : Cursor) (rest piece : List ℕ) (before after : List Event → Type 0) where
  -- where reading stands, and what the piece tells from there
  resumes : (at : Standing) (s : Stands at held old rest) → resume false limits at piece ≡ read false limits old.open_elements old.place 0 (s.bytes ++ piece)
  unfolding resume
  resumes at s = ap (λ x. resume false limits x piece) s.is

  -- A piece behind which reading goes on.
  pub feeds-on : {T : Type 0} (done : T) (longer : Option Inside) (new : Cursor) (left : List ℕ)
      → OfKept limits held old rest (λ bytes. Leaves false limits old new (bytes ++ piece) longer left before after)
      → Feeds (Ok done) (progress_of limits None held old rest) (progress_of limits None longer new left) piece before after
  feeds-on done longer new left leaves = record {
    limits = refl;
    answer = going-none longer new left;
    stands = λ found at same.
        let s = stands-going at held old rest same in
        let l = leaves s.bytes s.kept in
        sym (ap (λ (r : Read). kept_of r.stands) (resumes at s ∙ l.is) ∙ l.kept);
    within = λ at same. all-is-front (resume false limits at piece).events before after (told at same);
    all = λ found at same. told at same;
    stopped = λ h. absurd (h (going-none held old rest));
  }
    where
      told : (at : Standing) → kept_of at ≡ kept_going held old rest → TakesAll (resume false limits at piece).events before after
      told at same =
          let s = stands-going at held old rest same in
          let l = leaves s.bytes s.kept in
          events-are (resume false limits at piece) l.events before after (ap (λ (r : Read). r.events) (resumes at s ∙ l.is)) l.told

  wrong-stands : (fault : XmlFault) (at : Standing) (s : Stands at held old rest) → Breaks false limits old (s.bytes ++ piece) before after fault →
      fault ≢ WANT_OF_MEMORY → stopped fault ≡ kept_of (resume false limits at piece).stands
  wrong-stands fault at s (of_bytes f events is told) other = sym (ap (λ (r : Read). kept_of r.stands) (resumes at s ∙ is))
  wrong-stands fault at s (of_memory front others is told) other = absurd (other refl)

  wrong-within : (fault : XmlFault) (at : Standing) (s : Stands at held old rest) → Breaks false limits old (s.bytes ++ piece) before after fault →
      TakesFront (resume false limits at piece).events before after
  wrong-within fault at s (of_bytes f events is told) =
      all-is-front (resume false limits at piece).events before after
      (events-are (resume false limits at piece) events before after (ap (λ (r : Read). r.events) (resumes at s ∙ is)) told)
  wrong-within fault at s (of_memory front others is told) =
      record { front = front; others = others; is = ap (λ (r : Read). r.events) (resumes at s) ∙ is; told = told }

  wrong-all : (fault : XmlFault) (at : Standing) (s : Stands at held old rest) → Breaks false limits old (s.bytes ++ piece) before after fault →
      fault ≢ WANT_OF_MEMORY → TakesAll (resume false limits at piece).events before after
  wrong-all fault at s (of_bytes f events is told) other =
      events-are (resume false limits at piece) events before after (ap (λ (r : Read). r.events) (resumes at s ∙ is)) told
  wrong-all fault at s (of_memory front others is told) other = absurd (other refl)

  -- A piece with a fault.
  pub feeds-wrong : {T : Type 0} (longer : Option Inside) (new : Cursor) (left : List ℕ) (fault : XmlFault)
      → OfKept limits held old rest (λ bytes. Breaks false limits old (bytes ++ piece) before after fault)
      → Feeds {T = T} (Err fault) (progress_of limits None held old rest) (progress_of limits (Some fault) longer new left) piece before after
  feeds-wrong longer new left fault breaks = record {
    limits = refl;
    answer = refl;
    stands = λ found at same. (let s = stands-going at held old rest same in wrong-stands fault at s (breaks s.bytes s.kept) (λ is. found (ap Some is)));
    within = λ at same. (let s = stands-going at held old rest same in wrong-within fault at s (breaks s.bytes s.kept));
    all = λ found at same. (let s = stands-going at held old rest same in wrong-all fault at s (breaks s.bytes s.kept) (λ is. found (ap Some is)));
    stopped = λ h. absurd (h (going-none held old rest));
  }

-- The same, by the fault that was answered if any.
pub feeds-again-at : {T : Type 0} (limits : Limits) (held : Option Inside) (cursor : Cursor) (rest piece : List ℕ) (answered : Option XmlFault)
    (fault : XmlFault) (taken : List Event → Type 0) → answered ≡ Some fault
    → (old : Progress) → progress_of limits answered held cursor rest ≡ old → Feeds {T = T} (Err fault) old old piece taken taken
feeds-again-at {T} limits held cursor rest piece answered fault taken is old view =
    let P : Option XmlFault → Type 0 = λ o. Feeds {T = T} (Err fault) (progress_of limits o held cursor rest)
    (progress_of limits o held cursor rest) piece taken taken in
    let Q : Progress → Type 0 = λ p. Feeds {T = T} (Err fault) p p piece taken taken in
    subst Q view (subst P (sym is) (feeds-again limits held cursor rest piece fault taken))

pub feeds-on-at : {T : Type 0} (limits : Limits) (held : Option Inside) (cursor : Cursor) (rest piece : List ℕ) (before after : List Event → Type 0)
    (answered : Option XmlFault) (done : T) (longer : Option Inside) (new : Cursor) (left : List ℕ)
    → answered ≡ None → OfKept limits held cursor rest (λ bytes. Leaves false limits cursor new (bytes ++ piece) longer left before after) → (old : Progress) →
    progress_of limits answered held cursor rest ≡ old
    → Feeds (Ok done) old (progress_of limits answered longer new left) piece before after
feeds-on-at {T} limits held cursor rest piece before after answered done longer new left is leaves old view =
    let P : Option XmlFault → Type 0 = λ o. Feeds (Ok done) (progress_of limits o held cursor rest) (progress_of limits o longer new left) piece before after in
    let Q : Progress → Type 0 = λ p. Feeds (Ok done) p (progress_of limits answered longer new left) piece before after in
    subst Q view (subst P (sym is) (feeds-on limits held cursor rest piece before after done longer new left leaves))

pub feeds-wrong-at : {T : Type 0} (limits : Limits) (held : Option Inside) (cursor : Cursor) (rest piece : List ℕ) (before after : List Event → Type 0)
    (answered : Option XmlFault) (longer : Option Inside) (new : Cursor) (left : List ℕ) (fault : XmlFault)
    → answered ≡ None → OfKept limits held cursor rest (λ bytes. Breaks false limits cursor (bytes ++ piece) before after fault) → (old : Progress) →
    progress_of limits answered held cursor rest ≡ old
    → Feeds {T = T} (Err fault) old (progress_of limits (Some fault) longer new left) piece before after
feeds-wrong-at {T} limits held cursor rest piece before after answered longer new left fault is breaks old view =
    let P : Option XmlFault → Type 0 = λ o. Feeds {T = T} (Err fault) (progress_of limits o held cursor rest)
    (progress_of limits (Some fault) longer new left) piece before after in
    let Q : Progress → Type 0 = λ p. Feeds {T = T} (Err fault) p (progress_of limits (Some fault) longer new left) piece before after in
    subst Q view (subst P (sym is) (feeds-wrong limits held cursor rest piece before after longer new left fault breaks))

-- Some bytes are those of which this is kept.
pub some-kept : (limits : Limits) (held : Option Inside) (cursor : Cursor) (rest : List ℕ) → IsGoing limits held cursor rest → (bytes : List ℕ) ×
    IsKeptOf held cursor rest bytes
some-kept limits None cursor rest going = (rest, rest-kept cursor rest going.other)
some-kept limits (Some held) cursor rest going = (going.bytes, inside-kept cursor held rest going.bytes going.inside)

-- What goes on is sound, as long as no fault was answered.
pub sound-going : (limits : Limits) (answered : Option XmlFault) (held : Option Inside) (cursor : Cursor) (rest : List ℕ) → answered ≡ None →
    IsSound limits answered held cursor rest → IsGoing limits held cursor rest
sound-going limits answered held cursor rest is sound = let P : Option XmlFault → Type 0 = λ o. IsSound limits o held cursor rest in subst P is sound

pub left-sound : (limits : Limits) (answered : Option XmlFault) (held : Option Inside) (old : Cursor) (rest piece : List ℕ) (longer : Option Inside)
    (new : Cursor) (left : List ℕ) (before after : List Event → Type 0) → answered ≡ None
    → IsSound limits answered held old rest → OfKept limits held old rest (λ bytes. Leaves false limits old new (bytes ++ piece) longer left before after) →
    IsSound limits answered longer new left
left-sound limits answered held old rest piece longer new left before after is sound leaves =
    let some = some-kept limits held old rest (sound-going limits answered held old rest is sound) in
    let P : Option XmlFault → Type 0 = λ o. IsSound limits o longer new left in
    subst P (sym is) (leaves some.0 some.1).going
