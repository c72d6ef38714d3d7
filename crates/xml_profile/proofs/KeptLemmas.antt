-- What is kept of where reading stands.
use Rattle.std.proofs.Common.{◌≡◌, ℕ, ◌+◌, ◌-◌, ◌≤◌, Bool, false, List, [], ◌∷◌, ◌++◌, length, take, drop, refl, sym, ap, ◌∙◌, subst, arith, Option, Some, None}
use Rattle.std.proofs.Common.{take_all, append-nil, true≢false, Result, Ok, Err, MatchResult, is_ok, is_err, if◌then◌else◌}
use Rattle.std.proofs.lemmas.List.{drop_all}
use Rattle.xml_tokens.specs.declared.asides.OpenAside.{OpenAside}
use Rattle.xml_tokens.proofs.SearchingLemmas.{fits-goes-on}
use Rattle.xml_tokens.specs.Asides.{open_aside}
use Rattle.xml_tokens.specs.Beginnings.{sure_length}
use Rattle.xml_events.specs.Events.{Event}
use Rattle.xml_state.specs.declared.limits.Limits.{Limits}
use Rattle.xml_state.specs.declared.fault.XmlFault.{XmlFault}
use Rattle.xml_state.specs.States.{State}
use Rattle.xml_profile.specs.TokenByToken as reading
use Rattle.xml_profile.specs.TokenByToken.{Standing}
use Rattle.xml_profile.specs.Profile.{settled_of}
use Rattle.xml_profile.specs.Keeping.{waits, inside, stopped, kept_by, kept_of, fault_of_kept, bytes_kept, bytes_taken}
use Rattle.xml_profile.specs.Courses.{IsAt, Reaches, Breaks, IsInside, InsideOf, kept_len, kept_going, IsKeptOf, IsWaiting, StandsInside, IsGoing, Leaves}
use Rattle.xml_profile.specs.Courses.{GoesOn, StaysInside}
use Rattle.xml_profile.specs.Fields.{kept_with, IsSound}
use Rattle.xml_profile.specs.declared.cursor.Cursor.{Cursor}
use Rattle.xml_profile.specs.declared.cursor.Inside.{Inside}
use Rattle.xml_profile.proofs.FeedLemmas.{reaches-back}
use Rattle.xml_profile.proofs.CourseLemmas.{takes-both, goes-wrong}
use Rattle.xml_profile.proofs.InsideLemmas.{open-first}

pub fault-kept : (s : Standing) → fault_of_kept (kept_of s) ≡ settled_of s
fault-kept (reading.waits s place rest) = by (open_aside s.position rest)
  where
    by : (x : Option OpenAside) → fault_of_kept (kept_by s place rest x) ≡ None
    by None = refl
    by (Some aside) = refl
fault-kept (reading.stopped fault) = refl

pub taken-kept : (s : State) (place : ℕ) (rest : List ℕ) → bytes_taken (kept_of (reading.waits s place rest)) ≡ place + length rest
taken-kept s place rest = by (open_aside s.position rest)
  where
    by : (x : Option OpenAside) → bytes_taken (kept_by s place rest x) ≡ place + length rest
    by None = refl
    by (Some aside) = refl

-- Where reading stands, by what is kept of it.
pub record Stands (at : Standing) (held : Option Inside) (cursor : Cursor) (rest : List ℕ) : Type 0 where
  pub bytes : List ℕ
  pub is : at ≡ reading.waits cursor.open_elements cursor.place bytes
  pub kept : IsKeptOf held cursor rest bytes

pub stands-going : (at : Standing) (held : Option Inside) (cursor : Cursor) (rest : List ℕ) → kept_of at ≡ kept_going held cursor rest →
    Stands at held cursor rest
stands-going (reading.waits s place bytes) held cursor rest e = record {
  bytes = bytes;
  is = (let is = parts (open_aside s.position bytes) held e in λ i. reading.waits (is.0 i) (is.1 i) bytes);
  kept = (let is = parts (open_aside s.position bytes) held e in sym (λ i. kept_by (is.0 i) (is.1 i) bytes (open_aside (is.0 i).position bytes)) ∙ e);
}
  where
    parts : (x : Option OpenAside) (held : Option Inside) → kept_by s place bytes x ≡ kept_going held cursor rest → (s ≡ cursor.open_elements) × (place
        ≡ cursor.place)
    parts None None f = (cc f, cc f)
    parts None (Some held) f = absurd (cc f)
    parts (Some aside) None f = absurd (cc f)
    parts (Some aside) (Some held) f = (cc f, cc f)
stands-going (reading.stopped fault) None cursor rest e = absurd (cc e)
stands-going (reading.stopped fault) (Some held) cursor rest e = absurd (cc e)

pub stands-stopped : (at : Standing) (fault : XmlFault) → kept_of at ≡ stopped fault → at ≡ reading.stopped fault
stands-stopped (reading.waits s place bytes) fault e = absurd (by (open_aside s.position bytes) e)
  where
    by : (x : Option OpenAside) → kept_by s place bytes x ≡ stopped fault → ⊥
    by None f = cc f
    by (Some aside) f = cc f
stands-stopped (reading.stopped f) fault e = let same : f ≡ fault = cc e in ap reading.stopped same

pub kept-rest : (cursor : Cursor) (rest bytes : List ℕ) → IsKeptOf None cursor rest bytes → bytes ≡ rest
kept-rest cursor rest bytes e = by (open_aside cursor.open_elements.position bytes) e
  where
    by : (x : Option OpenAside) → kept_by cursor.open_elements cursor.place bytes x ≡ waits cursor.open_elements cursor.place rest → bytes ≡ rest
    by None f = cc f
    by (Some aside) f = absurd (cc f)

pub kept-inside : (cursor : Cursor) (held : Inside) (rest bytes : List ℕ) → IsKeptOf (Some held) cursor rest bytes
    → IsInside cursor.open_elements.position held bytes
kept-inside cursor held rest bytes e = by (open_aside cursor.open_elements.position bytes) refl e
  where
    by : (x : Option OpenAside) → open_aside cursor.open_elements.position bytes ≡ x →
        kept_by cursor.open_elements cursor.place bytes x ≡ inside cursor.open_elements cursor.place held.came held.aside
        → IsInside cursor.open_elements.position held bytes
    by None f g = absurd (cc g)
    by (Some aside) f g =
        let same : aside ≡ held.aside = cc g in
        let came : length bytes ≡ held.came = cc g in
        record { aside = f ∙ ap Some same; came = came }

pub inside-kept : (cursor : Cursor) (held : Inside) (rest bytes : List ℕ) → IsInside cursor.open_elements.position held bytes
    → IsKeptOf (Some held) cursor rest bytes
inside-kept cursor held rest bytes is =
    ap (kept_by cursor.open_elements cursor.place bytes) is.aside ∙ ap (λ n. inside cursor.open_elements cursor.place n held.aside) is.came

pub rest-kept : (cursor : Cursor) (rest : List ℕ) → open_aside cursor.open_elements.position rest ≡ None → IsKeptOf None cursor rest rest
rest-kept cursor rest other = ap (kept_by cursor.open_elements cursor.place rest) other

-- Before a fault none is kept.
pub going-none : (held : Option Inside) (cursor : Cursor) (rest : List ℕ) → fault_of_kept (kept_going held cursor rest) ≡ None
going-none None cursor rest = refl
going-none (Some held) cursor rest = refl

pub sound-kept : (limits : Limits) (fault : Option XmlFault) (held : Option Inside) (cursor : Cursor) (rest : List ℕ) → IsSound limits fault held cursor rest →
    length rest ≡ bytes_kept (kept_with fault held cursor rest)
sound-kept limits None None cursor rest sound = refl
sound-kept limits None (Some held) cursor rest sound = ap length sound.none
sound-kept limits (Some fault) held cursor rest sound = ap length sound

-- What is kept of the bytes that are left.
abbrev pub kept_part : Option Inside → List ℕ → List ℕ
kept_part None left = left
kept_part (Some held) left = []

pub kept-short : (held : Option Inside) (n : ℕ) → kept_len held n ≤ n
kept-short None n = omega arith
kept-short (Some held) n = omega arith

pub kept-front : (held : Option Inside) (left : List ℕ) → take (kept_len held (length left)) left ≡ kept_part held left
kept-front None left = take_all (length left) left (omega arith)
kept-front (Some held) left = refl

module _ (e : Bool) (limits : Limits) (old new : Cursor) (before after : List Event → Type 0) where
  pub kept-back : (held : Option Inside) (bytes left : List ℕ) → Reaches e limits old new bytes left before after →
      drop (length bytes - kept_len held (length left)) bytes ≡ kept_part held left
  kept-back None bytes left a = reaches-back e limits old new bytes left before after a
  kept-back (Some held) bytes left a = let all : length bytes - 0 ≡ length bytes = omega arith in ap (λ n. drop n bytes) all ∙
      drop_all (length bytes) bytes (omega arith)

  going-reached : (held : Option Inside) (bytes left : List ℕ) → Reaches e limits old new bytes left before after
      → InsideOf new.open_elements.position held left →
      IsGoing limits held new (kept_part held left)
  going-reached None bytes left a is = record { at = a.at; searched = a.searched; other = is }
  going-reached (Some held) bytes left a is = record { none = refl; within = within left is a.room; bytes = left; inside = is }
    where
      within : (left : List ℕ) → IsInside new.open_elements.position held left →
          ((b : ℕ) (more : List ℕ) → left ≡ b ∷ more → new.place + sure_length b more ≤ limits.bytes) → new.place + held.came ≤ limits.bytes
      within left is room =
          let o = open-first new.open_elements.position left [] held.aside is.aside in
          let all : left ≡ 0x3C ∷ o.0 = sym (append-nil left) ∙ o.1 in
          let sure : new.place + (1 + length o.0) ≤ limits.bytes = room 0x3C o.0 all in
          omega (arith, ap length all, is.came)

  kept-reached : (held : Option Inside) (left : List ℕ) → InsideOf new.open_elements.position held left → IsKeptOf held new (kept_part held left) left
  kept-reached None left is = rest-kept new left is
  kept-reached (Some held) left is = inside-kept new held [] left is

  pub reaches-leaves : (held : Option Inside) (bytes left rest : List ℕ) → Reaches e limits old new bytes left before after →
      InsideOf new.open_elements.position held left → rest ≡ kept_part held left
      → Leaves e limits old new bytes held rest before after
  reaches-leaves held bytes left rest a is same =
      let P : List ℕ → Type 0 = λ r. Leaves e limits old new bytes held r before after in
      subst P (sym same) (record {
        events = a.events;
        left = left;
        is = a.is;
        told = a.told;
        kept = kept-reached held left is;
        going =
            going-reached held bytes left a is;
      })

  pub stays-leaves : (held : Inside) (bytes rest : List ℕ) → StaysInside e limits old new held bytes before after → rest ≡ [] →
      Leaves e limits old new bytes (Some held) rest before after
  stays-leaves held bytes rest s none = record {
    events = [];
    left = bytes;
    is = s.is ∙ (λ i. record { events = []; stands = reading.waits (sym s.same i).open_elements (sym s.same i).place bytes });
    told = s.told;
    kept = inside-kept new held rest bytes (subst (λ (c : Cursor). IsInside c.open_elements.position held bytes) (sym s.same) s.inside);
    going = record {
      none = none;
      within = subst (λ (c : Cursor). c.place + held.came ≤ limits.bytes) (sym s.same) s.within;
      bytes = bytes;
      inside = subst (λ (c : Cursor). IsInside c.open_elements.position held bytes) (sym s.same) s.inside;
    };
  }

pub leaves-behind : (e : Bool) (limits : Limits) (old mid new : Cursor) (bytes behind : List ℕ) (held : Option Inside) (rest : List ℕ)
    (before between after : List Event → Type 0)
    → GoesOn e limits old mid bytes behind before between → Leaves e limits mid new behind held rest between after →
    Leaves e limits old new bytes held rest before after
leaves-behind e limits old mid new bytes behind held rest before between after a b = record {
  events = a.events ++ b.events;
  left = b.left;
  is = a.is ∙ ap (reading.telling a.events) b.is;
  told = takes-both a.events b.events before between after a.told b.told;
  kept = b.kept;
  going = b.going;
}

-- The same bytes by another name.
pub leaves-as : (e : Bool) (limits : Limits) (old new : Cursor) (bytes others : List ℕ) (held : Option Inside) (rest : List ℕ)
    (before after : List Event → Type 0)
    → others ≡ bytes → Leaves e limits old new bytes held rest before after → Leaves e limits old new others held rest before after
leaves-as e limits old new bytes others held rest before after same l = let P : List ℕ → Type 0 = λ x. Leaves e limits old new x held rest before after in
    subst P (sym same) l

-- What is known by another name: an option as the variant that it is.
module _ (limits : Limits) (cursor : Cursor) (rest : List ℕ) (some : Option Inside) where
  pub going-some : (held : Inside) → some ≡ Some held → IsGoing limits some cursor rest → StandsInside limits held cursor rest
  going-some held is going = let P : Option Inside → Type 0 = λ o. IsGoing limits o cursor rest in subst P is going

  pub going-rest : some ≡ None → IsGoing limits some cursor rest → IsWaiting limits cursor rest
  going-rest is going = let P : Option Inside → Type 0 = λ o. IsGoing limits o cursor rest in subst P is going

  pub kept-some : (held : Inside) (bytes : List ℕ) → some ≡ Some held → IsKeptOf some cursor rest bytes → IsInside cursor.open_elements.position held bytes
  kept-some held bytes is kept = let P : Option Inside → Type 0 = λ o. IsKeptOf o cursor rest bytes in kept-inside cursor held rest bytes (subst P is kept)

  pub kept-none : (bytes : List ℕ) → some ≡ None → IsKeptOf some cursor rest bytes → bytes ≡ rest
  kept-none bytes is kept = let P : Option Inside → Type 0 = λ o. IsKeptOf o cursor rest bytes in kept-rest cursor rest bytes (subst P is kept)

pub at-more : (limits : Limits) (cursor : Cursor) (rest piece : List ℕ) → IsWaiting limits cursor rest → IsAt limits cursor (rest ++ piece)
at-more limits cursor rest piece waiting = record { within = waiting.at.within; fits = fits-goes-on cursor.search rest piece waiting.at.fits }

pub at-as : (limits : Limits) (cursor : Cursor) (bytes others : List ℕ) → others ≡ bytes → IsAt limits cursor bytes → IsAt limits cursor others
at-as limits cursor bytes others same at = let P : List ℕ → Type 0 = λ x. IsAt limits cursor x in subst P (sym same) at

-- What a call to feed does to all bytes.
abbrev pub Fed : {T : Type 0} → Result T XmlFault → Bool → Limits → Cursor → Cursor → List ℕ → Option Inside → List ℕ → (List Event → Type 0) →
    (List Event → Type 0) → Type 0
Fed result e limits old new bytes held rest before after = MatchResult result (λ _. Leaves e limits old new bytes held rest before after)
    (λ fault. Breaks e limits old bytes before after fault)

pub fed-as : {T : Type 0} (result : Result T XmlFault) (e : Bool) (limits : Limits) (old new : Cursor) (bytes others : List ℕ) (held : Option Inside)
    (rest : List ℕ) (before after : List Event → Type 0)
    → others ≡ bytes → Fed result e limits old new bytes held rest before after → Fed result e limits old new others held rest before after
fed-as result e limits old new bytes others held rest before after same fed = let P : List ℕ → Type 0 =
    λ x. Fed result e limits old new x held rest before after in subst P (sym same) fed

pub fed-behind : {T : Type 0} (result : Result T XmlFault) (e : Bool) (limits : Limits) (old mid new : Cursor) (bytes behind : List ℕ) (held : Option Inside)
    (rest : List ℕ) (before between after : List Event → Type 0)
    → GoesOn e limits old mid bytes behind before between → Fed result e limits mid new behind held rest between after →
    Fed result e limits old new bytes held rest before after
fed-behind (Ok done) e limits old mid new bytes behind held rest before between after a b =
    leaves-behind e limits old mid new bytes behind held rest before between after a b
fed-behind (Err fault) e limits old mid new bytes behind held rest before between after a b =
    goes-wrong e limits old mid bytes behind before between after fault a b

pub nothing-before : (rest piece : List ℕ) → rest ≡ [] → piece ≡ rest ++ piece
nothing-before rest piece none = sym (ap (λ r. r ++ piece) none)

-- What is kept by the code.
pub front-kept : (held : Option Inside) (left old front new : List ℕ) (n : ℕ) → old ≡ [] → n ≡ kept_len held (length left) → front ≡ take n left → new ≡ old ++
    front → new ≡ kept_part held left
front-kept held left old front new n none long is kept =
    kept ∙ (ap (λ x. x ++ front) none ∙ (is ∙ (ap (λ k. take k left) long ∙ kept-front held left)))

pub back-kept : (e : Bool) (limits : Limits) (old new : Cursor) (before after : List Event → Type 0) (held : Option Inside) (bytes left kept : List ℕ) (n : ℕ) →
    Reaches e limits old new bytes left before after
    → n ≡ kept_len held (length left) → kept ≡ drop (length bytes - n) bytes → kept ≡ kept_part held left
back-kept e limits old new before after held bytes left kept n a long is = is ∙
    (ap (λ k. drop (length bytes - k) bytes) long ∙ kept-back e limits old new before after held bytes left a)

-- A `Vec` that was extended.
pub extended : {T E : Type 0} (r : Result T E) (old other new : List ℕ) → is_err r ≡ false → new ≡ (if is_ok r then old ++ other else old) → new ≡ old ++ other
extended (Ok x) old other new e is = is
extended (Err x) old other new e is = absurd (true≢false e)
